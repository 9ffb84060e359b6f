use Rattle.std.proofs.Common.{ap}
use Rattle.tool_io.specs.MemHost.{Held}
use Rattle.tool_io.proofs.mem_host.MemHost.put_file.Goals as goal

pub put-requires : goal.put-requires
put-requires c = λ place. rw (ap (λ (host : Held). host.store.readings) c.self.view_is) (c.requires place)
