use Rattle.std.specs.Option.{option_copied}
use Rattle.r2u2_cli.proofs.OpenLaws.{file_programs, file_refusals}
use Rattle.r2u2_cli.proofs.program_file.program_for.Goals as goal

pub returns-in-Program-clause-program : goal.returns-in-Program-clause-program
returns-in-Program-clause-program c = file_programs c.bound_under_header.result (option_copied c.args.header) c.in-Program.checked c.args.opened c.in-Program.is c.bound_under_header.ensures.program

pub returns-in-Program-clause-refused : goal.returns-in-Program-clause-refused
returns-in-Program-clause-refused c = file_refusals c.bound_under_header.result (option_copied c.args.header) c.in-Program.checked c.args.opened c.in-Program.is c.bound_under_header.ensures.refused
