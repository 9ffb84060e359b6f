-- Images of specifications.

use Rattle.std.proofs.Common.{◌≡◌, List, refl}
use Rattle.mltl_base.specs.declared.program.Columns.{Columns}
use Rattle.mltl_base.specs.declared.program.Program.{Program}
use Rattle.mltl_base.specs.Subformulas.{Asked}
use Rattle.mltl_base.specs.declared.signal.Signal.{Signal}
use Rattle.c2po_compile.specs.Images.{IsImageOf}
use Rattle.c2po_compile.proofs.Building.{image_once}
use Rattle.c2po_compile.specs.Image.{image}

-- the image is one
pub image_of : (columns : Columns) (signals : List Signal) (outs : List Asked) → IsImageOf signals columns outs (image columns signals outs)
unfolding image
image_of columns signals outs = record {
  version = refl;
  width = refl;
  lists = record { bz = refl; ft = refl; pt = refl; reports = refl };
  queues = refl;
  boxes = refl;
  inputs = refl;
}

-- and what is built is the image
pub image_is : (columns : Columns) (signals : List Signal) (outs : List Asked) (p : Program) → IsImageOf signals columns outs p → p ≡ image columns signals outs
image_is columns signals outs p h = image_once signals columns outs p (image columns signals outs) h (image_of columns signals outs)
