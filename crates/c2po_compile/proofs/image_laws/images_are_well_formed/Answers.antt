use Rattle.c2po_compile.proofs.Building.{image_layout}
use Rattle.c2po_compile.proofs.image_laws.images_are_well_formed.Goals as goal

pub returns-clause-layout : goal.returns-clause-layout
returns-clause-layout c = image_layout
