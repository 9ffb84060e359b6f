use Rattle.c2po_compile.proofs.MovedImages.{moved_called, moved_reports}
use Rattle.c2po_compile.proofs.laws.moved_images_tell_their_texts.Goals as goal

pub returns-clause-reports : goal.returns-clause-reports
returns-clause-reports c = moved_reports

pub returns-clause-names : goal.returns-clause-names
returns-clause-names c = moved_called
