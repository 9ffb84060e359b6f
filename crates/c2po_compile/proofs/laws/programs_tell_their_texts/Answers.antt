use Rattle.c2po_compile.proofs.TellingLaws.{image_under_header, text_reports, text_delays, text_names}
use Rattle.c2po_compile.proofs.laws.programs_tell_their_texts.Goals as goal

pub returns-clause-image : goal.returns-clause-image
returns-clause-image c = image_under_header

pub returns-clause-reports : goal.returns-clause-reports
returns-clause-reports c = text_reports

pub returns-clause-delays : goal.returns-clause-delays
returns-clause-delays c = text_delays

pub returns-clause-names : goal.returns-clause-names
returns-clause-names c = text_names
