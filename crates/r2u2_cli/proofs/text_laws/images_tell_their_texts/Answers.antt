use Rattle.r2u2_cli.proofs.ImageFiles.{first_told, image_told, simple_told}
use Rattle.r2u2_cli.proofs.text_laws.images_tell_their_texts.Goals as goal

pub returns-clause-image : goal.returns-clause-image
returns-clause-image c = λ style text file own header program rows is runs. image_told style text own rows file header program runs is

pub returns-clause-first_image : goal.returns-clause-first_image
returns-clause-first_image c = λ style text file own header program rows is runs. first_told style text own rows file header program runs is

pub returns-clause-simple_image : goal.returns-clause-simple_image
returns-clause-simple_image c = λ style text file own header program rows is runs. simple_told style text own rows file header program runs is
