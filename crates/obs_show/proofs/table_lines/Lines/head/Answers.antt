use Rattle.std.proofs.Common.{◌≡◌, ◌≢◌, ◌++◌, ◌∙◌, ap, Result, Ok, Err, OnOk, List, ℕ}
use Rattle.std.specs.Result.{is_ok}
use Rattle.csv.specs.declared.writer.QuoteStyle.TheVariants as style
use Rattle.csv.specs.declared.writer.WriterBuilder.{WriterBuilder}
use Rattle.csv.specs.Writing.{default_writer, row_text}
use Rattle.obs_show.specs.Table.{columns}
use Rattle.obs_show.proofs.table_lines.Lines.head.Goals as goal

-- four facts of a success give a fifth, which the answer with another error keeps
handed-on : {T E D P Q R S G : Type 0} (r : Result T E) (s : Result T D) → is_ok s ≡ is_ok r → (P → Q → R → S → G) → OnOk r P → OnOk r Q → OnOk r R → OnOk r S → OnOk s G
handed-on (Ok x) (Ok y) same f p q r s = f p q r s
handed-on (Ok x) (Err e) same f p q r s = tt
handed-on (Err d) (Ok y) same f p q r s = absurd cc
handed-on (Err d) (Err e) same f p q r s = tt

-- csv's default form quotes only where it must
quotes-few : (cfg : WriterBuilder) → cfg ≡ default_writer → cfg.style ≢ style.NonNumeric
quotes-few cfg default quoted = absurd cc

pub returns : goal.returns
returns c = λ text has.
    handed-on c.write_fields.result c.map_err.result c.map_err.ensures.variant (λ bytes ended clean setup.
    record {
      setup = setup ∙ has.setup;
      fields = ended;
      blank = clean;
      written = bytes has.fields has.blank (quotes-few c.args.self.now.writer.cfg has.setup) ∙ ap (λ (t : List ℕ). t ++ row_text c.args.self.now.writer.cfg columns) has.written ∙ ap (λ (cfg : WriterBuilder). text ++ row_text cfg columns) has.setup;
    })
    c.write_fields.ensures.bytes c.write_fields.ensures.ended c.write_fields.ensures.clean c.write_fields.ensures.setup
