use Rattle.std.proofs.Common.{◌≡◌, ◌≤◌, ◌∷◌, ℕ, map, length, List, [], ◌++◌, decimal, slice_get, slice_index_or, Some, ap, sym, arith, ◌∙◌, append_assoc}
use Rattle.std.specs.Prelude.{codes}
use Rattle.std.proofs.lemmas.Fmt.{length-decimal-le}
use Rattle.std.proofs.lemmas.List.{get_or-map}
use Rattle.std.proofs.lemmas.Option.{get_or_from_slice_get, slice_get_within}
use Rattle.mltl_base.specs.declared.program.Out.{Out}
use Rattle.mltl_base.specs.declared.program.Program.{Program}
use Rattle.mltl_base.specs.declared.report.Report.{Report}
use Rattle.mltl_base.specs.Lines.{line_with, word_text}
use Rattle.mltl_base.specs.Programs.{out_name}
use Rattle.contract_status.proofs.line.write_line.Goals as goal

-- the pieces of a line, put before one another
pieces : (name : List ℕ) (report : Report) (a b c d e : List ℕ) → a ≡ word_text report.word ++ codes "\n" → b ≡ 44 ∷ a → c ≡ decimal report.time ++ b → d ≡ 58 ∷ c → e ≡ name ++ d → e ≡ line_with name report
pieces name report a b c d e p q r s t = rw (t, s, r, q, p) (simp append_assoc)

-- the name of an output among all
name_among : (outs : List Out) (k : ℕ) (out : Out) → slice_get outs k ≡ Some out → slice_index_or (map out_name outs) k [] ≡ out_name out
name_among outs k out there = get_or-map out_name outs k out [] (slice_get_within outs k out there) ∙ ap out_name (get_or_from_slice_get outs k out out there)

pub write_digits-time-requires : goal.write_digits-time-requires
write_digits-time-requires c =
    let early : length (decimal c.args.report.now.time) ≤ 13 = length-decimal-le 13 c.args.report.now.time (omega arith) (omega arith) (omega arith) in
    (omega (arith, early, c.write_byte-comma.ensures.start, c.write_word-word.ensures.short), omega (arith, c.write_byte-comma.ensures.start, c.write_word-word.ensures.within))

pub write_byte-colon-requires-clause-some : goal.write_byte-colon-requires-clause-some
write_byte-colon-requires-clause-some c =
    let early : length (decimal c.args.report.now.time) ≤ 13 = length-decimal-le 13 c.args.report.now.time (omega arith) (omega arith) (omega arith) in
    omega (arith, early, c.write_digits-time.ensures.start, c.write_byte-comma.ensures.start, c.write_word-word.ensures.short)

pub write_bytes-requires-clause-fits : goal.write_bytes-requires-clause-fits
write_bytes-requires-clause-fits c =
    let early : length (decimal c.args.report.now.time) ≤ 13 = length-decimal-le 13 c.args.report.now.time (omega arith) (omega arith) (omega arith) in
    omega (arith, early, ap length c.bytes.ensures.bytes, c.bytes.ensures.limit, c.write_byte-colon.ensures.start, c.write_digits-time.ensures.start, c.write_byte-comma.ensures.start, c.write_word-word.ensures.short)

pub returns-clause-line : goal.returns-clause-line
returns-clause-line c =
    let report = c.args.report.now in
    let out = c.get-out.result.now in
    let outs = c.args.checked.now.outs in
    let there : slice_get outs report.out ≡ Some out = ap (λ (program : Program). slice_get program.outs report.out) (sym c.program.ensures.program) ∙ c.get-out.ensures in
    let name : c.bytes.result.now ≡ out_name out = c.bytes.ensures.bytes ∙ c.name.ensures.name in
    pieces c.bytes.result.now report _ _ _ _ _ c.write_word-word.ensures.written c.write_byte-comma.ensures.written c.write_digits-time.ensures.written c.write_byte-colon.ensures.written c.write_bytes.ensures.written
    ∙ ap (λ bytes. line_with bytes report) (name ∙ sym (name_among outs report.out out there))

pub returns-clause-short : goal.returns-clause-short
returns-clause-short c =
    let early : length (decimal c.args.report.now.time) ≤ 13 = length-decimal-le 13 c.args.report.now.time (omega arith) (omega arith) (omega arith) in
    omega (arith, early, ap length c.bytes.ensures.bytes, c.bytes.ensures.limit, c.write_bytes.ensures.start, c.write_byte-colon.ensures.start, c.write_digits-time.ensures.start, c.write_byte-comma.ensures.start, c.write_word-word.ensures.short)
