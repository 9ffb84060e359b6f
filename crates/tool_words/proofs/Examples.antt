-- Command lines, and what they ask for.

use Rattle.std.proofs.Common.{◌≡◌, ℕ, refl, true, false, [], ◌∷◌, codes}
use Rattle.std.specs.Prelude.{Some, None}
use Rattle.std.specs.Str.{is_utf8, chars}
use Rattle.clap.specs.Words.{Text}
use Rattle.clap.proofs.OnLiterals.{clap_on_literals}
use Rattle.mltl_base.specs.declared.report.Style.TheVariants.{Each, Runs}
use Rattle.tool_words.specs.declared.file_kind.FileKind.TheVariants.{Spec, Program}
use Rattle.tool_words.specs.R2u2Words as r2u2
use Rattle.tool_words.specs.C2poWords as c2po

-- a run of a program without options, but for its mission time
abbrev plain_run : ℕ → Text → r2u2.R2u2Request
plain_run mission file = r2u2.run (record { kind = Program; style = Each; timed = false; mission = mission; file = file; trace = codes "-" })

-- an image that is written to a file
abbrev plain_image : Text → Text → c2po.C2poRequest
plain_image out spec = c2po.compile (record { header = None; out = Some out; table = false; simplify = false; spec = spec })

help_alone : r2u2.ask (codes "-h" ∷ []) ≡ r2u2.help
unfolding clap_on_literals is_utf8 chars r2u2.command
help_alone = refl

mission_after_equals : r2u2.ask (codes "--mission-time=5" ∷ codes "a" ∷ []) ≡ plain_run 5 (codes "a")
unfolding clap_on_literals is_utf8 chars r2u2.command
mission_after_equals = refl

options_between : r2u2.ask (codes "a" ∷ codes "--mission-time" ∷ codes "007" ∷ codes "--source" ∷ codes "t" ∷ [])
    ≡ r2u2.run (record { kind = Spec; style = Each; timed = false; mission = 7; file = codes "a"; trace = codes "t" })
unfolding clap_on_literals is_utf8 chars r2u2.command
options_between = refl

stamped_runs : r2u2.ask (codes "--timed" ∷ codes "--runs" ∷ codes "a" ∷ [])
    ≡ r2u2.run (record { kind = Program; style = Runs; timed = true; mission = 16777216; file = codes "a"; trace = codes "-" })
unfolding clap_on_literals is_utf8 chars r2u2.command
stamped_runs = refl

flag_twice : r2u2.ask (codes "--runs" ∷ codes "--runs" ∷ codes "a" ∷ []) ≡ r2u2.nothing
unfolding clap_on_literals is_utf8 chars r2u2.command
flag_twice = refl

help_among_others : r2u2.ask (codes "a" ∷ codes "--help" ∷ []) ≡ r2u2.nothing
unfolding clap_on_literals is_utf8 chars r2u2.command
help_among_others = refl

file_like_help : r2u2.ask (codes "--" ∷ codes "-h" ∷ []) ≡ plain_run 1099511627776 (codes "-h")
unfolding clap_on_literals is_utf8 chars r2u2.command
file_like_help = refl

file_on_standard_input : r2u2.ask (codes "-" ∷ []) ≡ plain_run 1099511627776 (codes "-")
unfolding clap_on_literals is_utf8 chars r2u2.command
file_on_standard_input = refl

negative_mission : r2u2.ask (codes "--mission-time" ∷ codes "-5" ∷ codes "a" ∷ []) ≡ r2u2.nothing
unfolding clap_on_literals is_utf8 chars r2u2.command
negative_mission = refl

no_words : r2u2.ask [] ≡ r2u2.nothing
unfolding clap_on_literals is_utf8 chars r2u2.command
no_words = refl

seed_and_rows : r2u2.ask (codes "--demo" ∷ codes "07,100" ∷ []) ≡ r2u2.demo 7 100
unfolding clap_on_literals is_utf8 chars r2u2.command
seed_and_rows = refl

greatest_seed_and_rows : r2u2.ask (codes "--demo=4294967295,10000000" ∷ []) ≡ r2u2.demo 4294967295 10000000
unfolding clap_on_literals is_utf8 chars r2u2.command
greatest_seed_and_rows = refl

demo_beside_file : r2u2.ask (codes "--demo" ∷ codes "7,100" ∷ codes "a" ∷ []) ≡ r2u2.nothing
unfolding clap_on_literals is_utf8 chars r2u2.command
demo_beside_file = refl

help_before_file : c2po.ask (codes "-h" ∷ codes "a" ∷ []) ≡ c2po.nothing
unfolding clap_on_literals is_utf8 chars c2po.command
help_before_file = refl

out_in_one_word : c2po.ask (codes "-oa" ∷ codes "b" ∷ []) ≡ plain_image (codes "a") (codes "b")
unfolding clap_on_literals is_utf8 chars c2po.command
out_in_one_word = refl

out_after_equals : c2po.ask (codes "-o=a" ∷ codes "b" ∷ []) ≡ plain_image (codes "a") (codes "b")
unfolding clap_on_literals is_utf8 chars c2po.command
out_after_equals = refl

out_by_default : c2po.ask (codes "b" ∷ []) ≡ plain_image (codes "spec.bin") (codes "b")
unfolding clap_on_literals is_utf8 chars c2po.command
out_by_default = refl

table_on_standard_output : c2po.ask (codes "b" ∷ codes "--table" ∷ codes "--header" ∷ codes "h" ∷ [])
    ≡ c2po.compile (record { header = Some (codes "h"); out = None; table = true; simplify = false; spec = codes "b" })
unfolding clap_on_literals is_utf8 chars c2po.command
table_on_standard_output = refl

upgrade_by_default : c2po.ask (codes "--upgrade" ∷ codes "b" ∷ []) ≡ c2po.upgrade (codes "spec.bin") (codes "b")
unfolding clap_on_literals is_utf8 chars c2po.command
upgrade_by_default = refl

shown_in_file : c2po.ask (codes "--show" ∷ codes "--output" ∷ codes "a" ∷ codes "b" ∷ []) ≡ c2po.show (Some (codes "a")) (codes "b")
unfolding clap_on_literals is_utf8 chars c2po.command
shown_in_file = refl

shown_upgrade : c2po.ask (codes "--show" ∷ codes "--upgrade" ∷ codes "b" ∷ []) ≡ c2po.nothing
unfolding clap_on_literals is_utf8 chars c2po.command
shown_upgrade = refl

no_text : r2u2.ask (codes "a" ∷ (255 ∷ []) ∷ []) ≡ r2u2.nothing
unfolding clap_on_literals is_utf8 chars r2u2.command
no_text = refl

text_of_two_bytes : c2po.ask ((195 ∷ 164 ∷ []) ∷ []) ≡ plain_image (codes "spec.bin") (195 ∷ 164 ∷ [])
unfolding clap_on_literals is_utf8 chars c2po.command
text_of_two_bytes = refl
