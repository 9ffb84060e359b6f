-- The readings of a program, as one list.
use Rattle.std.proofs.Common.{◌≡◌, ℕ, List, [], length, get_or, replicate, arith, sym, ◌∙◌, ap}
use Rattle.std.proofs.lemmas.List.{ext_get_or, get_or-replicate, length-replicate}
use Rattle.std.proofs.lemmas.List.FromFn.{get_or-map-range_with_len, length-map-range_with_len}
use Rattle.mltl_base.specs.declared.program.Program.{Program}
use Rattle.trace_feed.specs.Readings.{AreReadings, readings_of}
use Rattle.trace_feed.specs.Rows.{reading_of}
use Rattle.trace_feed.specs.declared.fields.Reading.{Reading}
use Rattle.trace_feed.specs.declared.fields.Reading.TheVariants.{Unread}

pub length-readings_of : (program : Program) → length (readings_of program) ≡ program.width
length-readings_of program = length-map-range_with_len (reading_of program.bz) 0 program.width

-- each member of the list
pub are_readings_of : (program : Program) → AreReadings (reading_of program.bz) (readings_of program)
are_readings_of program = λ k d inside. get_or-map-range_with_len (reading_of program.bz) 0 program.width k k d (omega (arith, inside, length-readings_of program)) (omega arith)

-- a list of such members, as many as there are columns, is the list
pub readings_are : (program : Program) (readings : List Reading) → length readings ≡ program.width → AreReadings (reading_of program.bz) readings → readings ≡ readings_of program
readings_are program readings many known =
    ext_get_or Unread readings (readings_of program) (many ∙ sym (length-readings_of program)) (λ k inside.
    known k Unread inside ∙ sym (are_readings_of program k Unread (omega (arith, inside, many, length-readings_of program))))

-- where no instruction was noted, no column is read
pub none_read : (readings : List Reading) (n : ℕ) → readings ≡ replicate n Unread → AreReadings (reading_of []) readings
none_read readings n is = λ k d inside. ap (λ (items : List Reading). get_or items k d) is ∙ get_or-replicate n k Unread d (omega (arith, inside, ap (λ (items : List Reading). length items) is, length-replicate n Unread))
