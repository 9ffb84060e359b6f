-- Laws of the counts of faults and of what is left: calls one after another.
use Rattle.std.proofs.Common.{◌≡◌, ℕ, refl, sym, ◌∙◌, ap, subst, arith}
use Rattle.std.proofs.lemmas.Bool.Decides.{nat_tests}
use Rattle.tool_io.specs.declared.host.Place.{Place}
use Rattle.tool_io.specs.declared.host.Got as got
use Rattle.tool_io.specs.Counts.{one_more}
use Rattle.tool_io.specs.Host.{Rose, RoseByOne, RoseAt, NoFault, ReadCause}

one_more-rose : (count : ℕ) → Rose count (one_more count)
one_more-rose count = grind (arith, nat_tests)

-- a count that rose by one rose
pub Rose-by_one : (before now : ℕ) → RoseByOne before now → Rose before now
Rose-by_one before now one = subst (λ n. Rose before n) (sym one) (one_more-rose before)

-- no fault and again none
pub NoFault-then : (before between now : Place → ℕ) → NoFault before between → NoFault between now → NoFault before now
NoFault-then before between now first second place = second place ∙ first place

-- a fault after calls without one
pub RoseAt-after : (before between now : Place → ℕ) (place : Place) → NoFault before between → RoseAt between now place → RoseAt before now place
RoseAt-after before between now place first second =
    record {
      rose = second.rose ∙ ap one_more (first place);
      others = λ p other. second.others p other ∙ first p;
    }

-- a fault before calls without one
pub RoseAt-before : (before between now : Place → ℕ) (place : Place) → RoseAt before between place → NoFault between now → RoseAt before now place
RoseAt-before before between now place first second =
    record {
      rose = second place ∙ first.rose;
      others = λ p other. second p ∙ first.others p other;
    }

-- a read that didn't fail changes no count
pub NoFault-from_read : (result : got.Got) (before now : Place → ℕ) (place : Place) → (result ≡ got.TheVariants.Failed → ⊥) → ReadCause result before now place → NoFault before now
NoFault-from_read (got.TheVariants.Bytes n) before now place unfailed cause = cause
NoFault-from_read got.TheVariants.End before now place unfailed cause = cause
NoFault-from_read got.TheVariants.Failed before now place unfailed cause = absurd (unfailed refl)
