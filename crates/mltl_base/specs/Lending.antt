-- The content of a list of fixed length after a borrow of it.

use Rattle.std.specs.Prelude.{List, ◌++◌, length, take, drop}
use Rattle.std.specs.Borrow.{Lends, Fml, RattleType, MutBor, Array}
use Rattle.mltl_base.specs.contracts.fixed.Fixed.{the_row}

-- the list with these members in place of its own: its length stays, so further members are cut off, and if there are too
-- few, its own last members stay
abbrev pub with_members : {X : Type 0} → List X → List X → List X
with_members list members = take (length list) (members ++ drop (length members) list)

-- once the borrow r ends, the list has the members that were written through r
abbrev pub lends_all : (T : RattleType) → MutBor (List T.Denot) → MutBor (List T.Denot) → Fml
lends_all T list r = Lends (the_row T) (Array T 0) list r (with_members list.now)
