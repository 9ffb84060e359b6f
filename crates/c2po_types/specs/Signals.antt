-- The signals of a specification.

use Rattle.std.specs.Prelude.{Bool, false, List, [], codes, map}
use Rattle.std.specs.List.{flat_map}
use Rattle.std.specs.Str.{bytes_eq}
use Rattle.c2po_ast.specs.ItemShape.{TypeShape, BodyShape, ItemShape, type_named, set_of, input}
use Rattle.mltl_base.specs.declared.signal.Signal.{Signal}

-- the type is `bool`
abbrev pub is_bool : TypeShape → Bool
is_bool (type_named x) = bytes_eq x (codes "bool")
is_bool (set_of t) = false

-- the signals that an item declares, in order; only INPUT items declare signals
abbrev pub body_signals : BodyShape → List Signal
body_signals (input xs t) = map (λ x. record { name = x; truth = is_bool t }) xs
body_signals _ = []

-- the signals of all INPUT items in order
abbrev pub signals_of : List ItemShape → List Signal
signals_of items = flat_map (λ item. body_signals item.body) items
