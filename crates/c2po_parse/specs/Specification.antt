use Rattle.std.specs.Prelude.{ℕ, Bool, true, false, List, [], ◌∷◌, ◌++◌, length, Option, Some, None, Result, Ok, Err}
use Rattle.std.specs.Prelude.{nat_lt, if◌then◌else◌}
use Rattle.c2po_lexer.specs.declared.token.Token.{Token}
use Rattle.c2po_ast.specs.ItemShape.{BodyShape, ItemShape}
use Rattle.c2po_parse.specs.declared.fault.ParseFault.{ParseFault}
use Rattle.c2po_parse.specs.declared.fault.ParseFault.TheVariants.{TooManyTokens, Grammar}
use Rattle.c2po_parse.specs.declared.section.Section.{Section}
use Rattle.c2po_parse.specs.Sections.{Statement, pieces}
use Rattle.c2po_parse.specs.Forms.{body_of}

-- The trees of a specification's items, or the fault of the first faulty item.

-- the body of a piece, if a `;` ends it within a section
abbrev pub piece_body : Option Section → Bool → List Token → Option BodyShape
piece_body None ended ts = None
piece_body (Some section) true ts = body_of section ts
piece_body (Some section) false ts = None

-- the item with its line, or a fault of grammar on this line
abbrev pub with_line : ℕ → Option BodyShape → Result ItemShape ParseFault
with_line line None = Err (Grammar line)
with_line line (Some body) = Ok (record { line = line; body = body })

-- the tree of a piece, or its fault: too many tokens, else no tree
abbrev pub piece_tree : Statement → Result ItemShape ParseFault
piece_tree p = if nat_lt 1024 (length p.tokens) then Err (TooManyTokens p.line)
    else with_line p.line (piece_body p.section p.ended p.tokens)

-- an item and the items after it, or their fault
abbrev pub with_first : ItemShape → Result (List ItemShape) ParseFault → Result (List ItemShape) ParseFault
with_first item (Err fault) = Err fault
with_first item (Ok items) = Ok (item ∷ items)

-- an item and the items after it, or the first fault
abbrev pub first_or : Result ItemShape ParseFault → Result (List ItemShape) ParseFault
    → Result (List ItemShape) ParseFault
first_or (Err fault) others = Err fault
first_or (Ok item) others = with_first item others

-- the trees of pieces, or the first fault
unfoldable pub piece_trees : List Statement → Result (List ItemShape) ParseFault
piece_trees [] = Ok []
piece_trees (p ∷ ps) = first_or (piece_tree p) (piece_trees ps)

-- the trees of the items of a token list
unfoldable pub spec_of : List Token → Result (List ItemShape) ParseFault
spec_of ts = piece_trees (pieces None 0 [] ts)

-- the items that were read and the items after them, or their fault
abbrev pub all_with : List ItemShape → Result (List ItemShape) ParseFault → Result (List ItemShape) ParseFault
all_with items (Err fault) = Err fault
all_with items (Ok others) = Ok (items ++ others)

-- the items that were read and the items of the tokens that are left, within a section
unfoldable pub reads_on : List ItemShape → Option Section → List Token → Result (List ItemShape) ParseFault
reads_on items section ts = all_with items (piece_trees (pieces section 0 [] ts))
