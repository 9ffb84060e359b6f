use Rattle.std.specs.Prelude.{◌≡◌, ℕ, ◌<◌, ◌≤◌, true, false, List, [], ◌∷◌, ◌++◌, length, Option, Some, None, is_some}
use Rattle.c2po_lexer.specs.declared.token.Sign.TheVariants as sign
use Rattle.c2po_lexer.specs.declared.token.Token.{Token}
use Rattle.c2po_ast.specs.ItemShape.{BodyShape, ItemShape}
use Rattle.c2po_parse.specs.declared.fault.ParseFault.{ParseFault}
use Rattle.c2po_parse.specs.declared.fault.ParseFault.TheVariants.{TooManyTokens, Grammar}
use Rattle.c2po_parse.specs.declared.section.Section.{Section}
use Rattle.c2po_parse.specs.Sections.{section_of, braces_after, line_or, Statement}
use Rattle.c2po_parse.specs.Grammar.{IsSign, SpellsItem}

-- The sections and items of a specification, and its first fault.

-- the number of open braces after tokens, from the number before them
unfoldable pub braces_open : ℕ → List Token → ℕ
braces_open d [] = d
braces_open d (t ∷ ts) = braces_open (braces_after t.what d) ts

-- the token is a `;` outside the braces of the tokens before it
pub record EndsItem (ts : List Token) (t : Token) : Type 0 where
  pub is_semicolon : IsSign sign.Semicolon t
  pub outside : braces_open 0 ts ≡ 0

-- The tokens lie within one item: none begins a section, and in a section none ends the item. Before the first section no
-- token ends an item.
abbrev pub IsWithinItem : Option Section → List Token → Type 0
IsWithinItem section ts = (before : List Token) (t : Token) (after : List Token) → ts ≡ before ++ t ∷ after →
    (section_of t.what ≡ None) × (is_some section ≡ true → ¬ EndsItem before t)

-- The tokens, at most 1,024, and the `;` that ends them are this item of the section: they spell its body, and its line is
-- the line of the first token, or of the `;` if there is no token.
pub record IsItem (section : Section) (ts : List Token) (end : Token) (item : ItemShape) : Type 0 where
  pub within : IsWithinItem (Some section) ts
  pub ends : EndsItem ts end
  pub few : length ts ≤ 1024
  pub says : SpellsItem section ts item.body
  pub line : item.line ≡ line_or end.line ts

-- the tokens are these items of the section, each with its `;`
pub data AreItems : Section → List Token → List ItemShape → Type 0 where
  no_items : (section : Section) → AreItems section [] []
  and_item : (section : Section) (ts us : List Token) (end : Token) (items : List ItemShape) (item : ItemShape) →
      AreItems section ts items → IsItem section us end item →
      AreItems section (ts ++ (us ++ end ∷ [])) (items ++ item ∷ [])

-- The tokens are sections with these items. Each section is the word that begins it and its items. The last section, if any,
-- is given too.
pub data AreSections : List Token → Option Section → List ItemShape → Type 0 where
  no_sections : AreSections [] None []
  and_section : (ts : List Token) (word : Token) (us : List Token) (before : Option Section) (section : Section)
      (items more : List ItemShape) →
      AreSections ts before items → section_of word.what ≡ Some section → AreItems section us more →
      AreSections (ts ++ word ∷ us) (Some section) (items ++ more)

-- the tokens are a specification with these items: any number of sections
pub record IsSpecification (ts : List Token) (items : List ItemShape) : Type 0 where
  pub last : Option Section
  pub sections : AreSections ts last items

-- the tokens are empty, or begin with the word of a section
pub data EndsSection : List Token → Type 0 where
  at_end_of_text : EndsSection []
  at_section : (word : Token) (ts : List Token) (next : Section) → section_of word.what ≡ Some next →
      EndsSection (word ∷ ts)

-- The tokens begin with this next item of the section, or with this piece before the first section, whether or not it has a
-- form: it ends at a `;`, or without a `;` at the end of the section.
pub data NextItem : Option Section → List Token → Statement → Type 0 where
  at_semicolon : (section : Section) (ts : List Token) (end : Token) (rest : List Token) →
      IsWithinItem (Some section) ts → EndsItem ts end →
      NextItem (Some section) (ts ++ end ∷ rest)
      (record { section = Some section; line = line_or end.line ts; tokens = ts; ended = true })
  unended : (section : Option Section) (t : Token) (ts rest : List Token) →
      IsWithinItem section (t ∷ ts) → EndsSection rest →
      NextItem section (t ∷ ts ++ rest) (record { section = section; line = t.line; tokens = t ∷ ts; ended = false })

-- the item has a section, its `;`, and a form that spells the body
pub record HasForm (p : Statement) (body : BodyShape) : Type 0 where
  pub section : Section
  pub is_in : p.section ≡ Some section
  pub is_ended : p.ended ≡ true
  pub says : SpellsItem section p.tokens body

-- the item has the fault: too many tokens, else no form
pub data HasFault : Statement → ParseFault → Type 0 where
  too_many : (p : Statement) → 1024 < length p.tokens → HasFault p (TooManyTokens p.line)
  no_form : (p : Statement) → length p.tokens ≤ 1024 → ((body : BodyShape) → ¬ HasForm p body) →
      HasFault p (Grammar p.line)

-- the first fault of the tokens is this one: sections without a fault come first, and the next item has the fault
pub record HasFirstFault (ts : List Token) (fault : ParseFault) : Type 0 where
  pub before : List Token
  pub last : Option Section
  pub items : List ItemShape
  pub sections : AreSections before last items
  pub rest : List Token
  pub all : ts ≡ before ++ rest
  pub piece : Statement
  pub next : NextItem last rest piece
  pub has_fault : HasFault piece fault
