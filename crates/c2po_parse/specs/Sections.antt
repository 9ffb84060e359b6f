use Rattle.std.specs.Prelude.{ℕ, suc, pred, ◌+◌, Bool, true, false, ◌&&◌, List, [], ◌∷◌, ◌++◌, Option, Some, None}
use Rattle.std.specs.Prelude.{is_some, is_none, nat_eq}
use Rattle.mltl_base.specs.declared.interval.Engine.TheVariants.{Ft, Pt}
use Rattle.c2po_lexer.specs.declared.token.Sign.TheVariants as sign
use Rattle.c2po_lexer.specs.declared.token.Keyword.TheVariants as keyword
use Rattle.c2po_lexer.specs.declared.token.What.{What}
use Rattle.c2po_lexer.specs.declared.token.What.TheVariants as what
use Rattle.c2po_lexer.specs.declared.token.Token.{Token}
use Rattle.c2po_parse.specs.Tokens.{is_sign}
use Rattle.c2po_parse.specs.declared.section.Section.{Section}
use Rattle.c2po_parse.specs.declared.section.Section.TheVariants.{Struct, Input, Define, Output}

-- The items of a token list. Section words cut the list wherever they occur, and within a section each `;` outside braces
-- ends an item.

-- the section that a word begins
abbrev pub section_of : What → Option Section
section_of (what.Reserved keyword.Struct) = Some Struct
section_of (what.Reserved keyword.Input) = Some Input
section_of (what.Reserved keyword.Define) = Some Define
section_of (what.Reserved keyword.FtSpec) = Some (Output Ft)
section_of (what.Reserved keyword.PtSpec) = Some (Output Pt)
section_of _ = None

-- the number of open braces after a token; a `}` without its `{` leaves none open
abbrev pub braces_after : What → ℕ → ℕ
braces_after (what.Sign sign.LeftCurly) d = suc d
braces_after (what.Sign sign.RightCurly) d = pred d
braces_after _ d = d

-- A piece between the ends: its section, if any, its line, its tokens, and whether a `;` ends it.
pub record Statement : Type 0 where
  pub section : Option Section
  pub line : ℕ
  pub tokens : List Token
  pub ended : Bool

-- the line of the first token, or another line if there is no token
abbrev pub line_or : ℕ → List Token → ℕ
line_or line [] = line
line_or line (t ∷ ts) = t.line

-- the piece of an item that a `;` on a line ends
abbrev pub item_of : Option Section → ℕ → List Token → Statement
item_of section line tokens = record { section = section; line = line_or line tokens; tokens = tokens; ended = true }

-- the piece that no `;` ends, if it has tokens
abbrev pub unended_piece : Option Section → List Token → List Statement
unended_piece section [] = []
unended_piece section (t ∷ ts) = record { section = section; line = t.line; tokens = t ∷ ts; ended = false } ∷ []

-- the token, if it isn't a section's word, ends an item
abbrev pub is_end : Option Section → ℕ → What → Bool
is_end section depth w = is_some section && (nat_eq depth 0 && is_sign sign.Semicolon w)

-- the choice for a token: at a section's word, at the end of an item, or at another token
abbrev pub chosen : {A : Type 0} → Option Section → Bool → (Section → A) → A → A → A
chosen (Some section) ended begins ends goes_on = begins section
chosen None true begins ends goes_on = ends
chosen None false begins ends goes_on = goes_on

-- The pieces of a token list, after the tokens of the same piece in `before`, within a section or before the first one, with
-- `depth` open braces.
unfoldable pub pieces : Option Section → ℕ → List Token → List Token → List Statement
pieces section depth before [] = unended_piece section before
pieces section depth before (t ∷ ts) = chosen (section_of t.what) (is_end section depth t.what)
    (λ next. unended_piece section before ++ pieces (Some next) 0 [] ts)
    (item_of section t.line before ∷ pieces section 0 [] ts)
    (pieces section (braces_after t.what depth) (before ++ t ∷ []) ts)

-- the number of open braces after a token, if the token doesn't end the piece
abbrev pub depth_within : Option Section → ℕ → What → Option ℕ
depth_within section depth w =
    chosen (section_of w) (is_end section depth w) (λ next. None) None (Some (braces_after w depth))

-- the length of a piece: one more token if the piece continues, else 0
abbrev pub token_more : Option ℕ → (ℕ → ℕ) → ℕ
token_more None len = 0
token_more (Some depth) len = len depth + 1

-- the number of tokens before the end of a piece
unfoldable pub piece_len : Option Section → ℕ → List Token → ℕ
piece_len section depth [] = 0
piece_len section depth (t ∷ ts) = token_more (depth_within section depth t.what) (λ next. piece_len section next ts)

-- there is a first token, and it begins no section
abbrev pub begins_item : List Token → Bool
begins_item [] = false
begins_item (t ∷ ts) = is_none (section_of t.what)

-- the first token, if it ends a piece, ends an item
abbrev pub ended_of : List Token → Bool
ended_of [] = false
ended_of (t ∷ ts) = is_none (section_of t.what)

-- the tokens after an end
abbrev pub tail_of : List Token → List Token
tail_of [] = []
tail_of (t ∷ ts) = ts
