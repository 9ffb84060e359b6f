-- The tokens of the demo's text, item by item.

use Rattle.std.proofs.Common.{◌≡◌, ℕ, List, [], ◌∷◌, ◌++◌, refl, codes}
use Rattle.std.specs.Prelude.{Ok, pos}
use Rattle.c2po_lexer.specs.declared.token.Sign.{Sign}
use Rattle.c2po_lexer.specs.declared.token.Sign.TheVariants as sign
use Rattle.c2po_lexer.specs.declared.token.Keyword.{Keyword}
use Rattle.c2po_lexer.specs.declared.token.Keyword.TheVariants as keyword
use Rattle.c2po_lexer.specs.declared.token.What.{What}
use Rattle.c2po_lexer.specs.declared.token.What.TheVariants as what
use Rattle.c2po_lexer.specs.declared.token.Token.{Token}
use Rattle.c2po_lexer.specs.Cut.{front_of, pieces_from}
use Rattle.c2po_lexer.specs.Tokens.{all_of, tokens_of}
use Rattle.r2u2_cli.specs.Text.{demo_text}

abbrev pub token : What → ℕ → ℕ → ℕ → Token
token w line start end = record { what = w; line = line; start = start; end = end }

abbrev pub word : List ℕ → ℕ → ℕ → ℕ → Token
word name line start end = token (what.Word name) line start end

abbrev pub reserved : Keyword → ℕ → ℕ → ℕ → Token
reserved k line start end = token (what.Reserved k) line start end

abbrev pub sign_of : Sign → ℕ → ℕ → ℕ → Token
sign_of s line start end = token (what.Sign s) line start end

abbrev pub natural : ℕ → ℕ → ℕ → ℕ → Token
natural n line start end = token (what.Number (pos n)) line start end

abbrev pub truths : List Token
truths =
    (word (codes "a") 1 6 7)
    ∷ (sign_of sign.Comma 1 7 8)
    ∷ (word (codes "b") 1 9 10)
    ∷ (sign_of sign.Colon 1 10 11)
    ∷ (reserved keyword.Bool 1 12 16) ∷ []

abbrev pub wholes : List Token
wholes =
    (word (codes "x") 1 18 19)
    ∷ (sign_of sign.Colon 1 19 20)
    ∷ (reserved keyword.Int 1 21 24) ∷ []

abbrev pub resp : List Token
resp =
    (word (codes "resp") 2 33 37)
    ∷ (sign_of sign.Colon 2 37 38)
    ∷ (word (codes "a") 2 39 40)
    ∷ (sign_of sign.Implies 2 41 43)
    ∷ (reserved keyword.F 2 44 45)
    ∷ (sign_of sign.LeftSquare 2 45 46)
    ∷ (natural 0 2 46 47)
    ∷ (sign_of sign.Comma 2 47 48)
    ∷ (natural 3 2 48 49)
    ∷ (sign_of sign.RightSquare 2 49 50)
    ∷ (word (codes "b") 2 51 52) ∷ []

abbrev pub low : List Token
low =
    (word (codes "low") 2 54 57)
    ∷ (sign_of sign.Colon 2 57 58)
    ∷ (reserved keyword.G 2 59 60)
    ∷ (sign_of sign.LeftSquare 2 60 61)
    ∷ (natural 0 2 61 62)
    ∷ (sign_of sign.Comma 2 62 63)
    ∷ (natural 2 2 63 64)
    ∷ (sign_of sign.RightSquare 2 64 65)
    ∷ (sign_of sign.LeftRound 2 66 67)
    ∷ (word (codes "x") 2 67 68)
    ∷ (sign_of sign.Less 2 69 70)
    ∷ (natural 0 2 71 72)
    ∷ (sign_of sign.RightRound 2 72 73) ∷ []

abbrev pub agc : List Token
agc =
    (word (codes "agc") 2 75 78)
    ∷ (sign_of sign.Colon 2 78 79)
    ∷ (word (codes "a") 2 80 81)
    ∷ (sign_of sign.Promises 2 82 84)
    ∷ (reserved keyword.F 2 85 86)
    ∷ (sign_of sign.LeftSquare 2 86 87)
    ∷ (natural 0 2 87 88)
    ∷ (sign_of sign.Comma 2 88 89)
    ∷ (natural 1 2 89 90)
    ∷ (sign_of sign.RightSquare 2 90 91)
    ∷ (word (codes "b") 2 92 93) ∷ []

abbrev pub once : List Token
once =
    (word (codes "once") 3 102 106)
    ∷ (sign_of sign.Colon 3 106 107)
    ∷ (reserved keyword.O 3 108 109)
    ∷ (sign_of sign.LeftSquare 3 109 110)
    ∷ (natural 0 3 110 111)
    ∷ (sign_of sign.Comma 3 111 112)
    ∷ (natural 4 3 112 113)
    ∷ (sign_of sign.RightSquare 3 113 114)
    ∷ (word (codes "a") 3 115 116) ∷ []

-- all of them, from the last item on
abbrev pub end_of_once : Token
end_of_once = sign_of sign.Semicolon 3 116 117

abbrev pub from_once : List Token
from_once = once ++ end_of_once ∷ []

abbrev pub word_of_past : Token
word_of_past = reserved keyword.PtSpec 3 95 101

abbrev pub from_past : List Token
from_past = word_of_past ∷ from_once

abbrev pub end_of_agc : Token
end_of_agc = sign_of sign.Semicolon 2 93 94

abbrev pub from_agc : List Token
from_agc = agc ++ end_of_agc ∷ from_past

abbrev pub end_of_low : Token
end_of_low = sign_of sign.Semicolon 2 73 74

abbrev pub from_low : List Token
from_low = low ++ end_of_low ∷ from_agc

abbrev pub end_of_resp : Token
end_of_resp = sign_of sign.Semicolon 2 52 53

abbrev pub from_resp : List Token
from_resp = resp ++ end_of_resp ∷ from_low

abbrev pub word_of_future : Token
word_of_future = reserved keyword.FtSpec 2 26 32

abbrev pub from_future : List Token
from_future = word_of_future ∷ from_resp

abbrev pub end_of_wholes : Token
end_of_wholes = sign_of sign.Semicolon 1 24 25

abbrev pub from_wholes : List Token
from_wholes = wholes ++ end_of_wholes ∷ from_future

abbrev pub end_of_truths : Token
end_of_truths = sign_of sign.Semicolon 1 16 17

abbrev pub from_truths : List Token
from_truths = truths ++ end_of_truths ∷ from_wholes

abbrev pub word_of_inputs : Token
word_of_inputs = reserved keyword.Input 1 0 5

abbrev pub demo_tokens : List Token
demo_tokens = word_of_inputs ∷ from_truths

pub tokens_found : tokens_of demo_text ≡ Ok demo_tokens
unfolding tokens_of all_of pieces_from front_of
tokens_found = refl
