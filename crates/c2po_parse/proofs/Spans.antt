use Rattle.std.proofs.Common.{◌≡◌, ℕ, zero, suc, ◌+◌, ◌-◌, ◌<◌, ◌≤◌, Bool, true, false, List, [], ◌∷◌, ◌++◌, length, take, drop, refl, ap, sym, ◌∙◌, subst, arith, Option, Some, None, Result, Ok, Err, nat_lt, if◌then◌else◌, append_assoc, get_or}
use Rattle.std.proofs.lemmas.Bool.Decides.{nat_tests}
use Rattle.std.specs.Prelude.{is_none}
use Rattle.std.proofs.lemmas.List.{append-nil}
use Rattle.c2po_lexer.specs.declared.token.Token.{Token}
use Rattle.c2po_ast.specs.ItemShape.{ItemShape}
use Rattle.c2po_parse.specs.declared.fault.ParseFault.{ParseFault}
use Rattle.c2po_parse.specs.declared.fault.ParseFault.TheVariants.{TooManyTokens, Grammar}
use Rattle.c2po_parse.specs.declared.section.Section.{Section}
use Rattle.c2po_parse.specs.Sections.{section_of, braces_after, Statement, item_of, unended_piece, is_end, chosen, pieces, depth_within, token_more, piece_len, begins_item, ended_of, tail_of}
use Rattle.c2po_parse.specs.Specification.{piece_body, with_line, piece_tree, with_first, first_or, piece_trees, all_with, reads_on, spec_of}

-- The first piece of a token list and those after it.

-- the pieces from some tokens of one piece and what stands after them
finish : Option Section → List Token → List Token → List Statement
finish s before [] = unended_piece s before
finish s before (t ∷ ts) = chosen (section_of t.what) true (λ next. unended_piece s before ++ pieces (Some next) 0 [] ts) (item_of s t.line before ∷ pieces s 0 [] ts) []

at-end : (s : Option Section) (d : ℕ) (before : List Token) (t : Token) (ts : List Token) → depth_within s d t.what ≡ None →
    chosen (section_of t.what) (is_end s d t.what) (λ next. unended_piece s before ++ pieces (Some next) 0 [] ts) (item_of s t.line before ∷ pieces s 0 [] ts)
    (pieces s (braces_after t.what d) (before ++ t ∷ []) ts) ≡ finish s (before ++ []) (t ∷ ts) →
    pieces s d before (t ∷ ts) ≡ finish s (before ++ take (piece_len s d (t ∷ ts)) (t ∷ ts)) (drop (piece_len s d (t ∷ ts)) (t ∷ ts))
unfolding pieces piece_len
at-end s d before t ts ends h =
    h ∙ ap (λ v. finish s (before ++ take (token_more v (λ next. piece_len s next ts)) (t ∷ ts)) (drop (token_more v (λ next. piece_len s next ts)) (t ∷ ts))) (sym ends)

goes-on : (s : Option Section) (d : ℕ) (before : List Token) (t : Token) (ts : List Token) → depth_within s d t.what ≡ Some (braces_after t.what d) →
    chosen (section_of t.what) (is_end s d t.what) (λ next. unended_piece s before ++ pieces (Some next) 0 [] ts) (item_of s t.line before ∷ pieces s 0 [] ts)
    (pieces s (braces_after t.what d) (before ++ t ∷ []) ts) ≡ pieces s (braces_after t.what d) (before ++ t ∷ []) ts →
    ((us : List Token) → pieces s (braces_after t.what d) us ts ≡ finish s (us ++ take (piece_len s (braces_after t.what d) ts) ts) (drop (piece_len s (braces_after t.what d) ts) ts)) →
    pieces s d before (t ∷ ts) ≡ finish s (before ++ take (piece_len s d (t ∷ ts)) (t ∷ ts)) (drop (piece_len s d (t ∷ ts)) (t ∷ ts))
unfolding pieces piece_len
goes-on s d before t ts within h ih =
    let n : ℕ = piece_len s (braces_after t.what d) ts in
    let one_more : n + 1 ≡ suc n = omega arith in
    h ∙ ih (before ++ t ∷ [])
    ∙ ap (λ us. finish s us (drop n ts)) (append_assoc before (t ∷ []) (take n ts))
    ∙ ap (λ m. finish s (before ++ take m (t ∷ ts)) (drop m (t ∷ ts))) (sym one_more)
    ∙ ap (λ v. finish s (before ++ take (token_more v (λ next. piece_len s next ts)) (t ∷ ts)) (drop (token_more v (λ next. piece_len s next ts)) (t ∷ ts))) (sym within)

section-ends : (s : Option Section) (d : ℕ) (before : List Token) (t : Token) (ts : List Token) (next : Section) → section_of t.what ≡ Some next →
    chosen (section_of t.what) (is_end s d t.what) (λ next. unended_piece s before ++ pieces (Some next) 0 [] ts) (item_of s t.line before ∷ pieces s 0 [] ts)
    (pieces s (braces_after t.what d) (before ++ t ∷ []) ts) ≡ finish s (before ++ []) (t ∷ ts)
unfolding finish
section-ends s d before t ts next begins = rw (begins, append-nil before) refl

item-ends : (s : Option Section) (d : ℕ) (before : List Token) (t : Token) (ts : List Token) → section_of t.what ≡ None → is_end s d t.what ≡ true →
    chosen (section_of t.what) (is_end s d t.what) (λ next. unended_piece s before ++ pieces (Some next) 0 [] ts) (item_of s t.line before ∷ pieces s 0 [] ts)
    (pieces s (braces_after t.what d) (before ++ t ∷ []) ts) ≡ finish s (before ++ []) (t ∷ ts)
unfolding finish
item-ends s d before t ts begins ends = rw (begins, ends, append-nil before) refl

span-step : (s : Option Section) (d : ℕ) (before : List Token) (t : Token) (ts : List Token) (v : Option Section) (b : Bool) →
    section_of t.what ≡ v → is_end s d t.what ≡ b →
    ((us : List Token) → pieces s (braces_after t.what d) us ts ≡ finish s (us ++ take (piece_len s (braces_after t.what d) ts) ts) (drop (piece_len s (braces_after t.what d) ts) ts)) →
    pieces s d before (t ∷ ts) ≡ finish s (before ++ take (piece_len s d (t ∷ ts)) (t ∷ ts)) (drop (piece_len s d (t ∷ ts)) (t ∷ ts))
span-step s d before t ts (Some next) b begins ends ih =
    at-end s d before t ts (rw begins refl) (section-ends s d before t ts next begins)
span-step s d before t ts None true begins ends ih =
    at-end s d before t ts (rw (begins, ends) refl) (item-ends s d before t ts begins ends)
span-step s d before t ts None false begins ends ih =
    goes-on s d before t ts (rw (begins, ends) refl) (rw (begins, ends) refl) ih

nothing-left : (s : Option Section) (d : ℕ) (before : List Token) →
    pieces s d before [] ≡ finish s (before ++ take (piece_len s d []) []) (drop (piece_len s d []) [])
unfolding pieces piece_len finish
nothing-left s d before = rw (append-nil before) refl

pieces-span : (s : Option Section) (d : ℕ) (before ts : List Token) →
    pieces s d before ts ≡ finish s (before ++ take (piece_len s d ts) ts) (drop (piece_len s d ts) ts)
pieces-span s d before [] = nothing-left s d before
pieces-span s d before (t ∷ ts) =
    span-step s d before t ts (section_of t.what) (is_end s d t.what) refl refl (λ us. pieces-span s (braces_after t.what d) us ts)

-- the pieces after the first one
abbrev pub others_of : Option Section → List Token → List Statement
others_of s [] = []
others_of s (t ∷ ts) = chosen (section_of t.what) true (λ next. pieces (Some next) 0 [] ts) (pieces s 0 [] ts) []

-- what stands in a section before an end
abbrev pub piece_on : Option Section → ℕ → List Token → Bool → Statement
piece_on s line tokens ended = record { section = s; line = line; tokens = tokens; ended = ended }

behind-at : (s : Option Section) (t : Token) (piece : List Token) (u : Token) (us : List Token) (v : Option Section) → section_of u.what ≡ v →
    finish s (t ∷ piece) (u ∷ us) ≡ piece_on s t.line (t ∷ piece) (ended_of (u ∷ us)) ∷ others_of s (u ∷ us)
unfolding finish
behind-at s t piece u us (Some next) is = rw is refl
behind-at s t piece u us None is = rw is refl

behind : (s : Option Section) (t : Token) (piece rest : List Token) → finish s (t ∷ piece) rest ≡ piece_on s t.line (t ∷ piece) (ended_of rest) ∷ others_of s rest
unfolding finish
behind s t piece [] = refl
behind s t piece (u ∷ us) = behind-at s t piece u us (section_of u.what) refl

at-once : (s : Option Section) (t : Token) (ts : List Token) → section_of t.what ≡ None →
    finish s [] (t ∷ ts) ≡ piece_on s t.line [] (ended_of (t ∷ ts)) ∷ others_of s (t ∷ ts)
unfolding finish
at-once s t ts plain = rw plain refl

front-piece : (s : Option Section) (t : Token) (ts : List Token) (n : ℕ) → section_of t.what ≡ None →
    finish s (take n (t ∷ ts)) (drop n (t ∷ ts)) ≡ piece_on s t.line (take n (t ∷ ts)) (ended_of (drop n (t ∷ ts))) ∷ others_of s (drop n (t ∷ ts))
front-piece s t ts zero plain = at-once s t ts plain
front-piece s t ts (suc n) plain = behind s t (take n ts) (drop n ts)

first-trees : (s : Option Section) (t : Token) (ts : List Token) → section_of t.what ≡ None →
    piece_trees (pieces s 0 [] (t ∷ ts))
    ≡ first_or (piece_tree (piece_on s t.line (take (piece_len s 0 (t ∷ ts)) (t ∷ ts)) (ended_of (drop (piece_len s 0 (t ∷ ts)) (t ∷ ts)))))
    (piece_trees (others_of s (drop (piece_len s 0 (t ∷ ts)) (t ∷ ts))))
unfolding piece_trees
first-trees s t ts plain =
    ap piece_trees (pieces-span s 0 [] (t ∷ ts) ∙ front-piece s t ts (piece_len s 0 (t ∷ ts)) plain)

piece_result : Option Section → Token → List Token → Result ItemShape ParseFault
piece_result s t ts =
    with_line t.line (piece_body s (ended_of (drop (piece_len s 0 (t ∷ ts)) (t ∷ ts))) (take (piece_len s 0 (t ∷ ts)) (t ∷ ts)))

many-first : (b : Bool) (line : ℕ) (r : Result ItemShape ParseFault) (others : Result (List ItemShape) ParseFault) → b ≡ true →
    first_or (if b then Err (TooManyTokens line) else r) others ≡ Err (TooManyTokens line)
many-first b line r others is = ap (λ c. first_or (if c then Err (TooManyTokens line) else r) others) is

-- too many tokens, an item without a tree, and one with a tree
pub many-trees : (s : Option Section) (t : Token) (ts : List Token) → section_of t.what ≡ None →
    nat_lt 1024 (length (take (piece_len s 0 (t ∷ ts)) (t ∷ ts))) ≡ true → piece_trees (pieces s 0 [] (t ∷ ts)) ≡ Err (TooManyTokens t.line)
unfolding piece_result
many-trees s t ts plain many = first-trees s t ts plain ∙ many-first (nat_lt 1024 (length (take (piece_len s 0 (t ∷ ts)) (t ∷ ts)))) t.line (piece_result s t ts) (piece_trees (others_of s (drop (piece_len s 0 (t ∷ ts)) (t ∷ ts)))) many

few-first : (b : Bool) (line : ℕ) (r : Result ItemShape ParseFault) (others : Result (List ItemShape) ParseFault) → b ≡ false →
    first_or (if b then Err (TooManyTokens line) else r) others ≡ first_or r others
few-first b line r others is = ap (λ c. first_or (if c then Err (TooManyTokens line) else r) others) is

few-trees : (s : Option Section) (t : Token) (ts : List Token) → section_of t.what ≡ None →
    nat_lt 1024 (length (take (piece_len s 0 (t ∷ ts)) (t ∷ ts))) ≡ false →
    piece_trees (pieces s 0 [] (t ∷ ts)) ≡ first_or (piece_result s t ts) (piece_trees (others_of s (drop (piece_len s 0 (t ∷ ts)) (t ∷ ts))))
unfolding piece_result
few-trees s t ts plain few = first-trees s t ts plain
    ∙ few-first (nat_lt 1024 (length (take (piece_len s 0 (t ∷ ts)) (t ∷ ts)))) t.line (piece_result s t ts) (piece_trees (others_of s (drop (piece_len s 0 (t ∷ ts)) (t ∷ ts)))) few

pub faulty-trees : (s : Option Section) (t : Token) (ts : List Token) (fault : ParseFault) → section_of t.what ≡ None →
    nat_lt 1024 (length (take (piece_len s 0 (t ∷ ts)) (t ∷ ts))) ≡ false →
    with_line t.line (piece_body s (ended_of (drop (piece_len s 0 (t ∷ ts)) (t ∷ ts))) (take (piece_len s 0 (t ∷ ts)) (t ∷ ts))) ≡ Err fault →
    piece_trees (pieces s 0 [] (t ∷ ts)) ≡ Err fault
unfolding piece_result
faulty-trees s t ts fault plain few h =
    few-trees s t ts plain few ∙ ap (λ r. first_or r (piece_trees (others_of s (drop (piece_len s 0 (t ∷ ts)) (t ∷ ts))))) h

unended : (s : Option Section) (line : ℕ) (piece : List Token) → with_line line (piece_body s false piece) ≡ Err (Grammar line)
unended None line piece = refl
unended (Some section) line piece = refl

ended-at : (s : Option Section) (line : ℕ) (piece : List Token) (t : Token) (ts : List Token) (v : Option Section) (item : ItemShape) → section_of t.what ≡ v →
    with_line line (piece_body s (ended_of (t ∷ ts)) piece) ≡ Ok item → others_of s (t ∷ ts) ≡ pieces s 0 [] ts
ended-at s line piece t ts None item is h = rw is refl
ended-at s line piece t ts (Some next) item is h =
    let refused = unended s line piece in
    let same : with_line line (piece_body s false piece) ≡ Ok item = ap (λ w. with_line line (piece_body s (is_none w) piece)) (sym is) ∙ h in
    absurd (cc)

-- an item is read only where a `;` ends it
ended-others : (s : Option Section) (line : ℕ) (piece rest : List Token) (item : ItemShape) →
    with_line line (piece_body s (ended_of rest) piece) ≡ Ok item → others_of s rest ≡ pieces s 0 [] (tail_of rest)
ended-others s line piece [] item h = absurd (let refused = unended s line piece in cc)
ended-others s line piece (t ∷ ts) item h = ended-at s line piece t ts (section_of t.what) item refl h

pub read-trees : (s : Option Section) (t : Token) (ts : List Token) (item : ItemShape) → section_of t.what ≡ None →
    nat_lt 1024 (length (take (piece_len s 0 (t ∷ ts)) (t ∷ ts))) ≡ false →
    with_line t.line (piece_body s (ended_of (drop (piece_len s 0 (t ∷ ts)) (t ∷ ts))) (take (piece_len s 0 (t ∷ ts)) (t ∷ ts))) ≡ Ok item →
    piece_trees (pieces s 0 [] (t ∷ ts)) ≡ with_first item (piece_trees (pieces s 0 [] (tail_of (drop (piece_len s 0 (t ∷ ts)) (t ∷ ts)))))
unfolding piece_result
read-trees s t ts item plain few h =
    let n : ℕ = piece_len s 0 (t ∷ ts) in
    few-trees s t ts plain few ∙ ap (λ r. first_or r (piece_trees (others_of s (drop n (t ∷ ts))))) h
    ∙ ap (λ ps. with_first item (piece_trees ps)) (ended-others s t.line (take n (t ∷ ts)) (drop n (t ∷ ts)) item h)

-- an item goes after those that were read
pub with_item : (items : List ItemShape) (item : ItemShape) (r : Result (List ItemShape) ParseFault) →
    all_with items (with_first item r) ≡ all_with (items ++ item ∷ []) r
with_item items item (Err fault) = refl
with_item items item (Ok others) = ap Ok (sym (append_assoc items (item ∷ []) others))

pub reads-section : (items : List ItemShape) (s : Option Section) (t : Token) (ts : List Token) (next : Section) → section_of t.what ≡ Some next →
    reads_on items s (t ∷ ts) ≡ reads_on items (Some next) ts
unfolding reads_on pieces
reads-section items s t ts next is = rw is refl

pub reads-item : (items : List ItemShape) (s : Option Section) (ts rest : List Token) (item : ItemShape) →
    piece_trees (pieces s 0 [] ts) ≡ with_first item (piece_trees (pieces s 0 [] rest)) → reads_on items s ts ≡ reads_on (items ++ item ∷ []) s rest
unfolding reads_on
reads-item items s ts rest item h = ap (all_with items) h ∙ with_item items item (piece_trees (pieces s 0 [] rest))

pub reads-fault : (items : List ItemShape) (s : Option Section) (ts : List Token) (fault : ParseFault) →
    piece_trees (pieces s 0 [] ts) ≡ Err fault → reads_on items s ts ≡ Err fault
unfolding reads_on
reads-fault items s ts fault h = ap (all_with items) h

pub reads_end : (items : List ItemShape) (s : Option Section) (ts : List Token) → length ts ≡ 0 → reads_on items s ts ≡ Ok items
unfolding reads_on pieces piece_trees
reads_end items s [] h = ap Ok (append-nil items)
reads_end items s (t ∷ ts) h = absurd (omega arith)

all_with-nil : (r : Result (List ItemShape) ParseFault) → all_with [] r ≡ r
all_with-nil (Err fault) = refl
all_with-nil (Ok items) = refl

pub reads_all : (ts : List Token) → reads_on [] None ts ≡ spec_of ts
unfolding reads_on spec_of
reads_all ts = all_with-nil (piece_trees (pieces None 0 [] ts))

-- the same of a list that begins an item
begins-plain : (t : Token) (ts : List Token) (v : Option Section) → section_of t.what ≡ v → begins_item (t ∷ ts) ≡ true → section_of t.what ≡ None
begins-plain t ts None is h = is
begins-plain t ts (Some next) is h =
    let refused : begins_item (t ∷ ts) ≡ false = ap (λ v. is_none v) is in absurd (cc)

lt-test : (a b : ℕ) → a < b → nat_lt a b ≡ true
lt-test a b h = grind (arith, nat_tests)

lt-not : (a b : ℕ) → b ≤ a → nat_lt a b ≡ false
lt-not a b h = grind (arith, nat_tests)

pub many_pieces : (s : Option Section) (ts : List Token) (d : Token) (n : ℕ) → begins_item ts ≡ true → n ≡ piece_len s 0 ts →
    1024 < length (take n ts) → piece_trees (pieces s 0 [] ts) ≡ Err (TooManyTokens (get_or ts 0 d).line)
many_pieces s [] d n begins is many = absurd (cc)
many_pieces s (t ∷ ts) d n begins is many =
    many-trees s t ts (begins-plain t ts (section_of t.what) refl begins)
    (subst (λ m. nat_lt 1024 (length (take m (t ∷ ts))) ≡ true) is (lt-test 1024 (length (take n (t ∷ ts))) many))

pub faulty_pieces : (s : Option Section) (ts : List Token) (d : Token) (n : ℕ) (fault : ParseFault) → begins_item ts ≡ true → n ≡ piece_len s 0 ts →
    length (take n ts) ≤ 1024 → with_line (get_or ts 0 d).line (piece_body s (ended_of (drop n ts)) (take n ts)) ≡ Err fault →
    piece_trees (pieces s 0 [] ts) ≡ Err fault
faulty_pieces s [] d n fault begins is few h = absurd (cc)
faulty_pieces s (t ∷ ts) d n fault begins is few h =
    faulty-trees s t ts fault (begins-plain t ts (section_of t.what) refl begins)
    (subst (λ m. nat_lt 1024 (length (take m (t ∷ ts))) ≡ false) is (lt-not 1024 (length (take n (t ∷ ts))) few))
    (subst (λ m. with_line t.line (piece_body s (ended_of (drop m (t ∷ ts))) (take m (t ∷ ts))) ≡ Err fault) is h)

pub read_pieces : (s : Option Section) (ts : List Token) (d : Token) (n : ℕ) (item : ItemShape) → begins_item ts ≡ true → n ≡ piece_len s 0 ts →
    length (take n ts) ≤ 1024 → with_line (get_or ts 0 d).line (piece_body s (ended_of (drop n ts)) (take n ts)) ≡ Ok item →
    piece_trees (pieces s 0 [] ts) ≡ with_first item (piece_trees (pieces s 0 [] (tail_of (drop n ts))))
read_pieces s [] d n item begins is few h = absurd (cc)
read_pieces s (t ∷ ts) d n item begins is few h =
    subst (λ m. piece_trees (pieces s 0 [] (t ∷ ts)) ≡ with_first item (piece_trees (pieces s 0 [] (tail_of (drop m (t ∷ ts)))))) (sym is)
    (read-trees s t ts item (begins-plain t ts (section_of t.what) refl begins)
    (subst (λ m. nat_lt 1024 (length (take m (t ∷ ts))) ≡ false) is (lt-not 1024 (length (take n (t ∷ ts))) few))
    (subst (λ m. with_line t.line (piece_body s (ended_of (drop m (t ∷ ts))) (take m (t ∷ ts))) ≡ Ok item) is h))

take-all : (ts : List Token) → take (length ts) ts ≡ ts
take-all [] = refl
take-all (t ∷ ts) = ap (λ us. t ∷ us) (take-all ts)

-- a section's word at the front
tail-is : (t : Token) (ts : List Token) → take (length (t ∷ ts) - 1) (drop 1 (t ∷ ts)) ≡ ts
tail-is t ts = let size : length (t ∷ ts) - 1 ≡ length ts = omega arith in ap (λ n. take n ts) size ∙ take-all ts

pub reads_section : (items : List ItemShape) (s : Option Section) (ts : List Token) (d : Token) (next : Section) → 0 < length ts →
    section_of (get_or ts 0 d).what ≡ Some next → reads_on items s ts ≡ reads_on items (Some next) (take (length ts - 1) (drop 1 ts))
reads_section items s [] d next some is = absurd (omega arith)
reads_section items s (t ∷ ts) d next some is =
    reads-section items s t ts next is ∙ ap (λ us. reads_on items (Some next) us) (sym (tail-is t ts))
