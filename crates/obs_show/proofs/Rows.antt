-- Records of instructions, one more at a time.
use Rattle.std.proofs.Common.{◌≡◌, ℕ, ◌+◌, ◌<◌, ◌≤◌, List, [], ◌∷◌, ◌++◌, map, take, length, slice_index_or, refl, ap, sym, ◌∙◌, arith, append_assoc}
use Rattle.std.specs.List.{enumerate_from, flat_map}
use Rattle.std.proofs.lemmas.List.{append-nil, length-take, map-append, take_more}
use Rattle.std.proofs.lemmas.Grind.{flat_map-append}
use Rattle.csv.specs.Writing.{default_writer, row_text}
use Rattle.mltl_base.specs.declared.program.Program.{Program}
use Rattle.obs_show.specs.Table.{Field, bz_record, columns, ft_record, csv_lines, numbered, pt_record, table}

pub enumerate_push : {X : Type 0} (n : ℕ) (xs : List X) (x : X) → enumerate_from n (xs ++ x ∷ []) ≡ enumerate_from n xs ++ (n + length xs, x) ∷ []
enumerate_push n [] x = let e : n ≡ n + 0 = omega arith in ap (λ (k : ℕ). (k, x) ∷ []) e
enumerate_push n (y ∷ ys) x =
    let e : n + 1 + length ys ≡ n + length (y ∷ ys) = omega arith in
    ap (λ ps. (n, y) ∷ ps) (enumerate_push (n + 1) ys x ∙ ap (λ (k : ℕ). enumerate_from (n + 1) ys ++ (k, x) ∷ []) e)

-- the records of the instructions before one, and its own
pub numbered_more : {X : Type 0} (record_of : ℕ → X → List Field) (ops : List X) (i : ℕ) (d : X) → i < length ops
    → numbered record_of (take (i + 1) ops) ≡ numbered record_of (take i ops) ++ record_of i (slice_index_or ops i d) ∷ []
numbered_more {X} record_of ops i d here =
    let x : X = slice_index_or ops i d in
    let before : List X = take i ops in
    let f : ℕ × X → List Field = λ p. record_of p.0 p.1 in
    let e : 0 + length before ≡ i = omega (arith, length-take i ops) in
    ap (numbered record_of) (take_more ops i d here)
    ∙ ap (map f) (enumerate_push 0 before x)
    ∙ map-append f (enumerate_from 0 before) ((0 + length before, x) ∷ [])
    ∙ ap (λ (k : ℕ). numbered record_of before ++ record_of k x ∷ []) e

-- so the text gets one line more
pub lines_more : {X : Type 0} (record_of : ℕ → X → List Field) (ops : List X) (i : ℕ) (d : X) (text : List ℕ) (fields : List Field) → i < length ops → fields ≡ record_of i (slice_index_or ops i d)
    → (text ++ csv_lines (numbered record_of (take i ops))) ++ row_text default_writer fields ≡ text ++ csv_lines (numbered record_of (take (i + 1) ops))
lines_more {X} record_of ops i d text fields here is =
    let x : X = slice_index_or ops i d in
    let rows : List (List Field) = numbered record_of (take i ops) in
    let more : csv_lines (rows ++ record_of i x ∷ []) ≡ csv_lines rows ++ row_text default_writer (record_of i x) =
    flat_map-append (row_text default_writer) rows (record_of i x ∷ []) ∙ ap (λ ts. csv_lines rows ++ ts) (append-nil (row_text default_writer (record_of i x))) in
    append_assoc text (csv_lines rows) (row_text default_writer fields)
    ∙ ap (λ fs. text ++ (csv_lines rows ++ row_text default_writer fs)) is
    ∙ ap (λ ts. text ++ ts) (sym more)
    ∙ ap (λ rs. text ++ csv_lines rs) (sym (numbered_more record_of ops i d here))

-- the parts of a table, one after the other
pub parts : (program : Program) (text : List ℕ)
    → text ≡ ((([] ++ row_text default_writer columns) ++ csv_lines (numbered bz_record program.bz)) ++ csv_lines (numbered (ft_record program) program.ft)) ++ csv_lines (numbered (pt_record program) program.pt)
    → text ≡ table program
parts program text is =
    let line : List Field → List ℕ = row_text default_writer in
    let bz : List (List Field) = numbered bz_record program.bz in
    let ft : List (List Field) = numbered (ft_record program) program.ft in
    let pt : List (List Field) = numbered (pt_record program) program.pt in
    let head : List ℕ = row_text default_writer columns in
    let later : csv_lines (bz ++ (ft ++ pt)) ≡ csv_lines bz ++ (csv_lines ft ++ csv_lines pt) =
    flat_map-append line bz (ft ++ pt) ∙ ap (λ ts. csv_lines bz ++ ts) (flat_map-append line ft pt) in
    is ∙ append_assoc (head ++ csv_lines bz) (csv_lines ft) (csv_lines pt) ∙ append_assoc head (csv_lines bz) (csv_lines ft ++ csv_lines pt) ∙ ap (λ ts. head ++ ts) (sym later)
