-- The items of the demo's text.

use Rattle.std.proofs.Common.{◌≡◌, ℕ, ◌+◌, ◌*◌, ◌≤◌, List, [], ◌∷◌, length, take, drop, refl, ap, sym, ◌∙◌, codes, lit≤}
use Rattle.std.specs.Prelude.{Some, None, Ok, pos}
use Rattle.mltl_base.specs.declared.interval.Engine.TheVariants.{Ft, Pt}
use Rattle.mltl_base.specs.declared.operators.CompareOp.TheVariants.{Lt}
use Rattle.mltl_base.specs.declared.operators.LogicOp.TheVariants.{Implies}
use Rattle.mltl_base.specs.declared.operators.WindowOp.TheVariants.{F, G, O}
use Rattle.c2po_lexer.specs.declared.token.Token.{Token}
use Rattle.c2po_ast.specs.Shape.{Shape, number, named, compare, logic, window}
use Rattle.c2po_ast.specs.ItemShape.{ItemShape, type_named, input, formula, contract}
use Rattle.c2po_parse.specs.Fronts.{◌>>=◌, interval_at, operator_at, start_at, middle_at}
use Rattle.c2po_parse.specs.Splitting.{parsed_tree}
use Rattle.c2po_parse.specs.Climbing.{climb, climb_all}
use Rattle.c2po_parse.proofs.Agree.{agree}
use Rattle.c2po_parse.specs.declared.section.Section.TheVariants.{Input, Output}
use Rattle.c2po_parse.specs.Sections.{Statement, item_of, pieces}
use Rattle.c2po_parse.specs.Forms.{input_of, output_item, label_at, names_within, promise_at, type_within}
use Rattle.c2po_parse.specs.Specification.{spec_of, piece_trees}
use Rattle.r2u2_cli.proofs.DemoPieces.{item_in_front, section_in_front, span, tree_in_front}
use Rattle.r2u2_cli.proofs.DemoTokens as token
use Rattle.r2u2_cli.proofs.DemoTokens.{truths, wholes, resp, low, agc, once}

-- a tree that climbing reads
climbed : (n : ℕ) (ts : List Token) (e : Shape) → 4 * length ts + 1 ≤ n → climb_all n ts ≡ Some e → parsed_tree ts ≡ Some e
climbed n ts e enough h = sym (agree n ts enough) ∙ h

-- a -> F[0,3] b
abbrev pub resp_tree : Shape
resp_tree = logic 2 Implies (named 2 (codes "a")) (window 2 F 0 3 (named 2 (codes "b")))

resp_read : output_item Ft resp ≡ Some (formula Ft (Some (codes "resp")) resp_tree)
unfolding output_item label_at promise_at climb start_at operator_at interval_at middle_at
resp_read = ap (λ o. o >>= λ e. Some (formula Ft (Some (codes "resp")) e)) (climbed 37 (drop 2 resp) resp_tree (lit≤ tt) refl)

-- G[0,2] (x < 0)
abbrev pub low_tree : Shape
low_tree = window 2 G 0 2 (compare 2 Lt (named 2 (codes "x")) (number 2 (pos 0)))

low_read : output_item Ft low ≡ Some (formula Ft (Some (codes "low")) low_tree)
unfolding output_item label_at promise_at climb start_at operator_at interval_at middle_at
low_read = ap (λ o. o >>= λ e. Some (formula Ft (Some (codes "low")) e)) (climbed 45 (drop 2 low) low_tree (lit≤ tt) refl)

-- a => F[0,1] b
abbrev pub agc_left : Shape
agc_left = named 2 (codes "a")

abbrev pub agc_right : Shape
agc_right = window 2 F 0 1 (named 2 (codes "b"))

agc_read : output_item Ft agc ≡ Some (contract Ft (Some (codes "agc")) agc_left agc_right)
unfolding output_item label_at promise_at climb start_at operator_at interval_at middle_at
agc_read =
    ap (λ o. o >>= λ e. parsed_tree (drop 2 (drop 2 agc)) >>= λ f. Some (contract Ft (Some (codes "agc")) e f)) (climbed 5 (take 1 (drop 2 agc)) agc_left (lit≤ tt) refl)
    ∙ ap (λ o. o >>= λ f. Some (contract Ft (Some (codes "agc")) agc_left f)) (climbed 29 (drop 2 (drop 2 agc)) agc_right (lit≤ tt) refl)

-- O[0,4] a
abbrev pub once_tree : Shape
once_tree = window 3 O 0 4 (named 3 (codes "a"))

once_read : output_item Pt once ≡ Some (formula Pt (Some (codes "once")) once_tree)
unfolding output_item label_at promise_at climb start_at operator_at interval_at middle_at
once_read = ap (λ o. o >>= λ e. Some (formula Pt (Some (codes "once")) e)) (climbed 29 (drop 2 once) once_tree (lit≤ tt) refl)

-- what is read of the signals
truths_read : input_of truths ≡ Some (input (codes "a" ∷ codes "b" ∷ []) (type_named (codes "bool")))
unfolding input_of names_within type_within
truths_read = refl

wholes_read : input_of wholes ≡ Some (input (codes "x" ∷ []) (type_named (codes "int")))
unfolding input_of names_within type_within
wholes_read = refl

-- the pieces
once_piece : pieces (Some (Output Pt)) 0 [] token.from_once ≡ item_of (Some (Output Pt)) 3 once ∷ []
unfolding span pieces
once_piece = item_in_front (Some (Output Pt)) once token.end_of_once [] refl refl refl

agc_piece : pieces (Some (Output Ft)) 0 [] token.from_agc ≡ item_of (Some (Output Ft)) 2 agc ∷ item_of (Some (Output Pt)) 3 once ∷ []
unfolding span
agc_piece = item_in_front (Some (Output Ft)) agc token.end_of_agc token.from_past refl refl refl
    ∙ ap (λ ps. item_of (Some (Output Ft)) 2 agc ∷ ps) (section_in_front (Some (Output Ft)) (Output Pt) token.word_of_past token.from_once refl ∙ once_piece)

low_piece : pieces (Some (Output Ft)) 0 [] token.from_low
    ≡ item_of (Some (Output Ft)) 2 low ∷ item_of (Some (Output Ft)) 2 agc ∷ item_of (Some (Output Pt)) 3 once ∷ []
unfolding span
low_piece = item_in_front (Some (Output Ft)) low token.end_of_low token.from_agc refl refl refl ∙ ap (λ ps. item_of (Some (Output Ft)) 2 low ∷ ps) agc_piece

abbrev output_pieces : List Statement
output_pieces = item_of (Some (Output Ft)) 2 resp ∷ item_of (Some (Output Ft)) 2 low ∷ item_of (Some (Output Ft)) 2 agc ∷ item_of (Some (Output Pt)) 3 once ∷ []

resp_piece : pieces (Some (Output Ft)) 0 [] token.from_resp ≡ output_pieces
unfolding span
resp_piece = item_in_front (Some (Output Ft)) resp token.end_of_resp token.from_low refl refl refl ∙ ap (λ ps. item_of (Some (Output Ft)) 2 resp ∷ ps) low_piece

wholes_piece : pieces (Some Input) 0 [] token.from_wholes ≡ item_of (Some Input) 1 wholes ∷ output_pieces
unfolding span
wholes_piece = item_in_front (Some Input) wholes token.end_of_wholes token.from_future refl refl refl
    ∙ ap (λ ps. item_of (Some Input) 1 wholes ∷ ps) (section_in_front (Some Input) (Output Ft) token.word_of_future token.from_resp refl ∙ resp_piece)

abbrev demo_pieces : List Statement
demo_pieces = item_of (Some Input) 1 truths ∷ item_of (Some Input) 1 wholes ∷ output_pieces

pieces_found : pieces None 0 [] token.demo_tokens ≡ demo_pieces
unfolding span
pieces_found = section_in_front None Input token.word_of_inputs token.from_truths refl
    ∙ item_in_front (Some Input) truths token.end_of_truths token.from_wholes refl refl refl ∙ ap (λ ps. item_of (Some Input) 1 truths ∷ ps) wholes_piece

-- the trees
abbrev once_items : List ItemShape
once_items = record { line = 3; body = formula Pt (Some (codes "once")) once_tree } ∷ []

abbrev agc_items : List ItemShape
agc_items = record { line = 2; body = contract Ft (Some (codes "agc")) agc_left agc_right } ∷ once_items

abbrev low_items : List ItemShape
low_items = record { line = 2; body = formula Ft (Some (codes "low")) low_tree } ∷ agc_items

abbrev resp_items : List ItemShape
resp_items = record { line = 2; body = formula Ft (Some (codes "resp")) resp_tree } ∷ low_items

abbrev wholes_items : List ItemShape
wholes_items = record { line = 1; body = input (codes "x" ∷ []) (type_named (codes "int")) } ∷ resp_items

abbrev pub demo_items : List ItemShape
demo_items = record { line = 1; body = input (codes "a" ∷ codes "b" ∷ []) (type_named (codes "bool")) } ∷ wholes_items

no_trees : piece_trees [] ≡ Ok []
unfolding piece_trees
no_trees = refl

trees_found : piece_trees demo_pieces ≡ Ok demo_items
trees_found =
    tree_in_front _ _ _ wholes_items refl truths_read (tree_in_front _ _ _ resp_items refl wholes_read (tree_in_front _ _ _ low_items refl resp_read
    (tree_in_front _ _ _ agc_items refl low_read (tree_in_front _ _ _ once_items refl agc_read (tree_in_front _ _ _ [] refl once_read no_trees)))))

pub items_found : spec_of token.demo_tokens ≡ Ok demo_items
unfolding spec_of
items_found = ap piece_trees pieces_found ∙ trees_found
