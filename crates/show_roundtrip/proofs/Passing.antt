-- Lines that no rule refuses: what each line needs of its values, of the kinds of its names and of its label. Lines that
-- pass all three have no fault.

use Rattle.std.specs.Prelude.{◌≡◌, ◌+◌, ◌≤◌, ℕ, false, Option, Some, None, Ok, List, [], ◌∷◌, length, slice_get, ◌<◌, ◌||◌, ⊤}
use Rattle.mltl_base.specs.declared.interval.Engine.TheVariants.{Ft, Pt}
use Rattle.mltl_base.specs.declared.limits.TheConstants.{MAX_WEIGHT}
use Rattle.mltl_base.specs.declared.program.Program.{Program}
use Rattle.mltl_base.specs.Formula.{plain}
use Rattle.mltl_base.specs.Programs.{Expression, expressions, formula_at}
use Rattle.c2po_ast.specs.ItemShape.{type_named}
use Rattle.c2po_types.specs.declared.kind.Kind.{Kind}
use Rattle.c2po_types.specs.declared.declarations.Declarations.{Declarations}
use Rattle.c2po_types.specs.Items.{Labels, with_input, with_value, with_label, define_kind, formula_kind, contract_kind}
use Rattle.c2po_types.specs.FirstFault.{is_mixed}
use Rattle.c2po_ast.specs.Faults.{formula_fault, or_later}
use Rattle.c2po_types.specs.Values.{Value, formula_of}
use Rattle.c2po_types.specs.Weights.{weight}
use Rattle.c2po_types.specs.Faults.{value_fault}
use Rattle.c2po_types.specs.Environment.{value_of}
use Rattle.c2po_types.specs.Outputs.{Place, place_after}
use Rattle.obs_show.specs.Lines.{Reference, Form, Line, input, define, formula, contract}
use Rattle.obs_show.specs.Weight as shown
use Rattle.obs_show.specs.Weighing.{expression_weight}
use Rattle.show_roundtrip.specs.Said.{reference_shape, form_shape, kind_name, line_body}

-- ---- values

-- the value of a form, and of a reference, on a line of the text
abbrev pub form_value : ℕ → Form → Place → Value
form_value n f p = value_of (form_shape n f) p.values

abbrev pub reference_value : ℕ → Reference → Place → Value
reference_value n x p = value_of (reference_shape n x) p.values

-- the weight that a line adds to that of the outputs
abbrev pub added : ℕ → Line → Place → ℕ
added n (input x truth) p = 0
added n (define x f) p = 0
added n (formula engine label x) p = weight (reference_value n x p)
added n (contract engine label x y) p = weight (reference_value n x p) + weight (reference_value n y p)

-- a definition's value is light and has ranges; so have outputs, which are of one tense, and light together with those before
abbrev pub ValuePasses : ℕ → Line → Place → ℕ → Type 0
ValuePasses n (input x truth) p total = ⊤
ValuePasses n (define x f) p total = (weight (form_value n f p) ≤ MAX_WEIGHT) × (value_fault (form_value n f p) ≡ None)
ValuePasses n (formula engine label x) p total =
    (total + weight (reference_value n x p) ≤ MAX_WEIGHT)
    × (formula_fault (formula_of (reference_value n x p)) ≡ None)
    × (is_mixed engine (formula_of (reference_value n x p)) ≡ false)
ValuePasses n (contract engine label x y) p total =
    (total + (weight (reference_value n x p) + weight (reference_value n y p)) ≤ MAX_WEIGHT)
    × (or_later (formula_fault (formula_of (reference_value n x p))) (formula_fault (formula_of (reference_value n y p))) ≡ None)
    × ((is_mixed engine (formula_of (reference_value n x p)) || is_mixed engine (formula_of (reference_value n y p))) ≡ false)

-- so do lines from a place on, after outputs of a weight
unfoldable pub ValuesPass : ℕ → List Line → Place → ℕ → Type 0
ValuesPass n [] p total = ⊤
ValuesPass n (l ∷ ls) p total = ValuePasses n l p total × ValuesPass (n + 1) ls (place_after (line_body n l) p) (total + added n l p)

-- ---- kinds

-- a line's names and kinds are right, and after it these declarations hold
abbrev pub KindPasses : ℕ → Line → Declarations → Declarations → Type 0
KindPasses n (input x truth) d later = with_input n (x ∷ []) (type_named (kind_name truth)) d ≡ Ok later
KindPasses n (define x f) d later = (k : Kind) × (define_kind n x (form_shape n f) d ≡ Ok k) × (with_value x k d ≡ later)
KindPasses n (formula engine label x) d later = (k : Kind) × (formula_kind n (reference_shape n x) d ≡ Ok k) × (d ≡ later)
KindPasses n (contract engine label x y) d later = (k : Kind) × (contract_kind n (reference_shape n x) (reference_shape n y) d ≡ Ok k) × (d ≡ later)

-- so are those of lines
unfoldable pub KindsPass : ℕ → List Line → Declarations → Type 0
KindsPass n [] d = ⊤
KindsPass n (l ∷ ls) d = (later : Declarations) × KindPasses n l d later × KindsPass (n + 1) ls later

-- ---- labels

-- the label of a line, if it has one
abbrev pub label_in : Line → Option (List ℕ)
label_in (input x truth) = None
label_in (define x f) = None
label_in (formula engine label x) = label
label_in (contract engine label x y) = label

-- each label is new
unfoldable pub LabelsPass : ℕ → List Line → Labels → Type 0
LabelsPass n [] labels = ⊤
LabelsPass n (l ∷ ls) labels = (later : Labels) × (with_label n (label_in l) labels ≡ Ok later) × LabelsPass (n + 1) ls later

-- ---- programs

-- no instruction of a program weighs more than a specification may, nor do its outputs together
pub record IsLight (program : Program) : Type 0 where
  pub bz : (i : ℕ) (e : Expression) → slice_get (expressions program.bz) i ≡ Some e → expression_weight e ≤ MAX_WEIGHT
  pub ft : (i : ℕ) → i < length program.ft → shown.formula_weight (plain (formula_at program Ft i)) ≤ MAX_WEIGHT
  pub pt : (i : ℕ) → i < length program.pt → shown.formula_weight (plain (formula_at program Pt i)) ≤ MAX_WEIGHT
  pub outputs : shown.program_weight program ≤ MAX_WEIGHT
