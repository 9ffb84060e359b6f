-- Going through the lines of a program: what is known after the lines of its signals and of its instructions.

use Rattle.std.proofs.Common.{◌≡◌, ◌∙◌, ℕ, ◌+◌, zero, suc, Bool, true, false, not, List, [], ◌∷◌, ◌++◌, length, map, Option, Some, None, refl, ap, sym, subst, arith, append_assoc, inl, inr, nat_lt}
use Rattle.std.specs.Prelude.{slice_get, slice_index, if◌then◌else◌, ◌⊎◌, ◌==◌, ◌&&◌, ◌||◌, option_map, ⊤}
use Rattle.std.specs.List.{list_any, enumerate_from, filter_map, cons_option}
use Rattle.std.proofs.lemmas.Option.{same_Some}
use Rattle.std.specs.Cmp.{unsigned_Decides}
use Rattle.std.proofs.lemmas.List.{length-append}
use Rattle.std.proofs.lemmas.Bool.{and_parts}
use Rattle.std.proofs.Math.Bool.{or-true}
use Rattle.mltl_base.specs.declared.operators.ArithOp as arith_op
use Rattle.mltl_base.specs.declared.operators.CompareOp as compare_op
use Rattle.mltl_base.specs.declared.operators.BzOp as bz
use Rattle.mltl_base.specs.declared.program.Program.{Program}
use Rattle.mltl_base.specs.declared.program.StoredSignal.{StoredSignal}
use Rattle.mltl_base.specs.Atoms as atoms
use Rattle.mltl_base.specs.Atoms.{term_over, atom_over}
use Rattle.mltl_base.specs.Formula as full
use Rattle.mltl_base.specs.Formula.{Formula, Core, ctrue, catom, cnot, cand, cuntil, csince, plain, formula_over}
use Rattle.mltl_base.specs.Programs as programs
use Rattle.mltl_base.specs.Programs.{Expression, whole, truth, term_at, expression_of, expressions_after, expressions, core_at, op_formula, past_formula_of, formulas_after, past_formulas_after}
use Rattle.obs_verify.specs.WellFormed.{is_truth, has_kind, has_operands}
use Rattle.obs_verify.specs.Soundness.{IsWhole, IsWholeExpression, AreWhole, SoundOp, SoundOps}
use Rattle.c2po_ast.specs.Nodes.{arithmetic, comparison}
use Rattle.c2po_types.specs.Values.{number_value}
use Rattle.c2po_types.specs.Environment.{Env, nothing, value, signal_value, value_of}
use Rattle.c2po_types.specs.Outputs.{Place, place_after, asked_from}
use Rattle.obs_show.specs.Lines.{Reference, named, Form, arith as computes, compare, Line, define}
use Rattle.obs_show.specs.Naming.{name_in, bz_name, bz_called, bz_reference}
use Rattle.obs_show.specs.Text.{bz_form, bz_line}
use Rattle.obs_show.specs.Weight.{term_weight, formula_weight}
use Rattle.c2po_ast.proofs.Places.{get_left}
use Rattle.obs_verify.proofs.RuleLaws.{and_right}
use Rattle.show_roundtrip.specs.Said.{form_shape, line_body, line_items}
use Rattle.show_roundtrip.specs.Unfolded.{AreNew}
use Rattle.show_roundtrip.proofs.Passing.{form_value, ValuesPass}
use Rattle.show_roundtrip.proofs.Values.{IsLater, declare_later, declared_here, Means, means_later, FormSays, minus_says, arith_says, compare_says}
use Rattle.show_roundtrip.proofs.Definable.{IsDefinable, AreDefinable, IsValueDefinable, value_definable}

-- lines after some others, and what holds where they begin; where the instructions of the program may be defined, no
-- value of the lines before them is refused
pub record Reaches (program : Program) (n : ℕ) (lines : List Line) (p : Place) (more : List Line) (I : Place → Type 0) : Type 0 where
  pub line : ℕ
  pub place : Place
  pub new : AreNew line more place
  pub holds : I place
  pub same : asked_from (line_items n lines) p ≡ asked_from (line_items line more) place
  pub passes : AreDefinable program → (total : ℕ) → ValuesPass line more place total → ValuesPass n lines p total

pub reaches_at_once : (program : Program) (n : ℕ) (lines : List Line) (p : Place) (I : Place → Type 0) → AreNew n lines p → I p → Reaches program n lines p lines I
reaches_at_once program n lines p I new h = record { line = n; place = p; new = new; holds = h; same = refl; passes = λ d total pass. pass }

-- from there further on
pub reaches_on : (program : Program) (n : ℕ) (lines middle more : List Line) (p : Place) (I J : Place → Type 0)
    → (r : Reaches program n lines p middle I) → Reaches program r.line middle r.place more J → Reaches program n lines p more J
reaches_on program n lines middle more p I J r s =
    record { line = s.line; place = s.place; new = s.new; holds = s.holds; same = r.same ∙ s.same; passes = λ d total pass. r.passes d total (s.passes d total pass) }

-- a member of a list with one more is one of before, or the one more
pub get_push : {X : Type 0} (xs : List X) (x y : X) (i : ℕ) → slice_get (xs ++ x ∷ []) i ≡ Some y → (slice_get xs i ≡ Some y) ⊎ ((i ≡ length xs) × (x ≡ y))
get_push [] x y zero h = inr (refl, cc)
get_push [] x y (suc i) h = absurd (cc)
get_push (z ∷ xs) x y zero h = inl h
get_push (z ∷ xs) x y (suc i) h = next (get_push xs x y i h)
  where
    next : (slice_get xs i ≡ Some y) ⊎ ((i ≡ length xs) × (x ≡ y)) → (slice_get xs i ≡ Some y) ⊎ ((suc i ≡ suc (length xs)) × (x ≡ y))
    next (inl e) = inl e
    next (inr e) = inr (ap suc e.0, e.1)

pub get_seam : {X : Type 0} (xs : List X) (x : X) (ys : List X) → slice_get (xs ++ x ∷ ys) (length xs) ≡ Some x
get_seam [] x ys = refl
get_seam (z ∷ xs) x ys = get_seam xs x ys

-- the columns of the signals of a program
abbrev pub columns_in : Program → List ℕ
columns_in program = map (λ signal. signal.column) program.signals

-- what is known of signals
abbrev pub KnowsSignals : List StoredSignal → Env → Type 0
KnowsSignals signals env = (k : ℕ) (s : StoredSignal) → slice_get signals k ≡ Some s → env s.name ≡ value (signal_value s.truth k)

pub signals_later : (signals : List StoredSignal) (env later : Env) → IsLater env later → KnowsSignals signals env → KnowsSignals signals later
signals_later signals env later g h k s e = g s.name (signal_value s.truth k) (h k s e)

-- what is known of the first instructions of the Booleanizer: what each is called says its expression, and one that gives a
-- truth has a truth
abbrev pub IsTruthExpression : Expression → Type 0
IsTruthExpression (truth a) = ⊤
IsTruthExpression (whole t) = ⊥

pub record KnowsOne (program : Program) (env : Env) (j : ℕ) (e : Expression) : Type 0 where
  pub means : Means (columns_in program) env (bz_reference program j) e
  pub kind : is_truth (slice_get program.bz j) ≡ true → IsTruthExpression e

abbrev pub Knows : Program → Env → List Expression → Type 0
Knows program env before = (j : ℕ) (e : Expression) → slice_get before j ≡ Some e → KnowsOne program env j e

pub knows_later : (program : Program) (env later : Env) (before : List Expression) → IsLater env later → Knows program env before → Knows program later before
knows_later program env later before g h j e i = let k = h j e i in record { means = means_later (columns_in program) env later (bz_reference program j) e g k.means; kind = k.kind }

knows_push : (program : Program) (env : Env) (before : List Expression) (e : Expression) → Knows program env before → KnowsOne program env (length before) e → Knows program env (before ++ e ∷ [])
knows_push program env before e h k j d i = pick (get_push before e d j i)
  where
    pick : (slice_get before j ≡ Some d) ⊎ ((j ≡ length before) × (e ≡ d)) → KnowsOne program env j d
    pick (inl old) = h j d old
    pick (inr last) = subst (λ (m : ℕ). KnowsOne program env m d) (sym last.0) (subst (KnowsOne program env (length before)) last.1 k)

-- a whole number that an earlier instruction gives
operand : (program : Program) (env : Env) (before : List Expression) (a : ℕ) → Knows program env before → IsWhole before a → Means (columns_in program) env (bz_reference program a) (whole (term_at before a))
operand program env before a h is = go (slice_get before a) refl is
  where
    go : (o : Option Expression) → slice_get before a ≡ o → IsWholeExpression o → Means (columns_in program) env (bz_reference program a) (whole (programs.expression_term (slice_get before a)))
    go None e g = absurd g
    go (Some (truth t)) e g = absurd g
    go (Some (whole t)) e g = subst (λ (o : Option Expression). Means (columns_in program) env (bz_reference program a) (whole (programs.expression_term o))) (sym e) (h a (whole t) e).means

-- what a form says, where there is one
abbrev pub OptionSays : List ℕ → Env → Option Form → Expression → Type 0
OptionSays columns env None e = ⊤
OptionSays columns env (Some f) e = FormSays columns env f e

arith_operands : (program : Program) (env : Env) (before : List Expression) (op : arith_op.ArithOp) (a b : ℕ) → Knows program env before → AreWhole before a b
    → FormSays (columns_in program) env (computes op (bz_reference program a) (bz_reference program b)) (whole (arithmetic op (term_at before a) (term_at before b)))
arith_operands program env before op a b h are =
    arith_says (columns_in program) env op (bz_reference program a) (bz_reference program b) (term_at before a) (term_at before b)
    (operand program env before a h are.0) (operand program env before b h are.1)

compare_operands : (program : Program) (env : Env) (before : List Expression) (op : compare_op.CompareOp) (a b : ℕ) → Knows program env before → AreWhole before a b
    → FormSays (columns_in program) env (compare op (bz_reference program a) (bz_reference program b)) (truth (comparison op (term_at before a) (term_at before b)))
compare_operands program env before op a b h are =
    compare_says (columns_in program) env op (bz_reference program a) (bz_reference program b) (term_at before a) (term_at before b)
    (operand program env before a h are.0) (operand program env before b h are.1)

bz_says : (program : Program) (env : Env) (before : List Expression) (op : bz.BzOp) → Knows program env before → SoundOp program.width before op
    → OptionSays (columns_in program) env (bz_form program op) (expression_of before op)
bz_says program env before (bz.TheVariants.Neg a) h ok = minus_says (columns_in program) env (bz_reference program a) (term_at before a) (operand program env before a h ok.0)
bz_says program env before (bz.TheVariants.Add a b) h ok = arith_operands program env before arith_op.TheVariants.Add a b h ok.0
bz_says program env before (bz.TheVariants.Sub a b) h ok = arith_operands program env before arith_op.TheVariants.Sub a b h ok.0
bz_says program env before (bz.TheVariants.Mul a b) h ok = arith_operands program env before arith_op.TheVariants.Mul a b h ok.0
bz_says program env before (bz.TheVariants.Div a b) h ok = arith_operands program env before arith_op.TheVariants.Div a b h ok.0
bz_says program env before (bz.TheVariants.Rem a b) h ok = arith_operands program env before arith_op.TheVariants.Rem a b h ok.0
bz_says program env before (bz.TheVariants.Eq a b) h ok = compare_operands program env before compare_op.TheVariants.Eq a b h ok
bz_says program env before (bz.TheVariants.Lt a b) h ok = compare_operands program env before compare_op.TheVariants.Lt a b h ok
bz_says program env before (bz.TheVariants.Le a b) h ok = compare_operands program env before compare_op.TheVariants.Le a b h ok
bz_says program env before _ h ok = tt

-- an instruction that gives a truth says one
kind_of_op : (before : List Expression) (op : bz.BzOp) → is_truth (Some op) ≡ true → IsTruthExpression (expression_of before op)
kind_of_op before (bz.TheVariants.IsTrue c) h = tt
kind_of_op before (bz.TheVariants.Eq a b) h = tt
kind_of_op before (bz.TheVariants.Lt a b) h = tt
kind_of_op before (bz.TheVariants.Le a b) h = tt
kind_of_op before _ h = absurd (cc)

-- signals by their columns
abbrev pub HaveOwnColumns : List StoredSignal → Type 0
HaveOwnColumns [] = ⊤
HaveOwnColumns (s ∷ ss) = (list_any (λ t. t.column == s.column) ss ≡ false) × HaveOwnColumns ss

-- the signal in a column, by its number
pub record InColumn (ss : List StoredSignal) (c : ℕ) (b : Bool) : Type 0 where
  pub number_is : ℕ
  pub signal : StoredSignal
  pub stands : slice_get ss number_is ≡ Some signal
  pub column_is : signal.column ≡ c
  pub kind_is : signal.truth ≡ b
  pub name_is : name_in ss c ≡ signal.name

any_weaker : {X : Type 0} (p q : X → Bool) (xs : List X) → ((x : X) → p x ≡ true → q x ≡ true) → list_any p xs ≡ true → list_any q xs ≡ true
any_weaker p q [] h e = absurd (cc)
any_weaker p q (x ∷ xs) h e = go (any_weaker p q xs h) (p x) refl e
  where
    go : (list_any p xs ≡ true → list_any q xs ≡ true) → (b : Bool) → p x ≡ b → (b || list_any p xs) ≡ true → (q x || list_any q xs) ≡ true
    go ih true i g = rw (h x i) refl
    go ih false i g = rw (ih g) (or-true (q x))

kind_test : (t b : Bool) → (if b then t else not t) ≡ true → t ≡ b
kind_test true false h = absurd (cc)
kind_test false true h = absurd (cc)
kind_test _ _ h = refl

pub in_column : (ss : List StoredSignal) (c : ℕ) (b : Bool) → HaveOwnColumns ss → has_kind ss c b ≡ true → InColumn ss c b
in_column [] c b own h = absurd (cc)
in_column (s ∷ ss) c b own h = go (in_column ss c b own.1) (s.column == c) refl (if b then s.truth else not s.truth) refl h
  where
    go : (has_kind ss c b ≡ true → InColumn ss c b) → (t : Bool) → (s.column == c) ≡ t → (k : Bool) → (if b then s.truth else not s.truth) ≡ k → ((t && k) || has_kind ss c b) ≡ true → InColumn (s ∷ ss) c b
    go ih true e true f g = record { number_is = 0; signal = s; stands = refl; column_is = (unsigned_Decides s.column c).0 e; kind_is = kind_test s.truth b f; name_is = ap (λ (u : Bool). if u then s.name else name_in ss c) e }
    go ih true e false f g =
        let same : s.column ≡ c = (unsigned_Decides s.column c).0 e in
        let found : list_any (λ (t : StoredSignal). t.column == s.column) ss ≡ true = any_weaker (λ (signal : StoredSignal). (signal.column == c) && (if b then signal.truth else not signal.truth)) (λ (t : StoredSignal). t.column == s.column) ss
        (λ x i. ap (λ (m : ℕ). x.column == m) same ∙ (and_parts (x.column == c) (if b then x.truth else not x.truth) i).0) g in
        absurd (cc)
    go ih false e k f g =
        let r = ih g in
        record { number_is = suc r.number_is; signal = r.signal; stands = r.stands; column_is = r.column_is; kind_is = r.kind_is; name_is = ap (λ (u : Bool). if u then s.name else name_in ss c) e ∙ r.name_is }

column_by : (ss : List StoredSignal) (k : ℕ) (s : StoredSignal) → slice_get ss k ≡ Some s → slice_index (map (λ t. t.column) ss) k ≡ s.column
column_by [] k s e = absurd (cc)
column_by (t ∷ ss) zero s e = ap (λ (u : StoredSignal). u.column) (same_Some t s e)
column_by (t ∷ ss) (suc k) s e = column_by ss k s e

-- an instruction that is no operation: a column by its signal, or a constant
abbrev pub HasKindFor : Program → bz.BzOp → Type 0
HasKindFor program (bz.TheVariants.Column c) = has_kind program.signals c false ≡ true
HasKindFor program (bz.TheVariants.IsTrue c) = has_kind program.signals c true ≡ true
HasKindFor program op = ⊤

pub kind_for : (program : Program) (i : ℕ) (op : bz.BzOp) → program.version ≡ 2 → has_operands program i op ≡ true → HasKindFor program op
kind_for program i (bz.TheVariants.Column c) v h = ap (λ n. (n == 1) || has_kind program.signals c false) (sym v) ∙ and_right (nat_lt c program.width) ((program.version == 1) || has_kind program.signals c false) h
kind_for program i (bz.TheVariants.IsTrue c) v h = ap (λ n. (n == 1) || has_kind program.signals c true) (sym v) ∙ and_right (nat_lt c program.width) ((program.version == 1) || has_kind program.signals c true) h
kind_for program i _ v h = tt

bz_reads : (program : Program) (env : Env) (i : ℕ) (before : List Expression) (op : bz.BzOp) → KnowsSignals program.signals env → HaveOwnColumns program.signals → HasKindFor program op → bz_form program op ≡ None
    → Means (columns_in program) env (bz_called program i (Some op)) (expression_of before op)
unfolding term_over formula_over atom_over term_weight formula_weight
bz_reads program env i before (bz.TheVariants.Column c) know own kind none =
    let s = in_column program.signals c false own kind in
    record {
      of = signal_value false s.number_is;
      finds = ap env s.name_is ∙ know s.number_is s.signal s.stands ∙ ap (λ b. value (signal_value b s.number_is)) s.kind_is;
      says = record { tree = atoms.column s.number_is; is = refl; over = ap atoms.column (column_by program.signals s.number_is s.signal s.stands ∙ s.column_is); weighs = refl };
    }
bz_reads program env i before (bz.TheVariants.IsTrue c) know own kind none =
    let s = in_column program.signals c true own kind in
    record {
      of = signal_value true s.number_is;
      finds = ap env s.name_is ∙ know s.number_is s.signal s.stands ∙ ap (λ b. value (signal_value b s.number_is)) s.kind_is;
      says = record { tree = full.atom (atoms.is_true s.number_is); is = refl; over = ap (λ n. full.atom (atoms.is_true n)) (column_by program.signals s.number_is s.signal s.stands ∙ s.column_is); weighs = refl };
    }
bz_reads program env i before (bz.TheVariants.Const n) know own kind none =
    record { of = number_value n; finds = refl; says = record { tree = atoms.constant n; is = refl; over = refl; weighs = refl } }
bz_reads program env i before _ know own kind none = absurd (cc)

-- an operation is called by its defined name
bz_named : (program : Program) (i : ℕ) (op : bz.BzOp) (f : Form) → bz_form program op ≡ Some f → bz_called program i (Some op) ≡ named (bz_name program i)
bz_named program i (bz.TheVariants.Column c) f e = absurd (cc)
bz_named program i (bz.TheVariants.IsTrue c) f e = absurd (cc)
bz_named program i (bz.TheVariants.Const n) f e = absurd (cc)
bz_named program i _ f e = refl

-- the lines that a rule gives from a number on
abbrev pub lines_from : {X : Type 0} → (ℕ → X → Option Line) → ℕ → List X → List Line
lines_from rule i xs = filter_map (λ p. rule p.0 p.1) (enumerate_from i xs)

-- a line is put before others, where there is one
abbrev pub put : List ℕ → Option Form → List Line → List Line
put x None lines = lines
put x (Some f) lines = define x f ∷ lines

pub put_is : (x : List ℕ) (o : Option Form) (ls more : List Line) → cons_option (option_map (define x) o) ls ++ more ≡ put x o (ls ++ more)
put_is x None ls more = refl
put_is x (Some f) ls more = refl

-- what is known after the Booleanizer's lines
pub record BzKnown (program : Program) (count : ℕ) (es : List Expression) (p : Place) : Type 0 where
  pub knows : Knows program p.values es
  pub signals : KnowsSignals program.signals p.values
  pub outputs : p.outputs ≡ count

-- after a definition, names keep their meanings, and its own name has its value
pub defined_later : (n : ℕ) (x : List ℕ) (f : Form) (p : Place) → IsLater p.values (place_after (line_body n (define x f)) p).values
defined_later n x f p = declare_later x (value (value_of (form_shape n f) p.values)) p.values

-- a signal and a definition add nothing to the weight of the outputs
pub nothing_added : (total : ℕ) → total ≡ total + 0
nothing_added total = omega arith

-- one more line: what was reached after it is reached from it
pub reaches_define : (program : Program) (n : ℕ) (x : List ℕ) (f : Form) (ls more : List Line) (p : Place) (I : Place → Type 0) → (AreDefinable program → IsValueDefinable (form_value n f p))
    → Reaches program (n + 1) ls (place_after (line_body n (define x f)) p) more I → Reaches program n (define x f ∷ ls) p more I
unfolding asked_from line_items ValuesPass
reaches_define program n x f ls more p I definable r = record {
  line = r.line;
  place = r.place;
  new = r.new;
  holds = r.holds;
  same = r.same;
  passes = λ d total pass. (definable d, subst (ValuesPass (n + 1) ls (place_after (line_body n (define x f)) p)) (nothing_added total) (r.passes d total pass));
}

pub new_head : (n : ℕ) (x : List ℕ) (f : Form) (ls : List Line) (p : Place) → AreNew n (define x f ∷ ls) p → (p.values x ≡ nothing) × AreNew (n + 1) ls (place_after (line_body n (define x f)) p)
unfolding AreNew
new_head n x f ls p h = h

-- the instruction at the place where it stands
bz_means : (program : Program) (env : Env) (i : ℕ) (op : bz.BzOp) (e : Expression) → slice_get program.bz i ≡ Some op → Means (columns_in program) env (bz_called program i (Some op)) e
    → (is_truth (Some op) ≡ true → IsTruthExpression e) → KnowsOne program env i e
bz_means program env i op e at m kind = record {
  means = subst (λ (o : Option bz.BzOp). Means (columns_in program) env (bz_called program i o) e) (sym at) m;
  kind = λ h. kind (ap is_truth (sym at) ∙ h);
}

step_bz : (program : Program) (i n outputs : ℕ) (op : bz.BzOp) (before es : List Expression) (ls more : List Line) (p : Place) (o : Option Form)
    → bz_form program op ≡ o → slice_get program.bz i ≡ Some op → length before ≡ i → has_operands program i op ≡ true → program.version ≡ 2 → HaveOwnColumns program.signals
    → SoundOp program.width before op → (AreDefinable program → IsDefinable (expression_of before op)) → BzKnown program outputs before p
    → ((m : ℕ) (q : Place) → BzKnown program outputs (before ++ expression_of before op ∷ []) q → AreNew m (ls ++ more) q → Reaches program m (ls ++ more) q more (BzKnown program outputs es))
    → AreNew n (put (bz_name program i) o (ls ++ more)) p → Reaches program n (put (bz_name program i) o (ls ++ more)) p more (BzKnown program outputs es)
step_bz program i n outputs op before es ls more p None none at len ok version own sound definable h go new =
    let m = bz_reads program p.values i before op h.signals own (kind_for program i op version ok) none in
    let one : KnowsOne program p.values i (expression_of before op) = bz_means program p.values i op (expression_of before op) at m (kind_of_op before op) in
    go n p (record { knows = knows_push program p.values before (expression_of before op) h.knows (subst (λ (k : ℕ). KnowsOne program p.values k (expression_of before op)) (sym len) one); signals = h.signals; outputs = h.outputs }) new
step_bz program i n outputs op before es ls more p (Some f) some at len ok version own sound definable h go new =
    let says : FormSays (columns_in program) p.values f (expression_of before op) =
    subst (λ (o : Option Form). OptionSays (columns_in program) p.values o (expression_of before op)) some
    (bz_says program p.values before op h.knows sound) in
    let head = new_head n (bz_name program i) f (ls ++ more) p new in
    let q : Place = place_after (line_body n (define (bz_name program i) f)) p in
    let later : IsLater p.values q.values = defined_later n (bz_name program i) f p in
    let m : Means (columns_in program) q.values (named (bz_name program i)) (expression_of before op) =
    record { of = value_of (form_shape n f) p.values; finds = declared_here (bz_name program i) (value_of (form_shape n f) p.values) p.values head.0; says = says n } in
    let one : KnowsOne program q.values i (expression_of before op) =
    bz_means program q.values i op (expression_of before op) at (subst (λ (x : Reference). Means (columns_in program) q.values x (expression_of before op)) (sym (bz_named program i op f some)) m) (kind_of_op before op) in
    let next : BzKnown program outputs (before ++ expression_of before op ∷ []) q = record {
      knows = knows_push program q.values before (expression_of before op) (knows_later program p.values q.values before later h.knows) (subst (λ (k : ℕ). KnowsOne program q.values k (expression_of before op)) (sym len) one);
      signals = signals_later program.signals p.values q.values later h.signals;
      outputs = let same : p.outputs + 0 ≡ p.outputs = omega arith in same ∙ h.outputs;
    } in
    reaches_define program n (bz_name program i) f (ls ++ more) more p (BzKnown program outputs es)
    (λ d. value_definable (columns_in program) (form_value n f p) (expression_of before op) (says n) (definable d)) (go (n + 1) q next head.1)

-- each instruction from a number on has its operands
abbrev pub HaveOperands : Program → ℕ → List bz.BzOp → Type 0
HaveOperands program i [] = ⊤
HaveOperands program i (op ∷ ops) = (has_operands program i op ≡ true) × HaveOperands program (i + 1) ops

pub expressions_kept : (ops : List bz.BzOp) (before : List Expression) (i : ℕ) (e : Expression) → slice_get before i ≡ Some e → slice_get (expressions_after before ops) i ≡ Some e
unfolding expressions_after
expressions_kept [] before i e h = h
expressions_kept (op ∷ ops) before i e h = expressions_kept ops (before ++ expression_of before op ∷ []) i e (get_left before (expression_of before op ∷ []) i e h)

-- so an instruction has its own among those of all
expression_here : (program : Program) (op : bz.BzOp) (ops : List bz.BzOp) (before : List Expression) → expressions_after before (op ∷ ops) ≡ expressions program.bz
    → slice_get (expressions program.bz) (length before) ≡ Some (expression_of before op)
unfolding expressions_after
expression_here program op ops before ends =
    ap (λ (es : List Expression). slice_get es (length before)) (sym ends)
    ∙ expressions_kept ops (before ++ expression_of before op ∷ []) (length before) (expression_of before op) (get_seam before (expression_of before op) [])

pub walk_bz : (program : Program) (front ops : List bz.BzOp) (before : List Expression) (i n outputs : ℕ) (more : List Line) (p : Place)
    → program.bz ≡ front ++ ops → length front ≡ i → length before ≡ i → HaveOperands program i ops → program.version ≡ 2 → HaveOwnColumns program.signals
    → SoundOps program.width before ops → expressions_after before ops ≡ expressions program.bz → BzKnown program outputs before p
    → AreNew n (lines_from (bz_line program) i ops ++ more) p → Reaches program n (lines_from (bz_line program) i ops ++ more) p more (BzKnown program outputs (expressions_after before ops))
unfolding expressions_after SoundOps
walk_bz program front [] before i n outputs more p all fronts len ok version own sound ends h new = reaches_at_once program n more p (BzKnown program outputs before) new h
walk_bz program front (op ∷ ops) before i n outputs more p all fronts len ok version own sound ends h new =
    let at : slice_get program.bz i ≡ Some op = ap (λ (xs : List bz.BzOp). slice_get xs i) all ∙ ap (λ (k : ℕ). slice_get (front ++ op ∷ ops) k) (sym fronts) ∙ get_seam front op ops in
    let lines : lines_from (bz_line program) i (op ∷ ops) ++ more ≡ put (bz_name program i) (bz_form program op) (lines_from (bz_line program) (i + 1) ops ++ more) = put_is (bz_name program i) (bz_form program op) (lines_from (bz_line program) (i + 1) ops) more in
    subst (λ (ls : List Line). Reaches program n ls p more (BzKnown program outputs (expressions_after (before ++ expression_of before op ∷ []) ops))) (sym lines)
    (step_bz program i n outputs op before (expressions_after (before ++ expression_of before op ∷ []) ops) (lines_from (bz_line program) (i + 1) ops) more p (bz_form program op) refl at len ok.0 version own sound.0
    (λ d. d.bz (length before) (expression_of before op) (expression_here program op ops before ends)) h
    (λ m q k fresh. walk_bz program (front ++ op ∷ []) ops (before ++ expression_of before op ∷ []) (i + 1) m outputs more q (all ∙ sym (append_assoc front (op ∷ []) ops)) (omega (arith, length-append front (op ∷ []))) (omega (arith, length-append before (expression_of before op ∷ []))) ok.1 version own sound.1 ends k fresh)
    (subst (λ (ls : List Line). AreNew n ls p) lines new))
