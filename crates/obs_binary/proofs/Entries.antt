-- Entries of each part: what is read from the entry of a value is that value, and its numbers fit their fields.
use Rattle.std.specs.Prelude.{⊤}
use Rattle.std.proofs.Common.{◌≡◌, ℕ, ◌^◌, ◌<◌, Bool, true, false, List, length, Option, Some, None, refl, ap}
use Rattle.std.proofs.lemmas.Nat.{from_le_bytes-to_le_bytes_4}
use Rattle.std.proofs.lemmas.Option.{same_Some}
use Rattle.mltl_base.specs.declared.interval.Engine.{Engine}
use Rattle.mltl_base.specs.declared.interval.Engine.TheVariants.{Ft, Pt}
use Rattle.mltl_base.specs.declared.operators.BzOp.{BzOp}
use Rattle.mltl_base.specs.declared.operators.BzOp.TheVariants as bz
use Rattle.mltl_base.specs.declared.operators.FtOp.{FtOp}
use Rattle.mltl_base.specs.declared.operators.FtOp.TheVariants as ft
use Rattle.mltl_base.specs.declared.operators.PtOp.{PtOp}
use Rattle.mltl_base.specs.declared.operators.PtOp.TheVariants as pt
use Rattle.obs_binary.specs.declared.head.OutHead.{OutHead}
use Rattle.obs_binary.specs.declared.head.SignalHead.{SignalHead}
use Rattle.obs_binary.specs.Layout.{bz_entry, ft_entry, pt_entry, out_entry, signal_entry, u32_bytes, i64_bytes, FitsBz, FitsFt, FitsPt}
use Rattle.obs_binary.specs.Reading.{bz_content, ft_content, pt_content, out_content, signal_content, u32_from}
use Rattle.obs_binary.proofs.Numbers.{IsBytes, field-below, signed-fits, signed-again}

-- Entries of `len` bytes that say what they hold.
pub record AreEntries {X : Type 0} (len : ℕ) (spelled : X → List ℕ) (content : List ℕ → Option X) (Holds : X → Type 0) : Type 0 where
  pub len_is : (x : X) → length (spelled x) ≡ len
  pub holds : (x : X) → IsBytes (spelled x) → content (spelled x) ≡ Some x → Holds x
  pub again : (x : X) → Holds x → content (spelled x) ≡ Some x

again : (n : ℕ) → n < 2 ^ 32 → u32_from (u32_bytes n) 0 ≡ n
unfolding u32_bytes
again n lt = from_le_bytes-to_le_bytes_4 n lt

first_is : {A B : Type 0} (x y : A × B) → Some x ≡ Some y → x.0 ≡ y.0
first_is x y e = ap (λ p. p.0) (same_Some x y e)

second_is : {A B : Type 0} (x y : A × B) → Some x ≡ Some y → x.1 ≡ y.1
second_is x y e = ap (λ p. p.1) (same_Some x y e)

-- ---- the Booleanizer

bz_len : (op : BzOp) → length (bz_entry op) ≡ 24
unfolding bz_entry u32_bytes i64_bytes
bz_len (bz.Column c) = refl
bz_len _ = refl

bz_holds : (op : BzOp) → IsBytes (bz_entry op) → bz_content (bz_entry op) ≡ Some op → FitsBz op
unfolding bz_entry bz_content u32_bytes i64_bytes
bz_holds (bz.Column c) fits e = field-below (bz_entry (bz.Column c)) 4 c fits (cc)
bz_holds (bz.IsTrue c) fits e = field-below (bz_entry (bz.IsTrue c)) 4 c fits (cc)
bz_holds (bz.Const v) fits e = signed-fits (bz_entry (bz.Const v)) 8 v fits (cc)
bz_holds (bz.Neg a) fits e = field-below (bz_entry (bz.Neg a)) 4 a fits (cc)
bz_holds (bz.Add a b) fits e = (field-below (bz_entry (bz.Add a b)) 4 a fits (cc), field-below (bz_entry (bz.Add a b)) 8 b fits (cc))
bz_holds (bz.Sub a b) fits e = (field-below (bz_entry (bz.Sub a b)) 4 a fits (cc), field-below (bz_entry (bz.Sub a b)) 8 b fits (cc))
bz_holds (bz.Mul a b) fits e = (field-below (bz_entry (bz.Mul a b)) 4 a fits (cc), field-below (bz_entry (bz.Mul a b)) 8 b fits (cc))
bz_holds (bz.Div a b) fits e = (field-below (bz_entry (bz.Div a b)) 4 a fits (cc), field-below (bz_entry (bz.Div a b)) 8 b fits (cc))
bz_holds (bz.Rem a b) fits e = (field-below (bz_entry (bz.Rem a b)) 4 a fits (cc), field-below (bz_entry (bz.Rem a b)) 8 b fits (cc))
bz_holds (bz.Eq a b) fits e = (field-below (bz_entry (bz.Eq a b)) 4 a fits (cc), field-below (bz_entry (bz.Eq a b)) 8 b fits (cc))
bz_holds (bz.Lt a b) fits e = (field-below (bz_entry (bz.Lt a b)) 4 a fits (cc), field-below (bz_entry (bz.Lt a b)) 8 b fits (cc))
bz_holds (bz.Le a b) fits e = (field-below (bz_entry (bz.Le a b)) 4 a fits (cc), field-below (bz_entry (bz.Le a b)) 8 b fits (cc))

two : {X : Type 0} (op : ℕ → ℕ → X) (a b : ℕ) → (a < 2 ^ 32) × (b < 2 ^ 32) → Some (op (u32_from (u32_bytes a) 0) (u32_from (u32_bytes b) 0)) ≡ Some (op a b)
two op a b h = rw (again a h.0, again b h.1) refl

bz_again : (op : BzOp) → FitsBz op → bz_content (bz_entry op) ≡ Some op
unfolding bz_entry bz_content u32_bytes i64_bytes
bz_again (bz.Column c) h = ap (λ n. Some (bz.Column n)) (again c h)
bz_again (bz.IsTrue c) h = ap (λ n. Some (bz.IsTrue n)) (again c h)
bz_again (bz.Const v) h = ap (λ n. Some (bz.Const n)) (signed-again v h)
bz_again (bz.Neg a) h = ap (λ n. Some (bz.Neg n)) (again a h)
bz_again (bz.Add a b) h = two bz.Add a b h
bz_again (bz.Sub a b) h = two bz.Sub a b h
bz_again (bz.Mul a b) h = two bz.Mul a b h
bz_again (bz.Div a b) h = two bz.Div a b h
bz_again (bz.Rem a b) h = two bz.Rem a b h
bz_again (bz.Eq a b) h = two bz.Eq a b h
bz_again (bz.Lt a b) h = two bz.Lt a b h
bz_again (bz.Le a b) h = two bz.Le a b h

pub bz_entries : AreEntries 24 bz_entry bz_content FitsBz
bz_entries = record { len_is = bz_len; holds = bz_holds; again = bz_again }

-- ---- future time

ft_len : (e : FtOp × ℕ) → length (ft_entry e) ≡ 24
unfolding ft_entry u32_bytes
ft_len (ft.True, size) = refl
ft_len _ = refl

abbrev pub HoldsFt : FtOp × ℕ → Type 0
HoldsFt e = FitsFt e.0 × (e.1 < 2 ^ 32)

ft_holds : (e : FtOp × ℕ) → IsBytes (ft_entry e) → ft_content (ft_entry e) ≡ Some e → HoldsFt e
unfolding ft_entry ft_content u32_bytes
ft_holds (ft.True, size) fits e = (tt, field-below (ft_entry (ft.True, size)) 20 size fits (second_is _ _ e))
ft_holds (ft.Load a, size) fits e =
    let op = first_is _ _ e in
    (field-below (ft_entry (ft.Load a, size)) 4 a fits (cc), field-below (ft_entry (ft.Load a, size)) 20 size fits (second_is _ _ e))
ft_holds (ft.Not a, size) fits e =
    let op = first_is _ _ e in
    (field-below (ft_entry (ft.Not a, size)) 4 a fits (cc), field-below (ft_entry (ft.Not a, size)) 20 size fits (second_is _ _ e))
ft_holds (ft.And a b, size) fits e =
    let op = first_is _ _ e in
    ((field-below (ft_entry (ft.And a b, size)) 4 a fits (cc), field-below (ft_entry (ft.And a b, size)) 8 b fits (cc)), field-below (ft_entry (ft.And a b, size)) 20 size fits (second_is _ _ e))
ft_holds (ft.Until a b i, size) fits e =
    let op = first_is _ _ e in
    ((field-below (ft_entry (ft.Until a b i, size)) 4 a fits (cc), field-below (ft_entry (ft.Until a b i, size)) 8 b fits (cc), field-below (ft_entry (ft.Until a b i, size)) 12 i.lo fits (cc), field-below (ft_entry (ft.Until a b i, size)) 16 i.hi fits (cc)), field-below (ft_entry (ft.Until a b i, size)) 20 size fits (second_is _ _ e))

ft_again : (e : FtOp × ℕ) → HoldsFt e → ft_content (ft_entry e) ≡ Some e
unfolding ft_entry ft_content u32_bytes
ft_again (ft.True, size) h = rw (again size h.1) refl
ft_again (ft.Load a, size) h = rw (again a h.0, again size h.1) refl
ft_again (ft.Not a, size) h = rw (again a h.0, again size h.1) refl
ft_again (ft.And a b, size) h = rw (again a h.0.0, again b h.0.1, again size h.1) refl
ft_again (ft.Until a b i, size) h = rw (again a h.0.0, again b h.0.1, again i.lo h.0.2, again i.hi h.0.3, again size h.1) refl

pub ft_entries : AreEntries 24 ft_entry ft_content HoldsFt
ft_entries = record { len_is = ft_len; holds = ft_holds; again = ft_again }

-- ---- past time

pt_len : (e : PtOp × ℕ) → length (pt_entry e) ≡ 24
unfolding pt_entry u32_bytes
pt_len (pt.True, size) = refl
pt_len _ = refl

abbrev pub HoldsPt : PtOp × ℕ → Type 0
HoldsPt e = FitsPt e.0 × (e.1 < 2 ^ 32)

pt_holds : (e : PtOp × ℕ) → IsBytes (pt_entry e) → pt_content (pt_entry e) ≡ Some e → HoldsPt e
unfolding pt_entry pt_content u32_bytes
pt_holds (pt.True, size) fits e = (tt, field-below (pt_entry (pt.True, size)) 20 size fits (second_is _ _ e))
pt_holds (pt.Load a, size) fits e =
    let op = first_is _ _ e in
    (field-below (pt_entry (pt.Load a, size)) 4 a fits (cc), field-below (pt_entry (pt.Load a, size)) 20 size fits (second_is _ _ e))
pt_holds (pt.Not a, size) fits e =
    let op = first_is _ _ e in
    (field-below (pt_entry (pt.Not a, size)) 4 a fits (cc), field-below (pt_entry (pt.Not a, size)) 20 size fits (second_is _ _ e))
pt_holds (pt.And a b, size) fits e =
    let op = first_is _ _ e in
    ((field-below (pt_entry (pt.And a b, size)) 4 a fits (cc), field-below (pt_entry (pt.And a b, size)) 8 b fits (cc)), field-below (pt_entry (pt.And a b, size)) 20 size fits (second_is _ _ e))
pt_holds (pt.Since a b i, size) fits e =
    let op = first_is _ _ e in
    ((field-below (pt_entry (pt.Since a b i, size)) 4 a fits (cc), field-below (pt_entry (pt.Since a b i, size)) 8 b fits (cc), field-below (pt_entry (pt.Since a b i, size)) 12 i.lo fits (cc), field-below (pt_entry (pt.Since a b i, size)) 16 i.hi fits (cc)), field-below (pt_entry (pt.Since a b i, size)) 20 size fits (second_is _ _ e))

pt_again : (e : PtOp × ℕ) → HoldsPt e → pt_content (pt_entry e) ≡ Some e
unfolding pt_entry pt_content u32_bytes
pt_again (pt.True, size) h = rw (again size h.1) refl
pt_again (pt.Load a, size) h = rw (again a h.0, again size h.1) refl
pt_again (pt.Not a, size) h = rw (again a h.0, again size h.1) refl
pt_again (pt.And a b, size) h = rw (again a h.0.0, again b h.0.1, again size h.1) refl
pt_again (pt.Since a b i, size) h = rw (again a h.0.0, again b h.0.1, again i.lo h.0.2, again i.hi h.0.3, again size h.1) refl

pub pt_entries : AreEntries 24 pt_entry pt_content HoldsPt
pt_entries = record { len_is = pt_len; holds = pt_holds; again = pt_again }

-- ---- outputs

out_len : (o : OutHead) → length (out_entry o) ≡ 24
unfolding out_entry u32_bytes
out_len o = refl

abbrev pub HoldsRight : Option ℕ → Type 0
HoldsRight None = ⊤
HoldsRight (Some right) = right < 2 ^ 32

pub record HoldsOut (o : OutHead) : Type 0 where
  pub left : o.left < 2 ^ 32
  pub right : HoldsRight o.right
  pub name_len : o.name_len < 2 ^ 32

out_of_parts : Engine → ℕ → Option ℕ → ℕ → OutHead
out_of_parts engine left right name_len = record { engine = engine; left = left; right = right; name_len = name_len }

out_holds_parts : (engine : Engine) (left : ℕ) (right : Option ℕ) (name_len : ℕ) → IsBytes (out_entry (out_of_parts engine left right name_len)) → out_content (out_entry (out_of_parts engine left right name_len)) ≡ Some (out_of_parts engine left right name_len) → HoldsOut (out_of_parts engine left right name_len)
unfolding out_of_parts out_entry out_content u32_bytes
out_holds_parts engine left None name_len fits e = record {
  left = field-below (out_entry (out_of_parts engine left None name_len)) 4 left fits (ap (λ (o : OutHead). o.left) (same_Some _ _ e));
  right = tt;
  name_len = field-below (out_entry (out_of_parts engine left None name_len)) 12 name_len fits (ap (λ (o : OutHead). o.name_len) (same_Some _ _ e));
}
out_holds_parts engine left (Some right) name_len fits e = record {
  left = field-below (out_entry (out_of_parts engine left (Some right) name_len)) 4 left fits (ap (λ (o : OutHead). o.left) (same_Some _ _ e));
  right = field-below (out_entry (out_of_parts engine left (Some right) name_len)) 8 right fits (same_Some _ _ (ap (λ (o : OutHead). o.right) (same_Some _ _ e)));
  name_len = field-below (out_entry (out_of_parts engine left (Some right) name_len)) 12 name_len fits (ap (λ (o : OutHead). o.name_len) (same_Some _ _ e));
}

out_holds : (o : OutHead) → IsBytes (out_entry o) → out_content (out_entry o) ≡ Some o → HoldsOut o
unfolding out_of_parts
out_holds o fits e = out_holds_parts o.engine o.left o.right o.name_len fits e

out_again_parts : (engine : Engine) (left : ℕ) (right : Option ℕ) (name_len : ℕ) → left < 2 ^ 32 → HoldsRight right → name_len < 2 ^ 32 → out_content (out_entry (out_of_parts engine left right name_len)) ≡ Some (out_of_parts engine left right name_len)
unfolding out_of_parts out_entry out_content u32_bytes
out_again_parts Ft left None name_len l r n = rw (again left l, again name_len n) refl
out_again_parts Pt left None name_len l r n = rw (again left l, again name_len n) refl
out_again_parts Ft left (Some right) name_len l r n = rw (again left l, again right r, again name_len n) refl
out_again_parts Pt left (Some right) name_len l r n = rw (again left l, again right r, again name_len n) refl

out_again : (o : OutHead) → HoldsOut o → out_content (out_entry o) ≡ Some o
unfolding out_of_parts
out_again o h = out_again_parts o.engine o.left o.right o.name_len h.left h.right h.name_len

pub out_entries : AreEntries 24 out_entry out_content HoldsOut
out_entries = record { len_is = out_len; holds = out_holds; again = out_again }

-- ---- signals

signal_len : (s : SignalHead) → length (signal_entry s) ≡ 8
unfolding signal_entry u32_bytes
signal_len s = refl

pub record HoldsSignal (s : SignalHead) : Type 0 where
  pub column : s.column < 2 ^ 32

signal_of_parts : ℕ → Bool → ℕ → SignalHead
signal_of_parts column truth name_len = record { column = column; truth = truth; name_len = name_len }

signal_holds : (s : SignalHead) → IsBytes (signal_entry s) → signal_content (signal_entry s) ≡ Some s → HoldsSignal s
unfolding signal_entry signal_content u32_bytes
signal_holds s fits e = record { column = field-below (signal_entry s) 0 s.column fits (ap (λ (h : SignalHead). h.column) (same_Some _ _ e)) }

signal_again_parts : (column : ℕ) (truth : Bool) (name_len : ℕ) → column < 2 ^ 32 → signal_content (signal_entry (signal_of_parts column truth name_len)) ≡ Some (signal_of_parts column truth name_len)
unfolding signal_of_parts signal_entry signal_content u32_bytes
signal_again_parts column true name_len c = rw (again column c) refl
signal_again_parts column false name_len c = rw (again column c) refl

signal_again : (s : SignalHead) → HoldsSignal s → signal_content (signal_entry s) ≡ Some s
unfolding signal_of_parts
signal_again s h = signal_again_parts s.column s.truth s.name_len h.column

pub signal_entries : AreEntries 8 signal_entry signal_content HoldsSignal
signal_entries = record { len_is = signal_len; holds = signal_holds; again = signal_again }
