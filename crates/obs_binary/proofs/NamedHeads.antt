-- Outputs and signals with their names.
use Rattle.std.proofs.Common.{◌≡◌, ℕ, ◌^◌, ◌<◌, List, length, Option, Some, None, refl, ap, arith}
use Rattle.mltl_base.specs.declared.interval.Engine.{Engine}
use Rattle.mltl_base.specs.declared.program.Out.{Out}
use Rattle.mltl_base.specs.declared.program.Out.TheVariants.{Formula, Contract}
use Rattle.mltl_base.specs.declared.program.StoredSignal.{StoredSignal}
use Rattle.obs_binary.specs.declared.head.OutHead.{OutHead}
use Rattle.obs_binary.specs.Layout.{out_head, signal_name, signal_head, FitsName, FitsOut, FitsSignal}
use Rattle.mltl_base.specs.Programs.{out_name}
use Rattle.obs_binary.specs.Reading.{out_of, stored_signal}
use Rattle.obs_binary.proofs.Entries.{HoldsOut, HoldsRight, HoldsSignal}
use Rattle.obs_binary.proofs.Parts.{AreNamed}

parts : Engine → ℕ → Option ℕ → ℕ → OutHead
parts engine left right name_len = record { engine = engine; left = left; right = right; name_len = name_len }

head-parts : (engine : Engine) (left : ℕ) (right : Option ℕ) (name_len : ℕ) (name : List ℕ) → length name ≡ name_len → out_head (out_of (parts engine left right name_len) name) ≡ parts engine left right name_len
unfolding parts
head-parts engine left None name_len name e = ap (λ n. parts engine left None n) e
head-parts engine left (Some right) name_len name e = ap (λ n. parts engine left (Some right) n) e

name-parts : (engine : Engine) (left : ℕ) (right : Option ℕ) (name_len : ℕ) (name : List ℕ) → out_name (out_of (parts engine left right name_len) name) ≡ name
unfolding parts
name-parts engine left None name_len name = refl
name-parts engine left (Some right) name_len name = refl

fits-parts : (engine : Engine) (left : ℕ) (right : Option ℕ) (name_len : ℕ) (name : List ℕ) → left < 2 ^ 32 → HoldsRight right → FitsName name → FitsOut (out_of (parts engine left right name_len) name)
unfolding parts
fits-parts engine left None name_len name l r n = (l, n)
fits-parts engine left (Some right) name_len name l r n = (l, r, n)

out-again : (o : Out) → out_of (out_head o) (out_name o) ≡ o
out-again (Formula engine a name) = refl
out-again (Contract engine a b name) = refl

out-len : (o : Out) → (out_head o).name_len ≡ length (out_name o)
out-len (Formula engine a name) = refl
out-len (Contract engine a b name) = refl

out-named : (o : Out) → FitsOut o → FitsName (out_name o)
out-named (Formula engine a name) f = f.1
out-named (Contract engine a b name) f = f.2

pub outs-are : AreNamed (λ h. h.name_len) out_of out_head out_name HoldsOut FitsOut
unfolding parts
outs-are = record {
  head = λ h name e. head-parts h.engine h.left h.right h.name_len name e;
  name = λ h name. name-parts h.engine h.left h.right h.name_len name;
  fits = λ h name holds n. fits-parts h.engine h.left h.right h.name_len name holds.left holds.right n;
  again = out-again;
  len_is = out-len;
  named = out-named;
}

pub signals-are : AreNamed (λ h. h.name_len) stored_signal signal_head signal_name HoldsSignal FitsSignal
signals-are = record {
  head = λ h name e. (λ i. record { column = h.column; truth = h.truth; name_len = e i });
  name = λ h name. refl;
  fits = λ h name holds n. (holds.column, n);
  again = λ s. refl;
  len_is = λ s. refl;
  named = λ s f. f.1;
}

-- what the head of an output or a signal that fits holds
pub out-head-holds : (o : Out) → FitsOut o → HoldsOut (out_head o)
out-head-holds (Formula engine a name) f = record { left = f.0; right = tt; name_len = omega (arith, f.1.1) }
out-head-holds (Contract engine a b name) f = record { left = f.0; right = f.1; name_len = omega (arith, f.2.1) }

pub signal-head-holds : (s : StoredSignal) → FitsSignal s → HoldsSignal (signal_head s)
signal-head-holds s f = record { column = f.0 }
