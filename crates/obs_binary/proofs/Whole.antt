-- Whole programs: what is read is spelled so, and what is spelled so is read.
use Rattle.std.proofs.Common.{◌≡◌, ℕ, suc, ◌+◌, ◌*◌, ◌^◌, ◌<◌, Bool, true, false, cond, List, [], ◌∷◌, ◌++◌, length, take, drop, map, Option, Result, Ok, Err, refl, sym, ap, subst, ◌∙◌, arith, inl, inr}
use Rattle.std.specs.Prelude.{◌==◌, IfOk}
use Rattle.std.specs.List.{flat_map, zip, AllByRecursion, list_all}
use Rattle.std.proofs.lemmas.List.{length-append, take-append-drop, take_at, drop_at, length-take, length-drop, length-map, nil_from_length}
use Rattle.mltl_base.specs.declared.operators.BzOp.{BzOp}
use Rattle.mltl_base.specs.declared.operators.FtOp.{FtOp}
use Rattle.mltl_base.specs.declared.operators.PtOp.{PtOp}
use Rattle.mltl_base.specs.declared.program.Out.{Out}
use Rattle.mltl_base.specs.declared.program.StoredSignal.{StoredSignal}
use Rattle.mltl_base.specs.declared.program.Program.{Program}
use Rattle.obs_binary.specs.declared.head.OutHead.{OutHead}
use Rattle.obs_binary.specs.declared.head.SignalHead.{SignalHead}
use Rattle.obs_binary.specs.declared.header.Header.{Header}
use Rattle.obs_binary.specs.declared.fault.ReadFault.{ReadFault}
use Rattle.obs_binary.specs.declared.fault.ReadFault.TheVariants.{NameBytes, SignalBytes}
use Rattle.mltl_base.specs.Letters.{is_in_word}
use Rattle.obs_binary.specs.Layout.{bz_entry, ft_entry, pt_entry, out_entry, signal_entry, u16_bytes, u32_bytes, header_len, header_bytes, body_len, out_head, signal_name, signal_head, out_names, signal_names, header_of, spelling, IsVersioned, FitsBz, FitsFt, FitsPt, FitsOut, FitsSignal, IsEncodable}
use Rattle.mltl_base.specs.Programs.{out_name}
use Rattle.obs_binary.specs.Reading.{◌>>=◌, GivesReading, entry_at, each_at, bz_content, ft_content, pt_content, out_content, signal_content, out_of, stored_signal, outs_named, signals_named, said_len, header_at, past_header, program_at}
use Rattle.obs_binary.proofs.Numbers.{IsBytes, IsBytes-drop}
use Rattle.obs_binary.proofs.Entries.{AreEntries, bz_entries, ft_entries, pt_entries, out_entries, signal_entries, HoldsFt, HoldsPt, HoldsOut, HoldsSignal}
use Rattle.obs_binary.proofs.Parts.{bind_ok, ok_is, each-takes, each-again, length-entries, named-takes, named-again}
use Rattle.obs_binary.proofs.NamedHeads.{outs-are, signals-are, out-head-holds, signal-head-holds}
use Rattle.obs_binary.proofs.Headers.{HoldsHeader, header-takes, header-again}

-- ---- lists

pub zip-parts : {A B : Type 0} (es : List (A × B)) → zip (map (λ e. e.0) es) (map (λ e. e.1) es) ≡ es
zip-parts [] = refl
zip-parts (e ∷ es) = ap (λ xs. e ∷ xs) (zip-parts es)

pub firsts-zip : {A B : Type 0} (xs : List A) (ys : List B) → length ys ≡ length xs → map (λ e. e.0) (zip xs ys) ≡ xs
firsts-zip [] ys e = refl
firsts-zip (x ∷ xs) [] e = absurd (omega arith)
firsts-zip (x ∷ xs) (y ∷ ys) e = ap (λ zs. x ∷ zs) (firsts-zip xs ys (omega arith))

pub seconds-zip : {A B : Type 0} (xs : List A) (ys : List B) → length ys ≡ length xs → map (λ e. e.1) (zip xs ys) ≡ ys
seconds-zip [] [] e = refl
seconds-zip [] (y ∷ ys) e = absurd (omega arith)
seconds-zip (x ∷ xs) [] e = absurd (omega arith)
seconds-zip (x ∷ xs) (y ∷ ys) e = ap (λ zs. y ∷ zs) (seconds-zip xs ys (omega arith))

pub length-zip : {A B : Type 0} (xs : List A) (ys : List B) → length ys ≡ length xs → length (zip xs ys) ≡ length xs
length-zip [] ys e = refl
length-zip (x ∷ xs) [] e = absurd (omega arith)
length-zip (x ∷ xs) (y ∷ ys) e = ap suc (length-zip xs ys (omega arith))

pub firsts-all : {A B : Type 0} (P : A → Type 0) (Q : B → Type 0) (es : List (A × B)) → AllByRecursion (λ e. P e.0 × Q e.1) es → AllByRecursion P (map (λ e. e.0) es)
firsts-all P Q [] h = tt
firsts-all P Q (e ∷ es) h = (h.0.0, firsts-all P Q es h.1)

pub seconds-all : {A B : Type 0} (P : A → Type 0) (Q : B → Type 0) (es : List (A × B)) → AllByRecursion (λ e. P e.0 × Q e.1) es → AllByRecursion Q (map (λ e. e.1) es)
seconds-all P Q [] h = tt
seconds-all P Q (e ∷ es) h = (h.0.1, seconds-all P Q es h.1)

pub zip-all : {A B : Type 0} (P : A → Type 0) (Q : B → Type 0) (xs : List A) (ys : List B) → AllByRecursion P xs → AllByRecursion Q ys → AllByRecursion (λ e. P e.0 × Q e.1) (zip xs ys)
zip-all P Q [] ys h g = tt
zip-all P Q (x ∷ xs) [] h g = tt
zip-all P Q (x ∷ xs) (y ∷ ys) h g = ((h.0, g.0), zip-all P Q xs ys h.1 g.1)

pub map-all : {A B : Type 0} (P : A → Type 0) (Q : B → Type 0) (f : A → B) (each : (x : A) → P x → Q (f x)) (xs : List A) → AllByRecursion P xs → AllByRecursion Q (map f xs)
map-all P Q f each [] h = tt
map-all P Q f each (x ∷ xs) h = (each x h.0, map-all P Q f each xs h.1)

pub flat_map-of_map : {A B : Type 0} (f : A → B) (g : B → List ℕ) (xs : List A) → flat_map g (map f xs) ≡ flat_map (λ x. g (f x)) xs
flat_map-of_map f g [] = refl
flat_map-of_map f g (x ∷ xs) = ap (λ r. g (f x) ++ r) (flat_map-of_map f g xs)

-- ---- the steps of reading what stands after a header

abbrev made : Header → List BzOp → List (FtOp × ℕ) → List (PtOp × ℕ) → List Out → List StoredSignal → Program
made h bz ft pt outs signals = record {
  version = h.version;
  width = h.width;
  bz = bz;
  ft = map (λ x. x.0) ft;
  pt = map (λ x. x.0) pt;
  outs = outs;
  sizes = record { ft = map (λ x. x.1) ft; pt = map (λ x. x.1) pt };
  signals = signals;
}

abbrev after_names : Header → List BzOp → List (FtOp × ℕ) → List (PtOp × ℕ) → List SignalHead → List ℕ → List Out → Result Program ReadFault
after_names h bz ft pt heads names outs = signals_named heads names >>= λ signals. Ok (made h bz ft pt outs signals)

abbrev after_signals : Header → List BzOp → List (FtOp × ℕ) → List (PtOp × ℕ) → List OutHead → List SignalHead × List ℕ → Result Program ReadFault
after_signals h bz ft pt heads signals = outs_named heads (take h.name_bytes signals.1) >>= λ outs. after_names h bz ft pt signals.0 (drop h.name_bytes signals.1) outs

abbrev after_outs : Header → ℕ → List BzOp → List (FtOp × ℕ) → List (PtOp × ℕ) → List OutHead × List ℕ → Result Program ReadFault
after_outs h size bz ft pt outs = each_at (entry_at 8 signal_entry signal_content size) h.signals outs.1 >>= λ signals. after_signals h bz ft pt outs.0 signals

abbrev after_pt : Header → ℕ → List BzOp → List (FtOp × ℕ) → List (PtOp × ℕ) × List ℕ → Result Program ReadFault
after_pt h size bz ft pt = each_at (entry_at 24 out_entry out_content size) h.outs pt.1 >>= λ outs. after_outs h size bz ft pt.0 outs

abbrev after_ft : Header → ℕ → List BzOp → List (FtOp × ℕ) × List ℕ → Result Program ReadFault
after_ft h size bz ft = each_at (entry_at 24 pt_entry pt_content size) h.pt ft.1 >>= λ pt. after_pt h size bz ft.0 pt

abbrev after_bz : Header → ℕ → List BzOp × List ℕ → Result Program ReadFault
after_bz h size bz = each_at (entry_at 24 ft_entry ft_content size) h.ft bz.1 >>= λ ft. after_ft h size bz.0 ft

-- the bytes after the header of a program
abbrev body_of : Program → List ℕ
body_of p =
    flat_map bz_entry p.bz
    ++ (flat_map ft_entry (zip p.ft p.sizes.ft)
    ++ (flat_map pt_entry (zip p.pt p.sizes.pt)
    ++ (flat_map (λ o. out_entry (out_head o)) p.outs
    ++ (flat_map (λ s. signal_entry (signal_head s)) p.signals
    ++ (out_names p ++ signal_names p)))))

-- ---- what is read

part-len : {X : Type 0} (len : ℕ) (spelled : X → List ℕ) (content : List ℕ → Option X) (Holds : X → Type 0) (entries : AreEntries len spelled content Holds) (xs : List X) (n : ℕ) (bytes rest : List ℕ)
    → bytes ≡ flat_map spelled xs ++ rest → length xs ≡ n → length bytes ≡ len * n + length rest
part-len len spelled content Holds entries xs n bytes rest parts count =
    ap length parts ∙ length-append (flat_map spelled xs) rest ∙ ap (λ k. k + length rest) (length-entries len spelled content Holds entries 0 xs ∙ ap (λ k. len * k) count)

record TakesBody (h : Header) (bytes : List ℕ) (p : Program) : Type 0 where
  header : header_of p ≡ h
  parts : bytes ≡ body_of p
  fits : IsEncodable p

versioned : (h : Header) (bz : List BzOp) (ft : List (FtOp × ℕ)) (pt : List (PtOp × ℕ)) (outs : List Out) (signals : List StoredSignal) → HoldsHeader h → length signals ≡ h.signals → IsVersioned (made h bz ft pt outs signals)
versioned h bz ft pt outs signals holds count = elim holds.version [
  | inl v ↦ inl (v.0, nil_from_length signals (count ∙ v.1))
  | inr v ↦ inr v
]

body-takes : (h : Header) (size : ℕ) (bytes : List ℕ) (p : Program) → IsBytes bytes → HoldsHeader h → length bytes ≡ body_len h → past_header h size bytes ≡ Ok p → TakesBody h bytes p
unfolding past_header
body-takes h size bytes p fits holds len e =
    let b1 = bind_ok (each_at (entry_at 24 bz_entry bz_content size) h.bz bytes) (λ bz. after_bz h size bz) p e in
    let t1 = each-takes 24 bz_entry bz_content FitsBz bz_entries size h.bz bytes b1.0 fits b1.1 in
    let b2 = bind_ok (each_at (entry_at 24 ft_entry ft_content size) h.ft b1.0.1) (λ ft. after_ft h size b1.0.0 ft) p b1.2 in
    let t2 = each-takes 24 ft_entry ft_content HoldsFt ft_entries size h.ft b1.0.1 b2.0 t1.3 b2.1 in
    let b3 = bind_ok (each_at (entry_at 24 pt_entry pt_content size) h.pt b2.0.1) (λ pt. after_pt h size b1.0.0 b2.0.0 pt) p b2.2 in
    let t3 = each-takes 24 pt_entry pt_content HoldsPt pt_entries size h.pt b2.0.1 b3.0 t2.3 b3.1 in
    let b4 = bind_ok (each_at (entry_at 24 out_entry out_content size) h.outs b3.0.1) (λ outs. after_outs h size b1.0.0 b2.0.0 b3.0.0 outs) p b3.2 in
    let t4 = each-takes 24 out_entry out_content HoldsOut out_entries size h.outs b3.0.1 b4.0 t3.3 b4.1 in
    let b5 = bind_ok (each_at (entry_at 8 signal_entry signal_content size) h.signals b4.0.1) (λ signals. after_signals h b1.0.0 b2.0.0 b3.0.0 b4.0.0 signals) p b4.2 in
    let t5 = each-takes 8 signal_entry signal_content HoldsSignal signal_entries size h.signals b4.0.1 b5.0 t4.3 b5.1 in
    let names = b5.0.1 in
    let b6 = bind_ok (outs_named b4.0.0 (take h.name_bytes names)) (λ outs. after_names h b1.0.0 b2.0.0 b3.0.0 b5.0.0 (drop h.name_bytes names) outs) p b5.2 in
    let n6 = named-takes (λ o. o.name_len) out_of out_head out_name HoldsOut FitsOut outs-are NameBytes 0 b4.0.0 (take h.name_bytes names) b6.0 t4.2 b6.1 in
    let b7 = bind_ok (signals_named b5.0.0 (drop h.name_bytes names)) (λ signals. Ok (made h b1.0.0 b2.0.0 b3.0.0 b6.0 signals)) p b6.2 in
    let n7 = named-takes (λ o. o.name_len) stored_signal signal_head signal_name HoldsSignal FitsSignal signals-are SignalBytes 0 b5.0.0 (drop h.name_bytes names) b7.0 t5.2 b7.1 in
    let bz = b1.0.0 in
    let ft = b2.0.0 in
    let pt = b3.0.0 in
    let outs = b6.0 in
    let signals = b7.0 in
    let l1 = part-len 24 bz_entry bz_content FitsBz bz_entries bz h.bz bytes b1.0.1 t1.0 t1.1 in
    let l2 = part-len 24 ft_entry ft_content HoldsFt ft_entries ft h.ft b1.0.1 b2.0.1 t2.0 t2.1 in
    let l3 = part-len 24 pt_entry pt_content HoldsPt pt_entries pt h.pt b2.0.1 b3.0.1 t3.0 t3.1 in
    let l4 = part-len 24 out_entry out_content HoldsOut out_entries b4.0.0 h.outs b3.0.1 b4.0.1 t4.0 t4.1 in
    let l5 = part-len 8 signal_entry signal_content HoldsSignal signal_entries b5.0.0 h.signals b4.0.1 names t5.0 t5.1 in
    let names_len : length names ≡ h.name_bytes + h.signal_bytes = omega (arith, len, l1, l2, l3, l4, l5) in
    let first_len : length (take h.name_bytes names) ≡ h.name_bytes = omega (arith, length-take h.name_bytes names, names_len) in
    let second_len : length (drop h.name_bytes names) ≡ h.signal_bytes = omega (arith, length-drop h.name_bytes names, names_len) in
    let out_bytes : length (flat_map out_name outs) ≡ h.name_bytes = ap length (sym n6.0) ∙ first_len in
    let signal_bytes : length (flat_map signal_name signals) ≡ h.signal_bytes = ap length (sym n7.0) ∙ second_len in
    let out_count : length outs ≡ h.outs = sym (length-map outs out_head) ∙ ap length n6.1 ∙ t4.1 in
    let signal_count : length signals ≡ h.signals = sym (length-map signals signal_head) ∙ ap length n7.1 ∙ t5.1 in
    let ft_count : length (map (λ x. x.0) ft) ≡ h.ft = length-map ft (λ x. x.0) ∙ t2.1 in
    let pt_count : length (map (λ x. x.0) pt) ≡ h.pt = length-map pt (λ x. x.0) ∙ t3.1 in
    let heads : flat_map out_entry b4.0.0 ≡ flat_map (λ o. out_entry (out_head o)) outs = ap (flat_map out_entry) (sym n6.1) ∙ flat_map-of_map out_head out_entry outs in
    let signal_heads : flat_map signal_entry b5.0.0 ≡ flat_map (λ s. signal_entry (signal_head s)) signals = ap (flat_map signal_entry) (sym n7.1) ∙ flat_map-of_map signal_head signal_entry signals in
    let p7 : names ≡ flat_map out_name outs ++ flat_map signal_name signals = sym (take-append-drop h.name_bytes names) ∙ (λ i. n6.0 i ++ n7.0 i) in
    let p5 = t5.0 ∙ (λ i. signal_heads i ++ p7 i) in
    let p4 = t4.0 ∙ (λ i. heads i ++ p5 i) in
    let p3 = t3.0 ∙ (λ i. flat_map pt_entry (sym (zip-parts pt) i) ++ p4 i) in
    let p2 = t2.0 ∙ (λ i. flat_map ft_entry (sym (zip-parts ft) i) ++ p3 i) in
    let p1 = t1.0 ∙ (λ i. flat_map bz_entry bz ++ p2 i) in
    subst (λ q. TakesBody h bytes q) {x = made h b1.0.0 b2.0.0 b3.0.0 b6.0 b7.0} {y = p} (ok_is (made h bz ft pt outs signals) p b7.2) record {
      header = λ i. record { version = h.version; width = h.width; bz = t1.1 i; ft = ft_count i; pt = pt_count i; outs = out_count i; name_bytes = out_bytes i; signals = signal_count i; signal_bytes = signal_bytes i };
      parts = p1;
      fits = record {
        layout = record {
          versioned = versioned h bz ft pt outs signals holds signal_count;
          ft_sizes = length-map ft (λ x. x.1) ∙ sym (length-map ft (λ x. x.0));
          pt_sizes = length-map pt (λ x. x.1) ∙ sym (length-map pt (λ x. x.0));
          bz = subst (λ n. n < 2 ^ 32) (sym t1.1) holds.bz;
          ft = subst (λ n. n < 2 ^ 32) (sym ft_count) holds.ft;
          pt = subst (λ n. n < 2 ^ 32) (sym pt_count) holds.pt;
          outs = subst (λ n. n < 2 ^ 32) (sym out_count) holds.outs;
          signals = subst (λ n. n < 2 ^ 32) (sym signal_count) holds.signals;
          out_name_bytes = subst (λ n. n < 2 ^ 32) (sym out_bytes) holds.name_bytes;
          signal_name_bytes = subst (λ n. n < 2 ^ 32) (sym signal_bytes) holds.signal_bytes;
          out_letters = ap (list_all is_in_word) (sym n6.0) ∙ n6.3;
          signal_letters = ap (list_all is_in_word) (sym n7.0) ∙ n7.3;
        };
        width = holds.width;
        bz = t1.2;
        ft = firsts-all FitsFt (λ n. n < 2 ^ 32) ft t2.2;
        pt = firsts-all FitsPt (λ n. n < 2 ^ 32) pt t3.2;
        ft_sizes = seconds-all FitsFt (λ n. n < 2 ^ 32) ft t2.2;
        pt_sizes = seconds-all FitsPt (λ n. n < 2 ^ 32) pt t3.2;
        outs = n6.2;
        signals = n7.2;
      };
    }

counts-len : (b : Bool) (counts : List ℕ) → length counts ≡ 8 → 32 + length (cond b counts []) ≡ cond b 40 32
counts-len true counts e = omega (arith, e)
counts-len false counts e = refl

length-header : (h : Header) → length (header_bytes h) ≡ header_len h.version
unfolding header_bytes u16_bytes u32_bytes
length-header h = omega (arith, counts-len (h.version == 2) (flat_map u32_bytes (h.signals ∷ h.signal_bytes ∷ [])) refl)

-- what is read is spelled so
pub program-takes : (bytes : List ℕ) (p : Program) → IsBytes bytes → program_at bytes ≡ Ok p → IsEncodable p × (bytes ≡ spelling p)
unfolding program_at spelling
program-takes bytes p fits e =
    let a = bind_ok (header_at bytes) (λ header. past_header header (length bytes) (drop (header_len header.version) bytes)) p e in
    let h = a.0 in
    let t = header-takes bytes h fits a.1 in
    let rest = drop (header_len h.version) bytes in
    let len : length rest ≡ body_len h = omega (arith, length-drop (header_len h.version) bytes, t.1) in
    let b = body-takes h (length bytes) rest p (IsBytes-drop (header_len h.version) bytes fits) t.0.holds len a.2 in
    (b.fits, t.0.parts ∙ (λ i. header_bytes (sym b.header i) ++ b.parts i))

-- ---- what is spelled

bind-is : {A B : Type 0} (r : Result A ReadFault) (f : A → Result B ReadFault) (x : A) → r ≡ Ok x → (r >>= f) ≡ f x
bind-is r f x e = ap (λ r. r >>= f) e

holds-header : (p : Program) → IsEncodable p → HoldsHeader (header_of p)
holds-header p f = record {
  version = elim f.layout.versioned [
    | inl v ↦ inl (v.0, ap length v.1, ap (λ ss. length (flat_map signal_name ss)) v.1)
    | inr v ↦ inr v
  ];
  width = f.width;
  bz = f.layout.bz;
  ft = f.layout.ft;
  pt = f.layout.pt;
  outs = f.layout.outs;
  name_bytes = f.layout.out_name_bytes;
  signals = f.layout.signals;
  signal_bytes = f.layout.signal_name_bytes;
}

body-again : (p : Program) (size : ℕ) → IsEncodable p → past_header (header_of p) size (body_of p) ≡ Ok p
unfolding past_header
body-again p size f =
    let h = header_of p in
    let lay = f.layout in
    let ft = zip p.ft p.sizes.ft in
    let pt = zip p.pt p.sizes.pt in
    let heads = map out_head p.outs in
    let signal_heads = map signal_head p.signals in
    let r6 = out_names p ++ signal_names p in
    let r5 = flat_map (λ s. signal_entry (signal_head s)) p.signals ++ r6 in
    let r4 = flat_map (λ o. out_entry (out_head o)) p.outs ++ r5 in
    let r3 = flat_map pt_entry pt ++ r4 in
    let r2 = flat_map ft_entry ft ++ r3 in
    let e1 = each-again 24 bz_entry bz_content FitsBz bz_entries size p.bz r2 f.bz in
    let e2 = ap (λ n. each_at (entry_at 24 ft_entry ft_content size) n r2) (sym (length-zip p.ft p.sizes.ft lay.ft_sizes))
    ∙ each-again 24 ft_entry ft_content HoldsFt ft_entries size ft r3 (zip-all FitsFt (λ n. n < 2 ^ 32) p.ft p.sizes.ft f.ft f.ft_sizes) in
    let e3 = ap (λ n. each_at (entry_at 24 pt_entry pt_content size) n r3) (sym (length-zip p.pt p.sizes.pt lay.pt_sizes))
    ∙ each-again 24 pt_entry pt_content HoldsPt pt_entries size pt r4 (zip-all FitsPt (λ n. n < 2 ^ 32) p.pt p.sizes.pt f.pt f.pt_sizes) in
    let e4 = (λ i. each_at (entry_at 24 out_entry out_content size) (sym (length-map p.outs out_head) i) (sym (flat_map-of_map out_head out_entry p.outs) i ++ r5))
    ∙ each-again 24 out_entry out_content HoldsOut out_entries size heads r5 (map-all FitsOut HoldsOut out_head out-head-holds p.outs f.outs) in
    let e5 = (λ i. each_at (entry_at 8 signal_entry signal_content size) (sym (length-map p.signals signal_head) i) (sym (flat_map-of_map signal_head signal_entry p.signals) i ++ r6))
    ∙ each-again 8 signal_entry signal_content HoldsSignal signal_entries size signal_heads r6 (map-all FitsSignal HoldsSignal signal_head signal-head-holds p.signals f.signals) in
    let e6 = ap (λ bytes. outs_named heads bytes) (take_at (out_names p) (signal_names p) (length (out_names p)) refl)
    ∙ named-again (λ o. o.name_len) out_of out_head out_name HoldsOut FitsOut outs-are NameBytes 0 p.outs f.outs lay.out_letters in
    let e7 = ap (λ bytes. signals_named signal_heads bytes) (drop_at (out_names p) (signal_names p) (length (out_names p)) refl)
    ∙ named-again (λ o. o.name_len) stored_signal signal_head signal_name HoldsSignal FitsSignal signals-are SignalBytes 0 p.signals f.signals lay.signal_letters in
    let same : made h p.bz ft pt p.outs p.signals ≡ p = λ i. record {
      version = p.version;
      width = p.width;
      bz = p.bz;
      ft = firsts-zip p.ft p.sizes.ft lay.ft_sizes i;
      pt = firsts-zip p.pt p.sizes.pt lay.pt_sizes i;
      outs = p.outs;
      sizes = record { ft = seconds-zip p.ft p.sizes.ft lay.ft_sizes i; pt = seconds-zip p.pt p.sizes.pt lay.pt_sizes i };
      signals = p.signals;
    } in
    bind-is (each_at (entry_at 24 bz_entry bz_content size) h.bz (body_of p)) (λ bz. after_bz h size bz) (p.bz, r2) e1
    ∙ bind-is (each_at (entry_at 24 ft_entry ft_content size) h.ft r2) (λ ft. after_ft h size p.bz ft) (ft, r3) e2
    ∙ bind-is (each_at (entry_at 24 pt_entry pt_content size) h.pt r3) (λ pt. after_pt h size p.bz ft pt) (pt, r4) e3
    ∙ bind-is (each_at (entry_at 24 out_entry out_content size) h.outs r4) (λ outs. after_outs h size p.bz ft pt outs) (heads, r5) e4
    ∙ bind-is (each_at (entry_at 8 signal_entry signal_content size) h.signals r5) (λ signals. after_signals h p.bz ft pt heads signals) (signal_heads, r6) e5
    ∙ bind-is (outs_named heads (take h.name_bytes r6)) (λ outs. after_names h p.bz ft pt signal_heads (drop h.name_bytes r6) outs) p.outs e6
    ∙ bind-is (signals_named signal_heads (drop h.name_bytes r6)) (λ signals. Ok (made h p.bz ft pt p.outs signals)) p.signals e7
    ∙ ap (λ q. Ok q) same

length-body : (p : Program) → IsEncodable p → length (body_of p) ≡ body_len (header_of p)
length-body p f =
    let lay = f.layout in
    let ft = zip p.ft p.sizes.ft in
    let pt = zip p.pt p.sizes.pt in
    let r6 = out_names p ++ signal_names p in
    let r5 = flat_map (λ s. signal_entry (signal_head s)) p.signals ++ r6 in
    let r4 = flat_map (λ o. out_entry (out_head o)) p.outs ++ r5 in
    let r3 = flat_map pt_entry pt ++ r4 in
    let r2 = flat_map ft_entry ft ++ r3 in
    let l1 = part-len 24 bz_entry bz_content FitsBz bz_entries p.bz (length p.bz) (body_of p) r2 refl refl in
    let l2 = part-len 24 ft_entry ft_content HoldsFt ft_entries ft (length p.ft) r2 r3 refl (length-zip p.ft p.sizes.ft lay.ft_sizes) in
    let l3 = part-len 24 pt_entry pt_content HoldsPt pt_entries pt (length p.pt) r3 r4 refl (length-zip p.pt p.sizes.pt lay.pt_sizes) in
    let l4 = part-len 24 out_entry out_content HoldsOut out_entries (map out_head p.outs) (length p.outs) r4 r5 (ap (λ x. x ++ r5) (sym (flat_map-of_map out_head out_entry p.outs))) (length-map p.outs out_head) in
    let l5 = part-len 8 signal_entry signal_content HoldsSignal signal_entries (map signal_head p.signals) (length p.signals) r5 r6 (ap (λ x. x ++ r6) (sym (flat_map-of_map signal_head signal_entry p.signals))) (length-map p.signals signal_head) in
    let l6 = length-append (out_names p) (signal_names p) in
    omega (arith, l1, l2, l3, l4, l5, l6)

-- what is spelled so is read
pub program-again : (p : Program) → IsEncodable p → program_at (spelling p) ≡ Ok p
unfolding program_at spelling
program-again p f =
    let h = header_of p in
    let front = header_bytes h in
    let rest = body_of p in
    let said : said_len h ≡ length (front ++ rest) = omega (arith, length-append front rest, length-header h, length-body p f) in
    let header = header-again h rest (holds-header p f) said in
    let after : drop (header_len h.version) (front ++ rest) ≡ rest = drop_at front rest (header_len h.version) (length-header h) in
    bind-is (header_at (front ++ rest)) (λ header. past_header header (length (front ++ rest)) (drop (header_len header.version) (front ++ rest))) h header
    ∙ ap (λ bytes. past_header h (length (front ++ rest)) bytes) after
    ∙ body-again p (length (front ++ rest)) f

-- bytes are those of one program alone
pub one-program : (p q : Program) → IsEncodable p → IsEncodable q → spelling p ≡ spelling q → p ≡ q
one-program p q f g e = ok_is p q (sym (program-again p f) ∙ ap program_at e ∙ program-again q g)

-- ---- what a call that gives what reading gives has found

pub is-found : (bytes : List ℕ) (result : Result Program ReadFault) → IsBytes bytes → GivesReading (λ p. p) result (program_at bytes) → IfOk result (λ p. IsEncodable p × (bytes ≡ spelling p))
is-found bytes (Ok p) fits e = program-takes bytes p fits e
is-found bytes (Err fault) fits e = tt
