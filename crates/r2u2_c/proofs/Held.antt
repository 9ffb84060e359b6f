-- The machine values of a `Handle`, and what it owns. Assumes `Logic`.
use Rattle.std.proofs.Common.{◌≡◌, ℕ, List, [], ◌∷◌, ◌++◌, refl, subst}
use seplogic.Ra.Ura.{Ura}
use mir.Raw.{raw as bare}
use mir.Val.{Val, vcons, vnil, vstruct, of_list}
use base.Fraction.{full_share}
use base.Fml.{Fml, ftrue}
use base.Logic.{SProp, ent, guard, via, snd∗, guard_i, never_e}
use types.Logic.{Logic, sem}
use types.Kit.{Item, Goal, Seq, Step, step, ‵, given, ◌$◌, drop, fsplit, fjoin, fpick, fpack, feq_i, feq_l, use1, learn}
use contract.Monad.{fact_use}
use denote.RattleType.{RattleType, Valss}
use denote.Builtin.{RawPtr}
use denote.Memory.{lone}
use denote.RawPtr.{Ptr, block_ptr, null_ptr, ptr_val, lies_at, Testable}
use denote.Steps.{nothing}
use denote.Param.{layout}
use denote.Struct.Struct.{within}
use denote.Struct.Owning.{shape}
use mir.Syntax.{impl, tnil, dnil}
use Rattle.std.proofs.alloc.Calls.{Al}
use Rattle.std.proofs.cell.Inside.{Good}
use Rattle.std.proofs.alloc.Global.TheLaws as heap_laws
use Rattle.std.specs.contracts.alloc.Global as global
use Rattle.std.proofs.GlobalToken.{dealloc_token-Testable}
use Rattle.std.specs.contracts.impls.GlobalAllocator.TheImpl.{ghosts}
use Rattle.std.specs.declared.option.Option.{Option}
use Rattle.std.specs.declared.option.Option.TheVariants.{None, Some}
use Rattle.std_alloc.specs.Box.Ownership.{box_owns}
use Rattle.r2u2_c.specs.Handles.{heap, handle_owns}
use Rattle.r2u2_monitor.specs.contracts.monitor.Monitor.{the_row as R}
use Rattle.r2u2_c.specs.contracts.handle.Handle as handle

abbrev pub Hr : RattleType
Hr = handle.the_row

-- what a box on the heap owns
abbrev pub boxed : Ptr → R.Denot → Fml
boxed p n = box_owns (ghosts.dealloc_token heap) R p n

-- a pointer to such a box can be compared with null
tested : {M : Type 1} {𝓤 : Ura M} (𝓛 : Logic 𝓤) (p : Ptr) (n : R.Denot) → ent 𝓤 (sem 𝓛 (boxed p n)) (guard 𝓤 (Testable p) (sem 𝓛 (boxed p n)))
tested {𝓤 = 𝓤} 𝓛 p n = let B : SProp 𝓤 = sem 𝓛 (boxed p n) in
    fact_use 𝓤 (Testable p) (via 𝓤 _ (snd∗ 𝓤 (sem 𝓛 (lies_at R full_share p n)) (sem 𝓛 (ghosts.dealloc_token heap (bare (lone R.mir)) p))) (dealloc_token-Testable 𝓛 heap (bare (lone R.mir)) p)) (guard_i 𝓤 (Testable p) B)

-- the heap's handle
abbrev pub al : Al
al = record { row = global.the_row; laws = heap_laws.the_row_laws; g = ghosts; d = impl [] tnil dnil; drops = impl [] tnil dnil }

-- the struct's machine value
abbrev pub lone_at : Ptr → Val
lone_at p = vstruct (vcons (ptr_val p) vnil)

pub handle_good : (p : Ptr) → Good (layout Hr) (lone_at p)
handle_good null_ptr = (tt, (record { fits = lib.Dec.lit< tt }, tt))
handle_good (block_ptr b o) = (tt, (tt, tt))

module _ {M : Type 1} {𝓤 : Ura M} {𝓛 : Logic 𝓤} {K : Type 0} {Γ : List (Item 𝓤)} {G : Goal 𝓤 𝓛.H} where
  pub handle_out : K → (d : Hr.Denot) (vs : List Val)
      → (vs ≡ lone_at d.at ∷ [] → Seq K 𝓛 (‵ (handle_owns d.at d.value) ∷ Γ) G) → Seq K 𝓛 (‵ (Hr.own_val d vs) ∷ Γ) G
  handle_out t d vs k =
      fsplit t $ fpick t (λ vss. fsplit t $ feq_l t (λ ev. fsplit t $ feq_l t (λ ep. drop t $
      k (subst (λ (ps : List Val). vs ≡ vstruct (of_list (ps ++ [])) ∷ []) ep ev))))

  pub handle_in : K → (d : Hr.Denot) → Step K 𝓛 (‵ (Hr.own_val d (lone_at d.at ∷ [])) ∷ Γ) G (‵ (handle_owns d.at d.value) ∷ Γ) G
  handle_in t d = step (λ s. let v : Val = lone_at d.at in
      nothing t $ feq_i t (List Val) (ptr_val d.at ∷ []) (ptr_val d.at ∷ []) refl $ fjoin t $ feq_i t (List Val) (v ∷ []) (v ∷ []) refl $ fjoin t $
      fpack t (Valss (RawPtr ∷ [])) (within (shape handle.the_type) (d.at, tt) (v ∷ [])) (ptr_val d.at ∷ [], tt) $ fjoin t $ s)

  -- either the handle is at null, and owns nothing, or it owns a box
  pub either_held : K → (p : Ptr) (x : Option R.Denot)
      → (p ≡ null_ptr → x ≡ None → Seq K 𝓛 Γ G)
      → ((b o : ℕ) (n : R.Denot) → p ≡ block_ptr b o → x ≡ Some n → Testable (block_ptr b o) → Seq K 𝓛 (‵ (boxed (block_ptr b o) n) ∷ Γ) G)
      → Seq K 𝓛 (‵ (handle_owns p x) ∷ Γ) G
  either_held t null_ptr None none one = drop t $ none refl refl
  either_held t null_ptr (Some n) none one = use1 𝓛 (given ⊥ (‵ ftrue)) (never_e 𝓤 _) $ learn t (λ wrong. absurd wrong)
  either_held t (block_ptr b o) None none one = use1 𝓛 (given ⊥ (‵ ftrue)) (never_e 𝓤 _) $ learn t (λ wrong. absurd wrong)
  either_held t (block_ptr b o) (Some n) none one =
      use1 𝓛 (given (Testable (block_ptr b o)) (‵ (boxed (block_ptr b o) n))) (tested 𝓛 (block_ptr b o) n) $ learn t (λ e. one b o n refl refl e)
