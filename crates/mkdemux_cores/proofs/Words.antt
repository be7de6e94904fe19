-- The machine value of a handle, and what it owns.
use Rattle.std.proofs.Common.{◌≡◌, ℕ, ◌<◌, ◌^◌, zero, List, Option, None, Some, [], ◌∷◌, ◌++◌, refl, sym, ap, subst, lit<}
use seplogic.Ra.Ura.{Ura}
use mir.Raw.{raw as bare}
use mir.Val.{Val, vptr, vstruct, vcons, vnil, of_list}
use base.Fraction.{full_share}
use base.Logic.{ent, guard, guard_i, via, snd∗, never, fst∗}
use types.Logic.{Logic, sem}
use types.Kit.{Item, Goal, Seq, Step, step, ‵, given, ◌$◌, drop, learn, fsplit, fjoin, fpick, fpack, feq_i, feq_l, use1}
use contract.Monad.{fact_use, fact_mono}
use denote.RattleType.{Valss}
use denote.Builtin.{RawPtr}
use denote.Memory.{lone}
use denote.RawPtr.{Ptr, block_ptr, null_ptr, ptr_val, count_of, in_a_block, lies_at, Testable}
use denote.Steps.{nothing}
use denote.Struct.Struct.{within}
use denote.Struct.Owning.{shape}
use Rattle.std.proofs.GlobalToken.{dealloc_token_start}
use Rattle.std_alloc.specs.Box.Ownership.{box_owns}
use Rattle.mkdemux_cores.specs.Owning.{owns_some, core_row, frees, heap}
use Rattle.mkdemux_cores.specs.contracts.handle.CoreHandle as handle

abbrev pub one : Val → Val
one v = vstruct (vcons v vnil)

-- who owns a block of the heap may compare the pointer to it with null
testable : {M : Type 1} {𝓤 : Ura M} (𝓛 : Logic 𝓤) (p : Ptr) (x : core_row.Denot)
    → ent 𝓤 (sem 𝓛 (box_owns frees core_row p x)) (guard 𝓤 (Testable p) (sem 𝓛 (box_owns frees core_row p x)))
testable {𝓤 = 𝓤} 𝓛 p x = let τ = bare (lone core_row.mir) in
    fact_use 𝓤 (Testable p) (via 𝓤 _ (snd∗ 𝓤 (sem 𝓛 (lies_at core_row full_share p x)) (sem 𝓛 (frees τ p))) (via 𝓤 _ (dealloc_token_start 𝓛 heap τ p)
    (fact_mono 𝓤 (count_of p ≡ zero) (Testable p) (λ e. subst (λ (k : ℕ). k < 2 ^ 63) (sym e) (lit< tt))))) (guard_i 𝓤 (Testable p) (sem 𝓛 (box_owns frees core_row p x)))

module _ {M : Type 1} {𝓤 : Ura M} {𝓛 : Logic 𝓤} {K : Type 0} {Γ : List (Item 𝓤)} {G : Goal 𝓤 𝓛.H} where
  pub handle_in : K → (p : Ptr) (w : Val) (x : Option core_row.Denot) → ptr_val p ≡ w
      → Step K 𝓛 (‵ (handle.the_row.own_val (record { at = p; core = x }) (one w ∷ [])) ∷ Γ) G (‵ (owns_some core_row p x) ∷ Γ) G
  handle_in t p w x e = step (λ s.
      nothing t $ feq_i t (List Val) (w ∷ []) (ptr_val p ∷ []) (ap (λ (v : Val). v ∷ []) (sym e)) $ fjoin t $ feq_i t (List Val) (one w ∷ []) (one w ∷ []) refl $ fjoin t $
      fpack t (Valss (RawPtr ∷ [])) (within (shape handle.the_type) (p, tt) (one w ∷ [])) (w ∷ [], tt) $ fjoin t $ s)

  -- a handle that is taken apart is null and has no value, or has one in a block
  by_value : K → (p : Ptr) (x : Option core_row.Denot) → (x ≡ None → p ≡ null_ptr → Seq K 𝓛 Γ G)
      → ((b o : ℕ) (y : core_row.Denot) → x ≡ Some y → p ≡ block_ptr b o → Testable (block_ptr b o) → Seq K 𝓛 (‵ (box_owns frees core_row (block_ptr b o) y) ∷ Γ) G)
      → Seq K 𝓛 (‵ (owns_some core_row p x) ∷ Γ) G
  by_value t p None without within = feq_l t (λ e. without refl e)
  by_value t p (Some y) without within =
      in_a_block t p (λ p. box_owns frees core_row p y) (fst∗ 𝓤 (never 𝓤) (sem 𝓛 (frees (bare (lone core_row.mir)) null_ptr))) (λ b o e.
      use1 𝓛 (given (Testable (block_ptr b o)) (‵ (box_owns frees core_row (block_ptr b o) y))) (testable 𝓛 (block_ptr b o) y) $ learn t (λ may. within b o y refl e may))

  pub handle_out : K → (d : handle.the_row.Denot) (vs : List Val) → (d.core ≡ None → d.at ≡ null_ptr → vs ≡ one (ptr_val null_ptr) ∷ [] → Seq K 𝓛 Γ G)
      → ((b o : ℕ) (y : core_row.Denot) → d.core ≡ Some y → Testable (block_ptr b o) → vs ≡ one (vptr b o) ∷ [] → Seq K 𝓛 (‵ (box_owns frees core_row (block_ptr b o) y) ∷ Γ) G)
      → Seq K 𝓛 (‵ (handle.the_row.own_val d vs) ∷ Γ) G
  handle_out t d vs without within =
      fsplit t $ fpick t (λ vss. fsplit t $ feq_l t (λ ev. fsplit t $ feq_l t (λ ep. drop t $
      let word : (p : Ptr) → d.at ≡ p → vs ≡ one (ptr_val p) ∷ [] = λ p e. subst (λ (p : Ptr). vs ≡ vstruct (of_list (ptr_val p ∷ [])) ∷ []) e (subst (λ (ps : List Val). vs ≡ vstruct (of_list (ps ++ [])) ∷ []) ep ev) in
      by_value t d.at d.core (λ is e. without is e (word null_ptr e)) (λ b o y is e may. within b o y is may (word (block_ptr b o) e)))))
