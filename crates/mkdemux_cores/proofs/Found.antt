-- Why handles aren't those of one machine, once the name of the first core's machine is known.
use Rattle.std.proofs.Common.{◌≡◌, ◌∙◌, ◌≤◌, inl, inr, ℕ, Option, None, Some, List, [], ◌∷◌, length, sym, ap, subst, arith}
use Rattle.std.specs.Prelude.{IfSome}
use Rattle.std.proofs.lemmas.List.{length-map}
use Rattle.core_links.specs.RingSlots.{machine_of}
use Rattle.core_machine.specs.Machines.{RingCore}
use Rattle.mkdemux_cores.specs.declared.handle.CoreHandle.{CoreHandle}
use Rattle.mkdemux_cores.specs.declared.answers.TheConstants.{NOT_MACHINE}
use Rattle.mkdemux_cores.specs.Booting.{cores_of}
use Rattle.mkdemux_cores.specs.Settling.{AreOpen, AreNumbered, HasFault}
use Rattle.mkdemux_cores.proofs.Handles.{same_first}

as_many : (handles : List CoreHandle) (cs : List RingCore) → AreOpen handles cs → length handles ≡ length cs
as_many handles cs are = sym (length-map handles (λ h. h.core)) ∙ ap length are ∙ length-map cs (λ c. Some c)

module _ (handles hs mid : List CoreHandle) (h : CoreHandle) (whole : handles ≡ h ∷ hs) (same : cores_of mid ≡ cores_of handles) (name count : ℕ) (counted : count ≡ length handles) where
  pub found_other : (r : Option ℕ) (x : RingCore) → h.core ≡ Some x → machine_of x.links ≡ name → IfSome r (HasFault name 0 count mid)
      → IfSome r (λ answer. answer ≡ NOT_MACHINE → (cs : List RingCore) (other : ℕ) → AreOpen handles cs → 1 ≤ length cs → AreNumbered other 0 (length cs) cs → ⊥)
  found_other None x is named f = tt
  found_other (Some answer) x is named (inl closed) = λ _ cs other are some numbered. closed.1 cs (same ∙ are)
  found_other (Some answer) x is named (inr fault) = λ _. no_machine
    where
      no_machine : (cs : List RingCore) (other : ℕ) → AreOpen handles cs → 1 ≤ length cs → AreNumbered other 0 (length cs) cs → ⊥
      no_machine [] other are some numbered = absurd (omega (arith, some))
      no_machine (c ∷ cs) other are some numbered =
          let named_so : other ≡ name = sym numbered.0.2 ∙ ap (λ (y : RingCore). machine_of y.links) (same_first handles hs h whole x c cs is are) ∙ named in
          let long : count ≡ length (c ∷ cs) = counted ∙ as_many handles (c ∷ cs) are in
          fault.1 (c ∷ cs) (same ∙ are) (subst (λ (n : ℕ). AreNumbered n 0 count (c ∷ cs)) named_so (subst (λ (n : ℕ). AreNumbered other 0 n (c ∷ cs)) (sym long) numbered))
