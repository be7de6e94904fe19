-- A sound table hands each packet to some endpoints.
use Rattle.std.proofs.Common.{◌≡◌, ◌++◌, ℕ, zero, suc, Bool, true, false, is_none, List, [], ◌∷◌, length, min, Contains, refl, sym, subst, arith, append_assoc}
use Rattle.std.proofs.lemmas.List.{append-nil}
use Rattle.bpf_insn.specs.Machine.{Packet, HasEnd}
use Rattle.filter_verify.specs.Rules.{Sound}
use Rattle.filter_vm.proofs.Totality.{has_end}
use Rattle.filter_vm.proofs.Unique.{Ends-same}
use Rattle.endpoint_caps.specs.declared.Cap.{Cap}
use Rattle.endpoint_caps.specs.Capabilities.{cap_at}
use Rattle.filter_table.specs.Listed.{ListedFilter}
use Rattle.filter_table.specs.declared.delivery.Kept.{Kept}
use Rattle.filter_table.specs.Soundness.{IsSoundTable}
use Rattle.filter_table.specs.Tables.{TableState, Accepting}
use Rattle.filter_table.proofs.Lists.{never, in_head, in_tail}
use Rattle.filter_table.specs.Raising.{raised}
use Rattle.world_progress.proofs.Growing.{ReceiversSoFar, IsVerdict, receivers_past, receivers_raised}

module _ (caps : List Cap) (packet : Packet) where
  -- some endpoints get the packet by these filters
  abbrev Found : List ListedFilter → Type 0
  Found filters = (kept : List Kept) × ReceiversSoFar caps filters packet kept

  none_yet : Found []
  none_yet = (
    [],
    record {
      are = record { increasing = tt; each = λ e b. (λ at. absurd (never _ at), λ gets. absurd (never _ gets.hands.listed)) };
      covers = λ e v h. absurd (never _ h.listed);
    },
  )

  ends_so : (f : ListedFilter) → (end : HasEnd f.program packet) → IsVerdict f.program packet end.0
  ends_so f end = record { steps = end.1; ends = end.2; only = λ other count e. (Ends-same f.program packet other count end.0 end.1 e end.2).0 }

  -- one filter more
  found_more : (filters : List ListedFilter) (f : ListedFilter) → Sound f.program → Found filters → Found (filters ++ f ∷ [])
  found_more filters f sound found = by_cap (is_none (cap_at caps f.cap)) refl
    where
      by_verdict : is_none (cap_at caps f.cap) ≡ false → (verdict : ℕ) → IsVerdict f.program packet verdict → Found (filters ++ f ∷ [])
      by_verdict held zero v = (found.0, receivers_past caps packet filters f found.0 (λ e w last. (let is = v.only w last.steps last.ends in let over = last.above_zero in omega arith)) found.1)
      by_verdict held (suc n) v = (
        raised found.0 f.endpoint (min (suc n) (length packet.bytes)),
        receivers_raised caps packet filters f found.0 (suc n) (record { of_endpoint = refl; cap_held = held; steps = v.steps; ends = v.ends; above_zero = omega arith }) v found.1,
      )

      by_cap : (none : Bool) → is_none (cap_at caps f.cap) ≡ none → Found (filters ++ f ∷ [])
      by_cap true e = (found.0, receivers_past caps packet filters f found.0 (λ e' w last. (let x = last.cap_held in cc)) found.1)
      by_cap false e = let end = has_end f.program packet sound in by_verdict e end.0 (ends_so f end)

  -- all of them
  found_all : (before later : List ListedFilter) → Found before → ((f : ListedFilter) → Contains later f → Sound f.program) → Found (before ++ later)
  found_all before [] found sound = subst Found (sym (append-nil before)) found
  found_all before (f ∷ later) found sound = subst Found (append_assoc before (f ∷ []) later)
      (found_all (before ++ f ∷ []) later (found_more before f (sound f (in_head f later)) found) (λ g at. sound g (in_tail f later g at)))

pub some_accepting : (s : TableState) (packet : Packet) → IsSoundTable s → (kept : List Kept) × Accepting s packet kept
some_accepting s packet sound =
    let found = found_all s.caps.held packet [] s.filters (none_yet s.caps.held packet) (λ f at. (sound.rightful f at).sound) in
    (found.0, found.1.are)
