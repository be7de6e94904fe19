use Rattle.std.proofs.Common.{◌≡◌, ◌<◌, ◌∷◌, [], ℕ, Some, slice_get}
use Rattle.bpf_insn.specs.Machine.{Packet}
use Rattle.filter_group.specs.declared.plan.Branch.{Branch}
use Rattle.filter_group.specs.Planning.{HasField, IsCase, StillServes}
use Rattle.filter_group.proofs.plan.Plan.holds_with.Given as goal

abbrev pub invariant-loop-case : goal.invariant-loop-case
invariant-loop-case l =
    (k : ℕ) (branch : Branch) → k < l.case → slice_get l.self.branches.items k ≡ Some branch → (packet : Packet) (value : ℕ)
    → HasField packet l.self.field value → IsCase l.self.constants.items k value → StillServes l.part l.group packet (0 ∷ value ∷ []) branch
