use Rattle.std.proofs.Common.{◌≡◌, ◌<◌, ◌++◌, ◌∷◌, [], ℕ, List, Some, length, map, slice_get}
use Rattle.bpf_insn.specs.Machine.{Packet}
use Rattle.filter_group.specs.declared.start.Start.{Start}
use Rattle.filter_group.specs.Planning.{GoOn, HasField, IsCase, StillFits}
use Rattle.filter_group.proofs.plan.Second.holds_with.Given as goal

abbrev pub invariant-loop-case : goal.invariant-loop-case
invariant-loop-case l =
    (k : ℕ) (list : List Start) → k < l.case → slice_get (map (λ one. one.items) l.self.lists.items) k ≡ Some list → (packet : Packet) (values : List ℕ) (value : ℕ) → length values ≡ 2
    → GoOn l.part packet values l.start → HasField packet l.self.field value → IsCase l.self.constants.items k value → StillFits l.part l.group packet (values ++ value ∷ []) list
