-- How the places of a graph are entered.
-- No public clause cites these.
use Rattle.std.specs.Prelude.{◌≡◌, ℕ, ◌+◌, ◌<◌, ◌≤◌, List, length, Option, Some, None, slice_get}
use Rattle.filter_codegen.specs.declared.graph.Node.{Node}
use Rattle.filter_codegen.specs.declared.plan.Held.{Held}
use Rattle.filter_codegen.specs.declared.plan.Plan.{Plan}
use Rattle.filter_codegen.specs.Graphs.{node_at}
use Rattle.filter_codegen.specs.Held.{Needs, left, IsWeaker}

-- the place is planned, and counts on no more than these registers
abbrev pub Meets : List (Option Plan) → ℕ → Held → Type 0
Meets plans place held = (plan : Plan) × (slice_get plans place ≡ Some (Some plan)) × IsWeaker plan.held held

-- the place is planned for these registers too, and for those before
pub record Notes (place : ℕ) (held : Held) (old new : List (Option Plan)) : Type 0 where
  pub same_length : length new ≡ length old
  pub meets : Meets new place held
  pub keeps : (other : ℕ) (before : Held) → Meets old other before → Meets new other before
  pub others : (other : ℕ) → (other ≡ place → ⊥) → slice_get new other ≡ slice_get old other

-- the code of the node may begin as planned, and leaves what the places count on to which it leads
pub record Carries (plans : List (Option Plan)) (node : Node) (plan : Plan) : Type 0 where
  pub needs : Needs node.check plan.start plan.held
  pub pass : Meets plans node.pass (left node.check plan.start plan.held)
  pub fail : Meets plans node.fail (left node.check plan.start plan.held)

-- the node at the place is planned for these registers
pub record PlansNode (node : Node) (place : ℕ) (held : Held) (old new : List (Option Plan)) : Type 0 where
  pub same_length : length new ≡ length old
  pub carries : (plan : Plan) × (slice_get new place ≡ Some (Some plan)) × (plan.held ≡ held) × Carries new node plan
  pub keeps : (other : ℕ) (before : Held) → Meets old other before → (other ≡ place → ⊥) → Meets new other before
  pub above : (other : ℕ) → place < other → slice_get new other ≡ slice_get old other

-- the nodes from this place on are planned, as far as they are reached
pub record IsPlanning (graph : List Node) (root place : ℕ) (plans : List (Option Plan)) : Type 0 where
  pub same_length : length plans ≡ length graph + 2
  pub below : place ≤ root + 1
  pub entered : Meets plans root (record { number = None; header = None })
  pub carries : (at : ℕ) (node : Node) (plan : Plan) → place ≤ at → 2 ≤ at → node_at graph at ≡ Some node → slice_get plans at ≡ Some (Some plan) → Carries plans node plan

-- each node that is planned is so
pub record IsPlanned (graph : List Node) (root : ℕ) (plans : List (Option Plan)) : Type 0 where
  pub same_length : length plans ≡ length graph + 2
  pub entered : Meets plans root (record { number = None; header = None })
  pub carries : (at : ℕ) (node : Node) (plan : Plan) → 2 ≤ at → node_at graph at ≡ Some node → slice_get plans at ≡ Some (Some plan) → Carries plans node plan
