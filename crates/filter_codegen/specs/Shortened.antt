-- Graphs without the tests that others have decided.
-- No public clause cites these.
use Rattle.std.specs.Prelude.{◌≡◌, ℕ, ◌+◌, ◌<◌, ◌≤◌, ◌⊎◌, Bool, true, List, length, Option, Some, slice_get, slice_index}
use Rattle.bpf_insn.specs.Machine.{Packet}
use Rattle.filter_cond.specs.declared.check.Check.{Check}
use Rattle.filter_cond.specs.Means.{tested}
use Rattle.filter_codegen.specs.declared.graph.Node.{Node}
use Rattle.filter_codegen.specs.declared.implied.Fact.{Fact}
use Rattle.filter_codegen.specs.declared.shorten.Route.{Route}
use Rattle.filter_codegen.specs.Graphs.{value}
use Rattle.filter_codegen.specs.Known.{known}

-- what the place counts on is so: the two ends count on nothing
abbrev pub Counts : List (Option Route) → List Fact → ℕ → Packet → Type 0
Counts routes facts place packet = (place < 2) ⊎ ((route : Route) × (slice_get routes place ≡ Some (Some route)) × (known packet facts route.head ≡ true))

-- the new graph gives at their places there what the graph gives at its first places, where what they count on is so
pub record IsMapped (graph : List Node) (facts : List Fact) (routes : List (Option Route)) (new : List Node) (count : ℕ) (places : List ℕ) : Type 0 where
  pub counted : length places ≡ count
  pub few : length new + 2 ≤ count
  pub inside : (place : ℕ) → place < count → slice_index places place < length new + 2
  pub says : (packet : Packet) (accept place : ℕ) → place < count → Counts routes facts place packet → value packet accept new (slice_index places place) ≡ value packet accept graph place

-- the new graph gives at one place what the graph gives at another, where the facts hold and the test comes out so
abbrev pub Targets : List Node → List Fact → List (Option Route) → List ℕ → ℕ → Check → Bool → ℕ → ℕ → Type 0
Targets graph facts routes places head check holds place at =
    (new : List Node) (count : ℕ) → IsMapped graph facts routes new count places
    → (at < length new + 2) × ((packet : Packet) (accept : ℕ) → known packet facts head ≡ true → tested check packet ≡ Some holds → value packet accept new at ≡ value packet accept graph place)

-- the new graph gives at one place what the graph gives at another
pub record Shortens (graph : List Node) (root : ℕ) (new : List Node) (place : ℕ) : Type 0 where
  pub inside : place < length new + 2
  pub few : length new ≤ length graph
  pub same : (packet : Packet) (accept : ℕ) → value packet accept new place ≡ value packet accept graph root
