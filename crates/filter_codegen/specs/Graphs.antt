-- Graphs of tests. Place 0 rejects a packet and place 1 accepts it; the others are tests, each of which leads to earlier places.
use Rattle.std.specs.Prelude.{ℕ, ◌+◌, ◌==◌, ◌<◌, if◌then◌else◌, Bool, List, [], ◌∷◌, ◌++◌, length, Option, Some, None, ◌≡◌, ◌≤◌, Bool, true, false}
use Rattle.bpf_insn.specs.Machine.{Packet}
use Rattle.filter_codegen.specs.declared.graph.Node.{Node}
use Rattle.filter_cond.specs.Means.{tested}

-- a verdict, as a test comes out: 0 where it has no value
abbrev pub answer : Option Bool → ℕ → ℕ → ℕ
answer None pass fail = 0
answer (Some true) pass fail = pass
answer (Some false) pass fail = fail

-- the verdict from a place of a graph, whose last node stands first
abbrev pub value : Packet → ℕ → List Node → ℕ → ℕ
value packet accept [] place = if place == 0 then 0 else accept
value packet accept (node ∷ nodes) place =
    if place == length nodes + 2
    then answer (tested node.check packet) (value packet accept nodes node.pass) (value packet accept nodes node.fail)
    else value packet accept nodes place

-- the node at a place
abbrev pub node_at : List Node → ℕ → Option Node
node_at [] place = None
node_at (node ∷ nodes) place = if place == length nodes + 2 then Some node else node_at nodes place

-- each node leads to earlier places
abbrev pub IsForward : List Node → Type 0
IsForward [] = Unit {0}
IsForward (node ∷ nodes) = (node.pass < length nodes + 2) × (node.fail < length nodes + 2) × IsForward nodes

-- the new graph is the old one with at most so many nodes more
pub record Extends (old new : List Node) (most : ℕ) : Type 0 where
  pub front : List Node
  pub whole : new ≡ front ++ old
  pub few : length front ≤ most

-- the new graph is the old one with at most one node more, and gives at the place what the node says
pub record Adds (node : Node) (old new : List Node) (place : ℕ) : Type 0 where
  pub extends : Extends old new 1
  pub inside : place < length new + 2
  pub says : (packet : Packet) (accept : ℕ) → value packet accept new place ≡ answer (tested node.check packet) (value packet accept old node.pass) (value packet accept old node.fail)
