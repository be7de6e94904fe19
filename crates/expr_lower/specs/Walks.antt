-- What is written for an expression.
-- No public clause cites these.
use Rattle.std.specs.Prelude.{◌≡◌, ℕ, ◌≤◌, Bool, true, false, List, ◌∷◌, length, take, reverse, Option, Some, None}
use Rattle.bpf_insn.specs.Machine.{Packet}
use Rattle.filter_cond.specs.declared.cond.Part.{Part}
use Rattle.filter_cond.specs.Means.{truths_of}
use Rattle.expr_tree.specs.declared.test.Test.{Test}
use Rattle.expr_tree.specs.declared.tree.Node.{Node}
use Rattle.expr_tree.specs.Expr.{Expr, Is, expr_at}
use Rattle.expr_meaning.specs.declared.place.Place.{Place}
use Rattle.expr_meaning.specs.Holds.{holds, front, listed, said}
use Rattle.expr_meaning.specs.Refused.{has_tag, behind, can}
use Rattle.expr_lower.specs.declared.walk.Behind.{Behind}
use Rattle.expr_lower.specs.Spines.{joined}

-- the parts that were added find this truth of each packet, and leave the truths before it
abbrev pub Adds : (Packet → Option Bool) → List Part → List Part → Type 0
Adds truth old new = (results : List (Option ℕ)) (packet : Packet) → truths_of results packet new ≡ truth packet ∷ truths_of results packet old

-- what is known of a place: none where it depends on the packet
abbrev pub Fits : Option Place → Place → Type 0
Fits None place = Unit {0}
Fits (Some known) place = place ≡ known

-- behind what has no tag, the place is what it was
abbrev pub still : Option Place → Behind
still before = record { place = before; tag = false }

-- the parts that were added say what the expression does, at each place that is known so; it can be asked there, and this is known behind it
pub record Lowers (e : Expr) (before : Option Place) (end : Behind) (old new : List Part) : Type 0 where
  pub says : (place : Place) → Fits before place → Adds (λ packet. holds e packet place) old new
  pub place : end.place ≡ behind e before
  pub tag : end.tag ≡ has_tag e
  pub can_be : can e before ≡ true

-- the same for what stands before the list that it ends in
pub record Fronts (e : Expr) (before : Option Place) (end : Behind) (old new : List Part) : Type 0 where
  pub says : (place : Place) → Fits before place → Adds (λ packet. front e packet place) old new
  pub place : end.place ≡ behind e before
  pub tag : end.tag ≡ has_tag e
  pub can_be : can e before ≡ true

-- and this is the list
abbrev pub Runs : Expr → Option Place → Behind → List Test → List Part → List Part → Type 0
Runs e before end tests old new = Fronts e before end old new × (tests ≡ listed e)

-- parts were added that find whether what stands before a list is true, or one of the list
abbrev pub Flushes : Option Place → List Test → List Part → List Part → Type 0
Flushes before tests middle new =
    (truth : Packet → Option Bool) (old : List Part) (place : Place) → Fits before place → Adds truth old middle → Adds (λ packet. said (truth packet) packet place tests) old new

-- parts were added that make of an expression, whose parts stand at the end, another one
abbrev pub Joins : (Expr → Expr) → Option Place → Behind → Behind → List Test → List Test → List Part → List Part → Type 0
Joins made before reached end tests more middle new = (e : Expr) (old : List Part) → Runs e before reached tests old middle → Runs (made e) before end more old new

-- the expression is this test
abbrev pub IsTest : Option Test → Expr → Type 0
IsTest (Some test) e = e ≡ Is test
IsTest None e = (test : Test) → e ≡ Is test → ⊥

-- so much of an expression is written, on the way up
pub record IsRising (nodes : List Node) (place : ℕ) (joins : List ℕ) (count : ℕ) (before : Option Place) (reached : Behind) (tests : List Test) (old new : List Part) : Type 0 where
  pub within : count ≤ length joins
  pub e : Expr
  pub is : expr_at nodes place ≡ joined nodes (reverse (take count joins)) e
  pub runs : Runs e before reached tests old new
