-- Graphs of tests as programs.
-- No public clause cites these.
use Rattle.std.specs.Prelude.{◌≡◌, ℕ, ◌+◌, ◌<◌, ◌≤◌, ◌⊎◌, List, [], ◌∷◌, ◌++◌, length, slice_index, slice_get, Option, Some, None}
use Rattle.bpf_insn.specs.declared.insn.Insn.{Insn}
use Rattle.bpf_insn.specs.declared.form.Form.TheVariants.{RetK}
use Rattle.bpf_insn.specs.Table.{form_of}
use Rattle.bpf_insn.specs.Machine.{Packet}
use Rattle.filter_cond.specs.Means.{tested}
use Rattle.filter_codegen.specs.declared.graph.Node.{Node}
use Rattle.filter_codegen.specs.declared.plan.Held.{Held}
use Rattle.filter_codegen.specs.declared.plan.Plan.{Plan}
use Rattle.filter_codegen.specs.Drafts.{ArePlain, Adds}
use Rattle.filter_codegen.specs.Graphs.{answer, value}
use Rattle.filter_codegen.specs.Held.{Enters}
use Rattle.filter_codegen.specs.Plans.{Meets, Carries}

-- the program is plain and ends in a return
pub record IsWhole (code : List Insn) : Type 0 where
  pub plain : ArePlain code
  pub front : List Insn
  pub last : Insn
  pub parts : code ≡ front ++ last ∷ []
  pub ends : form_of last ≡ Some (RetK 0)

-- the place may be entered with these registers: the two ends may with any
abbrev pub IsEntered : List (Option Plan) → ℕ → Held → Type 0
IsEntered plans place held = (place < 2) ⊎ Meets plans place held

-- a run from this instruction gives what the graph gives at the place
pub record StandsAt (accept : ℕ) (graph : List Node) (plans : List (Option Plan)) (code : List Insn) (place at : ℕ) : Type 0 where
  pub inside : at < length code
  pub enters : (packet : Packet) (held : Held) → IsEntered plans place held → Enters packet code at held.number held.header (value packet accept graph place)

-- a run from each of the first places of the graph gives what the graph gives there
pub record Stands (accept : ℕ) (graph : List Node) (plans : List (Option Plan)) (count : ℕ) (places jumps : List ℕ) (code : List Insn) : Type 0 where
  pub whole : IsWhole code
  pub counted : length places ≡ count
  pub counted_jumps : length jumps ≡ count
  pub at : (place : ℕ) → place < count → StandsAt accept graph plans code place (slice_index places place)
  pub near : (place : ℕ) → place < count → StandsAt accept graph plans code place (slice_index jumps place)

-- each of these is an instruction of the code
abbrev pub AreInside : List ℕ → List Insn → Type 0
AreInside places code = (place : ℕ) → place < length places → slice_index places place < length code

-- a place near the front, from which a run goes on as from that of a node
pub record Nears (places : List ℕ) (node : ℕ) (jumps_old jumps_new : List ℕ) (old new : List Insn) (near : ℕ) : Type 0 where
  pub adds : Adds old new 1
  pub close : length new ≤ near + 255
  pub inside : near < length new
  pub jumps : AreInside jumps_old old → AreInside jumps_new new
  pub same_length : length jumps_new ≡ length jumps_old
  pub stands : (accept : ℕ) (graph : List Node) (plans : List (Option Plan)) (count : ℕ)
      → Stands accept graph plans count places jumps_old old → Stands accept graph plans count places jumps_new new
  pub at : (accept : ℕ) (graph : List Node) (plans : List (Option Plan)) (count : ℕ)
      → Stands accept graph plans count places jumps_old old → StandsAt accept graph plans new node near

-- the code of one node more
pub record Puts (node : Node) (plan : Option Plan) (places_old places_new jumps_old jumps_new : List ℕ) (old new : List Insn) : Type 0 where
  pub few : length new ≤ length old + 6
  pub stands : (accept : ℕ) (graph : List Node) (plans : List (Option Plan)) (count : ℕ)
      → Stands accept graph plans count places_old jumps_old old
      → 2 ≤ count
      → ((packet : Packet) → value packet accept graph count ≡ answer (tested node.check packet) (value packet accept graph node.pass) (value packet accept graph node.fail))
      → slice_get plans count ≡ Some plan
      → ((p : Plan) → plan ≡ Some p → Carries plans node p)
      → Stands accept graph plans (count + 1) places_new jumps_new new

-- the first instruction goes on at a place
pub record Fronts (place : ℕ) (old new : List Insn) (first : ℕ) : Type 0 where
  pub adds : Adds old new 1
  pub at : first + 1 ≡ length new
  pub enters : (packet : Packet) (verdict : ℕ) → Enters packet old place None None verdict → Enters packet new first None None verdict

-- a run of the program gives what the graph gives at a place
pub record Lowers (accept : ℕ) (graph : List Node) (root : ℕ) (code : List Insn) : Type 0 where
  pub whole : IsWhole code
  pub first : ℕ
  pub at : first + 1 ≡ length code
  pub gives : (packet : Packet) → Enters packet code first None None (value packet accept graph root)
