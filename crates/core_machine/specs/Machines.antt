-- The cores of one machine.
use Rattle.std.specs.Prelude.{◌≡◌, ℕ, suc, List, [], ◌∷◌, length, None, Some, slice_get}
use Rattle.core_links.specs.declared.ring_links.RingLinks.{RingLinks}
use Rattle.core_links.specs.RingSlots.{own_of, link_to, AreJoinedLinks, SameLinks}
use Rattle.core_links.specs.Flows.{HoldLines}
use Rattle.core_loop.specs.Keeping.{replica_of}
use Rattle.filter_table.specs.Limits.{TableLimits}
use Rattle.core_loop.specs.Cores.{CoreState, SameCore}

abbrev pub RingCore : Type 0
RingCore = CoreState RingLinks

-- a core of this number, among so many cores, with these limits, this budget and links of its own
pub record HasPlace (number cores : ℕ) (limits : TableLimits) (budget : ℕ) (core : RingCore) : Type 0 where
  pub number_is : core.number ≡ number
  pub cores_are : core.cores ≡ cores
  pub limits_are : (replica_of core.part).shown.limits ≡ limits
  pub budget_is : (replica_of core.part).budget ≡ budget
  pub links_are : own_of core.links ≡ number

-- another core of the machine with core 0, with this entry, which is its number less one; one pair of rings joins the two, each of which holds a
-- line at least, and no other link leads to it
pub record IsPeer (others entry : ℕ) (limits : TableLimits) (budget : ℕ) (first core : RingCore) : Type 0 where
  pub place : HasPlace (suc entry) (suc others) limits budget core
  pub joined : AreJoinedLinks first.links core.links
  pub holds : HoldLines first.links core.links
  pub no_other : (entry : ℕ) → link_to core.links (suc entry) ≡ None

-- the cores of a machine with these limits: core 0 with its budget, and the others with theirs, in the order of their numbers, each joined to
-- core 0; core 0 has no link to itself
pub record AreMachine (limits : TableLimits) (budget : ℕ) (budgets : List ℕ) (first : RingCore) (others : List RingCore) : Type 0 where
  pub place : HasPlace 0 (suc (length budgets)) limits budget first
  pub all : length others ≡ length budgets
  pub no_itself : link_to first.links 0 ≡ None
  pub peers : (i b : ℕ) (c : RingCore) → slice_get budgets i ≡ Some b → slice_get others i ≡ Some c → IsPeer (length budgets) i limits b first c

-- these are the cores of one machine with these limits and budgets
abbrev pub IsMachine : TableLimits → ℕ → List ℕ → List RingCore → Type 0
IsMachine limits budget budgets [] = ⊥
IsMachine limits budget budgets (first ∷ others) = AreMachine limits budget budgets first others

-- the same cores, each on its own rings and queue, before and after they ran
pub record AreSameCores (old new : List RingCore) : Type 0 where
  pub all : length new ≡ length old
  pub each : (i : ℕ) (c d : RingCore) → slice_get old i ≡ Some c → slice_get new i ≡ Some d → SameCore SameLinks c d
