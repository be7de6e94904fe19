-- Turns of the cores that have something to do alone: those that were asked, that a turn of another core named, or that may do more by themselves.
use Rattle.std.specs.Prelude.{◌≡◌, ◌≢◌, ◌⊎◌, ◌==◌, ◌+◌, ◌*◌, ◌<◌, ◌++◌, ℕ, zero, suc, Bool, true, false, List, [], ◌∷◌, Some, length, slice_get, slice_set, if◌then◌else◌}
use Rattle.filter_table.specs.declared.operation.Op.{Op}
use Rattle.core_links.specs.Flows.{IsLooked, HasMoved, ring_flow}
use Rattle.core_machine.specs.Machines.{RingCore}
use Rattle.core_machine.specs.Ahead.{work_ahead}
use Rattle.core_machine.specs.Rounds.{DidEvent, Idled, GoesOn, AreSeen}

-- which cores have something to do, by their place
abbrev pub Awake : Type 0
Awake = ℕ → Bool

-- whether the turn that a core took last names this core: whether it moved lines to it or from it
abbrev pub names : RingCore → ℕ → Bool
names core peer = (ring_flow core.links peer).moved

-- a turn that receives no packet and doesn't halt its core, and names those with whom it moved lines
pub record NamingTurn (old new : RingCore) : Type 0 where
  pub goes_on : GoesOn old new
  pub still : (p : ℕ) → names new p ≡ false → IsLooked (ring_flow old.links p) (ring_flow new.links p)
  pub moved : (p : ℕ) → names new p ≡ true → HasMoved (ring_flow old.links p) (ring_flow new.links p)

-- what has something to do after such a turn: that core if it did an event, each that it named, and each other as before
pub record Wakes (place : ℕ) (old new : RingCore) (awake awake' : Awake) : Type 0 where
  pub more : awake' place ≡ true → DidEvent old new
  pub sleeps : awake' place ≡ false → Idled old new
  pub others : (i : ℕ) → i ≢ place → awake' i ≡ if awake i then true else names new i

-- a core that has something to do takes a turn, and then the cores are looked at
pub record NamedTurn (awake awake' : Awake) (old new : List RingCore) : Type 0 where
  pub place : ℕ
  pub core : RingCore
  pub becomes : RingCore
  pub there : slice_get old place ≡ Some core
  pub is_awake : awake place ≡ true
  pub turn : NamingTurn core becomes
  pub wakes : Wakes place core becomes awake awake'
  pub seen : AreSeen (slice_set old place becomes) new

-- a core is asked one request more, and so has something to do
pub record IsAsked (awake awake' : Awake) (old new : List RingCore) : Type 0 where
  pub place : ℕ
  pub core : RingCore
  pub op : Op
  pub there : slice_get old place ≡ Some core
  pub new_is : new ≡ slice_set old place (record core { pending = core.pending ++ op ∷ [] })
  pub wakes : (i : ℕ) → awake' i ≡ if i == place then true else awake i

-- so many of these, one after another
abbrev pub NamedTurns : ℕ → Awake → Awake → List RingCore → List RingCore → Type 0
NamedTurns zero awake awake' old new = (awake' ≡ awake) × (new ≡ old)
NamedTurns (suc steps) awake awake' old new =
    (between : Awake) × (mid : List RingCore) × NamedTurns steps awake between old mid × (NamedTurn between awake' mid new ⊎ IsAsked between awake' mid new)

-- how many of the first so many cores have something to do
abbrev pub count_awake : Awake → ℕ → ℕ
count_awake awake zero = 0
count_awake awake (suc count) = (if awake count then 1 else 0) + count_awake awake count

-- each turn of a core that has something to do makes this less
abbrev pub turns_ahead : Awake → List RingCore → ℕ
turns_ahead awake cores = work_ahead cores * (1 + length cores) + count_awake awake (length cores)

abbrev pub AllAwake : Awake → Type 0
AllAwake awake = (i : ℕ) → awake i ≡ true

-- none of so many cores has something to do
abbrev pub NoneAwake : ℕ → Awake → Type 0
NoneAwake count awake = (i : ℕ) → i < count → awake i ≡ false
