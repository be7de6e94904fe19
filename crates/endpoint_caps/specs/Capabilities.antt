-- Capabilities: derivation, revocation and rights, as in capability systems (Dennis and Van Horn 1966; seL4 Reference
-- Manual, "Capability derivation": to revoke a capability removes all that were derived from it).
use Rattle.std.specs.Prelude.{◌≡◌, ◌≢◌, ◌==◌, ◌&&◌, ◌||◌, ◌+◌, ◌<◌, ◌≤◌, ◌↔◌, ℕ, zero, suc, Bool, true, false, not, cond, leb, Option, Some, None, is_none, List, [], ◌∷◌, ◌++◌, length, filter}
use Rattle.std.specs.List.{find, list_any, Contains}
use Rattle.endpoint_caps.specs.declared.Cap.{Cap}
use Rattle.endpoint_caps.specs.declared.Rights.{Rights}
use Rattle.endpoint_caps.specs.declared.Rights.TheVariants.{R, M, Rm}
use Rattle.endpoint_caps.specs.declared.Right.{Right}
use Rattle.endpoint_caps.specs.declared.Right.TheVariants.{Receive, Mint}
use Rattle.endpoint_caps.specs.declared.CapFault.{CapFault}
use Rattle.endpoint_caps.specs.declared.CapFault.TheVariants.{NoCap, NotHolder, NoRight, RightsExceed, EndpointTaken, CapsFull, DomainFull, IdsSpent, NoMemory}

-- the capabilities that are held, in order of their ids, and the next id
pub record CapTable : Type 0 where
  pub held : List Cap
  pub next : ℕ

-- how many capabilities may be held together, and how many of them may count for one domain
pub record CapBounds : Type 0 where
  pub total : ℕ
  pub share : ℕ

-- those that hold where none are given: one domain may have all
abbrev pub default_caps : CapBounds
default_caps = record { total = 1024; share = 1024 }

abbrev pub no_caps : CapTable
no_caps = record { held = []; next = 1 }

abbrev pub has_right : Rights → Right → Bool
has_right R Receive = true
has_right R Mint = false
has_right M Receive = false
has_right M Mint = true
has_right Rm right = true

-- each right of the first is one of the second
abbrev pub is_within : Rights → Rights → Bool
is_within R rights = has_right rights Receive
is_within M rights = has_right rights Mint
is_within Rm rights = has_right rights Receive && has_right rights Mint

-- the capability with this id, if it is held
abbrev pub cap_at : List Cap → ℕ → Option Cap
cap_at caps id = find (λ cap. cap.id == id) caps

abbrev pub is_some_and : {A : Type 0} → (A → Bool) → Option A → Bool
is_some_and test None = false
is_some_and test (Some x) = test x

-- Whose a capability is

-- the capability by whose holder this one was made: its parent, or itself where it has none
abbrev pub made_by_holder_of : List Cap → Cap → Option Cap
made_by_holder_of caps cap = of_parent cap.parent
  where
    of_parent : Option ℕ → Option Cap
    of_parent None = Some cap
    of_parent (Some parent) = cap_at caps parent

-- a capability counts for the domain that made it, whoever holds it
abbrev pub counts_for : List Cap → ℕ → Cap → Bool
counts_for caps domain cap = is_some_and (λ c. c.holder == domain) (made_by_holder_of caps cap)

abbrev pub count_for : List Cap → ℕ → ℕ
count_for caps domain = length (filter (counts_for caps domain) caps)

-- What every table of capabilities keeps

-- the ids increase, from the first number on and below the second
abbrev pub IdsBetween : ℕ → List Cap → ℕ → Type 0
IdsBetween from [] to = from ≤ to
IdsBetween from (c ∷ caps) to = (from ≤ c.id) × IdsBetween (c.id + 1) caps to

-- each held capability is younger than its parent, and its parent is held
pub record ParentsHeld (caps : List Cap) : Type 0 where
  pub each : (id parent : ℕ) (cap : Cap) → cap_at caps id ≡ Some cap → cap.parent ≡ Some parent → (parent < id) × (is_none (cap_at caps parent) ≡ false)

-- Derivation

-- d was minted from c through one or more mints
pub data Under (caps : List Cap) (c : ℕ) : ℕ → Type 0 where
  minted : {d : ℕ} (cap : Cap) → cap_at caps d ≡ Some cap → cap.parent ≡ Some c → Under caps c d
  further : {d : ℕ} (cap : Cap) (parent : ℕ) → cap_at caps d ≡ Some cap → cap.parent ≡ Some parent → Under caps c parent → Under caps c d

abbrev pub parent_at : List Cap → ℕ → Option ℕ
parent_at caps id = parent_of (cap_at caps id)
  where
    parent_of : Option Cap → Option ℕ
    parent_of None = None
    parent_of (Some cap) = cap.parent

-- c is met on the way up from d, at most so many mints up
abbrev pub is_above : List Cap → ℕ → ℕ → ℕ → Bool
is_above caps zero c d = false
is_above caps (suc mints) c d = is_some_and (λ parent. (parent == c) || is_above caps mints c parent) (parent_at caps d)

-- `Under` as a test: a parent has a smaller id, so no way up from d has more than d mints
abbrev pub is_under : List Cap → ℕ → ℕ → Bool
is_under caps c d = is_above caps d c d

-- Operations

abbrev pub created : CapTable → ℕ → ℕ → CapTable
created table domain endpoint = record {
  held = table.held ++ record { id = table.next; endpoint = endpoint; holder = domain; rights = Rm; parent = None } ∷ [];
  next = table.next + 1;
}

-- a child of the capability, with its endpoint
abbrev pub child_of : CapTable → ℕ → ℕ → Rights → Option Cap → List Cap
child_of table cap to rights None = []
child_of table cap to rights (Some from) = record { id = table.next; endpoint = from.endpoint; holder = to; rights = rights; parent = Some cap } ∷ []

abbrev pub minted_from : CapTable → ℕ → ℕ → Rights → CapTable
minted_from table cap to rights = record {
  held = table.held ++ child_of table cap to rights (cap_at table.held cap);
  next = table.next + 1;
}

-- all that were minted from it are gone
abbrev pub revoked : CapTable → ℕ → CapTable
revoked table cap = record { held = filter (λ c. not (is_under table.held cap c.id)) table.held; next = table.next }

-- and it too
abbrev pub dropped : CapTable → ℕ → CapTable
dropped table cap = record { held = filter (λ c. not ((c.id == cap) || is_under table.held cap c.id)) table.held; next = table.next }

-- what is left of the capabilities once all that was minted from one is gone: `revoked` says it by the test
abbrev pub IsRevoked : List Cap → ℕ → List Cap → Type 0
IsRevoked caps cap left = (c : Cap) → Contains left c ↔ (Contains caps c × (Under caps cap c.id → ⊥))

-- and once it is gone too
abbrev pub IsDropped : List Cap → ℕ → List Cap → Type 0
IsDropped caps cap left = (c : Cap) → Contains left c ↔ (Contains caps c × (c.id ≢ cap) × (Under caps cap c.id → ⊥))

-- Refusals: the first of a list of tests that stands

abbrev pub first : {A : Type 0} → List (Bool × A) → Option A
first [] = None
first (test ∷ tests) = cond test.0 (Some test.1) (first tests)

abbrev pub holder_tests : List Cap → ℕ → ℕ → List (Bool × CapFault)
holder_tests caps domain cap =
    (is_none (cap_at caps cap), NoCap)
    ∷ (not (is_some_and (λ c. c.holder == domain) (cap_at caps cap)), NotHolder)
    ∷ []

abbrev pub right_tests : List Cap → ℕ → ℕ → Right → List (Bool × CapFault)
right_tests caps domain cap right =
    holder_tests caps domain cap
    ++ (not (is_some_and (λ c. has_right c.rights right) (cap_at caps cap)), NoRight)
    ∷ []

-- room for one more that counts for the domain
abbrev pub room_tests : CapBounds → CapTable → ℕ → List (Bool × CapFault)
room_tests limits table domain =
    (leb limits.total (length table.held), CapsFull)
    ∷ (leb limits.share (count_for table.held domain), DomainFull)
    ∷ (table.next == 4294967295, IdsSpent)
    ∷ []

abbrev pub create_tests : CapBounds → CapTable → ℕ → ℕ → List (Bool × CapFault)
create_tests limits table domain endpoint = (list_any (λ c. c.endpoint == endpoint) table.held, EndpointTaken) ∷ room_tests limits table domain

abbrev pub mint_tests : CapBounds → CapTable → ℕ → ℕ → Rights → List (Bool × CapFault)
mint_tests limits table domain cap rights =
    right_tests table.held domain cap Mint
    ++ (not (is_some_and (λ c. is_within rights c.rights) (cap_at table.held cap)), RightsExceed)
    ∷ room_tests limits table domain

-- The fault is the first that stands. Memory is refused only where none does.
abbrev pub Refused : List (Bool × CapFault) → CapFault → Type 0
Refused tests NoMemory = first tests ≡ None
Refused tests fault = first tests ≡ Some fault
