-- What is planned, and then done.
use Rattle.std.proofs.Common.{◌≡◌, ◌<◌, ◌≤◌, ◌+◌, ◌==◌, ◌⊎◌, inl, inr, ℕ, zero, suc, Bool, true, false, nat_eq, Option, Some, None, List, [], ◌∷◌, length, Contains, get_or, refl, ap, sym, ◌∙◌, subst, arith}
use Rattle.std.specs.Prelude.{if◌then◌else◌}
use Rattle.std.specs.Map.{keys_of, remove_entry}
use Rattle.std.specs.Global.{Vec}
use Rattle.std.specs.List.Sorted.{IsStrictlyIncreasing}
use Rattle.std.proofs.lemmas.List.Elements.{Contains-get_or}
use Rattle.filter_table.proofs.Lists.{in_map, was_mapped, never, first_or_later}
use Rattle.bpf_insn.specs.declared.insn.Insn.{Insn}
use Rattle.chunked.specs.Maps.{SortedMap, value_at}
use Rattle.installed_filters.specs.declared.slots.Slot.{Slot}
use Rattle.installed_filters.specs.Slotting.{Slotting, slot_at, one, one_more, HasOne, HasRoomIn}
use Rattle.installed_filters.specs.Counts.{Reaching, reach_at, number_of}
use Rattle.installed_filters.specs.declared.books.Row.{Row}
use Rattle.installed_filters.specs.declared.lists.Lists.{Lists}
use Rattle.installed_filters.specs.declared.changes.Change.{Change}
use Rattle.installed_filters.specs.declared.changes.Change.TheVariants.{Install, Remove, Replace, Lapse, Stay}
use Rattle.installed_filters.specs.Books.{tally, has_number, holds_number, reaches_by, AreBooked, IsTally, Begins, base_slot}
use Rattle.installed_filters.specs.Numbering.{Has}
use Rattle.installed_filters.specs.Listing.{AreListed, AreListedFor, Runs}
use Rattle.installed_filters.specs.Homes.{AreHoused, program_in, slots_with}
use Rattle.installed_filters.specs.Leaving.{IsOneOf}
use Rattle.installed_filters.specs.Lapsing.{AreHeldRows}
use Rattle.installed_filters.specs.Installed.{Installed, installed, installed_row}
use Rattle.installed_filters.specs.Planning.{AreIds, HasSlots, IsKept, IsPlanned, IsReadyToCome, IsReadyToGo, IsReadyToSwap, next_of, slots_next}
use Rattle.installed_filters.proofs.Booked.{eq_yes, held-fewer, number-counted, slot_was}
use Rattle.installed_filters.proofs.Arrived.{own_before, runs_before}
use Rattle.installed_filters.proofs.Homed.{slot_inside}
use Rattle.installed_filters.proofs.Left.{runs_more, slot_there}
use Rattle.installed_filters.proofs.Rested.{held_slots, lapse_runs}
use Rattle.installed_filters.proofs.Through.{listed_alike, listed_once, listed_same, listed_twice, swap_runs}
use Rattle.installed_filters.proofs.Rows.{adds_removed, booked_slot, found_in, tally-short}

-- Nothing is planned

pub planned_none : (slots : List (Option Slot)) (rows : List (ℕ × Row)) (change : Option Change) → next_of slots rows change ≡ None → change ≡ None
planned_none slots rows None e = refl
planned_none slots rows (Some (Install id row program)) e = absurd cc
planned_none slots rows (Some (Remove id row)) e = absurd cc
planned_none slots rows (Some (Replace id old row program)) e = absurd cc
planned_none slots rows (Some (Lapse lapsing)) e = absurd cc
planned_none slots rows (Some Stay) e = absurd cc

pub planned_free : (rows : SortedMap Row) (slots : Slotting) (reaching : Reaching) (change : Option Change) → change ≡ None → IsPlanned rows slots reaching change
planned_free rows slots reaching change none = subst (IsPlanned rows slots reaching) (sym none) tt

pub listed_free : (rows : List (ℕ × Row)) (slots : List (Option Slot)) (ends : List (SortedMap ℕ)) (lists : Lists) (change : Option Change) → change ≡ None → IsKept rows slots ends lists change → AreListed (slot_at slots) lists.running lists.resting
listed_free rows slots ends lists change none h = listed_once (slot_at slots) lists.running lists.resting (subst (λ (x : Option Change). AreListedFor (slot_at slots) (slots_next slots x) lists.running lists.resting) none h.listed)

pub kept_free : (rows : List (ℕ × Row)) (slots : List (Option Slot)) (ends : List (SortedMap ℕ)) (lists : Lists) (change : Option Change) → change ≡ None → AreBooked rows slots ends → AreIds rows → AreListed (slot_at slots) lists.running lists.resting
    → IsKept rows slots ends lists change
kept_free rows slots ends lists change none booked ids listed = subst (IsKept rows slots ends lists) (sym none) (record { booked = booked; listed = listed_twice (slot_at slots) lists.running lists.resting listed; ids = ids })

-- Room that is made

pub booked_same : (rows rows' : List (ℕ × Row)) (slots slots' : List (Option Slot)) (ends ends' : List (SortedMap ℕ)) → rows' ≡ rows → ((m : ℕ) → slot_at slots' m ≡ slot_at slots m) → ((m q : ℕ) → reach_at ends' m q ≡ reach_at ends m q)
    → length ends ≤ length ends' → AreBooked rows slots ends → AreBooked rows' slots' ends'
booked_same rows rows' slots slots' ends ends' same slots_at reach more h = subst (λ (es : List (ℕ × Row)). AreBooked es slots' ends') (sym same) (record {
  filters = λ m. subst (λ (o : Option Slot). IsTally o (tally (has_number m) rows) (tally (holds_number m) rows)) (sym (slots_at m)) (h.filters m);
  reaches = λ m q. reach m q ∙ h.reaches m q;
  apart = λ i j s t at at' is. h.apart i j s t (sym (slots_at i) ∙ at) (sym (slots_at j) ∙ at') is;
  inside = λ m s at. (slot_inside slots' m s at, (let low = (h.inside m s (sym (slots_at m) ∙ at)).1 in omega arith));
})

-- what is kept with room made, where nothing is planned
pub still_free : (rows rows' : SortedMap Row) (slots slots' : Slotting) (reaching reaching' : Reaching) (lists lists' : Lists) (change : Option Change) → change ≡ None → rows'.entries ≡ rows.entries → ((m : ℕ) → slot_at slots'.slots m ≡ slot_at slots.slots m)
    → ((m q : ℕ) → reach_at reaching'.ends m q ≡ reach_at reaching.ends m q) → length reaching.ends ≤ length reaching'.ends → IsKept rows.entries slots.slots reaching.ends lists change → AreListed (slot_at slots'.slots) lists'.running lists'.resting
    → IsKept rows'.entries slots'.slots reaching'.ends lists' change × IsPlanned rows' slots' reaching' change
still_free rows rows' slots slots' reaching reaching' lists lists' change none same slots_at reach more h listed = (
  kept_free rows'.entries slots'.slots reaching'.ends lists' change none (booked_same rows.entries rows'.entries slots.slots slots'.slots reaching.ends reaching'.ends same slots_at reach more h.booked) (subst AreIds (sym same) h.ids) listed,
  planned_free rows' slots' reaching' change none,
)

-- the lists with room made
pub listed_room : (rows : List (ℕ × Row)) (slots slots' : List (Option Slot)) (ends : List (SortedMap ℕ)) (lists : Lists) (change : Option Change) → change ≡ None → ((m : ℕ) → slot_at slots' m ≡ slot_at slots m) → IsKept rows slots ends lists change
    → AreListed (slot_at slots') lists.running lists.resting
listed_room rows slots slots' ends lists change none same h = listed_same (slot_at slots) (slot_at slots') lists.running lists.resting same (listed_free rows slots ends lists change none h)

pub housed : (rows : List (ℕ × Row)) (slots : List (Option Slot)) (ends : List (SortedMap ℕ)) (lists : Lists) (change : Option Change) → change ≡ None → IsKept rows slots ends lists change → AreHoused slots ends lists
housed rows slots ends lists change none h = record { listed = listed_free rows slots ends lists change none h; apart = h.booked.apart; numbers = λ m s at. (h.booked.inside m s at).1 }

-- A filter that comes

pub last_rows : (slots : List (Option Slot)) (rows rows' : List (ℕ × Row)) (now : List Installed) (id : ℕ) → rows' ≡ rows → installed slots rows ≡ now → ((f : Installed) → Contains now f → f.filter.id < id) → (e : ℕ × Row) → Contains rows' e → e.0 < id
last_rows slots rows rows' now id same is below e at =
    below (installed_row slots e) (subst (λ (fs : List Installed). Contains fs (installed_row slots e)) is (in_map (installed_row slots) rows e (subst (λ (es : List (ℕ × Row)). Contains es e) same at)))

key_at : (rows : List (ℕ × Row)) (k : ℕ) (d : ℕ × Row) → k < length rows → get_or (keys_of rows) k 0 ≡ (get_or rows k d).0
key_at [] k d lt = absurd (omega arith)
key_at (e ∷ rows) zero d lt = refl
key_at (e ∷ rows) (suc k) d lt = key_at rows k d (omega arith)

keys-length : (rows : List (ℕ × Row)) → length (keys_of rows) ≡ length rows
keys-length [] = refl
keys-length (e ∷ rows) = ap suc (keys-length rows)

at_least : (ks : List ℕ) → IsStrictlyIncreasing ks → (k : ℕ) → k < length ks → k ≤ get_or ks k 0
at_least ks rises zero lt = omega arith
at_least ks rises (suc k) lt =
    let before = at_least ks rises k (omega arith) in
    let next : suc k ≡ k + 1 = omega arith in
    let up = rises k (omega arith) in
    subst (λ (n : ℕ). suc k ≤ get_or ks n 0) (sym next) (omega (arith, before, up))

-- ids that rise and lie below a number are no more than that
pub rows_few : (rows : List (ℕ × Row)) (id : ℕ) → IsStrictlyIncreasing (keys_of rows) → ((e : ℕ × Row) → Contains rows e → e.0 < id) → length rows ≤ id
rows_few [] id rises below = omega arith
rows_few (e ∷ rows) id rises below =
    let k = length rows in
    let long = keys-length (e ∷ rows) in
    let least = at_least (keys_of (e ∷ rows)) rises k (omega (arith, long)) in
    let is = key_at (e ∷ rows) k e (omega arith) in
    let lt = below (get_or (e ∷ rows) k e) (Contains-get_or (e ∷ rows) k e (omega arith)) in
    omega (arith, least, is, lt)

pub room_in : (rows : List (ℕ × Row)) (slots : List (Option Slot)) (ends : List (SortedMap ℕ)) (number : ℕ) (program : Option (List Insn)) → AreBooked rows slots ends → Begins slots number program → length rows < 4294967295 → HasRoomIn (base_slot slots number program)
room_in rows slots ends number None booked begins few =
    let t = subst (λ (o : Option Slot). IsTally o (tally (has_number number) rows) (tally (holds_number number) rows)) begins.1 (booked.filters number) in
    let short = tally-short (has_number number) rows in
    let fewer = held-fewer number rows in
    let f = t.0 in
    let h = t.1 in
    subst HasRoomIn (sym begins.1) (omega (arith, f, short, few), omega (arith, f, h, fewer))
room_in rows slots ends number (Some program) booked begins few = (omega arith, omega arith)

pub reach_fits : (rows : List (ℕ × Row)) (slots : List (Option Slot)) (ends ends' : List (SortedMap ℕ)) (number endpoint : ℕ) → AreBooked rows slots ends → ((m q : ℕ) → reach_at ends' m q ≡ reach_at ends m q) → length rows < 4294967295
    → number_of (reach_at ends' number endpoint) < 4294967295
reach_fits rows slots ends ends' number endpoint booked same few =
    let is = ap number_of (same number endpoint ∙ booked.reaches number endpoint) ∙ number-counted (tally (reaches_by number endpoint) rows) in
    let short = tally-short (reaches_by number endpoint) rows in
    omega (arith, is, short, few)

-- A filter that goes

found_some : (rows : List (ℕ × Row)) (e : ℕ × Row) → Contains rows e → value_at rows e.0 ≡ None → ⊥
found_some [] e at none = never e at
found_some (x ∷ rows) e at none = by_test (nat_eq e.0 x.0) refl (found_some rows e)
  where
    by_test : (b : Bool) → nat_eq e.0 x.0 ≡ b → (Contains rows e → value_at rows e.0 ≡ None → ⊥) → ⊥
    by_test true t rest = let f = rw t at none in cc
    by_test false t rest = elim (first_or_later x rows e at) [
      | inl same ↦ let u = eq_yes e.0 x.0 (ap (λ (y : ℕ × Row). y.0) (sym same)) in cc
      | inr later ↦ rest later (rw t at none)
    ]

pub there_found : (slots : List (Option Slot)) (rows : List (ℕ × Row)) (now : List Installed) (id : ℕ) (f : Installed) → installed slots rows ≡ now → Contains now f → f.filter.id ≡ id → value_at rows id ≡ None → ⊥
there_found slots rows now id f is at same none =
    let e = was_mapped (installed_row slots) rows f (subst (λ (fs : List Installed). Contains fs f) (sym is) at) in
    let key : e.0.0 ≡ id = ap (λ (x : Installed). x.filter.id) e.2 ∙ same in
    found_some rows e.0 e.1 (ap (λ (k : ℕ). value_at rows k) key ∙ none)

pub one_of : (rows : List (ℕ × Row)) (slots : List (Option Slot)) (ends : List (SortedMap ℕ)) (id : ℕ) (row : Row) → AreBooked rows slots ends → value_at rows id ≡ Some row → IsOneOf (slot_at slots row.number) row.held
one_of rows slots ends id row booked at =
    let after = remove_entry (nat_eq id) rows in
    let s = slot_was rows after slots slots ends ends row (adds_removed rows id row at) booked in
    let fewer = held-fewer row.number after in
    subst (λ (o : Option Slot). IsOneOf o row.held) (sym s.1) (by_held row.held s.0 (tally (holds_number row.number) after) (tally (has_number row.number) after) s.3 s.2 fewer)
  where
    by_held : (b : Bool) (s : Slot) (holds has : ℕ) → s.held ≡ holds + one b → s.filters ≡ suc has → holds ≤ has → IsOneOf (Some s) b
    by_held true s holds has h f fewer = (omega arith, omega arith, omega arith)
    by_held false s holds has h f fewer = (omega arith, omega arith, omega arith)

pub has_one : (o : Option Slot) (held : Bool) → IsOneOf o held → HasOne held o
has_one None held h = tt
has_one (Some s) held h = (h.2, h.0)

pub row_inside : (rows : List (ℕ × Row)) (slots : List (Option Slot)) (ends : List (SortedMap ℕ)) (id : ℕ) (row : Row) → AreBooked rows slots ends → value_at rows id ≡ Some row → (row.number < length slots) × (row.number < length ends)
row_inside rows slots ends id row booked at = let s = booked_slot rows slots ends booked (id, row) (found_in rows id row at) in booked.inside row.number s.0 s.1

-- What was planned is done

pub come : (rows : SortedMap Row) (slots : Slotting) (reaching : Reaching) (change : Option Change) (id : ℕ) (row : Row) (program : Option (List Insn)) → change ≡ Some (Install id row program) → IsPlanned rows slots reaching change → IsReadyToCome rows slots reaching id row program
come rows slots reaching change id row program is h = subst (IsPlanned rows slots reaching) is h

pub goes : (rows : SortedMap Row) (slots : Slotting) (reaching : Reaching) (change : Option Change) (id : ℕ) (row : Row) → change ≡ Some (Remove id row) → IsPlanned rows slots reaching change → IsReadyToGo rows slots id row
goes rows slots reaching change id row is h = subst (IsPlanned rows slots reaching) is h

pub swaps : (rows : SortedMap Row) (slots : Slotting) (reaching : Reaching) (change : Option Change) (id : ℕ) (old row : Row) (program : Option (List Insn)) → change ≡ Some (Replace id old row program) → IsPlanned rows slots reaching change
    → IsReadyToSwap rows slots reaching id old row program
swaps rows slots reaching change id old row program is h = subst (IsPlanned rows slots reaching) is h

pub lapse : (rows : SortedMap Row) (slots : Slotting) (reaching : Reaching) (change : Option Change) (lapsing : Vec (ℕ × Row)) → change ≡ Some (Lapse lapsing) → IsPlanned rows slots reaching change → AreHeldRows rows.entries lapsing.items
lapse rows slots reaching change lapsing is h = subst (IsPlanned rows slots reaching) is h

-- the lists that a change is planned with
pub next_listed : (slots : List (Option Slot)) (lists : Lists) (change change' : Change) → change ≡ change' → AreListedFor (slot_at slots) (slots_next slots (Some change)) lists.running lists.resting → AreListedFor (slot_at slots) (slots_next slots (Some change')) lists.running lists.resting
next_listed slots lists change change' is h = subst (λ (x : Change). AreListedFor (slot_at slots) (slots_next slots (Some x)) lists.running lists.resting) is h

pub held_with : (slots slots' : List (Option Slot)) (row : Row) (program : Option (List Insn)) → row.held ≡ true → ((m : ℕ) → slot_at slots' m ≡ (if m == row.number then one_more row.held (base_slot slots row.number program) else slot_at slots m))
    → (m : ℕ) → slot_at slots' m ≡ slots_with slots row.number program m
held_with slots slots' row program held slots_at m = slots_at m ∙ ap (λ (b : Bool). (if m == row.number then one_more b (base_slot slots row.number program) else slot_at slots m)) held

pub kept_after : (rows' : List (ℕ × Row)) (slots' : List (Option Slot)) (ends' : List (SortedMap ℕ)) (lists' : Lists) (next : ℕ → Option Slot) → AreBooked rows' slots' ends' → AreIds rows' → ((m : ℕ) → slot_at slots' m ≡ next m) → AreListed next lists'.running lists'.resting
    → IsKept rows' slots' ends' lists' None
kept_after rows' slots' ends' lists' next booked ids same h = record {
  booked = booked;
  listed = listed_alike next (slot_at slots') next (slot_at slots') lists'.running lists'.resting same same (listed_twice next lists'.running lists'.resting h);
  ids = ids;
}

-- the slots that a change needs
pub has_slots : (rows : SortedMap Row) (slots : Slotting) (reaching : Reaching) (change : Option Change) → AreBooked rows.entries slots.slots reaching.ends → IsPlanned rows slots reaching change → HasSlots slots.slots change
has_slots rows slots reaching None booked h = tt
has_slots rows slots reaching (Some (Install id row program)) booked h = h.begins
has_slots rows slots reaching (Some (Remove id row)) booked h = one_of rows.entries slots.slots reaching.ends id row booked h.there
has_slots rows slots reaching (Some (Replace id old row program)) booked h = (h.begins, one_of rows.entries slots.slots reaching.ends id old booked h.there, h.other, ap (λ (r : Row). r.held) h.same ∙ h.held, h.slot)
has_slots rows slots reaching (Some (Lapse lapsing)) booked h = held_slots rows.entries slots.slots reaching.ends lapsing.items booked h
has_slots rows slots reaching (Some Stay) booked h = tt

-- A program that runs is that of the number, if a filter has the number

module _ (rows : SortedMap Row) (slots : Slotting) (reaching : Reaching) (booked : AreBooked rows.entries slots.slots reaching.ends) where
  own_now : (m : ℕ) (p : List Insn) → Runs (slot_at slots.slots) m p → (m < length reaching.ends) × ((s : Slot) → slot_at slots.slots m ≡ Some s → s.program ≡ p)
  own_now m p x = ((booked.inside m x.0 x.1).1, λ s at. ap (λ (y : Slot). y.program) (one_slot s x.0 (sym at ∙ x.1)) ∙ x.2)
    where
      one_slot : (a b : Slot) → Some a ≡ Some b → a ≡ b
      one_slot a b e = cc

  own_coming : (number : ℕ) (program : Option (List Insn)) → Begins slots.slots number program → number < length reaching.ends → (m : ℕ) (p : List Insn) → Runs (slot_at slots.slots) m p ⊎ ((m ≡ number) × (p ≡ program_in (base_slot slots.slots number program)))
      → (m < length reaching.ends) × ((s : Slot) → slot_at slots.slots m ≡ Some s → s.program ≡ p)
  own_coming number program begins low m p (inl was) = own_now m p was
  own_coming number program begins low m p (inr new) = (
    subst (λ (k : ℕ). k < length reaching.ends) (sym new.0) low,
    λ s at. own_before slots.slots number program begins s (sym (ap (slot_at slots.slots) new.0) ∙ at) ∙ sym new.1,
  )

  own_next : (change : Option Change) → IsPlanned rows slots reaching change → (m : ℕ) (p : List Insn) → Runs (slots_next slots.slots change) m p → (m < length reaching.ends) × ((s : Slot) → slot_at slots.slots m ≡ Some s → s.program ≡ p)
  own_next None h m p x = own_now m p x
  own_next (Some (Install id row program)) h m p x = own_coming row.number program h.begins h.number m p (runs_before slots.slots row.number program h.begins m p x)
  own_next (Some (Remove id row)) h m p x =
      let one = one_of rows.entries slots.slots reaching.ends id row booked h.there in
      let s = slot_there (slot_at slots.slots row.number) row.held one in
      own_now m p (runs_more slots.slots row booked.apart s.0 s.1 (subst (λ (o : Option Slot). IsOneOf o row.held) s.1 one) m p x)
  own_next (Some (Replace id old row program)) h m p x =
      let one = one_of rows.entries slots.slots reaching.ends id old booked h.there in
      own_coming row.number program h.begins h.number m p (swap_runs slots.slots row.number program h.begins booked.apart h.slot old row refl (ap (λ (r : Row). r.held) h.same ∙ h.held) h.other one m p x)
  own_next (Some (Lapse lapsing)) h m p x = own_now m p (lapse_runs slots.slots lapsing.items m p x)
  own_next (Some Stay) h m p x = own_now m p x

  pub running_own : (lists : Lists) (change : Option Change) → IsPlanned rows slots reaching change → AreListedFor (slot_at slots.slots) (slots_next slots.slots change) lists.running lists.resting
      → (m : ℕ) (p : List Insn) → Has lists.running m p → (m < length reaching.ends) × ((s : Slot) → slot_at slots.slots m ≡ Some s → s.program ≡ p)
  running_own lists change h listed m p has = elim ((listed.run m p).0 has) [ inl now ↦ own_now m p now | inr next ↦ own_next change h m p next ]

one_next : (a b : List Installed) → Some a ≡ Some b → a ≡ b
one_next a b e = cc

-- the filters once it is done
pub next_done : (slots : List (Option Slot)) (rows : List (ℕ × Row)) (change : Option Change) (some : Change) (after next : List Installed) → change ≡ Some some → next_of slots rows (Some some) ≡ Some after → next_of slots rows change ≡ Some next → after ≡ next
next_done slots rows change some after next is done planned = one_next after next (sym done ∙ (sym (ap (next_of slots rows) is) ∙ planned))
