-- What programs pass is what filters accept.
use Rattle.std.proofs.Common.{◌≡◌, ◌<◌, ◌==◌, ◌&&◌, inl, inr, ℕ, zero, suc, Bool, true, false, not, Option, Some, is_some, is_none, List, [], ◌∷◌, length, map, Contains, refl, ap, sym, ◌∙◌, subst, arith}
use Rattle.bpf_insn.specs.declared.insn.Insn.{Insn}
use Rattle.bpf_insn.specs.Machine.{Packet, Ends}
use Rattle.endpoint_caps.specs.declared.Cap.{Cap}
use Rattle.endpoint_caps.specs.Capabilities.{cap_at}
use Rattle.filter_vm.proofs.Unique.{Ends-same}
use Rattle.filter_group.specs.declared.lockstep.Hit.{Hit}
use Rattle.filter_group.proofs.Edits.{at_contains}
use Rattle.filter_table.specs.Listed.{ListedFilter}
use Rattle.filter_table.specs.declared.delivery.Kept.{Kept}
use Rattle.filter_table.specs.Tables.{AreReceivers, Gets, Hands}
use Rattle.filter_table.proofs.Lists.{in_head, in_tail, in_map, was_mapped}
use Rattle.chunked.specs.Maps.{SortedMap}
use Rattle.installed_filters.specs.declared.slots.Slot.{Slot}
use Rattle.installed_filters.specs.Slotting.{slot_at}
use Rattle.installed_filters.specs.Numbering.{AreHitsBy, Has, Numbering}
use Rattle.installed_filters.specs.Counts.{AreWithin, counted, reach_at}
use Rattle.installed_filters.specs.Keeping.{AreApart, AreKept, GetsBy, Keeps}
use Rattle.installed_filters.specs.declared.books.Row.{Row}
use Rattle.installed_filters.specs.Books.{AreBooked, tally, has_number, holds_number, reaches_by, IsTally}
use Rattle.installed_filters.specs.Listing.{Runs}
use Rattle.installed_filters.specs.Homes.{program_in}
use Rattle.installed_filters.specs.Installed.{Installed, AreHeldBy, installed, installed_row}
use Rattle.installed_filters.proofs.Booked.{eq_yes, yes_eq}
use Rattle.installed_filters.proofs.Rows.{booked_slot, tally_some}

pub tally_found : (p : Row → Bool) (rows : List (ℕ × Row)) → 0 < tally p rows → (e : ℕ × Row) × Contains rows e × (p e.1 ≡ true)
tally_found p [] some = absurd (omega arith)
tally_found p (e ∷ rows) some = by_test (p e.1) refl (tally_found p rows)
  where
    by_test : (b : Bool) → p e.1 ≡ b → (0 < tally p rows → (x : ℕ × Row) × Contains rows x × (p x.1 ≡ true)) → (x : ℕ × Row) × Contains (e ∷ rows) x × (p x.1 ≡ true)
    by_test true t rest = (e, in_head e rows, t)
    by_test false t rest = let found = rest (rw t at some) in (found.0, in_tail e rows found.0 found.1, found.2)

some_counted : (n : ℕ) → is_some (counted n) ≡ true → 0 < n
some_counted zero e = absurd cc
some_counted (suc n) e = omega arith

counted_some : (n : ℕ) → 0 < n → is_some (counted n) ≡ true
counted_some zero some = absurd (omega arith)
counted_some (suc n) some = refl

pub both : (a b : Bool) → (a && b) ≡ true → (a ≡ true) × (b ≡ true)
both true b e = (refl, e)
both false b e = absurd cc

was_held : (b : Bool) → not b ≡ false → b ≡ true
was_held true e = refl
was_held false e = absurd cc

module _ (rows : List (ℕ × Row)) (slots : List (Option Slot)) (ends : List (SortedMap ℕ)) (booked : AreBooked rows slots ends) (running : Numbering) (runs : (m : ℕ) (p : List Insn) → Runs (slot_at slots) m p → Has running m p)
    (own : (m : ℕ) (p : List Insn) → Has running m p → (m < length ends) × ((s : Slot) → slot_at slots m ≡ Some s → s.program ≡ p)) (packet : Packet) (hits : List Hit) (are : AreHitsBy running packet hits) where
  pub hits_within : AreWithin ends hits
  hits_within i hit at = let e = are.each i hit at in (own hit.member e.1.0 e.1.1).0

  pub hits_apart : AreApart hits
  hits_apart = record { once = are.once; above = λ i hit at. (are.each i hit at).0 }

  module _ (caps : List Cap) (held : AreHeldBy caps (installed slots rows)) where
    abbrev filters : List ListedFilter
    filters = map (λ f. f.filter) (installed slots rows)

    hands : (e v : ℕ) → GetsBy ends hits e v → Hands caps (map (λ f. f.filter) (installed slots rows)) packet e v
    hands e v g =
        let hit = g.0 in
        let at = at_contains hits hit g.1 in
        let h = are.each at.0 hit at.1 in
        let live = tally_found (reaches_by hit.member e) rows (some_counted (tally (reaches_by hit.member e) rows) (ap is_some (sym (booked.reaches hit.member e)) ∙ g.2)) in
        let row = live.0.1 in
        let t = both row.held ((row.number == hit.member) && (row.endpoint == e)) live.2 in
        let u = both (row.number == hit.member) (row.endpoint == e) t.1 in
        let s = booked_slot rows slots ends booked live.0 live.1 in
        let program : (installed_row slots live.0).filter.program ≡ h.1.0 =
        ap program_in s.1 ∙ (own hit.member h.1.0 h.1.1).1 s.0 (ap (slot_at slots) (sym (yes_eq row.number hit.member u.0)) ∙ s.1) in
        record {
          accepted_by = (installed_row slots live.0).filter;
          listed = in_map (λ (f : Installed). f.filter) (installed slots rows) (installed_row slots live.0) (in_map (installed_row slots) rows live.0 live.1);
          of_endpoint = yes_eq row.endpoint e u.1;
          cap_held = held (installed_row slots live.0) (in_map (installed_row slots) rows live.0 live.1) ∙ ap not t.0;
          steps = h.1.2.0;
          ends = subst (λ (p : List Insn). Ends p packet v h.1.2.0) (sym program) (subst (λ (n : ℕ). Ends h.1.0 packet n h.1.2.0) g.3 h.1.2.1);
          above_zero = subst (λ (n : ℕ). 0 < n) g.3 h.0;
        }

    gets : (e v : ℕ) → Hands caps (map (λ f. f.filter) (installed slots rows)) packet e v → GetsBy ends hits e v
    gets e v h =
        let f = was_mapped (λ (x : Installed). x.filter) (installed slots rows) h.accepted_by h.listed in
        let x = was_mapped (installed_row slots) rows f.0 f.1 in
        let row = x.0.1 in
        let filter_is : (installed_row slots x.0).filter ≡ h.accepted_by = ap (λ (y : Installed). y.filter) x.2 ∙ f.2 in
        let live : row.held ≡ true =
        was_held row.held (sym (held (installed_row slots x.0) (in_map (installed_row slots) rows x.0 x.1)) ∙ (ap (λ (y : ListedFilter). is_none (cap_at caps y.cap)) filter_is ∙ h.cap_held)) in
        let s = booked_slot rows slots ends booked x.0 x.1 in
        let tallied = subst (λ (o : Option Slot). IsTally o (tally (has_number row.number) rows) (tally (holds_number row.number) rows)) s.1 (booked.filters row.number) in
        let some : 0 < tally (holds_number row.number) rows = tally_some (holds_number row.number) rows x.0 x.1 (rw live (eq_yes row.number row.number refl)) in
        let count = tallied.1 in
        let listed = runs row.number s.0.program (s.0, s.1, refl, omega (arith, some, count)) in
        let program : h.accepted_by.program ≡ s.0.program = sym (ap (λ (y : ListedFilter). y.program) filter_is) ∙ ap program_in s.1 in
        let ends_there : Ends s.0.program packet v h.steps = subst (λ (p : List Insn). Ends p packet v h.steps) program h.ends in
        let endpoint : row.endpoint ≡ e = ap (λ (y : ListedFilter). y.endpoint) filter_is ∙ h.of_endpoint in
        let reach : 0 < tally (reaches_by row.number e) rows =
        tally_some (reaches_by row.number e) rows x.0 x.1 (rw (live, eq_yes row.number row.number refl) (eq_yes row.endpoint e endpoint)) in
        elim (are.others row.number s.0.program listed) [
          | inl found ↦
              let at = at_contains hits found.0 found.1 in
              let each = are.each at.0 found.0 at.1 in
              let same_program : each.1.0 ≡ s.0.program = sym ((own found.0.member each.1.0 each.1.1).1 s.0 (ap (slot_at slots) found.2 ∙ s.1)) in
              let verdict : found.0.verdict ≡ v =
              (Ends-same s.0.program packet found.0.verdict each.1.2.0 v h.steps (subst (λ (p : List Insn). Ends p packet found.0.verdict each.1.2.0) same_program each.1.2.1) ends_there).0 in (
                found.0,
                found.1,
                ap (λ (m : ℕ). is_some (reach_at ends m e)) found.2 ∙ (ap is_some (booked.reaches row.number e) ∙ counted_some (tally (reaches_by row.number e) rows) reach),
                verdict,
              )
          | inr silent ↦ absurd (
              let none : 0 ≡ v = (Ends-same s.0.program packet 0 silent.0 v h.steps silent.1 ends_there).0 in
              let above = h.above_zero in
              omega (arith, none, above))
        ]

    pub received : (now : List Kept) → AreKept (GetsBy ends hits) (length packet.bytes) now → AreReceivers caps (map (λ f. f.filter) (installed slots rows)) packet now
    received now h = record {
      increasing = h.increasing;
      each = λ e b. (λ at. to e b ((h.each e b).0 at), λ g. (h.each e b).1 (back e b g));
    }
      where
        to : (e b : ℕ) → Keeps (GetsBy ends hits) (length packet.bytes) e b → Gets caps (map (λ f. f.filter) (installed slots rows)) packet e b
        to e b k = record { greatest = k.greatest; hands = hands e k.greatest k.is_one; above_all = λ v x. k.above_all v (gets e v x); is_kept = k.is_kept }

        back : (e b : ℕ) → Gets caps (map (λ f. f.filter) (installed slots rows)) packet e b → Keeps (GetsBy ends hits) (length packet.bytes) e b
        back e b g = record { greatest = g.greatest; is_one = gets e g.greatest g.hands; above_all = λ v x. g.above_all v (hands e v x); is_kept = g.is_kept }
