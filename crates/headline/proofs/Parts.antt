-- What is said of a list that has of each core the events that the list of a run has.
use Rattle.std.proofs.Common.{◌≡◌, ◌++◌, ◌∷◌, ◌⊎◌, inl, inr, ℕ, Bool, false, List, [], refl, ap, sym, ◌∙◌, subst}
use Rattle.std.specs.Prelude.{count_by}
use Rattle.std.proofs.lemmas.List.{map-append}
use Rattle.filter_table.specs.Limits.{TableLimits}
use Rattle.filter_table.specs.declared.operation.Op.{Op}
use Rattle.filter_table.specs.Tables.{table}
use Rattle.table_replica.specs.Shown.{ReplicaState}
use Rattle.world_events.specs.declared.event.Event.{Event}
use Rattle.world_events.specs.declared.event.Event.TheVariants.{Start, Submit, StartFor, Take, Rx}
use Rattle.world_events.specs.declared.event.Done.{Done}
use Rattle.world_model.specs.Decisions.{DeliversBy, Delivers}
use Rattle.world_model.specs.Readings.{version_of}
use Rattle.world_model.proofs.Lists.{same_or_not}
use Rattle.world_histories.specs.declared.history.Stamped.{Stamped}
use Rattle.world_histories.specs.Histories.{unstamped}
use Rattle.world_histories.specs.Merging.{core_of, part}
use Rattle.world_histories.proofs.Lists.{found}
use Rattle.world_histories.proofs.Parts.{placed}
use Rattle.headline.specs.Headline.{ShowTables}
use Rattle.world_model.specs.Committed.{log_of}
use Rattle.headline.specs.Decided.{events_at}
use Rattle.headline.specs.Starts.{StartOneByOne}
use Rattle.headline.proofs.Ordering.{at_own_first, at_other_first, at_more, Silent, silent_front, count_at, SameParts, commits0, log_parts}
use Rattle.headline.proofs.Listed.{events_part}
use Rattle.headline.proofs.Counts.{commits}

-- What is said of a list that has the parts of a run's

pub record Says (limits : TableLimits) (events : List Done) (replicas : List ReplicaState) : Type 0 where
  pub tables : ShowTables limits events replicas
  pub delivers : Delivers limits (log_of events) events

abbrev NoneOf : (Done → Bool) → List Done → Type 0
NoneOf p [] = Unit {0}
NoneOf p (d ∷ ds) = (p d ≡ false) × NoneOf p ds

none_at : (p : Done → Bool) (core other : ℕ) (xs : List Done) → (other ≡ core → ⊥) → Silent p core xs → NoneOf p (events_at other xs)
none_at p core other [] ne h = tt
none_at p core other (x ∷ xs) ne h = by_core (same_or_not (core_of x.event) other) (none_at p core other xs ne h.1)
  where
    by_core : ((core_of x.event ≡ other) ⊎ (core_of x.event ≡ other → ⊥)) → NoneOf p (events_at other xs) → NoneOf p (events_at other (x ∷ xs))
    by_core (inl e) rest = subst (NoneOf p) (sym (at_own_first other x xs e)) (h.0 (λ own. ne (sym e ∙ own)), rest)
    by_core (inr not) rest = subst (NoneOf p) (sym (at_other_first other x xs not)) rest

silent_from : (p : Done → Bool) (core : ℕ) (xs : List Done) → ((other : ℕ) → (other ≡ core → ⊥) → NoneOf p (events_at other xs)) → Silent p core xs
silent_from p core [] none = tt
silent_from p core (x ∷ xs) none = (λ ne. (subst (NoneOf p) (at_own_first (core_of x.event) x xs refl) (none (core_of x.event) ne)).0, silent_from p core xs (λ other ne. later other (same_or_not (core_of x.event) other) (none other ne)))
  where
    later : (other : ℕ) → ((core_of x.event ≡ other) ⊎ (core_of x.event ≡ other → ⊥)) → NoneOf p (events_at other (x ∷ xs)) → NoneOf p (events_at other xs)
    later other (inl e) h = (subst (NoneOf p) (at_own_first other x xs e) h).1
    later other (inr not) h = subst (NoneOf p) (at_other_first other x xs not) h

silent_parts : (p : Done → Bool) (core : ℕ) (xs ys : List Done) → SameParts xs ys → Silent p core ys → Silent p core xs
silent_parts p core xs ys same h = silent_from p core xs (λ other ne. subst (NoneOf p) (sym (same other)) (none_at p core other ys ne h))

-- a receipt in the list is one in the run's, after the same events of its core
delivered : (limits : TableLimits) (events : List Done) (xs : List Stamped) (log : List Op) → SameParts events (unstamped xs) → ((core : ℕ) → Silent (commits core) core (unstamped xs)) → Delivers limits log (unstamped xs)
    → (before after : List Done) (core : ℕ) (done : Done) → events ≡ before ++ done ∷ after → core_of done.event ≡ core → Silent (commits core) core before
    → (earlier : List Done) × DeliversBy limits log earlier done.event done.answer × (version_of core earlier ≡ version_of core before)
delivered limits events xs log same quiet h before after core done e own silent =
    let here : events_at core events ≡ events_at core before ++ done ∷ events_at core after = ap (events_at core) e ∙ (at_more core before (done ∷ after) ∙ ap (λ (ds : List Done). events_at core before ++ ds) (at_own_first core done after own)) in
    let there : unstamped (part core xs) ≡ events_at core before ++ done ∷ events_at core after = sym (events_part core xs) ∙ (sym (same core) ∙ here) in
    let f = found (λ (s : Stamped). s.done) (part core xs) (events_at core before) (events_at core after) done there in
    let p = placed core xs f.front f.item f.rest f.is_split in
    let split : unstamped xs ≡ unstamped p.earlier ++ f.item.done ∷ unstamped p.later = ap unstamped p.is_split ∙ map-append (λ (s : Stamped). s.done) p.earlier (f.item ∷ p.later) in
    let its = h (unstamped p.earlier) (unstamped p.later) f.item.done split in
    let quiet_before : Silent (commits core) core (unstamped p.earlier) = silent_front (commits core) core (unstamped p.earlier) (f.item.done ∷ unstamped p.later) (subst (Silent (commits core) core) split (quiet core)) in
    let own_before : events_at core (unstamped p.earlier) ≡ events_at core before = events_part core p.earlier ∙ (ap unstamped p.own ∙ f.is_front) in (
      unstamped p.earlier,
      subst (λ (d : Done). DeliversBy limits log (unstamped p.earlier) d.event d.answer) f.is_item its,
      count_at (commits core) core (unstamped p.earlier) quiet_before ∙ (ap (λ (ds : List Done). count_by (commits core) ds) own_before ∙ sym (count_at (commits core) core before silent)),
    )

delivers_parts : (limits : TableLimits) (events : List Done) (xs : List Stamped) (log : List Op) → SameParts events (unstamped xs) → ((core : ℕ) → Silent (commits core) core (unstamped xs)) → Delivers limits log (unstamped xs) → Delivers limits log events
delivers_parts limits events xs log same quiet h before after done e = by_event done.event refl
  where
    by_event : (event : Event) → done.event ≡ event → DeliversBy limits log before event done.answer
    by_event (Rx core number packet floor) is =
        let silent = silent_front (commits core) core before (done ∷ after) (subst (Silent (commits core) core) e (silent_parts (commits core) core events (unstamped xs) same (quiet core))) in
        let d = delivered limits events xs log same quiet h before after core done e (ap core_of is) silent in
        let its : DeliversBy limits log d.0 (Rx core number packet floor) done.answer = subst (λ (x : Event). DeliversBy limits log d.0 x done.answer) is d.1 in
        rw (sym d.2) its
    by_event (Start op) is = tt
    by_event (Submit from op) is = tt
    by_event (StartFor from) is = tt
    by_event (Take to from short) is = tt

pub parts_log : (events : List Done) (xs : List Stamped) → SameParts events (unstamped xs) → ((core : ℕ) → Silent (commits core) core (unstamped xs)) → StartOneByOne events → StartOneByOne (unstamped xs) → log_of events ≡ log_of (unstamped xs)
parts_log events xs same quiet order order' = log_parts events (unstamped xs) same order order' (silent_parts commits0 0 events (unstamped xs) same (quiet 0)) (quiet 0)

pub parts_say : (limits : TableLimits) (events : List Done) (xs : List Stamped) (replicas : List ReplicaState) → SameParts events (unstamped xs) → ((core : ℕ) → Silent (commits core) core (unstamped xs)) → StartOneByOne events → StartOneByOne (unstamped xs)
    → ShowTables limits (unstamped xs) replicas → Delivers limits (log_of (unstamped xs)) (unstamped xs) → Says limits events replicas
parts_say limits events xs replicas same quiet order order' tables delivers = record {
  tables = λ core r at. (let s = tables core r at in record {
    numbered = s.numbered ∙ sym (version core);
    shown = s.shown ∙ (ap (table limits (log_of (unstamped xs))) (sym (version core)) ∙ ap (λ (l : List Op). table limits l (version_of core events)) (sym log));
  });
  delivers = subst (λ (l : List Op). Delivers limits l events) (sym log) (delivers_parts limits events xs (log_of (unstamped xs)) same quiet delivers);
}
  where
    log : log_of events ≡ log_of (unstamped xs)
    log = parts_log events xs same quiet order order'

    version : (core : ℕ) → version_of core events ≡ version_of core (unstamped xs)
    version core = count_at (commits core) core events (silent_parts (commits core) core events (unstamped xs) same (quiet core))
        ∙ (ap (λ (ds : List Done). count_by (commits core) ds) (same core) ∙ sym (count_at (commits core) core (unstamped xs) (quiet core)))
