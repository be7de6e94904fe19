-- In every run the n-th decision of a core is on its n-th request, and each entry of the log is that of one request.
use Rattle.std.proofs.Common.{◌≡◌, ◌+◌, ◌<◌, ◌≤◌, ◌++◌, ◌∷◌, ◌⊎◌, inl, inr, ℕ, zero, suc, Bool, false, cond, Option, Some, None, List, [], length, map, slice_get, refl, ap, sym, ◌∙◌, subst, arith, length-append}
use Rattle.std.proofs.lemmas.Option.{slice_get_within}
use Rattle.filter_table.specs.Limits.{TableLimits}
use Rattle.filter_table.specs.declared.operation.Op.{Op}
use Rattle.filter_table.specs.declared.operation.Made.{Made}
use Rattle.filter_table.specs.Tables.{TableState, table}
use Rattle.filter_table.specs.declared.decision.Decision.{Decision}
use Rattle.filter_table.specs.declared.decision.Decision.TheVariants.{Committed, Refused}
use Rattle.filter_table.proofs.Positions.{get_at, get_front}
use Rattle.filter_table.proofs.Tables.{table_front}
use Rattle.world_events.specs.declared.event.Done.{Done}
use Rattle.world_model.specs.Worlds.{World, new_peer, boot, Happens, Run}
use Rattle.world_model.specs.Committed.{log_of}
use Rattle.world_model.specs.Decisions.{IsEntryAt}
use Rattle.world_model.specs.Readings.{unsent}
use Rattle.world_model.proofs.Lists.{same_or_not}
use Rattle.world_model.proofs.Runs.{run_keeps, runs_more}
use Rattle.world_model.proofs.Agreement.{run_inv, run_stages}
use Rattle.world_model.proofs.Known.{run_known}
use Rattle.world_model.proofs.RunLaws.{run_grows, run_limits, run_agrees}
use Rattle.world_model.proofs.SoundLogs.{run_sound}
use Rattle.headline.specs.Decided.{decided_in}
use Rattle.headline.specs.Headline.{begun_in, begun_by}
use Rattle.headline.specs.Judged.{IsRefused, IsDecisionOn, AreJudged, AreCommittedOnce, AreAllNamed}
use Rattle.core_machine.proofs.Logs.{run_log}
use Rattle.headline.proofs.Accounts.{Account, one, Moves, Balanced, balanced_none, balanced_moves, none_some, same_some}
use Rattle.headline.proofs.Sources.{Sourced, Deals, IsNext, source_of, sourced_deals}
use Rattle.headline.proofs.Growth.{begun_more, since_more}
use Rattle.world_histories.specs.Answers.{requested}
use Rattle.headline.proofs.Dealing.{outs, settled_in, account, Owns, Facts, Deal, event_deals}

abbrev nothing : Account
nothing = record { begun = []; decided = []; under_way = None; settled = None }

record Kept (limits : TableLimits) (budget : ℕ) (budgets : List ℕ) (events : List Done) (w : World) : Type 0 where
  sources : List (ℕ × ℕ)
  long : length sources ≡ length w.log
  owns : Owns events w
  balanced : (core : ℕ) → Balanced (IsDecisionOn limits (budget ∷ budgets) events) core (account events w core)
  sourced : Sourced sources (account events w)

none_out : (budgets : List ℕ) (i : ℕ) → outs (map new_peer budgets) i ≡ false
none_out [] i = refl
none_out (b ∷ budgets) zero = refl
none_out (b ∷ budgets) (suc i) = none_out budgets i

no_out : (budgets : List ℕ) (limits : TableLimits) (budget core : ℕ) → account [] (boot limits budget budgets) core ≡ nothing
no_out budgets limits budget zero = refl
no_out budgets limits budget (suc i) = ap (λ (b : Bool). with_out b) (none_out budgets i)
  where
    with_out : Bool → Account
    with_out b = record { begun = []; decided = []; under_way = cond b (requested unsent) None; settled = cond b (settled_in unsent) None }

kept_boot : (limits : TableLimits) (budget : ℕ) (budgets : List ℕ) → Kept limits budget budgets [] (boot limits budget budgets)
kept_boot limits budget budgets = record {
  sources = [];
  long = refl;
  owns = record { own = λ votes ph. absurd cc; asks_for = λ core asks. absurd cc };
  balanced = λ core. rw (no_out budgets limits budget core) (balanced_none (IsDecisionOn limits (budget ∷ budgets) []) core);
  sourced = record {
    named = λ core n version id at. absurd (none_some None (Committed version id) refl at);
    waits = λ core version id e. absurd (none_some None (Committed version id) refl (sym (ap (λ (a : Account). a.settled) (no_out budgets limits budget core)) ∙ e));
    every = λ k core n at. absurd (none_some None (core, n) refl at);
  };
}

-- what was right stays right
decision_later : (limits : TableLimits) (budgets : List ℕ) (events : List Done) (done : Done) (more : List Op) → log_of (events ++ done ∷ []) ≡ log_of events ++ more → (core n : ℕ) (op : Op) (d : Decision) → n < length (begun_in core events)
    → IsDecisionOn limits budgets events core n op d → IsDecisionOn limits budgets (events ++ done ∷ []) core n op d
decision_later limits budgets events done more log core n op (Committed version id) begun h =
    let at = get_front (log_of events) more h.0 op h.1.entry in (
      h.0,
      subst (λ (l : List Op). IsEntryAt limits l h.0 op version id) (sym log) (record {
        entry = at;
        is_version = h.1.is_version;
        is_made = rw (table_front limits (log_of events) more h.0 (omega (arith, slice_get_within (log_of events) h.0 op h.1.entry))) h.1.is_made;
      }),
    )
decision_later limits budgets events done more log core n op (Refused by why) begun h = (
  h.0,
  omega (arith, h.1, ap length log, length-append (log_of events) more),
  since_more events done core n h.0 (omega (arith, begun, ap length (begun_more core events done), length-append (begun_in core events) (begun_by core done.event))) h.2,
  subst (λ (s : TableState). IsRefused budgets s op by why) (sym (ap (λ (l : List Op). table limits l h.0) log ∙ table_front limits (log_of events) more h.0 h.1)) h.3,
)

kept_more : (limits : TableLimits) (budget : ℕ) (budgets : List ℕ) (events : List Done) (w w' : World) (done : Done) → Run limits budget budgets events w → Kept limits budget budgets events w → Happens w done.event w' done.answer → Kept limits budget budgets (events ++ done ∷ []) w'
kept_more limits budget budgets events w w' done run k h = record {
  sources = k.sources ++ source_of deal.deals.who (length (account events w deal.deals.who).decided) deal.deals.news;
  long = omega (arith, k.long, deal.logged, length-append k.sources (source_of deal.deals.who (length (account events w deal.deals.who).decided) deal.deals.news));
  owns = deal.owns;
  balanced = balanced;
  sourced = sourced_deals (IsDecisionOn limits (budget ∷ budgets) events) (account events w) (account (events ++ done ∷ []) w') k.balanced k.sources k.sourced deal.deals (subst (λ (n : ℕ). IsNext n deal.deals.news) (sym k.long) deal.next);
}
  where
    run' : Run limits budget budgets (events ++ done ∷ []) w'
    run' = runs_more (boot limits budget budgets) w w' events done run h

    f : Facts limits budget budgets events w
    f = record { inv = run_inv limits budget budgets events w run; inv2 = run_stages limits budget budgets events w run; known = run_known limits budget budgets events w run; owns = k.owns; balanced = k.balanced }

    log' : log_of (events ++ done ∷ []) ≡ w'.log
    log' = sym (run_log limits budget budgets (events ++ done ∷ []) w' run')

    deal : Deal limits budget budgets events w w' done.event done.answer f log' (run_limits limits budget budgets (events ++ done ∷ []) w' run')
    deal = event_deals limits budget budgets events w w' done.event done.answer f log' (run_limits limits budget budgets (events ++ done ∷ []) w' run') h

    grown : (more : List Op) × (w'.log ≡ w.log ++ more) × (length more ≤ 1)
    grown = (run_grows limits budget budgets events w w' done.event done.answer run h).log

    log_more : log_of (events ++ done ∷ []) ≡ log_of events ++ grown.0
    log_more = log' ∙ (grown.1 ∙ ap (λ (l : List Op). l ++ grown.0) (run_log limits budget budgets events w run))

    later : (core n : ℕ) (op : Op) (d : Decision) → n < length (begun_in core events) → IsDecisionOn limits (budget ∷ budgets) events core n op d → IsDecisionOn limits (budget ∷ budgets) (events ++ done ∷ []) core n op d
    later = decision_later limits (budget ∷ budgets) events done grown.0 log_more

    balanced : (core : ℕ) → Balanced (IsDecisionOn limits (budget ∷ budgets) (events ++ done ∷ [])) core (account (events ++ done ∷ []) w' core)
    balanced core = by_core (same_or_not deal.deals.who core)
      where
        right : ℕ → ℕ → Op → Decision → Type 0
        right = IsDecisionOn limits (budget ∷ budgets) events

        right' : ℕ → ℕ → Op → Decision → Type 0
        right' = IsDecisionOn limits (budget ∷ budgets) (events ++ done ∷ [])

        by_core : ((deal.deals.who ≡ core) ⊎ (deal.deals.who ≡ core → ⊥)) → Balanced (IsDecisionOn limits (budget ∷ budgets) (events ++ done ∷ [])) core (account (events ++ done ∷ []) w' core)
        by_core (inl e) = subst (λ (c : ℕ). Balanced (IsDecisionOn limits (budget ∷ budgets) (events ++ done ∷ [])) c (account (events ++ done ∷ []) w' c)) e
            (balanced_moves right right' deal.deals.who (account events w deal.deals.who) (later deal.deals.who) (k.balanced deal.deals.who) (account (events ++ done ∷ []) w' deal.deals.who) deal.deals.news deal.deals.moved deal.new)
        by_core (inr ne) = balanced_moves right right' core (account events w core) (later core) (k.balanced core) (account (events ++ done ∷ []) w' core) None (deal.deals.others core ne) tt

run_kept : (limits : TableLimits) (budget : ℕ) (budgets : List ℕ) (events : List Done) (w : World) → Run limits budget budgets events w → Kept limits budget budgets events w
run_kept limits budget budgets = run_keeps limits budget budgets (Kept limits budget budgets) (kept_boot limits budget budgets) (λ events w w' done run k h. kept_more limits budget budgets events w w' done run k h)

pub run_judged : (limits : TableLimits) (budget : ℕ) (budgets : List ℕ) (events : List Done) (w : World) → Run limits budget budgets events w → AreJudged limits (budget ∷ budgets) events
run_judged limits budget budgets events w run core n d at = ((run_kept limits budget budgets events w run).balanced core).judged n d at

pub run_once : (limits : TableLimits) (budget : ℕ) (budgets : List ℕ) (events : List Done) (w : World) → Run limits budget budgets events w → AreCommittedOnce events
run_once limits budget budgets events w run core other n n' version id id' at at' =
    let k = run_kept limits budget budgets events w run in
    let a = k.sourced.named core n version id at in
    let b = k.sourced.named other n' version id' at' in
    let place : a.0 ≡ b.0 = omega (arith, a.1, b.1) in
    let same : (core, n) ≡ (other, n') = same_some (slice_get k.sources b.0) (core, n) (other, n') (subst (λ (m : ℕ). slice_get k.sources m ≡ Some (core, n)) place a.2) b.2 in
    (ap (λ (x : ℕ × ℕ). x.0) same, ap (λ (x : ℕ × ℕ). x.1) same)

pub run_named : (limits : TableLimits) (budget : ℕ) (budgets : List ℕ) (events : List Done) (w : World) → Run limits budget budgets events w → ((core : ℕ) → length (begun_in core events) ≤ length (decided_in core events)) → AreAllNamed events
run_named limits budget budgets events w run all v within =
    let k = run_kept limits budget budgets events w run in
    let s = get_at k.sources v (omega (arith, within, k.long, ap length (run_log limits budget budgets events w run))) in
    by_source k s.0 s.1 (k.sourced.every v s.0.0 s.0.1 s.1)
  where
    by_source : (k : Kept limits budget budgets events w) (s : ℕ × ℕ) → slice_get k.sources v ≡ Some s → ((id : Made) × (slice_get (decided_in s.0 events) s.1 ≡ Some (Committed (v + 1) id)))
        ⊎ ((id : Made) × ((account events w s.0).settled ≡ Some (Committed (v + 1) id)) × (s.1 ≡ length (decided_in s.0 events))) → (core : ℕ) × (number : ℕ) × (id : Made) × (slice_get (decided_in core events) number ≡ Some (Committed (v + 1) id))
    by_source k s at (inl h) = (s.0, s.1, h.0, h.1)
    by_source k s at (inr h) =
        let t = (k.balanced s.0).told (Committed (v + 1) h.0) h.1 in
        let counted = (k.balanced s.0).counted in
        absurd (omega (arith, all s.0, counted, ap one t.1))
