-- Settling ends, in one way.
use Rattle.std.proofs.Common.{◌≡◌, ◌≢◌, ◌<◌, ◌⊎◌, inl, inr, ℕ, zero, suc, false, Some, List, [], ◌∷◌, ◌++◌, slice_get, refl, ap, sym, ◌∙◌, subst, arith}
use Rattle.std.specs.Prelude.{option_map}
use Rattle.std.specs.List.{All}
use Rattle.std.proofs.lemmas.List.Elements.{All-nil, All-cons, All-head, All-tail}
use Rattle.monitor_messages.specs.declared.message.Message.{Message}
use Rattle.world_events.specs.declared.event.Event.{Event}
use Rattle.world_events.specs.declared.event.Event.TheVariants.{Take}
use Rattle.world_events.specs.declared.event.Answer.{Answer}
use Rattle.world_events.specs.declared.event.Done.{Done}
use Rattle.world_events.specs.declared.fault.WorldFault.{WorldFault}
use Rattle.world_events.specs.declared.fault.WorldFault.TheVariants.{NoSuchCore, Nothing}
use Rattle.world_events.specs.Memory.{LacksMemory, HadMemory}
use Rattle.world_model.specs.Worlds.{Peer, World, boot, Happens, Run}
use Rattle.world_model.proofs.Runs.{runs_more}
use Rattle.world_model.proofs.Agreement.{run_inv}
use Rattle.world_model.specs.Refusals.{channel, StandsFirst, AllQuiet, IsNext, Settles}
use Rattle.world_model.specs.Settling.{takes_left}
use Rattle.world_model.proofs.Loads.{next_leaves}
use Rattle.world_progress.specs.Progress.{DoneOrRefused, SettlesAmply}
use Rattle.world_progress.proofs.SameRuns.{happens_once}
use Rattle.world_progress.proofs.Once.{next_once, quiet_no_next}
use Rattle.filter_table.specs.Limits.{TableLimits}
use Rattle.world_progress.proofs.Told.{event_told}

-- A take comes next, or all is quiet

-- the least core with a message
record Least (f : Peer → List Message) (peers : List Peer) : Type 0 where
  entry : ℕ
  peer : Peer
  at : slice_get peers entry ≡ Some peer
  some : f peer ≢ []
  before : (i : ℕ) (p : Peer) → i < entry → slice_get peers i ≡ Some p → f p ≡ []

-- no core has one
abbrev NoneHas : (Peer → List Message) → List Peer → Type 0
NoneHas f peers = (i : ℕ) (p : Peer) → slice_get peers i ≡ Some p → f p ≡ []

least_or_none : (f : Peer → List Message) (peers : List Peer) → Least f peers ⊎ NoneHas f peers
least_or_none f [] = inr (λ i p at. absurd cc)
least_or_none f (first ∷ peers) = by_first (f first) refl (least_or_none f peers)
  where
    all : f first ≡ [] → NoneHas f peers → NoneHas f (first ∷ peers)
    all e none zero p at = let same : first ≡ p = cc in rw (← same) e
    all e none (suc i) p at = none i p at

    before : f first ≡ [] → (entry : ℕ) → ((i : ℕ) (p : Peer) → i < entry → slice_get peers i ≡ Some p → f p ≡ []) → (i : ℕ) (p : Peer) → i < suc entry → slice_get (first ∷ peers) i ≡ Some p → f p ≡ []
    before e entry rest zero p lt at = let same : first ≡ p = cc in rw (← same) e
    before e entry rest (suc i) p lt at = rest i p (omega arith) at

    by_first : (ms : List Message) → f first ≡ ms → Least f peers ⊎ NoneHas f peers → Least f (first ∷ peers) ⊎ NoneHas f (first ∷ peers)
    by_first (m ∷ ms) e rest = inl (record { entry = 0; peer = first; at = refl; some = λ none. cc; before = λ i p lt at. absurd (omega arith) })
    by_first [] e (inl l) = inl (record { entry = suc l.entry; peer = l.peer; at = l.at; some = l.some; before = before e l.entry l.before })
    by_first [] e (inr none) = inr (all e none)

next_or_quiet : (w : World) → ((event : Event) × IsNext w event) ⊎ AllQuiet w
next_or_quiet w = by_down (least_or_none (λ p. p.down) w.peers) (least_or_none (λ p. p.up) w.peers)
  where
    by_down : Least (λ p. p.down) w.peers ⊎ NoneHas (λ p. p.down) w.peers → Least (λ p. p.up) w.peers ⊎ NoneHas (λ p. p.up) w.peers → ((event : Event) × IsNext w event) ⊎ AllQuiet w
    by_down (inl l) ups = inl (Take (suc l.entry) 0 false, record { entry = l.entry; peer = l.peer; at = l.at; choice = inl (refl, l.some, l.before) })
    by_down (inr none) (inl l) = inl (Take 0 (suc l.entry) false, record { entry = l.entry; peer = l.peer; at = l.at; choice = inr (refl, l.some, none, l.before) })
    by_down (inr none) (inr quiet) = inr (λ i p at. record { none_down = none i p at; none_up = quiet i p at })

-- no fault stands for it

down_stands : (w : World) (i : ℕ) (p : Peer) (fault : WorldFault) → slice_get w.peers i ≡ Some p → p.down ≢ [] → StandsFirst w (Take (suc i) 0 false) fault → ⊥
down_stands w i p NoSuchCore at some s = let x : channel w (suc i) 0 ≡ Some p.down = ap (option_map (λ (q : Peer). q.down)) at in cc (x, s)
down_stands w i p Nothing at some s = some (let x : channel w (suc i) 0 ≡ Some p.down = ap (option_map (λ (q : Peer). q.down)) at in cc (x, s))
down_stands w i p fault at some s = s

up_stands : (w : World) (i : ℕ) (p : Peer) (fault : WorldFault) → slice_get w.peers i ≡ Some p → p.up ≢ [] → StandsFirst w (Take 0 (suc i) false) fault → ⊥
up_stands w i p NoSuchCore at some s = let x : channel w 0 (suc i) ≡ Some p.up = ap (option_map (λ (q : Peer). q.up)) at in cc (x, s)
up_stands w i p Nothing at some s = some (let x : channel w 0 (suc i) ≡ Some p.up = ap (option_map (λ (q : Peer). q.up)) at in cc (x, s))
up_stands w i p fault at some s = s

next_stands : (w : World) (event : Event) (fault : WorldFault) → IsNext w event → StandsFirst w event fault → ⊥
next_stands w event fault n s = elim n.choice [
  | inl x ↦ down_stands w n.entry n.peer fault n.at x.1 (subst (λ (e : Event). StandsFirst w e fault) x.0 s)
  | inr x ↦ up_stands w n.entry n.peer fault n.at x.1 (subst (λ (e : Event). StandsFirst w e fault) x.0 s)
]

-- Fewer takes are left each time

module _ (limits : TableLimits) (budget : ℕ) (budgets : List ℕ) where
  settles_within : (most : ℕ) (before : List Done) (w : World) → Run limits budget budgets before w → takes_left w < most → SettlesAmply w
  settles_within zero before w run few = absurd (omega arith)
  settles_within (suc most) before w run few = by_next (next_or_quiet w) (settles_within most)
    where
      by_told : (event : Event) → IsNext w event → DoneOrRefused w event → ((later : List Done) (w' : World) → Run limits budget budgets later w' → takes_left w' < most → SettlesAmply w') → SettlesAmply w
      by_told event next (inr refused) more = absurd (next_stands w event refused.0 next refused.1)
      by_told event next (inl d) more =
          let done : Done = record { event = event; answer = d.answer } in
          let fewer : takes_left d.next < takes_left w = next_leaves w d.next done (run_inv limits budget budgets before w run) next d.happens in
          let rest : SettlesAmply d.next = more (before ++ done ∷ []) d.next (runs_more (boot limits budget budgets) w d.next before done run d.happens) (omega arith) in
          record {
            taken = done ∷ rest.taken;
            end = rest.end;
            settles = (d.next, next, d.happens, rest.settles);
            quiet = rest.quiet;
            had_memory = All-cons HadMemory done rest.taken d.had_memory rest.had_memory;
          }

      by_next : ((event : Event) × IsNext w event) ⊎ AllQuiet w → ((later : List Done) (w' : World) → Run limits budget budgets later w' → takes_left w' < most → SettlesAmply w') → SettlesAmply w
      by_next (inl next) more = by_told next.0 next.1 (event_told limits budget budgets before w next.0 run) more
      by_next (inr quiet) more = record { taken = []; end = w; settles = refl; quiet = quiet; had_memory = All-nil HadMemory }

pub run_settles : (limits : TableLimits) (budget : ℕ) (budgets : List ℕ) (events : List Done) (w : World) → Run limits budget budgets events w → SettlesAmply w
run_settles limits budget budgets events w run = settles_within limits budget budgets (suc (takes_left w)) events w run (omega arith)

-- One way

pub settles_once : (w w1 w2 : World) (taken1 taken2 : List Done) → Settles w taken1 w1 → AllQuiet w1 → All HadMemory taken1 → Settles w taken2 w2 → AllQuiet w2 → All HadMemory taken2 → (taken1 ≡ taken2) × (w1 ≡ w2)
settles_once w w1 w2 [] [] s1 quiet1 had1 s2 quiet2 had2 = (refl, s1 ∙ sym s2)
settles_once w w1 w2 [] (d ∷ ds) s1 quiet1 had1 s2 quiet2 had2 = absurd (quiet_no_next w d.event (subst AllQuiet s1 quiet1) s2.1)
settles_once w w1 w2 (c ∷ cs) [] s1 quiet1 had1 s2 quiet2 had2 = absurd (quiet_no_next w c.event (subst AllQuiet s2 quiet2) s1.1)
settles_once w w1 w2 (c ∷ cs) (d ∷ ds) s1 quiet1 had1 s2 quiet2 had2 =
    let rest = settles_once s2.0 w1 w2 cs ds (subst (λ (x : World). Settles x cs w1) here.1 s1.3) quiet1 (All-tail HadMemory c cs had1) s2.3 quiet2 (All-tail HadMemory d ds had2) in
    (rw (same_done, rest.0) refl, rest.1)
  where
    same_event : c.event ≡ d.event
    same_event = next_once w c.event d.event s1.1 s2.1

    here : (c.answer ≡ d.answer) × (s1.0 ≡ s2.0)
    here = happens_once w s1.0 s2.0 d.event c.answer d.answer (subst (λ (event : Event). Happens w event s1.0 c.answer) same_event s1.2) s2.2
        (subst (λ (event : Event). LacksMemory event c.answer → ⊥) same_event (All-head HadMemory c cs had1)) (All-head HadMemory d ds had2)

    same_done : c ≡ d
    same_done = ap (λ (x : Event). record { event = x; answer = c.answer }) same_event ∙ ap (λ (x : Answer). record { event = d.event; answer = x }) here.0
