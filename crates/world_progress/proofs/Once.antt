-- A fault that stands is the only one, the take that comes next too, and a core lacks memory or doesn't.
use Rattle.std.proofs.Common.{◌≡◌, ◌≢◌, ◌<◌, ◌⊎◌, inl, inr, ℕ, zero, suc, Bool, true, false, Some, [], List, slice_get, refl, ap, sym, ◌∙◌, subst, arith}
use Rattle.std.specs.Prelude.{option_map}
use Rattle.filter_table.specs.declared.operation.Op.{Op}
use Rattle.filter_table.proofs.Lists.{three}
use Rattle.filter_table.specs.declared.decision.Veto.TheVariants as veto
use Rattle.filter_table.specs.declared.decision.Decision.TheVariants.{Refused}
use Rattle.monitor_messages.specs.declared.message.Message.{Message}
use Rattle.world_events.specs.declared.event.Event.{Event}
use Rattle.world_events.specs.declared.event.Event.TheVariants.{Start, Submit, StartFor, Take, Rx}
use Rattle.world_events.specs.declared.event.Answer.{Answer}
use Rattle.world_events.specs.declared.event.Answer.TheVariants.{Decided}
use Rattle.world_events.specs.declared.fault.WorldFault.{WorldFault}
use Rattle.world_events.specs.declared.fault.WorldFault.TheVariants.{NoSuchCore, Nothing, NotReady, NotIdle, Spent, Outstanding, NoneWaiting}
use Rattle.world_events.specs.Memory.{lacked_memory, IsRefusedForMemory, LacksMemory}
use Rattle.world_model.specs.Worlds.{Peer, World}
use Rattle.world_model.specs.Refusals.{StandsFirst, AllQuiet, IsNext}

-- Whether a core was out of memory

refused_or_not : (answer : Answer) → IsRefusedForMemory answer ⊎ (IsRefusedForMemory answer → ⊥)
refused_or_not (Decided (Refused core veto.NoMemory)) = inl tt
refused_or_not answer = inr (λ h. h)

short_or_not : (short votes : Bool) → ((short ≡ false) × (votes ≡ true)) ⊎ ((short ≡ false) × (votes ≡ true) → ⊥)
short_or_not true votes = inr (λ h. let x = h.0 in cc)
short_or_not false true = inl (refl, refl)
short_or_not false false = inr (λ h. let x = h.1 in cc)

pub lacks_or_not : (event : Event) (answer : Answer) → LacksMemory event answer ⊎ (LacksMemory event answer → ⊥)
lacks_or_not (Start op) answer = refused_or_not answer
lacks_or_not (StartFor core) answer = refused_or_not answer
lacks_or_not (Take to from short) answer = short_or_not short (lacked_memory answer)
lacks_or_not event answer = inr (λ h. h)

-- Faults

outstanding_joined : (w : World) (core : ℕ) (op : Op) → StandsFirst w (Submit core op) NoSuchCore → StandsFirst w (Submit core op) Outstanding → ⊥
outstanding_joined w zero op a b = absurd (omega (arith, b.2))
outstanding_joined w (suc i) op a b =
    let e : b.0 ≡ i = omega (arith, b.2) in
    let at : slice_get w.peers i ≡ Some b.1 = subst (λ (n : ℕ). slice_get w.peers n ≡ Some b.1) e b.3 in
    let x = ap (option_map (λ (p : Peer). p.up)) at in
    let y = a in
    cc

pub stands_once : (w : World) (event : Event) (f f' : WorldFault) → StandsFirst w event f → StandsFirst w event f' → f ≡ f'
stands_once w (Start op) NotIdle NotIdle a b = refl
stands_once w (Start op) NotIdle Spent a b = absurd (a b.0)
stands_once w (Start op) NotIdle f' a b = absurd b
stands_once w (Start op) Spent Spent a b = refl
stands_once w (Start op) Spent NotIdle a b = absurd (b a.0)
stands_once w (Start op) Spent f' a b = absurd b
stands_once w (Submit core op) NoSuchCore NoSuchCore a b = refl
stands_once w (Submit core op) NoSuchCore Outstanding a b = absurd (outstanding_joined w core op a b)
stands_once w (Submit core op) NoSuchCore f' a b = absurd b
stands_once w (Submit core op) Outstanding Outstanding a b = refl
stands_once w (Submit core op) Outstanding NoSuchCore a b = absurd (outstanding_joined w core op b a)
stands_once w (Submit core op) Outstanding f' a b = absurd b
stands_once w (StartFor core) NoSuchCore NoSuchCore a b = refl
stands_once w (StartFor core) NoSuchCore NotIdle a b = absurd (b.0 a)
stands_once w (StartFor core) NoSuchCore Spent a b = absurd (b.0 a)
stands_once w (StartFor core) NoSuchCore NoneWaiting a b = absurd (b.0 a)
stands_once w (StartFor core) NoSuchCore f' a b = absurd b
stands_once w (StartFor core) NotIdle NotIdle a b = refl
stands_once w (StartFor core) NotIdle NoSuchCore a b = absurd (a.0 b)
stands_once w (StartFor core) NotIdle Spent a b = absurd (a.1 b.1)
stands_once w (StartFor core) NotIdle NoneWaiting a b = absurd (a.1 b.1)
stands_once w (StartFor core) NotIdle f' a b = absurd b
stands_once w (StartFor core) Spent Spent a b = refl
stands_once w (StartFor core) Spent NoSuchCore a b = absurd (a.0 b)
stands_once w (StartFor core) Spent NotIdle a b = absurd (b.1 a.1)
stands_once w (StartFor core) Spent NoneWaiting a b = absurd (b.2 a.2)
stands_once w (StartFor core) Spent f' a b = absurd b
stands_once w (StartFor core) NoneWaiting NoneWaiting a b = refl
stands_once w (StartFor core) NoneWaiting NoSuchCore a b = absurd (a.0 b)
stands_once w (StartFor core) NoneWaiting NotIdle a b = absurd (b.1 a.1)
stands_once w (StartFor core) NoneWaiting Spent a b = absurd (a.2 b.2)
stands_once w (StartFor core) NoneWaiting f' a b = absurd b
stands_once w (Take to from short) NoSuchCore NoSuchCore a b = refl
stands_once w (Take to from short) NoSuchCore Nothing a b = absurd (let x = a in let y = b in cc)
stands_once w (Take to from short) NoSuchCore f' a b = absurd b
stands_once w (Take to from short) Nothing Nothing a b = refl
stands_once w (Take to from short) Nothing NoSuchCore a b = absurd (let x = a in let y = b in cc)
stands_once w (Take to from short) Nothing f' a b = absurd b
stands_once w (Rx core number packet floor) NoSuchCore NoSuchCore a b = refl
stands_once w (Rx core number packet floor) NoSuchCore NotReady a b = absurd (let x = a in let y = b.1 in cc)
stands_once w (Rx core number packet floor) NoSuchCore f' a b = absurd b
stands_once w (Rx core number packet floor) NotReady NotReady a b = refl
stands_once w (Rx core number packet floor) NotReady NoSuchCore a b = absurd (let x = b in let y = a.1 in cc)
stands_once w (Rx core number packet floor) NotReady f' a b = absurd b
stands_once w event f f' a b = absurd a

-- The take that comes next

-- the least core with a message is one
least_once : (w : World) (f : Peer → List Message) (i j : ℕ) (p q : Peer) → slice_get w.peers i ≡ Some p → slice_get w.peers j ≡ Some q → f p ≢ [] → f q ≢ []
    → ((k : ℕ) (r : Peer) → k < i → slice_get w.peers k ≡ Some r → f r ≡ []) → ((k : ℕ) (r : Peer) → k < j → slice_get w.peers k ≡ Some r → f r ≡ []) → i ≡ j
least_once w f i j p q at at' some some' before before' = by_order (three i j)
  where
    by_order : (i < j) ⊎ ((i ≡ j) ⊎ (j < i)) → i ≡ j
    by_order (inl lt) = absurd (some (before' i p lt at))
    by_order (inr (inl same)) = same
    by_order (inr (inr gt)) = absurd (some' (before j q gt at'))

pub next_once : (w : World) (e1 e2 : Event) → IsNext w e1 → IsNext w e2 → e1 ≡ e2
next_once w e1 e2 a b = elim a.choice [
  | inl x ↦ elim b.choice [
    | inl y ↦ x.0 ∙ (ap (λ (n : ℕ). Take (suc n) 0 false) (least_once w (λ p. p.down) a.entry b.entry a.peer b.peer a.at b.at x.1 y.1 x.2 y.2) ∙ sym y.0)
    | inr y ↦ absurd (x.1 (y.2 a.entry a.peer a.at))
  ]
  | inr x ↦ elim b.choice [
    | inl y ↦ absurd (y.1 (x.2 b.entry b.peer b.at))
    | inr y ↦ x.0 ∙ (ap (λ (n : ℕ). Take 0 (suc n) false) (least_once w (λ p. p.up) a.entry b.entry a.peer b.peer a.at b.at x.1 y.1 x.3 y.3) ∙ sym y.0)
  ]
]

pub quiet_no_next : (w : World) (e : Event) → AllQuiet w → IsNext w e → ⊥
quiet_no_next w e quiet n = elim n.choice [
  | inl x ↦ x.1 (quiet n.entry n.peer n.at).none_down
  | inr x ↦ x.1 (quiet n.entry n.peer n.at).none_up
]
