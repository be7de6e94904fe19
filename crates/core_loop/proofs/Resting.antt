-- A core whose turn did one event, or none.
use Rattle.std.proofs.Common.{◌≡◌, ◌⊎◌, inl, inr, ◌∙◌, ℕ, zero, suc, All, List, [], ◌∷◌, ◌++◌, refl, sym, ap, subst, arith, append_assoc}
use Rattle.std.proofs.lemmas.List.{append-nil}
use Rattle.filter_table.specs.declared.operation.Op.{Op}
use Rattle.filter_table.specs.declared.decision.Decision.{Decision}
use Rattle.filter_table.specs.Tables.{HasShortProgram}
use Rattle.world_histories.specs.declared.history.Stamped.{Stamped}
use Rattle.world_histories.specs.Histories.{Stamping}
use Rattle.std.specs.Prelude.{Option, Some, None, Result, Ok, Err, OnOk, IfErr}
use Rattle.ump_ring.specs.declared.sender.Busy.{Busy}
use Rattle.world_model.proofs.Lists.{same_or_not}
use Rattle.core_links.specs.Views.{LinkView, AtPeer}
use Rattle.core_links.specs.declared.list_links.ListLinks.{ListLinks}
use Rattle.core_links.specs.ListSlots.{list_view, SameLists, GivesMessage}
use Rattle.core_loop.specs.declared.part.Part.{Part}
use Rattle.core_loop.specs.declared.cause.Cause.{Cause}
use Rattle.core_loop.specs.declared.cause.Turn.TheVariants.{Did}
use Rattle.core_loop.specs.declared.part.Part.TheVariants as part
use Rattle.core_loop.specs.Coded.{AreCoded}
use Rattle.core_loop.specs.Standing.{IsSilent}
use Rattle.core_loop.specs.Carrying.{Quiet}
use Rattle.core_loop.specs.Cores.{CoreState, SameCore, NothingDone, DidOne, AreShort, begins, begun}
use Rattle.core_loop.specs.Keeping.{IsStanding}
use Rattle.core_loop.specs.Beginning.{IsFitting}

coded_as : (xs ys : List (List ℕ)) (ms : List Stamping) → ys ≡ xs → AreCoded xs ms → AreCoded ys ms
coded_as xs ys ms e a = subst (λ (l : List (List ℕ)). AreCoded l ms) (sym e) a

-- nothing more was sent or taken over the links
abbrev pub SameTraffic : (ℕ → LinkView) → (ℕ → LinkView) → Type 0
SameTraffic v w = (p : ℕ) → ((w p).sent ≡ (v p).sent) × ((w p).taken ≡ (v p).taken)

still_silent : (v w : ℕ → LinkView) (p : ℕ) → SameTraffic v w → IsSilent (v p) → IsSilent (w p)
still_silent v w p q s = ((q p).0 ∙ s.0, (q p).1 ∙ s.1)

-- then the core stands where it stood
pub stands_same : (x : Part) (number cores clock : ℕ) (h : List Stamped) (v w : ℕ → LinkView) → IsStanding x number cores clock h v → SameTraffic v w → IsStanding x number cores clock h w
stands_same (part.Core0 core) number cores clock h v w st q = (
  st.0,
  st.1,
  st.2,
  record {
    sent = st.3.sent;
    taken = st.3.taken;
    is_history = st.3.is_history;
    has_sent = λ e lt. coded_as _ _ _ (q (suc e)).0 (st.3.has_sent e lt);
    has_taken = λ e lt. coded_as _ _ _ (q (suc e)).1 (st.3.has_taken e lt);
    itself = still_silent v w 0 q st.3.itself;
    beyond = λ e le. still_silent v w (suc e) q (st.3.beyond e le);
  },
)
stands_same (part.OtherCore core) number cores clock h v w st q = (
  st.0,
  st.1,
  st.2,
  st.3,
  record {
    taken = st.4.taken;
    is_history = st.4.is_history;
    has_sent = coded_as _ _ _ (q 0).0 st.4.has_sent;
    has_taken = coded_as _ _ _ (q 0).1 st.4.has_taken;
    elsewhere = λ p. still_silent v w (suc p) q (st.4.elsewhere p);
  },
)

-- a look leaves it where it stands
pub stands_quiet : (x : Part) (number cores clock : ℕ) (h : List Stamped) (v w : ℕ → LinkView) → IsStanding x number cores clock h v → ((p : ℕ) → Quiet (v p) (w p)) → IsStanding x number cores clock h w
stands_quiet x number cores clock h v w st q = stands_same x number cores clock h v w st (λ p. ((q p).sent_same, (q p).taken_same))

-- also where its part and its history are only known to be the same
pub rest_stands : (x y : Part) (number cores clock : ℕ) (h k : List Stamped) (v w : ℕ → LinkView) → IsStanding x number cores clock h v → y ≡ x → k ≡ h → ((p : ℕ) → Quiet (v p) (w p)) → IsStanding y number cores clock k w
rest_stands x y number cores clock h k v w st e f q = rw (e, f) (stands_quiet x number cores clock h v w st q)

-- Lists that the caller carries

pub given_traffic : (old new : ListLinks) (peer : ℕ) (message : List ℕ) (r : Result (Unit {0}) Busy)
    → OnOk r (GivesMessage old new peer message) → IfErr r (λ back. AtPeer SameLists list_view peer (λ v w. w ≡ v) old new) → SameTraffic (list_view old) (list_view new)
given_traffic old new peer message (Ok u) g s = λ p. (g.sent p, g.taken p)
given_traffic old new peer message (Err back) g s = λ p. by_place p (same_or_not p peer)
  where
    by_place : (p : ℕ) → ((p ≡ peer) ⊎ (p ≡ peer → ⊥)) → ((list_view new p).sent ≡ (list_view old p).sent) × ((list_view new p).taken ≡ (list_view old p).taken)
    by_place p (inl e) = subst (λ (n : ℕ). ((list_view new n).sent ≡ (list_view old n).sent) × ((list_view new n).taken ≡ (list_view old n).taken)) (sym e) (ap (λ (v : LinkView). v.sent) s.1, ap (λ (v : LinkView). v.taken) s.1)
    by_place p (inr ne) = (ap (λ (v : LinkView). v.sent) (s.2 p ne), ap (λ (v : LinkView). v.taken) (s.2 p ne))

pub fits : (x : Part) (number cores clock : ℕ) (h : List Stamped) (v : ℕ → LinkView) → IsStanding x number cores clock h v → IsFitting number cores x
fits (part.Core0 core) number cores clock h v st = (st.1, st.2.others_are, st.2.between)
fits (part.OtherCore core) number cores clock h v st = (st.0, st.2, st.3.between)

all_rest : {A : Type 0} (P : A → Type 0) (front rest : List A) → All P (front ++ rest) → All P rest
all_rest P [] rest a = a
all_rest P (x ∷ xs) rest a = all_rest P xs rest (λ k d lt. a (suc k) d (omega arith))

-- the requests that are left can be sent as well
pub short_rest : (number : ℕ) (all front rest : List Op) → all ≡ front ++ rest → AreShort number all → AreShort number rest
short_rest zero all front rest e s = tt
short_rest (suc entry) all front rest e s = all_rest HasShortProgram front rest (subst (λ (l : List Op). All HasShortProgram l) e s)

-- what is begun and what is left are all requests, still
flat_map_more : (h : List Stamped) (s : Stamped) → begun (h ++ s ∷ []) ≡ begun h ++ begins s.done.event
flat_map_more [] s = append-nil (begins s.done.event)
flat_map_more (x ∷ h) s = ap (λ (l : List Op). begins x.done.event ++ l) (flat_map_more h s) ∙ sym (append_assoc (begins x.done.event) (begun h) (begins s.done.event))

pub begun_more : (h k : List Stamped) (s : Stamped) (p q : List Op) → k ≡ h ++ s ∷ [] → p ≡ begins s.done.event ++ q → begun k ++ q ≡ begun h ++ p
begun_more h k s p q e f = rw (e, flat_map_more h s, append_assoc, f) refl

-- what is said of a core's fields is said of what a contract sees of them
pub seen_same : {L : Type 0} (same : L → L → Type 0) (i old new : CoreState L) → i ≡ old → SameCore same i new → SameCore same old new
seen_same same i old new e h = rw (← e) h

pub seen_idle : {L : Type 0} (view : L → ℕ → LinkView) (i old new : CoreState L) → i ≡ old → NothingDone view i new → NothingDone view old new
seen_idle view i old new e h = rw (← e) h

pub seen_done : {L : Type 0} (view : L → ℕ → LinkView) (i old new : CoreState L) (s t : Stamped) → s ≡ t → i ≡ old → DidOne view i new s → DidOne view old new t
seen_done view i old new s t same e h = subst (λ (x : Stamped). DidOne view old new x) same (subst (λ c. DidOne view c new s) e h)

-- a turn that did the one event did the other
pub did_is : (s t : Stamped) (d e : Option Decision) → Did s d ≡ Did t e → (s ≡ t) × (d ≡ e)
did_is s t d e is = (cc, cc)

-- a core that was running was not stopped
pub was_running : {L : Type 0} {A : Type 0} (i old : CoreState L) (cause : Cause) → i ≡ old → i.stopped ≡ None → old.stopped ≡ Some cause → A
was_running i old cause e none is = absurd (let running = rw e at none in cc)
