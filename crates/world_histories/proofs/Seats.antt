-- Where the cores of a world stand in their histories, with the messages under way.
use Rattle.std.proofs.Common.{◌≡◌, ◌⊎◌, inl, inr, ℕ, Option, Some, None, List, [], ◌∷◌, ◌++◌, length, map, slice_get, slice_set, refl, ap, sym, ◌∙◌, subst, arith, length-append, append_assoc}
use Rattle.std.specs.Prelude.{option_to_list}
use Rattle.std.proofs.lemmas.List.{append-nil, map-append}
use mathlib.Core.List.{IsPrefix}
use Rattle.filter_table.specs.Limits.{TableLimits}
use Rattle.filter_table.specs.declared.operation.Op.{Op}
use Rattle.monitor_messages.specs.declared.message.Message.{Message}
use Rattle.world_model.specs.Cases.{Outgoing, nothing, to_all, to_one, sent_up, joined, raised}
use Rattle.world_model.specs.Worlds.{Peer, World, send, sent_out, sent_to_one, Run}
use Rattle.world_model.proofs.Lists.{get-set_same, get-set_other, get_map, same_or_not}
use Rattle.world_model.proofs.Submissions.{eq_self, eq_other}
use Rattle.world_histories.specs.declared.history.Stamped.{Stamped}
use Rattle.world_histories.specs.Histories.{Stamping, Sending, for_entry, with_stamp, sent_to, sent_by, taken_from, Core0State, History0, OtherState, HistoryOther}
use Rattle.world_histories.specs.Merging.{as_listed}
use Rattle.world_histories.proofs.Lists.{prefix_more}

abbrev pub messages : List Stamping → List Message
messages ms = map (λ m. m.message) ms

pub messages_stamped : (stamp : ℕ) (ms : List Message) → messages (with_stamp stamp ms) ≡ ms
messages_stamped stamp [] = refl
messages_stamped stamp (m ∷ ms) = ap (λ (xs : List Message). m ∷ xs) (messages_stamped stamp ms)

pub messages_more : (xs : List Stamping) (stamp : ℕ) (ms known : List Message) → messages xs ≡ known → messages (xs ++ with_stamp stamp ms) ≡ known ++ ms
messages_more xs stamp ms known e = map-append (λ m. m.message) xs (with_stamp stamp ms) ∙ rw (e, messages_stamped stamp ms) refl

-- A core of the world, the rest of its history, and the messages under way with their stamps. Core 0 will send and take these, and the rest
-- of what is sent is taken by none.
pub record Seat (rd ru : ℕ → List Stamping) (i : ℕ) (limits : TableLimits) (log : List Op) (p : Peer) (h : List Stamped) (e : OtherState) (sent : List Sending) (taken0 : List (ℕ × Stamping)) : Type 0 where
  pub core : OtherState
  pub taken : List Stamping
  pub ahead : HistoryOther i p.budget core h e taken
  pub limits_are : limits ≡ core.limits
  pub version_is : p.version ≡ length core.log
  pub is_front : IsPrefix core.log log
  pub place_is : p.place ≡ core.place
  pub outstanding_is : p.outstanding ≡ core.outstanding
  pub down : List Stamping
  pub up : List Stamping
  pub down_is : messages down ≡ p.down
  pub up_is : messages up ≡ p.up
  pub takes : taken ++ rd i ≡ down ++ sent_to i sent
  pub gives : taken_from i taken0 ++ ru i ≡ up ++ sent_by h

-- with its history and its end
pub record SeatOf (rd ru : ℕ → List Stamping) (i : ℕ) (limits : TableLimits) (log : List Op) (p : Peer) (hs : List (List Stamped)) (ends : List OtherState) (sent : List Sending) (taken0 : List (ℕ × Stamping)) : Type 0 where
  pub history : List Stamped
  pub is_history : slice_get hs i ≡ Some history
  pub end : OtherState
  pub is_end : slice_get ends i ≡ Some end
  pub seat : Seat rd ru i limits log p history end sent taken0

-- a world that a run leads to, and the rests of all histories from there on
pub record Joint (rd ru : ℕ → List Stamping) (limits : TableLimits) (budget : ℕ) (budgets : List ℕ) (before : List Stamped) (w : World) (c : Core0State) (h0 : List Stamped) (hs : List (List Stamped)) (end : Core0State) (ends : List OtherState) : Type 0 where
  pub run : Run limits budget budgets (as_listed before) w
  pub limits_are : w.limits ≡ c.limits
  pub log_is : w.log ≡ c.log
  pub place_is : w.place ≡ c.place
  pub requests_are : w.requests ≡ c.requests
  pub sent : List Sending
  pub taken : List (ℕ × Stamping)
  pub ahead : History0 (length budgets) budget c h0 end sent taken
  pub cores : length hs ≡ length budgets
  pub seats : (i : ℕ) (p : Peer) → slice_get w.peers i ≡ Some p → SeatOf rd ru i w.limits w.log p hs ends sent taken

-- What core 0 sends reaches the cores

-- the core has more messages to take, and is as before
pub record Got (p q : Peer) (ms : List Message) : Type 0 where
  pub budget_is : q.budget ≡ p.budget
  pub version_is : q.version ≡ p.version
  pub place_is : q.place ≡ p.place
  pub outstanding_is : q.outstanding ≡ p.outstanding
  pub up_is : q.up ≡ p.up
  pub down_is : q.down ≡ p.down ++ ms

got_nothing : (p : Peer) → Got p p []
got_nothing p = record { budget_is = refl; version_is = refl; place_is = refl; outstanding_is = refl; up_is = refl; down_is = sym (append-nil p.down) }

got_one : (p : Peer) (m : Message) → Got p (send m p) (m ∷ [])
got_one p m = record { budget_is = refl; version_is = refl; place_is = refl; outstanding_is = refl; up_is = refl; down_is = refl }

abbrev GotFrom : List Peer → ℕ → Peer → List Message → Type 0
GotFrom peers i q ms = (p : Peer) × (slice_get peers i ≡ Some p) × Got p q ms

pub got_out : (peers : List Peer) (out : Outgoing) (i : ℕ) (q : Peer) → slice_get (sent_out peers out) i ≡ Some q → GotFrom peers i q (for_entry i out)
got_out peers nothing i q at = (q, at, got_nothing q)
got_out peers (to_all m) i q at = let r = get_map (send m) peers i q at in (r.0, r.1, subst (λ (x : Peer). Got r.0 x (m ∷ [])) (sym r.2) (got_one r.0 m))
got_out peers (to_one k m) i q at = by_peer (slice_get peers k) refl at
  where
    other : (k ≡ i → ⊥) → slice_get peers i ≡ Some q → GotFrom peers i q (for_entry i (to_one k m))
    other ne here = rw (eq_other k i ne) (q, here, got_nothing q)

    by_peer : (o : Option Peer) → slice_get peers k ≡ o → slice_get (sent_to_one peers k m o) i ≡ Some q → GotFrom peers i q (for_entry i (to_one k m))
    by_peer None none here = other (λ e. let x : slice_get peers i ≡ None = subst (λ (n : ℕ). slice_get peers n ≡ None) e none in cc) here
    by_peer (Some x) is here = by_place (same_or_not k i)
      where
        by_place : ((k ≡ i) ⊎ (k ≡ i → ⊥)) → GotFrom peers i q (for_entry i (to_one k m))
        by_place (inl e) =
            let here' : slice_get (slice_set peers k (send m x)) k ≡ Some q = subst (λ (n : ℕ). slice_get (slice_set peers k (send m x)) n ≡ Some q) (sym e) here in
            let s = get-set_same peers k (send m x) x is in
            let same : send m x ≡ q = cc in
            let there : slice_get peers i ≡ Some x = subst (λ (n : ℕ). slice_get peers n ≡ Some x) e is in
            rw (← e, eq_self k) (x, is, subst (λ (y : Peer). Got x y (m ∷ [])) same (got_one x m))
        by_place (inr ne) = other ne (sym (get-set_other peers k i (send m x) ne) ∙ here)

pub joined_front : (log : List Op) (committed : Option Op) → joined log committed ≡ log ++ option_to_list committed
joined_front log None = sym (append-nil log)
joined_front log (Some op) = refl

pub raised_long : (log : List Op) (committed : Option Op) → raised (length log) committed ≡ length (joined log committed)
raised_long log None = refl
raised_long log (Some op) = omega (arith, length-append log (op ∷ []))

-- after an event of core 0 that sent this
pub seat_got : (rd ru : ℕ → List Stamping) (i stamp : ℕ) (limits : TableLimits) (log : List Op) (committed : Option Op) (out : Outgoing) (p q : Peer) (h : List Stamped) (e : OtherState) (sent : List Sending) (taken0 : List (ℕ × Stamping))
    → Got p q (for_entry i out) → Seat rd ru i limits log p h e (record { stamp = stamp; sent = out } ∷ sent) taken0 → Seat rd ru i limits (joined log committed) q h e sent taken0
seat_got rd ru i stamp limits log committed out p q h e sent taken0 g s = record {
  core = s.core;
  taken = s.taken;
  ahead = rw g.budget_is s.ahead;
  limits_are = s.limits_are;
  version_is = g.version_is ∙ s.version_is;
  is_front = rw (joined_front log committed) (prefix_more s.core.log log (option_to_list committed) s.is_front);
  place_is = g.place_is ∙ s.place_is;
  outstanding_is = g.outstanding_is ∙ s.outstanding_is;
  down = s.down ++ with_stamp stamp (for_entry i out);
  up = s.up;
  down_is = messages_more s.down stamp (for_entry i out) p.down s.down_is ∙ sym g.down_is;
  up_is = s.up_is ∙ sym g.up_is;
  takes = rw (append_assoc s.down (with_stamp stamp (for_entry i out)) (sent_to i sent)) s.takes;
  gives = s.gives;
}

-- A core's own event

-- the core has done the first event of its history
pub seat_own : (rd ru : ℕ → List Stamping) (i : ℕ) (limits : TableLimits) (log : List Op) (p q : Peer) (s : Stamped) (r : List Stamped) (e : OtherState) (sent : List Sending) (taken0 : List (ℕ × Stamping)) (seat : Seat rd ru i limits log p (s ∷ r) e sent taken0)
    (d : OtherState) (taken down : List Stamping) → HistoryOther i q.budget d r e taken → limits ≡ d.limits → q.version ≡ length d.log → IsPrefix d.log log → q.place ≡ d.place → q.outstanding ≡ d.outstanding
    → messages down ≡ q.down → q.up ≡ p.up ++ option_to_list (sent_up s.done.event s.done.answer) → taken ++ rd i ≡ down ++ sent_to i sent → Seat rd ru i limits log q r e sent taken0
seat_own rd ru i limits log p q s r e sent taken0 seat d taken down ahead same version front place outstanding down_is up takes = record {
  core = d;
  taken = taken;
  ahead = ahead;
  limits_are = same;
  version_is = version;
  is_front = front;
  place_is = place;
  outstanding_is = outstanding;
  down = down;
  up = seat.up ++ with_stamp s.stamp (option_to_list (sent_up s.done.event s.done.answer));
  down_is = down_is;
  up_is = messages_more seat.up s.stamp (option_to_list (sent_up s.done.event s.done.answer)) p.up seat.up_is ∙ sym up;
  takes = takes;
  gives = rw (append_assoc seat.up (with_stamp s.stamp (option_to_list (sent_up s.done.event s.done.answer))) (sent_by r)) seat.gives;
}
