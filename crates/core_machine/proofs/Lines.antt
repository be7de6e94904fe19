-- Lines between core 0 and the others.
use Rattle.std.proofs.Common.{◌≡◌, ◌+◌, ◌-◌, ◌*◌, ◌<◌, ◌≤◌, ◌⊎◌, inl, inr, ℕ, zero, suc, Bool, true, false, cond, ◌==◌, Option, Some, None, List, [], ◌∷◌, length, length-append, slice_get, refl, sym, ap, subst, arith}
use Rattle.std.specs.Prelude.{option_to_list}
use Rattle.monitor_messages.specs.declared.message.Message.{Message}
use Rattle.world_events.specs.declared.event.Event.{Event}
use Rattle.world_events.specs.declared.event.Event.TheVariants.{Start, StartFor, Submit, Take, Rx}
use Rattle.world_events.specs.declared.event.Answer.{Answer}
use Rattle.world_model.specs.Cases.{Outgoing, nothing, to_all, to_one, sent_up}
use Rattle.world_histories.specs.declared.history.Stamped.{Stamped}
use Rattle.world_histories.specs.Histories.{unstamped, Stamping, Sending, for_entry, with_stamp, sent_to, sent_by, Core0State, Does0, History0, OtherState, DoesOther, HistoryOther}
use Rattle.world_progress.specs.Remaining.{is_step, steps}
use Rattle.core_links.specs.declared.ring_links.RingLinks.{RingLinks}
use Rattle.core_links.specs.RingSlots.{ring_view}
use Rattle.core_links.specs.Flows.{ring_flow}
use Rattle.core_loop.specs.Coded.{AreCoded}
use Rattle.core_machine.specs.Machines.{RingCore}
use Rattle.core_machine.specs.Ahead.{lines_of, ring_ahead, lines_between}

-- Messages that were sent

pub coded_long : (bs : List (List ℕ)) (ms : List Stamping) → AreCoded bs ms → length bs ≡ length ms
coded_long [] [] a = refl
coded_long [] (m ∷ ms) a = absurd a
coded_long (b ∷ bs) [] a = absurd a
coded_long (b ∷ bs) (m ∷ ms) a = ap suc (coded_long bs ms a.1)

stamped_long : (stamp : ℕ) (ms : List Message) → length (with_stamp stamp ms) ≡ length ms
stamped_long stamp [] = refl
stamped_long stamp (m ∷ ms) = ap suc (stamped_long stamp ms)

one_for : (entry : ℕ) (out : Outgoing) → length (for_entry entry out) ≤ 1
one_for entry nothing = omega arith
one_for entry (to_all m) = omega arith
one_for entry (to_one receiver m) = by_test (receiver == entry)
  where
    by_test : (b : Bool) → length (cond b (m ∷ []) []) ≤ 1
    by_test true = omega arith
    by_test false = omega arith

-- core 0 sends nothing as it receives a packet
sent_at : (others budget : ℕ) (c : Core0State) (stamp : ℕ) (event : Event) (m : Option Stamping) (c' : Core0State) (answer : Answer) (out : Outgoing) (entry : ℕ) → Does0 others budget c stamp event m c' answer out → length (for_entry entry out) ≤ is_step event
sent_at others budget c stamp (Rx zero number packet floor) None c' answer out entry d = subst (λ (o : Outgoing). length (for_entry entry o) ≤ 0) (sym d.sends) (omega arith)
sent_at others budget c stamp (Rx zero number packet floor) (Some m) c' answer out entry d = absurd d
sent_at others budget c stamp (Rx (suc core) number packet floor) m c' answer out entry d = absurd d
sent_at others budget c stamp (Start op) m c' answer out entry d = one_for entry out
sent_at others budget c stamp (StartFor core) m c' answer out entry d = one_for entry out
sent_at others budget c stamp (Submit core op) m c' answer out entry d = one_for entry out
sent_at others budget c stamp (Take to from short) m c' answer out entry d = one_for entry out

pub sent_down : (others budget : ℕ) (c : Core0State) (h : List Stamped) (c' : Core0State) (sent : List Sending) (taken : List (ℕ × Stamping)) (entry : ℕ) → History0 others budget c h c' sent taken → length (sent_to entry sent) ≤ steps (unstamped h)
sent_down others budget c [] c' sent taken entry h = subst (λ (l : List Sending). length (sent_to entry l) ≤ 0) (sym h.1) (omega arith)
sent_down others budget c (s ∷ later) c' sent taken entry h =
    let rest = sent_down others budget h.0 later c' h.3 h.4 entry h.6 in
    let one = sent_at others budget c s.stamp s.done.event h.1 h.0 s.done.answer h.2 entry h.5.does in
    subst (λ (l : List Sending). length (sent_to entry l) ≤ steps (unstamped (s ∷ later))) (sym h.7)
    (omega (arith, rest, one, length-append (with_stamp s.stamp (for_entry entry h.2)) (sent_to entry h.3), stamped_long s.stamp (for_entry entry h.2)))

at_most_one : (o : Option Message) → length (option_to_list o) ≤ 1
at_most_one None = omega arith
at_most_one (Some m) = omega arith

-- nor does another core
up_at : (entry budget : ℕ) (c : OtherState) (stamp : ℕ) (event : Event) (m : Option Stamping) (c' : OtherState) (answer : Answer) → DoesOther entry budget c stamp event m c' answer → length (option_to_list (sent_up event answer)) ≤ is_step event
up_at entry budget c stamp (Rx zero number packet floor) m c' answer d = absurd d
up_at entry budget c stamp (Rx (suc core) number packet floor) None c' answer d =
    subst (λ (a : Answer). length (option_to_list (sent_up (Rx (suc core) number packet floor) a)) ≤ 0) (sym d.1.here.is_answer) (omega arith)
up_at entry budget c stamp (Rx (suc core) number packet floor) (Some m) c' answer d = absurd d
up_at entry budget c stamp (Start op) m c' answer d = at_most_one (sent_up (Start op) answer)
up_at entry budget c stamp (StartFor core) m c' answer d = at_most_one (sent_up (StartFor core) answer)
up_at entry budget c stamp (Submit core op) m c' answer d = at_most_one (sent_up (Submit core op) answer)
up_at entry budget c stamp (Take to from short) m c' answer d = at_most_one (sent_up (Take to from short) answer)

pub sent_up_most : (entry budget : ℕ) (c : OtherState) (h : List Stamped) (c' : OtherState) (taken : List Stamping) → HistoryOther entry budget c h c' taken → length (sent_by h) ≤ steps (unstamped h)
sent_up_most entry budget c [] c' taken h = omega arith
sent_up_most entry budget c (s ∷ later) c' taken h =
    let rest = sent_up_most entry budget h.0 later c' h.2 h.4 in
    let one = up_at entry budget c s.stamp s.done.event h.1 h.0 s.done.answer h.3.does in
    omega (arith, rest, one, length-append (with_stamp s.stamp (option_to_list (sent_up s.done.event s.done.answer))) (sent_by later), stamped_long s.stamp (option_to_list (sent_up s.done.event s.done.answer)))

-- A ring over which lines moved

pub record RingMoved (from from' : RingLinks) (p : ℕ) (to to' : RingLinks) (q : ℕ) : Type 0 where
  pub sent : (ring_view from' p).sent ≡ (ring_view from p).sent
  pub out : (ring_flow from p).out ≤ (ring_flow from' p).out
  pub come : (ring_flow to q).come ≤ (ring_flow to' q).come
  pub below : (ring_flow to' q).come ≤ (ring_flow from' p).out
  pub within : (ring_flow from' p).out ≤ lines_of (length (ring_view from' p).sent)

-- or none did
pub record RingStill (from from' : RingLinks) (p : ℕ) (to to' : RingLinks) (q : ℕ) : Type 0 where
  pub out : (ring_flow from' p).out ≡ (ring_flow from p).out
  pub come : (ring_flow to' q).come ≡ (ring_flow to q).come

same_or_less : (m n : ℕ) → m ≤ n → (n ≡ m) ⊎ (m < n)
same_or_less zero zero le = inl refl
same_or_less zero (suc n) le = inr (omega arith)
same_or_less (suc m) zero le = absurd (omega (arith, le))
same_or_less (suc m) (suc n) le = more (same_or_less m n (omega (arith, le)))
  where
    more : (n ≡ m) ⊎ (m < n) → (suc n ≡ suc m) ⊎ (suc m < suc n)
    more (inl e) = inl (ap suc e)
    more (inr l) = inr (omega (arith, l))

abbrev Falls : ℕ → ℕ → ℕ → ℕ → ℕ → Type 0
Falls all out out' come come' = (((all - out') + (all - come') < (all - out) + (all - come)) ⊎ (((all - out') + (all - come') ≡ (all - out) + (all - come)) × (out' ≡ out) × (come' ≡ come)))

falls : (all out out' come come' : ℕ) → out ≤ out' → come ≤ come' → come' ≤ out' → out' ≤ all → Falls all out out' come come'
falls all out out' come come' o c b w = by_out (same_or_less out out' o) (same_or_less come come' c)
  where
    by_out : (out' ≡ out) ⊎ (out < out') → (come' ≡ come) ⊎ (come < come') → Falls all out out' come come'
    by_out (inl e) (inl f) = inr (omega (arith, e, f), e, f)
    by_out (inl e) (inr g) = inl (omega (arith, e, g, b, w))
    by_out (inr l) x = inl (omega (arith, l, c, b, w))

pub ring_falls : (from from' : RingLinks) (p : ℕ) (to to' : RingLinks) (q : ℕ) → RingMoved from from' p to to' q
    → (ring_ahead from' p to' q < ring_ahead from p to q) ⊎ ((ring_ahead from' p to' q ≡ ring_ahead from p to q) × RingStill from from' p to to' q)
ring_falls from from' p to to' q m = by_falls (falls all' (ring_flow from p).out (ring_flow from' p).out (ring_flow to q).come (ring_flow to' q).come m.out m.come m.below m.within)
  where
    all : ℕ
    all = lines_of (length (ring_view from p).sent)

    all' : ℕ
    all' = lines_of (length (ring_view from' p).sent)

    same : all' ≡ all
    same = ap (λ (l : List (List ℕ)). lines_of (length l)) m.sent

    by_falls : Falls all' (ring_flow from p).out (ring_flow from' p).out (ring_flow to q).come (ring_flow to' q).come
        → (ring_ahead from' p to' q < ring_ahead from p to q) ⊎ ((ring_ahead from' p to' q ≡ ring_ahead from p to q) × RingStill from from' p to to' q)
    by_falls (inl l) = inl (subst (λ (n : ℕ). (all' - (ring_flow from' p).out) + (all' - (ring_flow to' q).come) < (n - (ring_flow from p).out) + (n - (ring_flow to q).come)) same l)
    by_falls (inr e) = inr (subst (λ (n : ℕ). (all' - (ring_flow from' p).out) + (all' - (ring_flow to' q).come) ≡ (n - (ring_flow from p).out) + (n - (ring_flow to q).come)) same e.0, record { out = e.1; come = e.2 })

-- All rings

pub record LinkMoved (first first' : RingCore) (number : ℕ) (c d : RingCore) : Type 0 where
  pub down : RingMoved first.links first'.links number c.links d.links 0
  pub up : RingMoved c.links d.links 0 first.links first'.links number

pub record LinkStill (first first' : RingCore) (number : ℕ) (c d : RingCore) : Type 0 where
  pub down : RingStill first.links first'.links number c.links d.links 0
  pub up : RingStill c.links d.links 0 first.links first'.links number

abbrev pub AllStill : RingCore → RingCore → ℕ → List RingCore → List RingCore → Type 0
AllStill first first' number cs ds = (k : ℕ) (c d : RingCore) → slice_get cs k ≡ Some c → slice_get ds k ≡ Some d → LinkStill first first' (number + k) c d

abbrev pub FallsBetween : RingCore → RingCore → ℕ → List RingCore → List RingCore → Type 0
FallsBetween first first' number cs ds = (lines_between first' number ds < lines_between first number cs) ⊎ ((lines_between first' number ds ≡ lines_between first number cs) × AllStill first first' number cs ds)

fall_more : (first first' : RingCore) (number : ℕ) (c d : RingCore) (cs ds : List RingCore) → LinkMoved first first' number c d → FallsBetween first first' (suc number) cs ds → FallsBetween first first' number (c ∷ cs) (d ∷ ds)
fall_more first first' number c d cs ds here rest = by_all (ring_falls _ _ _ _ _ _ here.down) (ring_falls _ _ _ _ _ _ here.up) rest
  where
    still : LinkStill first first' number c d → AllStill first first' (suc number) cs ds → AllStill first first' number (c ∷ cs) (d ∷ ds)
    still s r zero x y at at' =
        let e : number ≡ number + 0 = omega arith in
        let f : c ≡ x = cc in
        let g : d ≡ y = cc in
        subst (λ (n : ℕ). LinkStill first first' n x y) e (subst (λ (z : RingCore). LinkStill first first' number z y) f (subst (λ (z : RingCore). LinkStill first first' number c z) g s))
    still s r (suc k) x y at at' = let e : suc number + k ≡ number + suc k = omega arith in subst (λ (n : ℕ). LinkStill first first' n x y) e (r k x y at at')

    by_all : (ring_ahead first'.links number d.links 0 < ring_ahead first.links number c.links 0) ⊎ ((ring_ahead first'.links number d.links 0 ≡ ring_ahead first.links number c.links 0) × RingStill first.links first'.links number c.links d.links 0)
        → (ring_ahead d.links 0 first'.links number < ring_ahead c.links 0 first.links number) ⊎ ((ring_ahead d.links 0 first'.links number ≡ ring_ahead c.links 0 first.links number) × RingStill c.links d.links 0 first.links first'.links number)
        → FallsBetween first first' (suc number) cs ds → FallsBetween first first' number (c ∷ cs) (d ∷ ds)
    by_all (inl a) (inl b) (inl r) = inl (omega (arith, a, b, r))
    by_all (inl a) (inl b) (inr r) = inl (omega (arith, a, b, r.0))
    by_all (inl a) (inr b) (inl r) = inl (omega (arith, a, b.0, r))
    by_all (inl a) (inr b) (inr r) = inl (omega (arith, a, b.0, r.0))
    by_all (inr a) (inl b) (inl r) = inl (omega (arith, a.0, b, r))
    by_all (inr a) (inl b) (inr r) = inl (omega (arith, a.0, b, r.0))
    by_all (inr a) (inr b) (inl r) = inl (omega (arith, a.0, b.0, r))
    by_all (inr a) (inr b) (inr r) = inr (omega (arith, a.0, b.0, r.0), still (record { down = a.1; up = b.1 }) r.1)

pub lines_fall : (first first' : RingCore) (number : ℕ) (cs ds : List RingCore) → length ds ≡ length cs
    → ((k : ℕ) (c d : RingCore) → slice_get cs k ≡ Some c → slice_get ds k ≡ Some d → LinkMoved first first' (number + k) c d) → FallsBetween first first' number cs ds
lines_fall first first' number [] [] all each = inr (refl, λ k c d at. absurd (cc))
lines_fall first first' number [] (d ∷ ds) all each = absurd (omega (arith, all))
lines_fall first first' number (c ∷ cs) [] all each = absurd (omega (arith, all))
lines_fall first first' number (c ∷ cs) (d ∷ ds) all each =
    let e : number + 0 ≡ number = omega arith in
    fall_more first first' number c d cs ds (subst (λ (n : ℕ). LinkMoved first first' n c d) e (each 0 c d refl refl))
    (lines_fall first first' (suc number) cs ds (omega (arith, all)) (λ k x y at at'. let f : number + suc k ≡ suc number + k = omega arith in subst (λ (n : ℕ). LinkMoved first first' n x y) f (each (suc k) x y at at')))

-- where each link sent at most so many messages both ways
sum : (most count down up out come out' come' rest : ℕ) → down + up ≤ most → rest ≤ 2 * lines_of (count * most)
    → (((lines_of down - out) + (lines_of down - come)) + ((lines_of up - out') + (lines_of up - come'))) + rest ≤ 2 * lines_of (suc count * most)
sum most count down up out come out' come' rest le r = let e : suc count * most ≡ most + count * most = omega arith in omega (arith, le, r, e)

pub lines_most : (most : ℕ) (first : RingCore) (number : ℕ) (cs : List RingCore) → ((k : ℕ) (c : RingCore) → slice_get cs k ≡ Some c → length (ring_view first.links (number + k)).sent + length (ring_view c.links 0).sent ≤ most)
    → lines_between first number cs ≤ 2 * lines_of (length cs * most)
lines_most most first number [] each = omega arith
lines_most most first number (c ∷ cs) each =
    let e : number + 0 ≡ number = omega arith in
    let here : length (ring_view first.links number).sent + length (ring_view c.links 0).sent ≤ most = subst (λ (n : ℕ). length (ring_view first.links n).sent + length (ring_view c.links 0).sent ≤ most) e (each 0 c refl) in
    let rest : lines_between first (suc number) cs ≤ 2 * lines_of (length cs * most) = lines_most most first (suc number) cs (λ k x at. let f : number + suc k ≡ suc number + k = omega arith in
    subst (λ (n : ℕ). length (ring_view first.links n).sent + length (ring_view x.links 0).sent ≤ most) f (each (suc k) x at)) in
    sum most (length cs) (length (ring_view first.links number).sent) (length (ring_view c.links 0).sent) _ _ _ _ _ here rest
