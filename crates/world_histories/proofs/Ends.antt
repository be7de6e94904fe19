-- The histories of a computation say where its cores end, and so its log.
use Rattle.std.proofs.Common.{◌≡◌, ℕ, suc, Bool, Some, List, [], ◌∷◌, ◌++◌, length, slice_get, refl, ap, sym, ◌∙◌, subst, arith}
use mathlib.Core.List.{IsPrefix}
use Rattle.filter_table.specs.Limits.{TableLimits}
use Rattle.filter_table.specs.declared.operation.Op.{Op}
use Rattle.two_phase.specs.Participants.{ParticipantPlace}
use Rattle.two_phase.specs.Coordinators.{CoordinatorPlace, Requests}
use Rattle.world_model.specs.Worlds.{Peer, World, boot}
use Rattle.world_model.proofs.Known.{run_known}
use Rattle.world_histories.specs.declared.history.Stamped.{Stamped}
use Rattle.world_histories.specs.Histories.{Stamping, Sending, Core0State, core0_first, History0, OtherState, other_first, HistoryOther, Computation}
use Rattle.world_histories.specs.Merging.{as_listed, IsRun, EndsAs}
use Rattle.world_histories.proofs.Clocks.{step0_clock, step_clock}
use Rattle.world_histories.proofs.Merge.{OneRun, one_run, run_of}
use Rattle.world_histories.proofs.Once.{runs_once}
use Rattle.std.proofs.lemmas.Option.{slice_get_within}
use Rattle.filter_table.proofs.Positions.{get_at}

-- the clock after these events
clock_of : ℕ → List Stamped → ℕ
clock_of clock [] = clock
clock_of clock (s ∷ later) = clock_of s.stamp later

clock0 : (others budget : ℕ) (c c' : Core0State) (h : List Stamped) (sent : List Sending) (taken : List (ℕ × Stamping)) → History0 others budget c h c' sent taken → c'.clock ≡ clock_of c.clock h
unfolding clock_of
clock0 others budget c c' [] sent taken h = ap (λ (x : Core0State). x.clock) h.0
clock0 others budget c c' (s ∷ later) sent taken h =
    clock0 others budget h.0 c' later h.3 h.4 h.6 ∙ ap (λ (n : ℕ). clock_of n later) (step0_clock others budget c h.0 s.stamp s.done.event h.1 s.done.answer h.2 h.5).1

clock_other : (i budget : ℕ) (c c' : OtherState) (h : List Stamped) (taken : List Stamping) → HistoryOther i budget c h c' taken → c'.clock ≡ clock_of c.clock h
unfolding clock_of
clock_other i budget c c' [] taken h = ap (λ (x : OtherState). x.clock) h.0
clock_other i budget c c' (s ∷ later) taken h =
    clock_other i budget h.0 c' later h.2 h.4 ∙ ap (λ (n : ℕ). clock_of n later) (step_clock i budget c h.0 s.stamp s.done.event h.1 s.done.answer h.3).1

same_core0 : (a b : Core0State) → a.limits ≡ b.limits → a.clock ≡ b.clock → a.place ≡ b.place → a.requests ≡ b.requests → a.log ≡ b.log → a ≡ b
same_core0 a b em ec ep er el = made a.limits b.limits em a.clock b.clock ec a.place b.place ep a.requests b.requests er a.log b.log el
  where
    made : (m m' : TableLimits) → m ≡ m' → (c c' : ℕ) → c ≡ c' → (p p' : CoordinatorPlace) → p ≡ p' → (r r' : Requests) → r ≡ r' → (l l' : List Op) → l ≡ l'
        → ◌≡◌ {A = Core0State} (record { limits = m; clock = c; place = p; requests = r; log = l }) (record { limits = m'; clock = c'; place = p'; requests = r'; log = l' })
    made m m' em c c' ec p p' ep r r' er l l' el = rw (em, ec, ep, er, el) refl

same_other : (a b : OtherState) → a.limits ≡ b.limits → a.clock ≡ b.clock → a.place ≡ b.place → a.outstanding ≡ b.outstanding → a.log ≡ b.log → a ≡ b
same_other a b em ec ep eo el = made a.limits b.limits em a.clock b.clock ec a.place b.place ep a.outstanding b.outstanding eo a.log b.log el
  where
    made : (m m' : TableLimits) → m ≡ m' → (c c' : ℕ) → c ≡ c' → (p p' : ParticipantPlace) → p ≡ p' → (o o' : Bool) → o ≡ o' → (l l' : List Op) → l ≡ l'
        → ◌≡◌ {A = OtherState} (record { limits = m; clock = c; place = p; outstanding = o; log = l }) (record { limits = m'; clock = c'; place = p'; outstanding = o'; log = l' })
    made m m' em c c' ec p p' ep o o' eo l l' el = rw (em, ec, ep, eo, el) refl

-- two fronts of one length are one
same_front : (xs ys log : List Op) → IsPrefix xs log → IsPrefix ys log → length xs ≡ length ys → xs ≡ ys
same_front [] [] log f g e = refl
same_front [] (y ∷ ys) log f g e = absurd (omega (arith, e))
same_front (x ∷ xs) [] log f g e = absurd (omega (arith, e))
same_front (x ∷ xs) (y ∷ ys) log f g e =
    let both : (x ∷ xs) ++ f.0 ≡ (y ∷ ys) ++ g.0 = f.1 ∙ sym g.1 in
    let first : x ≡ y = cc in
    let tail : xs ++ f.0 ≡ ys ++ g.0 = cc in
    let rest = same_front xs ys (ys ++ g.0) (f.0, tail) (g.0, refl) (omega (arith, e)) in
    rw (first, rest) refl

same_items : {A : Type 0} (xs ys : List A) → length xs ≡ length ys → ((i : ℕ) (x y : A) → slice_get xs i ≡ Some x → slice_get ys i ≡ Some y → x ≡ y) → xs ≡ ys
same_items [] [] e same = refl
same_items [] (y ∷ ys) e same = absurd (omega (arith, e))
same_items (x ∷ xs) [] e same = absurd (omega (arith, e))
same_items (x ∷ xs) (y ∷ ys) e same =
    let first : x ≡ y = same 0 x y refl refl in
    let rest = same_items xs ys (omega (arith, e)) (λ i a b at_a at_b. same (suc i) a b at_a at_b) in
    rw (first, rest) refl

-- in one world the core stands in one state, but its clock
same_end : (w : World) (p : Peer) (a b : OtherState) → EndsAs w p a → EndsAs w p b → a.clock ≡ b.clock → a ≡ b
same_end w p a b x y clock = same_other a b (sym x.limits_are ∙ y.limits_are) clock (sym x.place_is ∙ y.place_is) (sym x.outstanding_is ∙ y.outstanding_is) (same_front a.log b.log w.log x.is_front y.is_front (sym x.version_is ∙ y.version_is))

pub ends_once : (limits : TableLimits) (budget : ℕ) (budgets : List ℕ) (core0 : List Stamped) (others : List (List Stamped)) (end end' : Core0State) (ends ends' : List OtherState)
    → Computation limits budget budgets core0 others end ends → Computation limits budget budgets core0 others end' ends' → (end ≡ end') × (ends ≡ ends')
ends_once limits budget budgets core0 others end end' ends ends' a b = (
  same_core0 end end' (sym x.all_end.limits_are ∙ (ap (λ (w : World). w.limits) same ∙ y.all_end.limits_are)) (clock0 n budget first end core0 a.sent a.taken a.of_core0 ∙ sym (clock0 n budget first end' core0 b.sent b.taken b.of_core0))
      (sym x.all_end.place_is ∙ (ap (λ (w : World). w.place) same ∙ y.all_end.place_is))
      (sym x.all_end.requests_are ∙ (ap (λ (w : World). w.requests) same ∙ y.all_end.requests_are))
      (sym x.all_end.log_is ∙ (ap (λ (w : World). w.log) same ∙ y.all_end.log_is)),
  same_items ends ends' (a.all_end ∙ sym b.all_end) each,
)
  where
    n : ℕ
    n = length budgets

    first : Core0State
    first = core0_first limits (length budgets)

    x : OneRun limits budget budgets core0 others end ends
    x = one_run limits budget budgets core0 others end ends a

    y : IsRun limits budget budgets x.merged end' ends'
    y = run_of limits budget budgets core0 others end' ends' x.merged b x.is_merged

    same : x.world ≡ y.world
    same = runs_once (boot limits budget budgets) x.world y.world (as_listed x.merged) x.run y.run

    each : (i : ℕ) (d d' : OtherState) → slice_get ends i ≡ Some d → slice_get ends' i ≡ Some d' → d ≡ d'
    each i d d' at at' =
        let lt = slice_get_within ends i d at in
        let g = get_at budgets i (omega (arith, a.all_end, lt)) in
        let h = get_at others i (omega (arith, a.all_end, a.cores, lt)) in
        let t = a.of_other i g.0 h.0 d g.1 h.1 at in
        let t' = b.of_other i g.0 h.0 d' g.1 h.1 at' in
        let p = get_at x.world.peers i (omega (arith, a.all_end, (run_known limits budget budgets (as_listed x.merged) x.world x.run).cores, lt)) in
        let p' : slice_get y.world.peers i ≡ Some p.0 = subst (λ (w : World). slice_get w.peers i ≡ Some p.0) same p.1 in
        let there : EndsAs x.world p.0 d' = subst (λ (w : World). EndsAs w p.0 d') (sym same) (y.all_end.others i p.0 d' p' at') in
        same_end x.world p.0 d d' (x.all_end.others i p.0 d p.1 at) there (clock_other i g.0 (other_first limits) d h.0 t.taken t.is_history ∙ sym (clock_other i g.0 (other_first limits) d' h.0 t'.taken t'.is_history))
