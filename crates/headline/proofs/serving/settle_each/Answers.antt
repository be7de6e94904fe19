use Rattle.std.proofs.Common.{◌≡◌, ◌∙◌, ◌++◌, ◌∷◌, ◌<◌, All, ℕ, List, [], length, Bool, true, false, sym, ap, subst}
use Rattle.std.proofs.lemmas.List.{append-nil, length-replicate}
use Rattle.std.proofs.lemmas.List.Elements.{All-append, All-nil, All-cons}
use Rattle.core_machine.specs.Machines.{RingCore}
use Rattle.core_machine.proofs.Machines.{machine_ran}
use Rattle.core_machine.specs.declared.step.CoreStep.{CoreStep}
use Rattle.core_machine.specs.declared.step.StepOutcome.{StepOutcome}
use Rattle.core_machine.specs.declared.step.StepOutcome.TheVariants.{Turned}
use Rattle.core_machine.specs.Driving.{IsRunning}
use Rattle.core_machine.specs.Rounds.{AreSeen, AreAtRest, HasAllDecided}
use Rattle.core_machine.specs.Naming.{NamedTurn, NoneAwake, turns_ahead}
use Rattle.headline.specs.Waking.{AreDone, IsTurnOf, awake_of, turn_of_core}
use Rattle.headline.proofs.Stepping.{seen_same, done_looked, turned_more, turns_more, written_back}
use Rattle.headline.proofs.Waking.{running_halts, Named, named_start, named_more, named_rests, named_less, all_set, map_itself}
use Rattle.headline.proofs.serving.settle_each.Goals as goal

pub loop-awake-init : goal.loop-awake-init
loop-awake-init c =
    let e = c.agree_all.ensures in
    let m = c.requires.machine in
    let seen : AreSeen c.args.cores.now c.agree_all.new.cores = record { looked = e.looked; exact = e.exact; concludes = e.concludes } in
    let none : c.new-turns.result.items ≡ [] = c.new-turns.ensures.items in
    let set = c.in_ok-awake.ensures.items_if_clones_equal (λ _ same. same) in
    record {
      done = λ limits steps first can nothing done. subst (λ (l : List CoreStep). AreDone limits l c.args.given.items first c.agree_all.new.cores) (sym (ap (λ (l : List CoreStep). steps ++ l) none ∙ append-nil steps)) (done_looked limits steps c.args.given.items first c.args.cores.now c.agree_all.new.cores done seen);
      turns = subst (λ (l : List CoreStep). All (IsTurnOf (length c.args.cores.now)) l) (sym none) (All-nil (IsTurnOf (length c.args.cores.now)));
      running = c.requires.running;
      machine = (m.0, m.1, m.2, machine_ran m.0 m.1 m.2 c.args.cores.now c.agree_all.new.cores m.3 (seen_same c.args.cores.now c.agree_all.new.cores seen));
      named = (m.0, m.1, m.2, subst (λ (l : List Bool). Named m.0 m.1 m.2 (awake_of l) c.agree_all.new.cores) (sym set) (named_start m.0 m.1 m.2 _ c.args.cores.now c.agree_all.new.cores m.3 seen (all_set _)));
      each = ap (λ (l : List Bool). length l) set ∙ length-replicate _ true;
      long = e.looked.all;
    }

-- where none has anything to do, all are at rest
pub unreachable-requires : goal.unreachable-requires
unreachable-requires c =
    let i = c.loop-awake.invariant in
    let items = c.loop-awake.awake.items in
    let mid = c.loop-awake.cores in
    let none : NoneAwake (length mid) (awake_of items) = subst (λ (n : ℕ). NoneAwake n (awake_of items)) i.each (subst (λ (l : List Bool). NoneAwake (length l) (awake_of l)) c.deref.ensures.value c.in_default.ensures.none) in
    let rest = named_rests i.named.0 i.named.1 i.named.2 (awake_of items) mid i.named.3 none in
    let yes : c.at_rest.result ≡ true = c.at_rest.ensures.rests.1 (subst AreAtRest (sym (map_itself mid)) rest) in
    let no : c.at_rest.result ≡ false = c.loop-awake-test.true in
    let both : true ≡ false = sym yes ∙ no in
    cc

pub turn_named-answer-requires-clause-core : goal.turn_named-answer-requires-clause-core
turn_named-answer-requires-clause-core c =
    subst (λ (n : ℕ). c.in-Some.core < n) (ap (λ (l : List Bool). length l) c.deref.ensures.value ∙ c.loop-awake.invariant.each) c.in-Some.ensures.some.0

pub turn_named-answer-requires-clause-is_awake : goal.turn_named-answer-requires-clause-is_awake
turn_named-answer-requires-clause-is_awake c = subst (λ (l : List Bool). awake_of l c.in-Some.core ≡ true) (c.deref.ensures.value ∙ sym c.as_mut_slice.ensures.value) c.in-Some.ensures.some.1

pub loop-awake-preserved : goal.loop-awake-preserved
loop-awake-preserved c =
    let i = c.loop-awake.invariant in
    let e = c.turn_named-answer.ensures in
    let core = c.in-Some.core in
    let t = c.turn_named-answer.result in
    let mid = c.loop-awake.cores in
    let new = c.turn_named-answer.new.cores in
    let turns = c.loop-awake.turns.items in
    let outcomes = c.loop-awake.outcomes.items in
    let items = c.loop-awake.awake.items in
    let inside : core < length mid = subst (λ (n : ℕ). core < n) (ap (λ (l : List Bool). length l) c.deref.ensures.value ∙ i.each) c.in-Some.ensures.some.0 in
    let pushed : c.push.new.self.items ≡ turns ++ turn_of_core core ∷ [] = c.in_ok-push.ensures.items ∙ ap (λ (s : CoreStep). turns ++ s ∷ []) c.turn_of.ensures in
    let told : c.push-in-loop-awake.new.self.items ≡ outcomes ++ Turned t ∷ [] = c.in_ok-push-2.ensures.items in
    let value : c.as_mut_slice.result.now ≡ items = c.as_mut_slice.ensures.value in
    let turn : NamedTurn (awake_of items) (awake_of c.turn_named-answer.new.awake) mid new =
    subst (λ (l : List Bool). NamedTurn (awake_of l) (awake_of c.turn_named-answer.new.awake) mid new) value (e.named (c.is_halt-halts.ensures.goes_on c.if-halts.false)) in
    let long : length c.turn_named-answer.new.awake ≡ length items = e.each ∙ ap (λ (l : List Bool). length l) value in
    let back = written_back c.loop-awake.awake.len c.turn_named-answer.new.awake items long c.loop-awake.awake.ok.0 in
    record {
      done = λ limits steps first can nothing done.
          subst (λ (os : List StepOutcome). AreDone limits (steps ++ c.push.new.self.items) os first new) (sym told) (subst (λ (l : List CoreStep). AreDone limits (steps ++ l) (outcomes ++ Turned t ∷ []) first new) (sym pushed)
          (turned_more limits steps turns outcomes core (Turned t) first mid new can (subst (λ (n : ℕ). All (IsTurnOf n) turns) (sym i.long) i.turns) inside nothing (i.done limits steps first can nothing done) e.driven e.machine (e.concludes limits)));
      turns = subst (λ (l : List CoreStep). All (IsTurnOf (length c.args.cores.now)) l) (sym pushed) (turns_more (length c.args.cores.now) turns core i.turns (subst (λ (n : ℕ). core < n) i.long inside));
      running = subst (λ (os : List StepOutcome). All IsRunning os) (sym told) (All-append IsRunning outcomes (Turned t ∷ []) i.running (All-cons IsRunning (Turned t) [] e.running (All-nil IsRunning)));
      machine = (i.machine.0, i.machine.1, i.machine.2, machine_ran i.machine.0 i.machine.1 i.machine.2 mid new i.machine.3 e.machine);
      named = (i.named.0, i.named.1, i.named.2, subst (λ (l : List Bool). Named i.named.0 i.named.1 i.named.2 (awake_of l) new) (sym back) (named_more i.named.0 i.named.1 i.named.2 (awake_of items) (awake_of c.turn_named-answer.new.awake) mid new i.named.3 turn));
      each = ap (λ (l : List Bool). length l) back ∙ (long ∙ (i.each ∙ sym e.driven.all));
      long = e.driven.all ∙ i.long;
    }

pub loop-awake-smaller : goal.loop-awake-smaller
loop-awake-smaller c =
    let i = c.loop-awake.invariant in
    let e = c.turn_named-answer.ensures in
    let mid = c.loop-awake.cores in
    let new = c.turn_named-answer.new.cores in
    let items = c.loop-awake.awake.items in
    let value : c.as_mut_slice.result.now ≡ items = c.as_mut_slice.ensures.value in
    let turn : NamedTurn (awake_of items) (awake_of c.turn_named-answer.new.awake) mid new =
    subst (λ (l : List Bool). NamedTurn (awake_of l) (awake_of c.turn_named-answer.new.awake) mid new) value (e.named (c.is_halt-halts.ensures.goes_on c.if-halts.false)) in
    let long : length c.turn_named-answer.new.awake ≡ length items = e.each ∙ ap (λ (l : List Bool). length l) value in
    let back = written_back c.loop-awake.awake.len c.turn_named-answer.new.awake items long c.loop-awake.awake.ok.0 in
    subst (λ (l : List Bool). turns_ahead (awake_of l) new < turns_ahead (awake_of items) mid) (sym back) (named_less i.named.0 i.named.1 i.named.2 (awake_of items) (awake_of c.turn_named-answer.new.awake) mid new i.named.3 turn)

pub returns-then-halts-clause-done : goal.returns-then-halts-clause-done
returns-then-halts-clause-done c = λ limits steps first can nothing done.
    let i = c.loop-awake.invariant in
    let e = c.turn_named-answer.ensures in
    let core = c.in-Some.core in
    let t = c.turn_named-answer.result in
    let mid = c.loop-awake.cores in
    let new = c.turn_named-answer.new.cores in
    let turns = c.loop-awake.turns.items in
    let outcomes = c.loop-awake.outcomes.items in
    let inside : core < length mid = subst (λ (n : ℕ). core < n) (ap (λ (l : List Bool). length l) c.deref.ensures.value ∙ i.each) c.in-Some.ensures.some.0 in
    let pushed : c.push.new.self.items ≡ turns ++ turn_of_core core ∷ [] = c.in_ok-push.ensures.items ∙ ap (λ (s : CoreStep). turns ++ s ∷ []) c.turn_of.ensures in
    let told : c.push-in-loop-awake.new.self.items ≡ outcomes ++ Turned t ∷ [] = c.in_ok-push-2.ensures.items in
    subst (λ (os : List StepOutcome). AreDone limits (steps ++ c.push.new.self.items) os first new) (sym told) (subst (λ (l : List CoreStep). AreDone limits (steps ++ l) (outcomes ++ Turned t ∷ []) first new) (sym pushed)
    (turned_more limits steps turns outcomes core (Turned t) first mid new can (subst (λ (n : ℕ). All (IsTurnOf n) turns) (sym i.long) i.turns) inside nothing (i.done limits steps first can nothing done) e.driven e.machine (e.concludes limits)))

pub returns-then-halts-clause-turns : goal.returns-then-halts-clause-turns
returns-then-halts-clause-turns c =
    let i = c.loop-awake.invariant in
    let core = c.in-Some.core in
    let turns = c.loop-awake.turns.items in
    let inside : core < length c.loop-awake.cores = subst (λ (n : ℕ). core < n) (ap (λ (l : List Bool). length l) c.deref.ensures.value ∙ i.each) c.in-Some.ensures.some.0 in
    let pushed : c.push.new.self.items ≡ turns ++ turn_of_core core ∷ [] = c.in_ok-push.ensures.items ∙ ap (λ (s : CoreStep). turns ++ s ∷ []) c.turn_of.ensures in
    subst (λ (l : List CoreStep). All (IsTurnOf (length c.args.cores.now)) l) (sym pushed) (turns_more (length c.args.cores.now) turns core i.turns (subst (λ (n : ℕ). core < n) i.long inside))

pub returns-then-halts-clause-running : goal.returns-then-halts-clause-running
returns-then-halts-clause-running c =
    let t = c.turn_named-answer.result in
    let outcomes = c.loop-awake.outcomes.items in
    let told : c.push-in-loop-awake.new.self.items ≡ outcomes ++ Turned t ∷ [] = c.in_ok-push-2.ensures.items in
    subst (λ (os : List StepOutcome). All IsRunning os) (sym told) (All-append IsRunning outcomes (Turned t ∷ []) c.loop-awake.invariant.running (All-cons IsRunning (Turned t) [] c.turn_named-answer.ensures.running (All-nil IsRunning)))

pub returns-then-halts-clause-rests : goal.returns-then-halts-clause-rests
returns-then-halts-clause-rests c = λ none. absurd cc

pub returns-then-halts-clause-halted : goal.returns-then-halts-clause-halted
returns-then-halts-clause-halted c =
    let i = c.loop-awake.invariant in
    subst (λ (n : ℕ). c.in-Some.core < n) (ap (λ (l : List Bool). length l) c.deref.ensures.value ∙ (i.each ∙ i.long)) c.in-Some.ensures.some.0

pub returns-clause-rests : goal.returns-clause-rests
returns-clause-rests c = λ _.
    let same = map_itself c.loop-awake.cores in
    (subst AreAtRest same (c.at_rest.ensures.rests.0 c.loop-awake-test.false), subst (λ (l : List RingCore). All HasAllDecided l) same (c.at_rest.ensures.decided c.loop-awake-test.false))

pub returns-then-halts-clause-halts : goal.returns-then-halts-clause-halts
returns-then-halts-clause-halts c =
    let core = c.in-Some.core in
    let t = c.turn_named-answer.result in
    let turns = c.loop-awake.turns.items in
    let outcomes = c.loop-awake.outcomes.items in
    record {
      earlier_turns = turns;
      earlier = outcomes;
      answer = t;
      last_turn = c.in_ok-push.ensures.items ∙ ap (λ (s : CoreStep). turns ++ s ∷ []) c.turn_of.ensures;
      last = c.in_ok-push-2.ensures.items;
      halts = running_halts t (c.is_halt-halts.ensures.halts c.if-halts.true) c.turn_named-answer.ensures.running;
    }
