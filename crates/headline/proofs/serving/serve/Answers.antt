use Rattle.std.proofs.Common.{◌≡◌, ◌∙◌, ◌<◌, ◌≤◌, ◌⊎◌, ◌++◌, inl, inr, All, ℕ, List, length, ap, sym, subst, arith, length-append}
use Rattle.std.specs.Prelude.{IfSome}
use Rattle.std.proofs.lemmas.Bool.{cases_lt}
use Rattle.std.proofs.lemmas.List.Elements.{All-append}
use Rattle.filter_table.specs.Limits.{TableLimits}
use Rattle.core_machine.specs.Machines.{RingCore}
use Rattle.core_machine.specs.declared.step.CoreStep.{CoreStep}
use Rattle.headline.specs.Headline.{begun_in}
use Rattle.headline.specs.Served.{events_of}
use Rattle.headline.specs.Waking.{IsTurnOf}
use Rattle.headline.proofs.Shown.{equal_shown}
use Rattle.headline.proofs.Stepping.{says_after, begun_after, own_after, newest_after, decided_after, its_machine, laws_after}
use Rattle.headline.proofs.serving.serve.Goals as goal

-- the steps and the turns after them are of cores of the machine
inside : (steps turns : List CoreStep) (cores slice : List RingCore) (budgets : List ℕ) → length cores ≡ length budgets → slice ≡ cores → All (λ (s : CoreStep). s.core < length budgets) steps → All (IsTurnOf (length slice)) turns
    → All (λ (s : CoreStep). s.core < length cores) (steps ++ turns)
inside steps turns cores slice budgets long is within after =
    let Inside : CoreStep → Type 0 = λ s. s.core < length cores in
    let after' : All (IsTurnOf (length cores)) turns = subst (λ (l : List RingCore). All (IsTurnOf (length l)) turns) is after in
    All-append Inside steps turns (subst (λ (n : ℕ). All (λ (s : CoreStep). s.core < n) steps) (sym long) within) (λ k d lt. (after' k d lt).inside)

-- and there are at most 64
few : (cores slice : List RingCore) (budgets : List ℕ) → length cores ≡ length budgets → slice ≡ cores → (64 < length budgets → ⊥) → length slice ≤ 64
few cores slice budgets long is most = by_place (cases_lt 64 (length budgets))
  where
    by_place : ((64 < length budgets) ⊎ (length budgets ≤ 64)) → length slice ≤ 64
    by_place (inl lt) = absurd (most lt)
    by_place (inr le) = omega (arith, le, long, ap length is)

pub serve_all-requires-clause-machine : goal.serve_all-requires-clause-machine
serve_all-requires-clause-machine c =
    let m = its_machine c.args.limits c.in-Ok.cores.items c.as_mut_slice.result.now c.args.budgets.now c.as_mut_slice.ensures.value c.in-Ok.ensures.machine in
    (c.args.limits, m.0, m.1, m.2)

pub serve_all-requires-clause-few : goal.serve_all-requires-clause-few
serve_all-requires-clause-few c = few c.in-Ok.cores.items c.as_mut_slice.result.now c.args.budgets.now c.in-Ok.ensures.cores c.as_mut_slice.ensures.value (λ lt. (let no = c.in-Ok.ensures.count.1 (inr lt) in let ok = c.in-Ok.is in cc))

pub returns-in-Ok-serve_all-clause-tables : goal.returns-in-Ok-serve_all-clause-tables
returns-in-Ok-serve_all-clause-tables c =
    let e = c.in-Ok-serve_all.ensures in
    let m = its_machine c.args.limits c.in-Ok.cores.items c.as_mut_slice.result.now c.args.budgets.now c.as_mut_slice.ensures.value c.in-Ok.ensures.machine in
    let done = e.done c.args.limits m.0 m.1 m.2 in
    let turns = c.in-Ok-serve_all.work.turns.items in
    let within = inside c.args.steps.items turns c.in-Ok.cores.items c.as_mut_slice.result.now c.args.budgets.now c.in-Ok.ensures.cores c.as_mut_slice.ensures.value c.requires.steps e.turns in
    (says_after c.args.limits c.in-Ok.cores.len (c.args.steps.items ++ turns) c.in-Ok-serve_all.work.outcomes.items c.in-Ok.cores.items c.as_mut_slice.result.now c.serve_all.new.cores c.as_mut_slice.ensures.value c.in-Ok.cores.ok.0 within c.in-Ok.ensures.nothing
    done.driven (done.budget, done.budgets, done.con) done.order).tables

pub returns-in-Ok-serve_all-clause-equal : goal.returns-in-Ok-serve_all-clause-equal
returns-in-Ok-serve_all-clause-equal c =
    equal_shown c.args.limits (events_of (c.args.steps.items ++ c.in-Ok-serve_all.work.turns.items) c.in-Ok-serve_all.work.outcomes.items) _ (returns-in-Ok-serve_all-clause-tables c)

pub returns-in-Ok-serve_all-clause-delivers : goal.returns-in-Ok-serve_all-clause-delivers
returns-in-Ok-serve_all-clause-delivers c =
    let e = c.in-Ok-serve_all.ensures in
    let m = its_machine c.args.limits c.in-Ok.cores.items c.as_mut_slice.result.now c.args.budgets.now c.as_mut_slice.ensures.value c.in-Ok.ensures.machine in
    let done = e.done c.args.limits m.0 m.1 m.2 in
    let turns = c.in-Ok-serve_all.work.turns.items in
    let within = inside c.args.steps.items turns c.in-Ok.cores.items c.as_mut_slice.result.now c.args.budgets.now c.in-Ok.ensures.cores c.as_mut_slice.ensures.value c.requires.steps e.turns in
    (says_after c.args.limits c.in-Ok.cores.len (c.args.steps.items ++ turns) c.in-Ok-serve_all.work.outcomes.items c.in-Ok.cores.items c.as_mut_slice.result.now c.serve_all.new.cores c.as_mut_slice.ensures.value c.in-Ok.cores.ok.0 within c.in-Ok.ensures.nothing
    done.driven (done.budget, done.budgets, done.con) done.order).delivers

pub returns-in-Ok-serve_all-clause-answered : goal.returns-in-Ok-serve_all-clause-answered
returns-in-Ok-serve_all-clause-answered c =
    let m = its_machine c.args.limits c.in-Ok.cores.items c.as_mut_slice.result.now c.args.budgets.now c.as_mut_slice.ensures.value c.in-Ok.ensures.machine in
    (c.in-Ok-serve_all.ensures.done c.args.limits m.0 m.1 m.2).driven.answered

pub returns-in-Ok-serve_all-clause-begun : goal.returns-in-Ok-serve_all-clause-begun
returns-in-Ok-serve_all-clause-begun c =
    let e = c.in-Ok-serve_all.ensures in
    let m = its_machine c.args.limits c.in-Ok.cores.items c.as_mut_slice.result.now c.args.budgets.now c.as_mut_slice.ensures.value c.in-Ok.ensures.machine in
    let done = e.done c.args.limits m.0 m.1 m.2 in
    let turns = c.in-Ok-serve_all.work.turns.items in
    let within = inside c.args.steps.items turns c.in-Ok.cores.items c.as_mut_slice.result.now c.args.budgets.now c.in-Ok.ensures.cores c.as_mut_slice.ensures.value c.requires.steps e.turns in
    begun_after c.args.limits (c.args.steps.items ++ turns) c.in-Ok-serve_all.work.outcomes.items c.in-Ok.cores.items c.as_mut_slice.result.now c.serve_all.new.cores c.as_mut_slice.ensures.value within c.in-Ok.ensures.nothing done.driven (done.budget, done.budgets, done.con)

pub returns-in-Ok-serve_all-clause-own : goal.returns-in-Ok-serve_all-clause-own
returns-in-Ok-serve_all-clause-own c =
    let e = c.in-Ok-serve_all.ensures in
    let m = its_machine c.args.limits c.in-Ok.cores.items c.as_mut_slice.result.now c.args.budgets.now c.as_mut_slice.ensures.value c.in-Ok.ensures.machine in
    let done = e.done c.args.limits m.0 m.1 m.2 in
    let turns = c.in-Ok-serve_all.work.turns.items in
    let within = inside c.args.steps.items turns c.in-Ok.cores.items c.as_mut_slice.result.now c.args.budgets.now c.in-Ok.ensures.cores c.as_mut_slice.ensures.value c.requires.steps e.turns in
    own_after c.args.limits (c.args.steps.items ++ turns) c.in-Ok-serve_all.work.outcomes.items c.in-Ok.cores.items c.as_mut_slice.result.now c.serve_all.new.cores c.as_mut_slice.ensures.value within c.in-Ok.ensures.nothing done.driven (done.budget, done.budgets, done.con)

pub returns-in-Ok-serve_all-clause-turns : goal.returns-in-Ok-serve_all-clause-turns
returns-in-Ok-serve_all-clause-turns c = λ k d lt. (c.in-Ok-serve_all.ensures.turns k d lt).is_turn

pub returns-in-Ok-serve_all-clause-decided : goal.returns-in-Ok-serve_all-clause-decided
returns-in-Ok-serve_all-clause-decided c = λ none.
    let e = c.in-Ok-serve_all.ensures in
    let m = its_machine c.args.limits c.in-Ok.cores.items c.as_mut_slice.result.now c.args.budgets.now c.as_mut_slice.ensures.value c.in-Ok.ensures.machine in
    let done = e.done c.args.limits m.0 m.1 m.2 in
    let turns = c.in-Ok-serve_all.work.turns.items in
    let within = inside c.args.steps.items turns c.in-Ok.cores.items c.as_mut_slice.result.now c.args.budgets.now c.in-Ok.ensures.cores c.as_mut_slice.ensures.value c.requires.steps e.turns in
    decided_after c.args.limits (c.args.steps.items ++ turns) c.in-Ok-serve_all.work.outcomes.items c.in-Ok.cores.items c.as_mut_slice.result.now c.serve_all.new.cores c.as_mut_slice.ensures.value within c.in-Ok.ensures.nothing
    done.driven (done.budget, done.budgets, done.con) (e.rests none).1

pub returns-in-Ok-serve_all-clause-newest : goal.returns-in-Ok-serve_all-clause-newest
returns-in-Ok-serve_all-clause-newest c = λ none.
    let e = c.in-Ok-serve_all.ensures in
    let m = its_machine c.args.limits c.in-Ok.cores.items c.as_mut_slice.result.now c.args.budgets.now c.as_mut_slice.ensures.value c.in-Ok.ensures.machine in
    let done = e.done c.args.limits m.0 m.1 m.2 in
    let turns = c.in-Ok-serve_all.work.turns.items in
    let within = inside c.args.steps.items turns c.in-Ok.cores.items c.as_mut_slice.result.now c.args.budgets.now c.in-Ok.ensures.cores c.as_mut_slice.ensures.value c.requires.steps e.turns in
    newest_after c.args.limits c.in-Ok.cores.len (c.args.steps.items ++ turns) c.in-Ok-serve_all.work.outcomes.items c.in-Ok.cores.items c.as_mut_slice.result.now c.serve_all.new.cores c.as_mut_slice.ensures.value c.in-Ok.cores.ok.0 within c.in-Ok.ensures.nothing
    done.driven (done.budget, done.budgets, done.con) done.order (e.rests none).0

pub returns-in-Ok-serve_all-clause-halted : goal.returns-in-Ok-serve_all-clause-halted
returns-in-Ok-serve_all-clause-halted c =
    subst (λ (n : ℕ). IfSome c.in-Ok-serve_all.work.halted (λ core. core < n)) (ap (λ (l : List RingCore). length l) c.as_mut_slice.ensures.value ∙ c.in-Ok.ensures.cores) c.in-Ok-serve_all.ensures.halted

pub returns-in-Ok-serve_all-clause-rightful : goal.returns-in-Ok-serve_all-clause-rightful
returns-in-Ok-serve_all-clause-rightful c =
    let e = c.in-Ok-serve_all.ensures in
    let m = its_machine c.args.limits c.in-Ok.cores.items c.as_mut_slice.result.now c.args.budgets.now c.as_mut_slice.ensures.value c.in-Ok.ensures.machine in
    let turns = c.in-Ok-serve_all.work.turns.items in
    let within = inside c.args.steps.items turns c.in-Ok.cores.items c.as_mut_slice.result.now c.args.budgets.now c.in-Ok.ensures.cores c.as_mut_slice.ensures.value c.requires.steps e.turns in
    (laws_after c.args.limits c.args.budgets.now (c.args.steps.items ++ turns) c.in-Ok-serve_all.work.outcomes.items c.in-Ok.cores.items c.as_mut_slice.result.now c.serve_all.new.cores c.as_mut_slice.ensures.value within c.in-Ok.ensures.nothing
    c.in-Ok.ensures.machine (e.done c.args.limits m.0 m.1 m.2)).0.rightful

pub returns-in-Ok-serve_all-clause-allowed : goal.returns-in-Ok-serve_all-clause-allowed
returns-in-Ok-serve_all-clause-allowed c =
    let e = c.in-Ok-serve_all.ensures in
    let m = its_machine c.args.limits c.in-Ok.cores.items c.as_mut_slice.result.now c.args.budgets.now c.as_mut_slice.ensures.value c.in-Ok.ensures.machine in
    let turns = c.in-Ok-serve_all.work.turns.items in
    let within = inside c.args.steps.items turns c.in-Ok.cores.items c.as_mut_slice.result.now c.args.budgets.now c.in-Ok.ensures.cores c.as_mut_slice.ensures.value c.requires.steps e.turns in
    (laws_after c.args.limits c.args.budgets.now (c.args.steps.items ++ turns) c.in-Ok-serve_all.work.outcomes.items c.in-Ok.cores.items c.as_mut_slice.result.now c.serve_all.new.cores c.as_mut_slice.ensures.value within c.in-Ok.ensures.nothing
    c.in-Ok.ensures.machine (e.done c.args.limits m.0 m.1 m.2)).0.allowed

pub returns-in-Ok-serve_all-clause-judged : goal.returns-in-Ok-serve_all-clause-judged
returns-in-Ok-serve_all-clause-judged c =
    let e = c.in-Ok-serve_all.ensures in
    let m = its_machine c.args.limits c.in-Ok.cores.items c.as_mut_slice.result.now c.args.budgets.now c.as_mut_slice.ensures.value c.in-Ok.ensures.machine in
    let turns = c.in-Ok-serve_all.work.turns.items in
    let within = inside c.args.steps.items turns c.in-Ok.cores.items c.as_mut_slice.result.now c.args.budgets.now c.in-Ok.ensures.cores c.as_mut_slice.ensures.value c.requires.steps e.turns in
    (laws_after c.args.limits c.args.budgets.now (c.args.steps.items ++ turns) c.in-Ok-serve_all.work.outcomes.items c.in-Ok.cores.items c.as_mut_slice.result.now c.serve_all.new.cores c.as_mut_slice.ensures.value within c.in-Ok.ensures.nothing
    c.in-Ok.ensures.machine (e.done c.args.limits m.0 m.1 m.2)).0.judged

pub returns-in-Ok-serve_all-clause-once : goal.returns-in-Ok-serve_all-clause-once
returns-in-Ok-serve_all-clause-once c =
    let e = c.in-Ok-serve_all.ensures in
    let m = its_machine c.args.limits c.in-Ok.cores.items c.as_mut_slice.result.now c.args.budgets.now c.as_mut_slice.ensures.value c.in-Ok.ensures.machine in
    let turns = c.in-Ok-serve_all.work.turns.items in
    let within = inside c.args.steps.items turns c.in-Ok.cores.items c.as_mut_slice.result.now c.args.budgets.now c.in-Ok.ensures.cores c.as_mut_slice.ensures.value c.requires.steps e.turns in
    (laws_after c.args.limits c.args.budgets.now (c.args.steps.items ++ turns) c.in-Ok-serve_all.work.outcomes.items c.in-Ok.cores.items c.as_mut_slice.result.now c.serve_all.new.cores c.as_mut_slice.ensures.value within c.in-Ok.ensures.nothing
    c.in-Ok.ensures.machine (e.done c.args.limits m.0 m.1 m.2)).0.once

pub returns-in-Ok-serve_all-clause-named : goal.returns-in-Ok-serve_all-clause-named
returns-in-Ok-serve_all-clause-named c = λ none.
    let e = c.in-Ok-serve_all.ensures in
    let m = its_machine c.args.limits c.in-Ok.cores.items c.as_mut_slice.result.now c.args.budgets.now c.as_mut_slice.ensures.value c.in-Ok.ensures.machine in
    let turns = c.in-Ok-serve_all.work.turns.items in
    let within = inside c.args.steps.items turns c.in-Ok.cores.items c.as_mut_slice.result.now c.args.budgets.now c.in-Ok.ensures.cores c.as_mut_slice.ensures.value c.requires.steps e.turns in
    (laws_after c.args.limits c.args.budgets.now (c.args.steps.items ++ turns) c.in-Ok-serve_all.work.outcomes.items c.in-Ok.cores.items c.as_mut_slice.result.now c.serve_all.new.cores c.as_mut_slice.ensures.value within c.in-Ok.ensures.nothing
    c.in-Ok.ensures.machine (e.done c.args.limits m.0 m.1 m.2)).1 (λ core. (let begun = returns-in-Ok-serve_all-clause-begun c core in omega (arith, begun, ap length begun.1, length-append (begun_in core (events_of (c.args.steps.items ++ turns) c.in-Ok-serve_all.work.outcomes.items)) begun.0, returns-in-Ok-serve_all-clause-decided c none core)))
