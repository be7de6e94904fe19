use Rattle.std.proofs.Common.{◌≡◌, ◌∙◌, ◌∷◌, ◌<◌, [], ℕ, true, cond, length, slice_set, slice_index_or, refl, sym, subst, arith}
use Rattle.std.proofs.lemmas.List.{get_or-set_same}
use Rattle.core_machine.specs.Machines.{RingCore}
use Rattle.core_machine.proofs.Machines.{machine_ran}
use Rattle.core_machine.specs.declared.step.StepOutcome.TheVariants.{Turned}
use Rattle.core_machine.proofs.Steps.{driven_same}
use Rattle.core_machine.proofs.Looked.{driven_looked, ran_before}
use Rattle.core_machine.proofs.Running.{turned_running, step_running}
use Rattle.core_machine.specs.Naming.{names}
use Rattle.core_machine.proofs.Answering.{Answered}
use Rattle.headline.specs.Waking.{awake_of, turn_of_core}
use Rattle.headline.proofs.Waking.{indexed_at, turn_driven, named_of}
use Rattle.headline.proofs.serving.turn_named.Goals as goal

pub agree_all-requires : goal.agree_all-requires
agree_all-requires c =
    let cores = c.args.cores.now in
    let place = c.from-place.result in
    let read = c.index-cores-place.result in
    let new = c.turn-answer.new.self in
    let t = c.turn-answer.result in
    let e = c.turn-answer.ensures in
    let m = c.requires.machine in
    let driven = turn_driven m.0 m.1 m.2 c.args.core place t cores read (slice_index_or cores place read) new m.3 c.requires.core c.from-place.ensures c.index-cores-place.is refl e.core e.requests e.did e.decision e.other in
    (m.0, m.1, m.2, machine_ran m.0 m.1 m.2 cores (slice_set cores place new) m.3 (driven_same (turn_of_core c.args.core ∷ []) (Turned t ∷ []) cores (slice_set cores place new) driven))

pub returns-clause-driven : goal.returns-clause-driven
returns-clause-driven c =
    let cores = c.args.cores.now in
    let place = c.from-place.result in
    let read = c.index-cores-place.result in
    let new = c.turn-answer.new.self in
    let t = c.turn-answer.result in
    let e = c.turn-answer.ensures in
    let m = c.requires.machine in
    let driven = turn_driven m.0 m.1 m.2 c.args.core place t cores read (slice_index_or cores place read) new m.3 c.requires.core c.from-place.ensures c.index-cores-place.is refl e.core e.requests e.did e.decision e.other in
    driven_looked (turn_of_core c.args.core ∷ []) (Turned t ∷ []) cores (slice_set cores place new) c.agree_all.new.cores driven c.agree_all.ensures.looked

pub returns-clause-machine : goal.returns-clause-machine
returns-clause-machine c = driven_same (turn_of_core c.args.core ∷ []) (Turned c.turn-answer.result ∷ []) c.args.cores.now c.agree_all.new.cores (returns-clause-driven c)

pub returns-clause-concludes : goal.returns-clause-concludes
returns-clause-concludes c = λ limits budget budgets machine.
    let cores = c.args.cores.now in
    let place = c.from-place.result in
    let read = c.index-cores-place.result in
    let new = c.turn-answer.new.self in
    let t = c.turn-answer.result in
    let e = c.turn-answer.ensures in
    let driven = turn_driven limits budget budgets c.args.core place t cores read (slice_index_or cores place read) new machine c.requires.core c.from-place.ensures c.index-cores-place.is refl e.core e.requests e.did e.decision e.other in
    c.agree_all.ensures.concludes limits budget budgets (machine_ran limits budget budgets cores (slice_set cores place new) machine (driven_same (turn_of_core c.args.core ∷ []) (Turned t ∷ []) cores (slice_set cores place new) driven))

pub returns-clause-running : goal.returns-clause-running
returns-clause-running c =
    let cores = c.args.cores.now in
    let place = c.from-place.result in
    let read = c.index-cores-place.result in
    let old = slice_index_or cores place read in
    let new = c.turn-answer.new.self in
    let t = c.turn-answer.result in
    let e = c.turn-answer.ensures in
    let m = c.requires.machine in
    let there = indexed_at cores c.args.core place read c.from-place.ensures c.index-cores-place.is c.requires.core in
    (step_running cores place old new (Turned t) there (turned_running t old new e.stopped e.running)
    (ran_before m.0 m.1 m.2 (slice_set cores place new) c.agree_all.new.cores c.agree_all.ensures.looked (returns-clause-concludes c m.0 m.1 m.2 m.3))).1

pub returns-clause-named : goal.returns-clause-named
returns-clause-named c = λ goes.
    let cores = c.args.cores.now in
    let awake = c.args.awake.now in
    let place = c.from-place.result in
    let from : place ≡ c.args.core = c.from-place.ensures in
    let read = c.index-cores-place.result in
    let old = slice_index_or cores place read in
    let new = c.turn-answer.new.self in
    let t = c.turn-answer.result in
    let e = c.turn-answer.ensures in
    let event = c.is_event.result in
    let there = indexed_at cores c.args.core place read from c.index-cores-place.is c.requires.core in
    let inside : place < length cores = subst (λ (n : ℕ). n < length cores) (sym from) c.requires.core in
    let answered : Answered t old new = record {
      core = e.core;
      requests = e.requests;
      did = e.did;
      leave = λ s d is. e.leave s d is refl;
      other = e.other;
      stopped = e.stopped;
      spent = e.spent;
      lacks = e.lacks;
      idles = λ is nothing. record { nothing = nothing; no_message = e.idle_message is; no_request = e.idle is; lines = e.lines is; full = e.full is; dry = e.dry is };
    } in
    let same : slice_index_or (slice_set cores place new) place c.index-cores-place-2.result ≡ new = get_or-set_same cores place new c.index-cores-place-2.result inside in
    named_of place t cores c.agree_all.new.cores old new awake (slice_set awake place event) c.wake.new.awake event there
    (subst (λ (n : ℕ). awake_of awake n ≡ true) (sym from) c.requires.is_awake)
    answered e.still e.moved e.running c.is_event.ensures.did c.is_event.ensures.none refl
    (omega (arith, inside, c.requires.each))
    (subst (λ (n : ℕ). awake_of c.wake.new.awake n ≡ awake_of (slice_set awake place event) n) (sym from) c.wake.ensures.itself)
    (λ i ne. (let h = c.wake.ensures.others i (λ x. ne (x ∙ sym from)) in subst (λ (x : RingCore). awake_of c.wake.new.awake i ≡ cond (awake_of (slice_set awake place event) i) true (names x i)) same h))
    (record { looked = c.agree_all.ensures.looked; exact = c.agree_all.ensures.exact; concludes = c.agree_all.ensures.concludes })
    goes
