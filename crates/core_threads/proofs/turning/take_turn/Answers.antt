use Rattle.std.proofs.Common.{◌∷◌, [], ◌++◌, ℕ, List, ap, ◌∙◌, subst}
use Rattle.rx_queue.specs.Queue.{jobs_seen}
use Rattle.world_histories.specs.declared.history.Stamped.{Stamped}
use Rattle.core_loop.specs.Cores.{CoreState}
use Rattle.core_threads.specs.Watchers.{AsksOfFront}
use Rattle.core_threads.proofs.Watchers.{obeyed, takes_asked}
use Rattle.core_threads.proofs.Turns.{after_turn}
use Rattle.core_threads.proofs.turning.take_turn.Goals as goal

pub returns-clause-stopped : goal.returns-clause-stopped
returns-clause-stopped g c = λ was.
    let e = c.turn.ensures in
    after_turn g.L.Links.same g.L.Links.view c.may_receive-rx.new.core c.turn.new.self c.may_receive-rx.result e.core c.turn.result
    (ap (λ (x : CoreState g.row.L.Denot). x.stopped) c.may_receive-rx.ensures.core ∙ was) e.other e.no_room e.stopped e.running e.spent e.lacks e.idle_message e.idle

pub returns-clause-did : goal.returns-clause-did
returns-clause-did g c = λ is.
    let s = c.turn.ensures.did is in
    (s.0, s.1.history ∙ ap (λ (l : List Stamped). l ++ s.0 ∷ []) (ap (λ (x : CoreState g.row.L.Denot). x.history) c.may_receive-rx.ensures.core))

pub returns-clause-other : goal.returns-clause-other
returns-clause-other g c = λ not. (c.turn.ensures.other not).history ∙ ap (λ (x : CoreState g.row.L.Denot). x.history) c.may_receive-rx.ensures.core

pub returns-clause-leave : goal.returns-clause-leave
returns-clause-leave g c =
    let looked = c.may_receive-rx.new.core in
    let is = c.may_receive-rx.ensures.core in
    record {
      queue = looked.intake;
      looked = c.may_receive-rx.ensures.looked;
      answer = c.may_receive-rx.result;
      asked = subst (λ (n : ℕ). AsksOfFront n (jobs_seen looked.intake) c.may_receive-rx.result c.args.notes.now.asked.items c.may_receive-rx.new.notes.asked.items)
          (ap (λ (x : CoreState g.row.L.Denot). x.number) is) c.may_receive-rx.ensures.asked;
      obeys = obeyed g.L.Links.view c.args.core.now looked c.turn.new.self c.turn.result c.may_receive-rx.result (ap (λ (x : CoreState g.row.L.Denot). x.history) is) c.turn.ensures.did c.turn.ensures.other;
      takes = takes_asked g.L.Links.view looked.number c.args.notes.now.asked.items c.may_receive-rx.new.notes.asked.items c.args.core.now looked c.turn.new.self c.turn.result c.may_receive-rx.result c.may_receive-rx.ensures.looked.taken
          c.may_receive-rx.ensures.asked c.turn.ensures.did c.turn.ensures.other;
    }
