use Rattle.world_model.proofs.Standing.{start_none, submit_none, start_for_none, take_none, rx_none, done_stands, joined_stands}
use Rattle.world_core.proofs.world.WorldOver.perform.Goals as goal

pub returns-in-Rx-clause-happens : goal.returns-in-Rx-clause-happens
returns-in-Rx-clause-happens g c = rw c.in-Rx.is (c.receive.ensures.happens c.in-Rx.number)

pub returns-in-Rx-clause-fault : goal.returns-in-Rx-clause-fault
returns-in-Rx-clause-fault g c = rw c.in-Rx.is (c.receive.ensures.fault c.in-Rx.number)

pub returns-in-Start-clause-none_stands : goal.returns-in-Start-clause-none_stands
returns-in-Start-clause-none_stands g c = rw c.in-Start.is (done_stands c.start.result _ _ (λ answer h. start_none c.args.self.now _ _ answer h) c.start.ensures.happens)

pub returns-in-Submit-clause-none_stands : goal.returns-in-Submit-clause-none_stands
returns-in-Submit-clause-none_stands g c = rw c.in-Submit.is (done_stands c.submit.result _ _ (λ answer h. submit_none c.args.self.now _ _ _ answer h) c.submit.ensures.happens)

pub returns-in-StartFor-clause-none_stands : goal.returns-in-StartFor-clause-none_stands
returns-in-StartFor-clause-none_stands g c = rw c.in-StartFor.is (joined_stands c.start_for.result _ _ _ (λ answer joined h. start_for_none c.args.self.now _ _ answer joined h) c.start_for.ensures.joined c.start_for.ensures.happens)

pub returns-in-Take-clause-none_stands : goal.returns-in-Take-clause-none_stands
returns-in-Take-clause-none_stands g c = rw c.in-Take.is (done_stands c.take.result _ _ (λ answer h. take_none c.args.self.now _ _ _ _ answer h) c.take.ensures.happens)

pub returns-in-Rx-clause-none_stands : goal.returns-in-Rx-clause-none_stands
returns-in-Rx-clause-none_stands g c = rw c.in-Rx.is (done_stands c.receive.result _ _ (λ answer h. rx_none c.args.self.now _ _ c.in-Rx.number _ _ answer h) (c.receive.ensures.happens c.in-Rx.number))
