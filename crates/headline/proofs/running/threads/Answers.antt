use Rattle.std.proofs.Common.{arith, ap, length}
use Rattle.headline.proofs.Ending.{ended_machine, ended_laws, ended_deliver, ended_tables, ended_newest, ended_left, ended_begun, ended_decided, ended_received, count_replicas}
use Rattle.headline.proofs.Shown.{equal_shown}
use Rattle.headline.proofs.running.threads.Goals as goal

pub conclude_all-requires : goal.conclude_all-requires
conclude_all-requires g c =
    let m = ended_machine c.args.limits c.args.budgets.now c.args.requests.items c.args.jobs.items c.in_ok-cores.cores.items c.in_ok-cores.left.items c.in_ok-cores.ensures.ended in
    (c.args.limits, m.0, m.1, m.2)

pub returns-clause-cores : goal.returns-clause-cores
returns-clause-cores g c =
    count_replicas c.args.limits c.args.budgets.now c.args.requests.items c.args.jobs.items c.in_ok-cores.cores.items c.in_ok-cores.left.items c.in_ok-did.did.replicas c.in_ok-did.ensures.replicas c.in_ok-cores.ensures.ended

pub returns-clause-tables : goal.returns-clause-tables
returns-clause-tables g c =
    ended_tables c.args.limits c.args.budgets.now c.args.requests.items c.args.jobs.items c.in_ok-cores.left.items c.in_ok-did.did.events.items c.in_ok-cores.cores.items c.in_ok-did.did.replicas c.in_ok-did.ensures.replicas
    c.in_ok-cores.ensures.ended c.in_ok-did.ensures.concludes c.in_ok-did.ensures.list

pub returns-clause-equal : goal.returns-clause-equal
returns-clause-equal g c =
    equal_shown c.args.limits c.in_ok-did.did.events.items c.in_ok-did.did.replicas
    (ended_tables c.args.limits c.args.budgets.now c.args.requests.items c.args.jobs.items c.in_ok-cores.left.items c.in_ok-did.did.events.items c.in_ok-cores.cores.items c.in_ok-did.did.replicas c.in_ok-did.ensures.replicas
    c.in_ok-cores.ensures.ended c.in_ok-did.ensures.concludes c.in_ok-did.ensures.list)

pub returns-clause-delivers : goal.returns-clause-delivers
returns-clause-delivers g c =
    ended_deliver c.args.limits c.args.budgets.now c.args.requests.items c.args.jobs.items c.in_ok-cores.left.items c.in_ok-did.did.events.items c.in_ok-cores.cores.items c.in_ok-cores.ensures.ended c.in_ok-did.ensures.concludes c.in_ok-did.ensures.list

pub returns-clause-begun : goal.returns-clause-begun
returns-clause-begun g c =
    ended_begun c.args.limits c.args.budgets.now c.args.requests.items c.args.jobs.items c.in_ok-cores.left.items c.in_ok-did.did.events.items c.in_ok-cores.cores.items c.requires.requests c.in_ok-cores.ensures.ended c.in_ok-did.ensures.concludes c.in_ok-did.ensures.list

pub returns-clause-decided : goal.returns-clause-decided
returns-clause-decided g c =
    ended_decided c.args.limits c.args.budgets.now c.args.requests.items c.args.jobs.items c.in_ok-cores.left.items c.in_ok-did.did.events.items c.in_ok-cores.cores.items c.requires.requests c.in_ok-cores.ensures.ended c.in_ok-did.ensures.concludes c.in_ok-did.ensures.list

pub returns-clause-received : goal.returns-clause-received
returns-clause-received g c =
    ended_received c.args.limits c.args.budgets.now c.args.requests.items c.args.jobs.items c.in_ok-cores.left.items c.in_ok-did.did.events.items c.in_ok-cores.cores.items c.requires.jobs c.in_ok-cores.ensures.ended c.in_ok-did.ensures.concludes c.in_ok-did.ensures.list

pub returns-clause-newest : goal.returns-clause-newest
returns-clause-newest g c =
    ended_newest c.args.limits c.args.budgets.now c.args.requests.items c.args.jobs.items c.in_ok-cores.left.items c.in_ok-did.did.events.items c.in_ok-cores.cores.items c.in_ok-did.did.replicas c.in_ok-did.ensures.replicas
    c.in_ok-cores.ensures.ended c.in_ok-did.ensures.concludes c.in_ok-did.ensures.list

pub returns-clause-left : goal.returns-clause-left
returns-clause-left g c =
    ended_left c.args.limits c.args.budgets.now c.args.requests.items c.args.jobs.items c.in_ok-cores.left.items c.in_ok-did.did.events.items c.in_ok-cores.cores.items c.in_ok-cores.ensures.ended c.in_ok-did.ensures.concludes c.in_ok-did.ensures.list

pub returns-clause-rightful : goal.returns-clause-rightful
returns-clause-rightful g c = (ended_laws c.args.limits c.args.budgets.now c.args.requests.items c.args.jobs.items c.in_ok-cores.left.items c.in_ok-did.did.events.items c.in_ok-cores.cores.items c.in_ok-cores.ensures.ended c.in_ok-did.ensures.concludes c.in_ok-did.ensures.list).0.rightful

pub returns-clause-allowed : goal.returns-clause-allowed
returns-clause-allowed g c = (ended_laws c.args.limits c.args.budgets.now c.args.requests.items c.args.jobs.items c.in_ok-cores.left.items c.in_ok-did.did.events.items c.in_ok-cores.cores.items c.in_ok-cores.ensures.ended c.in_ok-did.ensures.concludes c.in_ok-did.ensures.list).0.allowed

pub returns-clause-judged : goal.returns-clause-judged
returns-clause-judged g c = (ended_laws c.args.limits c.args.budgets.now c.args.requests.items c.args.jobs.items c.in_ok-cores.left.items c.in_ok-did.did.events.items c.in_ok-cores.cores.items c.in_ok-cores.ensures.ended c.in_ok-did.ensures.concludes c.in_ok-did.ensures.list).0.judged

pub returns-clause-once : goal.returns-clause-once
returns-clause-once g c = (ended_laws c.args.limits c.args.budgets.now c.args.requests.items c.args.jobs.items c.in_ok-cores.left.items c.in_ok-did.did.events.items c.in_ok-cores.cores.items c.in_ok-cores.ensures.ended c.in_ok-did.ensures.concludes c.in_ok-did.ensures.list).0.once

pub returns-clause-named : goal.returns-clause-named
returns-clause-named g c = (ended_laws c.args.limits c.args.budgets.now c.args.requests.items c.args.jobs.items c.in_ok-cores.left.items c.in_ok-did.did.events.items c.in_ok-cores.cores.items c.in_ok-cores.ensures.ended c.in_ok-did.ensures.concludes c.in_ok-did.ensures.list).1 (λ core. omega (arith, ap length (returns-clause-begun g c core), returns-clause-decided g c core))
