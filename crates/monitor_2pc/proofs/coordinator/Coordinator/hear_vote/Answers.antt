use Rattle.std.proofs.Common.{rules, arith, refl}
use Rattle.monitor_2pc.specs.Waiting.{phase_of}
use Rattle.monitor_2pc.proofs.Votes.{heard_open, heard_all, heard_against, undecided}
use Rattle.monitor_2pc.proofs.coordinator.Coordinator.hear_vote.Goals as goal

pub returns-in-Some-Open-clause-heard : goal.returns-in-Some-Open-clause-heard
returns-in-Some-Open-clause-heard c =
    let i = c.self.inside in
    heard_open c.args.replica.now.shown c.args.self.now c.args.replica.now.staged c.args.from c.from.result c.args.txn c.args.vote i.last i.wait i.votes c.cast.new.self i.acks i.waiting i.asker i.decided (record {
      view = c.self.view_is;
      votes_awaited = search rules;
      staged_there = c.requires;
      number = c.if-txn-self.false;
      above = omega arith;
      place = c.from.ensures;
      here = c.in-Some-Open.ensures.open;
      put = c.in-Some-Open.ensures.cast;
      tallied = rw c.in-Some-Open.field-0-is at c.in-Some-Open.ensures.tallied;
      as_many = c.self.invariant.0;
    })

pub returns-in-Some-Open-clause-requests : goal.returns-in-Some-Open-clause-requests
returns-in-Some-Open-clause-requests c =
    let i = c.self.inside in
    undecided i.wait i.waiting i.last (phase_of i.wait i.votes i.acks) i.asker i.decided c.args.self.now (search rules) c.self.invariant.2 c.self.view_is

pub returns-in-Some-AllYes-clause-heard : goal.returns-in-Some-AllYes-clause-heard
returns-in-Some-AllYes-clause-heard c =
    let i = c.self.inside in
    heard_all c.args.replica.now.shown c.args.self.now c.args.replica.now.staged c.args.from c.from.result c.args.txn c.args.vote i.last i.wait i.votes c.cast.new.self i.acks i.waiting i.asker i.decided c.decide.new.self c.args.replica.now c.committed_step-told.new.replica c.committed_step-told.result (record {
      view = c.self.view_is;
      votes_awaited = search rules;
      staged_there = c.requires;
      number = c.if-txn-self.false;
      above = omega arith;
      place = c.from.ensures;
      here = c.in-Some-AllYes.ensures.open;
      put = c.in-Some-AllYes.ensures.cast;
      tallied = rw c.in-Some-AllYes.field-0-is at c.in-Some-AllYes.ensures.tallied;
      as_many = c.self.invariant.0;
    }) refl refl c.committed_step-told.ensures c.decide.ensures

pub returns-in-Some-Against-clause-heard : goal.returns-in-Some-Against-clause-heard
returns-in-Some-Against-clause-heard c =
    let i = c.self.inside in
    heard_against c.args.replica.now.shown c.args.self.now c.args.replica.now.staged c.args.from c.from.result c.args.txn c.args.vote i.last i.wait i.votes c.cast.new.self i.acks i.waiting i.asker i.decided c.decide-in-Some-Against.new.self c.args.replica.now c.aborted_step-told.new.replica c.aborted_step-told.result c.in-Some-Against.core c.in-Some-Against.against (record {
      view = c.self.view_is;
      votes_awaited = search rules;
      staged_there = c.requires;
      number = c.if-txn-self.false;
      above = omega arith;
      place = c.from.ensures;
      here = c.in-Some-Against.ensures.open;
      put = c.in-Some-Against.ensures.cast;
      tallied = rw c.in-Some-Against.field-0-is at c.in-Some-Against.ensures.tallied;
      as_many = c.self.invariant.0;
    }) refl c.aborted_step-told.ensures.told c.aborted_step-told.ensures.replica c.decide-in-Some-Against.ensures
