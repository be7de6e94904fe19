use Rattle.std.proofs.Common.{◌-◌, ◌^◌, List, length, min, take, refl, sym, ap, ◌∙◌, subst, arith}
use Rattle.filter_table.specs.declared.operation.Op.{Op}
use Rattle.world_histories.specs.declared.history.Stamped.{Stamped}
use Rattle.table_replica.specs.Shown.{ReplicaState}
use Rattle.filter_table.specs.Tables.{Accepting}
use Rattle.core_loop.specs.Keeping.{IsStanding}
use Rattle.core_loop.proofs.Receipting.{receipt_stands}
use Rattle.core_loop.proofs.InTurn.{begun_more}
use Rattle.core_loop.proofs.Resting.{begun_more as requests_more}
use Rattle.core_loop.proofs.Stopped.{not_stopped}
use Rattle.core_loop.proofs.running.Core.receive.Goals as goal

pub invariant_of-self : goal.invariant_of-self
invariant_of-self g c = c.self.invariant

pub invariant_of-self-2 : goal.invariant_of-self-2
invariant_of-self-2 g c =
    let i = c.self.inside in
    let v = c.self.invariant in
    let view = g.L.Links.view in
    let stamp = c.in-Some-next_stamp.stamp in
    let here = subst (λ (r : ReplicaState). Accepting r.shown (record { bytes = c.args.bytes.now; original = c.args.original }) (take c.in_ok-count.count c.accepting_into.new.room)) c.replica-replica.ensures c.in_ok-count.ensures.ok.1 in (
      v.0,
      v.1,
      subst (λ (l : List Stamped). IsStanding i.part i.number i.cores stamp l (view i.links)) (sym c.noted_receipt-self-inside.ensures)
          (receipt_stands i.number i.cores i.clock stamp c.version-version.result i.part c.args.bytes.now c.args.original _ i.history.items (view i.links) v.2 (omega (arith, c.in-Some-next_stamp.ensures.some)) (c.version-version.ensures ∙ ap (λ (r : ReplicaState). r.shown.version) c.replica-replica.ensures) here),
      v.3,
      begun_more i.begun_last i.history.items c.noted_receipt-self-inside.result.items _ v.4 c.noted_receipt-self-inside.ensures,
      not_stopped i.cores stamp i.part (view i.links) i.stopped c.in_default.is,
      v.6 ∙ ap (λ (ops : List Op). min (length ops) (2 ^ 64 - 1))
          (sym (requests_more i.history.items c.noted_receipt-self-inside.result.items _ i.requests.items i.requests.items c.noted_receipt-self-inside.ensures refl)),
    )
