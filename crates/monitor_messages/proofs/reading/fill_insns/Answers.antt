use Rattle.std.proofs.Common.{◌∙◌, refl, length, take}
use Rattle.std.proofs.lemmas.List.{length-set}
use Rattle.std.proofs.lemmas.Result.{err_from_is_err_and}
use Rattle.monitor_messages.specs.Reading.{insns_at, insns_in}
use Rattle.monitor_messages.proofs.Carrying.{fails_in}
use Rattle.monitor_messages.proofs.Loop.{ends, is_begun, is_stored, is_filled}
use Rattle.monitor_messages.proofs.reading.fill_insns.Goals as goal

pub loop-place-init : goal.loop-place-init
loop-place-init c = record { room = refl; read = is_begun c.args.code.now (length c.args.code.now) c.args.bytes.now }

pub loop-place-preserved : goal.loop-place-preserved
loop-place-preserved c = record {
  room = length-set c.loop-place.code c.loop-place.place _ ∙ c.loop-place.invariant.room;
  read = is_stored c.loop-place.code (length c.args.code.now) c.loop-place.place c.loop-place.rest.now c.in_ok-insn.insn c.in_ok-insn.after.now _ c.loop-place-test.true c.loop-place.invariant.room c.in_ok-insn.ensures c.loop-place.invariant.read;
}

pub returns-in_err-insn-clause-found : goal.returns-in_err-insn-clause-found
returns-in_err-insn-clause-found c =
    let p = err_from_is_err_and c.from_residual.result c.from_residual.ensures.1 in
    rw (p.1, p.2) (fails_in ⊥ ⊥ c.in_err-insn.field-0.0 (insns_at (length c.args.code.now) c.args.bytes.now) (insns_in (length c.args.code.now) c.args.bytes.now) (λ no. no) (λ none. rw none refl)
    (ends ⊥ c.in_err-insn.field-0.0 (take c.loop-place.place c.loop-place.code) (length c.args.code.now) c.loop-place.place c.loop-place.rest.now (insns_at (length c.args.code.now) c.args.bytes.now) c.loop-place-test.true c.in_err-insn.ensures c.loop-place.invariant.read))

pub returns-clause-found : goal.returns-clause-found
returns-clause-found c =
    is_filled _ c.loop-place.code (length c.args.code.now) c.loop-place.place c.loop-place.rest.now c.args.bytes.now c.ended.result c.loop-place-test.false c.loop-place.invariant.room c.loop-place.invariant.read c.ended.ensures
