use Rattle.std.proofs.Common.{arith, refl}
use Rattle.savefile_front.proofs.HeaderLemmas.{wrong_front}
use Rattle.console.specs.Programs.{programs_of}
use Rattle.keep_engine.proofs.RecordSieveLemmas.{opened}
use Rattle.keep_engine.proofs.record_sieve.RecordSieve.open.Goals as goal

pub returns-in-Err : goal.returns-in-Err
returns-in-Err c = (
  refl,
  wrong_front c.args.self.now.part.items c.min-front.result c.in-Err.fault (omega (arith, c.min-front.ensures, c.len.ensures, c.args.self.now.part.ok.0)) (rw (c.in-Err.is, c.deref.ensures.value) at c.in_ok-fault.ensures),
  refl,
)

pub returns-in_ok-self-in-Ok : goal.returns-in_ok-self-in-Ok
returns-in_ok-self-in-Ok c =
    opened (programs_of c.args.filter.now) c.args.wanted c.args.self.now.part.items c.in_ok-records-in-Ok.records.items c.min-front.result c.in-Ok.header c.in_ok-self-in-Ok.field-0 c.take_records.new.part.items c.args.kept.now c.append.new.self
    c.take_records.new.kept (rw (c.in-Ok.is, c.deref.ensures.value) at c.in_ok-fault.ensures) c.in_ok-records-in-Ok.ensures.tail (rw (c.as_slice.ensures.value, c.in_ok-records-in-Ok.ensures.items) at c.in_ok-append-in-Ok.ensures)
    c.in_ok-self-in-Ok.ensures.takes c.in_ok-self-in-Ok.ensures.left
