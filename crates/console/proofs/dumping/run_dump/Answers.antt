use Rattle.std.proofs.Common.{refl, inr}
use Rattle.std.proofs.lemmas.Result.{IfOk-weaker}
use Rattle.console.specs.Dumping.{ShowsDump}
use Rattle.console.proofs.DumpingLemmas.{dump_read, dump_part}
use Rattle.engine_io.proofs.InputLemmas.{shown_long}
use Rattle.console.proofs.OnceLemmas.{dump_once}
use Rattle.engine_io.proofs.InputLemmas.{on_ok}
use Rattle.console.proofs.TakingLemmas.{capture_taken}
use Rattle.console.proofs.dumping.run_dump.Goals as goal

pub returns-in_default-clause-shown : goal.returns-in_default-clause-shown
returns-in_default-clause-shown g c =
    shown_long c.refuse_long.result _ _ _ _ _ (ShowsDump c.args.link c.args.stamped) (rw c.in_default.is at c.in_ok-captured.ensures.read) (λ input long. inr (long, (refl, refl))) c.refuse_long.ensures.shown

pub returns-clause-shown : goal.returns-clause-shown
returns-clause-shown g c =
    let read = dump_read c.args.link c.args.stamped _ _ c.in-Some.captured (rw c.in-Some.is at c.in_ok-captured.ensures.read) in
    let shown = rw c.as_slice-entries.ensures.value at c.dump.ensures.shown in
    IfOk-weaker c.dump.result _ _ (λ status s. (_, s.0, (read.0, read.1, rw s.1 read.2))) shown

pub returns-clause-part : goal.returns-clause-part
returns-clause-part g c = λ memory.
    let part = rw c.as_slice-entries.ensures.value at (c.dump.ensures.part memory) in
    let read = dump_read c.args.link c.args.stamped _ _ c.in-Some.captured (rw c.in-Some.is at c.in_ok-captured.ensures.read) in
    (part.0, dump_part c.args.link c.args.stamped _ _ _ _ _ _ read.1 read.2 part.1, part.2)

pub returns-in_err-captured-clause-only : goal.returns-in_err-captured-clause-only
returns-in_err-captured-clause-only g c = dump_once c.args.link c.args.stamped

pub returns-in_default-clause-only : goal.returns-in_default-clause-only
returns-in_default-clause-only g c = dump_once c.args.link c.args.stamped

pub returns-clause-only : goal.returns-clause-only
returns-clause-only g c = dump_once c.args.link c.args.stamped

pub returns-in_default-clause-taken : goal.returns-in_default-clause-taken
returns-in_default-clause-taken g c = on_ok c.refuse_long.result _ (capture_taken _ _ _ c.in_ok-captured.ensures.read)

pub returns-clause-taken : goal.returns-clause-taken
returns-clause-taken g c = on_ok c.dump.result _ (capture_taken _ _ _ c.in_ok-captured.ensures.read)
