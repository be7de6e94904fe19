use Rattle.std.proofs.Common.{None, refl, sym, Some, ◌∙◌, arith}
use Rattle.pcap_reader.proofs.FeedLemmas.{are_bytes}
use Rattle.capture_reader.specs.declared.entry.Found.TheVariants.{SeenEntry}
use Rattle.console.specs.declared.capture_run.CaptureRun.{CaptureRun}
use Rattle.console.specs.Programs.{programs_of}
use Rattle.console.proofs.RunningLemmas.{run_item, run_none, run_then}
use Rattle.console.proofs.capture_run.CaptureRun.run_all.Goals as goal

pub loop-rest-init : goal.loop-rest-init
loop-rest-init c = record { runs = run_none _ _ _ _ _; link = refl; stamped = refl; goes_on = c.requires.goes_on; plain = λ _. refl }

pub returns-then-branch-clause-runs : goal.returns-then-branch-clause-runs
returns-then-branch-clause-runs c =
    let went = rw c.if-branch.true at c.in_ok-after.ensures.went in
    let new : CaptureRun = record c.loop-rest.self { feed = c.next_whole.new.self; links = c.run_found.new.links; refused = c.in_ok-stop.stop } in
    run_then (programs_of c.args.filter.now) c.args.piece.now c.loop-rest.rest.now _ c.args.self.now c.loop-rest.self c.after.new.self _ c.loop-rest.outcomes.items _ _ c.loop-rest.stamps.items _ c.loop-rest.invariant.runs
    (run_then (programs_of c.args.filter.now) c.loop-rest.rest.now c.next_whole.new.rest.now _ c.loop-rest.self new c.after.new.self _ _ _ _ _ _
    (run_item (programs_of c.args.filter.now) c.loop-rest.rest.now c.next_whole.new.rest.now c.loop-rest.self new (SeenEntry c.in-Some.item) (Some c.in-Some.item) c.in_ok-stop.stop _ _ _ _
    c.in-Some.ensures.advances refl refl refl c.loop-rest.invariant.goes_on refl (rw (sym (c.loop-rest.invariant.stamped ∙ c.requires.stamped)) at c.in_ok-stop.ensures.runs) c.run_found.ensures.links)
    (went.2 (programs_of c.args.filter.now) _ _))

pub loop-rest-preserved-in-Some : goal.loop-rest-preserved-in-Some
loop-rest-preserved-in-Some c =
    let went = rw c.if-branch.false at c.in_ok-after.ensures.went in
    let new : CaptureRun = record c.loop-rest.self { feed = c.next_whole.new.self; links = c.run_found.new.links } in
    record {
      runs = rw (went.1, went.2) (run_then (programs_of c.args.filter.now) c.args.piece.now c.loop-rest.rest.now c.next_whole.new.rest.now c.args.self.now c.loop-rest.self new _ c.loop-rest.outcomes.items _ _ c.loop-rest.stamps.items _ c.loop-rest.invariant.runs
          (run_item (programs_of c.args.filter.now) c.loop-rest.rest.now c.next_whole.new.rest.now c.loop-rest.self new (SeenEntry c.in-Some.item) (Some c.in-Some.item) None _ _ _ _
          c.in-Some.ensures.advances refl refl refl c.loop-rest.invariant.goes_on c.loop-rest.invariant.goes_on (rw (sym (c.loop-rest.invariant.stamped ∙ c.requires.stamped), went.0) at c.in_ok-stop.ensures.runs) c.run_found.ensures.links));
      link = rw went.1 c.loop-rest.invariant.link;
      stamped = rw went.1 c.loop-rest.invariant.stamped;
      goes_on = rw went.1 c.loop-rest.invariant.goes_on;
      plain = λ none. c.run_found.ensures.plain (sym c.requires.stamped ∙ none) ∙ c.loop-rest.invariant.plain none;
    }

pub returns-then-branch-2-clause-runs : goal.returns-then-branch-2-clause-runs
returns-then-branch-2-clause-runs c =
    let same = c.in_default.ensures.same refl in
    let next = rw (same.0, same.1) at c.in_ok-run_next.ensures in
    let all = run_then (programs_of c.args.filter.now) c.args.piece.now c.loop-rest.rest.now c.run_next.new.rest.now c.args.self.now c.loop-rest.self c.run_next.new.self _ c.loop-rest.outcomes.items _ _ c.loop-rest.stamps.items _ c.loop-rest.invariant.runs next.runs in
    rw (rw c.if-branch-2.true at next.stopped).1 at all

pub loop-rest-preserved : goal.loop-rest-preserved
loop-rest-preserved c =
    let same = c.in_default.ensures.same refl in
    let next = rw (same.0, same.1) at c.in_ok-run_next.ensures in
    record {
      runs = run_then (programs_of c.args.filter.now) c.args.piece.now c.loop-rest.rest.now c.run_next.new.rest.now c.args.self.now c.loop-rest.self c.run_next.new.self _ c.loop-rest.outcomes.items _ _ c.loop-rest.stamps.items _ c.loop-rest.invariant.runs next.runs;
      link = next.same.0 ∙ c.loop-rest.invariant.link;
      stamped = next.same.1 ∙ c.loop-rest.invariant.stamped;
      goes_on = rw c.if-branch-2.false at next.stopped;
      plain = λ none. next.plain (c.loop-rest.invariant.stamped ∙ none) ∙ c.loop-rest.invariant.plain none;
    }

pub returns-in_err-stop-clause-bytes : goal.returns-in_err-stop-clause-bytes
returns-in_err-stop-clause-bytes c = are_bytes _ (λ i. omega (arith, c.type_inv.piece i))

pub returns-in_err-after-clause-bytes : goal.returns-in_err-after-clause-bytes
returns-in_err-after-clause-bytes c = are_bytes _ (λ i. omega (arith, c.type_inv.piece i))

pub returns-in_err-run_next-clause-bytes : goal.returns-in_err-run_next-clause-bytes
returns-in_err-run_next-clause-bytes c = are_bytes _ (λ i. omega (arith, c.type_inv.piece i))

pub returns-then-branch-clause-bytes : goal.returns-then-branch-clause-bytes
returns-then-branch-clause-bytes c = are_bytes _ (λ i. omega (arith, c.type_inv.piece i))

pub returns-then-branch-2-clause-bytes : goal.returns-then-branch-2-clause-bytes
returns-then-branch-2-clause-bytes c = are_bytes _ (λ i. omega (arith, c.type_inv.piece i))

pub returns-clause-bytes : goal.returns-clause-bytes
returns-clause-bytes c = are_bytes _ (λ i. omega (arith, c.type_inv.piece i))
