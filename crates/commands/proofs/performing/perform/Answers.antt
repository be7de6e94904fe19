use Rattle.std.proofs.Common.{[], Err, ap, inr, refl, sym, ◌∙◌}
use Rattle.std.proofs.lemmas.Result.{err_from_is_err_and}
use Rattle.std.proofs.lemmas.List.{append-nil}
use Rattle.commands.proofs.Alone.{causes, fails, fault_is, no_status, not_read, shown_alone, shows_script}
use Rattle.commands.proofs.performing.perform.Goals as goal

pub returns-in_ok-run_sim-in-Sim-clause-shown : goal.returns-in_ok-run_sim-in-Sim-clause-shown
returns-in_ok-run_sim-in-Sim-clause-shown g c = let s = c.in_ok-run_sim-in-Sim.ensures.shown in (s.0, s.1, [], sym (append-nil _), rw c.in-Sim.is (refl, s.2))

pub returns-in-Run-clause-shown : goal.returns-in-Run-clause-shown
returns-in-Run-clause-shown g c = rw c.in-Run.is (shows_script c.run_script.result _ _ _ _ _ c.run_script.ensures.shown)

pub returns-in_ok-perform_alone-in_default-clause-shown : goal.returns-in_ok-perform_alone-in_default-clause-shown
returns-in_ok-perform_alone-in_default-clause-shown g c =
    let s = c.in_ok-perform_alone-in_default.ensures.shown in
    (s.0, s.1, s.2, s.3, shown_alone c.args.request.now c.args.choices g.R.Read.remaining c.args.reader.now c.perform_alone.new.reader g.F.Read.remaining c.args.captures.now c.args.captures.now _ s.0 s.2 s.4)

pub returns-in_err-perform_alone-in_default : goal.returns-in_err-perform_alone-in_default
returns-in_err-perform_alone-in_default g c =
    let fault = c.in_err-perform_alone-in_default.field-0.0 in
    let p = err_from_is_err_and c.from_residual-in_err-perform_alone-in_default.result c.from_residual-in_err-perform_alone-in_default.ensures.1 in
    let is = p.1 ∙ ap Err p.2 in
    record {
      shown = no_status c.from_residual-in_err-perform_alone-in_default.result fault _ is;
      alone = λ takes_none. refl;
      input_first = inr refl;
      order = not_read c.args.captures.now;
      failure = fails c.from_residual-in_err-perform_alone-in_default.result fault c.args.request.now is;
      cause = causes c.from_residual-in_err-perform_alone-in_default.result fault c.perform_alone.new.reader c.args.captures.now c.perform_alone.new.writer is c.requires.fresh_captures c.in_err-perform_alone-in_default.ensures.cause;
      silent = λ of quiet. c.in_err-perform_alone-in_default.ensures.silent (ap Err (fault_is c.from_residual-in_err-perform_alone-in_default.result fault is of)) quiet;
    }
