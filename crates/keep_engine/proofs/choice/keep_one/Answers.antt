use Rattle.std.proofs.Common.{◌≡◌, arith, Ok, Err, false, true, inl, inr, refl, sym, ◌∙◌}
use Rattle.console.specs.Choosing.{is_link}
use Rattle.keep_engine.proofs.ChoiceLemmas.{appends_nothing}
use Rattle.keep_engine.proofs.choice.keep_one.Goals as goal

pub returns-then-not-is_link : goal.returns-then-not-is_link
returns-then-not-is_link c =
    (Ok false, inl (grind (arith, c.if-not-is_link.true, c.is_link.ensures), refl), appends_nothing c.args.kept.now)

pub returns-in_ok-append-in-Ok : goal.returns-in_ok-append-in-Ok
returns-in_ok-append-in-Ok c =
    let wanted : is_link c.args.wanted.link c.args.link ≡ true = grind (arith, c.if-not-is_link.false, c.is_link.ensures) in (
      Ok true,
      inr (wanted, c.run-outcome.result, (c.in-Ok.program.now, c.in-Ok.ensures, c.run-outcome.ensures.ends), sym c.if-is_picked.true ∙ c.is_picked.ensures),
      c.in_ok-append-in-Ok.ensures,
    )

pub returns-else-is_picked : goal.returns-else-is_picked
returns-else-is_picked c =
    let wanted : is_link c.args.wanted.link c.args.link ≡ true = grind (arith, c.if-not-is_link.false, c.is_link.ensures) in (
      Ok false,
      inr (wanted, c.run-outcome.result, (c.in-Ok.program.now, c.in-Ok.ensures, c.run-outcome.ensures.ends), sym c.if-is_picked.false ∙ c.is_picked.ensures),
      appends_nothing c.args.kept.now,
    )

pub returns-in-Err : goal.returns-in-Err
returns-in-Err c =
    let wanted : is_link c.args.wanted.link c.args.link ≡ true = grind (arith, c.if-not-is_link.false, c.is_link.ensures) in
    (Err c.in-Err.fault, (wanted, c.in-Err.ensures), c.stop.ensures)
