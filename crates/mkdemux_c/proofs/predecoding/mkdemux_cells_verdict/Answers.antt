use Rattle.mkdemux_c.proofs.predecoding.mkdemux_cells_verdict.Goals as goal

pub returns-clause-only : goal.returns-clause-only
returns-clause-only c = λ verdict steps ends. (c.run_laid.ensures.only verdict steps ends).0
