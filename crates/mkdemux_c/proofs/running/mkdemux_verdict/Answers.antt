use Rattle.mkdemux_c.proofs.running.mkdemux_verdict.Goals as goal

pub returns-clause-only : goal.returns-clause-only
returns-clause-only c = λ verdict steps ends. (c.run_sound.ensures.only verdict steps ends).0
