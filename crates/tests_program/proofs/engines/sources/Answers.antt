use Rattle.std.proofs.Common.{List, subst, sym}
use Rattle.engine_io.specs.declared.source.Source.{Source}
use Rattle.script_input.specs.Inputs.{AllFresh}
use Rattle.script_input.proofs.Reading.{fresh_push}
use Rattle.tests_program.proofs.engines.sources.Goals as goal

pub loop-file-preserved : goal.loop-file-preserved
loop-file-preserved g c =
    subst (λ (files : List (Source g.row.F.Denot)). AllFresh files) (sym c.in_ok-push.ensures.items) (fresh_push c.loop-file.sources.items c.new.result c.loop-file.invariant c.new.ensures.fresh)
