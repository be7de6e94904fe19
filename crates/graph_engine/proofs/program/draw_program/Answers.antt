use Rattle.std.proofs.Common.{string_bytes}
use Rattle.std.proofs.lemmas.Result.{IfOk-weaker}
use Rattle.graph_engine.proofs.PathLemmas.{path_ascends, sound_unmarked}
use Rattle.graph_engine.proofs.program.draw_program.Goals as goal

pub graph-requires-clause-ascends : goal.graph-requires-clause-ascends
graph-requires-clause-ascends c = path_ascends _ _ c.in_ok-refusal.ensures

pub returns-clause-sound : goal.returns-clause-sound
returns-clause-sound c = λ sound.
    IfOk-weaker c.graph.result _ _ (λ text is. sound_unmarked c.args.program.now c.in_ok-refusal.refusal (string_bytes text) c.in_ok-refusal.ensures is sound) c.graph.ensures
