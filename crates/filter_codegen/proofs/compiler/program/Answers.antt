use Rattle.std.proofs.Common.{subst}
use Rattle.filter_codegen.specs.Built.{IsBuilt}
use Rattle.filter_codegen.proofs.Lowering.{lowered}
use Rattle.filter_codegen.proofs.compiler.program.Goals as goal

pub returns-clause-sound : goal.returns-clause-sound
returns-clause-sound c =
    (lowered c.args.cond.now c.args.accept c.in_ok-root.root c.build.new.graph c.in_ok-draft.draft c.finish.result.items
    (subst (λ l. IsBuilt l c.build.new.graph c.in_ok-root.root) c.deref.ensures.value c.in_ok-root.ensures.ok) c.in_ok-draft.ensures.ok c.finish.ensures.items c.finish.ensures.short).0

pub returns-clause-decides : goal.returns-clause-decides
returns-clause-decides c =
    (lowered c.args.cond.now c.args.accept c.in_ok-root.root c.build.new.graph c.in_ok-draft.draft c.finish.result.items
    (subst (λ l. IsBuilt l c.build.new.graph c.in_ok-root.root) c.deref.ensures.value c.in_ok-root.ensures.ok) c.in_ok-draft.ensures.ok c.finish.ensures.items c.finish.ensures.short).1
