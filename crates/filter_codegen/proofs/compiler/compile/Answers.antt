use Rattle.std.proofs.Common.{◌∙◌, sym, subst}
use Rattle.filter_codegen.specs.Decides.{Decides}
use Rattle.filter_codegen.proofs.compiler.compile.Goals as goal

pub returns-in-Ok-clause-decides : goal.returns-in-Ok-clause-decides
returns-in-Ok-clause-decides c =
    subst (Decides c.args.cond.now c.args.accept) (sym (c.in-Ok.ensures.code ∙ c.deref.ensures.value)) c.in_ok-code.ensures.decides
