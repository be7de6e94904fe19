use Rattle.std.proofs.Common.{sym, ◌∙◌}
use Rattle.std.proofs.lemmas.List.{length-map}
use Rattle.line_words.specs.Words.{texts}
use Rattle.mk_script.proofs.RowLemmas.{cores_few}
use Rattle.mk_script.proofs.rows.command_of.Goals as goal

pub returns-clause-few : goal.returns-clause-few
returns-clause-few c = λ e.
    let few = cores_few c.args.threads (texts c.args.words.now) (sym c.command_in.ensures ∙ e) in
    simp length-map at few
