use Rattle.std.proofs.Common.{◌≡◌, ◌∙◌, [], ap, map, sym, Some, None}
use Rattle.std.specs.Prelude.{codes, unwrap_or}
use Rattle.std.proofs.lemmas.Result.{IfOk-weaker}
use Rattle.clap.specs.Words.{all_of, first_of, found_of, rows_of}
use Rattle.clap.proofs.WalkLemmas.{first_value-rows}
use Rattle.command_line.specs.Requests.{inputs_in}
use Rattle.command_line.proofs.request.inputs.Goals as goal

pub returns-in-Some : goal.returns-in-Some
returns-in-Some c =
    let named : first_of (codes "file") (rows_of (found_of c.args.found.now)) ≡ Some c.in-Some.name.now =
    sym (first_value-rows (found_of c.args.found.now) (codes "file")) ∙ sym c.in-Some.ensures in
    IfOk-weaker c.from_slice.result _ _ (λ v is. ap (map (λ f. f.now)) is ∙ sym (ap (λ name. inputs_in name (unwrap_or (all_of (codes "inputs") (rows_of (found_of c.args.found.now))) [])) named)) c.from_slice.ensures.items

pub returns-in-None : goal.returns-in-None
returns-in-None c =
    let none : first_of (codes "file") (rows_of (found_of c.args.found.now)) ≡ None =
    sym (first_value-rows (found_of c.args.found.now) (codes "file")) ∙ sym c.in-None.ensures in
    IfOk-weaker c.texts.result _ _ (λ v is. is ∙ sym (ap (λ name. inputs_in name (unwrap_or (all_of (codes "inputs") (rows_of (found_of c.args.found.now))) [])) none)) c.texts.ensures
