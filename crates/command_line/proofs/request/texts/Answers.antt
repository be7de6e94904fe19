use Rattle.std.proofs.Common.{ap, ◌∙◌, [], List, ℕ, map}
use Rattle.std.specs.Borrow.{Bor}
use Rattle.std.specs.Prelude.{unwrap_or}
use Rattle.clap.specs.Words.{found_of}
use Rattle.std.proofs.lemmas.Result.{IfOk-weaker}
use Rattle.clap.proofs.WalkLemmas.{raw_values-rows}
use Rattle.command_line.proofs.Readings.{or_else}
use Rattle.command_line.proofs.request.texts.Goals as goal

abbrev texts : Bor (List (Bor (List ℕ))) → List (List ℕ)
texts s = map (λ v. v.now) s.now

pub returns : goal.returns
returns c =
    let read = c.get_strs.ensures ∙ raw_values-rows (found_of c.args.found.now) c.args.name.now in
    let given = ap texts c.unwrap_or.ensures ∙ or_else texts c.get_strs.result _ ∙ ap (λ found. unwrap_or found []) read in
    IfOk-weaker c.from_slice.result _ _ (λ v is. ap (map (λ t. t.now)) is ∙ given) c.from_slice.ensures.items
