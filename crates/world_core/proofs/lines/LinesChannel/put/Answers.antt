use Rattle.std.proofs.Common.{◌≡◌, ◌++◌, ◌∷◌, [], arith, ap, ◌∙◌, is_ok, true}
use Rattle.world_core.specs.Carrying.{message_of}
use Rattle.world_core.proofs.CarriedLines.{one_fits, put_lines}
use Rattle.world_core.proofs.lines.LinesChannel.put.Goals as goal

pub invariant_of-self : goal.invariant_of-self
invariant_of-self c =
    let fits : is_ok c.append.result ≡ true = c.append.ensures.succeeds (omega (arith, one_fits _ c.piece.invariant, ap (λ v. v.spare) c.self.view_is)) in
    (put_lines _ _ _ _ c.append.ensures.items fits c.self.invariant c.piece.invariant).0

pub returns : goal.returns
returns c =
    let fits : is_ok c.append.result ≡ true = c.append.ensures.succeeds (omega (arith, one_fits _ c.piece.invariant, ap (λ v. v.spare) c.self.view_is)) in
    (put_lines _ _ _ _ c.append.ensures.items fits c.self.invariant c.piece.invariant).1
    ∙ ap (λ h. h ++ message_of c.piece.inside.lines.items ∷ []) (ap (λ v. v.held) c.self.view_is)
    ∙ ap (λ m. c.args.self.now.held ++ m ∷ []) c.piece.view_is
