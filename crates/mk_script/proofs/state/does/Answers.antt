use Rattle.std.proofs.Common.{◌≡◌, ◌||◌, is_ok, ap}
use Rattle.std.proofs.ResultArms.{chosen}
use Rattle.mk_script.specs.Meanings.{is_act, Does}
use Rattle.mk_script.proofs.ChangeLemmas.{knows_does}
use Rattle.mk_script.proofs.state.does.Goals.{then-reading, else-reading}
use Rattle.mk_script.proofs.state.does.Goals as goal

pub returns : goal.returns
returns c =
    let r = c.args.reading.now in
    let changed : c.if-reading.reading ≡ (r.acted || is_act (Does c.args.item)) = elim c.if-reading.branch [ then-reading w ↦ cc | else-reading w ↦ cc ] in
    let pushed = chosen _ _ _ _ c.push.ensures.items (ap is_ok c.in_ok-push.was) in
    λ given knows. knows_does _ _ _ _ _ _ _ _ _ given knows c.args.item c.if-reading.reading c.push.new.self.items changed pushed
