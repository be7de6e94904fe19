use Rattle.std.proofs.Common.{subst}
use Rattle.mk_script.specs.declared.meaning.Meaning.{Meaning}
use Rattle.mk_script.specs.Changes.{Follows}
use Rattle.mk_script.proofs.ChangeLemmas.{knows_nothing, knows_limits, knows_budgets, knows_program, knows_packet, knows_capture, knows_home}
use Rattle.mk_script.proofs.state.add.Goals as goal

pub returns-in-Limits : goal.returns-in-Limits
returns-in-Limits c =
    let follows = subst (λ (m : Meaning). Follows c.args.reading.now m) c.in-Limits.is c.requires in
    λ given knows. rw c.in-Limits.is (knows_limits _ _ _ _ _ _ _ _ _ given knows c.in-Limits.limits follows)

pub returns-in-Budgets : goal.returns-in-Budgets
returns-in-Budgets c =
    let follows = subst (λ (m : Meaning). Follows c.args.reading.now m) c.in-Budgets.is c.requires in
    λ given knows. rw c.in-Budgets.is (knows_budgets _ _ _ _ _ _ _ _ _ given knows c.in-Budgets.budgets.items follows.0)

pub returns-in-Nothing : goal.returns-in-Nothing
returns-in-Nothing c = λ given knows. rw c.in-Nothing.is (knows_nothing _ _ _ _ _ _ _ _ _ given knows)

pub returns-in_ok-put-in-NamedProgram : goal.returns-in_ok-put-in-NamedProgram
returns-in_ok-put-in-NamedProgram c =
    let follows = subst (λ (m : Meaning). Follows c.args.reading.now m) c.in-NamedProgram.is c.requires in
    λ given knows. rw c.in-NamedProgram.is (knows_program _ _ _ _ _ _ _ _ _ given knows c.in-NamedProgram.name.now c.in-NamedProgram.program _ follows c.in_ok-put-in-NamedProgram.ensures)

pub returns-in_ok-put-in-NamedPacket : goal.returns-in_ok-put-in-NamedPacket
returns-in_ok-put-in-NamedPacket c =
    let follows = subst (λ (m : Meaning). Follows c.args.reading.now m) c.in-NamedPacket.is c.requires in
    λ given knows. rw c.in-NamedPacket.is (knows_packet _ _ _ _ _ _ _ _ _ given knows c.in-NamedPacket.name.now c.in-NamedPacket.packet _ follows c.in_ok-put-in-NamedPacket.ensures)

pub returns-in_ok-put-in-NamedCapture : goal.returns-in_ok-put-in-NamedCapture
returns-in_ok-put-in-NamedCapture c =
    let follows = subst (λ (m : Meaning). Follows c.args.reading.now m) c.in-NamedCapture.is c.requires in
    λ given knows. rw c.in-NamedCapture.is (knows_capture _ _ _ _ _ _ _ _ _ given knows c.in-NamedCapture.name.now c.in-NamedCapture.packets _ follows c.in_ok-put-in-NamedCapture.ensures)

pub returns-in_ok-put-in-Home : goal.returns-in_ok-put-in-Home
returns-in_ok-put-in-Home c =
    let follows = subst (λ (m : Meaning). Follows c.args.reading.now m) c.in-Home.is c.requires in
    λ given knows. rw c.in-Home.is (knows_home _ _ _ _ _ _ _ _ _ given knows c.in-Home.domain c.in-Home.core _ c.in_ok-put-in-Home.ensures)
