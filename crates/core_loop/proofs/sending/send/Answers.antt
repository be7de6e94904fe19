use Rattle.std.proofs.Common.{ℕ, List, refl, subst, sym}
use Rattle.monitor_messages.specs.Coding.{Coded}
use Rattle.core_loop.specs.declared.sending.Ready.{Ready}
use Rattle.core_loop.specs.Sending.{IsMade}
use Rattle.core_loop.proofs.Handing.{nothing_sent, all_sent, short_sent, one_sent}
use Rattle.core_loop.proofs.sending.send.Goals as goal

pub returns-in-Nothing-clause-sent : goal.returns-in-Nothing-clause-sent
returns-in-Nothing-clause-sent g c = λ stamp out made.
    nothing_sent c.args.others stamp out _ _ (subst (λ (r : Ready). IsMade c.args.others stamp out r) c.in-Nothing.is made) (λ p. refl)

pub returns-in-ToAll-clause-sent : goal.returns-in-ToAll-clause-sent
returns-in-ToAll-clause-sent g c = λ stamp out made.
    all_sent c.args.others stamp out c.in-ToAll.pieces _ _ (subst (λ (r : Ready). IsMade c.args.others stamp out r) c.in-ToAll.is made) c.send_all.ensures.sent

pub returns-in-ShortToAll-clause-sent : goal.returns-in-ShortToAll-clause-sent
returns-in-ShortToAll-clause-sent g c = λ stamp out made.
    short_sent c.args.others stamp out c.in-ShortToAll.bytes _ _ (subst (λ (r : Ready). IsMade c.args.others stamp out r) c.in-ShortToAll.is made) (λ at m coded. c.send_short_to_all.ensures.sent at m (subst (λ (bs : List ℕ). Coded bs at m) (sym c.deref.ensures.0) coded))

pub returns-in-ShortToOne-clause-sent : goal.returns-in-ShortToOne-clause-sent
returns-in-ShortToOne-clause-sent g c = λ stamp out made.
    one_sent c.args.others stamp out c.in-ShortToOne.entry c.in-ShortToOne.bytes _ _ (subst (λ (r : Ready). IsMade c.args.others stamp out r) c.in-ShortToOne.is made) (λ at m coded. c.hand_short.ensures.there at m (subst (λ (bs : List ℕ). Coded bs at m) (sym c.deref-in-ShortToOne.ensures.0) coded)) c.hand_short.ensures.elsewhere
