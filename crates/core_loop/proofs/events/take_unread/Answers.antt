use Rattle.std.proofs.Common.{subst}
use Rattle.std.specs.Prelude.{Some}
use Rattle.monitor_messages.specs.declared.message.Message.TheVariants.{Vote}
use Rattle.core_steps.specs.declared.unread.Unread.{Unread}
use Rattle.core_steps.specs.OtherCoreSteps.{other_place}
use Rattle.core_steps.specs.Unread.{CannotVote}
use Rattle.core_loop.specs.declared.refusal.Refusal.{Refusal}
use Rattle.core_loop.specs.Sending.{CannotReply}
use Rattle.core_loop.proofs.Unread.{shown_carries, stops_unread, stops_elsewhere, first_voted, ballot_message, can_cast}
use Rattle.core_loop.proofs.events.take_unread.Goals as goal

pub consider_unread-requires-clause-carries : goal.consider_unread-requires-clause-carries
consider_unread-requires-clause-carries g c = shown_carries (g.L.Links.view c.args.links.now c.args.peer) c.in-Some.bytes.now c.in-Some.ensures c.requires.carries

pub returns-in-Err-Stranger-clause-why : goal.returns-in-Err-Stranger-clause-why
returns-in-Err-Stranger-clause-why g c =
    let core = c.in-OtherCore.core in
    stops_unread c.args.context.cores c.args.context.clock c.args.peer c.args.part.now core (g.L.Links.view c.args.links.now) c.in-Some.bytes.now c.in-OtherCore.is c.in-Some.ensures
    (subst (λ (u : Unread). CannotVote (other_place core) core.replica.shown core.replica.budget c.in-Some.bytes.now u) c.in-Err-Stranger.field-0-is c.in-Err-Stranger.ensures.unread)

pub returns-then-peer-ne0-clause-why : goal.returns-then-peer-ne0-clause-why
returns-then-peer-ne0-clause-why g c =
    stops_elsewhere c.args.context.cores c.args.context.clock c.args.peer c.args.part.now c.in-OtherCore.core (g.L.Links.view c.args.links.now) c.in-Some.bytes.now c.in-Ok.ballot c.in-OtherCore.is c.in-Some.ensures c.in-Ok.ensures.considers c.if-peer-ne0.true

pub cast-requires-clause-ballot : goal.cast-requires-clause-ballot
cast-requires-clause-ballot g c =
    can_cast (g.L.Links.view c.args.links.now) c.args.peer c.in-Some.bytes.now c.in-OtherCore.core c.consider_unread.new.self c.in-Ok.ballot c.if-peer-ne0.false c.consider_unread.ensures.same c.in-Some.ensures c.in-Ok.ensures.considers

pub returns-in-Err-Spent-clause-why : goal.returns-in-Err-Spent-clause-why
returns-in-Err-Spent-clause-why g c =
    let view = g.L.Links.view c.args.links.now in
    let voted = c.in-Ok.ensures.considers in
    let ballot = c.in-Ok.ballot in (
      ballot_message ballot voted.0,
      first_voted (view c.args.peer) c.in-Some.bytes.now c.in-OtherCore.core ballot c.in-Some.ensures voted,
      subst (λ (r : Refusal). CannotReply c.args.context.clock ballot.stamp (Some (Vote ballot.txn ballot.vote)) (view 0) r) c.in-Err-Spent.field-0-is c.in-Err-Spent.ensures.why,
    )
