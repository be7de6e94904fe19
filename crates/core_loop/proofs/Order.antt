-- In what order a core does its events.
use Rattle.std.proofs.Common.{◌≡◌, ◌≢◌, ◌<◌, ◌⊎◌, inl, inr, ℕ, Bool, Option, Some, None, List, [], ◌∷◌, ◌+◌, refl, sym, ap, subst, arith}
use Rattle.std.specs.Prelude.{Result, Ok, Err}
use Rattle.filter_table.specs.declared.operation.Op.{Op}
use Rattle.monitor_messages.specs.declared.message.Message.{Message}
use Rattle.monitor_messages.specs.declared.message.Message.TheVariants as message
use Rattle.monitor_messages.specs.Coding.{Coded}
use Rattle.monitor_messages.proofs.Messages.{coded_once}
use Rattle.world_events.specs.declared.event.Event.{Event}
use Rattle.world_events.specs.declared.event.Event.TheVariants.{Start, StartFor, Submit, Take, Rx}
use Rattle.world_model.proofs.Lists.{same_or_not}
use Rattle.world_histories.specs.Histories.{Stamping}
use Rattle.world_histories.specs.declared.history.Stamped.{Stamped}
use Rattle.core_links.specs.Views.{LinkView, first_of}
use Rattle.core_steps.specs.declared.other_core.OtherCore.{OtherCore}
use Rattle.core_steps.specs.OtherCoreSteps.{Considers}
use Rattle.core_loop.specs.declared.part.Part.{Part}
use Rattle.core_loop.specs.declared.part.Part.TheVariants as part
use Rattle.core_loop.specs.declared.refusal.Refusal.TheVariants as refusal
use Rattle.core_loop.specs.Carrying.{IsFirst, Quiet}
use Rattle.core_loop.specs.Outcomes.{OnEvent}
use Rattle.core_loop.specs.Turning.{ActsFirst}
use Rattle.core_loop.specs.Events.{IsAnswered, Acts}
use Rattle.core_loop.specs.Taking.{CannotTake}
use Rattle.core_loop.specs.Choosing.{ShowsNothing, MustWait, NoMessageNow, IsNextRequest, IsNext}

-- What must wait

-- a message that another core considers and will answer is one of those that are answered
considered : (short : Bool) (core : OtherCore) (m : Message) (reply : Option Message) (core' : OtherCore) → Considers short core m reply core' → reply ≢ None → IsAnswered m
considered short core (message.Prepare txn op) reply core' h some = tt
considered short core (message.Commit txn) reply core' h some = tt
considered short core (message.Abort txn) reply core' h some = tt
considered short core (message.Reply decision) None core' h some = absurd (some refl)
considered short core (message.Reply decision) (Some r) core' h some = absurd h
considered short core (message.Vote txn v) None core' h some = absurd h
considered short core (message.Vote txn v) (Some r) core' h some = absurd h
considered short core (message.Ack txn) None core' h some = absurd h
considered short core (message.Ack txn) (Some r) core' h some = absurd h
considered short core (message.Submit op) None core' h some = absurd h
considered short core (message.Submit op) (Some r) core' h some = absurd h

pub first_byte : List ℕ → ℕ
first_byte [] = 0
first_byte (b ∷ bs) = b

some_once : (a b : List ℕ) (o : Option (List ℕ)) → o ≡ Some a → o ≡ Some b → a ≡ b
some_once a b o e f = cc

-- two messages that are the first of a peer are one
first_once : (v : LinkView) (m n : Stamping) → IsFirst v m → IsFirst v n → m.message ≡ n.message
first_once v m n f g =
    let same : f.bytes ≡ g.bytes = some_once f.bytes g.bytes (first_of v.kept) f.there g.there in
    ap (λ (p : ℕ × Message). p.1) (coded_once f.bytes m.stamp n.stamp m.message n.message f.coded (subst (λ (b : List ℕ). Coded b n.stamp n.message) (sym same) g.coded))

-- a message that could not be taken since a link took none must wait
pub not_ready_waits : (cores clock peer : ℕ) (x : Part) (m : Stamping) (seen : ℕ → LinkView) → IsFirst (seen peer) m → CannotTake cores clock peer x m seen refusal.NotReady → MustWait cores x peer seen
not_ready_waits cores clock peer (part.Core0 core) m seen f c = (m, f, c)
not_ready_waits cores clock peer (part.OtherCore core) m seen f c = (c.0, λ n g. subst IsAnswered (first_once (seen peer) m n f g) c.1)

-- What comes next

-- the next request, where no message can be taken
pub request_next : (cores last : ℕ) (x : Part) (requests : List Op) (seen : ℕ → LinkView) (e : Event) → NoMessageNow cores x seen → IsNextRequest cores last x requests e → IsNext cores last x requests seen e
request_next cores last x requests seen (Start op) n r = (n, r)
request_next cores last x requests seen (StartFor core) n r = (n, r)
request_next cores last x requests seen (Submit core op) n r = (n, r)
request_next cores last (part.Core0 core) requests seen (Take to from short) n r = absurd r
request_next cores last (part.OtherCore core) requests seen (Take to from short) n r = absurd r
request_next cores last (part.Core0 core) requests seen (Rx number job packet floor) n r = absurd r
request_next cores last (part.OtherCore core) requests seen (Rx number job packet floor) n r = absurd r

-- What is seen of the links

-- a peer that shows nothing, after those before it
pub one_more : (peer : ℕ) (old new : ℕ → LinkView) → ((p : ℕ) → p < peer → ShowsNothing (old p)) → ((p : ℕ) → p ≢ peer → new p ≡ old p) → ((p : ℕ) → p < peer → ShowsNothing (new p))
one_more peer old new before same p lt = subst ShowsNothing (sym (same p (λ e. absurd (omega (arith, e, lt))))) (before p lt)

pub up_to_here : (peer : ℕ) (new : ℕ → LinkView) → ((p : ℕ) → p < peer → ShowsNothing (new p)) → ShowsNothing (new peer) → (p : ℕ) → p < peer + 1 → ShowsNothing (new p)
up_to_here peer new before here p lt = by_place (same_or_not p peer)
  where
    by_place : ((p ≡ peer) ⊎ (p ≡ peer → ⊥)) → ShowsNothing (new p)
    by_place (inl e) = subst (λ (n : ℕ). ShowsNothing (new n)) (sym e) here
    by_place (inr ne) = before p (omega (arith, ne, lt))

-- What comes after a look

pub acts_first : {E : Type 0} (number cores clock last : ℕ) (requests : List Op) (old seen new : ℕ → LinkView) (x y : Part) (r : Result (Option Stamped) E)
    → ((p : ℕ) → Quiet (old p) (seen p)) → OnEvent r (λ s. IsNext cores last x requests seen s.done.event) → OnEvent r (Acts number cores clock seen new x y) → OnEvent r (ActsFirst number cores clock last requests old new x y)
acts_first number cores clock last requests old seen new x y (Ok (Some s)) q n a = record { seen = seen; looks = q; next = n; acts = a }
acts_first number cores clock last requests old seen new x y (Ok None) q n a = tt
acts_first number cores clock last requests old seen new x y (Err e) q n a = tt
