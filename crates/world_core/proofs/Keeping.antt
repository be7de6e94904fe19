-- What keeps the cores as the world has them.
use Rattle.std.proofs.Common.{◌≡◌, ◌∙◌, ◌++◌, ◌∷◌, Bool, Option, Some, None, List, [], drop, refl, ap, sym}
use Rattle.std.specs.Prelude.{option_to_list}
use Rattle.filter_table.specs.declared.operation.Op.{Op}
use Rattle.filter_table.specs.Limits.{TableLimits}
use Rattle.filter_table.specs.Tables.{TableState, empty_table, table}
use Rattle.filter_table.proofs.Tables.{limits-after}
use Rattle.monitor_2pc.specs.Places.{after_commit}
use Rattle.monitor_messages.specs.declared.message.Message.{Message}
use Rattle.world_core.specs.Channels.{first_of}
use Rattle.world_events.specs.declared.event.Event.TheVariants.{Take}
use Rattle.world_events.specs.declared.event.Answer.{Answer}
use Rattle.world_model.specs.Cases.{sent_up}
use Rattle.core_steps.specs.declared.other_core.OtherCore.{OtherCore}
use Rattle.core_steps.specs.OtherCoreSteps.{IsBetweenSteps, TakesDown}
use Rattle.core_steps.proofs.Taking.{version_commit}
use Rattle.world_core.specs.declared.peer.Peer.{Peer}
use Rattle.world_core.specs.Keeping.{seen_peer, CoreIsKept, PeerTakes}

pub table_opening : (limits : TableLimits) → table limits [] 0 ≡ empty_table limits
unfolding table
table_opening limits = refl

-- a commit keeps the limits
pub limits_commit : (s s' : TableState) (committed : Option Op) → s' ≡ after_commit s committed → s'.limits ≡ s.limits
limits_commit s s' None same = ap (λ (t : TableState). t.limits) same
limits_commit s s' (Some op) same = ap (λ (t : TableState). t.limits) same ∙ limits-after s op

-- a core that has done nothing yet
pub new_kept : (limits : TableLimits) (core : OtherCore) → core.replica.shown ≡ empty_table limits → IsBetweenSteps core → CoreIsKept limits [] core
new_kept limits core shown between = record { shown = shown ∙ (rw shown (sym (table_opening limits))); between = between }

-- The oldest message

pub first_rest : (ms : List Message) (m : Message) → first_of ms ≡ Some m → (rest : List Message) × (ms ≡ m ∷ rest) × (drop 1 ms ≡ rest)
first_rest [] m e = absurd cc
first_rest (x ∷ xs) m e = let same : x ≡ m = cc in (xs, ap (λ (y : Message). y ∷ xs) same, refl)

-- a core takes it, and has sent what follows
pub peer_takes : {C Piece : Type 0} (messages : C → List Message) (short : Bool) (p p' : Peer C Piece) (m : Message) (reply : Option Message) (answer : Answer) → first_of (messages p.down) ≡ Some m → TakesDown short p.core m p'.core answer
    → ((less : Bool) → sent_up (Take 0 0 less) answer ≡ reply) → messages p'.down ≡ drop 1 (messages p.down) → messages p'.up ≡ messages p.up ++ option_to_list reply
    → PeerTakes short p.core.replica.shown (seen_peer messages p) p'.core.replica.shown (seen_peer messages p') answer
peer_takes messages short p p' m reply answer first t sent down up =
    let r = first_rest (messages p.down) m first in
    record {
      m = m;
      rest = r.0;
      oldest = r.1;
      committed = t.committed;
      here = t.here;
      same_budget = t.same_budget;
      version_next = ap (λ (s : TableState). s.version) t.shown_next ∙ version_commit p.core.replica.shown t.committed;
      table_next = t.shown_next;
      down_next = down ∙ r.2;
      up_next = up ∙ ap (λ (x : Option Message). messages p.up ++ option_to_list x) (sym (sent short));
    }
