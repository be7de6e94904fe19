-- What one task does at its core.
use Rattle.std.proofs.Common.{◌≡◌, ◌+◌, ◌++◌, ◌∙◌, ℕ, Bool, false, Option, List, [], ◌∷◌, refl, sym, ap, subst, append_assoc, rules}
use Rattle.std.specs.Prelude.{option_to_list}
use Rattle.std.proofs.lemmas.List.{append-nil, map-append}
use Rattle.pcap_reader.specs.declared.capture.CapturedPacket.{CapturedPacket}
use Rattle.filter_table.specs.declared.operation.Op.{Op}
use Rattle.filter_table.specs.declared.decision.Decision.{Decision}
use Rattle.filter_table.specs.declared.delivery.Kept.{Kept}
use Rattle.world_events.specs.declared.event.Event.TheVariants.{Rx}
use Rattle.world_events.specs.declared.event.Answer.TheVariants.{Delivered}
use Rattle.world_events.specs.declared.event.Done.{Done}
use Rattle.world_histories.specs.declared.history.Stamped.{Stamped}
use Rattle.world_histories.specs.Histories.{unstamped}
use Rattle.rx_queue.specs.declared.intake.Intake.{Intake}
use Rattle.rx_queue.specs.Queue.{SameIntake}
use Rattle.core_links.specs.RingSlots.{SameLinks, ring_view}
use Rattle.core_links.specs.RingLaws.{SameLinks-itself, SameLinks-along}
use Rattle.core_loop.specs.declared.cause.Turn.{Turn}
use Rattle.core_loop.specs.declared.cause.Turn.TheVariants as turn
use Rattle.core_loop.specs.Cores.{SameCore, NothingDone, DidOne, begun}
use Rattle.core_loop.specs.Answering.{decisions}
use Rattle.core_loop.specs.Receiving.{HasReceived, receipt, version_now}
use Rattle.core_loop.proofs.Resting.{begun_more}
use Rattle.core_loop.proofs.Answering.{more_from}
use Rattle.core_machine.specs.Machines.{RingCore}
use Rattle.core_machine.proofs.Along.{intake_itself, same_itself, same_along}
use Rattle.core_machine.specs.declared.step.Task.TheVariants as task
use Rattle.core_machine.specs.declared.step.StepOutcome.TheVariants as outcome
use Rattle.core_machine.specs.Steps.{did, decided}
use Rattle.core_machine.specs.Driving.{CoreDrives}

-- no step of its own
pub drives_none : (c : RingCore) → CoreDrives [] [] [] c c
drives_none c = record {
  same = same_itself c;
  history = sym (append-nil (unstamped c.history));
  requests_are = sym (append-nil (begun c.history ++ c.pending));
  decisions_are = sym (append-nil (decisions c.history));
}

pub drives_along : (events events' : List Done) (ops ops' : List Op) (told told' : List Decision) (a b c : RingCore) → CoreDrives events ops told a b → CoreDrives events' ops' told' b c
    → CoreDrives (events ++ events') (ops ++ ops') (told ++ told') a c
drives_along events events' ops ops' told told' a b c h k = record {
  same = same_along a b c h.same k.same;
  history = k.history ∙ ap (λ (l : List Done). l ++ events') h.history ∙ append_assoc (unstamped a.history) events events';
  requests_are = k.requests_are ∙ ap (λ (l : List Op). l ++ ops') h.requests_are ∙ append_assoc (begun a.history ++ a.pending) ops ops';
  decisions_are = k.decisions_are ∙ ap (λ (l : List Decision). l ++ told') h.decisions_are ∙ append_assoc (decisions a.history) told told';
}

-- A turn

rests : (old new : RingCore) → SameCore SameLinks old new → NothingDone ring_view old new → CoreDrives [] [] [] old new
rests old new same n = record {
  same = same;
  history = ap unstamped n.history ∙ sym (append-nil (unstamped old.history));
  requests_are = ap (λ (h : List Stamped). begun h ++ new.pending) n.history ∙ ap (λ (p : List Op). begun old.history ++ p) n.pending ∙ sym (append-nil (begun old.history ++ old.pending));
  decisions_are = ap decisions n.history ∙ sym (append-nil (decisions old.history));
}

pub turned : (core : ℕ) (rx : Bool) (t : Turn) (old new : RingCore) → SameCore SameLinks old new → begun new.history ++ new.pending ≡ begun old.history ++ old.pending
    → ((s : Stamped) (d : Option Decision) → t ≡ turn.Did s d → DidOne ring_view old new s)
    → ((s : Stamped) (d : Option Decision) → t ≡ turn.Did s d → decisions new.history ≡ decisions old.history ++ option_to_list d)
    → (((s : Stamped) (d : Option Decision) → t ≡ turn.Did s d → ⊥) → NothingDone ring_view old new)
    → CoreDrives (did core (task.Turn rx) (outcome.Turned t)) [] (decided (outcome.Turned t)) old new
turned core rx (turn.Did s d) old new same requests one decision none = record {
  same = same;
  history = ap unstamped (one s d refl).history ∙ map-append (λ (x : Stamped). x.done) old.history (s ∷ []);
  requests_are = requests ∙ sym (append-nil (begun old.history ++ old.pending));
  decisions_are = decision s d refl;
}
turned core rx turn.Idle old new same requests one decision none = rests old new same (none (λ s d is. cc))
turned core rx (turn.Stopped cause) old new same requests one decision none = rests old new same (none (λ s d is. cc))
turned core rx turn.Spent old new same requests one decision none = rests old new same (none (λ s d is. cc))
turned core rx turn.NoMemory old new same requests one decision none = rests old new same (none (λ s d is. cc))

-- A request

pub asked_one : (op : Op) (old new : RingCore) → new ≡ record old { pending = old.pending ++ op ∷ [] } → CoreDrives [] (op ∷ []) [] old new
asked_one op old new is = subst (λ (c : RingCore). CoreDrives [] (op ∷ []) [] old c) (sym is) (record {
  same = record { number = refl; cores = refl; limits = refl; budget = refl; links = SameLinks-itself old.links; intake = intake_itself old.intake };
  history = sym (append-nil (unstamped old.history));
  requests_are = sym (append_assoc (begun old.history) old.pending (op ∷ []));
  decisions_are = sym (append-nil (decisions old.history));
})

-- A packet

pub received : (packet : CapturedPacket) (kept : List Kept) (version : ℕ) (old new : RingCore) → HasReceived old new packet.bytes packet.original kept → version ≡ version_now old
    → CoreDrives (record { event = Rx old.number 0 packet 0; answer = Delivered version kept } ∷ []) [] [] old new
received packet kept version old new h at =
    let s : Stamped = receipt old.number (old.clock + 1) (version_now old) packet.bytes packet.original kept in
    rw at (subst (λ (c : RingCore). CoreDrives (s.done ∷ []) [] [] old c) (sym h.new_is) (record {
      same = record { number = refl; cores = refl; limits = refl; budget = refl; links = SameLinks-itself old.links; intake = intake_itself old.intake };
      history = map-append (λ (x : Stamped). x.done) old.history (s ∷ []);
      requests_are = begun_more old.history (old.history ++ s ∷ []) s old.pending old.pending refl refl ∙ sym (append-nil (begun old.history ++ old.pending));
      decisions_are = more_from false old.history s;
    }))
