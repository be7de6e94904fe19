use Rattle.std.proofs.Common.{◌≡◌, ◌++◌, ◌≤◌, ap, ◌∙◌, sym, subst, List, ℕ, Bool, true, false, length, length-append, All, arith, refl, if◌then◌else◌, None}
use Rattle.std.proofs.lemmas.List.{append-nil}
use mathlib.Core.List.{IsPrefix}
use Rattle.rtrb.specs.Ring.{sent, received, known_items}
use Rattle.ump_ring.specs.declared.joiner.Joiner.{Joiner}
use Rattle.ump_ring.specs.Joiners.{message_shown, shown_list}
use Rattle.ump_ring.specs.Pieces.{going}
use Rattle.ump_ring.specs.Lines.{IsMessage, messages_in, stream}
use Rattle.ump_ring.specs.Reading.{sound_lines}
use Rattle.ump_ring.specs.Receiving.{IsReceiving, KeepsMessage}
use Rattle.ump_ring.specs.Receivers.{messages_of}
use Rattle.ump_ring.proofs.Sending.{all_of, sending-along}
use Rattle.ump_ring.proofs.Receiving.{received-prefix, given-up, taken-all}
use Rattle.ump_ring.proofs.Going.{going-fewer, none-going, same-front}
use Rattle.ump_ring.proofs.rings.beside.Goals as goal

by_kept : (kept : Bool) (j : Joiner) (lines : List (List ℕ)) → IsReceiving j lines → KeepsMessage kept j
    → messages_of false (messages_in (sound_lines j.fault lines)) ≡ messages_of kept (messages_in (sound_lines j.fault lines)) ++ shown_list (if kept then message_shown j else None)
by_kept true j lines is keeps = given-up j lines is (keeps refl)
by_kept false j lines is keeps = sym (append-nil (messages_of false (messages_in (sound_lines j.fault lines))))

-- what was received and what is known are what was sent
along : (c : goal.After-sender-1) → received c.args.receiver.now.consumer ++ known_items c.slots_beside-2.new.self ≡ sent c.args.sender.now.producer
along c =
    let same : received c.slots_beside-2.new.self ≡ received c.args.receiver.now.consumer = c.slots_beside-2.ensures.looked.1 ∙ c.slots_beside.ensures.consumer.1 in
    ap (λ l. l ++ known_items c.slots_beside-2.new.self) (sym same) ∙ (c.slots_beside-2.ensures.fifo ∙ (c.slots_beside-2.ensures.producer.1 ∙ c.slots_beside.ensures.looked.1))

same_received : (c : goal.After-sender-1) → received c.slots_beside-2.new.self ≡ received c.args.receiver.now.consumer
same_received c = c.slots_beside-2.ensures.looked.1 ∙ c.slots_beside.ensures.consumer.1

same_sent : (c : goal.After-sender-1) → sent c.slots_beside-2.new.producer ≡ sent c.args.sender.now.producer
same_sent c = c.slots_beside-2.ensures.producer.1 ∙ c.slots_beside.ensures.looked.1

prefix_at : (c : goal.After-sender-1) (kept : Bool) → IsPrefix (messages_of kept (messages_in (sound_lines c.args.receiver.now.joiner.fault (received c.slots_beside-2.new.self)))) (all_of (going c.args.sender.now.message) c.args.sender.now.out (sent c.slots_beside-2.new.producer))
prefix_at c kept =
    let s = c.args.sender.now in
    let r = c.args.receiver.now in
    let p = received-prefix (going s.message) s.out s.number (sent s.producer) r.joiner kept (received r.consumer) (known_items c.slots_beside-2.new.self) s.sending r.receiving (along c) in
    subst (λ (l : List (List ℕ)). IsPrefix (messages_of kept (messages_in (sound_lines r.joiner.fault l))) (all_of (going s.message) s.out (sent c.slots_beside-2.new.producer))) (sym (same_received c))
    (subst (λ (l : List (List ℕ)). IsPrefix (messages_of kept (messages_in (sound_lines r.joiner.fault (received r.consumer)))) (all_of (going s.message) s.out l)) (sym (same_sent c)) p.1)

pub returns-clause-sound : goal.returns-clause-sound
returns-clause-sound c =
    let s = c.args.sender.now in
    let r = c.args.receiver.now in
    let p = received-prefix (going s.message) s.out s.number (sent s.producer) r.joiner r.kept (received r.consumer) (known_items c.slots_beside-2.new.self) s.sending r.receiving (along c) in
    (p.0, p.0)

pub returns-clause-prefix : goal.returns-clause-prefix
returns-clause-prefix c = prefix_at c c.args.receiver.now.kept

pub returns-clause-kept : goal.returns-clause-kept
returns-clause-kept c =
    let r = c.args.receiver.now in
    let whole : messages_of false (messages_in (sound_lines r.joiner.fault (received c.slots_beside-2.new.self))) ≡ messages_of r.kept (messages_in (sound_lines r.joiner.fault (received c.slots_beside-2.new.self))) ++ shown_list (if r.kept then message_shown r.joiner else None) =
    by_kept r.kept r.joiner (received c.slots_beside-2.new.self) (subst (λ (l : List (List ℕ)). IsReceiving r.joiner l) (sym (same_received c)) r.receiving) r.keeps in
    subst (λ (l : List (List ℕ)). IsPrefix l (all_of (going c.args.sender.now.message) c.args.sender.now.out (sent c.slots_beside-2.new.producer))) whole (prefix_at c false)

pub returns-clause-places : goal.returns-clause-places
returns-clause-places c =
    omega (
      arith,
      c.slots_beside.ensures.value,
      c.slots_beside.ensures.all_free,
      c.slots_beside-2.ensures.producer.2,
      ap length c.slots_beside-2.ensures.producer.1,
      ap length c.slots_beside-2.ensures.looked.1,
      c.slots_beside.ensures.looked.0.1,
      c.slots_beside-2.ensures.producer.0.1,
    )

pub returns-clause-going : goal.returns-clause-going
returns-clause-going c = λ some.
    let s = c.args.sender.now in
    let r = c.args.receiver.now in
    let sound = (received-prefix (going s.message) s.out s.number (sent s.producer) r.joiner r.kept (received r.consumer) (known_items c.slots_beside-2.new.self) s.sending r.receiving (along c)).0 in
    let whole = by_kept r.kept r.joiner (received c.slots_beside-2.new.self) (subst (λ (l : List (List ℕ)). IsReceiving r.joiner l) (sym (same_received c)) r.receiving) r.keeps in
    let all = taken-all r.joiner (received c.slots_beside-2.new.self) sound in
    let fewer = going-fewer (going s.message) s.out s.number (sent s.producer) (received r.consumer) (known_items c.slots_beside-2.new.self) s.sending (along c) some in
    omega (arith, fewer, ap length whole, ap length all, ap (λ (l : List (List ℕ)). length (messages_in l)) (same_received c), ap (λ (l : List (List ℕ)). length (all_of (going s.message) s.out l)) (same_sent c))

pub returns-clause-all : goal.returns-clause-all
returns-clause-all c = λ none long.
    let s = c.args.sender.now in
    let r = c.args.receiver.now in
    let sound = (received-prefix (going s.message) s.out s.number (sent s.producer) r.joiner r.kept (received r.consumer) (known_items c.slots_beside-2.new.self) s.sending r.receiving (along c)).0 in
    let whole = by_kept r.kept r.joiner (received c.slots_beside-2.new.self) (subst (λ (l : List (List ℕ)). IsReceiving r.joiner l) (sym (same_received c)) r.receiving) r.keeps in
    let all = taken-all r.joiner (received c.slots_beside-2.new.self) sound in
    let equal : received r.consumer ≡ sent s.producer = same-front (received r.consumer) (known_items c.slots_beside-2.new.self) (sent s.producer) (along c) (ap length (sym (same_sent c)) ∙ (long ∙ ap length (same_received c))) in
    sym whole ∙ (all ∙ (ap messages_in (same_received c ∙ equal) ∙ (sym (none-going (going s.message) s.out s.number (sent s.producer) s.sending none) ∙ ap (all_of (going s.message) s.out) (sym (same_sent c)))))

pub returns-clause-within : goal.returns-clause-within
returns-clause-within c =
    let s = c.args.sender.now in
    let a = sending-along (going s.message) s.out s.number (sent s.producer) s.sending in
    subst (λ (l : List (List ℕ)). length l ≤ length (stream 0 (all_of (going s.message) s.out l))) (sym (same_sent c)) (omega (arith, ap length a.1, length-append (sent s.producer) a.0))

pub returns-clause-short : goal.returns-clause-short
returns-clause-short c =
    let s = c.args.sender.now in
    subst (λ (l : List (List ℕ)). All IsMessage (all_of (going s.message) s.out l)) (sym (same_sent c)) (sending-along (going s.message) s.out s.number (sent s.producer) s.sending).2
