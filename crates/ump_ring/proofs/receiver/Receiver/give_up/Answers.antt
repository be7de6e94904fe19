use Rattle.std.proofs.Common.{◌≡◌, ◌++◌, Bool, true, false, sym, refl, None, if◌then◌else◌}
use Rattle.rtrb.specs.Ring.{received}
use Rattle.ump_ring.specs.Joiners.{message_shown, shown_list}
use Rattle.ump_ring.specs.Lines.{messages_in}
use Rattle.ump_ring.specs.Receiving.{IsReceiving, KeepsMessage}
use Rattle.ump_ring.specs.Reading.{sound_lines}
use Rattle.ump_ring.specs.Receivers.{messages_of}
use Rattle.ump_ring.specs.declared.joiner.Joiner.{Joiner}
use Rattle.std.proofs.Common.{List, ℕ}
use Rattle.std.proofs.lemmas.List.{append-nil}
use Rattle.ump_ring.proofs.Receiving.{given-up, taken-all}
use Rattle.ump_ring.proofs.receiver.Receiver.give_up.Goals as goal

by_kept : (kept : Bool) (j : Joiner) (lines : List (List ℕ)) → IsReceiving j lines → KeepsMessage kept j
    → messages_of false (messages_in (sound_lines j.fault lines)) ≡ messages_of kept (messages_in (sound_lines j.fault lines)) ++ shown_list (if kept then message_shown j else None)
by_kept true j lines is keeps = given-up j lines is (keeps refl)
by_kept false j lines is keeps = sym (append-nil (messages_of false (messages_in (sound_lines j.fault lines))))

pub returns-clause-taken : goal.returns-clause-taken
returns-clause-taken c = by_kept c.args.self.now.kept c.args.self.now.joiner (received c.args.self.now.consumer) c.args.self.now.receiving c.args.self.now.keeps

pub returns-clause-all : goal.returns-clause-all
returns-clause-all c = λ e. taken-all c.args.self.now.joiner (received c.args.self.now.consumer) e
