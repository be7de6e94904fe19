-- Steps of a receiver.
use Rattle.std.proofs.Common.{◌≡◌, ◌≢◌, ◌↔◌, IsTrue, ◌-◌, ◌<◌, ◌≤◌, ◌∷◌, [], ◌++◌, ℕ, Bool, true, false, List, length, take, slice_index_or, refl, arith, ap, ◌∙◌, sym, subst, length-append, Option, Some, None, is_none, nat_lt, ◌&&◌, ◌==◌, if◌then◌else◌, All, append_assoc, suc, drop}
use Rattle.std.proofs.lemmas.List.{append-nil, take-append-drop}
use Rattle.std.proofs.Math.Seq.{take-append_seam, take-length, take-suc}
use Rattle.ump_ring.specs.declared.fault.LineFault.{LineFault}
use Rattle.ump_ring.specs.declared.joiner.Joiner.{Joiner}
use mathlib.Core.List.{IsPrefix}
use Rattle.ump_ring.specs.Lines.{messages_in, stream, IsMessage}
use Rattle.ump_ring.specs.Reading.{HasRead, closed}
use Rattle.ump_ring.specs.Joiners.{AfterLines, fault_of, message_shown, shown_list}
use Rattle.ump_ring.specs.Receiving.{IsReceiving, KeepsMessage}
use Rattle.ump_ring.specs.Reading.{sound_lines}
use Rattle.ump_ring.specs.Receivers.{messages_of, kept_count}
use Rattle.ump_ring.specs.Sending.{IsSending}
use Rattle.ump_ring.proofs.Sending.{sending-along, all_of}
use Rattle.ump_ring.proofs.Following.{line-sound, messages-prefix}
use Rattle.ump_ring.proofs.Joining.{split-of, messages-read, shown-come}

pub after-lines : (j : Joiner) (lines : List (List ℕ)) → fault_of j ≡ None → IsReceiving j lines → AfterLines j lines
after-lines j lines none is = record { sound = none; read = subst (λ (f : Option LineFault). HasRead j.number j.size j.bytes.items (sound_lines f lines)) none is.read }

pub receiving-after : (j : Joiner) (lines : List (List ℕ)) → AfterLines j lines → IsReceiving j lines
receiving-after j lines is = record {
  read = subst (λ (f : Option LineFault). HasRead j.number j.size j.bytes.items (sound_lines f lines)) (sym is.sound) is.read;
  faulty = λ some. absurd (some is.sound);
}

-- without the last line
cut-last : (lines : List (List ℕ)) (line : List ℕ) → take (length (lines ++ line ∷ []) - 1) (lines ++ line ∷ []) ≡ lines
cut-last lines line =
    let e : length (lines ++ line ∷ []) - 1 ≡ length lines = omega (arith, length-append lines (line ∷ [])) in
    ap (λ n. take n (lines ++ line ∷ [])) e ∙ take-append_seam lines (line ∷ [])

none-kept : (ms : List (List ℕ)) → messages_of false ms ≡ ms
none-kept ms = let e : length ms - 0 ≡ length ms = omega arith in ap (λ n. take n ms) e ∙ take-length ms

one-kept : (ms : List (List ℕ)) (m : List ℕ) → messages_of true (ms ++ m ∷ []) ≡ ms
one-kept ms m = cut-last ms m

-- a line without a fault was read
pub receiving-line : (new : Joiner) (lines now : List (List ℕ)) (whole : Bool) → AfterLines new now → messages_in now ≡ messages_in lines ++ shown_list (message_shown new)
    → (IsTrue whole ↔ (message_shown new ≢ None))
    → IsReceiving new now × (messages_of whole (messages_in (sound_lines (fault_of new) now)) ≡ messages_of false (messages_in lines))
receiving-line new lines now whole after given is = (receiving-after new now after, ap (λ f. messages_of whole (messages_in (sound_lines f now))) after.sound ∙ ap (messages_of whole) given ∙ at whole (message_shown new) is)
  where
    at : (w : Bool) (shown : Option (List ℕ)) → (IsTrue w ↔ (shown ≢ None)) → messages_of w (messages_in lines ++ shown_list shown) ≡ messages_of false (messages_in lines)
    at true None h = absurd (h.0 refl refl)
    at true (Some m) h = one-kept (messages_in lines) m ∙ sym (none-kept (messages_in lines))
    at false None h = ap (messages_of false) (append-nil (messages_in lines))
    at false (Some m) h = absurd (no (h.1 (λ e. cc)))
      where
        no : IsTrue false → ⊥
        no e = cc

-- a line was popped and read
pub pulled : (old new : Joiner) (lines now : List (List ℕ)) (line : List ℕ) (whole kept : Bool) (taken : List (List ℕ)) → fault_of old ≡ None → IsReceiving old lines → now ≡ lines ++ line ∷ []
    → ((ls : List (List ℕ)) → AfterLines old ls → AfterLines new (ls ++ line ∷ []) × (messages_in (ls ++ line ∷ []) ≡ messages_in ls ++ shown_list (message_shown new)))
    → (IsTrue whole ↔ (message_shown new ≢ None)) → kept ≡ false → messages_of kept (messages_in (sound_lines (fault_of old) lines)) ≡ taken
    → IsReceiving new now × (messages_of whole (messages_in (sound_lines (fault_of new) now)) ≡ taken)
pulled old new lines now line whole kept taken none is are reads shows free was =
    let (after, given) = reads lines (after-lines old lines none is) in
    let (receiving, same) = receiving-line new lines (lines ++ line ∷ []) whole after given shows in (
      subst (λ (l : List (List ℕ)). IsReceiving new l) (sym are) receiving,
      ap (λ l. messages_of whole (messages_in (sound_lines (fault_of new) l))) are ∙ same
          ∙ ap (λ f. messages_of false (messages_in (sound_lines f lines))) (sym none) ∙ ap (λ k. messages_of k (messages_in (sound_lines (fault_of old) lines))) (sym free) ∙ was,
    )

split-last : (lines : List (List ℕ)) → 1 ≤ length lines → lines ≡ take (length lines - 1) lines ++ slice_index_or lines (length lines - 1) [] ∷ []
split-last lines some =
    let e : length lines ≡ suc (length lines - 1) = omega arith in
    let h : length lines - 1 < length lines = omega arith in
    sym (take-length lines) ∙ ap (λ n. take n lines) e ∙ take-suc lines (length lines - 1) [] h

-- in a thread with both ends: the receiver has no fault, and what it took begins what was offered
pub received-prefix : (message : Option (List ℕ)) (out number : ℕ) (sent : List (List ℕ)) (j : Joiner) (kept : Bool) (lines known : List (List ℕ))
    → IsSending message out number sent → IsReceiving j lines → lines ++ known ≡ sent
    → (fault_of j ≡ None) × IsPrefix (messages_of kept (messages_in (sound_lines j.fault lines))) (all_of message out sent)
received-prefix message out number sent j kept lines known sending receiving along =
    let (rest, begins, all) = sending-along message out number sent sending in
    let streamed : lines ++ (known ++ rest) ≡ stream 0 (all_of message out sent) = sym (append_assoc lines known rest) ∙ ap (λ l. l ++ rest) along ∙ begins in
    let sound : fault_of j ≡ None = by_fault j.fault refl (known ++ rest) (all_of message out sent) all streamed in
    let read : HasRead j.number j.size j.bytes.items lines = subst (λ (f : Option LineFault). HasRead j.number j.size j.bytes.items (sound_lines f lines)) sound receiving.read in
    let (os, next) = messages-prefix j.number j.size j.bytes.items lines (known ++ rest) (all_of message out sent) read all streamed in
    let ms : List (List ℕ) = messages_in lines in
    let taken : messages_of kept (messages_in (sound_lines j.fault lines)) ≡ messages_of kept ms = ap (λ f. messages_of kept (messages_in (sound_lines f lines))) sound in (
      sound,
      (
        drop (length ms - kept_count kept) ms ++ os,
        ap (λ t. t ++ (drop (length ms - kept_count kept) ms ++ os)) taken ∙ sym (append_assoc (messages_of kept ms) (drop (length ms - kept_count kept) ms) os)
            ∙ ap (λ t. t ++ os) (take-append-drop (length ms - kept_count kept) ms) ∙ sym next,
      ),
    )
  where
    by_fault : (f : Option LineFault) → j.fault ≡ f → (after all : List (List ℕ)) → All IsMessage all → lines ++ after ≡ stream 0 all → fault_of j ≡ None
    by_fault None e after all valid is = e
    by_fault (Some f) e after all valid is =
        let fails : (j.fault ≡ None) → ⊥ = λ n. cc in
        let (some, faulty) = receiving.faulty fails in
        let good : List (List ℕ) = take (length lines - 1) lines in
        let last : List ℕ = slice_index_or lines (length lines - 1) [] in
        let read : HasRead j.number j.size j.bytes.items good = subst (λ (g : Option LineFault). HasRead j.number j.size j.bytes.items (sound_lines g lines)) e receiving.read in
        let cut : good ++ last ∷ after ≡ stream 0 all =
        sym (append_assoc good (last ∷ []) after) ∙ ap (λ l. l ++ after) (sym (split-last lines some)) ∙ is in
        sym faulty ∙ line-sound j.number j.size j.bytes.items good last after all read valid cut

-- the whole message is given up
pub given-up : (j : Joiner) (lines : List (List ℕ)) → IsReceiving j lines → message_shown j ≢ None
    → messages_of false (messages_in (sound_lines j.fault lines)) ≡ messages_of true (messages_in (sound_lines j.fault lines)) ++ shown_list (message_shown j)
given-up j lines is whole = at (message_shown j) refl
  where
    by_fault : (f : Option LineFault) → j.fault ≡ f → fault_of j ≡ None
    by_fault None e = e
    by_fault (Some f) e =
        let shown : message_shown j ≡ None = ap (λ (g : Option LineFault). if is_none g && nat_lt 0 j.size && (length j.bytes.items == j.size) then Some j.bytes.items else None) e in
        absurd (whole shown)

    read : messages_in (sound_lines j.fault lines) ≡ messages_in (closed j.bytes.items (sound_lines j.fault lines)) ++ shown_list (message_shown j)
    read = messages-read j.size j.bytes.items (closed j.bytes.items (sound_lines j.fault lines)) (sound_lines j.fault lines) (split-of j.number j.size j.bytes.items (sound_lines j.fault lines) is.read)
        ∙ ap (λ t. messages_in (closed j.bytes.items (sound_lines j.fault lines)) ++ t) (sym (shown-come j (by_fault j.fault refl)))

    at : (shown : Option (List ℕ)) → message_shown j ≡ shown
        → messages_of false (messages_in (sound_lines j.fault lines)) ≡ messages_of true (messages_in (sound_lines j.fault lines)) ++ shown_list (message_shown j)
    at None e = absurd (whole e)
    at (Some m) e =
        let ms : List (List ℕ) = messages_in (closed j.bytes.items (sound_lines j.fault lines)) in
        let one : shown_list (message_shown j) ≡ m ∷ [] = ap shown_list e in
        let all : messages_in (sound_lines j.fault lines) ≡ ms ++ m ∷ [] = read ∙ ap (λ t. ms ++ t) one in
        none-kept (messages_in (sound_lines j.fault lines)) ∙ all ∙ ap (λ t. t ++ m ∷ []) (sym (one-kept ms m)) ∙ ap (λ t. messages_of true t ++ m ∷ []) (sym all)
        ∙ ap (λ t. messages_of true (messages_in (sound_lines j.fault lines)) ++ t) (sym one)

-- the messages taken and the one kept are all that came whole
pub taken-kept : (j : Joiner) (lines : List (List ℕ)) (kept : Bool) → IsReceiving j lines → KeepsMessage kept j → j.fault ≡ None
    → messages_of kept (messages_in (sound_lines j.fault lines)) ++ shown_list (if kept then message_shown j else None) ≡ messages_in lines
taken-kept j lines true is keeps e =
    sym (given-up j lines is (keeps refl)) ∙ none-kept (messages_in (sound_lines j.fault lines)) ∙ ap (λ f. messages_in (sound_lines f lines)) e
taken-kept j lines false is keeps e =
    append-nil (messages_of false (messages_in (sound_lines j.fault lines))) ∙ none-kept (messages_in (sound_lines j.fault lines)) ∙ ap (λ f. messages_in (sound_lines f lines)) e

-- where none is kept, all that came whole are taken
pub taken-all : (j : Joiner) (lines : List (List ℕ)) → j.fault ≡ None → messages_of false (messages_in (sound_lines j.fault lines)) ≡ messages_in lines
taken-all j lines e = none-kept (messages_in (sound_lines j.fault lines)) ∙ ap (λ f. messages_in (sound_lines f lines)) e
