-- Steps of a sender.
use Rattle.std.proofs.Common.{◌≡◌, ◌+◌, ◌-◌, ◌%◌, ◌<◌, ◌≤◌, ◌∷◌, [], ◌++◌, ℕ, List, length, take, refl, arith, ap, ◌∙◌, sym, subst, length-append, append_assoc, All, Option, Some, None, false}
use Rattle.std.proofs.lemmas.List.{append-nil}
use Rattle.std.proofs.Math.Seq.{take-append_seam}
use Rattle.std.proofs.lemmas.List.Elements.{All-nil, All-append, All-cons}
use Rattle.ump_ring.specs.Lines.{IsMessage, lines_below, lines_of, line_count, number_after, messages_in, stream}
use Rattle.ump_ring.specs.Sending.{IsSending, bytes_going}
use Rattle.ump_ring.specs.Offered.{settled, message_list}
use Rattle.ump_ring.proofs.Counts.{length-lines_below, below-more}
use Rattle.ump_ring.proofs.Laws.{messages-stream, lines_in, length-stream, stream-append}
use Rattle.std.specs.Option.{is_some}
use Rattle.ump_ring.specs.declared.piece.Piece.{Piece}
use Rattle.ump_ring.specs.Pieces.{going}

settled-is : (b : List ℕ) (out : ℕ) (done lines : List (List ℕ)) → lines ≡ done ++ lines_below (length b) b (length done) out → settled out lines ≡ done
settled-is b out done lines split =
    let long : length lines - out ≡ length done =
    omega (arith, ap length split, length-append done (lines_below (length b) b (length done) out), length-lines_below (length b) b (length done) out) in
    ap (λ n. take n lines) long ∙ ap (take (length done)) split ∙ take-append_seam done (lines_below (length b) b (length done) out)

sending-from : (message : Option (List ℕ)) (out number : ℕ) (done lines : List (List ℕ)) → number ≡ number_after (length lines)
    → done ≡ stream 0 (messages_in done) → All IsMessage (messages_in done)
    → lines ≡ done ++ lines_below (length (bytes_going message)) (bytes_going message) (length done) out
    → ((v : List ℕ) → message ≡ Some v → IsMessage v × (out < line_count (length v))) → (message ≡ None → out ≡ 0)
    → IsSending message out number lines
sending-from message out number done lines numbered whole messages split going idle =
    let b : List ℕ = bytes_going message in
    let same : settled out lines ≡ done = settled-is b out done lines split in
    record {
      numbered = numbered;
      whole = same ∙ whole ∙ ap (λ d. stream 0 (messages_in d)) (sym same);
      messages = subst (λ (d : List (List ℕ)). All IsMessage (messages_in d)) (sym same) messages;
      split = split ∙ ap (λ d. d ++ lines_below (length b) b (length d) out) (sym same);
      going = going;
      idle = idle;
    }

-- some lines more, not all
pub sending-more : (v : List ℕ) (out count number new : ℕ) (lines now : List (List ℕ)) → IsSending (Some v) out number lines
    → now ≡ settled out lines ++ lines_below (length v) v (length (settled out lines)) (out + count) → out + count < line_count (length v) → new ≡ number_after (length now)
    → IsSending (Some v) (out + count) new now × (messages_in (settled (out + count) now) ≡ messages_in (settled out lines))
sending-more v out count number new lines now is are fewer numbered =
    let is_message : IsMessage v = (is.going v refl).0 in (
      sending-from (Some v) (out + count) new (settled out lines) now numbered is.whole is.messages are
          (λ w e. let f : v ≡ w = cc in subst (λ (u : List ℕ). IsMessage u × (out + count < line_count (length u))) f (is_message, fewer))
          (λ e. cc),
      ap messages_in (settled-is v (out + count) (settled out lines) now are),
    )

-- all lines of the message
pub sending-whole : (v : List ℕ) (out count number new : ℕ) (lines now : List (List ℕ)) → IsSending (Some v) out number lines
    → now ≡ settled out lines ++ lines_below (length v) v (length (settled out lines)) (out + count) → out + count ≡ line_count (length v) → new ≡ number_after (length now)
    → IsSending None 0 new now × (messages_in (settled 0 now) ≡ messages_in (settled out lines) ++ v ∷ [])
sending-whole v out count number new lines now is are all numbered =
    let done : List (List ℕ) = settled out lines in
    let ms : List (List ℕ) = messages_in done in
    let b : List ℕ = v in
    let is_message : IsMessage b = (is.going v refl).0 in
    let long : length done ≡ 0 + lines_in ms = ap length is.whole ∙ length-stream 0 ms ∙ omega arith in
    let lines_are : now ≡ stream 0 ms ++ lines_of b (0 + lines_in ms) =
    are ∙ ap (λ n. done ++ lines_below (length b) b (length done) n) all ∙ ap (λ n. done ++ lines_of b n) long ∙ ap (λ d. d ++ lines_of b (0 + lines_in ms)) is.whole in
    let streamed : now ≡ stream 0 (ms ++ b ∷ []) =
    lines_are ∙ ap (λ t. stream 0 ms ++ t) (sym (append-nil (lines_of b (0 + lines_in ms)))) ∙ sym (stream-append 0 ms (b ∷ [])) in
    let valid : All IsMessage (ms ++ b ∷ []) = All-append IsMessage ms (b ∷ []) is.messages (All-cons IsMessage b [] is_message (All-nil IsMessage)) in
    let read : messages_in now ≡ ms ++ b ∷ [] =
    ap messages_in (streamed ∙ sym (append-nil (stream 0 (ms ++ b ∷ [])))) ∙ messages-stream 0 (ms ++ b ∷ []) [] valid ∙ append-nil (ms ++ b ∷ []) in
    let is_split : now ≡ now ++ [] = sym (append-nil now) in (
      sending-from None 0 new now now numbered (streamed ∙ ap (stream 0) (sym read)) (subst (λ (d : List (List ℕ)). All IsMessage d) (sym read) valid) is_split (λ w e. cc) (λ e. refl),
      ap messages_in (settled-is [] 0 now now is_split) ∙ read,
    )

abbrev pub all_of : Option (List ℕ) → ℕ → List (List ℕ) → List (List ℕ)
all_of message out lines = messages_in (settled out lines) ++ message_list message

-- what is pushed are the first lines of the messages
pub sending-along : (message : Option (List ℕ)) (out number : ℕ) (lines : List (List ℕ)) → IsSending message out number lines
    → (rest : List (List ℕ)) × (lines ++ rest ≡ stream 0 (all_of message out lines)) × All IsMessage (all_of message out lines)
sending-along None out number lines is =
    let ms : List (List ℕ) = messages_in (settled out lines) in
    let same : settled out lines ≡ lines = sym (is.split ∙ ap (λ n. settled out lines ++ lines_below 0 [] (length (settled out lines)) n) (is.idle refl) ∙ append-nil (settled out lines)) in
    let none : ms ++ [] ≡ ms = append-nil ms in
    ([], append-nil lines ∙ sym same ∙ is.whole ∙ ap (stream 0) (sym none), subst (λ (d : List (List ℕ)). All IsMessage d) (sym none) is.messages)
sending-along (Some v) out number lines is =
    let done : List (List ℕ) = settled out lines in
    let ms : List (List ℕ) = messages_in done in
    let b : List ℕ = v in
    let long : length done ≡ 0 + lines_in ms = ap length is.whole ∙ length-stream 0 ms ∙ omega arith in
    let whole : List (List ℕ) = lines_below (length b) b (length done) (line_count (length b)) in
    let begun : List (List ℕ) = lines_below (length b) b (length done) out in
    let (rest, cut) = below-more (length b) b (length done) out (line_count (length b)) (omega (arith, (is.going v refl).1)) in
    let streamed : stream 0 (ms ++ b ∷ []) ≡ done ++ whole =
    stream-append 0 ms (b ∷ []) ∙ ap (λ t. stream 0 ms ++ t) (append-nil (lines_of b (0 + lines_in ms))) ∙ ap (λ n. stream 0 ms ++ lines_of b n) (sym long) ∙ ap (λ d. d ++ whole) (sym is.whole) in (
      rest,
      ap (λ l. l ++ rest) is.split ∙ append_assoc done begun rest ∙ ap (λ t. done ++ t) cut ∙ sym streamed,
      All-append IsMessage ms (b ∷ []) is.messages (All-cons IsMessage b [] (is.going v refl).0 (All-nil IsMessage)),
    )

module _ (message : Option (List ℕ)) (v : List ℕ) (out count number : ℕ) (lines now : List (List ℕ)) (bytes : List ℕ) where
  lines-after : bytes ≡ v → IsSending (Some v) out number lines
      → ((before : List (List ℕ)) → lines ≡ before ++ lines_below (length bytes) bytes (length before) out → now ≡ before ++ lines_below (length bytes) bytes (length before) (out + count))
      → now ≡ settled out lines ++ lines_below (length v) v (length (settled out lines)) (out + count)
  lines-after same is pushed =
      pushed (settled out lines) (is.split ∙ ap (λ b. settled out lines ++ lines_below (length b) b (length (settled out lines)) out) (sym same))
      ∙ ap (λ b. settled out lines ++ lines_below (length b) b (length (settled out lines)) (out + count)) same

  -- the message went out as a whole
  pub pushed-whole : message ≡ Some v → bytes ≡ v → IsSending message out number lines
      → ((before : List (List ℕ)) → lines ≡ before ++ lines_below (length bytes) bytes (length before) out → now ≡ before ++ lines_below (length bytes) bytes (length before) (out + count))
      → length now ≡ length lines + count → out + count ≡ line_count (length v)
      → IsSending None 0 ((number + count) % 0x1_0000_0000) now × (all_of None 0 now ≡ all_of message out lines)
  pushed-whole e same is pushed long all =
      let was : IsSending (Some v) out number lines = subst (λ (m : Option (List ℕ)). IsSending m out number lines) e is in
      let n : (number + count) % 0x1_0000_0000 ≡ number_after (length now) = omega (arith, was.numbered) in
      let (sending, read) = sending-whole v out count number ((number + count) % 0x1_0000_0000) lines now was (lines-after same was pushed) all n in
      (sending, append-nil (messages_in (settled 0 now)) ∙ read ∙ ap (λ m. all_of m out lines) (sym e))

  -- some lines of the message went out, and some did not
  pub pushed-more : message ≡ Some v → bytes ≡ v → IsSending message out number lines
      → ((before : List (List ℕ)) → lines ≡ before ++ lines_below (length bytes) bytes (length before) out → now ≡ before ++ lines_below (length bytes) bytes (length before) (out + count))
      → length now ≡ length lines + count → out + count < line_count (length v)
      → IsSending message (out + count) ((number + count) % 0x1_0000_0000) now × (all_of message (out + count) now ≡ all_of message out lines)
  pushed-more e same is pushed long fewer =
      let was : IsSending (Some v) out number lines = subst (λ (m : Option (List ℕ)). IsSending m out number lines) e is in
      let n : (number + count) % 0x1_0000_0000 ≡ number_after (length now) = omega (arith, was.numbered) in
      let (sending, read) = sending-more v out count number ((number + count) % 0x1_0000_0000) lines now was (lines-after same was pushed) fewer n in (
        subst (λ (m : Option (List ℕ)). IsSending m (out + count) ((number + count) % 0x1_0000_0000) now) (sym e) sending,
        ap (λ ms. ms ++ message_list message) read,
      )

-- a message begins to go out where none does
pub begins-going : (piece : Option Piece) (m : List ℕ) (out number : ℕ) (lines : List (List ℕ)) → is_some piece ≡ false → IsMessage m
    → IsSending (going piece) out number lines → IsSending (Some m) 0 number lines
begins-going (Some piece) m out number lines none fits was = absurd cc
begins-going None m out number lines none fits was =
    let zero : out ≡ 0 = was.idle refl in
    let done : List (List ℕ) = settled out lines in
    sending-from (Some m) 0 number done lines was.numbered was.whole was.messages
    (was.split ∙ ap (λ n. done ++ lines_below 0 [] (length done) n) zero)
    (λ v is.
    let same : m ≡ v = cc in
    (rw same at fits, omega (arith, fits.least, ap length same)))
    (λ none. absurd cc)
