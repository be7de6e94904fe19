-- One line more, read without a fault.
use Rattle.std.proofs.Common.{◌≡◌, ℕ, ◌+◌, ◌-◌, ◌*◌, ◌^◌, ◌<◌, ◌≤◌, ◌==◌, nat_lt, nat_le, ◌&&◌, if◌then◌else◌, Bool, List, [], ◌∷◌, ◌++◌, length, slice_index, take, drop, refl, ap, sym, ◌∙◌, subst, arith, All, length-append, min, true, false, None, Some, Option}
use Rattle.std.specs.List.{list_all}
use Rattle.std.proofs.lemmas.List.{append-nil, length-take}
use Rattle.std.proofs.Math.Seq.{take-append_seam}
use Rattle.std.proofs.lemmas.List.Elements.{All-nil, All-append, All-cons}
use Rattle.ump_ring.specs.declared.fault.LineFault.{LineFault}
use Rattle.ump_ring.specs.declared.fault.LineFault.TheVariants.{OutOfSequence, BadLength}
use Rattle.ump_ring.specs.declared.joiner.Joiner.{Joiner}
use Rattle.ump_ring.specs.Joiners.{AfterLines, IsJoined, message_shown, shown_list, fault_of}
use Rattle.ump_ring.specs.Lines.{IsMessage, line_at, lines_below, lines_of, line_count, length_of, number_of, stream, payload, messages_in, number_after}
use Rattle.ump_ring.specs.Reading.{HasRead, closed, line_fault, is_open, room_for, size_with, bytes_with}
use Rattle.ump_ring.proofs.Counts.{length-lines_below, number_next, lines_more}
use Rattle.ump_ring.proofs.Fits.{fit-bytes_with}
use Rattle.ump_ring.proofs.Windows.{window}
use Rattle.ump_ring.proofs.Laws.{messages-stream, messages-first, messages-unfinished, lines_in, length-stream, stream-append}
use Rattle.ump_ring.proofs.Extents.{lines_below-more, payload-window, length-payload}
use Rattle.ump_ring.proofs.Reading.{line_at-from}

-- the message begun last, if all its bytes have come
abbrev pub come : ℕ → List ℕ → List (List ℕ)
come size bytes = if nat_lt 0 size && (length bytes == size) then bytes ∷ [] else []

-- what stands for lines that were read, apart from the number
pub record IsSplit (size : ℕ) (bytes : List ℕ) (done : List (List ℕ)) (lines : List (List ℕ)) : Type 0 where
  pub whole : done ≡ stream 0 (messages_in done)
  pub messages : All IsMessage (messages_in done)
  pub split : lines ≡ done ++ lines_below size bytes (length done) (line_count (length bytes))
  pub most : size ≤ 32832
  pub filled : length bytes ≤ size
  pub rows : length bytes < size → (1 ≤ length bytes) × (56 * line_count (length bytes) ≡ length bytes)
  pub bytes_fit : (k : ℕ) → slice_index bytes k < 256

closed-is : (bytes : List ℕ) (size : ℕ) (done lines : List (List ℕ)) → lines ≡ done ++ lines_below size bytes (length done) (line_count (length bytes)) → closed bytes lines ≡ done
closed-is bytes size done lines split =
    let long : length lines - line_count (length bytes) ≡ length done =
    omega (arith, ap length split, length-append done (lines_below size bytes (length done) (line_count (length bytes))), length-lines_below size bytes (length done) (line_count (length bytes))) in
    ap (λ n. take n lines) long ∙ ap (take (length done)) split ∙ take-append_seam done (lines_below size bytes (length done) (line_count (length bytes)))

read-from : (number size : ℕ) (bytes : List ℕ) (done lines : List (List ℕ)) → number ≡ number_after (length lines) → IsSplit size bytes done lines → HasRead number size bytes lines
read-from number size bytes done lines numbered is =
    let same : closed bytes lines ≡ done = closed-is bytes size done lines is.split in
    record {
      numbered = numbered;
      whole = same ∙ is.whole ∙ ap (λ d. stream 0 (messages_in d)) (sym same);
      messages = subst (λ (d : List (List ℕ)). All IsMessage (messages_in d)) (sym same) is.messages;
      split = is.split ∙ ap (λ d. d ++ lines_below size bytes (length d) (line_count (length bytes))) (sym same);
      most = is.most;
      filled = is.filled;
      rows = is.rows;
      bytes_fit = is.bytes_fit;
    }

pub split-of : (number size : ℕ) (bytes : List ℕ) (lines : List (List ℕ)) → HasRead number size bytes lines → IsSplit size bytes (closed bytes lines) lines
split-of number size bytes lines is = record { whole = is.whole; messages = is.messages; split = is.split; most = is.most; filled = is.filled; rows = is.rows; bytes_fit = is.bytes_fit }

-- the messages of the lines read: those that are closed, and the one begun last where it is whole
pub messages-read : (size : ℕ) (bytes : List ℕ) (done lines : List (List ℕ)) → IsSplit size bytes done lines → messages_in lines ≡ messages_in done ++ come size bytes
messages-read size bytes done lines is =
    let ms : List (List ℕ) = messages_in done in
    let last : List (List ℕ) = lines_below size bytes (length done) (line_count (length bytes)) in
    let filled : length bytes ≤ size = is.filled in
    ap messages_in (is.split ∙ ap (λ d. d ++ last) is.whole)
    ∙ messages-stream 0 ms last is.messages
    ∙ ap (λ t. ms ++ t) (by_size (nat_lt (length bytes) size) (nat_lt 0 size) refl refl)
  where
    by_size : (o p : Bool) → nat_lt (length bytes) size ≡ o → nat_lt 0 size ≡ p → messages_in (lines_below size bytes (length done) (line_count (length bytes))) ≡ come size bytes
    by_size true p e f =
        let unfinished : length bytes < size = grind arith in
        let row : 56 * line_count (length bytes) < size = omega (arith, (is.rows unfinished).1) in
        let none : come size bytes ≡ [] = grind arith in
        messages-unfinished size bytes (length done) (line_count (length bytes)) is.bytes_fit row ∙ sym none
    by_size false false e f =
        let empty : size ≡ 0 = grind arith in
        let long : length bytes ≡ 0 = omega (arith, is.filled) in
        let none : come size bytes ≡ [] = grind arith in
        let count : line_count (length bytes) ≡ 0 = omega arith in
        ap (λ k. messages_in (lines_below size bytes (length done) k)) count ∙ sym none
    by_size false true e f =
        let full : size ≡ length bytes = grind (arith, is.filled) in
        let some : 1 ≤ size = grind arith in
        let one : come size bytes ≡ bytes ∷ [] = grind arith in
        let is_message : IsMessage bytes = record { least = omega arith; most = omega (arith, is.most); bytes = is.bytes_fit } in
        ap (λ n. messages_in (lines_below n bytes (length done) (line_count (length bytes)))) full
        ∙ ap messages_in (sym (append-nil (lines_of bytes (length done))))
        ∙ messages-first bytes (length done) [] is_message ∙ sym one

-- once it is whole, all the lines are those of whole messages
pub all-closed : (size : ℕ) (bytes : List ℕ) (done lines : List (List ℕ)) → IsSplit size bytes done lines → size ≤ length bytes
    → (lines ≡ stream 0 (messages_in lines)) × All IsMessage (messages_in lines)
all-closed size bytes done lines is whole = by_size (nat_lt 0 size) refl
  where
    by_size : (p : Bool) → nat_lt 0 size ≡ p → (lines ≡ stream 0 (messages_in lines)) × All IsMessage (messages_in lines)
    by_size false f =
        let empty : size ≡ 0 = grind arith in
        let long : length bytes ≡ 0 = omega (arith, is.filled) in
        let count : line_count (length bytes) ≡ 0 = omega arith in
        let same : lines ≡ done = is.split ∙ ap (λ k. done ++ lines_below size bytes (length done) k) count ∙ append-nil done in
        (same ∙ is.whole ∙ ap (λ d. stream 0 (messages_in d)) (sym same), subst (λ (d : List (List ℕ)). All IsMessage (messages_in d)) (sym same) is.messages)
    by_size true f =
        let ms : List (List ℕ) = messages_in done in
        let full : size ≡ length bytes = omega (arith, is.filled) in
        let some : 1 ≤ size = grind arith in
        let one : come size bytes ≡ bytes ∷ [] = grind arith in
        let is_message : IsMessage bytes = record { least = omega arith; most = omega (arith, is.most); bytes = is.bytes_fit } in
        let read : messages_in lines ≡ ms ++ bytes ∷ [] = messages-read size bytes done lines is ∙ ap (λ t. ms ++ t) one in
        let long : length done ≡ 0 + lines_in ms = ap length is.whole ∙ length-stream 0 ms ∙ omega arith in
        let lines_are : lines ≡ stream 0 ms ++ lines_of bytes (0 + lines_in ms) =
        is.split ∙ ap (λ n. done ++ lines_below n bytes (length done) (line_count (length bytes))) full ∙ ap (λ n. done ++ lines_of bytes n) long
        ∙ ap (λ d. d ++ lines_of bytes (0 + lines_in ms)) is.whole in
        let streamed : lines ≡ stream 0 (ms ++ bytes ∷ []) =
        lines_are ∙ ap (λ t. stream 0 ms ++ t) (sym (append-nil (lines_of bytes (0 + lines_in ms)))) ∙ sym (stream-append 0 ms (bytes ∷ [])) in (
          streamed ∙ ap (stream 0) (sym read),
          subst (λ (d : List (List ℕ)). All IsMessage d) (sym read) (All-append IsMessage ms (bytes ∷ []) is.messages (All-cons IsMessage bytes [] is_message (All-nil IsMessage))),
        )

head-later : (size : ℕ) (bytes : List ℕ) (number place : ℕ) → 1 ≤ place → (0 * 0x1_0000_0000 + number) ∷ drop 1 (line_at 0 bytes number place) ≡ line_at size bytes number place
head-later size bytes number place h =
    let none : (place == 0) ≡ false = grind arith in
    ap (λ (b : Bool). ((if b then size else 0) * 0x1_0000_0000 + number) ∷ drop 1 (line_at 0 bytes number place)) (sym none)

-- what a line without a fault says
pub record IsSound (number size : ℕ) (bytes line : List ℕ) : Type 0 where
  pub numbered : number_of line ≡ number
  pub sized : (if is_open size bytes then length_of line == 0 else nat_le 1 (length_of line) && nat_le (length_of line) 32832) ≡ true
  pub zeros : list_all (λ b. b == 0) (drop (room_for size bytes line) (payload line)) ≡ true

pub sound-from : (number size : ℕ) (bytes line : List ℕ) → line_fault number size bytes line ≡ None → IsSound number size bytes line
sound-from number size bytes line h =
    let (p, q, r) = by_tests (number_of line == number) (if is_open size bytes then length_of line == 0 else nat_le 1 (length_of line) && nat_le (length_of line) 32832)
    (list_all (λ b. b == 0) (drop (room_for size bytes line) (payload line))) h in
    record { numbered = grind (arith, p); sized = q; zeros = r }
  where
    by_tests : (p q r : Bool) → (let t : Option LineFault = if p then (if q && r then None else Some BadLength) else Some OutOfSequence in t ≡ None) → (p ≡ true) × (q ≡ true) × (r ≡ true)
    by_tests true true true e = (refl, refl, refl)
    by_tests true true false e = cc
    by_tests true false r e = cc
    by_tests false q r e = cc

-- the bytes that a line adds
pub length-taken : (room : ℕ) (line : List ℕ) → length line ≡ 8 → length (take room (payload line)) ≡ min room 56
length-taken room line eight = length-take room (payload line) ∙ ap (min room) (length-payload line eight)

joined-open : (number size : ℕ) (bytes : List ℕ) (done lines : List (List ℕ)) (line : List ℕ) → length line ≡ 8 → ((k : ℕ) → slice_index line k < 2 ^ 64)
    → number ≡ number_after (length lines) → IsSplit size bytes done lines → length bytes < size → number_of line ≡ number → length_of line ≡ 0
    → list_all (λ b. b == 0) (drop (size - length bytes) (payload line)) ≡ true
    → ((k : ℕ) → slice_index (bytes ++ take (size - length bytes) (payload line)) k < 256)
    → IsSplit size (bytes ++ take (size - length bytes) (payload line)) done (lines ++ line ∷ [])
joined-open number size bytes done lines line eight fits numbered is unfinished right none zeros fit =
    let now : List ℕ = bytes ++ take (size - length bytes) (payload line) in
    let count : ℕ = line_count (length bytes) in
    let row : 56 * count ≡ length bytes = (is.rows unfinished).1 in
    let begun : 1 ≤ length bytes = (is.rows unfinished).0 in
    let long : length now ≡ length bytes + min (size - length bytes) 56 = omega (arith, length-append bytes (take (size - length bytes) (payload line)), length-taken (size - length bytes) line eight) in
    let more : line_count (length now) ≡ count + 1 = omega arith in
    let held : payload line ≡ window now (56 * count) 0 56 = payload-window line bytes (size - length bytes) count eight (sym row) zeros in
    let is_line : line ≡ line_at size now number count =
    line_at-from line now number count 0 eight fits right none held ∙ head-later size now number count (omega arith) in
    let before : lines ≡ done ++ lines_below size now (length done) count =
    is.split ∙ ap (λ t. done ++ t) (sym (lines_below-more size bytes (take (size - length bytes) (payload line)) (length done) count (omega arith))) in
    record {
      whole = is.whole;
      messages = is.messages;
      most = is.most;
      bytes_fit = fit;
      split = ap (λ l. lines ++ l ∷ []) is_line ∙ lines_more lines done size now count number before numbered ∙ ap (λ k. done ++ lines_below size now (length done) k) (sym more);
      filled = omega arith;
      rows = λ h. (omega arith, omega arith);
    }

joined-first : (number size : ℕ) (bytes : List ℕ) (done lines : List (List ℕ)) (line : List ℕ) → length line ≡ 8 → ((k : ℕ) → slice_index line k < 2 ^ 64)
    → number ≡ number_after (length lines) → IsSplit size bytes done lines → size ≤ length bytes → number_of line ≡ number → 1 ≤ length_of line → length_of line ≤ 32832
    → list_all (λ b. b == 0) (drop (length_of line) (payload line)) ≡ true
    → ((k : ℕ) → slice_index (take (length_of line) (payload line)) k < 256)
    → IsSplit (length_of line) (take (length_of line) (payload line)) lines (lines ++ line ∷ [])
joined-first number size bytes done lines line eight fits numbered is full right least most zeros fit =
    let stated : ℕ = length_of line in
    let now : List ℕ = take stated (payload line) in
    let (streamed, all) = all-closed size bytes done lines is full in
    let long : length now ≡ min stated 56 = length-taken stated line eight in
    let more : line_count (length now) ≡ 0 + 1 = omega arith in
    let held : payload line ≡ window now (56 * 0) 0 56 = payload-window line [] stated 0 eight refl zeros in
    let is_line : line ≡ line_at stated now number 0 = line_at-from line now number 0 stated eight fits right refl held in
    record {
      whole = streamed;
      messages = all;
      most = most;
      bytes_fit = fit;
      split = ap (λ l. lines ++ l ∷ []) is_line ∙ lines_more lines lines stated now 0 number (sym (append-nil lines)) numbered ∙ ap (λ k. lines ++ lines_below stated now (length lines) k) (sym more);
      filled = omega arith;
      rows = λ h. (omega arith, omega arith);
    }

-- one line more was read, and the message begun last is given where this line made it whole
pub line-read : (number size : ℕ) (bytes : List ℕ) (lines : List (List ℕ)) (line : List ℕ) → length line ≡ 8 → ((k : ℕ) → slice_index line k < 2 ^ 64)
    → HasRead number size bytes lines → line_fault number size bytes line ≡ None
    → HasRead (number_after (number + 1)) (size_with size bytes line) (bytes_with size bytes line) (lines ++ line ∷ [])
    × (messages_in (lines ++ line ∷ []) ≡ messages_in lines ++ come (size_with size bytes line) (bytes_with size bytes line))
line-read number size bytes lines line eight fits is none =
    by_open (is_open size bytes) refl (fit-bytes_with size bytes line is.bytes_fit) (sound-from number size bytes line none).sized (sound-from number size bytes line none).zeros
  where
    next : number_after (number + 1) ≡ number_after (length (lines ++ line ∷ []))
    next = ap (λ n. number_after (n + 1)) is.numbered ∙ number_next (length lines) ∙ ap number_after (let e : length lines + 1 ≡ length (lines ++ line ∷ []) = omega (arith, length-append lines (line ∷ [])) in e)

    by_open : (o : Bool) → is_open size bytes ≡ o
        → ((k : ℕ) → slice_index ((if o then bytes else []) ++ take (if o then size - length bytes else length_of line) (payload line)) k < 256)
        → (if o then length_of line == 0 else nat_le 1 (length_of line) && nat_le (length_of line) 32832) ≡ true
        → list_all (λ b. b == 0) (drop (if o then size - length bytes else length_of line) (payload line)) ≡ true
        → HasRead (number_after (number + 1)) (if o then size else length_of line) ((if o then bytes else []) ++ take (if o then size - length bytes else length_of line) (payload line)) (lines ++ line ∷ [])
        × (messages_in (lines ++ line ∷ []) ≡ messages_in lines ++ come (if o then size else length_of line) ((if o then bytes else []) ++ take (if o then size - length bytes else length_of line) (payload line)))
    by_open true e fit sized zeros =
        let done : List (List ℕ) = closed bytes lines in
        let now : List ℕ = bytes ++ take (size - length bytes) (payload line) in
        let unfinished : length bytes < size = grind arith in
        let none_stated : length_of line ≡ 0 = grind arith in
        let was : IsSplit size bytes done lines = split-of number size bytes lines is in
        let more : IsSplit size now done (lines ++ line ∷ []) =
        joined-open number size bytes done lines line eight fits is.numbered was unfinished (sound-from number size bytes line none).numbered none_stated zeros fit in
        let empty : come size bytes ≡ [] = grind arith in
        let before : messages_in lines ≡ messages_in done = messages-read size bytes done lines was ∙ ap (λ t. messages_in done ++ t) empty ∙ append-nil (messages_in done) in (
          read-from (number_after (number + 1)) size now done (lines ++ line ∷ []) next more,
          messages-read size now done (lines ++ line ∷ []) more ∙ ap (λ t. t ++ come size now) (sym before),
        )
    by_open false e fit sized zeros =
        let now : List ℕ = take (length_of line) (payload line) in
        let full : size ≤ length bytes = grind arith in
        let least : 1 ≤ length_of line = grind arith in
        let most : length_of line ≤ 32832 = grind arith in
        let more : IsSplit (length_of line) now lines (lines ++ line ∷ []) =
        joined-first number size bytes (closed bytes lines) lines line eight fits is.numbered (split-of number size bytes lines is) full (sound-from number size bytes line none).numbered least most zeros fit in (
          read-from (number_after (number + 1)) (length_of line) now lines (lines ++ line ∷ []) next more,
          messages-read (length_of line) now lines (lines ++ line ∷ []) more,
        )

pub shown-come : (j : Joiner) → fault_of j ≡ None → shown_list (message_shown j) ≡ come j.size j.bytes.items
shown-come j sound = at (nat_lt 0 j.size && (length j.bytes.items == j.size)) ∙ refl
  where
    whole : Bool
    whole = nat_lt 0 j.size && (length j.bytes.items == j.size)

    at : (b : Bool) → shown_list (message_shown j) ≡ come j.size j.bytes.items
    at b = grind (arith, sound)

-- a joiner that has read a line more
pub after-line : (old new : Joiner) (line : List ℕ) (lines : List (List ℕ)) → length line ≡ 8 → ((k : ℕ) → slice_index line k < 2 ^ 64)
    → line_fault old.number old.size old.bytes.items line ≡ None → IsJoined old new line → AfterLines old lines
    → AfterLines new (lines ++ line ∷ []) × (messages_in (lines ++ line ∷ []) ≡ messages_in lines ++ shown_list (message_shown new))
after-line old new line lines eight fits none joined after =
    let (read, given) = line-read old.number old.size old.bytes.items lines line eight fits after.read none in
    let size : size_with old.size old.bytes.items line ≡ new.size = sym joined.size in
    let bytes : bytes_with old.size old.bytes.items line ≡ new.bytes.items = sym joined.bytes in
    let number : number_after (old.number + 1) ≡ new.number = sym joined.number in (
      record {
        sound = joined.sound;
        read = subst (λ (n : ℕ). HasRead n new.size new.bytes.items (lines ++ line ∷ [])) number
            (subst (λ (b : List ℕ). HasRead (number_after (old.number + 1)) new.size b (lines ++ line ∷ [])) bytes
            (subst (λ (s : ℕ). HasRead (number_after (old.number + 1)) s (bytes_with old.size old.bytes.items line) (lines ++ line ∷ [])) size read));
      },
      given ∙ ap (λ s. messages_in lines ++ come s (bytes_with old.size old.bytes.items line)) size ∙ ap (λ b. messages_in lines ++ come new.size b) bytes
          ∙ ap (λ t. messages_in lines ++ t) (sym (shown-come new joined.sound)),
    )
