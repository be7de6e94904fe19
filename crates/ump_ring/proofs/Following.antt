-- The lines of messages have no fault, and those read are the first of them.
use Rattle.std.proofs.Common.{◌≡◌, ℕ, zero, suc, ◌+◌, ◌-◌, ◌*◌, ◌%◌, ◌<◌, ◌≤◌, ◌==◌, nat_lt, nat_le, ◌&&◌, if◌then◌else◌, Bool, List, [], ◌∷◌, ◌++◌, length, get_or, drop, refl, ap, sym, ◌∙◌, arith, All, append_assoc, length-append, true, false, None, Some, Option}
use Rattle.std.specs.List.{list_all}
use Rattle.std.proofs.lemmas.List.{append-nil, get_or_append_left}
use Rattle.std.proofs.Math.Seq.{get_or-append_seam}
use Rattle.std.proofs.lemmas.List.Elements.{All-head}
use Rattle.ump_ring.specs.declared.fault.LineFault.{LineFault}
use Rattle.ump_ring.specs.declared.fault.LineFault.TheVariants.{OutOfSequence, BadLength}
use Rattle.ump_ring.specs.Lines.{IsMessage, head_word, line_at, lines_below, lines_of, line_count, length_of, number_of, stream, payload, messages_in, number_after}
use Rattle.ump_ring.specs.Reading.{HasRead, closed, line_fault, is_open, room_for}
use Rattle.ump_ring.proofs.Counts.{length-lines_below}
use Rattle.ump_ring.proofs.Windows.{window, length-window, get_or-window, payload-line_at}
use Rattle.ump_ring.proofs.Extents.{zeros-from, get_or-dropped}
use Rattle.ump_ring.proofs.Laws.{lines_in, length-stream, stream-aligned}
use Rattle.ump_ring.proofs.Joining.{IsSplit, split-of, all-closed, messages-read, come}

get_or_past : (xs : List ℕ) (i : ℕ) → length xs ≤ i → get_or xs i 0 ≡ 0
get_or_past [] i h = refl
get_or_past (x ∷ xs) zero h = absurd (omega arith)
get_or_past (x ∷ xs) (suc i) h = get_or_past xs i (omega arith)

-- past the message's end a line has zeros
padded : (o : List ℕ) (place room : ℕ) → length o ≤ 56 * place + room → list_all (λ b. b == 0) (drop room (window o (56 * place) 0 56)) ≡ true
padded o place room h = zeros-from (drop room (window o (56 * place) 0 56)) (λ i. get_or-dropped room (window o (56 * place) 0 56) i ∙ at i (nat_lt (room + i) 56) refl)
  where
    at : (i : ℕ) (b : Bool) → nat_lt (room + i) 56 ≡ b → get_or (window o (56 * place) 0 56) (room + i) 0 ≡ 0
    at i true e =
        let within : room + i < 56 = grind arith in
        get_or-window o (56 * place) 0 56 (room + i) within ∙ get_or_past o (56 * place + 0 + (room + i)) (omega arith)
    at i false e =
        let past : 56 ≤ room + i = grind arith in
        get_or_past (window o (56 * place) 0 56) (room + i) (omega (arith, length-window o (56 * place) 0 56))

get-lines_below : (size : ℕ) (bytes : List ℕ) (before count i : ℕ) (d : List ℕ) → i < count → get_or (lines_below size bytes before count) i d ≡ line_at size bytes (number_after (before + i)) i
get-lines_below size bytes before zero i d h = absurd (omega arith)
get-lines_below size bytes before (suc count) i d h = at (nat_lt i count) refl (get-lines_below size bytes before count i d)
  where
    at : (b : Bool) → nat_lt i count ≡ b → (i < count → get_or (lines_below size bytes before count) i d ≡ line_at size bytes (number_after (before + i)) i)
        → get_or (lines_below size bytes before count ++ line_at size bytes (number_after (before + count)) count ∷ []) i d ≡ line_at size bytes (number_after (before + i)) i
    at true e below =
        let within : i < count = grind arith in
        let short : i < length (lines_below size bytes before count) = omega (arith, length-lines_below size bytes before count) in
        get_or_append_left (lines_below size bytes before count) (line_at size bytes (number_after (before + count)) count ∷ []) d i short ∙ below within
    at false e below =
        let same : i ≡ count = grind arith in
        let long : i ≡ length (lines_below size bytes before count) = omega (arith, length-lines_below size bytes before count) in
        ap (λ n. get_or (lines_below size bytes before count ++ line_at size bytes (number_after (before + count)) count ∷ []) n d) long
        ∙ get_or-append_seam (lines_below size bytes before count) (line_at size bytes (number_after (before + count)) count) [] d
        ∙ ap (λ n. line_at size bytes (number_after (before + n)) n) (sym same)

-- the line that follows in a stream is the next one of its message
next-line : (o : List ℕ) (n : ℕ) (line : List ℕ) (before rest more : List (List ℕ)) → before ++ line ∷ rest ≡ lines_of o n ++ more → length before < line_count (length o)
    → line ≡ line_at (length o) o (number_after (n + length before)) (length before)
next-line o n line before rest more is h =
    let within : length before < length (lines_of o n) = omega (arith, length-lines_below (length o) o n (line_count (length o))) in
    sym (get_or-append_seam before line rest []) ∙ ap (λ l. get_or l (length before) []) is
    ∙ get_or_append_left (lines_of o n) more [] (length before) within ∙ get-lines_below (length o) o n (line_count (length o)) (length before) [] h

-- the words of such a line
head-number : (stated count : ℕ) → head_word stated (number_after count) % 4294967296 ≡ number_after count
head-number stated count = omega arith

fault-none : (number size : ℕ) (bytes line : List ℕ) → number_of line ≡ number
    → (if is_open size bytes then length_of line == 0 else nat_le 1 (length_of line) && nat_le (length_of line) 32832) ≡ true
    → list_all (λ b. b == 0) (drop (room_for size bytes line) (payload line)) ≡ true → line_fault number size bytes line ≡ None
fault-none number size bytes line n s z =
    by_tests (number_of line == number) (if is_open size bytes then length_of line == 0 else nat_le 1 (length_of line) && nat_le (length_of line) 32832)
    (list_all (λ b. b == 0) (drop (room_for size bytes line) (payload line))) (grind arith) s z
  where
    by_tests : (p q r : Bool) → p ≡ true → q ≡ true → r ≡ true → (let t : Option LineFault = if p then (if q && r then None else Some BadLength) else Some OutOfSequence in t ≡ None)
    by_tests true true true e f g = refl
    by_tests true true false e f g = cc
    by_tests true false r e f g = cc
    by_tests false q r e f g = cc

length_of-line : (size : ℕ) (bytes : List ℕ) (count place : ℕ) → length_of (line_at size bytes (number_after count) place) ≡ (if place == 0 then size else 0)
length_of-line size bytes count place = grind arith

number_of-line : (size : ℕ) (bytes : List ℕ) (count place : ℕ) → number_of (line_at size bytes (number_after count) place) ≡ number_after count
number_of-line size bytes count place = head-number (if place == 0 then size else 0) count

-- a first line of a message has no fault
first-none : (number size : ℕ) (bytes o : List ℕ) (n : ℕ) → IsMessage o → size ≤ length bytes → number ≡ number_after n → line_fault number size bytes (line_at (length o) o (number_after n) 0) ≡ None
first-none number size bytes o n is full numbered =
    let line : List ℕ = line_at (length o) o (number_after n) 0 in
    let stated : length_of line ≡ length o = length_of-line (length o) o n 0 in
    let shut : is_open size bytes ≡ false = grind arith in
    let least : 1 ≤ length o = is.least in
    let most : length o ≤ 32832 = is.most in
    let sized : (nat_le 1 (length_of line) && nat_le (length_of line) 32832) ≡ true = ap (λ k. nat_le 1 k && nat_le k 32832) stated ∙ grind arith in
    let zeros : list_all (λ b. b == 0) (drop (length_of line) (payload line)) ≡ true =
    ap (λ k. list_all (λ b. b == 0) (drop k (payload line))) stated ∙ ap (λ t. list_all (λ b. b == 0) (drop (length o) t)) (payload-line_at (length o) o (number_after n) 0 is.bytes)
    ∙ padded o 0 (length o) (omega arith) in
    fault-none number size bytes line (number_of-line (length o) o n 0 ∙ sym numbered)
    (ap (λ (b : Bool). if b then length_of line == 0 else nat_le 1 (length_of line) && nat_le (length_of line) 32832) shut ∙ sized)
    (ap (λ (b : Bool). list_all (λ x. x == 0) (drop (if b then size - length bytes else length_of line) (payload line))) shut ∙ zeros)

-- and so has a later one
later-none : (number size : ℕ) (bytes o : List ℕ) (n place : ℕ) → IsMessage o → length bytes < size → size ≡ length o → 1 ≤ place → 56 * place ≡ length bytes → number ≡ number_after n
    → line_fault number size bytes (line_at (length o) o (number_after n) place) ≡ None
later-none number size bytes o n place is unfinished same first row numbered =
    let line : List ℕ = line_at (length o) o (number_after n) place in
    let not_first : (place == 0) ≡ false = grind arith in
    let stated : length_of line ≡ 0 = length_of-line (length o) o n place ∙ ap (λ (b : Bool). if b then length o else 0) not_first in
    let opened : is_open size bytes ≡ true = grind arith in
    let zeros : list_all (λ b. b == 0) (drop (size - length bytes) (payload line)) ≡ true =
    ap (λ t. list_all (λ b. b == 0) (drop (size - length bytes) t)) (payload-line_at (length o) o (number_after n) place is.bytes)
    ∙ padded o place (size - length bytes) (omega arith) in
    fault-none number size bytes line (number_of-line (length o) o n place ∙ sym numbered)
    (ap (λ (b : Bool). if b then length_of line == 0 else nat_le 1 (length_of line) && nat_le (length_of line) 32832) opened ∙ ap (λ k. k == 0) stated)
    (ap (λ (b : Bool). list_all (λ x. x == 0) (drop (if b then size - length bytes else length_of line) (payload line))) opened ∙ zeros)

-- the messages of the lines read are the first of those of the stream
pub messages-prefix : (number size : ℕ) (bytes : List ℕ) (lines rest ms : List (List ℕ)) → HasRead number size bytes lines → All IsMessage ms
    → lines ++ rest ≡ stream 0 ms → (os : List (List ℕ)) × (ms ≡ messages_in lines ++ os)
messages-prefix number size bytes lines rest ms is all along = by_open (nat_lt (length bytes) size) refl
  where
    by_open : (o : Bool) → nat_lt (length bytes) size ≡ o → (os : List (List ℕ)) × (ms ≡ messages_in lines ++ os)
    by_open true e =
        let done : List (List ℕ) = closed bytes lines in
        let was : IsSplit size bytes done lines = split-of number size bytes lines is in
        let last : List (List ℕ) = lines_below size bytes (length done) (line_count (length bytes)) in
        let empty : come size bytes ≡ [] = grind arith in
        let read : messages_in lines ≡ messages_in done = messages-read size bytes done lines was ∙ ap (λ t. messages_in done ++ t) empty ∙ append-nil (messages_in done) in
        let begins : stream 0 (messages_in done) ++ (last ++ rest) ≡ stream 0 ms =
        sym (append_assoc (stream 0 (messages_in done)) last rest) ∙ ap (λ d. (d ++ last) ++ rest) (sym is.whole) ∙ ap (λ t. t ++ rest) (sym is.split) ∙ along in
        let (os, next, left, alls) = stream-aligned 0 (messages_in done) (last ++ rest) ms is.messages all begins in
        (os, next ∙ ap (λ t. t ++ os) (sym read))
    by_open false e =
        let full : size ≤ length bytes = grind arith in
        let (streamed, alls_in) = all-closed size bytes (closed bytes lines) lines (split-of number size bytes lines is) full in
        let (os, next, left, alls) = stream-aligned 0 (messages_in lines) rest ms alls_in all (ap (λ t. t ++ rest) (sym streamed) ∙ along) in
        (os, next)

-- the next line of a stream of messages has no fault
pub line-sound : (number size : ℕ) (bytes : List ℕ) (lines : List (List ℕ)) (line : List ℕ) (rest ms : List (List ℕ)) → HasRead number size bytes lines → All IsMessage ms
    → lines ++ line ∷ rest ≡ stream 0 ms → line_fault number size bytes line ≡ None
line-sound number size bytes lines line rest ms is all along = by_open (nat_lt (length bytes) size) refl
  where
    closed_case : size ≤ length bytes → (os : List (List ℕ)) → line ∷ rest ≡ stream (0 + lines_in (messages_in lines)) os → All IsMessage os → lines ≡ stream 0 (messages_in lines) → line_fault number size bytes line ≡ None
    closed_case full [] left alls streamed = cc
    closed_case full (o ∷ os) left alls streamed =
        let is_o : IsMessage o = All-head IsMessage o os alls in
        let n : ℕ = 0 + lines_in (messages_in lines) in
        let least : 1 ≤ length o = is_o.least in
        let some : 0 < line_count (length o) = omega arith in
        let it : line ≡ line_at (length o) o (number_after (n + 0)) 0 = next-line o n line [] rest (stream (n + line_count (length o)) os) left some in
        let long : length lines ≡ n + 0 = ap length streamed ∙ length-stream 0 (messages_in lines) ∙ omega arith in
        ap (line_fault number size bytes) it ∙ first-none number size bytes o (n + 0) is_o full (is.numbered ∙ ap number_after long)

    open_case : length bytes < size → (os : List (List ℕ))
        → lines_below size bytes (length (closed bytes lines)) (line_count (length bytes)) ++ line ∷ rest ≡ stream (0 + lines_in (messages_in (closed bytes lines))) os → All IsMessage os → line_fault number size bytes line ≡ None
    open_case unfinished [] left alls =
        absurd (omega (arith, ap length left, length-append (lines_below size bytes (length (closed bytes lines)) (line_count (length bytes))) (line ∷ rest)))
    open_case unfinished (o ∷ os) left alls =
        let is_o : IsMessage o = All-head IsMessage o os alls in
        let done : List (List ℕ) = closed bytes lines in
        let count : ℕ = line_count (length bytes) in
        let last : List (List ℕ) = lines_below size bytes (length done) count in
        let n : ℕ = 0 + lines_in (messages_in done) in
        let at : length done ≡ n = ap length is.whole ∙ length-stream 0 (messages_in done) ∙ omega arith in
        let least : 1 ≤ length o = is_o.least in
        let some : 0 < line_count (length o) = omega arith in
        let begun : 1 ≤ length bytes = (is.rows unfinished).0 in
        let row : 56 * count ≡ length bytes = (is.rows unfinished).1 in
        let counted : length last ≡ count = length-lines_below size bytes (length done) count in
        let first : 0 < length last = omega arith in
        let head : line_at size bytes (number_after (length done + 0)) 0 ≡ line_at (length o) o (number_after (n + 0)) 0 =
        sym (get-lines_below size bytes (length done) count 0 [] (omega arith)) ∙ sym (get_or_append_left last (line ∷ rest) [] 0 first) ∙ ap (λ l. get_or l 0 []) left
        ∙ get_or_append_left (lines_of o n) (stream (n + line_count (length o)) os) [] 0 (omega (arith, length-lines_below (length o) o n (line_count (length o))))
        ∙ get-lines_below (length o) o n (line_count (length o)) 0 [] some in
        let same : size ≡ length o = sym (length_of-line size bytes (length done + 0) 0) ∙ ap length_of head ∙ length_of-line (length o) o (n + 0) 0 in
        let within : length last < line_count (length o) = omega arith in
        let it : line ≡ line_at (length o) o (number_after (n + length last)) (length last) = next-line o n line last rest (stream (n + line_count (length o)) os) left within in
        let long : length lines ≡ n + length last = omega (arith, ap length is.split, length-append done last, at) in
        let row_last : 56 * length last ≡ length bytes = omega arith in
        ap (line_fault number size bytes) it ∙ later-none number size bytes o (n + length last) (length last) is_o unfinished same first row_last (is.numbered ∙ ap number_after long)

    by_open : (o : Bool) → nat_lt (length bytes) size ≡ o → line_fault number size bytes line ≡ None
    by_open true e =
        let done : List (List ℕ) = closed bytes lines in
        let last : List (List ℕ) = lines_below size bytes (length done) (line_count (length bytes)) in
        let unfinished : length bytes < size = grind arith in
        let begins : stream 0 (messages_in done) ++ (last ++ line ∷ rest) ≡ stream 0 ms =
        sym (append_assoc (stream 0 (messages_in done)) last (line ∷ rest)) ∙ ap (λ d. (d ++ last) ++ line ∷ rest) (sym is.whole) ∙ ap (λ t. t ++ line ∷ rest) (sym is.split) ∙ along in
        let (os, next, left, alls) = stream-aligned 0 (messages_in done) (last ++ line ∷ rest) ms is.messages all begins in
        open_case unfinished os left alls
    by_open false e =
        let full : size ≤ length bytes = grind arith in
        let (streamed, alls_in) = all-closed size bytes (closed bytes lines) lines (split-of number size bytes lines is) full in
        let (os, next, left, alls) = stream-aligned 0 (messages_in lines) (line ∷ rest) ms alls_in all (ap (λ t. t ++ line ∷ rest) (sym streamed) ∙ along) in
        closed_case full os left alls streamed
