-- The lines of messages, read back, are those messages.
use Rattle.std.proofs.Common.{◌≡◌, ℕ, zero, suc, ◌+◌, ◌-◌, ◌*◌, ◌/◌, ◌<◌, ◌≤◌, List, [], ◌∷◌, ◌++◌, length, slice_index, take, refl, ap, sym, ◌∙◌, arith, All, append_assoc, length-append, add-zero}
use Rattle.std.proofs.lemmas.Grind.{flat_map-append}
use Rattle.std.proofs.lemmas.List.{append_cancel_left, take-append-le, append-nil}
use Rattle.std.proofs.lemmas.List.Elements.{All-head, All-tail}
use Rattle.ump_ring.specs.Lines.{IsMessage, begun, head_word, line_at, lines_below, lines_of, line_count, length_of, stream, payload, payloads, messages_in, number_after}
use Rattle.ump_ring.proofs.Counts.{length-lines_below}
use Rattle.ump_ring.proofs.Windows.{window, length-window, take-window, payloads-lines_below}

-- the lines after the first
later : ℕ → List ℕ → ℕ → ℕ → List (List ℕ)
later size bytes before zero = []
later size bytes before (suc count) = later size bytes before count ++ line_at size bytes (number_after (before + suc count)) (suc count) ∷ []

lines-cons : (size : ℕ) (bytes : List ℕ) (before count : ℕ)
    → lines_below size bytes before (suc count) ≡ line_at size bytes (number_after (before + 0)) 0 ∷ later size bytes before count
unfolding later
lines-cons size bytes before zero = refl
lines-cons size bytes before (suc count) = ap (λ t. t ++ line_at size bytes (number_after (before + suc count)) (suc count) ∷ []) (lines-cons size bytes before count)

pub length_of-head : (size number : ℕ) → number < 4294967296 → head_word size number / 4294967296 ≡ size
length_of-head size number h = omega arith

pub begun-short : (size : ℕ) (bytes : List ℕ) → length bytes < size → begun size bytes ≡ []
begun-short size bytes h = grind arith

pub begun-whole : (size : ℕ) (bytes : List ℕ) → 1 ≤ size → size ≤ length bytes → begun size bytes ≡ take size bytes ∷ []
begun-whole size bytes h k = grind arith

messages-none : (line : List ℕ) (lines : List (List ℕ)) → length_of line ≡ 0 → messages_in (line ∷ lines) ≡ messages_in lines
messages-none line lines h = ap (λ n. begun n (payloads (line ∷ lines)) ++ messages_in lines) h

length_of-first : (size : ℕ) (bytes : List ℕ) (count : ℕ) → length_of (line_at size bytes (number_after count) 0) ≡ size
length_of-first size bytes count = omega arith

length_of-later : (size : ℕ) (bytes : List ℕ) (count place : ℕ) → length_of (line_at size bytes (number_after count) (suc place)) ≡ 0
length_of-later size bytes count place = grind arith

-- lines that state no length begin no message
messages-later : (size : ℕ) (bytes : List ℕ) (before count : ℕ) (rest : List (List ℕ)) → messages_in (later size bytes before count ++ rest) ≡ messages_in rest
unfolding later
messages-later size bytes before zero rest = refl
messages-later size bytes before (suc count) rest =
    let line = line_at size bytes (number_after (before + suc count)) (suc count) in
    ap messages_in (append_assoc (later size bytes before count) (line ∷ []) rest)
    ∙ messages-later size bytes before count (line ∷ rest)
    ∙ messages-none line rest (length_of-later size bytes (before + suc count) count)

-- where a message begins
messages-begun : (size : ℕ) (bytes : List ℕ) (before count : ℕ) (rest : List (List ℕ))
    → messages_in (lines_below size bytes before (suc count) ++ rest) ≡ begun size (payloads (lines_below size bytes before (suc count) ++ rest)) ++ messages_in rest
messages-begun size bytes before count rest =
    let first = line_at size bytes (number_after (before + 0)) 0 in
    let all : lines_below size bytes before (suc count) ++ rest ≡ first ∷ later size bytes before count ++ rest = ap (λ t. t ++ rest) (lines-cons size bytes before count) in
    ap messages_in all
    ∙ ap (λ n. begun n (payloads (first ∷ later size bytes before count ++ rest)) ++ messages_in (later size bytes before count ++ rest)) (length_of-first size bytes (before + 0))
    ∙ ap (λ t. begun size (payloads t) ++ messages_in (later size bytes before count ++ rest)) (sym all)
    ∙ ap (λ t. begun size (payloads (lines_below size bytes before (suc count) ++ rest)) ++ t) (messages-later size bytes before count rest)

-- a whole message is read first
pub messages-first : (m : List ℕ) (before : ℕ) (rest : List (List ℕ)) → IsMessage m → messages_in (lines_of m before ++ rest) ≡ m ∷ messages_in rest
messages-first m before rest is =
    let size : ℕ = length m in
    let count : ℕ = line_count size - 1 in
    let least : 1 ≤ size = is.least in
    let more : suc count ≡ line_count size = omega arith in
    let held : payloads (lines_of m before ++ rest) ≡ window m 0 0 (56 * line_count size) ++ payloads rest =
    flat_map-append payload (lines_of m before) rest ∙ ap (λ t. t ++ payloads rest) (payloads-lines_below size m before (line_count size) is.bytes) in
    let long : size ≤ length (window m 0 0 (56 * line_count size)) = omega (arith, length-window m 0 0 (56 * line_count size)) in
    let enough : size ≤ length (payloads (lines_of m before ++ rest)) =
    omega (arith, ap length held, length-append (window m 0 0 (56 * line_count size)) (payloads rest)) in
    let within : size ≤ 56 * line_count size = omega arith in
    let cut : take size (payloads (lines_of m before ++ rest)) ≡ m =
    ap (take size) held ∙ take-append-le size (window m 0 0 (56 * line_count size)) (payloads rest) long ∙ take-window m (56 * line_count size) within in
    ap (λ k. messages_in (lines_below size m before k ++ rest)) (sym more)
    ∙ messages-begun size m before count rest
    ∙ ap (λ k. begun size (payloads (lines_below size m before k ++ rest)) ++ messages_in rest) more
    ∙ ap (λ t. t ++ messages_in rest) (begun-whole size (payloads (lines_of m before ++ rest)) least enough)
    ∙ ap (λ t. t ∷ messages_in rest) cut

-- an unfinished one is not read
pub messages-unfinished : (size : ℕ) (bytes : List ℕ) (before count : ℕ) → ((k : ℕ) → slice_index bytes k < 256) → 56 * count < size
    → messages_in (lines_below size bytes before count) ≡ []
messages-unfinished size bytes before zero fit h = refl
messages-unfinished size bytes before (suc count) fit h =
    let lines = lines_below size bytes before (suc count) in
    let none : lines ++ [] ≡ lines = append-nil lines in
    let short : length (payloads lines) < size =
    omega (arith, ap length (payloads-lines_below size bytes before (suc count) fit), length-window bytes 0 0 (56 * suc count)) in
    ap messages_in (sym none) ∙ messages-begun size bytes before count []
    ∙ ap (λ t. begun size (payloads t) ++ []) none
    ∙ ap (λ t. t ++ []) (begun-short size (payloads lines) short)

-- the lines of messages, and what follows them, are read as these messages and what follows
pub messages-stream : (before : ℕ) (ms rest : List (List ℕ)) → All IsMessage ms → messages_in (stream before ms ++ rest) ≡ ms ++ messages_in rest
messages-stream before [] rest all = refl
messages-stream before (m ∷ ms) rest all =
    let further = stream (before + line_count (length m)) ms in
    ap messages_in (append_assoc (lines_of m before) further rest)
    ∙ messages-first m before (further ++ rest) (All-head IsMessage m ms all)
    ∙ ap (λ t. m ∷ t) (messages-stream (before + line_count (length m)) ms rest (All-tail IsMessage m ms all))

-- how many lines messages have
abbrev pub lines_in : List (List ℕ) → ℕ
lines_in [] = 0
lines_in (m ∷ ms) = line_count (length m) + lines_in ms

pub length-stream : (before : ℕ) (ms : List (List ℕ)) → length (stream before ms) ≡ lines_in ms
length-stream before [] = refl
length-stream before (m ∷ ms) =
    omega (
      arith,
      length-append (lines_of m before) (stream (before + line_count (length m)) ms),
      length-lines_below (length m) m before (line_count (length m)),
      length-stream (before + line_count (length m)) ms,
    )

pub stream-append : (before : ℕ) (ms ns : List (List ℕ)) → stream before (ms ++ ns) ≡ stream before ms ++ stream (before + lines_in ms) ns
stream-append before [] ns = ap (λ n. stream n ns) (sym (add-zero before))
stream-append before (m ∷ ms) ns =
    let e : before + line_count (length m) + lines_in ms ≡ before + (line_count (length m) + lines_in ms) = omega arith in
    ap (λ t. lines_of m before ++ t) (stream-append (before + line_count (length m)) ms ns ∙ ap (λ n. stream (before + line_count (length m)) ms ++ stream n ns) e)
    ∙ sym (append_assoc (lines_of m before) (stream (before + line_count (length m)) ms) (stream (before + (line_count (length m) + lines_in ms)) ns))

-- a stream that begins with the lines of messages is one of these messages and others
pub stream-aligned : (before : ℕ) (ms : List (List ℕ)) (rest : List (List ℕ)) (ns : List (List ℕ)) → All IsMessage ms → All IsMessage ns
    → stream before ms ++ rest ≡ stream before ns
    → (os : List (List ℕ)) × (ns ≡ ms ++ os) × (rest ≡ stream (before + lines_in ms) os) × All IsMessage os
stream-aligned before [] rest ns all alls is = (ns, refl, is ∙ ap (λ n. stream n ns) (sym (add-zero before)), alls)
stream-aligned before (m ∷ ms) rest [] all alls is =
    let least : 1 ≤ length m = (All-head IsMessage m ms all).least in
    absurd (omega (
      arith,
      ap length is,
      length-append (stream before (m ∷ ms)) rest,
      length-append (lines_of m before) (stream (before + line_count (length m)) ms),
      length-lines_below (length m) m before (line_count (length m)),
    ))
stream-aligned before (m ∷ ms) rest (n ∷ ns) all alls is =
    let is_m : IsMessage m = All-head IsMessage m ms all in
    let is_n : IsMessage n = All-head IsMessage n ns alls in
    let further = stream (before + line_count (length m)) ms in
    let split : lines_of m before ++ (further ++ rest) ≡ lines_of n before ++ stream (before + line_count (length n)) ns =
    sym (append_assoc (lines_of m before) further rest) ∙ is in
    let read : m ∷ messages_in (further ++ rest) ≡ n ∷ messages_in (stream (before + line_count (length n)) ns) =
    sym (messages-first m before (further ++ rest) is_m) ∙ ap messages_in split ∙ messages-first n before (stream (before + line_count (length n)) ns) is_n in
    let same : m ≡ n = cc in
    let cut : further ++ rest ≡ stream (before + line_count (length m)) ns =
    append_cancel_left (lines_of m before) (further ++ rest) (stream (before + line_count (length m)) ns)
    (split ∙ ap (λ k. lines_of k before ++ stream (before + line_count (length k)) ns) (sym same)) in
    let (os, next, left, alls_os) = stream-aligned (before + line_count (length m)) ms rest ns (All-tail IsMessage m ms all) (All-tail IsMessage n ns alls) cut in
    let e : before + line_count (length m) + lines_in ms ≡ before + (line_count (length m) + lines_in ms) = omega arith in
    (os, ap (λ t. t ∷ ns) (sym same) ∙ ap (λ t. m ∷ t) next, left ∙ ap (λ k. stream k os) e, alls_os)
