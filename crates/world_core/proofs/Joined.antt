-- A joiner reads the lines of a message.
use Rattle.std.proofs.Common.{◌≡◌, ℕ, ◌+◌, ◌<◌, ◌≤◌, List, [], ◌∷◌, ◌++◌, length, take, drop, ap, sym, ◌∙◌, subst, arith, Option, Some, None, get_or, suc, length-append}
use Rattle.std.proofs.lemmas.List.{append-nil, get_or_append_left, take_more, take-append-le, take-append-drop}
use Rattle.std.proofs.Math.Seq.{take-append_seam, drop-cons}
use Rattle.std.proofs.lemmas.List.Elements.{All-nil, All-cons}
use Rattle.ump_ring.specs.declared.joiner.Joiner.{Joiner}
use Rattle.ump_ring.specs.Joiners.{AfterLines, message_shown, shown_list}
use Rattle.ump_ring.specs.Lines.{IsMessage, line_count, lines_below, lines_of, messages_in, stream}
use Rattle.ump_ring.specs.Reading.{line_fault}
use Rattle.ump_ring.proofs.Counts.{below-more, length-lines_below}
use Rattle.ump_ring.proofs.Following.{line-sound}
use Rattle.ump_ring.proofs.Laws.{messages-first, messages-unfinished}

-- the first lines of a message
take-below : (size : ℕ) (bytes : List ℕ) (before count place : ℕ) → place ≤ count → take place (lines_below size bytes before count) ≡ lines_below size bytes before place
take-below size bytes before count place h =
    let (rest, is) = below-more size bytes before place count h in
    let long : place ≡ length (lines_below size bytes before place) = sym (length-lines_below size bytes before place) in
    ap (take place) (sym is) ∙ ap (λ n. take n (lines_below size bytes before place ++ rest)) long ∙ take-append_seam (lines_below size bytes before place) rest

-- the next line of a message has no fault
pub next_sound : (j : Joiner) (bytes : List ℕ) (lines rest : List (List ℕ)) (place : ℕ) (line : List ℕ) → lines ≡ lines_of bytes 0 ++ rest → IsMessage bytes
    → place < line_count (length bytes) → line ≡ get_or lines place line → AfterLines j (take place lines) → line_fault j.number j.size j.bytes.items line ≡ None
next_sound j bytes lines rest place line cut is h there after =
    let own : List (List ℕ) = lines_of bytes 0 in
    let within : place < length own = omega (arith, length-lines_below (length bytes) bytes 0 (line_count (length bytes))) in
    let before : take place lines ≡ take place own = ap (take place) cut ∙ take-append-le place own rest (omega arith) in
    let line_is : line ≡ get_or own place line = there ∙ ap (λ l. get_or l place line) cut ∙ get_or_append_left own rest line place within in
    let after_line : drop place own ≡ line ∷ drop (suc place) own = drop-cons own place line within ∙ ap (λ l. l ∷ drop (suc place) own) (sym line_is) in
    let along : take place lines ++ line ∷ drop (suc place) own ≡ stream 0 (bytes ∷ []) =
    ap (λ t. t ++ line ∷ drop (suc place) own) before ∙ ap (λ t. take place own ++ t) (sym after_line) ∙ take-append-drop place own ∙ sym (append-nil own) in
    line-sound j.number j.size j.bytes.items (take place lines) line (drop (suc place) own) (bytes ∷ []) after.read (All-cons IsMessage bytes [] is (All-nil IsMessage)) along

-- what the joiner shows once it has read so many of the lines
pub record HasJoined (j : Joiner) (lines : List (List ℕ)) (place : ℕ) : Type 0 where
  pub read : AfterLines j (take place lines)
  pub shown : 0 < place → messages_in (take place lines) ≡ shown_list (message_shown j)

pub joined_next : (new : Joiner) (bytes : List ℕ) (lines rest : List (List ℕ)) (place : ℕ) (line : List ℕ) → lines ≡ lines_of bytes 0 ++ rest → IsMessage bytes
    → place < line_count (length bytes) → line ≡ get_or lines place line
    → AfterLines new (take place lines ++ line ∷ []) → messages_in (take place lines ++ line ∷ []) ≡ messages_in (take place lines) ++ shown_list (message_shown new)
    → HasJoined new lines (place + 1)
joined_next new bytes lines rest place line cut is h there after given =
    let own : List (List ℕ) = lines_of bytes 0 in
    let count : ℕ = line_count (length bytes) in
    let long : length own ≡ count = length-lines_below (length bytes) bytes 0 count in
    let within : place < length lines = omega (arith, ap length cut, length-append own rest) in
    let more : take (place + 1) lines ≡ take place lines ++ line ∷ [] = take_more lines place line within ∙ ap (λ l. take place lines ++ l ∷ []) (sym there) in
    let before : take place lines ≡ lines_below (length bytes) bytes 0 place =
    ap (take place) cut ∙ take-append-le place own rest (omega arith) ∙ take-below (length bytes) bytes 0 count place (omega arith) in
    let none : messages_in (take place lines) ≡ [] = ap messages_in before ∙ messages-unfinished (length bytes) bytes 0 place is.bytes (omega arith) in
    record {
      read = subst (AfterLines new) (sym more) after;
      shown = λ _. ap messages_in more ∙ given ∙ ap (λ t. t ++ shown_list (message_shown new)) none;
    }

-- all the lines of a message
pub joined_whole : (j : Joiner) (bytes : List ℕ) (lines rest : List (List ℕ)) (place : ℕ) → lines ≡ lines_of bytes 0 ++ rest → IsMessage bytes
    → place ≡ line_count (length bytes) → HasJoined j lines place → message_shown j ≡ Some bytes
joined_whole j bytes lines rest place cut is last joined =
    let own : List (List ℕ) = lines_of bytes 0 in
    let long : length own ≡ place = length-lines_below (length bytes) bytes 0 (line_count (length bytes)) ∙ sym last in
    let least : 1 ≤ length bytes = is.least in
    let whole : take place lines ≡ own = ap (take place) cut ∙ ap (λ n. take n (own ++ rest)) (sym long) ∙ take-append_seam own rest in
    let one : messages_in own ≡ bytes ∷ [] = ap messages_in (sym (append-nil own)) ∙ messages-first bytes 0 [] is in
    at (message_shown j) (sym (joined.shown (omega arith)) ∙ ap messages_in whole ∙ one)
  where
    at : (shown : Option (List ℕ)) → shown_list shown ≡ bytes ∷ [] → shown ≡ Some bytes
    at None e = cc
    at (Some m) e = cc
