-- A message that is going out was not received.
use Rattle.std.proofs.Common.{◌≡◌, ◌≢◌, ◌*◌, ◌<◌, ◌≤◌, ◌⊎◌, inl, inr, ℕ, zero, suc, Option, Some, None, List, [], ◌∷◌, ◌++◌, length, refl, ap, sym, ◌∙◌, arith, length-append}
use Rattle.std.proofs.lemmas.List.{append-nil}
use Rattle.std.proofs.lemmas.Grind.{flat_map-append}
use Rattle.ump_ring.specs.Lines.{payload, payloads, begun, messages_in, length_of, lines_below}
use Rattle.ump_ring.specs.Offered.{settled}
use Rattle.ump_ring.specs.Sending.{IsSending}
use Rattle.ump_ring.proofs.Laws.{messages-stream, messages-unfinished, begun-whole, begun-short}
use Rattle.ump_ring.proofs.Sending.{all_of}

less_or_not : (m n : ℕ) → (m ≤ n) ⊎ (n < m)
less_or_not zero n = inl (omega arith)
less_or_not (suc m) zero = inr (omega arith)
less_or_not (suc m) (suc n) = shift (less_or_not m n)
  where
    shift : ((m ≤ n) ⊎ (n < m)) → (suc m ≤ suc n) ⊎ (suc n < suc m)
    shift (inl le) = inl (omega (arith, le))
    shift (inr lt) = inr (omega (arith, lt))

begun-longer : (size : ℕ) (a b : List ℕ) → length a ≤ length b → length (begun size a) ≤ length (begun size b)
begun-longer zero a b le = omega arith
begun-longer (suc size) a b le = by_length (less_or_not (suc size) (length a))
  where
    by_length : ((suc size ≤ length a) ⊎ (length a < suc size)) → length (begun (suc size) a) ≤ length (begun (suc size) b)
    by_length (inl whole) = omega (arith, ap length (begun-whole (suc size) a (omega arith) whole), ap length (begun-whole (suc size) b (omega arith) (omega (arith, whole, le))))
    by_length (inr short) = omega (arith, ap length (begun-short (suc size) a short))

-- more lines are those of no fewer messages
count-longer : (xs ys : List (List ℕ)) → length (messages_in xs) ≤ length (messages_in (xs ++ ys))
count-longer [] ys = omega arith
count-longer (line ∷ xs) ys =
    let long : length (payloads (line ∷ xs)) ≤ length (payloads (line ∷ (xs ++ ys))) = omega (arith, ap length (flat_map-append payload (line ∷ xs) ys), length-append (payloads (line ∷ xs)) (payloads ys)) in
    omega (
      arith,
      count-longer xs ys,
      begun-longer (length_of line) (payloads (line ∷ xs)) (payloads (line ∷ (xs ++ ys))) long,
      length-append (begun (length_of line) (payloads (line ∷ xs))) (messages_in xs),
      length-append (begun (length_of line) (payloads (line ∷ (xs ++ ys)))) (messages_in (xs ++ ys)),
    )

-- the lines that are out are those of the messages that are out as a whole
out-messages : (v : List ℕ) (out number : ℕ) (lines : List (List ℕ)) → IsSending (Some v) out number lines → messages_in lines ≡ messages_in (settled out lines)
out-messages v out number lines is =
    let ms : List (List ℕ) = messages_in (settled out lines) in
    let begins : List (List ℕ) = lines_below (length v) v (length (settled out lines)) out in
    let g = is.going v refl in
    let short : 56 * out < length v = omega (arith, g.1) in
    ap messages_in (is.split ∙ ap (λ l. l ++ begins) is.whole)
    ∙ (messages-stream 0 ms begins is.messages
    ∙ (ap (λ l. ms ++ l) (messages-unfinished (length v) v (length (settled out lines)) out g.0.bytes short) ∙ append-nil ms))

pub going-fewer : (message : Option (List ℕ)) (out number : ℕ) (sent lines known : List (List ℕ)) → IsSending message out number sent → lines ++ known ≡ sent → message ≢ None → length (messages_in lines) < length (all_of message out sent)
going-fewer None out number sent lines known is along some = absurd (some refl)
going-fewer (Some v) out number sent lines known is along some =
    omega (arith, count-longer lines known, ap (λ (l : List (List ℕ)). length (messages_in l)) along, ap length (out-messages v out number sent is), length-append (messages_in (settled out sent)) (v ∷ []))

-- where nothing is going out the lines that are out are those of all messages
pub none-going : (message : Option (List ℕ)) (out number : ℕ) (sent : List (List ℕ)) → IsSending message out number sent → message ≡ None → all_of message out sent ≡ messages_in sent
none-going None out number sent is none =
    let same : settled out sent ≡ sent = sym (is.split ∙ ap (λ n. settled out sent ++ lines_below 0 [] (length (settled out sent)) n) (is.idle refl) ∙ append-nil (settled out sent)) in
    append-nil (messages_in (settled out sent)) ∙ ap messages_in same
none-going (Some v) out number sent is none = absurd cc

-- a front that is as long is the whole
pub same-front : (xs known ys : List (List ℕ)) → xs ++ known ≡ ys → length ys ≡ length xs → xs ≡ ys
same-front xs [] ys e long = sym (append-nil xs) ∙ e
same-front xs (k ∷ known) ys e long = absurd (omega (arith, ap length e, length-append xs (k ∷ known), long))
