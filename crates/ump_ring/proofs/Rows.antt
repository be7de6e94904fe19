-- Lines of a message that isn't whole: each but the last is full, so there are not many.
use Rattle.std.proofs.Common.{◌≡◌, ◌≢◌, ◌↔◌, IsTrue, ℕ, zero, suc, ◌-◌, ◌+◌, ◌*◌, ◌<◌, ◌≤◌, ◌==◌, ◌&&◌, nat_lt, nat_le, min, if◌then◌else◌, Bool, true, false, List, ◌++◌, length, take, Option, Some, None, refl, sym, ◌∙◌, subst, arith, length-append}
use Rattle.std.proofs.lemmas.Bool.Decides.{nat_tests}
use Rattle.ump_ring.specs.declared.joiner.Joiner.{Joiner}
use Rattle.ump_ring.specs.Lines.{length_of, payload}
use Rattle.ump_ring.specs.Reading.{line_fault, is_open, size_with, bytes_with}
use Rattle.ump_ring.specs.Joiners.{IsJoined, fault_of, message_shown}
use Rattle.ump_ring.proofs.Joining.{length-taken, sound-from}

-- a message that was begun and isn't shown has bytes to come
unfinished : (j : Joiner) → fault_of j ≡ None → message_shown j ≡ None → 0 < j.size → length j.bytes.items ≤ j.size → length j.bytes.items < j.size
unfinished j sound none begun filled = by_test (length j.bytes.items == j.size) refl
  where
    is_begun : nat_lt 0 j.size ≡ true
    is_begun = grind (arith, nat_tests)

    by_test : (b : Bool) → (length j.bytes.items == j.size) ≡ b → length j.bytes.items < j.size
    by_test true e = absurd (let some : message_shown j ≡ Some j.bytes.items = rw (sound, is_begun, e) refl in cc)
    by_test false e = grind (arith, nat_tests, filled, e)

-- how many bytes have come with the line, where the message isn't whole with it
row_size : (size : ℕ) (bytes line : List ℕ) (k : ℕ) → length line ≡ 8
    → (if is_open size bytes then length_of line == 0 else nat_le 1 (length_of line) && nat_le (length_of line) 32832) ≡ true
    → (1 ≤ k → (56 * k ≤ length bytes) × (length bytes < size))
    → (length (bytes_with size bytes line) < size_with size bytes line → 56 * (k + 1) ≤ length (bytes_with size bytes line)) × (0 < size_with size bytes line)
row_size size bytes line k eight sized many = by_open (is_open size bytes) refl sized
  where
    by_open : (o : Bool) → is_open size bytes ≡ o → (if o then length_of line == 0 else nat_le 1 (length_of line) && nat_le (length_of line) 32832) ≡ true
        → (length (bytes_with size bytes line) < size_with size bytes line → 56 * (k + 1) ≤ length (bytes_with size bytes line)) × (0 < size_with size bytes line)
    by_open true o s =
        let more : length bytes < size = grind (arith, nat_tests, o) in
        let had : 56 * k ≤ length bytes = by_count k many in
        let long : length (bytes ++ take (size - length bytes) (payload line)) ≡ length bytes + min (size - length bytes) 56 =
        omega (arith, length-append bytes (take (size - length bytes) (payload line)), length-taken (size - length bytes) line eight) in
        rw o ((λ h. omega (arith, h, had, long)), omega arith)
      where
        by_count : (k : ℕ) → (1 ≤ k → (56 * k ≤ length bytes) × (length bytes < size)) → 56 * k ≤ length bytes
        by_count zero m = omega arith
        by_count (suc n) m = (m (omega arith)).0
    by_open false o s =
        let least : 1 ≤ length_of line = grind (arith, nat_tests, s) in
        let whole : size ≤ length bytes = grind (arith, nat_tests, o) in
        let none : k ≡ 0 = by_count k whole many in
        let long : length (take (length_of line) (payload line)) ≡ min (length_of line) 56 = length-taken (length_of line) line eight in
        rw o ((λ h. omega (arith, h, long, none)), least)
      where
        by_count : (k : ℕ) → size ≤ length bytes → (1 ≤ k → (56 * k ≤ length bytes) × (length bytes < size)) → k ≡ 0
        by_count zero le m = refl
        by_count (suc n) le m = absurd (omega (arith, (m (omega arith)).1))

-- one line more, with which the message isn't whole
pub row_more : (old new : Joiner) (line : List ℕ) (k : ℕ) (whole : Bool) → length line ≡ 8 → fault_of old ≡ None → (fault_of old ≡ None → fault_of new ≡ line_fault old.number old.size old.bytes.items line)
    → IsJoined old new line → (IsTrue whole ↔ (message_shown new ≢ None)) → whole ≡ false → length new.bytes.items ≤ new.size
    → (1 ≤ k → (56 * k ≤ length old.bytes.items) × (length old.bytes.items < old.size))
    → (56 * (k + 1) ≤ length new.bytes.items) × (length new.bytes.items < new.size)
row_more old new line k whole eight none rule joined shows not_whole filled many =
    let sound : line_fault old.number old.size old.bytes.items line ≡ None = sym (rule none) ∙ joined.sound in
    let sized = (sound-from old.number old.size old.bytes.items line sound).sized in
    let row = row_size old.size old.bytes.items line k eight sized many in
    let begun : 0 < new.size = subst (λ (n : ℕ). 0 < n) (sym joined.size) row.1 in
    let more : length new.bytes.items < new.size = unfinished new joined.sound (not_shown (message_shown new) refl) begun filled in
    let here : length (bytes_with old.size old.bytes.items line) < size_with old.size old.bytes.items line = rw (← joined.size, ← joined.bytes) more in
    (subst (λ (b : List ℕ). 56 * (k + 1) ≤ length b) (sym joined.bytes) (row.0 here), more)
  where
    not_shown : (m : Option (List ℕ)) → message_shown new ≡ m → message_shown new ≡ None
    not_shown None e = e
    not_shown (Some bytes) e = absurd (let is : IsTrue whole = shows.1 (λ n. cc) in cc)
