-- Items that begin at a head and go round the end of the memory.
use Rattle.std.proofs.Common.{◌≡◌, ◌+◌, ◌-◌, ◌%◌, ◌<◌, ◌≤◌, ◌++◌, ℕ, zero, suc, List, [], ◌∷◌, length, slice_get, slice_set, Some, take, drop, get_or, sym, ap, ◌∙◌, append_assoc, append-nil, inl, inr, arith}
use Rattle.std.specs.List.{insert, remove}
use Rattle.std.proofs.lemmas.Bool.{cases_lt}
use Rattle.std.proofs.lemmas.List.{length-append, length-take-le, length-drop, take_at, drop_at, take_all, drop_all, take-append-drop, set_split, length-set}
use Rattle.std.proofs.lemmas.List.Edits.{length-insert, length-remove}
use Rattle.std.specs.Global.{Vec}
use Rattle.tiered.specs.Blocks.{from_head, IsRing}
use Rattle.tiered.proofs.Parts.{insert_first, insert_second, remove_first, remove_second, set_first, set_second, get_first, get_second, get_read, parted}

module _ {T : Type 0} where
  -- two parts change places
  pub turned : (lower upper : List T) (head : ℕ) → length lower ≡ head → from_head (lower ++ upper) head ≡ upper ++ lower
  turned lower upper head is = ap (λ xs. xs ++ take head (lower ++ upper)) (drop_at lower upper head is) ∙ ap (λ xs. upper ++ xs) (take_at lower upper head is)

  pub length-from_head : (xs : List T) (head : ℕ) → head ≤ length xs → length (from_head xs head) ≡ length xs
  length-from_head xs head within = omega (arith, length-append (drop head xs) (take head xs), length-drop head xs, length-take-le head xs within)

  pub from_zero : (xs : List T) → from_head xs 0 ≡ xs
  from_zero xs = append-nil xs

  pub from_end : (xs : List T) → from_head xs (length xs) ≡ xs
  from_end xs = ap (λ ys. ys ++ take (length xs) xs) (drop_all (length xs) xs (omega arith)) ∙ take_all (length xs) xs (omega arith)

  -- a head at the end of the memory is one at its begin
  pub wrapped : (xs : List T) (head : ℕ) → length xs ≡ 2048 → head ≤ 2048 → from_head xs (head % 2048) ≡ from_head xs head
  wrapped xs head full within = elim (cases_lt head 2048) [
    | inl less ↦ let same : head % 2048 ≡ head = omega arith in ap (from_head xs) same
    | inr most ↦
        let zero_is : head % 2048 ≡ 0 = omega arith in
        let all : length xs ≡ head = omega arith in
        ap (from_head xs) zero_is ∙ from_zero xs ∙ sym (from_end xs) ∙ ap (from_head xs) all
  ]

  -- the head follows the place of the last item
  pub after_last : (xs : List T) (head p : ℕ) → length xs ≡ 2048 → head < 2048 → p ≡ (head + 2048 - 1) % 2048 → from_head xs head ≡ from_head xs (suc p)
  after_last xs head p full inside is =
      let back : suc p % 2048 ≡ head = omega arith in
      ap (from_head xs) (sym back) ∙ wrapped xs (suc p) full (omega arith)

  -- an item comes in at the end, and the first one goes out
  pub ended : (xs : List T) (p : ℕ) (out item : T) → p < length xs → out ≡ get_or xs p out → out ∷ from_head (slice_set xs p item) (suc p) ≡ from_head xs p ++ item ∷ []
  ended xs p out item inside read =
      let a = take p xs in
      let u = drop (suc p) xs in
      let long : length a ≡ p = length-take-le p xs (omega arith) in
      let longer : length (a ++ item ∷ []) ≡ suc p = omega (arith, length-append a (item ∷ [])) in
      ap (λ ys. out ∷ from_head ys (suc p)) (set_split xs p item inside ∙ sym (append_assoc a (item ∷ []) u))
      ∙ ap (λ ys. out ∷ ys) (turned (a ++ item ∷ []) u (suc p) longer)
      ∙ ap (λ ys. out ∷ ys) (sym (append_assoc u a (item ∷ [])))
      ∙ ap (λ ys. ys ++ item ∷ []) (sym (turned a (out ∷ u) p long))
      ∙ ap (λ ys. from_head ys p ++ item ∷ []) (sym (parted xs p out inside read))

  -- the last item goes out, and one comes in among those before the end of the memory
  put_upper : (xs : List T) (p k : ℕ) (out item : T) → p < length xs → out ≡ get_or xs p out → k + suc p ≤ length xs
      → from_head (insert (remove xs p) (p + k) item) p ++ out ∷ [] ≡ insert (from_head xs (suc p)) k item
  put_upper xs p k out item inside read within =
      let a = take p xs in
      let u = drop (suc p) xs in
      let long : length a ≡ p = length-take-le p xs (omega arith) in
      let longer : length (a ++ out ∷ []) ≡ suc p = omega (arith, length-append a (out ∷ [])) in
      let above : k ≤ length u = omega (arith, length-drop (suc p) xs) in
      ap (λ ys. from_head ys p ++ out ∷ []) (insert_second a u k (p + k) item (omega arith))
      ∙ ap (λ ys. ys ++ out ∷ []) (turned a (insert u k item) p long)
      ∙ append_assoc (insert u k item) a (out ∷ [])
      ∙ sym (insert_first u (a ++ out ∷ []) k item above)
      ∙ ap (λ ys. insert ys k item) (sym (turned (a ++ out ∷ []) u (suc p) longer))
      ∙ ap (λ ys. insert (from_head ys (suc p)) k item) (append_assoc a (out ∷ []) u ∙ sym (parted xs p out inside read))

  -- the last item goes out, and one comes in among those that went round
  put_lower : (xs : List T) (p k n : ℕ) (out item : T) → p < length xs → out ≡ get_or xs p out → k ≤ p → n + suc p ≡ length xs + k
      → from_head (insert (remove xs p) k item) (suc p) ++ out ∷ [] ≡ insert (from_head xs (suc p)) n item
  put_lower xs p k n out item inside read within is =
      let a = take p xs in
      let u = drop (suc p) xs in
      let long : length a ≡ p = length-take-le p xs (omega arith) in
      let longer : length (a ++ out ∷ []) ≡ suc p = omega (arith, length-append a (out ∷ [])) in
      let lower : k ≤ length a = omega arith in
      let count : length (insert a k item) ≡ suc p = omega (arith, length-insert a k item lower) in
      let place : n ≡ length u + k = omega (arith, length-drop (suc p) xs) in
      ap (λ ys. from_head ys (suc p) ++ out ∷ []) (insert_first a u k item lower)
      ∙ ap (λ ys. ys ++ out ∷ []) (turned (insert a k item) u (suc p) count)
      ∙ append_assoc u (insert a k item) (out ∷ [])
      ∙ ap (λ ys. u ++ ys) (sym (insert_first a (out ∷ []) k item lower))
      ∙ sym (insert_second u (a ++ out ∷ []) k n item place)
      ∙ ap (λ ys. insert ys n item) (sym (turned (a ++ out ∷ []) u (suc p) longer))
      ∙ ap (λ ys. insert (from_head ys (suc p)) n item) (append_assoc a (out ∷ []) u ∙ sym (parted xs p out inside read))

  -- an item goes out of those before the end of the memory, and one comes in at the end
  taken_upper : (xs : List T) (head k : ℕ) (item : T) → head + k < length xs
      → from_head (insert (remove xs (head + k)) head item) (suc head) ≡ remove (from_head xs head) k ++ item ∷ []
  taken_upper xs head k item inside =
      let a = take head xs in
      let u = drop head xs in
      let long : length a ≡ head = length-take-le head xs (omega arith) in
      let longer : length (a ++ item ∷ []) ≡ suc head = omega (arith, length-append a (item ∷ [])) in
      let above : k < length u = omega (arith, length-drop head xs) in
      ap (λ ys. from_head (insert (remove ys (head + k)) head item) (suc head)) (sym (take-append-drop head xs))
      ∙ ap (λ ys. from_head (insert ys head item) (suc head)) (remove_second a u k (head + k) (omega arith))
      ∙ ap (λ ys. from_head ys (suc head)) (insert_second a (remove u k) 0 head item (omega arith) ∙ sym (append_assoc a (item ∷ []) (remove u k)))
      ∙ turned (a ++ item ∷ []) (remove u k) (suc head) longer
      ∙ sym (append_assoc (remove u k) a (item ∷ []))
      ∙ ap (λ ys. ys ++ item ∷ []) (sym (remove_first u a k above))

  -- an item goes out of those that went round, and one comes in at the end
  taken_lower : (xs : List T) (head p k n : ℕ) (item : T) → head ≤ length xs → head ≡ p + 1 → k < head → n + head ≡ length xs + k
      → from_head (insert (remove xs k) p item) head ≡ remove (from_head xs head) n ++ item ∷ []
  taken_lower xs head p k n item inside next within is =
      let a = take head xs in
      let u = drop head xs in
      let long : length a ≡ head = length-take-le head xs inside in
      let less : length (remove a k) ≡ p = omega (arith, length-remove a k (omega arith)) in
      let again : length (remove a k ++ item ∷ []) ≡ head = omega (arith, length-append (remove a k) (item ∷ [])) in
      let place : n ≡ length u + k = omega (arith, length-drop head xs) in
      ap (λ ys. from_head (insert (remove ys k) p item) head) (sym (take-append-drop head xs))
      ∙ ap (λ ys. from_head (insert ys p item) head) (remove_first a u k (omega arith))
      ∙ ap (λ ys. from_head ys head) (insert_second (remove a k) u 0 p item (omega arith) ∙ sym (append_assoc (remove a k) (item ∷ []) u))
      ∙ turned (remove a k ++ item ∷ []) u head again
      ∙ sym (append_assoc u (remove a k) (item ∷ []))
      ∙ ap (λ ys. ys ++ item ∷ []) (sym (remove_second u a k n place))

  -- the four edits of a full block at an offset, of which the memory held one list and was written with another
  pub inserted_upper : (xs held new wrote now : List T) (head p k : ℕ) (out item : T) → length xs ≡ 2048 → head < 2048 → p ≡ (head + 2048 - 1) % 2048 → k + suc p ≤ 2048
      → held ≡ xs → out ≡ get_or held p out → new ≡ insert (remove held p) (p + k) item → wrote ≡ new → from_head xs head ≡ now → from_head wrote p ++ out ∷ [] ≡ insert now k item
  inserted_upper xs held new wrote now head p k out item full inside last within is read edit write shown =
      ap (λ ys. from_head ys p ++ out ∷ []) (write ∙ edit ∙ ap (λ ys. insert (remove ys p) (p + k) item) is)
      ∙ put_upper xs p k out item (omega arith) (read ∙ ap (λ ys. get_or ys p out) is) (omega arith)
      ∙ ap (λ ys. insert ys k item) (sym (after_last xs head p full inside last) ∙ shown)

  pub inserted_lower : (xs held new wrote now : List T) (head p k n : ℕ) (out item : T) → length xs ≡ 2048 → head < 2048 → p ≡ (head + 2048 - 1) % 2048 → k ≤ p → n + suc p ≡ 2048 + k
      → length new ≡ 2048 → held ≡ xs → out ≡ get_or held p out → new ≡ insert (remove held p) k item → wrote ≡ new → from_head xs head ≡ now → from_head wrote head ++ out ∷ [] ≡ insert now n item
  inserted_lower xs held new wrote now head p k n out item full inside last within place count is read edit write shown =
      ap (λ ys. from_head ys head ++ out ∷ []) write
      ∙ ap (λ ys. ys ++ out ∷ []) (after_last new head p count inside last)
      ∙ ap (λ ys. from_head ys (suc p) ++ out ∷ []) (edit ∙ ap (λ ys. insert (remove ys p) k item) is)
      ∙ put_lower xs p k n out item (omega arith) (read ∙ ap (λ ys. get_or ys p out) is) within (omega arith)
      ∙ ap (λ ys. insert ys n item) (sym (after_last xs head p full inside last) ∙ shown)

  pub removed_upper : (xs held new wrote now : List T) (head k : ℕ) (item : T) → length xs ≡ 2048 → head + k < 2048 → length new ≡ 2048
      → held ≡ xs → new ≡ insert (remove held (head + k)) head item → wrote ≡ new → from_head xs head ≡ now → from_head wrote ((head + 1) % 2048) ≡ remove now k ++ item ∷ []
  removed_upper xs held new wrote now head k item full inside count is edit write shown =
      let more : head + 1 ≡ suc head = omega arith in
      ap (λ ys. from_head ys ((head + 1) % 2048)) write
      ∙ wrapped new (head + 1) count (omega arith)
      ∙ ap (from_head new) more
      ∙ ap (λ ys. from_head ys (suc head)) (edit ∙ ap (λ ys. insert (remove ys (head + k)) head item) is)
      ∙ taken_upper xs head k item (omega arith)
      ∙ ap (λ ys. remove ys k ++ item ∷ []) shown

  pub removed_lower : (xs held new wrote now : List T) (head p k n : ℕ) (item : T) → length xs ≡ 2048 → head ≤ 2048 → head ≡ p + 1 → k < head → n + head ≡ 2048 + k
      → held ≡ xs → new ≡ insert (remove held k) p item → wrote ≡ new → from_head xs head ≡ now → from_head wrote head ≡ remove now n ++ item ∷ []
  removed_lower xs held new wrote now head p k n item full inside next within place is edit write shown =
      ap (λ ys. from_head ys head) (write ∙ edit ∙ ap (λ ys. insert (remove ys k) p item) is)
      ∙ taken_lower xs head p k n item (omega arith) next within (omega arith)
      ∙ ap (λ ys. remove ys n ++ item ∷ []) shown

  -- what lies at an offset from the head of a full block
  get_round : (xs : List T) (head k : ℕ) (x : T) → length xs ≡ 2048 → head < 2048 → k < 2048 → x ≡ get_or xs ((head + k) % 2048) x → slice_get (from_head xs head) k ≡ Some x
  get_round xs head k x full inside within read = elim (cases_lt (head + k) 2048) [
    | inl less ↦
        let same : (head + k) % 2048 ≡ head + k = omega arith in
        get_first u a k (omega (arith, high))
        ∙ sym (get_second a u k (head + k) (omega (arith, low)))
        ∙ ap (λ ys. slice_get ys (head + k)) (take-append-drop head xs)
        ∙ get_read xs (head + k) x (omega arith) (read ∙ ap (λ n. get_or xs n x) same)
    | inr more ↦
        let same : (head + k) % 2048 ≡ head + k - 2048 = omega arith in
        get_second u a (head + k - 2048) k (omega (arith, high))
        ∙ sym (get_first a u (head + k - 2048) (omega (arith, low)))
        ∙ ap (λ ys. slice_get ys (head + k - 2048)) (take-append-drop head xs)
        ∙ get_read xs (head + k - 2048) x (omega arith) (read ∙ ap (λ n. get_or xs n x) same)
  ]
    where
      a : List T
      a = take head xs

      u : List T
      u = drop head xs

      low : length a ≡ head
      low = length-take-le head xs (omega arith)

      high : length u ≡ 2048 - head
      high = omega (arith, length-drop head xs)

  -- an item at an offset from the head of a full block is replaced
  set_round : (xs : List T) (head k : ℕ) (item : T) → length xs ≡ 2048 → head < 2048 → k < 2048 → from_head (slice_set xs ((head + k) % 2048) item) head ≡ slice_set (from_head xs head) k item
  set_round xs head k item full inside within = elim (cases_lt (head + k) 2048) [
    | inl less ↦
        let same : (head + k) % 2048 ≡ head + k = omega arith in
        ap (λ n. from_head (slice_set xs n item) head) same
        ∙ ap (λ ys. from_head (slice_set ys (head + k) item) head) (sym (take-append-drop head xs))
        ∙ ap (λ ys. from_head ys head) (set_second a u k (head + k) item (omega (arith, low)))
        ∙ turned a (slice_set u k item) head low
        ∙ sym (set_first u a k item (omega (arith, high)))
    | inr more ↦
        let same : (head + k) % 2048 ≡ head + k - 2048 = omega arith in
        ap (λ n. from_head (slice_set xs n item) head) same
        ∙ ap (λ ys. from_head (slice_set ys (head + k - 2048) item) head) (sym (take-append-drop head xs))
        ∙ ap (λ ys. from_head ys head) (set_first a u (head + k - 2048) item (omega (arith, low)))
        ∙ turned (slice_set a (head + k - 2048) item) u head (length-set a (head + k - 2048) item ∙ low)
        ∙ sym (set_second u a (head + k - 2048) k item (omega (arith, high)))
  ]
    where
      a : List T
      a = take head xs

      u : List T
      u = drop head xs

      low : length a ≡ head
      low = length-take-le head xs (omega arith)

      high : length u ≡ 2048 - head
      high = omega (arith, length-drop head xs)

  ring_within : (v : Vec T) (head : ℕ) → IsRing v head → head ≤ length v.items
  ring_within v zero ring = omega arith
  ring_within v (suc h) ring = omega (arith, ring.straight (omega arith), ring.inside)

  -- what is known of a ring that is a full block
  pub ring_full : (v : Vec T) (head : ℕ) (xs : List T) → IsRing v head → from_head v.items head ≡ xs → length v.items ≡ length xs
  ring_full v head xs ring is = sym (length-from_head v.items head (ring_within v head ring)) ∙ ap length is

  -- what lies at an offset from the head
  pub get-from_head : (v : Vec T) (head k : ℕ) (x : T) → IsRing v head → k < length v.items → x ≡ get_or v.items ((head + k) % 2048) x → slice_get (from_head v.items head) k ≡ Some x
  get-from_head v zero k x ring within read =
      let most = ring.most in
      let same : (0 + k) % 2048 ≡ k = omega arith in
      ap (λ ys. slice_get ys k) (from_zero v.items) ∙ get_read v.items k x within (read ∙ ap (λ n. get_or v.items n x) same)
  get-from_head v (suc h) k x ring within read =
      get_round v.items (suc h) k x (ring.straight (omega arith)) ring.inside (omega (arith, ring.most)) read

  -- an item at an offset from the head is replaced
  pub set-from_head : (v : Vec T) (head k : ℕ) (item : T) → IsRing v head → k < length v.items → from_head (slice_set v.items ((head + k) % 2048) item) head ≡ slice_set (from_head v.items head) k item
  set-from_head v zero k item ring within =
      let most = ring.most in
      let same : (0 + k) % 2048 ≡ k = omega arith in
      ap (λ n. from_head (slice_set v.items n item) 0) same
      ∙ from_zero (slice_set v.items k item)
      ∙ ap (λ ys. slice_set ys k item) (sym (from_zero v.items))
  set-from_head v (suc h) k item ring within =
      set_round v.items (suc h) k item (ring.straight (omega arith)) ring.inside (omega (arith, ring.most))
