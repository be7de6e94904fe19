-- What a list in blocks is once a block is changed.
use Rattle.std.proofs.Common.{◌≡◌, ◌+◌, ◌<◌, ◌≤◌, ◌++◌, ℕ, zero, suc, List, [], ◌∷◌, length, slice_get, slice_set, take, drop, refl, sym, ap, ◌∙◌, append_assoc, append-nil, arith}
use Rattle.std.specs.List.{insert, remove}
use Rattle.std.proofs.lemmas.List.{length-append, set-get_or}
use Rattle.tiered.specs.Blocks.{block_at, whole, with_before}
use Rattle.tiered.proofs.Parts.{insert_first, insert_second, remove_first, remove_second, set_first, set_second, get_first, get_second}

module _ {T : Type 0} where
  -- a list whose block at a place is this one
  pub whole-set : (bs : List (List T)) (i : ℕ) (c : List T) → i < length bs → whole (slice_set bs i c) ≡ whole (take i bs) ++ (c ++ whole (drop (suc i) bs))
  whole-set [] i c inside = absurd (omega arith)
  whole-set (b ∷ bs) zero c inside = refl
  whole-set (b ∷ bs) (suc i) c inside = ap (λ rest. b ++ rest) (whole-set bs i c (omega arith)) ∙ sym (append_assoc b (whole (take i bs)) (c ++ whole (drop (suc i) bs)))

  -- the same with an item that stands before the block
  pub before-set : (bs : List (List T)) (i : ℕ) (c : List T) (item : T) → i < length bs → with_before (slice_set bs i c) i item ≡ whole (take i bs) ++ ((item ∷ c) ++ whole (drop (suc i) bs))
  before-set [] i c item inside = absurd (omega arith)
  before-set (b ∷ bs) zero c item inside = refl
  before-set (b ∷ bs) (suc i) c item inside =
      append_assoc b (whole (take i (slice_set bs i c))) (item ∷ whole (drop i (slice_set bs i c)))
      ∙ ap (λ rest. b ++ rest) (before-set bs i c item (omega arith))
      ∙ sym (append_assoc b (whole (take i bs)) ((item ∷ c) ++ whole (drop (suc i) bs)))

  -- the same with an item that stands after the block
  pub after-set : (bs : List (List T)) (i : ℕ) (c : List T) (item : T) → i < length bs → with_before (slice_set bs i c) (suc i) item ≡ whole (take i bs) ++ ((c ++ item ∷ []) ++ whole (drop (suc i) bs))
  after-set [] i c item inside = absurd (omega arith)
  after-set (b ∷ bs) zero c item inside = ap (λ front. front ++ item ∷ whole bs) (append-nil c) ∙ sym (append_assoc c (item ∷ []) (whole bs))
  after-set (b ∷ bs) (suc i) c item inside =
      append_assoc b (whole (take (suc i) (slice_set bs i c))) (item ∷ whole (drop (suc i) (slice_set bs i c)))
      ∙ ap (λ rest. b ++ rest) (after-set bs i c item (omega arith))
      ∙ sym (append_assoc b (whole (take i bs)) ((c ++ item ∷ []) ++ whole (drop (suc i) bs)))

  -- a list around one of its blocks
  pub whole_around : (bs : List (List T)) (i : ℕ) → i < length bs → whole bs ≡ whole (take i bs) ++ (block_at bs i ++ whole (drop (suc i) bs))
  whole_around bs i inside = ap whole (sym (set-get_or bs i [])) ∙ whole-set bs i (block_at bs i) inside

  pub before_around : (bs : List (List T)) (i : ℕ) (item : T) → i < length bs → with_before bs i item ≡ whole (take i bs) ++ ((item ∷ block_at bs i) ++ whole (drop (suc i) bs))
  before_around bs i item inside = ap (λ cs. with_before cs i item) (sym (set-get_or bs i [])) ∙ before-set bs i (block_at bs i) item inside

  pub after_around : (bs : List (List T)) (i : ℕ) (item : T) → i < length bs → with_before bs (suc i) item ≡ whole (take i bs) ++ ((block_at bs i ++ item ∷ []) ++ whole (drop (suc i) bs))
  after_around bs i item inside = ap (λ cs. with_before cs (suc i) item) (sym (set-get_or bs i [])) ∙ after-set bs i (block_at bs i) item inside

  -- a block got an item at the front, and its last one is carried on
  pub carried_on : (bs : List (List T)) (i : ℕ) (c : List T) (out item : T) → i < length bs → c ++ out ∷ [] ≡ item ∷ block_at bs i → with_before (slice_set bs i c) (suc i) out ≡ with_before bs i item
  carried_on bs i c out item inside is =
      after-set bs i c out inside ∙ ap (λ ys. whole (take i bs) ++ (ys ++ whole (drop (suc i) bs))) is ∙ sym (before_around bs i item inside)

  -- a block got an item at the end, and its first one is carried back
  pub carried_back : (bs : List (List T)) (i : ℕ) (c : List T) (out item : T) → i < length bs → out ∷ c ≡ block_at bs i ++ item ∷ [] → with_before (slice_set bs i c) i out ≡ with_before bs (suc i) item
  carried_back bs i c out item inside is =
      before-set bs i c out inside ∙ ap (λ ys. whole (take i bs) ++ (ys ++ whole (drop (suc i) bs))) is ∙ sym (after_around bs i item inside)

  -- a block got an item at an offset, and its last one is carried on
  pub put_in : (bs : List (List T)) (i k n : ℕ) (c : List T) (out item : T) → i < length bs → k ≤ length (block_at bs i) → n ≡ length (whole (take i bs)) + k
      → c ++ out ∷ [] ≡ insert (block_at bs i) k item → with_before (slice_set bs i c) (suc i) out ≡ insert (whole bs) n item
  put_in bs i k n c out item inside within place is =
      let rest = whole (drop (suc i) bs) in
      after-set bs i c out inside
      ∙ ap (λ ys. whole (take i bs) ++ (ys ++ rest)) is
      ∙ ap (λ ys. whole (take i bs) ++ ys) (sym (insert_first (block_at bs i) rest k item within))
      ∙ sym (insert_second (whole (take i bs)) (block_at bs i ++ rest) k n item place)
      ∙ ap (λ ys. insert ys n item) (sym (whole_around bs i inside))

  -- a block lost an item, and got one at the end
  pub taken_out : (bs : List (List T)) (i k n : ℕ) (c : List T) (item : T) → i < length bs → k < length (block_at bs i) → n ≡ length (whole (take i bs)) + k
      → c ≡ remove (block_at bs i) k ++ item ∷ [] → whole (slice_set bs i c) ≡ remove (with_before bs (suc i) item) n
  taken_out bs i k n c item inside within place is =
      let rest = whole (drop (suc i) bs) in
      let front = whole (take i bs) in
      let b = block_at bs i in
      whole-set bs i c inside
      ∙ ap (λ ys. front ++ (ys ++ rest)) is
      ∙ ap (λ ys. front ++ ys) (append_assoc (remove b k) (item ∷ []) rest ∙ sym (remove_first b (item ∷ rest) k within))
      ∙ ap (λ ys. front ++ remove ys k) (sym (append_assoc b (item ∷ []) rest))
      ∙ sym (remove_second front ((b ++ item ∷ []) ++ rest) k n place)
      ∙ ap (λ ys. remove ys n) (sym (after_around bs i item inside))

  -- an item of a block is replaced
  pub set_in : (bs : List (List T)) (i k n : ℕ) (item : T) → i < length bs → k < length (block_at bs i) → n ≡ length (whole (take i bs)) + k
      → whole (slice_set bs i (slice_set (block_at bs i) k item)) ≡ slice_set (whole bs) n item
  set_in bs i k n item inside within place =
      let rest = whole (drop (suc i) bs) in
      whole-set bs i (slice_set (block_at bs i) k item) inside
      ∙ ap (λ ys. whole (take i bs) ++ ys) (sym (set_first (block_at bs i) rest k item within))
      ∙ sym (set_second (whole (take i bs)) (block_at bs i ++ rest) k n item place)
      ∙ ap (λ ys. slice_set ys n item) (sym (whole_around bs i inside))

  -- an item of a block is one of the list
  pub get_in : (bs : List (List T)) (i k n : ℕ) → i < length bs → k < length (block_at bs i) → n ≡ length (whole (take i bs)) + k → slice_get (whole bs) n ≡ slice_get (block_at bs i) k
  get_in bs i k n inside within place =
      let rest = whole (drop (suc i) bs) in
      ap (λ ys. slice_get ys n) (whole_around bs i inside)
      ∙ get_second (whole (take i bs)) (block_at bs i ++ rest) k n place
      ∙ get_first (block_at bs i) rest k within

  -- so it is with an item that stands after the block
  pub get_before : (bs : List (List T)) (i k n : ℕ) (item : T) → i < length bs → k < length (block_at bs i) → n ≡ length (whole (take i bs)) + k
      → slice_get (with_before bs (suc i) item) n ≡ slice_get (block_at bs i) k
  get_before bs i k n item inside within place =
      let rest = whole (drop (suc i) bs) in
      let b = block_at bs i in
      ap (λ ys. slice_get ys n) (after_around bs i item inside)
      ∙ get_second (whole (take i bs)) ((b ++ item ∷ []) ++ rest) k n place
      ∙ get_first (b ++ item ∷ []) rest k (omega (arith, length-append b (item ∷ [])))
      ∙ get_first b (item ∷ []) k within
