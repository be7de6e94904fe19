-- Where the items of full blocks lie.
use Rattle.std.proofs.Common.{◌≡◌, ◌+◌, ◌*◌, ◌/◌, ◌%◌, ◌<◌, ◌≤◌, ◌++◌, ℕ, zero, suc, Bool, List, [], ◌∷◌, length, take, replicate, refl, sym, ap, ◌∙◌, subst, arith}
use Rattle.std.proofs.lemmas.List.{length-append, length-take-le, length-replicate, replicate-append-replicate, replicate_more}
use Rattle.std.proofs.lemmas.List.Elements.{All-head, All-tail, All-take, All-get_or, All-replicate}
use Rattle.tiered.specs.Lists.{TieredList}
use Rattle.tiered.specs.Blocks.{AreFull, block_at, whole}

module _ {T : Type 0} where
  pub length-whole : (bs : List (List T)) → AreFull bs → length (whole bs) ≡ 2048 * length bs
  length-whole [] full = omega arith
  length-whole (b ∷ bs) full =
      omega (arith, length-append b (whole bs), All-head (λ c. length c ≡ 2048) b bs full, length-whole bs (All-tail (λ c. length c ≡ 2048) b bs full))

  pub block_full : (bs : List (List T)) (i : ℕ) → i < length bs → AreFull bs → length (block_at bs i) ≡ 2048
  block_full bs i inside full = All-get_or (λ b. length b ≡ 2048) bs i [] inside full

  -- a place is that of a block and an offset in it
  pub place_in : (bs : List (List T)) (n : ℕ) → n / 2048 < length bs → AreFull bs → n ≡ length (whole (take (n / 2048) bs)) + n % 2048
  place_in bs n inside full =
      let count = length-whole (take (n / 2048) bs) (All-take (λ b. length b ≡ 2048) (n / 2048) bs full) in
      let blocks = length-take-le (n / 2048) bs (omega arith) in
      omega arith

  -- a place after the blocks is an offset in the items that follow
  pub place_after : (bs : List (List T)) (n : ℕ) → length bs ≤ n / 2048 → n < 2048 * length bs + 2048 → AreFull bs → n ≡ length (whole bs) + n % 2048
  place_after bs n past near full = let count = length-whole bs full in omega arith

  pub place_inside : (bs : List (List T)) (n : ℕ) → n / 2048 < length bs → AreFull bs → n < length (whole bs)
  place_inside bs n inside full = let count = length-whole bs full in omega arith

  -- blocks of one item alone
  pub full-replicate : (bs : List (List T)) (n : ℕ) (item : T) → bs ≡ replicate n (replicate 2048 item) → AreFull bs
  full-replicate bs n item is = subst (λ cs. AreFull cs) (sym is) (All-replicate (λ b. length b ≡ 2048) n (replicate 2048 item) (length-replicate 2048 item))

  pub whole-replicate : (n : ℕ) (item : T) → whole (replicate n (replicate 2048 item)) ≡ replicate (n * 2048) item
  whole-replicate zero item = refl
  whole-replicate (suc n) item =
      let more : 2048 + n * 2048 ≡ suc n * 2048 = omega arith in
      ap (λ rest. replicate 2048 item ++ rest) (whole-replicate n item)
      ∙ replicate-append-replicate 2048 (n * 2048) item
      ∙ ap (λ m. replicate m item) more

  pub replicated : (bs : List (List T)) (last : List T) (n rest total : ℕ) (item : T) → bs ≡ replicate n (replicate 2048 item) → last ≡ replicate rest item → n * 2048 + rest ≡ total
      → whole bs ++ last ≡ replicate total item
  replicated bs last n rest total item blocks is all =
      ap (λ cs. whole cs ++ last) blocks
      ∙ ap (λ ys. ys ++ last) (whole-replicate n item)
      ∙ ap (λ ys. replicate (n * 2048) item ++ ys) is
      ∙ replicate-append-replicate (n * 2048) rest item
      ∙ ap (λ m. replicate m item) all

-- one more of a thing
pub repeated_more : {X : Type 0} (xs ys : List X) (n : ℕ) (x y : X) → ys ≡ xs ++ x ∷ [] → x ≡ y → xs ≡ replicate n y → ys ≡ replicate (n + 1) y
repeated_more xs ys n x y is same before = is ∙ ap (λ z. xs ++ z ∷ []) same ∙ ap (λ zs. zs ++ y ∷ []) before ∙ replicate_more n y

-- a list and whether one more insert takes no memory
abbrev pub listed : {T : Type 0} → List T → Bool → TieredList T
listed xs ready = record { items = xs; ready = ready }

pub same_list : {T : Type 0} (xs ys : List T) (a b : Bool) → xs ≡ ys → a ≡ b → listed xs a ≡ listed ys b
same_list xs ys a b same alike = ap (λ zs. listed zs a) same ∙ ap (λ r. listed ys r) alike
