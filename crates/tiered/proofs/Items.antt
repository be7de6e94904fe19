-- The items of a list in tiers, and edits of them.
use Rattle.std.proofs.Common.{◌≡◌, ◌+◌, ◌*◌, ◌/◌, ◌%◌, ◌<◌, ◌≤◌, ◌++◌, ℕ, suc, List, [], ◌∷◌, length, reverse, replicate, slice_get, slice_set, get_or, Some, refl, sym, ap, ◌∙◌, append_assoc, arith}
use Rattle.std.specs.List.{insert, remove}
use Rattle.std.proofs.lemmas.List.{length-append, length-reverse, reverse-append}
use Rattle.tiered.specs.Blocks.{whole, all_of, AreFull}
use Rattle.tiered.proofs.Backwards.{reverse-insert, reverse-remove, reverse-get, reverse-set, reverse-replicate}
use Rattle.tiered.proofs.Parts.{insert_first, insert_second, remove_first, remove_second, set_first, set_second, get_first, get_second}
use Rattle.tiered.proofs.Places.{length-whole, place_after, replicated}

-- a place among the items after blocks, of which there are at most a block's
pub record IsAfter {T : Type 0} (bs : List (List T)) (n : ℕ) : Type 0 where
  pub some : 0 < length bs
  pub full : AreFull bs
  pub past : length bs ≤ n / 2048
  pub near : n < 2048 * length bs + 2048

module _ {T : Type 0} where
  -- where there are no blocks
  pub all_short : (bs : List (List T)) (last : List T) → length bs ≡ 0 → all_of bs last ≡ last
  all_short [] last none = refl
  all_short (b ∷ bs) last none = absurd (omega arith)

  -- where there are some
  pub all_long : (bs : List (List T)) (last : List T) → 0 < length bs → all_of bs last ≡ whole bs ++ reverse last
  all_long [] last some = absurd (omega arith)
  all_long (b ∷ bs) last some = refl

  pub length-all : (bs : List (List T)) (last : List T) → AreFull bs → length (all_of bs last) ≡ 2048 * length bs + length last
  length-all [] last full = omega arith
  length-all (b ∷ bs) last full = omega (arith, length-append (whole (b ∷ bs)) (reverse last), length-reverse last, length-whole (b ∷ bs) full)

  -- an item is put in among those of the blocks, and one is carried out of these
  pub carried_out : (bs cs : List (List T)) (last : List T) (n : ℕ) (item out : T) → 0 < length bs → 0 < length cs → n ≤ length (whole bs) → whole cs ++ out ∷ [] ≡ insert (whole bs) n item
      → all_of cs (last ++ out ∷ []) ≡ insert (all_of bs last) n item
  carried_out bs cs last n item out some still within is =
      all_long cs (last ++ out ∷ []) still
      ∙ ap (λ ys. whole cs ++ ys) (reverse-append last (out ∷ []))
      ∙ sym (append_assoc (whole cs) (out ∷ []) (reverse last))
      ∙ ap (λ ys. ys ++ reverse last) is
      ∙ sym (insert_first (whole bs) (reverse last) n item within)
      ∙ ap (λ ys. insert ys n item) (sym (all_long bs last some))

  -- one is taken out from those of the blocks, and one is carried into these
  pub carried_in : (bs cs : List (List T)) (last rest : List T) (n : ℕ) (carried : T) → 0 < length bs → 0 < length cs → n < length (whole bs) → last ≡ rest ++ carried ∷ [] → whole cs ≡ remove (whole bs) n ++ carried ∷ []
      → all_of cs rest ≡ remove (all_of bs last) n
  carried_in bs cs last rest n carried some still within split is =
      all_long cs rest still
      ∙ ap (λ ys. ys ++ reverse rest) is
      ∙ append_assoc (remove (whole bs) n) (carried ∷ []) (reverse rest)
      ∙ ap (λ ys. remove (whole bs) n ++ ys) (sym (ap reverse split ∙ reverse-append rest (carried ∷ [])))
      ∙ sym (remove_first (whole bs) (reverse last) n within)
      ∙ ap (λ ys. remove ys n) (sym (all_long bs last some))

  pub get_before : (bs : List (List T)) (last : List T) (n : ℕ) → 0 < length bs → n < length (whole bs) → slice_get (all_of bs last) n ≡ slice_get (whole bs) n
  get_before bs last n some within = ap (λ ys. slice_get ys n) (all_long bs last some) ∙ get_first (whole bs) (reverse last) n within

  pub set_before : (bs cs : List (List T)) (last : List T) (n : ℕ) (item : T) → 0 < length bs → 0 < length cs → n < length (whole bs) → whole cs ≡ slice_set (whole bs) n item
      → all_of cs last ≡ slice_set (all_of bs last) n item
  set_before bs cs last n item some still within is =
      all_long cs last still
      ∙ ap (λ ys. ys ++ reverse last) is
      ∙ sym (set_first (whole bs) (reverse last) n item within)
      ∙ ap (λ ys. slice_set ys n item) (sym (all_long bs last some))

  -- the same among the items after the blocks: m is their place in their vector
  pub insert_after : (bs : List (List T)) (last : List T) (n m : ℕ) (item : T) → IsAfter bs n → m + n % 2048 ≡ length last → all_of bs (insert last m item) ≡ insert (all_of bs last) n item
  insert_after bs last n m item at back =
      all_long bs (insert last m item) at.some
      ∙ ap (λ ys. whole bs ++ ys) (reverse-insert last m (n % 2048) item back)
      ∙ sym (insert_second (whole bs) (reverse last) (n % 2048) n item (place_after bs n at.past at.near at.full))
      ∙ ap (λ ys. insert ys n item) (sym (all_long bs last at.some))

  pub remove_after : (bs : List (List T)) (last : List T) (n m : ℕ) (x : T) → IsAfter bs n → m + suc (n % 2048) ≡ length last → x ≡ get_or last m x → all_of bs (remove last m) ≡ remove (all_of bs last) n
  remove_after bs last n m x at back read =
      all_long bs (remove last m) at.some
      ∙ ap (λ ys. whole bs ++ ys) (reverse-remove last m (n % 2048) x back read)
      ∙ sym (remove_second (whole bs) (reverse last) (n % 2048) n (place_after bs n at.past at.near at.full))
      ∙ ap (λ ys. remove ys n) (sym (all_long bs last at.some))

  pub get_after : (bs : List (List T)) (last : List T) (n m : ℕ) (x : T) → IsAfter bs n → m + suc (n % 2048) ≡ length last → x ≡ get_or last m x → slice_get (all_of bs last) n ≡ Some x
  get_after bs last n m x at back read =
      ap (λ ys. slice_get ys n) (all_long bs last at.some)
      ∙ get_second (whole bs) (reverse last) (n % 2048) n (place_after bs n at.past at.near at.full)
      ∙ reverse-get last m (n % 2048) x back read

  pub set_after : (bs : List (List T)) (last : List T) (n m : ℕ) (item : T) → IsAfter bs n → m + suc (n % 2048) ≡ length last → all_of bs (slice_set last m item) ≡ slice_set (all_of bs last) n item
  set_after bs last n m item at back =
      all_long bs (slice_set last m item) at.some
      ∙ ap (λ ys. whole bs ++ ys) (reverse-set last m (n % 2048) item back)
      ∙ sym (set_second (whole bs) (reverse last) (n % 2048) n item (place_after bs n at.past at.near at.full))
      ∙ ap (λ ys. slice_set ys n item) (sym (all_long bs last at.some))

  -- one item alone, in blocks and after them
  pub filled : (bs : List (List T)) (last : List T) (n rest total : ℕ) (item : T) → bs ≡ replicate n (replicate 2048 item) → last ≡ replicate rest item → n * 2048 + rest ≡ total
      → all_of bs last ≡ replicate total item
  filled bs last n rest total item blocks is all = backwards bs last rest item is ∙ replicated bs last n rest total item blocks is all
    where
      backwards : (cs : List (List T)) (ys : List T) (m : ℕ) (x : T) → ys ≡ replicate m x → all_of cs ys ≡ whole cs ++ ys
      backwards [] ys m x same = refl
      backwards (c ∷ cs) ys m x same = ap (λ zs. whole (c ∷ cs) ++ zs) (ap reverse same ∙ reverse-replicate m x ∙ sym same)
