-- What stays true of the chunks of a list as an item is put in or taken out.
use Rattle.std.proofs.Common.{◌≡◌, ◌≢◌, ◌+◌, ◌<◌, ◌≤◌, ◌++◌, ◌⊎◌, inl, inr, ℕ, zero, suc, List, [], ◌∷◌, length, slice_set, refl, sym, ap, ◌∙◌, subst, arith}
use Rattle.std.specs.List.{All, insert, remove}
use Rattle.std.proofs.lemmas.List.{length-append, length-set, get_or-set_same, get_or-set_other}
use Rattle.std.proofs.lemmas.List.Edits.{length-insert, length-remove}
use Rattle.std.proofs.lemmas.List.Elements.{All-set, All-get_or}
use Rattle.chunked.specs.declared.settling.Shape.{Shape}
use Rattle.chunked.specs.declared.settling.Shape.TheVariants.{Same, Gone, Joined}
use Rattle.chunked.specs.Chunks.{whole, before, chunk_at, IsFilled, AreApart, IsParted, IsReplacedByTwo, IsSettled, IsShrunk}
use Rattle.chunked.proofs.Apart.{apart_next, apart-set, apart_parted, apart_without, apart_joined}
use Rattle.chunked.proofs.Whole.{put_in, whole_parted, whole_without, whole_joined}
use Rattle.chunked.proofs.Vectors.{All-insert, All-remove}

pub set_here : {T : Type 0} (cs : List (List T)) (i : ℕ) (c : List T) → i < length cs → chunk_at (slice_set cs i c) i ≡ c
set_here cs i c inside = get_or-set_same cs i c [] inside

pub set_beside : {T : Type 0} (cs : List (List T)) (i j : ℕ) (c : List T) → j ≢ i → chunk_at (slice_set cs i c) j ≡ chunk_at cs j
set_beside cs i j c other = get_or-set_other cs i j c [] other

-- a chunk with room gets an item
pub longer_filled : {T : Type 0} (cs : List (List T)) (i : ℕ) (c : List T) → All IsFilled cs → length c ≡ length (chunk_at cs i) + 1 → length (chunk_at cs i) < 128 → All IsFilled (slice_set cs i c)
longer_filled cs i c filled count room = All-set IsFilled cs i c (record { some = omega arith; most = omega arith }) filled

pub longer_apart : {T : Type 0} (cs : List (List T)) (i : ℕ) (c : List T) → AreApart cs → i < length cs → length c ≡ length (chunk_at cs i) + 1 → AreApart (slice_set cs i c)
longer_apart cs i c apart inside count =
    apart-set cs i c apart (λ more. omega (arith, apart_next cs i apart more))
    (λ j is. let P : ℕ → Type 0 = λ k. k < length cs → length c ≡ length (chunk_at cs k) + 1 → 64 < length (chunk_at cs j) + length c in subst P is (λ within longer. omega (arith, apart_next cs j apart within)) inside count)

-- a full chunk is parted
parted_front : {T : Type 0} (cs : List (List T)) (i : ℕ) (front back : List T) → i < length cs → chunk_at (insert (slice_set cs i front) (suc i) back) i ≡ front
parted_front [] i front back inside = absurd (omega arith)
parted_front (c ∷ cs) zero front back inside = refl
parted_front (c ∷ cs) (suc i) front back inside = parted_front cs i front back (omega arith)

parted_back : {T : Type 0} (cs : List (List T)) (i : ℕ) (front back : List T) → i < length cs → chunk_at (insert (slice_set cs i front) (suc i) back) (suc i) ≡ back
parted_back [] i front back inside = absurd (omega arith)
parted_back (c ∷ cs) zero front back inside = refl
parted_back (c ∷ cs) (suc i) front back inside = parted_back cs i front back (omega arith)

pub parted_filled : {T : Type 0} (old new : List (List T)) (i offset : ℕ) (item : T) → IsParted old new i offset item → All IsFilled old → All IsFilled new
parted_filled old new i offset item parted filled =
    subst (λ cs. All IsFilled cs) (sym parted.chunks) (All-insert IsFilled (slice_set old i parted.front) (suc i) parted.back (All-set IsFilled old i parted.front parted.front_filled filled) parted.back_filled)

pub parted_apart : {T : Type 0} (old new : List (List T)) (i offset : ℕ) (item : T) → IsParted old new i offset item → All IsFilled old → AreApart old → i < length old → AreApart new
parted_apart old new i offset item parted filled apart inside =
    subst (λ cs. AreApart cs) (sym parted.chunks) (apart_parted old i parted.front parted.back filled apart inside parted.front_half parted.back_filled.some parted.back_half)

pub parted_whole : {T : Type 0} (old new : List (List T)) (i offset : ℕ) (item : T) → IsParted old new i offset item → i < length old → offset ≤ length (chunk_at old i) → whole new ≡ insert (whole old) (before old i + offset) item
parted_whole old new i offset item parted inside within =
    ap whole parted.chunks ∙ whole_parted old i parted.front parted.back inside ∙ ap (λ c. whole (slice_set old i c)) parted.items ∙ put_in old i offset item inside within

pub parted_two : {T : Type 0} (old new : List (List T)) (i offset : ℕ) (item : T) → IsParted old new i offset item → i < length old → offset ≤ length (chunk_at old i) → IsReplacedByTwo old i new
parted_two old new i offset item parted inside within =
    let front : chunk_at new i ≡ parted.front = ap (λ cs. chunk_at cs i) parted.chunks ∙ parted_front old i parted.front parted.back inside in
    let back : chunk_at new (suc i) ≡ parted.back = ap (λ cs. chunk_at cs (suc i)) parted.chunks ∙ parted_back old i parted.front parted.back inside in
    record {
      chunks = parted.chunks ∙ ap (λ c. insert (slice_set old i c) (suc i) parted.back) (sym front) ∙ ap (λ c. insert (slice_set old i (chunk_at new i)) (suc i) c) (sym back);
      count = omega (arith, ap length front, ap length back, length-append parted.front parted.back, ap length parted.items, length-insert (chunk_at old i) offset item within);
    }

-- a chunk lost an item, and is settled
pub settled_whole : {T : Type 0} (mid new : List (List T)) (i : ℕ) (shape : Shape) → IsSettled mid i shape new → whole new ≡ whole mid
settled_whole mid new i Same settled = ap whole settled.0
settled_whole mid new i Gone settled = ap whole settled.0 ∙ whole_without mid i settled.1
settled_whole mid new i (Joined j) settled = ap whole settled.chunks ∙ whole_joined mid j settled.inside

remove-set : {T : Type 0} (cs : List (List T)) (i : ℕ) (c : List T) → remove (slice_set cs i c) i ≡ remove cs i
remove-set [] zero c = refl
remove-set [] (suc i) c = refl
remove-set (d ∷ cs) zero c = refl
remove-set (d ∷ cs) (suc i) c = ap (λ rest. d ∷ rest) (remove-set cs i c)

set-remove-set : {T : Type 0} (cs : List (List T)) (j : ℕ) (c e : List T) → slice_set (remove (slice_set cs j c) (suc j)) j e ≡ slice_set (remove cs (suc j)) j e
set-remove-set [] zero c e = refl
set-remove-set [] (suc j) c e = refl
set-remove-set (d ∷ cs) zero c e = refl
set-remove-set (d ∷ cs) (suc j) c e = ap (λ rest. d ∷ rest) (set-remove-set cs j c e)

joined_chunks : {T : Type 0} (old : List (List T)) (i j : ℕ) (c e : List T) → (j ≡ i) ⊎ (suc j ≡ i) → slice_set (remove (slice_set old i c) (suc j)) j e ≡ slice_set (remove old (suc j)) j e
joined_chunks old i j c e (inl is) = subst (λ k. slice_set (remove (slice_set old k c) (suc j)) j e ≡ slice_set (remove old (suc j)) j e) is (set-remove-set old j c e)
joined_chunks old i j c e (inr is) = subst (λ k. slice_set (remove (slice_set old k c) (suc j)) j e ≡ slice_set (remove old (suc j)) j e) is (ap (λ cs. slice_set cs j e) (remove-set old (suc j) c))

joined_count : {T : Type 0} (old : List (List T)) (i j : ℕ) (c : List T) → (j ≡ i) ⊎ (suc j ≡ i) → suc j < length old → length c + 1 ≡ length (chunk_at old i)
    → length (chunk_at (slice_set old i c) j) + length (chunk_at (slice_set old i c) (suc j)) + 1 ≡ length (chunk_at old j) + length (chunk_at old (suc j))
joined_count old i j c (inl is) inside count =
    let P : ℕ → Type 0 = λ k. length c + 1 ≡ length (chunk_at old k) → length (chunk_at (slice_set old k c) j) + length (chunk_at (slice_set old k c) (suc j)) + 1 ≡ length (chunk_at old j) + length (chunk_at old (suc j)) in
    subst P is (λ shorter. omega (arith, shorter, ap length (set_here old j c (omega arith)), ap length (set_beside old j (suc j) c (λ same. absurd (omega arith))))) count
joined_count old i j c (inr is) inside count =
    let P : ℕ → Type 0 = λ k. length c + 1 ≡ length (chunk_at old k) → length (chunk_at (slice_set old k c) j) + length (chunk_at (slice_set old k c) (suc j)) + 1 ≡ length (chunk_at old j) + length (chunk_at old (suc j)) in
    subst P is (λ shorter. omega (arith, shorter, ap length (set_here old (suc j) c inside), ap length (set_beside old (suc j) j c (λ same. absurd (omega arith))))) count

joined_some : {T : Type 0} (mid : List (List T)) (i j : ℕ) → (j ≡ i) ⊎ (suc j ≡ i) → 0 < length (chunk_at mid i) → 0 < length (chunk_at mid j) + length (chunk_at mid (suc j))
joined_some mid i j (inl is) some = omega (arith, ap (λ k. length (chunk_at mid k)) is)
joined_some mid i j (inr is) some = omega (arith, ap (λ k. length (chunk_at mid k)) is)

pub settled_filled : {T : Type 0} (old new : List (List T)) (i : ℕ) (c : List T) (shape : Shape) → IsSettled (slice_set old i c) i shape new → i < length old → All IsFilled old → length c + 1 ≡ length (chunk_at old i) → All IsFilled new
settled_filled old new i c Same settled inside filled count =
    let here = All-get_or IsFilled old i [] inside filled in
    let at = set_here old i c inside in
    let some = settled.1.some in
    subst (λ cs. All IsFilled cs) (sym settled.0) (All-set IsFilled old i c (record { some = omega (arith, ap length at); most = omega arith }) filled)
settled_filled old new i c Gone settled inside filled count =
    subst (λ cs. All IsFilled cs) (sym (settled.0 ∙ remove-set old i c)) (All-remove IsFilled old i filled)
settled_filled old new i c (Joined j) settled inside filled count =
    let e = chunk_at (slice_set old i c) j ++ chunk_at (slice_set old i c) (suc j) in
    let long = length-append (chunk_at (slice_set old i c) j) (chunk_at (slice_set old i c) (suc j)) in
    let some = joined_some (slice_set old i c) i j settled.near settled.some in
    subst (λ cs. All IsFilled cs) (sym (settled.chunks ∙ joined_chunks old i j c e settled.near))
    (All-set IsFilled (remove old (suc j)) j e (record { some = omega arith; most = omega (arith, settled.few) }) (All-remove IsFilled old (suc j) filled))

pub settled_apart : {T : Type 0} (old new : List (List T)) (i : ℕ) (c : List T) (shape : Shape) → IsSettled (slice_set old i c) i shape new → i < length old → All IsFilled old → AreApart old → length c + 1 ≡ length (chunk_at old i) → AreApart new
settled_apart old new i c Same settled inside filled apart count =
    let at = set_here old i c inside in
    let few = length-set old i c in
    subst (λ cs. AreApart cs) (sym settled.0)
    (apart-set old i c apart
    (λ more. omega (arith, ap length at, ap length (set_beside old i (suc i) c (λ same. absurd (omega arith))), settled.1.next (omega arith)))
    (λ j is. omega (arith, ap length at, ap length (set_beside old i j c (λ same. absurd (omega arith))), settled.1.previous j is)))
settled_apart old new i c Gone settled inside filled apart count =
    let none : length c ≡ 0 = ap length (sym (set_here old i c inside) ∙ settled.1) in
    subst (λ cs. AreApart cs) (sym (settled.0 ∙ remove-set old i c)) (apart_without old i apart inside (omega arith))
settled_apart old new i c (Joined j) settled inside filled apart count =
    let e = chunk_at (slice_set old i c) j ++ chunk_at (slice_set old i c) (suc j) in
    let long = length-append (chunk_at (slice_set old i c) j) (chunk_at (slice_set old i c) (suc j)) in
    let few = length-set old i c in
    let within : suc j < length old = omega (arith, settled.inside) in
    let both = joined_count old i j c settled.near within count in
    subst (λ cs. AreApart cs) (sym (settled.chunks ∙ joined_chunks old i j c e settled.near))
    (apart_joined old j e filled apart within (omega arith))

pub settled_shrunk : {T : Type 0} (old new : List (List T)) (i : ℕ) (c : List T) (shape : Shape) → IsSettled (slice_set old i c) i shape new → i < length old → length c + 1 ≡ length (chunk_at old i) → IsShrunk old i shape new
settled_shrunk old new i c Same settled inside count =
    let at : chunk_at new i ≡ c = ap (λ cs. chunk_at cs i) settled.0 ∙ set_here old i c inside in
    (settled.0 ∙ ap (slice_set old i) (sym at), omega (arith, ap length at))
settled_shrunk old new i c Gone settled inside count =
    let none : length c ≡ 0 = ap length (sym (set_here old i c inside) ∙ settled.1) in
    (settled.0 ∙ remove-set old i c, omega arith)
settled_shrunk old new i c (Joined j) settled inside count =
    let e = chunk_at (slice_set old i c) j ++ chunk_at (slice_set old i c) (suc j) in
    let long = length-append (chunk_at (slice_set old i c) j) (chunk_at (slice_set old i c) (suc j)) in
    let few = length-set old i c in
    let within : suc j < length old = omega (arith, settled.inside) in
    let both = joined_count old i j c settled.near within count in
    let is : new ≡ slice_set (remove old (suc j)) j e = settled.chunks ∙ joined_chunks old i j c e settled.near in
    let left = length-remove old (suc j) within in
    let at : chunk_at new j ≡ e = ap (λ cs. chunk_at cs j) is ∙ set_here (remove old (suc j)) j e (omega arith) in
    record {
      inside = within;
      near = settled.near;
      count = omega (arith, ap length at);
      chunks = is ∙ ap (slice_set (remove old (suc j)) j) (sym at);
    }
