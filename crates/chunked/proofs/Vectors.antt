-- Vectors as the lists that they hold.
use Rattle.std.proofs.Common.{◌≡◌, ◌<◌, ◌≤◌, ◌++◌, ℕ, suc, List, [], ◌∷◌, length, map, take, drop, sym, ap, ◌∙◌, subst, vec_capacity, arith, get_or}
use Rattle.std.specs.Global.{Vec}
use Rattle.std.specs.List.{All, insert, remove}
use Rattle.std.proofs.lemmas.List.{get_or-map, map-append, take-map, drop-map, length-map}
use Rattle.std.proofs.lemmas.List.Elements.{All-append, All-cons, All-take, All-drop, All-get_or}
use Rattle.chunked.specs.Chunks.{lists, chunk_at, room_at, AreWide}

pub All-insert : {X : Type 0} (P : X → Type 0) (xs : List X) (i : ℕ) (x : X) → All P xs → P x → All P (insert xs i x)
All-insert P xs i x all here = All-append P (take i xs) (x ∷ drop i xs) (All-take P i xs all) (All-cons P x (drop i xs) here (All-drop P i xs all))

pub All-remove : {X : Type 0} (P : X → Type 0) (xs : List X) (i : ℕ) → All P xs → All P (remove xs i)
All-remove P xs i all = All-append P (take i xs) (drop (suc i) xs) (All-take P i xs all) (All-drop P (suc i) xs all)

pub map-insert : {X Y : Type 0} (f : X → Y) (xs : List X) (i : ℕ) (x : X) → map f (insert xs i x) ≡ insert (map f xs) i (f x)
map-insert f xs i x = map-append f (take i xs) (x ∷ drop i xs) ∙ ap (λ front. front ++ (f x ∷ map f (drop i xs))) (sym (take-map f i xs)) ∙ ap (λ rest. take i (map f xs) ++ (f x ∷ rest)) (sym (drop-map f i xs))

pub map-remove : {X Y : Type 0} (f : X → Y) (xs : List X) (i : ℕ) → map f (remove xs i) ≡ remove (map f xs) i
map-remove f xs i = map-append f (take i xs) (drop (suc i) xs) ∙ ap (λ front. front ++ map f (drop (suc i) xs)) (sym (take-map f i xs)) ∙ ap (λ rest. take i (map f xs) ++ rest) (sym (drop-map f (suc i) xs))

-- what is read of a vector of vectors
pub list_read : {T : Type 0} (chunks : List (Vec T)) (i : ℕ) (c : Vec T) → i < length chunks → c ≡ get_or chunks i c → chunk_at (lists chunks) i ≡ c.items
list_read chunks i c inside read = get_or-map (λ v. v.items) chunks i c [] inside ∙ ap (λ v. v.items) (sym read)

pub room_read : {T : Type 0} (chunks : List (Vec T)) (i : ℕ) (c : Vec T) → i < length chunks → c ≡ get_or chunks i c → room_at chunks i ≡ vec_capacity c
room_read chunks i c inside read = get_or-map (λ v. vec_capacity v) chunks i c 0 inside ∙ ap (λ v. vec_capacity v) (sym read)

pub count : {T : Type 0} (chunks : List (Vec T)) → length (lists chunks) ≡ length chunks
count chunks = length-map chunks (λ v. v.items)

pub room_wide : {T : Type 0} (n : ℕ) (chunks : List (Vec T)) (i : ℕ) → i < length chunks → AreWide n chunks → n ≤ room_at chunks i
room_wide n [] i inside wide = absurd (omega arith)
room_wide n (v ∷ chunks) i inside wide =
    subst (λ m. n ≤ m) (sym (get_or-map (λ w. vec_capacity w) (v ∷ chunks) i v 0 inside)) (All-get_or (λ w. n ≤ vec_capacity w) (v ∷ chunks) i v inside wide)
