-- A message to each of the other cores.
use Rattle.std.proofs.Common.{◌≡◌, ◌∙◌, ◌++◌, ◌∷◌, ◌+◌, ◌≤◌, ◌<◌, ◌⊎◌, inl, inr, ℕ, suc, Some, List, [], length, map, slice_get, slice_set, slice_index_or, refl, sym, subst, arith}
use Rattle.std.specs.List.{All}
use Rattle.std.proofs.lemmas.Option.{slice_get-get_or, get_or_from_slice_get, slice_get_within}
use Rattle.monitor_messages.specs.declared.message.Message.{Message}
use Rattle.world_core.specs.declared.peer.Peer.{Peer}
use Rattle.std.proofs.lemmas.List.{length-map}
use Rattle.world_model.specs.Worlds as worlds
use Rattle.world_core.specs.Keeping.{seen_peer, EachMatches, Readied, IsSent, HasRoom, RoomAt, RoomBelow, RoomFrom}
use Rattle.world_model.proofs.Lists.{get-set_same, get-set_other, length-slice_set, get_end, get_map, same_or_not}
use Rattle.filter_table.proofs.Positions.{get_front, get_at}

-- the core at a place is now this one
pub set_at : {P : Type 0} (xs : List P) (i k : ℕ) (q x : P) → i < length xs → slice_get (slice_set xs i q) k ≡ Some x → ((i ≡ k) × (x ≡ q)) ⊎ ((i ≡ k → ⊥) × (slice_get xs k ≡ Some x))
set_at xs i k q x inside at = by_place (same_or_not i k)
  where
    by_place : ((i ≡ k) ⊎ (i ≡ k → ⊥)) → ((i ≡ k) × (x ≡ q)) ⊎ ((i ≡ k → ⊥) × (slice_get xs k ≡ Some x))
    by_place (inl e) =
        let there : slice_get (slice_set xs i q) i ≡ Some x = subst (λ (n : ℕ). slice_get (slice_set xs i q) n ≡ Some x) (sym e) at in
        let old = get_at xs i inside in
        let s = get-set_same xs i q old.0 old.1 in
        inl (e, cc)
    by_place (inr ne) = inr (ne, sym (get-set_other xs i k q ne) ∙ at)

pub readied_then : {C Piece : Type 0} (messages : C → List Message) (p q r : Peer C Piece) → Readied messages p q → Readied messages q r → Readied messages p r
readied_then messages p q r a b = record { core = b.core ∙ a.core; down = b.down ∙ a.down; up = b.up ∙ a.up }

pub readied_set : {C Piece : Type 0} (messages : C → List Message) (first peers : List (Peer C Piece)) (i : ℕ) (d q : Peer C Piece) → i < length peers → EachMatches (Readied messages) first peers → Readied messages (slice_index_or peers i d) q
    → EachMatches (Readied messages) first (slice_set peers i q)
readied_set {C} {Piece} messages first peers i d q inside m here = (length-slice_set peers i q ∙ m.0, λ k p p' a b. by_place k p p' a (set_at peers i k q p' inside b))
  where
    by_place : (k : ℕ) (p p' : Peer C Piece) → slice_get first k ≡ Some p → (((i ≡ k) × (p' ≡ q)) ⊎ ((i ≡ k → ⊥) × (slice_get peers k ≡ Some p'))) → Readied messages p p'
    by_place k p p' a (inr x) = m.1 k p p' a x.1
    by_place k p p' a (inl x) =
        let mid : slice_get peers k ≡ Some (slice_index_or peers i d) = subst (λ (n : ℕ). slice_get peers n ≡ Some (slice_index_or peers i d)) x.0 (slice_get-get_or peers i d inside) in
        rw x.1 (readied_then messages p (slice_index_or peers i d) q (m.1 k p (slice_index_or peers i d) a mid) here)

pub readied_none : {C Piece : Type 0} (messages : C → List Message) (peers : List (Peer C Piece)) → EachMatches (Readied messages) peers peers
readied_none {C} {Piece} messages peers = (refl, λ k p p' a b. (let e : p ≡ p' = cc in subst (λ (x : Peer C Piece). Readied messages p x) e (record { core = refl; down = refl; up = refl })))

pub readied_at : {C Piece : Type 0} (messages : C → List Message) (peers : List (Peer C Piece)) (i : ℕ) (d q : Peer C Piece) → i < length peers → Readied messages (slice_index_or peers i d) q → EachMatches (Readied messages) peers (slice_set peers i q)
readied_at messages peers i d q inside here = readied_set messages peers peers i d q inside (readied_none messages peers) here

pub room_here : {C Piece : Type 0} (spare : C → ℕ) (peers : List (Peer C Piece)) (i : ℕ) (q : Peer C Piece) → i < length peers → HasRoom spare q → RoomAt spare (slice_set peers i q) i
room_here spare peers i q inside here p at = by_place (set_at peers i i q p inside at)
  where
    by_place : (((i ≡ i) × (p ≡ q)) ⊎ ((i ≡ i → ⊥) × (slice_get peers i ≡ Some p))) → HasRoom spare p
    by_place (inl x) = rw x.1 here
    by_place (inr x) = absurd (x.0 refl)

pub room_set : {C Piece : Type 0} (spare : C → ℕ) (peers : List (Peer C Piece)) (i : ℕ) (q : Peer C Piece) → i < length peers → RoomBelow spare peers i → HasRoom spare q → RoomBelow spare (slice_set peers i q) (i + 1)
room_set spare peers i q inside below here k p lt at = by_place (set_at peers i k q p inside at)
  where
    by_place : (((i ≡ k) × (p ≡ q)) ⊎ ((i ≡ k → ⊥) × (slice_get peers k ≡ Some p))) → HasRoom spare p
    by_place (inl x) = rw x.1 here
    by_place (inr x) = below k p (omega (arith, x.0)) x.1

pub room_all : {C Piece : Type 0} (spare : C → ℕ) (peers : List (Peer C Piece)) (n : ℕ) → length peers ≤ n → RoomBelow spare peers n → RoomFrom spare peers 0
room_all spare peers n long below k p le at = below k p (omega (arith, long, slice_get_within peers k p at)) at

-- the cores before this entry have the message, and the others are as they were
pub record SentBelow {C Piece : Type 0} (messages : C → List Message) (m : Message) (first peers : List (Peer C Piece)) (n : ℕ) : Type 0 where
  pub long : length peers ≡ length first
  pub before : (k : ℕ) (p p' : Peer C Piece) → k < n → slice_get first k ≡ Some p → slice_get peers k ≡ Some p' → IsSent messages m p p'
  pub from : (k : ℕ) → n ≤ k → slice_get peers k ≡ slice_get first k

pub sent_none : {C Piece : Type 0} (messages : C → List Message) (m : Message) (peers : List (Peer C Piece)) → SentBelow messages m peers peers 0
sent_none messages m peers = record { long = refl; before = λ k p p' lt a b. absurd (omega (arith, lt)); from = λ k le. refl }

pub sent_set : {C Piece : Type 0} (messages : C → List Message) (m : Message) (first peers : List (Peer C Piece)) (i : ℕ) (d q : Peer C Piece) → i < length peers → SentBelow messages m first peers i → IsSent messages m (slice_index_or peers i d) q
    → SentBelow messages m first (slice_set peers i q) (i + 1)
sent_set {C} {Piece} messages m first peers i d q inside s here = record {
  long = length-slice_set peers i q ∙ s.long;
  before = λ k p p' lt a b. by_place k p p' lt a (set_at peers i k q p' inside b);
  from = λ k le. get-set_other peers i k q (λ e. omega (arith, e)) ∙ s.from k (omega arith);
}
  where
    by_place : (k : ℕ) (p p' : Peer C Piece) → k < i + 1 → slice_get first k ≡ Some p → (((i ≡ k) × (p' ≡ q)) ⊎ ((i ≡ k → ⊥) × (slice_get peers k ≡ Some p'))) → IsSent messages m p p'
    by_place k p p' lt a (inr x) = s.before k p p' (omega (arith, x.0)) a x.1
    by_place k p p' lt a (inl x) =
        let mid : slice_get peers i ≡ Some (slice_index_or peers i d) = slice_get-get_or peers i d inside in
        let old : slice_get peers i ≡ slice_get first i = s.from i (omega arith) in
        let there : slice_get first i ≡ Some p = subst (λ (n : ℕ). slice_get first n ≡ Some p) (sym x.0) a in
        let same : slice_index_or peers i d ≡ p = cc in
        rw (x.1, ← same) here

pub sent_all : {C Piece : Type 0} (messages : C → List Message) (m : Message) (first peers : List (Peer C Piece)) (n : ℕ) → length peers ≤ n → SentBelow messages m first peers n → EachMatches (IsSent messages m) first peers
sent_all messages m first peers n long s = (s.long, λ k p p' a b. s.before k p p' (omega (arith, long, slice_get_within peers k p' b)) a b)

pub room_from_set : {C Piece : Type 0} (spare : C → ℕ) (peers : List (Peer C Piece)) (i : ℕ) (q : Peer C Piece) → RoomFrom spare peers i → RoomFrom spare (slice_set peers i q) (i + 1)
room_from_set spare peers i q room k p le at = room k p (omega arith) (sym (get-set_other peers i k q (λ e. omega (arith, e))) ∙ at)

-- The last of a list, and those before it

pub all_front : {A : Type 0} (P : A → Type 0) (xs ys : List A) (x : A) → ys ≡ xs ++ x ∷ [] → All P ys → All P xs
all_front P xs ys x more all k d lt =
    let at : slice_get ys k ≡ Some (slice_index_or xs k d) = subst (λ zs. slice_get zs k ≡ Some (slice_index_or xs k d)) (sym more) (get_front xs (x ∷ []) k (slice_index_or xs k d) (slice_get-get_or xs k d lt)) in
    subst P (get_or_from_slice_get ys k (slice_index_or xs k d) d at) (all k d (slice_get_within ys k (slice_index_or xs k d) at))

pub all_last : {A : Type 0} (P : A → Type 0) (xs ys : List A) (x : A) → ys ≡ xs ++ x ∷ [] → All P ys → P x
all_last P xs ys x more all =
    let at : slice_get ys (length xs) ≡ Some x = subst (λ zs. slice_get zs (length xs) ≡ Some x) (sym more) (get_end xs x) in
    subst P (get_or_from_slice_get ys (length xs) x x at) (all (length xs) x (slice_get_within ys (length xs) x at))

-- Lists with the same at each place

list_same : {A : Type 0} (xs ys : List A) → length xs ≡ length ys → ((k : ℕ) (x y : A) → slice_get xs k ≡ Some x → slice_get ys k ≡ Some y → x ≡ y) → xs ≡ ys
list_same [] [] long same = refl
list_same [] (y ∷ ys) long same = absurd (omega (arith, long))
list_same (x ∷ xs) [] long same = absurd (omega (arith, long))
list_same (x ∷ xs) (y ∷ ys) long same =
    let first : x ≡ y = same 0 x y refl refl in
    let rest = list_same xs ys (omega (arith, long)) (λ k a b p q. same (suc k) a b p q) in
    rw (first, rest) refl

-- nothing shows of a message that is ready
pub readied_seen : {C Piece : Type 0} (messages : C → List Message) (peers peers' : List (Peer C Piece)) → EachMatches (Readied messages) peers peers' → map (seen_peer messages) peers' ≡ map (seen_peer messages) peers
readied_seen messages peers peers' m = list_same (map (seen_peer messages) peers') (map (seen_peer messages) peers) (length-map peers' (seen_peer messages) ∙ (m.0 ∙ sym (length-map peers (seen_peer messages))))
    (λ k x y a b.
    let p' = get_map (seen_peer messages) peers' k x a in
    let p = get_map (seen_peer messages) peers k y b in
    let r = m.1 k p.0 p'.0 p.1 p'.1 in
    rw (p'.2, p.2, r.core, r.down, r.up) refl)

-- a message that is put for each shows at each
pub sent_seen : {C Piece : Type 0} (messages : C → List Message) (m : Message) (peers peers' : List (Peer C Piece)) → EachMatches (IsSent messages m) peers peers' → map (seen_peer messages) peers' ≡ map (worlds.send m) (map (seen_peer messages) peers)
sent_seen messages m peers peers' e = list_same (map (seen_peer messages) peers') (map (worlds.send m) (map (seen_peer messages) peers))
    (length-map peers' (seen_peer messages) ∙ (e.0 ∙ (sym (length-map peers (seen_peer messages)) ∙ sym (length-map (map (seen_peer messages) peers) (worlds.send m)))))
    (λ k x y a b.
    let p' = get_map (seen_peer messages) peers' k x a in
    let s = get_map (worlds.send m) (map (seen_peer messages) peers) k y b in
    let p = get_map (seen_peer messages) peers k s.0 s.1 in
    let r = e.1 k p.0 p'.0 p.1 p'.1 in
    rw (p'.2, s.2, p.2, r.core, r.down, r.up) refl)
