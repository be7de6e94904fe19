-- The vectors of a list in chunks keep what is true of them.
use Rattle.std.proofs.Common.{◌≡◌, ◌+◌, ◌<◌, ◌≤◌, ℕ, zero, suc, Bool, false, List, [], ◌∷◌, length, slice_index_or, slice_set, vec_len, vec_capacity, map, get_or, refl, sym, ap, ◌∙◌, subst, arith}
use Rattle.std.specs.Global.{Vec}
use Rattle.std.specs.List.{All}
use Rattle.std.proofs.lemmas.List.{length-set, length-map, get_or-map}
use Rattle.std.proofs.lemmas.List.Edits.{length-remove}
use Rattle.std.proofs.lemmas.List.Elements.{All-set, All-get_or}
use Rattle.chunked.specs.declared.settling.Shape.{Shape}
use Rattle.chunked.specs.declared.settling.Shape.TheVariants.{Same, Gone, Joined}
use Rattle.chunked.specs.Chunks.{lists, chunk_at, room_at, AreWide, IsFilled, AreApart, IsParted, IsSettled, AreKept}
use Rattle.chunked.proofs.Apart.{apart_next, apart-set}
use Rattle.chunked.proofs.Kept.{longer_filled, longer_apart, parted_filled, parted_apart, settled_filled, settled_apart}
use Rattle.chunked.proofs.Vectors.{count, room_wide}

pub kept_longer : {T : Type 0} (old new : Vec (Vec T)) (spare : Vec T) (ready : Bool) (i : ℕ) (c : List T) → AreKept old spare ready → i < length (lists old.items)
    → lists new.items ≡ slice_set (lists old.items) i c → ((n : ℕ) → AreWide n old.items → AreWide n new.items)
    → length c ≡ length (chunk_at (lists old.items) i) + 1 → length (chunk_at (lists old.items) i) < 128 → AreKept new spare false
kept_longer old new spare ready i c kept inside is wider longer room = record {
  filled = subst (λ cs. All IsFilled cs) (sym is) (longer_filled (lists old.items) i c kept.filled longer room);
  apart = subst (λ cs. AreApart cs) (sym is) (longer_apart (lists old.items) i c kept.apart inside longer);
  wide = λ more. wider 128 (kept.wide (omega (arith, count old.items, count new.items, ap length is, length-set (lists old.items) i c)));
  empty = kept.empty;
  room = λ ready. cc;
}

pub kept_parted : {T : Type 0} (old new : Vec (Vec T)) (spare blank : Vec T) (ready : Bool) (i offset : ℕ) (item : T) → AreKept old spare ready → i < length (lists old.items)
    → IsParted (lists old.items) (lists new.items) i offset item → AreWide 128 old.items → (AreWide 128 old.items → AreWide 128 new.items) → blank.items ≡ [] → AreKept new blank false
kept_parted old new spare blank ready i offset item kept inside parted wide wider empty = record {
  filled = parted_filled (lists old.items) (lists new.items) i offset item parted kept.filled;
  apart = parted_apart (lists old.items) (lists new.items) i offset item parted kept.filled kept.apart inside;
  wide = λ more. wider wide;
  empty = empty;
  room = λ ready. cc;
}

-- a full chunk has room for its items, also where it is the only one
pub full_wide : {T : Type 0} (chunks : List (Vec T)) (i : ℕ) → i < length chunks → 128 ≤ length (chunk_at (lists chunks) i) → (1 < length chunks → AreWide 128 chunks) → AreWide 128 chunks
full_wide [] i inside full wide = absurd (omega arith)
full_wide (v ∷ []) i inside full wide = λ k d within.
    let one : k ≡ 0 = omega arith in
    let first : i ≡ 0 = omega arith in
    let long : 128 ≤ length v.items = subst (λ n. 128 ≤ length (chunk_at (lists (v ∷ [])) n)) first full in
    subst (λ n. 128 ≤ vec_capacity (slice_index_or (v ∷ []) n d)) (sym one) (omega (arith, v.ok.0, v.ok.1))
full_wide (v ∷ w ∷ chunks) i inside full wide = wide (omega arith)

pub kept_settled : {T : Type 0} (old mid new : Vec (Vec T)) (spare : Vec T) (ready : Bool) (i : ℕ) (c : List T) (shape : Shape) → AreKept old spare ready → i < length (lists old.items)
    → lists mid.items ≡ slice_set (lists old.items) i c → length c + 1 ≡ length (chunk_at (lists old.items) i)
    → IsSettled (lists mid.items) i shape (lists new.items) → ((n : ℕ) → AreWide n old.items → AreWide n new.items) → AreKept new spare false
kept_settled old mid new spare ready i c shape kept inside is shorter settled wider =
    let done = subst (λ cs. IsSettled cs i shape (lists new.items)) is settled in
    record {
      filled = settled_filled (lists old.items) (lists new.items) i c shape done inside kept.filled shorter;
      apart = settled_apart (lists old.items) (lists new.items) i c shape done inside kept.filled kept.apart shorter;
      wide = λ more. wider 128 (kept.wide (fewer shape done more));
      empty = kept.empty;
      room = λ ready. cc;
    }
  where
    same : length (slice_set (lists old.items) i c) ≡ length (lists old.items)
    same = length-set (lists old.items) i c

    fewer : (shape : Shape) → IsSettled (slice_set (lists old.items) i c) i shape (lists new.items) → 1 < length new.items → 1 < length old.items
    fewer Same done more = omega (arith, count old.items, count new.items, ap length done.0, same)
    fewer Gone done more = omega (arith, count old.items, count new.items, ap length done.0, same, length-remove (slice_set (lists old.items) i c) i (omega (arith, same)))
    fewer (Joined j) done more = omega (arith, count old.items, done.inside, same)

-- a chunk's items are replaced by as many
same_lengths : {T : Type 0} (cs : List (List T)) (i : ℕ) (c : List T) (k : ℕ) → length c ≡ length (chunk_at cs i) → length (chunk_at (slice_set cs i c) k) ≡ length (chunk_at cs k)
same_lengths [] i c k same = refl
same_lengths (d ∷ cs) zero c zero same = same
same_lengths (d ∷ cs) zero c (suc k) same = refl
same_lengths (d ∷ cs) (suc i) c zero same = refl
same_lengths (d ∷ cs) (suc i) c (suc k) same = same_lengths cs i c k same

wide_by_rooms : {T : Type 0} (n : ℕ) (old new : List (Vec T)) → map (λ v. vec_capacity v) new ≡ map (λ v. vec_capacity v) old → AreWide n old → AreWide n new
wide_by_rooms n old new same wide = λ k d within.
    let few = ap length same in
    let count_old = length-map old (λ v. vec_capacity v) in
    let count_new = length-map new (λ v. vec_capacity v) in
    let there : k < length old = omega arith in
    let room = room_wide n old k there wide in
    let read = get_or-map (λ v. vec_capacity v) new k d 0 within in
    omega (arith, ap (λ xs. get_or xs k 0) same)

pub kept-set : {T : Type 0} (old new : Vec (Vec T)) (spare : Vec T) (ready : Bool) (i : ℕ) (c : List T) → AreKept old spare ready → i < length (lists old.items) → lists new.items ≡ slice_set (lists old.items) i c
    → length c ≡ length (chunk_at (lists old.items) i) → map (λ v. vec_capacity v) new.items ≡ map (λ v. vec_capacity v) old.items → vec_len new ≡ vec_len old → vec_capacity new ≡ vec_capacity old → AreKept new spare ready
kept-set old new spare ready i c kept inside is same rooms len capacity =
    let cs = lists old.items in
    let few : length new.items ≡ length old.items = omega (arith, count old.items, count new.items, ap length is, length-set cs i c) in
    let here = All-get_or IsFilled cs i [] inside kept.filled in
    let first : length (chunk_at (lists new.items) 0) ≡ length (chunk_at cs 0) = ap (λ ds. length (chunk_at ds 0)) is ∙ same_lengths cs i c 0 same in
    let room_first : room_at new.items 0 ≡ room_at old.items 0 = ap (λ xs. get_or xs 0 0) rooms in
    record {
      filled = subst (λ ds. All IsFilled ds) (sym is) (All-set IsFilled cs i c (record { some = omega arith; most = omega arith }) kept.filled);
      apart = subst (λ ds. AreApart ds) (sym is)
          (apart-set cs i c kept.apart (λ more. omega (arith, apart_next cs i kept.apart more))
          (λ j at. let P : ℕ → Type 0 = λ k. k < length cs → length c ≡ length (chunk_at cs k) → 64 < length (chunk_at cs j) + length c in subst P at (λ within long. omega (arith, apart_next cs j kept.apart within)) inside same));
      wide = λ more. wide_by_rooms 128 old.items new.items rooms (kept.wide (omega arith));
      empty = kept.empty;
      room = λ is_ready.
          let had = kept.room is_ready in
          record {
            next = omega (arith, had.next);
            first = λ none. had.first (omega arith);
            alone = λ one short. omega (arith, had.alone (omega arith) (omega arith));
            full = λ one full. had.full (omega arith) (omega arith);
            more = λ more. had.more (omega arith);
          };
    }
