-- A map keeps the first keys of its chunks.
use Rattle.std.proofs.Common.{◌≡◌, ◌+◌, ◌-◌, ◌<◌, ◌≤◌, ◌++◌, ℕ, zero, suc, Bool, true, false, List, [], ◌∷◌, Some, None, length, map, get_or, slice_get, slice_set, take, drop, refl, sym, ap, ◌∙◌, subst, arith}
use Rattle.std.specs.Global.{Vec}
use Rattle.std.specs.List.{insert, remove}
use Rattle.std.proofs.lemmas.List.{length-append, length-set, map-set, set-get_or, get_or-map}
use Rattle.std.proofs.lemmas.List.Edits.{length-insert, length-remove}
use Rattle.chunked.specs.Chunks.{whole, before, chunk_at}
use Rattle.chunked.specs.Chunking.{Chunking}
use Rattle.chunked.specs.Maps.{SortedMap, value_at}
use Rattle.chunked.specs.Entries.{first_key, AreRising, AreFirsts, IsCut, IsFound}
use Rattle.chunked.proofs.Whole.{whole_around, get_in, set_in}
use Rattle.chunked.proofs.Rising.{rising-insert, rising-remove, rising-set}

-- a map and whether one more insert takes no memory
abbrev pub mapped : {V : Type 0} → List (ℕ × V) → Bool → SortedMap V
mapped es ready = record { entries = es; ready = ready }

pub same_map : {V : Type 0} (xs ys : List (ℕ × V)) (a b : Bool) → xs ≡ ys → a ≡ b → mapped xs a ≡ mapped ys b
same_map xs ys a b same alike = ap (λ zs. mapped zs a) same ∙ ap (λ r. mapped ys r) alike

pub place_within : {T : Type 0} (cs : List (List T)) (i off : ℕ) → i < length cs → off ≤ length (chunk_at cs i) → before cs i + off ≤ length (whole cs)
place_within cs i off inside within =
    omega (arith, ap length (whole_around cs i inside), length-append (whole (take i cs)) (chunk_at cs i ++ whole (drop (suc i) cs)), length-append (chunk_at cs i) (whole (drop (suc i) cs)))

pub at_place : {T : Type 0} (xs : List T) (n : ℕ) → n < length xs → (x : T) × (slice_get xs n ≡ Some x)
at_place [] n inside = absurd (omega arith)
at_place (x ∷ xs) zero inside = (x, refl)
at_place (x ∷ xs) (suc n) inside = at_place xs n (omega arith)

-- where a key is, as an entry of the whole list
pub record IsEntry {V : Type 0} (es : List (ℕ × V)) (place key : ℕ) : Type 0 where
  pub entry : ℕ × V
  pub at : slice_get es place ≡ Some entry
  pub key_is : entry.0 ≡ key

pub found_entry : {V : Type 0} (cs : List (List (ℕ × V))) (i off key : ℕ) → IsFound cs i off key → IsEntry (whole cs) (before cs i + off) key
found_entry cs i off key found =
    let there = at_place (chunk_at cs i) off found.inside in
    record {
      entry = there.0;
      at = get_in cs i off there.0 found.place.inside there.1;
      key_is = found.entry there.0 there.1;
    }

pub are_firsts_inserted : {V : Type 0} (old new : Chunking (ℕ × V)) (firsts after : Vec ℕ) (total place key : ℕ) (value : V) → AreFirsts old firsts total → old.ready ≡ true → place ≤ length (whole old.chunks)
    → IsCut key (whole old.chunks) place → value_at (whole old.chunks) key ≡ None → whole new.chunks ≡ insert (whole old.chunks) place (key, value) → new.ready ≡ false → after.items ≡ map first_key new.chunks → AreFirsts new after (total + 1)
are_firsts_inserted old new firsts after total place key value are was within cut absent items ready keys = record {
  keys = keys;
  rising = subst (λ es. AreRising es) (sym items) (rising-insert (whole old.chunks) place key value are.rising cut absent);
  count = omega (arith, are.count, ap length items, length-insert (whole old.chunks) place (key, value) within);
  fits = are.more was;
  room = λ now. cc;
  more = λ now. cc;
}

pub are_firsts_removed : {V : Type 0} (old new : Chunking (ℕ × V)) (firsts after : Vec ℕ) (total place : ℕ) → AreFirsts old firsts total → place < length (whole old.chunks)
    → whole new.chunks ≡ remove (whole old.chunks) place → new.ready ≡ false → after.items ≡ map first_key new.chunks → AreFirsts new after (total - 1)
are_firsts_removed old new firsts after total place are within items ready keys = record {
  keys = keys;
  rising = subst (λ es. AreRising es) (sym items) (rising-remove (whole old.chunks) place are.rising);
  count = omega (arith, are.count, ap length items, length-remove (whole old.chunks) place within);
  fits = omega (arith, are.fits);
  room = λ now. cc;
  more = λ now. cc;
}

first-set : {V : Type 0} (c : List (ℕ × V)) (off key : ℕ) (value : V) (e : ℕ × V) → slice_get c off ≡ Some e → e.0 ≡ key → first_key (slice_set c off (key, value)) ≡ first_key c
first-set [] off key value e at is = refl
first-set (x ∷ c) zero key value e at is =
    let same : x ≡ e = cc in
    sym (ap (λ y. y.0) same ∙ is)
first-set (x ∷ c) (suc off) key value e at is = refl

pub are_firsts-set : {V : Type 0} (old new : Chunking (ℕ × V)) (firsts : Vec ℕ) (total i off key : ℕ) (value : V) → AreFirsts old firsts total → IsFound old.chunks i off key
    → new ≡ record { chunks = slice_set old.chunks i (slice_set (chunk_at old.chunks i) off (key, value)); ready = old.ready } → AreFirsts new firsts total
are_firsts-set old new firsts total i off key value are found is =
    let cs = old.chunks in
    let there = at_place (chunk_at cs i) off found.inside in
    let entry = found_entry cs i off key found in
    let items : whole new.chunks ≡ slice_set (whole cs) (before cs i + off) (key, value) = ap (λ v. whole v.chunks) is ∙ set_in cs i off (key, value) found.place.inside found.inside in
    let c = slice_set (chunk_at cs i) off (key, value) in
    let first : first_key c ≡ get_or (map first_key cs) i 0 =
    first-set (chunk_at cs i) off key value there.0 there.1 (found.entry there.0 there.1) ∙ sym (get_or-map first_key cs i [] 0 found.place.inside) in
    let ready : new.ready ≡ old.ready = ap (λ v. v.ready) is in
    record {
      keys = are.keys ∙ sym (ap (λ v. map first_key v.chunks) is ∙ map-set first_key cs i c ∙ ap (slice_set (map first_key cs) i) first ∙ set-get_or (map first_key cs) i 0);
      rising = subst (λ es. AreRising es) (sym items) (rising-set (whole cs) (before cs i + off) key value entry.entry are.rising entry.at entry.key_is);
      count = are.count ∙ sym (ap length items ∙ length-set (whole cs) (before cs i + off) (key, value));
      fits = are.fits;
      room = λ now. are.room (sym ready ∙ now);
      more = λ now. are.more (sym ready ∙ now);
    }
