-- Neighbours stand apart once chunks are changed, so there are few chunks.
use Rattle.std.proofs.Common.{◌≡◌, ◌+◌, ◌*◌, ◌<◌, ◌≤◌, ◌++◌, ℕ, zero, suc, List, [], ◌∷◌, length, slice_set, ap, arith}
use Rattle.std.specs.List.{All, insert, remove}
use Rattle.std.proofs.lemmas.List.{length-append}
use Rattle.std.proofs.lemmas.List.Elements.{All-head, All-tail}
use Rattle.chunked.specs.Chunks.{whole, chunk_at, IsFilled, AreApart}

pub apart_next : {T : Type 0} (cs : List (List T)) (i : ℕ) → AreApart cs → suc i < length cs → 64 < length (chunk_at cs i) + length (chunk_at cs (suc i))
apart_next [] i apart inside = absurd (omega arith)
apart_next (c ∷ []) i apart inside = absurd (omega arith)
apart_next (c ∷ d ∷ cs) zero apart inside = apart.0
apart_next (c ∷ d ∷ cs) (suc i) apart inside = apart_next (d ∷ cs) i apart.1 (omega arith)

pub apart-set : {T : Type 0} (cs : List (List T)) (i : ℕ) (e : List T) → AreApart cs
    → (suc i < length cs → 64 < length e + length (chunk_at cs (suc i))) → ((j : ℕ) → suc j ≡ i → 64 < length (chunk_at cs j) + length e)
    → AreApart (slice_set cs i e)
apart-set [] i e apart next previous = tt
apart-set (c ∷ []) zero e apart next previous = (tt, tt)
apart-set (c ∷ []) (suc i) e apart next previous = (tt, tt)
apart-set (c ∷ d ∷ cs) zero e apart next previous = (next (omega arith), apart.1)
apart-set (c ∷ d ∷ cs) (suc zero) e apart next previous =
    (previous 0 (omega arith), apart-set (d ∷ cs) zero e apart.1 (λ more. next (omega arith)) (λ j is. absurd (omega arith)))
apart-set (c ∷ d ∷ cs) (suc (suc i)) e apart next previous =
    (apart.0, apart-set (d ∷ cs) (suc i) e apart.1 (λ more. next (omega arith)) (λ j is. previous (suc j) (ap suc is)))

pub apart_parted : {T : Type 0} (cs : List (List T)) (i : ℕ) (front back : List T) → All IsFilled cs → AreApart cs → i < length cs
    → 64 ≤ length front → 0 < length back → (suc i < length cs → 64 ≤ length back)
    → AreApart (insert (slice_set cs i front) (suc i) back)
apart_parted [] i front back filled apart inside long some half = absurd (omega arith)
apart_parted (c ∷ []) zero front back filled apart inside long some half = (omega arith, (tt, tt))
apart_parted (c ∷ []) (suc i) front back filled apart inside long some half = absurd (omega arith)
apart_parted (c ∷ d ∷ cs) zero front back filled apart inside long some half =
    let next = All-head IsFilled d cs (All-tail IsFilled c (d ∷ cs) filled) in
    let back_long : 64 ≤ length back = half (omega arith) in
    (omega arith, (omega arith, apart.1))
apart_parted (c ∷ d ∷ cs) (suc zero) front back filled apart inside long some half =
    let first = All-head IsFilled c (d ∷ cs) filled in
    (omega arith, apart_parted (d ∷ cs) zero front back (All-tail IsFilled c (d ∷ cs) filled) apart.1 (omega arith) long some (λ more. half (omega arith)))
apart_parted (c ∷ d ∷ cs) (suc (suc i)) front back filled apart inside long some half =
    (apart.0, apart_parted (d ∷ cs) (suc i) front back (All-tail IsFilled c (d ∷ cs) filled) apart.1 (omega arith) long some (λ more. half (omega arith)))

-- a chunk of one item may be left out, since each neighbour has half a chunk
pub apart_without : {T : Type 0} (cs : List (List T)) (i : ℕ) → AreApart cs → i < length cs → length (chunk_at cs i) ≤ 1 → AreApart (remove cs i)
apart_without [] i apart inside one = absurd (omega arith)
apart_without (c ∷ cs) zero apart inside one = apart.1
apart_without (c ∷ []) (suc i) apart inside one = absurd (omega arith)
apart_without (c ∷ d ∷ []) (suc zero) apart inside one = (tt, tt)
apart_without (c ∷ d ∷ e ∷ cs) (suc zero) apart inside one = (omega (arith, apart.0, apart.1.0), apart.1.1)
apart_without (c ∷ d ∷ cs) (suc (suc i)) apart inside one = (apart.0, apart_without (d ∷ cs) (suc i) apart.1 (omega arith) one)

-- two chunks that lost an item may be joined
pub apart_joined : {T : Type 0} (cs : List (List T)) (i : ℕ) (e : List T) → All IsFilled cs → AreApart cs → suc i < length cs
    → length (chunk_at cs i) + length (chunk_at cs (suc i)) ≤ length e + 1 → AreApart (slice_set (remove cs (suc i)) i e)
apart_joined [] i e filled apart inside both = absurd (omega arith)
apart_joined (c ∷ []) i e filled apart inside both = absurd (omega arith)
apart_joined (c ∷ d ∷ []) zero e filled apart inside both = (tt, tt)
apart_joined (c ∷ d ∷ []) (suc i) e filled apart inside both = absurd (omega arith)
apart_joined (c ∷ d ∷ f ∷ cs) zero e filled apart inside both =
    let first = All-head IsFilled c (d ∷ f ∷ cs) filled in
    (omega (arith, apart.1.0), apart.1.1)
apart_joined (c ∷ d ∷ f ∷ cs) (suc zero) e filled apart inside both =
    let rest = All-tail IsFilled c (d ∷ f ∷ cs) filled in
    let last = All-head IsFilled f cs (All-tail IsFilled d (f ∷ cs) rest) in
    (omega (arith, apart.0), apart_joined (d ∷ f ∷ cs) zero e rest apart.1 (omega arith) both)
apart_joined (c ∷ d ∷ f ∷ cs) (suc (suc i)) e filled apart inside both =
    (apart.0, apart_joined (d ∷ f ∷ cs) (suc i) e (All-tail IsFilled c (d ∷ f ∷ cs) filled) apart.1 (omega arith) both)

pub few_chunks : {T : Type 0} (cs : List (List T)) → AreApart cs → 32 * length cs ≤ length (whole cs) + 32
few_chunks [] apart = omega arith
few_chunks (c ∷ []) apart = omega arith
few_chunks (c ∷ d ∷ cs) apart =
    let rest : 32 * length cs ≤ length (whole cs) + 32 = few_chunks cs apart.1.1 in
    omega (arith, apart.0, length-append c (d ++ whole cs), length-append d (whole cs))
