-- A number that is read is the number that was written, and what was written is read again.
use Rattle.std.proofs.Common.{◌≡◌, ℕ, zero, suc, ◌==◌, ◌^◌, ◌<◌, Bool, true, false, List, [], ◌∷◌, ◌++◌, get_or, Option, Some, None, refl, sym, ap, subst, ◌∙◌, append_assoc, arith}
use Rattle.std.specs.List.{AllByRecursion}
use Rattle.std.specs.Int.{w16, w32, w64, from_le_bytes, to_le_bytes}
use Rattle.std.proofs.lemmas.List.{append-nil}
use Rattle.std.proofs.lemmas.Bool.{eqb-true}
use Rattle.std.proofs.lemmas.Option.{same_Some}
use Rattle.std.proofs.lemmas.Nat.{le_bytes_2, le_bytes_4, le_bytes_8, from_le_bytes-to_le_bytes_2, from_le_bytes-to_le_bytes_4, from_le_bytes-to_le_bytes_8}
use Rattle.monitor_messages.specs.Reading.{◌>>=◌, choose, u8_at, u16_at, u32_at, u64_at, ended, last_u8, last_u16, last_u32, last_u64}

abbrev pub IsBytes : List ℕ → Type 0
IsBytes bytes = (i : ℕ) → get_or bytes i 0 < 256

pub IsBytes-front : (xs ys : List ℕ) → IsBytes (xs ++ ys) → IsBytes xs
IsBytes-front [] ys h i = omega arith
IsBytes-front (x ∷ xs) ys h zero = h 0
IsBytes-front (x ∷ xs) ys h (suc i) = IsBytes-front xs ys (λ j. h (suc j)) i

pub IsBytes-back : (xs ys : List ℕ) → IsBytes (xs ++ ys) → IsBytes ys
IsBytes-back [] ys h i = h i
IsBytes-back (x ∷ xs) ys h i = IsBytes-back xs ys (λ j. h (suc j)) i

-- the value of a step that did not fail
pub bind_some : {A B : Type 0} (r : Option A) (f : A → Option B) (y : B) → (r >>= f) ≡ Some y → (x : A) × (r ≡ Some x) × (f x ≡ Some y)
bind_some (Some x) f y e = (x, refl, e)
bind_some None f y e = absurd cc

-- a step that did not fail leads on
pub bind_is : {A B : Type 0} (r : Option A) (f : A → Option B) (x : A) → r ≡ Some x → (r >>= f) ≡ f x
bind_is r f x e = ap (λ o. o >>= f) e

-- what every row says of its number holds of the number that is looked up
pub by_rows : {A : Type 0} (P : ℕ → Type 0) (n : ℕ) (rows : List (ℕ × Option A)) (y : A) → AllByRecursion (λ row. row.1 ≡ Some y → P row.0) rows → choose n rows ≡ Some y → P n
by_rows P n [] y each e = absurd cc
by_rows P n (row ∷ rows) y each e = by_test (n == row.0) refl (by_rows P n rows y each.1)
  where
    by_test : (b : Bool) → (n == row.0) ≡ b → (choose n rows ≡ Some y → P n) → P n
    by_test true t rest = let here = rw t at e in subst P (sym (eqb-true n row.0 t)) (each.0 here)
    by_test false t rest = rest (rw t at e)

infixr 4 ◌⨾◌
-- the proofs for the rows, one after the other
abbrev pub ◌⨾◌ : {A B : Type 0} → A → B → A × B
a ⨾ b = (a, b)

-- what a reader took from the front
pub record Takes (bytes text rest : List ℕ) : Type 0 where
  pub parts : bytes ≡ text ++ rest
  pub rest_fits : IsBytes rest

pub Takes-then : (a x b y c : List ℕ) → Takes a x b → Takes b y c → Takes a (x ++ y) c
Takes-then a x b y c p q = record { parts = p.parts ∙ ap (λ (t : List ℕ). x ++ t) q.parts ∙ sym (append_assoc x y c); rest_fits = q.rest_fits }

-- from cells that were read
took : (front rest : List ℕ) (text bytes after : List ℕ) → text ≡ front → rest ≡ after → bytes ≡ front ++ rest → IsBytes bytes → Takes bytes text after
took front rest text bytes after t r b fits = record { parts = rw (t, ← r) b; rest_fits = rw (← r) (IsBytes-back front rest (rw (← b) fits)) }

abbrev found : ℕ → List ℕ → Option (ℕ × List ℕ)
found n rest = Some (n, rest)

number_is : (n m : ℕ) (rest after : List ℕ) → found n rest ≡ found m after → n ≡ m
number_is n m rest after e = ap (λ (p : ℕ × List ℕ). p.0) (same_Some (n, rest) (m, after) e)

rest_is : (n m : ℕ) (rest after : List ℕ) → found n rest ≡ found m after → rest ≡ after
rest_is n m rest after e = ap (λ (p : ℕ × List ℕ). p.1) (same_Some (n, rest) (m, after) e)

pub u8_takes : (bytes : List ℕ) (n : ℕ) (rest : List ℕ) → IsBytes bytes → u8_at bytes ≡ Some (n, rest) → Takes bytes (n ∷ []) rest × (n < 256)
unfolding u8_at
u8_takes [] n rest fits e = absurd cc
u8_takes (a ∷ more) n rest fits e =
    let k = number_is a n more rest e in
    (took (a ∷ []) more (n ∷ []) (a ∷ more) rest (ap (λ (x : ℕ). x ∷ []) (sym k)) (rest_is a n more rest e) refl fits, rw (← k) (fits 0))

pub u16_takes : (bytes : List ℕ) (n : ℕ) (rest : List ℕ) → IsBytes bytes → u16_at bytes ≡ Some (n, rest) → Takes bytes (to_le_bytes w16 n) rest × (n < 2 ^ 16)
unfolding u16_at
u16_takes [] n rest fits e = absurd cc
u16_takes (a ∷ []) n rest fits e = absurd cc
u16_takes (a ∷ b ∷ more) n rest fits e =
    let k = number_is (from_le_bytes w16 (a ∷ b ∷ [])) n more rest e in
    let front : IsBytes (a ∷ b ∷ []) = IsBytes-front (a ∷ b ∷ []) more fits in
    (took (a ∷ b ∷ []) more (to_le_bytes w16 n) (a ∷ b ∷ more) rest (le_bytes_2 (a ∷ b ∷ []) n refl front (sym k)) (rest_is (from_le_bytes w16 (a ∷ b ∷ [])) n more rest e) refl fits, omega (arith, k, fits 0, fits 1))

pub u32_takes : (bytes : List ℕ) (n : ℕ) (rest : List ℕ) → IsBytes bytes → u32_at bytes ≡ Some (n, rest) → Takes bytes (to_le_bytes w32 n) rest × (n < 2 ^ 32)
unfolding u32_at
u32_takes [] n rest fits e = absurd cc
u32_takes (a ∷ []) n rest fits e = absurd cc
u32_takes (a ∷ b ∷ []) n rest fits e = absurd cc
u32_takes (a ∷ b ∷ c ∷ []) n rest fits e = absurd cc
u32_takes (a ∷ b ∷ c ∷ d ∷ more) n rest fits e =
    let front : IsBytes (a ∷ b ∷ c ∷ d ∷ []) = IsBytes-front (a ∷ b ∷ c ∷ d ∷ []) more fits in
    let k = number_is (from_le_bytes w32 (a ∷ b ∷ c ∷ d ∷ [])) n more rest e in
    (took (a ∷ b ∷ c ∷ d ∷ []) more (to_le_bytes w32 n) (a ∷ b ∷ c ∷ d ∷ more) rest (le_bytes_4 (a ∷ b ∷ c ∷ d ∷ []) n refl front (sym k)) (rest_is (from_le_bytes w32 (a ∷ b ∷ c ∷ d ∷ [])) n more rest e) refl fits, omega (arith, k, fits 0, fits 1, fits 2, fits 3))

pub u64_takes : (bytes : List ℕ) (n : ℕ) (rest : List ℕ) → IsBytes bytes → u64_at bytes ≡ Some (n, rest) → Takes bytes (to_le_bytes w64 n) rest × (n < 2 ^ 64)
unfolding u64_at
u64_takes [] n rest fits e = absurd cc
u64_takes (a ∷ []) n rest fits e = absurd cc
u64_takes (a ∷ b ∷ []) n rest fits e = absurd cc
u64_takes (a ∷ b ∷ c ∷ []) n rest fits e = absurd cc
u64_takes (a ∷ b ∷ c ∷ d ∷ []) n rest fits e = absurd cc
u64_takes (a ∷ b ∷ c ∷ d ∷ f ∷ []) n rest fits e = absurd cc
u64_takes (a ∷ b ∷ c ∷ d ∷ f ∷ g ∷ []) n rest fits e = absurd cc
u64_takes (a ∷ b ∷ c ∷ d ∷ f ∷ g ∷ h ∷ []) n rest fits e = absurd cc
u64_takes (a ∷ b ∷ c ∷ d ∷ f ∷ g ∷ h ∷ i ∷ more) n rest fits e =
    let front : IsBytes (a ∷ b ∷ c ∷ d ∷ f ∷ g ∷ h ∷ i ∷ []) = IsBytes-front (a ∷ b ∷ c ∷ d ∷ f ∷ g ∷ h ∷ i ∷ []) more fits in
    let k = number_is (from_le_bytes w64 (a ∷ b ∷ c ∷ d ∷ f ∷ g ∷ h ∷ i ∷ [])) n more rest e in
    (took (a ∷ b ∷ c ∷ d ∷ f ∷ g ∷ h ∷ i ∷ []) more (to_le_bytes w64 n) (a ∷ b ∷ c ∷ d ∷ f ∷ g ∷ h ∷ i ∷ more) rest (le_bytes_8 (a ∷ b ∷ c ∷ d ∷ f ∷ g ∷ h ∷ i ∷ []) n refl front (sym k)) (rest_is (from_le_bytes w64 (a ∷ b ∷ c ∷ d ∷ f ∷ g ∷ h ∷ i ∷ [])) n more rest e) refl fits, omega (arith, k, fits 0, fits 1, fits 2, fits 3, fits 4, fits 5, fits 6, fits 7))

pub u16_again : (n : ℕ) (rest : List ℕ) → n < 2 ^ 16 → u16_at (to_le_bytes w16 n ++ rest) ≡ Some (n, rest)
unfolding u16_at
u16_again n rest lt = ap (λ (k : ℕ). found k rest) (from_le_bytes-to_le_bytes_2 n lt)

pub u32_again : (n : ℕ) (rest : List ℕ) → n < 2 ^ 32 → u32_at (to_le_bytes w32 n ++ rest) ≡ Some (n, rest)
unfolding u32_at
u32_again n rest lt = ap (λ (k : ℕ). found k rest) (from_le_bytes-to_le_bytes_4 n lt)

pub u64_again : (n : ℕ) (rest : List ℕ) → n < 2 ^ 64 → u64_at (to_le_bytes w64 n ++ rest) ≡ Some (n, rest)
unfolding u64_at
u64_again n rest lt = ap (λ (k : ℕ). found k rest) (from_le_bytes-to_le_bytes_8 n lt)

-- the last number

pub ended_some : {A : Type 0} (rest : List ℕ) (x y : A) → ended rest x ≡ Some y → (rest ≡ []) × (x ≡ y)
ended_some [] x y e = (refl, cc)
ended_some (b ∷ rest) x y e = absurd cc

-- nothing is left
pub whole : (bytes text rest : List ℕ) → Takes bytes text rest → rest ≡ [] → bytes ≡ text
whole bytes text rest t e = t.parts ∙ (ap (λ (r : List ℕ). text ++ r) e ∙ append-nil text)

pub last_u8_takes : (bytes : List ℕ) (n : ℕ) → IsBytes bytes → last_u8 bytes ≡ Some n → (bytes ≡ n ∷ []) × (n < 256)
unfolding last_u8
last_u8_takes bytes n fits e =
    let a = bind_some (u8_at bytes) (λ x. ended x.1 x.0) n e in
    let z = ended_some a.0.1 a.0.0 n a.2 in
    let t = u8_takes bytes a.0.0 a.0.1 fits a.1 in
    (rw (← z.1) (whole bytes (a.0.0 ∷ []) a.0.1 t.0 z.0), rw (← z.1) t.1)

pub last_u16_takes : (bytes : List ℕ) (n : ℕ) → IsBytes bytes → last_u16 bytes ≡ Some n → (bytes ≡ to_le_bytes w16 n) × (n < 2 ^ 16)
unfolding last_u16
last_u16_takes bytes n fits e =
    let a = bind_some (u16_at bytes) (λ x. ended x.1 x.0) n e in
    let z = ended_some a.0.1 a.0.0 n a.2 in
    let t = u16_takes bytes a.0.0 a.0.1 fits a.1 in
    (rw (← z.1) (whole bytes (to_le_bytes w16 a.0.0) a.0.1 t.0 z.0), rw (← z.1) t.1)

pub last_u32_takes : (bytes : List ℕ) (n : ℕ) → IsBytes bytes → last_u32 bytes ≡ Some n → (bytes ≡ to_le_bytes w32 n) × (n < 2 ^ 32)
unfolding last_u32
last_u32_takes bytes n fits e =
    let a = bind_some (u32_at bytes) (λ x. ended x.1 x.0) n e in
    let z = ended_some a.0.1 a.0.0 n a.2 in
    let t = u32_takes bytes a.0.0 a.0.1 fits a.1 in
    (rw (← z.1) (whole bytes (to_le_bytes w32 a.0.0) a.0.1 t.0 z.0), rw (← z.1) t.1)

pub last_u64_takes : (bytes : List ℕ) (n : ℕ) → IsBytes bytes → last_u64 bytes ≡ Some n → (bytes ≡ to_le_bytes w64 n) × (n < 2 ^ 64)
unfolding last_u64
last_u64_takes bytes n fits e =
    let a = bind_some (u64_at bytes) (λ x. ended x.1 x.0) n e in
    let z = ended_some a.0.1 a.0.0 n a.2 in
    let t = u64_takes bytes a.0.0 a.0.1 fits a.1 in
    (rw (← z.1) (whole bytes (to_le_bytes w64 a.0.0) a.0.1 t.0 z.0), rw (← z.1) t.1)

pub last_u8_again : (n : ℕ) → last_u8 (n ∷ []) ≡ Some n
unfolding last_u8 u8_at
last_u8_again n = refl

pub last_u16_again : (n : ℕ) → n < 2 ^ 16 → last_u16 (to_le_bytes w16 n) ≡ Some n
unfolding last_u16
last_u16_again n lt = bind_is _ (λ (x : ℕ × List ℕ). ended x.1 x.0) (n, []) (u16_again n [] lt)

pub last_u32_again : (n : ℕ) → n < 2 ^ 32 → last_u32 (to_le_bytes w32 n) ≡ Some n
unfolding last_u32
last_u32_again n lt = bind_is _ (λ (x : ℕ × List ℕ). ended x.1 x.0) (n, []) (u32_again n [] lt)

pub last_u64_again : (n : ℕ) → n < 2 ^ 64 → last_u64 (to_le_bytes w64 n) ≡ Some n
unfolding last_u64
last_u64_again n lt = bind_is _ (λ (x : ℕ × List ℕ). ended x.1 x.0) (n, []) (u64_again n [] lt)
