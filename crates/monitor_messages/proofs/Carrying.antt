-- Where the kind of an operation stands, with the bytes before it.
use Rattle.std.proofs.Common.{◌≡◌, inl, inr, ℕ, List, [], ◌∷◌, Option, Some, None, refl, ap, sym, ◌∙◌, subst}
use Rattle.std.specs.Prelude.{Result, Ok, Err}
use Rattle.std.proofs.lemmas.Option.{same_Some}
use Rattle.monitor_messages.specs.declared.fault.DecodeFault.{DecodeFault}
use Rattle.monitor_messages.specs.declared.fault.DecodeFault.TheVariants as faults
use Rattle.monitor_messages.specs.Carrying.{IsLoading, LoadsAt, CarriesFrom, CarriesProgram}
use Rattle.monitor_messages.specs.Reading.{Fails, Gives, ended, u8_at, u64_at}

number_of : (x y : ℕ × List ℕ) → ◌≡◌ {A = Option (ℕ × List ℕ)} (Some x) (Some y) → x.0 ≡ y.0
number_of x y e = ap (λ (p : ℕ × List ℕ). p.0) (same_Some x y e)

rest_of : (x y : ℕ × List ℕ) → ◌≡◌ {A = Option (ℕ × List ℕ)} (Some x) (Some y) → x.1 ≡ y.1
rest_of x y e = ap (λ (p : ℕ × List ℕ). p.1) (same_Some x y e)

-- after a number of eight bytes
pub behind_u64 : (bytes : List ℕ) (n : ℕ) (rest : List ℕ) → u64_at bytes ≡ Some (n, rest) → LoadsAt 0 rest → LoadsAt 8 bytes
unfolding u64_at
behind_u64 (a ∷ b ∷ c ∷ d ∷ e ∷ f ∷ g ∷ h ∷ others) n rest is loads = subst (LoadsAt 0) (sym (rest_of _ (n, rest) is)) loads
behind_u64 bytes n rest is loads = absurd cc

-- after two of them
pub behind_stamp : (bytes : List ℕ) (n : ℕ) (rest : List ℕ) → u64_at bytes ≡ Some (n, rest) → LoadsAt 8 rest → LoadsAt 16 bytes
unfolding u64_at
behind_stamp (a ∷ b ∷ c ∷ d ∷ e ∷ f ∷ g ∷ h ∷ others) n rest is loads = subst (LoadsAt 8) (sym (rest_of _ (n, rest) is)) loads
behind_stamp bytes n rest is loads = absurd cc

-- after a message's kind and its stamp
pub behind_head : (bytes : List ℕ) (kind stamp : ℕ) (rest body : List ℕ) → u8_at bytes ≡ Some (kind, rest) → u64_at rest ≡ Some (stamp, body) → CarriesFrom kind body → CarriesProgram bytes
unfolding u8_at
behind_head [] kind stamp rest body is stamped carries = absurd cc
behind_head (b ∷ bytes) kind stamp rest body is stamped carries = by_kind carries
  where
    first : b ≡ kind
    first = number_of (b, bytes) (kind, rest) is

    same : rest ≡ bytes
    same = sym (rest_of (b, bytes) (kind, rest) is)

    at : u64_at bytes ≡ Some (stamp, body)
    at = subst (λ (r : List ℕ). u64_at r ≡ Some (stamp, body)) same stamped

    by_kind : CarriesFrom kind body → CarriesProgram (b ∷ bytes)
    by_kind (inl prepare) = inl (ap (λ (n : ℕ). Some n) (first ∙ prepare.0), behind_stamp bytes stamp body at prepare.1)
    by_kind (inr submit) = inr (ap (λ (n : ℕ). Some n) (first ∙ submit.0), behind_u64 bytes stamp body at submit.1)

-- an operation's own kind comes first
pub is_first : (bytes : List ℕ) (kind : ℕ) (rest : List ℕ) → u8_at bytes ≡ Some (kind, rest) → IsLoading kind → LoadsAt 0 bytes
unfolding u8_at
is_first [] kind rest is loading = absurd cc
is_first (b ∷ bytes) kind rest is loading = (kind, ap (λ (n : ℕ). Some n) (number_of (b, bytes) (kind, rest) is), loading)

-- The same the other way: what stands before is what stands here

pub past_u64 : (bytes : List ℕ) (n : ℕ) (rest : List ℕ) → u64_at bytes ≡ Some (n, rest) → LoadsAt 8 bytes → LoadsAt 0 rest
unfolding u64_at
past_u64 (a ∷ b ∷ c ∷ d ∷ e ∷ f ∷ g ∷ h ∷ others) n rest is loads = subst (LoadsAt 0) (rest_of _ (n, rest) is) loads
past_u64 bytes n rest is loads = absurd cc

pub past_stamp : (bytes : List ℕ) (n : ℕ) (rest : List ℕ) → u64_at bytes ≡ Some (n, rest) → LoadsAt 16 bytes → LoadsAt 8 rest
unfolding u64_at
past_stamp (a ∷ b ∷ c ∷ d ∷ e ∷ f ∷ g ∷ h ∷ others) n rest is loads = subst (LoadsAt 8) (rest_of _ (n, rest) is) loads
past_stamp bytes n rest is loads = absurd cc

pub past_head : (bytes : List ℕ) (kind stamp : ℕ) (rest body : List ℕ) → u8_at bytes ≡ Some (kind, rest) → u64_at rest ≡ Some (stamp, body) → CarriesProgram bytes → CarriesFrom kind body
unfolding u8_at
past_head [] kind stamp rest body is stamped carries = absurd cc
past_head (b ∷ bytes) kind stamp rest body is stamped carries = by_kind carries
  where
    first : kind ≡ b
    first = sym (number_of (b, bytes) (kind, rest) is)

    at : u64_at bytes ≡ Some (stamp, body)
    at = subst (λ (r : List ℕ). u64_at r ≡ Some (stamp, body)) (sym (rest_of (b, bytes) (kind, rest) is)) stamped

    by_kind : CarriesProgram (b ∷ bytes) → CarriesFrom kind body
    by_kind (inl prepare) = inl (first ∙ same_Some b 1 prepare.0, past_stamp bytes stamp body at prepare.1)
    by_kind (inr submit) = inr (first ∙ same_Some b 6 submit.0, past_u64 bytes stamp body at submit.1)

pub at_prepare : (kind : ℕ) (body : List ℕ) → CarriesFrom kind body → kind ≡ 1 → LoadsAt 8 body
at_prepare kind body (inl prepare) one = prepare.1
at_prepare kind body (inr submit) one = absurd (let six = submit.0 in cc)

pub at_submit : (kind : ℕ) (body : List ℕ) → CarriesFrom kind body → (kind ≡ 1 → ⊥) → (kind ≡ 6) × LoadsAt 0 body
at_submit kind body (inl prepare) other = absurd (other prepare.0)
at_submit kind body (inr submit) other = submit

pub first_is : (bytes : List ℕ) (kind : ℕ) (rest : List ℕ) → u8_at bytes ≡ Some (kind, rest) → LoadsAt 0 bytes → IsLoading kind
unfolding u8_at
first_is [] kind rest is loads = absurd cc
first_is (b ∷ bytes) kind rest is loads =
    subst IsLoading (sym (same_Some b loads.0 loads.1) ∙ number_of (b, bytes) (kind, rest) is) loads.2

-- a part that fails makes the whole fail
pub fails_in : {X Y : Type 0} (asks asks' : Type 0) (e : DecodeFault) (part : Option X) (whole : Option Y) → (asks → asks') → (part ≡ None → whole ≡ None) → Fails asks e part → Fails asks' e whole
fails_in asks asks' faults.NoMemory part whole more none fails = more fails
fails_in asks asks' faults.BadMessage part whole more none fails = none fails

-- a part that gives what the whole gives
pub gives_in : {X : Type 0} (asks asks' : Type 0) (r : Result X DecodeFault) (part whole : Option X) → (asks → asks') → whole ≡ part → Gives asks (λ x. x) r part → Gives asks' (λ x. x) r whole
gives_in asks asks' (Ok x) part whole more same gives = same ∙ gives
gives_in asks asks' (Err faults.NoMemory) part whole more same gives = more gives
gives_in asks asks' (Err faults.BadMessage) part whole more same gives = same ∙ gives

-- what ends is what was read before
pub ended_with : {U X : Type 0} (u : U) (x : X) (rest : List ℕ) (r : Result U DecodeFault) → Gives ⊥ (λ y. y) r (ended rest u) → Gives ⊥ (λ _. x) r (ended rest x)
ended_with u x [] (Ok y) gives = refl
ended_with u x (b ∷ rest) (Ok y) gives = absurd cc
ended_with u x [] (Err faults.BadMessage) gives = absurd cc
ended_with u x (b ∷ rest) (Err faults.BadMessage) gives = refl
ended_with u x rest (Err faults.NoMemory) gives = absurd gives
