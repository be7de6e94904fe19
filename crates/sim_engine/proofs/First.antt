-- The first request of a core is there or not, and is one.
use Rattle.std.proofs.Common.{◌≡◌, ◌≢◌, ◌⊎◌, inl, inr, ℕ, List, [], ◌∷◌, ◌++◌, refl, ap, sym, ◌∙◌, subst}
use Rattle.std.proofs.lemmas.Bool.{cases_eq}
use Rattle.sim_engine.specs.declared.requests.PendingRequest.{PendingRequest}
use Rattle.sim_engine.specs.Pending.{FirstAt, NoneAt}

pub record Found (home : ℕ) (pending : List PendingRequest) : Type 0 where
  pub first : PendingRequest
  pub rest : List PendingRequest
  pub is_first : FirstAt home pending first rest

pub first_or_none : (home : ℕ) (pending : List PendingRequest) → NoneAt home pending ⊎ Found home pending
first_or_none home [] = inl cc
first_or_none home (request ∷ pending) = by (cases_eq request.home home) (first_or_none home pending)
  where
    by : (request.home ≡ home) ⊎ (request.home ≢ home) → NoneAt home pending ⊎ Found home pending → NoneAt home (request ∷ pending) ⊎ Found home (request ∷ pending)
    by (inl here) later =
        inr (record { first = request; rest = pending; is_first = record { earlier = []; later = pending; is = refl; at_home = here; none_earlier = cc; without = refl } })
    by (inr other) (inl none) = inl (other, none)
    by (inr other) (inr found) = let f = found.is_first in inr (record {
      first = found.first;
      rest = request ∷ found.rest;
      is_first = record {
        earlier = request ∷ f.earlier;
        later = f.later;
        is = ap (λ (rs : List PendingRequest). request ∷ rs) f.is;
        at_home = f.at_home;
        none_earlier = (other, f.none_earlier);
        without = ap (λ (rs : List PendingRequest). request ∷ rs) f.without;
      };
    })

among : (home : ℕ) (earlier later : List PendingRequest) (first : PendingRequest) → first.home ≡ home → NoneAt home (earlier ++ first ∷ later) → ⊥
among home [] later first here none = none.0 here
among home (request ∷ earlier) later first here none = among home earlier later first here none.1

pub not_none : (home : ℕ) (pending : List PendingRequest) (first : PendingRequest) (rest : List PendingRequest) → FirstAt home pending first rest → NoneAt home pending → ⊥
not_none home pending first rest f none = among home f.earlier f.later first f.at_home (subst (NoneAt home) f.is none)

same_places : (home : ℕ) (earlier earlier' later later' : List PendingRequest) (first first' : PendingRequest) → first.home ≡ home → first'.home ≡ home → NoneAt home earlier → NoneAt home earlier' → earlier ++ first ∷ later ≡ earlier' ++ first' ∷ later'
    → (first ≡ first') × (earlier ++ later ≡ earlier' ++ later')
same_places home [] [] later later' first first' here here' none none' e = (cc, cc)
same_places home [] (r ∷ earlier') later later' first first' here here' none none' e = let is : first ≡ r = cc in absurd (none'.0 (ap (λ (x : PendingRequest). x.home) (sym is) ∙ here))
same_places home (r ∷ earlier) [] later later' first first' here here' none none' e = let is : r ≡ first' = cc in absurd (none.0 (ap (λ (x : PendingRequest). x.home) is ∙ here'))
same_places home (r ∷ earlier) (r' ∷ earlier') later later' first first' here here' none none' e =
    let is : r ≡ r' = cc in
    let tails : earlier ++ first ∷ later ≡ earlier' ++ first' ∷ later' = cc in
    let rest = same_places home earlier earlier' later later' first first' here here' none.1 none'.1 tails in
    (rest.0, ap (λ (x : PendingRequest). x ∷ (earlier ++ later)) is ∙ ap (λ (rs : List PendingRequest). r' ∷ rs) rest.1)

pub first_once : (home : ℕ) (pending : List PendingRequest) (first first' : PendingRequest) (rest rest' : List PendingRequest) → FirstAt home pending first rest → FirstAt home pending first' rest' → (first ≡ first') × (rest ≡ rest')
first_once home pending first first' rest rest' f g =
    let same = same_places home f.earlier g.earlier f.later g.later first first' f.at_home g.at_home f.none_earlier g.none_earlier (sym f.is ∙ g.is) in
    (same.0, f.without ∙ (same.1 ∙ sym g.without))
