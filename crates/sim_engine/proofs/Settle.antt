-- Settling, one request after the other.
use Rattle.std.proofs.Common.{◌≡◌, ℕ, true, false, Option, List, ◌++◌, refl, ap, sym, ◌∙◌, subst}
use Rattle.std.proofs.lemmas.List.{append_assoc}
use Rattle.world_model.specs.Worlds.{World}
use Rattle.sim_engine.specs.declared.requests.PendingRequest.{PendingRequest}
use Rattle.sim_engine.specs.Simulations.{Simulation, Drains, goes_on, BeginsNext, begun, last, Quiets, SettlesAll, sim}

-- what comes after what is begun drains what was left before
pub drains_more : (w w1 w2 : World) (places places' : List (Option PendingRequest)) (line taken : List ℕ) → BeginsNext (sim w places) (sim w1 places') line true → Quiets w1 w2 taken
    → (s' : Simulation) (later : List ℕ) → Drains (sim w2 places') s' later → Drains (sim w places) s' (line ++ taken ++ later)
drains_more w w1 w2 places places' line taken (begun event rest answer next tells now is) quiet s' later drains =
    subst (λ (l : List ℕ). Drains (sim w places) s' (l ++ taken ++ later)) (sym is)
    (goes_on (sim w places) s' event rest answer w1 w2 taken later next tells quiet (subst (λ (rs : List PendingRequest). Drains (record { world = w2; pending = rs }) s' later) now drains))

pub drains_last : (s s' : Simulation) (line : List ℕ) → BeginsNext s s' line false → Drains s s' line
drains_last s s' line (last drains) = drains

pub joined : (now line taken later first all : List ℕ) → now ++ (line ++ taken ++ later) ≡ first ++ all → now ++ line ++ taken ++ later ≡ first ++ all
joined now line taken later first all e = ap (λ (l : List ℕ). l ++ later) (append_assoc now line taken) ∙ (append_assoc now (line ++ taken) later ∙ e)

pub settled : (w wq w' : World) (places places' : List (Option PendingRequest)) (taken all : List ℕ) → Quiets w wq taken → Drains (sim wq places) (sim w' places') all → SettlesAll (sim w places) (sim w' places') (taken ++ all)
settled w wq w' places places' taken all quiet drains = record { quiet = wq; taken = taken; later = all; first = quiet; rest = drains; printed = refl }

-- what settles what was begun settles what was there before
pub settles_more : (w wq w1 : World) (places places' : List (Option PendingRequest)) (taken line : List ℕ) → Quiets w wq taken → BeginsNext (sim wq places) (sim w1 places') line true
    → (s' : Simulation) (later : List ℕ) → SettlesAll (sim w1 places') s' later → SettlesAll (sim w places) s' (taken ++ line ++ later)
settles_more w wq w1 places places' taken line quiet more s' later settles = record {
  quiet = wq;
  taken = taken;
  later = line ++ settles.taken ++ settles.later;
  first = quiet;
  rest = drains_more wq w1 settles.quiet places places' line settles.taken more settles.first s' settles.later settles.rest;
  printed =
      append_assoc taken line later
      ∙ ap (λ (t : List ℕ). taken ++ t) (ap (λ (t : List ℕ). line ++ t) settles.printed ∙ sym (append_assoc line settles.taken settles.later));
}
