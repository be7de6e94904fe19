-- No core beyond those of a machine has a request waiting.
use Rattle.std.proofs.Common.{◌≡◌, ◌<◌, ◌≤◌, ◌⊎◌, inl, inr, ℕ, zero, suc, None, List, [], ◌∷◌, length, slice_get, refl, ap, arith}
use Rattle.std.specs.Prelude.{option_map, option_and_then}
use Rattle.std.proofs.lemmas.Bool.{cases_lt}
use Rattle.std.proofs.lemmas.Option.{slice_get_past}
use Rattle.filter_table.specs.Limits.{TableLimits}
use Rattle.world_model.specs.Worlds.{Peer, World, version_at}
use Rattle.world_model.proofs.Known.{run_known}
use Rattle.world_model.specs.Refusals.{Reached, waiting_at}
use Rattle.sim_engine.specs.Simulations.{NoneWaits}

past_peers : (peers : List Peer) (entry : ℕ) → option_map (λ p. p.version) (slice_get peers entry) ≡ None → length peers ≤ entry
past_peers [] entry none = omega arith
past_peers (peer ∷ peers) zero none = absurd cc
past_peers (peer ∷ peers) (suc entry) none = omega (arith, past_peers peers entry none)

-- the core isn't there, and those below it have no request waiting
pub none_waits : (limits : TableLimits) (budget : ℕ) (budgets : List ℕ) (w : World) (core : ℕ) → Reached limits budget budgets w → version_at w core ≡ None
    → ((less : ℕ) → less < core → waiting_at w less ≡ None) → NoneWaits w
none_waits limits budget budgets w zero run none below = absurd cc
none_waits limits budget budgets w (suc entry) run none below = λ core low. by core (cases_lt core (suc entry))
  where
    long : length w.requests.waiting ≤ entry
    long = let known = run_known limits budget budgets run.0 w run.1 in omega (arith, past_peers w.peers entry none, known.cores, known.waiting_long)

    by : (core : ℕ) → (core < suc entry) ⊎ (suc entry ≤ core) → waiting_at w core ≡ None
    by core (inl less) = below core less
    by zero (inr above) = refl
    by (suc k) (inr above) = ap (option_and_then (λ waits. waits)) (slice_get_past w.requests.waiting k (omega (arith, long, above)))
