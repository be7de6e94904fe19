-- One endpoint raised in a list of what endpoints keep.
-- No public clause cites these.
use Rattle.std.specs.Prelude.{◌==◌, ℕ, cond, ltb, max, List, [], ◌∷◌}
use Rattle.filter_table.specs.declared.delivery.Kept.{Kept}

abbrev pub at_endpoint : ℕ → ℕ → Kept
at_endpoint endpoint kept = record { endpoint = endpoint; kept = kept }

-- the endpoint keeps at least so many bytes from now on, in a list in order of endpoints
abbrev pub raised : List Kept → ℕ → ℕ → List Kept
raised [] endpoint bytes = at_endpoint endpoint bytes ∷ []
raised (k ∷ ks) endpoint bytes =
    cond (ltb endpoint k.endpoint) (at_endpoint endpoint bytes ∷ k ∷ ks)
    (cond (k.endpoint == endpoint) (at_endpoint endpoint (max k.kept bytes) ∷ ks) (k ∷ raised ks endpoint bytes))
