use Rattle.std.proofs.Common.{◌≡◌, ◌≢◌, ℕ, List, [], ◌∷◌, Option, Some, None, refl, sym, subst, rules}
use mathlib.Core.List.{IsPrefix}
use Rattle.std.proofs.lemmas.Result.{err_from_is_err_and}
use Rattle.ump_ring.specs.Joiners.{shown_list}
use Rattle.core_links.proofs.ring_links.Link.shows.Goals as goal

kept_prefix : (x y : Option (List ℕ)) → (x ≢ None → y ≡ x) → IsPrefix (shown_list x) (shown_list y)
kept_prefix None y h = (shown_list y, refl)
kept_prefix (Some m) y h = subst (λ (z : Option (List ℕ)). IsPrefix (m ∷ []) (shown_list z)) (sym (h (λ e. cc))) ([], refl)

pub returns-clause-pulled : goal.returns-clause-pulled
returns-clause-pulled c = record {
  arrived = record {
    sent = refl;
    ready = λ e. e;
    told = refl;
    stays = c.pull-pulled.ensures.stays;
    kept = kept_prefix _ _ c.pull-pulled.ensures.kept;
    all = λ e. absurd (cc);
  };
  taken = c.pull-pulled.ensures.taken;
  answer = c.in_ok-pulled.ensures.ok;
}

pub returns-in_err-pulled-clause-pulled : goal.returns-in_err-pulled-clause-pulled
returns-in_err-pulled-clause-pulled c =
    let p = err_from_is_err_and c.from_residual.result c.from_residual.ensures.1 in
    rw (p.1, p.2) (record {
      arrived = record {
        sent = refl;
        ready = λ e. e;
        told = refl;
        stays = c.pull-pulled.ensures.stays;
        kept = kept_prefix _ _ c.pull-pulled.ensures.kept;
        all = λ e. absurd (cc);
      };
      taken = c.pull-pulled.ensures.taken;
      answer = c.in_err-pulled.ensures.err.0;
    })

pub returns-in_err-pulled-clause-lines : goal.returns-in_err-pulled-clause-lines
returns-in_err-pulled-clause-lines c =
    let p = err_from_is_err_and c.from_residual.result c.from_residual.ensures.1 in
    rw (p.1, p.2) (search rules)
