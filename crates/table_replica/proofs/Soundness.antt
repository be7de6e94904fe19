-- New capabilities are no filter's.
use Rattle.std.proofs.Common.{◌≡◌, ◌<◌, ◌==◌, ℕ, false, Option, Some, None, is_none, List, [], ◌∷◌, ◌++◌, Contains, refl, ap, ◌∙◌, subst, arith}
use Rattle.std.proofs.lemmas.Bool.Decides.{nat_tests}
use Rattle.endpoint_caps.specs.declared.Cap.{Cap}
use Rattle.endpoint_caps.specs.declared.Rights.{Rights}
use Rattle.endpoint_caps.specs.Capabilities.{CapTable, created, minted_from, cap_at, child_of}
use Rattle.endpoint_caps.proofs.Keeping.{at-append}
use Rattle.filter_table.specs.Listed.{ListedFilter}
use Rattle.filter_table.specs.Tables.{TableState}
use Rattle.filter_table.specs.Soundness.{IsSoundTable}
use Rattle.filter_table.proofs.Lists.{in_map}
use Rattle.installed_filters.specs.Installed.{Installed, AreHeldBy}
use Rattle.installed_filters.specs.Lent.{listed}

module _ (s : TableState) (h : IsSoundTable s) (now : List Installed) (same : listed now ≡ s.filters) (held : AreHeldBy s.caps.held now) where
  -- filters stand under new capabilities as before
  stay_under : (new : List Cap) → ((id : ℕ) → id < s.caps.next → cap_at new id ≡ None) → AreHeldBy (s.caps.held ++ new) now
  stay_under new none f at =
      let among = subst (λ (fs : List ListedFilter). Contains fs f.filter) same (in_map (λ (g : Installed). g.filter) now f at) in
      ap (λ (o : Option Cap). is_none o) (at-append s.caps.held new f.filter.cap (none f.filter.cap (h.rightful f.filter among).given_out)) ∙ held f at

  new_cap : (c : Cap) (id : ℕ) → id < c.id → cap_at (c ∷ []) id ≡ None
  new_cap c id lt = let no : (c.id == id) ≡ false = grind (arith, nat_tests) in rw no refl

  pub stay_created : (domain endpoint : ℕ) → AreHeldBy (created s.caps domain endpoint).held now
  stay_created domain endpoint = stay_under _ (λ id lt. new_cap _ id lt)

  pub stay_minted : (cap to : ℕ) (rights : Rights) → AreHeldBy (minted_from s.caps cap to rights).held now
  stay_minted cap to rights = stay_under (child_of s.caps cap to rights (cap_at s.caps.held cap)) (none (cap_at s.caps.held cap))
    where
      none : (o : Option Cap) (id : ℕ) → id < s.caps.next → cap_at (child_of s.caps cap to rights o) id ≡ None
      none None id lt = refl
      none (Some from) id lt = new_cap _ id lt
