-- Which filters are held once capabilities are gone.
use Rattle.std.proofs.Common.{◌≡◌, ◌∙◌, ◌&&◌, ℕ, Bool, true, false, not, cond, Option, None, is_some, List, map, refl, ap, subst}
use Rattle.std.specs.Prelude.{is_none}
use Rattle.filter_table.proofs.Lists.{was_mapped}
use Rattle.chunked.specs.Maps.{value_at}
use Rattle.endpoint_caps.specs.declared.Cap.{Cap}
use Rattle.endpoint_caps.specs.Capabilities.{cap_at}
use Rattle.installed_filters.specs.Installed.{AreHeldBy, Installed, lapsed_under}

-- the filters under those that are gone lapse, so that just those are held whose capability is left
pub held_by_left : {V : Type 0} (gone : List (ℕ × V)) (caps left : List Cap) (filters : List Installed) → ((id : ℕ) → cap_at left id ≡ cond (not (is_some (value_at gone id))) (cap_at caps id) None)
    → AreHeldBy caps filters → AreHeldBy left (map (lapsed_under gone) filters)
held_by_left gone caps left filters at_left held f at =
    let was = was_mapped (lapsed_under gone) filters f at in
    subst (λ (x : Installed). is_none (cap_at left x.filter.cap) ≡ not x.held) was.2
    (ap is_none (at_left was.0.filter.cap) ∙ by_gone (is_some (value_at gone was.0.filter.cap)) (cap_at caps was.0.filter.cap) was.0.held (held was.0 was.1))
  where
    by_gone : (g : Bool) (found : Option Cap) (h : Bool) → is_none found ≡ not h → is_none (cond (not g) found None) ≡ not (h && not g)
    by_gone true found true is = refl
    by_gone true found false is = refl
    by_gone false found true is = is
    by_gone false found false is = is
