use Rattle.std.proofs.Common.{◌≡◌, ◌==◌, ◌<◌, ℕ, false, ap, sym, ◌∙◌, subst}
use Rattle.endpoint_caps.specs.Capabilities.{cap_at}
use Rattle.endpoint_caps.specs.Holding.{Holding}
use Rattle.endpoint_caps.proofs.Holding.{at_id, may_mint, more_below, mint_made}
use Rattle.endpoint_caps.proofs.table.Caps.perform_mint.Goals as goal

pub add_child-requires-clause-from : goal.add_child-requires-clause-from
add_child-requires-clause-from c =
    ap (cap_at c.args.self.now.table.held) (at_id c.args.self.now.table.held c.args.cap c.in-Ok.from c.in-Ok.ensures.ok) ∙ c.in-Ok.ensures.ok

pub add_child-requires-clause-below : goal.add_child-requires-clause-below
add_child-requires-clause-below c =
    let may = may_mint c.requires.allowed.0 c.args.self.now.table c.args.domain c.args.cap c.args.rights c.requires.allowed.1 in
    let next : c.self.inside.next ≡ c.args.self.now.table.next = ap (λ (v : Holding). v.table.next) c.self.view_is in
    subst (λ (n : ℕ). n < 4294967295) next (more_below c.self.inside.next c.self.invariant.held.below (subst (λ (n : ℕ). (n == 4294967295) ≡ false) (sym next) may.more))

pub returns-clause-made : goal.returns-clause-made
returns-clause-made c =
    mint_made c.add_child.new.self c.args.self.now.table c.args.cap c.args.to c.args.rights c.in-Ok.from c.in-Ok.ensures.ok c.add_child.ensures.table c.add_child.ensures.ready
