use Rattle.std.proofs.Common.{◌≡◌, ◌+◌, ◌∙◌, ℕ, suc, false, sym, subst, arith}
use Rattle.core_loop.proofs.sending.all_ready.Goals as goal

pub returns-then-not-ready-clause-all : goal.returns-then-not-ready-clause-all
returns-then-not-ready-clause-all g c =
    (λ t. absurd cc, λ all. absurd (let no : c.ready.result ≡ false = c.if-not-ready.true in let is = c.ready.ensures in let yes = all c.loop-entry.entry c.loop-entry-test.true in let at : c.loop-entry.entry + 1 ≡ suc c.loop-entry.entry = omega arith in let is' = subst (λ (n : ℕ). c.ready.result ≡ (g.L.Links.view c.args.links.now n).ready) at is in cc))

pub returns-then-not-ready-clause-blocked : goal.returns-then-not-ready-clause-blocked
returns-then-not-ready-clause-blocked g c = λ _.
    let at : c.loop-entry.entry + 1 ≡ suc c.loop-entry.entry = omega arith in
    let is = subst (λ (n : ℕ). c.ready.result ≡ (g.L.Links.view c.args.links.now n).ready) at c.ready.ensures in
    record { entry = c.loop-entry.entry; inside = c.loop-entry-test.true; not_ready = sym is ∙ c.if-not-ready.true }
