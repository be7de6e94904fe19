use Rattle.std.proofs.Common.{◌∙◌, ◌++◌, Bool, List, ℕ, ap, subst}
use Rattle.std.proofs.lemmas.List.{append_assoc}
use Rattle.sim_engine.specs.Simulations.{BeginsNext, sim}
use Rattle.sim_engine.proofs.Settle.{drains_last, joined, settled, settles_more}
use Rattle.sim_engine.proofs.Settling.{begun_less}
use Rattle.sim_engine.proofs.simulation.settle.Goals as goal

pub returns-then-not-branch : goal.returns-then-not-branch
returns-then-not-branch g c =
    let q = c.in_ok-quiet.ensures in
    let e = c.in_ok-begin_next.ensures in
    let last = drains_last (sim c.quiet.new.world c.requests.requests) (sim c.begin_next.new.world c.begin_next.new.requests) e.0
    (subst (λ (b : Bool). BeginsNext (sim c.quiet.new.world c.requests.requests) (sim c.begin_next.new.world c.begin_next.new.requests) e.0 b) c.if-not-branch.true e.1) in
    let all = c.requests.invariant (sim c.begin_next.new.world c.begin_next.new.requests) (q.0 ++ e.0)
    (settled c.requests.world c.quiet.new.world c.begin_next.new.world c.requests.requests c.begin_next.new.requests q.0 e.0 q.1 last) in (
      all.0,
      all.1,
      e.2 ∙ (ap (λ (t : List ℕ). t ++ e.0) q.2 ∙ (append_assoc c.requests.text.items q.0 e.0 ∙ all.2)),
    )

pub requests-preserved : goal.requests-preserved
requests-preserved g c = λ s' later settles. (
    let q = c.in_ok-quiet.ensures in
    let e = c.in_ok-begin_next.ensures in
    let begun = subst (λ (b : Bool). BeginsNext (sim c.quiet.new.world c.requests.requests) (sim c.begin_next.new.world c.begin_next.new.requests) e.0 b) c.if-not-branch.false e.1 in
    let all = c.requests.invariant s' (q.0 ++ e.0 ++ later) (settles_more c.requests.world c.quiet.new.world c.begin_next.new.world
    c.requests.requests c.begin_next.new.requests q.0 e.0 q.1 begun s' later settles) in (
      all.0,
      all.1,
      ap (λ (t : List ℕ). t ++ later) (e.2 ∙ ap (λ (t : List ℕ). t ++ e.0) q.2) ∙ joined c.requests.text.items q.0 e.0 later c.args.text.now.items all.0 all.2,
    ))

pub requests-smaller : goal.requests-smaller
requests-smaller g c =
    let q = c.in_ok-quiet.ensures in
    let e = c.in_ok-begin_next.ensures in
    let begun = subst (λ (b : Bool). BeginsNext (sim c.quiet.new.world c.requests.requests) (sim c.begin_next.new.world c.begin_next.new.requests) e.0 b) c.if-not-branch.false e.1 in
    begun_less (sim c.requests.world c.requests.requests) (sim c.begin_next.new.world c.begin_next.new.requests) e.0 q.0 c.quiet.new.world q.1 begun
