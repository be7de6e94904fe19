use Rattle.std.proofs.Common.{◌+◌, ◌∙◌, ℕ, Bool, true, List, slice_set, sym, ap, subst, arith}
use Rattle.headline.proofs.Waking.{Waked, waked_none, waked_set, waked_kept, waked_all}
use Rattle.headline.proofs.serving.wake.Goals as goal
use Rattle.headline.proofs.serving.wake.Goals.{then-peer-core+then-names, else-peer-core, else-peer-core-via-then-peer-core+else-names, else-peer-core-via-else-peer-core}

pub loop-peer-init : goal.loop-peer-init
loop-peer-init c = waked_none _ _ _

pub loop-peer-preserved : goal.loop-peer-preserved
loop-peer-preserved c =
    let core = c.args.core in
    let peer = c.loop-peer.peer in
    let by = c.args.named_by.now in
    let old = c.args.awake.now in
    let mid = c.loop-peer.awake in
    elim c.if-peer-core.branch [
      | then-peer-core+then-names w ↦
          subst (λ (l : List Bool). Waked core (peer + 1) by old l) (sym (w.awake-is ∙ ap (λ (n : ℕ). slice_set mid n true) w.from.ensures))
          (waked_set core peer by old mid c.loop-peer.invariant w.if-peer-core.true (sym w.names.ensures ∙ w.if-names.true) (omega (arith, c.loop-peer-test.true, c.loop-peer.invariant.each)))
      | else-peer-core w ↦
          subst (λ (l : List Bool). Waked core (peer + 1) by old l) (sym w.awake-is) (elim w.else-peer-core.branch [
            | else-peer-core-via-then-peer-core+else-names x ↦ waked_kept core peer by old mid c.loop-peer.invariant (λ _. sym x.names.ensures ∙ x.if-names.false)
            | else-peer-core-via-else-peer-core x ↦ waked_kept core peer by old mid c.loop-peer.invariant (λ other. absurd (other x.if-peer-core.false))
          ])
    ]

pub returns-clause-others : goal.returns-clause-others
returns-clause-others c = waked_all c.args.core c.loop-peer.peer c.args.named_by.now c.args.awake.now c.loop-peer.awake c.loop-peer.invariant c.loop-peer-test.false
