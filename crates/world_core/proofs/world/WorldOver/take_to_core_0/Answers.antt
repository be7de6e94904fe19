use Rattle.std.proofs.Common.{rules, ◌≡◌, ◌∙◌, ◌-◌, ◌<◌, inl, inr, ℕ, suc, false, Some, [], slice_get, ap, sym, subst, arith}
use Rattle.world_events.specs.declared.event.Event.TheVariants.{Take}
use Rattle.world_model.specs.Worlds.{Peer, World, Happens}
use Rattle.world_model.specs.Refusals.{WorldRefuses}
use Rattle.world_model.proofs.Lists.{same_or_not}
use Rattle.world_core.proofs.Settled.{next_up, refused_up}
use Rattle.world_core.proofs.world.WorldOver.take_to_core_0.Goals as goal
use Rattle.std.proofs.lemmas.Option.{slice_get_within}

pub returns-in-Ok-clause-taken : goal.returns-in-Ok-clause-taken
returns-in-Ok-clause-taken g c =
    let core_is : c.loop-core.core ≡ suc (c.loop-core.core - 1) = omega (arith, c.loop-core.auto.core) in
    let same = c.loop-core.invariant.0 in
    let before : (i : ℕ) (p : Peer) → i < c.loop-core.core - 1 → slice_get c.args.self.now.peers i ≡ Some p → p.up ≡ [] = λ i p lt at. c.loop-core.invariant.1 i p (omega (arith, lt)) (rw same at) in
    next_up c.args.self.now c.take_up.new.self c.loop-core.core (c.loop-core.core - 1) c.in-Ok.answer core_is c.requires.none_down before (subst (λ (w : World). Happens w (Take 0 c.loop-core.core false) c.take_up.new.self c.in-Ok.answer) same (c.in-Ok.ensures.happens false))

pub loop-core-preserved : goal.loop-core-preserved
loop-core-preserved g c =
    let core_is : c.loop-core.core ≡ suc (c.loop-core.core - 1) = omega (arith, c.loop-core.auto.core) in
    let unchanged : c.take_up.new.self ≡ c.loop-core.self = c.in-Err.ensures.same in (
      unchanged ∙ c.loop-core.invariant.0,
      λ i p lt at.
          let at' : slice_get c.loop-core.self.peers i ≡ Some p = subst (λ (w : World). slice_get w.peers i ≡ Some p) unchanged at in
          elim (same_or_not i (c.loop-core.core - 1)) [
            | inl e ↦
                let refuses : WorldRefuses c.loop-core.self (Take 0 (suc i) false) c.in-Err.field-0 = subst (λ (n : ℕ). WorldRefuses c.loop-core.self (Take 0 n false) c.in-Err.field-0) (core_is ∙ ap suc (sym e)) (c.in-Err.ensures.fault false) in
                refused_up c.loop-core.self i p c.in-Err.field-0 at' (search rules) refuses
            | inr ne ↦ c.loop-core.invariant.1 i p (omega (arith, lt, ne)) at'
          ],
    )

pub returns-clause-taken : goal.returns-clause-taken
returns-clause-taken g c =
    let same = c.loop-core.invariant.0 in (
      same,
      λ i p at. record {
        none_down = c.requires.none_down i p at;
        none_up = c.loop-core.invariant.1 i p (omega (arith, c.loop-core-test.false, c.requires.cores, slice_get_within c.args.self.now.peers i p at)) (rw same at);
      },
    )
