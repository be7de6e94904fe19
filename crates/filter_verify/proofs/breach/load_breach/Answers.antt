use Rattle.std.proofs.Common.{◌<◌, length, inl, inr, arith, refl}
use Rattle.filter_verify.specs.declared.rules.Refusal.TheVariants.{Unwritten}
use Rattle.filter_verify.proofs.Settled.{LoadsWord-inside}
use Rattle.filter_verify.proofs.Shapes.{Shaped-word}
use Rattle.filter_verify.proofs.Sorting.{all_written}
use Rattle.filter_verify.proofs.breach.load_breach.Goals as goal

pub returns-then-pc-count-clause-breach : goal.returns-then-pc-count-clause-breach
returns-then-pc-count-clause-breach g c =
    let program = g.C.Code.insns c.args.code in
    let least = c.least_open_load-pc.ensures in
    let count = c.count.ensures in
    let below : c.least_open_load-pc.result < length program = omega (arith, c.if-pc-count.true) in
    elim least.found [
      | inl end ↦ absurd (omega arith)
      | inr load ↦ (
        Unwritten c.least_open_load-pc.result load.0 load.1.0,
        (c.requires, load.1.1, λ q other places before unwritten. least.none q other before (Shaped-word program c.requires q other (LoadsWord-inside program q other unwritten.loads) (inl unwritten.loads)) (places, unwritten)),
        refl,
        refl,
      )
    ]

pub returns-clause-sound : goal.returns-clause-sound
returns-clause-sound g c =
    let program = g.C.Code.insns c.args.code in
    let least = c.least_open_load-pc.ensures in
    let count = c.count.ensures in
    let within = least.within in
    record {
      shaped = c.requires;
      written = all_written program (λ pc inside has.
          least.none pc has.0 (omega (arith, c.if-pc-count.false)) (Shaped-word program c.requires pc has.0 inside (inl has.2.loads)) (has.1, has.2));
    }
