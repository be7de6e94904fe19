use Rattle.console.specs.Programs.{programs_of}
use Rattle.std.proofs.Common.{◌++◌, ◌∙◌, ap, append_assoc, refl, sym}
use Rattle.keep_engine.specs.declared.block_sieve.BlockSieve.{BlockSieve}
use Rattle.keep_engine.specs.Sieving.{HasSiftedBlocks}
use Rattle.keep_engine.proofs.BlockSieveLemmas.{sifts_then, skim_sifts, step_sifts, stopped_sifts}
use Rattle.keep_engine.proofs.block_sieve.BlockSieve.piece.Goals as goal

pub loop-rest-preserved-in-Some : goal.loop-rest-preserved-in-Some
loop-rest-preserved-in-Some c =
    let so = c.loop-rest.invariant in
    let skims = c.in-Some.ensures.skims in
    let new : BlockSieve = record c.loop-rest.self { feed = c.skim.new.self } in (
      so.0 ++ skims.takes.front,
      so.1 ∙ ap (λ t. so.0 ++ t) skims.takes.parts ∙ sym (append_assoc so.0 skims.takes.front c.skim.new.rest.now),
      sifts_then (HasSiftedBlocks (programs_of c.args.filter.now) c.args.wanted) so.0 skims.takes.front c.args.self.now c.loop-rest.self new _ c.loop-rest.kept _ so.2
          (skim_sifts (programs_of c.args.filter.now) c.args.wanted _ _ c.loop-rest.self new c.in-Some.skimmed _ _ skims refl c.in_ok-keep_skimmed.ensures),
    )

pub loop-rest-preserved : goal.loop-rest-preserved
loop-rest-preserved c =
    let so = c.loop-rest.invariant in
    let same = c.in_default.ensures.skims in
    let next = rw (same.0, same.1) at c.in-Ok.ensures in
    let takes = next.advances in
    let new : BlockSieve = record c.loop-rest.self { feed = c.next.new.self; links = c.links_with-self.result } in (
      so.0 ++ takes.front,
      so.1 ∙ ap (λ t. so.0 ++ t) takes.parts ∙ sym (append_assoc so.0 takes.front c.next.new.rest.now),
      sifts_then (HasSiftedBlocks (programs_of c.args.filter.now) c.args.wanted) so.0 takes.front c.args.self.now c.loop-rest.self new _ c.loop-rest.kept _ so.2
          (step_sifts (programs_of c.args.filter.now) c.args.wanted _ _ c.loop-rest.self new c.in-Ok.step _ _ takes next.every next.copies next.says next.stays refl c.in_ok-keep_step-in-Ok.ensures),
    )

pub returns-in-Err : goal.returns-in-Err
returns-in-Err c =
    let so = c.loop-rest.invariant in
    let same = c.in_default.ensures.skims in
    let next = rw (same.0, same.1) at c.in-Err.ensures in
    stopped_sifts c.stop.result (programs_of c.args.filter.now) c.args.wanted c.args.piece.now so.0 c.loop-rest.rest.now c.next.new.rest.now c.args.self.now c.loop-rest.self c.stop.new.self c.next.new.self c.in-Err.fault c.args.kept.now
    c.loop-rest.kept so.1 so.2 next.advances next.copies next.says c.stop.ensures
