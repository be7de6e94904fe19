use Rattle.std.proofs.Common.{◌<◌, ◌∷◌, [], ◌++◌, length, inl, inr, sym, arith, false-eqb}
use Rattle.filter_asm.proofs.LineLemmas.{read_more, read_stops, read_all}
use Rattle.filter_asm.proofs.assembler.read.Goals as goal

pub returns-in-Err-clause-err : goal.returns-in-Err-clause-err
returns-in-Err-clause-err c =
    let so_far = c.loop-rest.invariant in
    let some : 0 < length c.loop-rest.rest.now = omega (arith, false-eqb _ 0 c.loop-rest-test.ensures) in
    elim c.in-Err.ensures.err [
      | inl memory ↦ inl memory
      | inr fault ↦
          let r = fault so_far.0 so_far.1.passed (omega (arith, so_far.1.counted)) in
          let spells = rw c.split_line.ensures.line at r.1 in
          inr (read_stops c.args.text.now c.loop-rest.rest.now c.loop-rest.number c.loop-rest.pass so_far.0 r.0 so_far.1 some spells c.in-Err.kind r.2)
    ]

pub loop-rest-preserved : goal.loop-rest-preserved
loop-rest-preserved c =
    let so_far = c.loop-rest.invariant in
    let some : 0 < length c.loop-rest.rest.now = omega (arith, false-eqb _ 0 c.loop-rest-test.ensures) in
    let r = c.in_default.ensures.ok so_far.0 so_far.1.passed (omega (arith, so_far.1.counted)) in
    let spells = rw c.split_line.ensures.line at r.1 in
    (so_far.0 ++ r.0 ∷ [], rw c.split_line.ensures.rest (read_more c.args.text.now c.loop-rest.rest.now c.loop-rest.number c.loop-rest.pass so_far.0 r.0 so_far.1 some spells c.read_line.new.pass r.2))

pub returns-clause-ok : goal.returns-clause-ok
returns-clause-ok c =
    let so_far = c.loop-rest.invariant in
    (so_far.0, read_all c.args.text.now c.loop-rest.rest.now c.loop-rest.number c.loop-rest.pass so_far.0 so_far.1 (sym c.loop-rest-test.ensures), so_far.1.passed)
