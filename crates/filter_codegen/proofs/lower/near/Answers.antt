use Rattle.std.proofs.Common.{length, refl, sym, subst, arith}
use Rattle.std.proofs.Math.ListN.{set}
use Rattle.filter_codegen.specs.Lowered.{Nears}
use Rattle.filter_codegen.proofs.Lowering.{nears_jump}
use Rattle.filter_codegen.proofs.lower.near.Goals as goal

pub returns-clause-ok : goal.returns-clause-ok
returns-clause-ok c =
    let old = c.args.draft.now in
    let places = c.args.places.now in
    let jumps = c.args.jumps.now.items in
    let node = c.args.node in
    let len = c.len-2.ensures.len in
    let h = c.in_ok-near.ensures.ok in
    subst (λ n. Nears places node jumps (set jumps node n) old c.put.new.self n) (sym h.1) (
    subst (λ l. Nears places node jumps (set jumps node (length old)) old l (length old)) (sym h.0)
    (nears_jump places node jumps (set jumps node (length old)) old _ c.jump.result c.requires.places c.requires.jumps c.requires.at (omega arith) c.jump.ensures refl))
