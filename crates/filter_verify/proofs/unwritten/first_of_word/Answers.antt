use Rattle.std.proofs.Common.{inl, inr, arith, refl, sym, subst}
use Rattle.filter_verify.specs.Opens.{IsOpen}
use Rattle.filter_verify.proofs.Opens.{first_open}
use Rattle.filter_verify.proofs.unwritten.first_of_word.Goals as goal

pub pass-init : goal.pass-init
pass-init g c = record {
  first = (c.insert.ensures 0).1 (inr refl);
  onward = λ pc to below is leads unstored. absurd (omega arith);
  reasons = λ to has. elim ((c.insert.ensures to).0 has) [
    | inl was ↦ absurd (c.empty-open.ensures to was)
    | inr same ↦ subst (IsOpen (g.C.Code.insns c.args.code) c.args.word) (sym same) (first_open (g.C.Code.insns c.args.code) c.args.word)
  ];
  none = λ pc below load. absurd (omega arith);
}

pub returns : goal.returns
returns g c = record {
  within = omega arith;
  found = inl refl;
  none = λ pc below load. c.pass.invariant.none pc (omega arith) load;
}
