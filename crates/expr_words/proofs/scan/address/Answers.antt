use Rattle.std.proofs.Common.{inl, inr, refl, sym, ap, ◌∙◌}
use Rattle.expr_words.specs.declared.word.Word.TheVariants.{V6}
use Rattle.expr_words.proofs.ScanLemmas.{no_address}
use Rattle.expr_words.proofs.scan.address.Goals as goal

pub returns-in-Some : goal.returns-in-Some
returns-in-Some c = inl (c.in-Some.octets, refl, sym c.mac.ensures ∙ c.in-Some.is)

pub returns-in-Ok : goal.returns-in-Ok
returns-in-Ok c = inr (c.in-Ok.address, ap V6 c.to_bits.ensures, sym c.mac.ensures ∙ c.in_default.is, c.in-Ok.ensures)

pub returns-in-Err : goal.returns-in-Err
returns-in-Err c = no_address c.args.text.now (sym c.mac.ensures ∙ c.in_default.is) c.in-Err.ensures
