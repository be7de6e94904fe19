use Rattle.std.proofs.Common.{refl}
use Rattle.std.proofs.lemmas.Slice.Eq.{slice_eq-Decides}
use Rattle.std.proofs.lemmas.Bool.Decides.{Decides-eqb}
use Rattle.filter_listing.proofs.word.is_word.Goals as goal

pub returns-clause-yes : goal.returns-clause-yes
returns-clause-yes c = (slice_eq-Decides Decides-eqb c.args.word.now c.args.text.now c.eq.result c.eq.ensures).0

pub returns-clause-no : goal.returns-clause-no
returns-clause-no c = (slice_eq-Decides Decides-eqb c.args.word.now c.args.text.now c.eq.result c.eq.ensures).1
