-- Signs and words that mark no mask.
use Rattle.std.proofs.Common.{◌≡◌, refl}
use Rattle.expr_words.specs.declared.word.Sign.{Sign}
use Rattle.expr_words.specs.declared.word.Sign.TheVariants.{Slash}
use Rattle.expr_words.specs.declared.word.Keyword.{Keyword}
use Rattle.expr_words.specs.declared.word.Keyword.TheVariants.{Mask}
use Rattle.expr_values.specs.declared.marks.Mark.TheVariants as marks
use Rattle.expr_values.specs.Marks.{slash, mask}

pub no_slash : (s : Sign) → (s ≡ Slash → ⊥) → marks.Other ≡ slash s
no_slash Slash a = absurd (a refl)
no_slash s a = refl

pub no_mask : (k : Keyword) → (k ≡ Mask → ⊥) → marks.Other ≡ mask k
no_mask Mask a = absurd (a refl)
no_mask k a = refl
