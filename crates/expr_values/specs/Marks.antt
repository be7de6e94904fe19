-- What may follow an address: `/` and a number, or `mask` and an IPv4 address.
use Rattle.std.specs.Prelude.{ℕ, List, Option, Some, None, slice_get, option_and_then}
use Rattle.expr_words.specs.declared.token.Token.{Token}
use Rattle.expr_words.specs.declared.word.Word.{Word}
use Rattle.expr_words.specs.declared.word.Word.TheVariants as word
use Rattle.expr_words.specs.declared.word.Sign.{Sign}
use Rattle.expr_words.specs.declared.word.Sign.TheVariants as signs
use Rattle.expr_words.specs.declared.word.Keyword.{Keyword}
use Rattle.expr_words.specs.declared.word.Keyword.TheVariants as keywords
use Rattle.expr_words.specs.declared.word.V4.{V4}
use Rattle.expr_values.specs.declared.marks.Mark.{Mark}
use Rattle.expr_values.specs.declared.marks.Mark.TheVariants as marks

abbrev pub slash : Sign → Mark
slash signs.Slash = marks.Slash
slash s = marks.Other

abbrev pub mask : Keyword → Mark
mask keywords.Mask = marks.Mask
mask k = marks.Other

abbrev pub mark_word : Word → Mark
mark_word (word.Sign s) = slash s
mark_word (word.Keyword k) = mask k
mark_word (word.Protocol p n) = marks.Other
mark_word (word.Number n) = marks.Other
mark_word (word.V4 a) = marks.Other
mark_word (word.V6 a) = marks.Other
mark_word (word.Mac a) = marks.Other
mark_word (word.Name n) = marks.Other
mark_word (word.Refused r) = marks.Other

abbrev pub mark_of : Option Token → Mark
mark_of None = marks.Other
mark_of (Some t) = mark_word t.word

-- what the second token is
abbrev pub second_mark : List Token → Mark
second_mark tokens = mark_of (slice_get tokens 1)

abbrev pub number_of : Word → Option ℕ
number_of (word.Number n) = Some n
number_of (word.Sign s) = None
number_of (word.Keyword k) = None
number_of (word.Protocol p n) = None
number_of (word.V4 a) = None
number_of (word.V6 a) = None
number_of (word.Mac a) = None
number_of (word.Name n) = None
number_of (word.Refused r) = None

abbrev pub address_of : Word → Option V4
address_of (word.V4 a) = Some a
address_of (word.Number n) = None
address_of (word.Sign s) = None
address_of (word.Keyword k) = None
address_of (word.Protocol p n) = None
address_of (word.V6 a) = None
address_of (word.Mac a) = None
address_of (word.Name n) = None
address_of (word.Refused r) = None

-- the number, and the IPv4 address, that the third token is
abbrev pub third_number : List Token → Option ℕ
third_number tokens = option_and_then (λ t. number_of t.word) (slice_get tokens 2)

abbrev pub third_address : List Token → Option V4
third_address tokens = option_and_then (λ t. address_of t.word) (slice_get tokens 2)
