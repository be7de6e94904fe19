-- What the first of some tokens says.
use Rattle.std.specs.Prelude.{ℕ, Bool, true, false, List, Option, Some, None, option_and_then, slice_get}
use Rattle.std.specs.Option.{option_map_or}
use denote.Enum.Bare.{sameb}
use Rattle.expr_words.specs.contracts.word.Sign as sign_contract
use Rattle.expr_words.specs.contracts.word.Keyword as keyword_contract
use Rattle.expr_words.specs.declared.protocol.Protocol.{Protocol}
use Rattle.expr_words.specs.declared.token.Token.{Token}
use Rattle.expr_words.specs.declared.word.Word.{Word}
use Rattle.expr_words.specs.declared.word.Word.TheVariants as word
use Rattle.expr_words.specs.declared.word.Sign.{Sign}
use Rattle.expr_words.specs.declared.word.Keyword.{Keyword}

abbrev pub sign_of : Word → Option Sign
sign_of (word.Sign s) = Some s
sign_of (word.Keyword k) = None
sign_of (word.Protocol p n) = None
sign_of (word.Number n) = None
sign_of (word.V4 a) = None
sign_of (word.V6 a) = None
sign_of (word.Mac a) = None
sign_of (word.Name n) = None
sign_of (word.Refused r) = None

abbrev pub keyword_of : Word → Option Keyword
keyword_of (word.Keyword k) = Some k
keyword_of (word.Sign s) = None
keyword_of (word.Protocol p n) = None
keyword_of (word.Number n) = None
keyword_of (word.V4 a) = None
keyword_of (word.V6 a) = None
keyword_of (word.Mac a) = None
keyword_of (word.Name n) = None
keyword_of (word.Refused r) = None

abbrev pub number_of : Word → Option ℕ
number_of (word.Number n) = Some n
number_of (word.Keyword k) = None
number_of (word.Sign s) = None
number_of (word.Protocol p n) = None
number_of (word.V4 a) = None
number_of (word.V6 a) = None
number_of (word.Mac a) = None
number_of (word.Name n) = None
number_of (word.Refused r) = None

abbrev pub protocol_of : Word → Option Protocol
protocol_of (word.Protocol p n) = Some p
protocol_of (word.Keyword k) = None
protocol_of (word.Sign s) = None
protocol_of (word.Number n) = None
protocol_of (word.V4 a) = None
protocol_of (word.V6 a) = None
protocol_of (word.Mac a) = None
protocol_of (word.Name n) = None
protocol_of (word.Refused r) = None

abbrev pub is_address_or_name_word : Word → Bool
is_address_or_name_word (word.V4 a) = true
is_address_or_name_word (word.V6 a) = true
is_address_or_name_word (word.Mac a) = true
is_address_or_name_word (word.Name n) = true
is_address_or_name_word (word.Number n) = false
is_address_or_name_word (word.Keyword k) = false
is_address_or_name_word (word.Sign s) = false
is_address_or_name_word (word.Protocol p n) = false
is_address_or_name_word (word.Refused r) = false

-- the sign, keyword, number or protocol that the first token is
unfoldable pub sign : List Token → Option Sign
sign tokens = option_and_then (λ t. sign_of t.word) (slice_get tokens 0)

unfoldable pub keyword : List Token → Option Keyword
keyword tokens = option_and_then (λ t. keyword_of t.word) (slice_get tokens 0)

unfoldable pub number : List Token → Option ℕ
number tokens = option_and_then (λ t. number_of t.word) (slice_get tokens 0)

unfoldable pub protocol : List Token → Option Protocol
protocol tokens = option_and_then (λ t. protocol_of t.word) (slice_get tokens 0)

-- whether it is an address or a name
unfoldable pub is_address_or_name : List Token → Bool
is_address_or_name tokens = option_map_or (λ t. is_address_or_name_word t.word) (slice_get tokens 0) false

-- `==`
unfoldable pub same_sign : Sign → Sign → Bool
same_sign = sameb sign_contract.the_type

unfoldable pub same_keyword : Keyword → Keyword → Bool
same_keyword = sameb keyword_contract.the_type

-- whether the first token is this sign, or this keyword
unfoldable pub sees : Sign → List Token → Bool
sees expected tokens = option_map_or (λ s. same_sign s expected) (sign tokens) false

unfoldable pub sees_word : Keyword → List Token → Bool
sees_word expected tokens = option_map_or (λ k. same_keyword k expected) (keyword tokens) false
