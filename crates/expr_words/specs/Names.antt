-- What names say: numbers, addresses, words of the language, and names by the tables of this crate.
use Rattle.std.specs.Prelude.{ℕ, ◌==◌, ◌&&◌, if◌then◌else◌, List, map, Option, Some, None, option_map, unwrap_or, Result, Ok, Err}
use Rattle.std.specs.List.{find, list_all, before_first, after_first}
use Rattle.std.specs.Option.{option_map_or}
use Rattle.std.specs.Str.{bytes_eq}
use Rattle.expr_words.specs.declared.protocol.Protocol.{Protocol}
use Rattle.expr_words.specs.declared.word.Keyword.{Keyword}
use Rattle.expr_words.specs.declared.word.Refusal.{Refusal}
use Rattle.expr_words.specs.declared.fault.WordFaultKind.{WordFaultKind}
use Rattle.expr_words.specs.declared.fault.WordFaultKind.TheVariants as kind
use Rattle.expr_words.specs.declared.word.Name.{Name}
use Rattle.expr_words.specs.declared.word.NamedPort.{NamedPort}
use Rattle.expr_words.specs.declared.word.Numbers.{Numbers}
use Rattle.expr_words.specs.declared.word.Span.{Span}
use Rattle.expr_words.specs.declared.word.V4.{V4}
use Rattle.expr_words.specs.declared.word.Word.{Word}
use Rattle.expr_words.specs.declared.word.Word.TheVariants as word
use Rattle.expr_words.specs.declared.tables.TheConstants.{PROTOCOLS, KEYWORDS, NUMBERS, REFUSALS, PORTS, IP_NUMBERS, ETHER_NUMBERS}
use Rattle.expr_words.specs.Bytes.{is_dotted}
use Rattle.expr_words.specs.Number.{is_number, number}
use Rattle.expr_words.specs.Address.{v4, mac}

-- what a text stands for by the first row of a table that has it
abbrev pub look_up : {T : Type 0} → List (List ℕ × T) → List ℕ → Option T
look_up rows text = option_map (λ r. r.1) (find (λ r. bytes_eq r.0 text) rows)

unfoldable pub protocol_named : List ℕ → Option Protocol
protocol_named text = look_up (map (λ r. (r.0.now, r.1)) PROTOCOLS) text

unfoldable pub keyword_named : List ℕ → Option Keyword
keyword_named text = look_up (map (λ r. (r.0.now, r.1)) KEYWORDS) text

unfoldable pub number_named : List ℕ → Option ℕ
number_named text = look_up (map (λ r. (r.0.now, r.1)) NUMBERS) text

unfoldable pub refusal_named : List ℕ → Option Refusal
refusal_named text = look_up (map (λ r. (r.0.now, r.1)) REFUSALS) text

unfoldable pub port_named : List ℕ → Option NamedPort
port_named text = look_up (map (λ r. (r.0.now, r.1)) PORTS) text

unfoldable pub ip_number_named : List ℕ → Option ℕ
ip_number_named text = look_up (map (λ r. (r.0.now, r.1)) IP_NUMBERS) text

unfoldable pub ether_number_named : List ℕ → Option ℕ
ether_number_named text = look_up (map (λ r. (r.0.now, r.1)) ETHER_NUMBERS) text

-- what a text stands for after `proto`
abbrev pub numbers_named : List ℕ → Numbers
numbers_named text = record { ip = ip_number_named text; ether = ether_number_named text }

-- a word of the language: a protocol, a keyword, a number by name, or one that is refused
abbrev pub word_named : List ℕ → Option Word
word_named text =
    option_map_or (λ p. Some (word.Protocol p (numbers_named text))) (protocol_named text)
    (option_map_or (λ k. Some (word.Keyword k)) (keyword_named text)
    (option_map_or (λ n. Some (word.Number n)) (number_named text) (option_map word.Refused (refusal_named text))))

abbrev pub both : Result ℕ WordFaultKind → Result ℕ WordFaultKind → Option Span
both (Ok a) (Ok b) = Some (record { first = a; second = b })
both (Ok a) (Err e) = None
both (Err e) other = None

-- LOW-HIGH: two numbers, joined by the first `-`
unfoldable pub span : List ℕ → Option Span
span text =
    let first = before_first (λ b. b == 45) text in
    let second = after_first (λ b. b == 45) text in
    if is_number first && is_number second then both (number first) (number second) else None

-- what a name may stand for
abbrev pub name : List ℕ → Name
name text = record { port = port_named text; numbers = numbers_named text; span = span text }

abbrev pub number_word : Result ℕ WordFaultKind → Result Word WordFaultKind
number_word (Ok n) = Ok (word.Number n)
number_word (Err e) = Err e

abbrev pub v4_word : Option V4 → Result Word WordFaultKind
v4_word (Some a) = Ok (word.V4 a)
v4_word None = Err kind.Address

abbrev pub mac_word : Option ℕ → Word → Word
mac_word (Some n) other = word.Mac n
mac_word None other = other

-- what a text says that is spelled as a name: a number, an IPv4 address, six octets joined by `-`, a word of the language,
-- or else a name
unfoldable pub meaning : List ℕ → Result Word WordFaultKind
meaning text =
    if is_number text then number_word (number text)
    else if list_all is_dotted text then v4_word (v4 text)
    else Ok (mac_word (mac 45 text) (unwrap_or (word_named text) (word.Name (name text))))
