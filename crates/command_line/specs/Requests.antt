-- What the words of the command line ask for.
use denote.Ref.{Bor}
use Rattle.std.specs.Prelude.{◌≡◌, ◌++◌, ℕ, Bool, true, false, List, [], ◌∷◌, map, Option, Some, None, option_map, Ok, Err, unwrap_or, codes, ◌≢◌, ◌⊎◌}
use Rattle.std.specs.List.{Contains}
use Rattle.std.specs.Str.Parse.{ParsesUnsigned}
use Rattle.clap.specs.Words.{Row, Text, all_of, first_of, one_of}
use Rattle.command_line.specs.declared.request.Invocation.{Invocation}
use Rattle.command_line.specs.declared.request.FileWords.{FileWords}
use Rattle.command_line.specs.declared.request.CheckInput.{CheckInput}
use Rattle.command_line.specs.declared.request.CheckInput.TheVariants.{Assembler as AsmText, Insns, Decimal as DecimalText}
use Rattle.command_line.specs.declared.request.Request.{Request}
use Rattle.command_line.specs.declared.request.Request.TheVariants.{Match, View as Viewed, Explain, Keep, Check, Graph, Dump, Sim, Run, Draw, Compile}
use Rattle.command_line.specs.declared.request.Listing.{Listing}
use Rattle.command_line.specs.declared.request.Listing.TheVariants.{Decimal, Assembler, Array, Control, Tree}
use Rattle.command_line.specs.declared.request.MatchView.{MatchView}
use Rattle.command_line.specs.declared.request.MatchView.TheVariants.{Numbers, Count, NumbersAndCount, Quiet}

-- whether a flag was given
abbrev pub IsFlag : Text → List Row → Bool → Type 0
IsFlag name rows given = (one_of name rows ≡ Some (codes "true") → given ≡ true) × (one_of name rows ≡ Some (codes "false") → given ≡ false)

-- what `match` shows by its flags: a line for each packet where there is none of the three
abbrev pub IsView : List Row → Option MatchView → Type 0
IsView rows (Some Quiet) = IsFlag (codes "quiet") rows true
IsView rows (Some Count) = IsFlag (codes "quiet") rows false × IsFlag (codes "count") rows true × IsFlag (codes "number") rows false
IsView rows (Some NumbersAndCount) = IsFlag (codes "quiet") rows false × IsFlag (codes "count") rows true × IsFlag (codes "number") rows true
IsView rows (Some Numbers) = IsFlag (codes "quiet") rows false × IsFlag (codes "count") rows false × IsFlag (codes "number") rows true
IsView rows None = IsFlag (codes "quiet") rows false × IsFlag (codes "count") rows false × IsFlag (codes "number") rows false

-- the texts of an argument, in order
abbrev pub AreTexts : Text → List Row → List (Bor Text) → Type 0
AreTexts name rows texts = map (λ t. t.now) texts ≡ unwrap_or (all_of name rows) []

-- the file of a command that takes one, or else those of `match`
abbrev pub inputs_in : Option Text → List Text → List Text
inputs_in (Some name) names = name ∷ []
inputs_in None names = names

-- the files that are the input, as they are named
abbrev pub AreInputs : List Row → List (Bor Text) → Type 0
AreInputs rows inputs = map (λ f. f.now) inputs ≡ inputs_in (first_of (codes "file") rows) (unwrap_or (all_of (codes "inputs") rows) [])

-- how words that name files are meant, each by its flag
abbrev pub AreFileWords : List Row → FileWords → Type 0
AreFileWords rows words = IsFlag (codes "code-file") rows words.code × IsFlag (codes "hex") rows words.digits × IsFlag (codes "no-filename") rows words.unnamed

-- what `check` reads, by its flags
abbrev pub IsCheckInput : List Row → CheckInput → Type 0
IsCheckInput rows Insns = IsFlag (codes "insns") rows true
IsCheckInput rows DecimalText = IsFlag (codes "insns") rows false × IsFlag (codes "ddd") rows true
IsCheckInput rows AsmText = IsFlag (codes "insns") rows false × IsFlag (codes "ddd") rows false

-- how a compiled filter is printed, or its expression, by the flags
abbrev pub IsListing : List Row → Listing → Type 0
IsListing rows Tree = IsFlag (codes "tree") rows true
IsListing rows Control = IsFlag (codes "tree") rows false × IsFlag (codes "graph") rows true
IsListing rows Array = IsFlag (codes "tree") rows false × IsFlag (codes "graph") rows false × IsFlag (codes "c") rows true
IsListing rows Assembler = IsFlag (codes "tree") rows false × IsFlag (codes "graph") rows false × IsFlag (codes "c") rows false × IsFlag (codes "asm") rows true
IsListing rows Decimal = IsFlag (codes "tree") rows false × IsFlag (codes "graph") rows false × IsFlag (codes "c") rows false × IsFlag (codes "asm") rows false

-- the decimal digits of a number below 2^32 spell that, and no other text spells any
abbrev pub SpellsNumber : Text → Option ℕ → Type 0
SpellsNumber text None = ParsesUnsigned {E = Unit {0}} 32 10 text (Err tt)
SpellsNumber text (Some n) = ParsesUnsigned {E = Unit {0}} 32 10 text (Ok n)

-- the number of an argument: none where it isn't given, and else the number that its decimal digits spell
abbrev pub IsNumber : Text → List Row → Option ℕ → Type 0
IsNumber name rows number = (one_of name rows ≡ None → number ≡ None) × ((text : Text) → one_of name rows ≡ Some text → SpellsNumber text number)

-- the link type that is named, as it is named
abbrev pub IsLink : List Row → Option (Bor Text) → Type 0
IsLink rows link = option_map (λ l. l.now) link ≡ first_of (codes "link") rows

-- the captures that a request names
abbrev pub captures_of : Request → List Text
captures_of (Sim files) = map (λ f. f.now) files.items
captures_of (Run files) = map (λ f. f.now) files.items
captures_of request = []

abbrev pub command_names : List Text
command_names = codes "match" ∷ codes "check" ∷ codes "dump" ∷ codes "sim" ∷ codes "run" ∷ codes "draw" ∷ codes "keep" ∷ codes "compile" ∷ []

-- what a command of this name asks for, with the rows of its arguments
abbrev pub Asks : Text → List Row → Option Request → Type 0
Asks name rows (Some (Match code pcap stream)) = (name ≡ codes "match") × (code.now ≡ unwrap_or (first_of (codes "code") rows) [])
    × IsFlag (codes "explain") rows false × IsFlag (codes "pcap") rows pcap × IsFlag (codes "stream") rows stream × IsView rows None
Asks name rows (Some (Viewed code pcap view)) = (name ≡ codes "match") × (code.now ≡ unwrap_or (first_of (codes "code") rows) [])
    × IsFlag (codes "explain") rows false × IsFlag (codes "pcap") rows pcap × IsView rows (Some view)
Asks name rows (Some (Explain code pcap)) = (name ≡ codes "match") × (code.now ≡ unwrap_or (first_of (codes "code") rows) [])
    × IsFlag (codes "explain") rows true × IsFlag (codes "pcap") rows pcap
Asks name rows (Some (Keep code inverted)) = (name ≡ codes "keep") × (code.now ≡ unwrap_or (first_of (codes "code") rows) []) × IsFlag (codes "not") rows inverted
Asks name rows (Some (Check input asm)) = (name ≡ codes "check") × IsCheckInput rows input × IsFlag (codes "graph") rows false × IsFlag (codes "asm") rows asm
Asks name rows (Some (Graph input)) = (name ≡ codes "check") × IsCheckInput rows input × IsFlag (codes "graph") rows true
Asks name rows (Some (Dump stream stamped)) = (name ≡ codes "dump") × IsFlag (codes "stream") rows stream × IsFlag (codes "time") rows stamped
Asks name rows (Some (Sim files)) = (name ≡ codes "sim") × AreTexts (codes "files") rows files.items
Asks name rows (Some (Run files)) = (name ≡ codes "run") × AreTexts (codes "files") rows files.items
Asks name rows (Some (Draw text)) = (name ≡ codes "draw") × IsFlag (codes "text") rows text
Asks name rows (Some (Compile words listing)) = (name ≡ codes "compile") × AreTexts (codes "words") rows words.items × IsListing rows listing
Asks name rows None = Contains command_names name → ⊥

-- the same, with the files that are the input and how they are meant, the link type that is named, and how many bytes an expression accepts
abbrev pub AsksWith : Text → List Row → Option Invocation → Type 0
AsksWith name rows (Some invocation) = Asks name rows (Some invocation.request) × AreInputs rows invocation.inputs.items × IsLink rows invocation.link
    × IsNumber (codes "snap") rows invocation.accept × AreFileWords rows invocation.files
AsksWith name rows None = Asks name rows None

-- what the command that was found asks for
abbrev pub AsksBy : Option (Text × List Row) → Option Invocation → Type 0
AsksBy (Some found) invocation = AsksWith found.0 found.1 invocation
AsksBy None invocation = invocation ≡ None

-- the request is such a one, its input is standard input, and no link type is named
abbrev pub FromStandardInput : (Option Request → Type 0) → Option Invocation → Type 0
FromStandardInput P (Some invocation) = P (Some invocation.request) × (invocation.inputs.items ≡ []) × (invocation.link ≡ None)
FromStandardInput P None = P None

-- the same of a request whose CODE is given, and not the name of a file, and where nothing is said of how many bytes are accepted
abbrev pub FromGivenCode : (Option Request → Type 0) → Option Invocation → Type 0
FromGivenCode P (Some invocation) = FromStandardInput P (Some invocation) × (invocation.files.code ≡ false) × (invocation.accept ≡ None)
FromGivenCode P None = P None

-- The words of the commands, after the program's name

abbrev pub Spells : List Text → List Text → Type 0
Spells words command = (name : Text) × (words ≡ name ∷ command)

-- the word of a flag, where it is given
abbrev pub flag_word : Text → Bool → List Text
flag_word word true = word ∷ []
flag_word word false = []

abbrev pub match_words : Text → Bool → Bool → List Text
match_words code pcap stream = codes "match" ∷ code ∷ flag_word (codes "--pcap") pcap ++ flag_word (codes "--stream") stream

-- the words of a view
abbrev pub view_flags : MatchView → List Text
view_flags Numbers = codes "--number" ∷ []
view_flags Count = codes "--count" ∷ []
view_flags NumbersAndCount = codes "--number" ∷ codes "--count" ∷ []
view_flags Quiet = codes "--quiet" ∷ []

abbrev pub view_words : Text → Bool → MatchView → List Text
view_words code pcap view = codes "match" ∷ code ∷ flag_word (codes "--pcap") pcap ++ view_flags view

abbrev pub explain_words : Text → List Text
explain_words code = codes "match" ∷ code ∷ codes "--explain" ∷ []

abbrev pub keep_words : Text → Bool → List Text
keep_words code inverted = codes "keep" ∷ code ∷ flag_word (codes "--not") inverted

abbrev pub check_words : Bool → List Text
check_words asm = codes "check" ∷ flag_word (codes "--asm") asm

abbrev pub draw_words : Bool → List Text
draw_words text = codes "draw" ∷ flag_word (codes "--text") text

abbrev pub BeginsWithDigit : Text → Type 0
BeginsWithDigit text = (digit : ℕ) × (rest : Text) × Contains (codes "0123456789") digit × (text ≡ digit ∷ rest)

-- a `match` of this CODE
abbrev pub IsMatch : Text → Bool → Bool → Option Request → Type 0
IsMatch text pcap stream request = (code : Bor Text) × (request ≡ Some (Match code pcap stream)) × (code.now ≡ text)

-- the same, shown in another way
abbrev pub IsViewed : Text → Bool → MatchView → Option Request → Type 0
IsViewed text pcap view request = (code : Bor Text) × (request ≡ Some (Viewed code pcap view)) × (code.now ≡ text)

-- a `match --explain` of this CODE
abbrev pub IsExplain : Text → Option Request → Type 0
IsExplain text request = (code : Bor Text) × (request ≡ Some (Explain code false)) × (code.now ≡ text)

-- a `keep` of this CODE
abbrev pub IsKeep : Text → Bool → Option Request → Type 0
IsKeep text inverted request = (code : Bor Text) × (request ≡ Some (Keep code inverted)) × (code.now ≡ text)
