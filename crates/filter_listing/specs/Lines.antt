-- The texts that `tcpdump -d` and `tcpdump -dd` print of programs.
use Rattle.std.specs.Prelude.{◌≡◌, ◌≢◌, ℕ, ◌+◌, ◌<◌, ◌≤◌, ◌==◌, ◌||◌, not, if◌then◌else◌, Bool, List, [], ◌∷◌, ◌++◌, length, filter, position, slice_index}
use Rattle.std.specs.List.{slice_split, AllZip, enumerate_from}
use Rattle.std.specs.Option.{option_map_or}
use Rattle.bpf_insn.specs.Texts.{is_blank, words_of}
use Rattle.bpf_insn.specs.declared.insn.TheConstants.{MAX_INSNS}
use Rattle.bpf_insn.specs.declared.insn.Insn.{Insn}
use Rattle.filter_listing.specs.declared.reading.Style.{Style}
use Rattle.filter_listing.specs.declared.reading.Style.TheVariants.{Images, Initializers}
use Rattle.filter_listing.specs.declared.fault.ListingFault.{ListingFault}
use Rattle.filter_listing.specs.declared.fault.ListingFaultKind.{ListingFaultKind}
use Rattle.filter_listing.specs.declared.fault.ListingFaultKind.TheVariants.{BadLine, TooLong, NoMemory}
use Rattle.filter_listing.specs.Image.{IsImage}
use Rattle.filter_listing.specs.Initializer.{IsInitializer, tokens}

-- the lines of a text, which line feeds part
abbrev pub lines_of : List ℕ → List (List ℕ)
lines_of text = slice_split (λ b. b == 10) text

-- the line has a word
abbrev pub has_words : List ℕ → Bool
has_words line = not (length (words_of line) == 0)

-- those of the lines that have words
abbrev pub filled : List (List ℕ) → List (List ℕ)
filled lines = filter has_words lines

-- the line is what is printed of an instruction at a place: by `-d`, or by `-dd`
abbrev pub IsLine : Style → ℕ → List ℕ → Insn → Type 0
IsLine Images place line insn = IsImage place (words_of line) insn
IsLine Initializers place line insn = IsInitializer (tokens line) insn

-- the lines that have words are those of the instructions, in order, from place 0
abbrev pub AreLines : Style → List (List ℕ) → List Insn → Type 0
AreLines style lines program = AllZip (λ line at. IsLine style at.0 line at.1) (filled lines) (enumerate_from 0 program)

-- a program's first byte tells what printed it
abbrev pub is_gap : ℕ → Bool
is_gap b = is_blank b || b == 10

abbrev pub style_by : ℕ → Style
style_by b = if b == 123 then Initializers else Images

abbrev pub style_of : List ℕ → Style
style_of text = option_map_or (λ place. style_by (slice_index text place)) (position (λ b. not (is_gap b)) text) Images

-- the text is the listing of a program
pub record SpellsIn (style : Style) (text : List ℕ) (program : List Insn) : Type 0 where
  pub short : length program ≤ MAX_INSNS
  pub listed : AreLines style (lines_of text) program

abbrev pub Spells : List ℕ → List Insn → Type 0
Spells text program = SpellsIn (style_of text) text program

-- after the lines of a program, the line of this number has words, and is that of no instruction at the next place ..
abbrev pub IsRefused : ListingFaultKind → Style → List Insn → List ℕ → Type 0
IsRefused BadLine style program line = (length program < MAX_INSNS) × ((insn : Insn) → IsLine style (length program) line insn → ⊥)
-- .. or the program is as long as one can be
IsRefused TooLong style program line = length program ≡ MAX_INSNS
IsRefused NoMemory style program line = ⊥

pub record FaultsIn (style : Style) (text : List ℕ) (fault : ListingFault) : Type 0 where
  pub good : List (List ℕ)
  pub bad : List ℕ
  pub more : List (List ℕ)
  pub program : List Insn
  pub parts : lines_of text ≡ good ++ bad ∷ more
  pub at : length good + 1 ≡ fault.line
  pub before : AreLines style good program
  pub worded : words_of bad ≢ []
  pub refused : IsRefused fault.kind style program bad

-- the first fault of a text
abbrev pub Faults : List ℕ → ListingFault → Type 0
Faults text fault = FaultsIn (style_of text) text fault
