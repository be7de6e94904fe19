-- What `check` shows of the text of a program: the program as decimal or as assembler text, or why it has none.
use Rattle.std.specs.Prelude.{◌≡◌, ℕ, ◌<◌, ◌≤◌, ◌⊎◌, Bool, true, false, List, [], ◌++◌, length, codes, Option, Some, None, Err}
use Rattle.std.specs.Fmt.{decimal}
use Rattle.bpf_insn.specs.declared.insn.Insn.{Insn}
use Rattle.bpf_insn.specs.declared.form.Form.{Form}
use Rattle.bpf_insn.specs.declared.ddd.TextFault.{TextFault}
use Rattle.bpf_insn.specs.Program.{form_at}
use Rattle.bpf_insn.specs.AsmText.{IsPrintable, PrintsAt, asm_text}
use Rattle.bpf_insn.specs.Ddd.{Ddd, Faults}
use Rattle.bpf_insn.specs.DddText.{ddd_text}
use Rattle.filter_asm.specs.Program.{Asm, Assembles, Fault}
use Rattle.filter_listing.specs.Lines as listing
use Rattle.filter_listing.specs.declared.fault.ListingFault.{ListingFault}
use Rattle.filter_listing.specs.declared.fault.ListingFaultKind.{ListingFaultKind}
use Rattle.filter_listing.specs.declared.fault.ListingFaultKind.TheVariants as faults
use Rattle.engine_io.specs.declared.input.TheConstants.{INPUT_BYTES}
use Rattle.engine_io.specs.Reading.{ShowsTooLong}
use Rattle.console.specs.Code.{code_line}
use Rattle.console.specs.Words.{asm_fault_name}
use Rattle.console.specs.declared.checking.CheckInput.{CheckInput}
use Rattle.console.specs.declared.checking.CheckInput.TheVariants.{Assembler, Listing, Decimal}

-- the line for the first fault of an assembler text
abbrev pub asm_fault_line : Fault → List ℕ
asm_fault_line fault = codes "line " ++ decimal fault.line ++ codes ": " ++ asm_fault_name fault.kind ++ codes "\n"

-- the line for the first fault of a listing
abbrev pub listing_fault_name : ListingFaultKind → List ℕ
listing_fault_name faults.BadLine = codes "BadLine"
listing_fault_name faults.TooLong = codes "TooLong"
listing_fault_name faults.NoMemory = []

abbrev pub listing_fault_line : ListingFault → List ℕ
listing_fault_line fault = codes "line " ++ decimal fault.line ++ codes ": " ++ listing_fault_name fault.kind ++ codes "\n"

-- the least place of an instruction that has no assembler text: its code is none, or it is a jump that leads outside
pub record IsFirstUnprinted (program : List Insn) (pc : ℕ) : Type 0 where
  pub within : pc < length program
  pub here : PrintsAt program pc → ⊥
  pub before : (earlier : ℕ) → earlier < pc → PrintsAt program earlier

-- the rule by which it has none, and the line for a program whose first such instruction it is
abbrev pub unprinted_rule : Option Form → List ℕ
unprinted_rule None = codes "BadCode"
unprinted_rule (Some form) = codes "JumpOut"

abbrev pub unprinted_line : List Insn → ℕ → List ℕ
unprinted_line program pc = codes "refused " ++ unprinted_rule (form_at program pc) ++ codes " pc " ++ decimal pc ++ codes "\n"

-- what is shown of a program: its decimal text, or its assembler text where it has one
abbrev pub ShowsProgram : Bool → List Insn → ℕ → List ℕ → Type 0
ShowsProgram false program status text = (status ≡ 0) × (text ≡ ddd_text program)
ShowsProgram true program status text =
    (IsPrintable program × (status ≡ 0) × (text ≡ asm_text program))
    ⊎ ((pc : ℕ) × IsFirstUnprinted program pc × (status ≡ 1) × (text ≡ unprinted_line program pc))

-- the text is that of this program
abbrev pub Reads : CheckInput → List ℕ → List Insn → Type 0
Reads Assembler text program = Asm text program
Reads Listing text program = listing.Spells text program
Reads Decimal text program = Ddd text program

-- the text is that of none, and this is the line for its first fault
abbrev pub ShowsFault : CheckInput → List ℕ → List ℕ → Type 0
ShowsFault Assembler text line = (fault : Fault) × Assembles text (Err fault) × (line ≡ asm_fault_line fault)
ShowsFault Listing text line = (fault : ListingFault) × listing.Faults text fault × (line ≡ listing_fault_line fault)
ShowsFault Decimal text line = (fault : TextFault) × Faults text fault × (line ≡ code_line fault)

-- what is shown of a text: of its program, or the line of its first fault
abbrev pub ShowsText : CheckInput → Bool → List ℕ → ℕ → List ℕ → Type 0
ShowsText input asm bytes status text =
    ((program : List Insn) × Reads input bytes program × ShowsProgram asm program status text)
    ⊎ (ShowsFault input bytes text × (status ≡ 1))

-- what `check` shows of an input, whose length has a limit
abbrev pub ShowsCheck : CheckInput → Bool → List ℕ → ℕ → List ℕ → Type 0
ShowsCheck input asm bytes status text =
    ((length bytes ≤ INPUT_BYTES) × ShowsText input asm bytes status text)
    ⊎ ((INPUT_BYTES < length bytes) × ShowsTooLong status text)
