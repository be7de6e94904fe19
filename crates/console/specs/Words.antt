-- The words for what is wrong with a decimal text, an assembler text or a capture.
use Rattle.std.specs.Prelude.{ℕ, List, [], ◌++◌, codes}
use Rattle.std.specs.Fmt.{decimal}
use Rattle.bpf_insn.specs.declared.ddd.TextFault.{TextFault}
use Rattle.bpf_insn.specs.declared.ddd.TextFault.TheVariants as texts
use Rattle.filter_asm.specs.declared.fault.AsmFaultKind.{AsmFaultKind}
use Rattle.filter_asm.specs.declared.fault.AsmFaultKind.TheVariants as asm
use Rattle.pcap_reader.specs.declared.capture.CaptureFault.{CaptureFault}
use Rattle.pcap_reader.specs.declared.capture.CaptureFault.TheVariants as captures
use Rattle.pcapng_reader.specs.declared.block.BlockError.{BlockError}
use Rattle.pcapng_reader.specs.declared.block.BlockError.TheVariants as errors
use Rattle.pcapng_reader.specs.declared.fault.CaptureFault.{CaptureFault as PcapngFault}
use Rattle.pcapng_reader.specs.declared.fault.CaptureFault.TheVariants as blocks
use Rattle.capture_reader.specs.declared.fault.ReadFault.{ReadFault}
use Rattle.capture_reader.specs.declared.fault.ReadFault.TheVariants.{Savefile, Pcapng}

abbrev pub code_words : TextFault → List ℕ
code_words (texts.BadNumber place) = codes "BadNumber " ++ decimal place
code_words texts.CountMismatch = codes "CountMismatch"
code_words texts.TooLong = codes "TooLong"
code_words texts.NoMemory = []

abbrev pub capture_words : CaptureFault → List ℕ
capture_words captures.BadMagic = codes "BadMagic"
capture_words captures.BadVersion = codes "BadVersion"
capture_words captures.TruncatedHeader = codes "TruncatedHeader"
capture_words (captures.TruncatedRecord place) = codes "TruncatedRecord " ++ decimal place
capture_words (captures.TooLong place) = codes "TooLong " ++ decimal place
capture_words captures.NoMemory = []

-- the names of what is wrong with a block
abbrev pub error_name : BlockError → List ℕ
error_name errors.NoSection = codes "NoSection"
error_name errors.BadByteOrder = codes "BadByteOrder"
error_name errors.BadLength = codes "BadLength"
error_name errors.LengthNotRepeated = codes "LengthNotRepeated"
error_name errors.BadVersion = codes "BadVersion"
error_name errors.NoInterface = codes "NoInterface"
error_name errors.BadCaptured = codes "BadCaptured"
error_name errors.TooManyInterfaces = codes "TooManyInterfaces"
error_name errors.TooLong = codes "TooLong"

-- with the place of its block
abbrev pub block_words : PcapngFault → List ℕ
block_words (blocks.BadBlock error place) = error_name error ++ codes " " ++ decimal place
block_words (blocks.Truncated place) = codes "Truncated " ++ decimal place
block_words blocks.NoMemory = []

-- the fault of a capture of either format
abbrev pub read_words : ReadFault → List ℕ
read_words (Savefile fault) = capture_words fault
read_words (Pcapng fault) = block_words fault

abbrev pub asm_fault_name : AsmFaultKind → List ℕ
asm_fault_name asm.Mnemonic = codes "Mnemonic"
asm_fault_name asm.Operand = codes "Operand"
asm_fault_name asm.Number = codes "Number"
asm_fault_name asm.NoLabel = codes "NoLabel"
asm_fault_name asm.TwiceLabel = codes "TwiceLabel"
asm_fault_name asm.Backward = codes "Backward"
asm_fault_name asm.TooFar = codes "TooFar"
asm_fault_name asm.TooLong = codes "TooLong"
asm_fault_name asm.NoMemory = []
