-- The faults of a capture of either format.
use Rattle.std.specs.Prelude.{Bool, true, false}
use Rattle.pcap_reader.specs.declared.capture.CaptureFault.TheVariants as savefiles
use Rattle.pcapng_reader.specs.declared.fault.CaptureFault.TheVariants as blocks
use Rattle.pcap_reader.specs.Savefile.{IsLasting as IsLastingSavefile}
use Rattle.pcapng_reader.specs.Grammar.{IsLasting as IsLastingPcapng}
use Rattle.capture_reader.specs.declared.fault.ReadFault.{ReadFault}
use Rattle.capture_reader.specs.declared.fault.ReadFault.TheVariants.{Savefile, Pcapng}

-- memory was refused, and nothing is wrong with the capture so far
abbrev pub is_refusal : ReadFault → Bool
is_refusal (Savefile savefiles.NoMemory) = true
is_refusal (Savefile fault) = false
is_refusal (Pcapng blocks.NoMemory) = true
is_refusal (Pcapng fault) = false

-- a fault that stands whatever bytes follow
abbrev pub IsLasting : ReadFault → Type 0
IsLasting (Savefile fault) = IsLastingSavefile fault
IsLasting (Pcapng fault) = IsLastingPcapng fault
