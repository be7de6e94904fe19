-- What a reader of captures answers (pcap-savefile(5) of libpcap, whose format is defined in Savefile).
use Rattle.std.specs.Prelude.{◌≡◌, ◌⊎◌, ℕ, List, ◌++◌, Option, Some, None, Result, Ok, Err}
use Rattle.pcap_reader.specs.Savefile.{Reads, ReadsFront, IsLasting}
use Rattle.pcap_reader.specs.declared.capture.Header.{Header}
use Rattle.pcap_reader.specs.declared.capture.CapturedPacket.{CapturedPacket}
use Rattle.pcap_reader.specs.declared.capture.Capture.{Capture}
use Rattle.pcap_reader.specs.declared.capture.Stop.{Stop}
use Rattle.pcap_reader.specs.declared.capture.CaptureFault.{CaptureFault}
use Rattle.pcap_reader.specs.declared.capture.CaptureFault.TheVariants.{NoMemory}

-- the answer is what the bytes hold
abbrev pub GivesWhole : List ℕ → Result Capture Stop → Type 0
GivesWhole bytes (Ok capture) = Reads bytes (Some capture.header) capture.packets None
GivesWhole bytes (Err stop) = Reads bytes stop.header stop.before (Some stop.fault)

-- memory was refused, and the answer is what a front of the bytes holds
abbrev pub GivesFront : List ℕ → Result Capture Stop → Type 0
GivesFront bytes (Ok capture) = ⊥
GivesFront bytes (Err stop) = (stop.fault ≡ NoMemory) × ReadsFront bytes stop.header stop.before

-- the answer is this header, these packets and this fault
abbrev pub IsReading : Option Header → List CapturedPacket → Option CaptureFault → Result Capture Stop → Type 0
IsReading header packets fault (Ok capture) = (header ≡ Some capture.header) × (packets ≡ capture.packets) × (fault ≡ None)
IsReading header packets fault (Err stop) = (header ≡ stop.header) × (packets ≡ stop.before) × (fault ≡ Some stop.fault)

-- memory was refused, and the answer begins this header and these packets
abbrev pub BeginsReading : Option Header → List CapturedPacket → Result Capture Stop → Type 0
BeginsReading header packets (Ok capture) = ⊥
BeginsReading header packets (Err stop) =
    (stop.fault ≡ NoMemory) × ((stop.header ≡ None) ⊎ (stop.header ≡ header)) × (more : List CapturedPacket) × (packets ≡ stop.before ++ more)

-- whatever the bytes hold is the answer, or the answer begins it
abbrev pub GivesOnly : List ℕ → Result Capture Stop → Type 0
GivesOnly bytes answer = (header : Option Header) (packets : List CapturedPacket) (fault : Option CaptureFault)
    → Reads bytes header packets fault → IsReading header packets fault answer ⊎ BeginsReading header packets answer

-- the bytes hold something
abbrev pub HasReading : List ℕ → Type 0
HasReading bytes = (header : Option Header) × (packets : List CapturedPacket) × (fault : Option CaptureFault) × Reads bytes header packets fault

-- the bytes hold one thing at most
abbrev pub HasOneReading : List ℕ → Type 0
HasOneReading bytes = (header header' : Option Header) (packets packets' : List CapturedPacket) (fault fault' : Option CaptureFault)
    → Reads bytes header packets fault → Reads bytes header' packets' fault' → (header ≡ header') × (packets ≡ packets') × (fault ≡ fault')

-- a piece's answer, with which these bytes are fed: the fault in them that stands whatever follows, or that memory was refused
abbrev pub Tells : List ℕ → Result (Unit {0}) CaptureFault → Type 0
Tells fed (Ok done) = (header : Option Header) (packets : List CapturedPacket) (fault : CaptureFault)
    → Reads fed header packets (Some fault) → ¬ (IsLasting fault)
Tells fed (Err fault) =
    (fault ≡ NoMemory)
    ⊎ (IsLasting fault × (header : Option Header) × (packets : List CapturedPacket) × Reads fed header packets (Some fault))
