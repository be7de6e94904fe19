-- Filters, packets, and what one instruction alone does.
use Rattle.std.specs.Prelude.{ℕ, List, [], ◌∷◌, length}
use Rattle.std.specs.FinMap.{empty}
use Rattle.bpf_insn.specs.declared.insn.Insn.{Insn}
use Rattle.bpf_insn.specs.Machine.{Packet, State, Step, Last}

-- a packet of these bytes, none of which were cut off
abbrev pub whole : List ℕ → Packet
whole bytes = record { bytes = bytes; original = length bytes }

-- The filter for ARP

-- an instruction by its numbers, in the order of tcpdump -ddd (tcpdump(1))
abbrev pub insn : ℕ → ℕ → ℕ → ℕ → Insn
insn code jt jf k = record { code = code; jt = jt; jf = jf; k = k }

-- tcpdump -ddd -y EN10MB -s 64 arp
abbrev pub arp : List Insn
arp = insn 40 0 0 12 ∷ insn 21 0 1 2054 ∷ insn 6 0 0 64 ∷ insn 6 0 0 0 ∷ []

-- to all from 00:11:22:33:44:55, of type 0806
abbrev pub arp_request : Packet
arp_request = whole (255 ∷ 255 ∷ 255 ∷ 255 ∷ 255 ∷ 255 ∷ 0 ∷ 17 ∷ 34 ∷ 51 ∷ 68 ∷ 85 ∷ 8 ∷ 6 ∷ 0 ∷ 1 ∷ [])

-- the same of type 0800
abbrev pub ip_datagram : Packet
ip_datagram = whole (255 ∷ 255 ∷ 255 ∷ 255 ∷ 255 ∷ 255 ∷ 0 ∷ 17 ∷ 34 ∷ 51 ∷ 68 ∷ 85 ∷ 8 ∷ 0 ∷ 69 ∷ 0 ∷ [])

-- the first 13 bytes of the frame of ARP
abbrev pub cut_frame : Packet
cut_frame = record { bytes = 255 ∷ 255 ∷ 255 ∷ 255 ∷ 255 ∷ 255 ∷ 0 ∷ 17 ∷ 34 ∷ 51 ∷ 68 ∷ 85 ∷ 8 ∷ []; original = 16 }

-- One instruction

abbrev pub nothing : Packet
nothing = whole []

-- the first five bytes of 60
abbrev pub cut : Packet
cut = record { bytes = 255 ∷ 1 ∷ 2 ∷ 3 ∷ 69 ∷ []; original = 60 }

-- the machine at a place, with this A and this X
abbrev pub at : ℕ → ℕ → ℕ → State
at pc a x = record { pc = pc; a = a; x = x; memory = empty }

-- the instruction alone goes on to the next place, and takes these A and X to those
abbrev pub Turns : Insn → Packet → ℕ → ℕ → ℕ → ℕ → Type 0
Turns i packet a x new_a new_x = Step (i ∷ []) packet (at 0 a x) (at 1 new_a new_x)

-- the instruction alone at place 0 goes on to this place
abbrev pub Jumps : Insn → ℕ → ℕ → ℕ → Type 0
Jumps i a x to = Step (i ∷ []) nothing (at 0 a x) (at to a x)

-- the instruction alone ends the run with this verdict
abbrev pub Stops : Insn → Packet → ℕ → ℕ → ℕ → Type 0
Stops i packet a x verdict = Last (i ∷ []) packet (at 0 a x) verdict
