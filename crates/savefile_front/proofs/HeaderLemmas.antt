-- What the first bytes of a capture say of its header.
use Rattle.std.proofs.Common.{◌≡◌, ◌≢◌, ℕ, ◌≤◌, ◌⊎◌, inl, inr, min, List, [], ◌++◌, length, take, drop, arith, refl, ap, ◌∙◌, length-append, Option, Some, None, Ok, Err}
use Rattle.std.specs.List.{concat}
use Rattle.std.proofs.lemmas.List.{append-nil, nil_from_length, take-append-drop, take_all, length-take-le}
use Rattle.std.proofs.lemmas.Bool.{cases_lt}
use Rattle.pcap_reader.specs.declared.capture.Header.{Header}
use Rattle.pcap_reader.specs.declared.capture.Capture.{Capture}
use Rattle.pcap_reader.specs.declared.capture.Stop.{Stop}
use Rattle.pcap_reader.specs.declared.capture.CapturedPacket.{CapturedPacket}
use Rattle.pcap_reader.specs.declared.capture.CaptureFault.{CaptureFault}
use Rattle.pcap_reader.specs.declared.capture.CaptureFault.TheVariants.{BadMagic, BadVersion, TruncatedHeader, TruncatedRecord, TooLong, NoMemory}
use Rattle.pcap_reader.specs.Answers.{GivesFront, GivesWhole}
use Rattle.pcap_reader.specs.Savefile.{HasNoHeader, IsHeader, Reads}
use Rattle.pcap_reader.proofs.Fronts.{reads-lasts}

-- a capture of 24 bytes at most is its header
whole_header : (bytes : List ℕ) (h : Header) (packets : List CapturedPacket) → length bytes ≤ 24 → Reads bytes (Some h) packets None → IsHeader bytes h
whole_header bytes h packets few reads =
    let none : concat reads.records ≡ [] = nil_from_length (concat reads.records) (omega (arith, ap length reads.parts, length-append (reads.head ++ concat reads.records) reads.rest, length-append reads.head (concat reads.records), reads.header.long)) in
    let all : bytes ≡ reads.head = reads.parts ∙ ap (λ t. (reads.head ++ concat reads.records) ++ t) reads.ends ∙ append-nil (reads.head ++ concat reads.records) ∙ ap (λ t. reads.head ++ t) none ∙ append-nil reads.head in
    rw all reads.header

pub found_header : (bytes : List ℕ) (capture : Capture) → length bytes ≤ 24 → GivesWhole bytes (Ok capture) ⊎ GivesFront bytes (Ok capture) → IsHeader bytes capture.header
found_header bytes capture few (inl whole) = whole_header bytes capture.header capture.packets few whole
found_header bytes capture few (inr front) = absurd front

-- and what is wrong with so few bytes is wrong with their header
wrong_header : (bytes : List ℕ) (header : Option Header) (packets : List CapturedPacket) (f : CaptureFault) → length bytes ≤ 24 → Reads bytes header packets (Some f) → HasNoHeader bytes f
wrong_header bytes None packets f few reads = reads.1
wrong_header bytes (Some h) packets BadMagic few reads = absurd reads.ends
wrong_header bytes (Some h) packets BadVersion few reads = absurd reads.ends
wrong_header bytes (Some h) packets TruncatedHeader few reads = absurd reads.ends
wrong_header bytes (Some h) packets (TruncatedRecord at) few reads =
    absurd (omega (arith, ap length reads.parts, length-append (reads.head ++ concat reads.records) reads.rest, length-append reads.head (concat reads.records), reads.header.long, reads.ends.0.0))
wrong_header bytes (Some h) packets (TooLong at) few reads =
    absurd (omega (arith, ap length reads.parts, length-append (reads.head ++ concat reads.records) reads.rest, length-append reads.head (concat reads.records), reads.header.long, reads.ends.0.0))
wrong_header bytes (Some h) packets NoMemory few reads = absurd reads.ends

pub no_header : (bytes : List ℕ) (stop : Stop) → length bytes ≤ 24 → stop.fault ≢ NoMemory → GivesWhole bytes (Err stop) ⊎ GivesFront bytes (Err stop) → HasNoHeader bytes stop.fault
no_header bytes stop few other (inl whole) = wrong_header bytes stop.header stop.before stop.fault few whole
no_header bytes stop few other (inr front) = absurd (other front.0)

-- what is wrong with 24 bytes is wrong whatever follows
wrong_on : (front more : List ℕ) (f : CaptureFault) → length front ≡ 24 → HasNoHeader front f → HasNoHeader (front ++ more) f
wrong_on front more BadMagic long wrong = (reads-lasts front more None [] BadMagic tt (refl, wrong)).1
wrong_on front more BadVersion long wrong = (reads-lasts front more None [] BadVersion tt (refl, wrong)).1
wrong_on front more TruncatedHeader long (inl short) = absurd (omega arith)
wrong_on front more TruncatedHeader long (inr (big, nano, magic, inl short)) = absurd (omega arith)
wrong_on front more TruncatedHeader long (inr (big, nano, magic, inr short)) = absurd (omega (arith, short.1))
wrong_on front more (TruncatedRecord at) long wrong = absurd wrong
wrong_on front more (TooLong at) long wrong = absurd wrong
wrong_on front more NoMemory long wrong = absurd wrong

-- so is what is wrong with the first 24 bytes, or with all where there are fewer
pub wrong_front : (bytes : List ℕ) (n : ℕ) (f : CaptureFault) → n ≡ min (length bytes) 24 → HasNoHeader (take n bytes) f → HasNoHeader bytes f
wrong_front bytes n f is wrong = elim (cases_lt (length bytes) 24) [
  | inl few ↦ let all : take n bytes ≡ bytes = take_all n bytes (omega (arith, is, few)) in rw all at wrong
  | inr more ↦ let parts : take n bytes ++ drop n bytes ≡ bytes = take-append-drop n bytes in
      rw parts at (wrong_on (take n bytes) (drop n bytes) f (omega (arith, is, more, length-take-le n bytes (omega (arith, is)))) wrong)
]
