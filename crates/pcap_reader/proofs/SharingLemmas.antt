-- Packets of a file that are taken where they lie.
use Rattle.std.proofs.Common.{◌≡◌, ◌≢◌, ◌⊎◌, inl, inr, Option, Some, Result, Err, ℕ, ◌+◌, ◌<◌, ◌^◌, List, [], ◌∷◌, ◌++◌, length, arith, refl, ap, sym, ◌∙◌, subst, append_assoc, length-append, append-nil}
use Rattle.pcap_reader.specs.declared.capture.CapturedPacket.{CapturedPacket}
use Rattle.pcap_reader.specs.declared.feed.Feed.{Feed}
use Rattle.pcap_reader.specs.Held.{HoldsBehind, TakesFront, TakesWhole, IsEnding, held_fault, held_header, held_packets}
use Rattle.pcap_reader.specs.Savefile.{Reads}
use Rattle.pcap_reader.specs.declared.capture.Header.{Header}
use Rattle.pcap_reader.specs.declared.capture.CaptureFault.{CaptureFault}
use Rattle.pcap_reader.specs.declared.capture.CaptureFault.TheVariants.{NoMemory}
use Rattle.pcap_reader.specs.Sharing.{IsLastOf, SharesTo}
use Rattle.pcap_reader.proofs.AnswerLemmas.{memory_or_not}

pub shares_none : (bytes : List ℕ) (feed : Feed) (packets : List CapturedPacket) → SharesTo bytes bytes feed feed packets packets
shares_none bytes feed packets = record {
  front = [];
  parts = refl;
  holds = λ fed held short. subst (λ f. HoldsBehind packets f feed) (sym (append-nil fed)) held;
}

pub shares_more : (bytes rest rest' : List ℕ) (old mid new : Feed) (before between after : List CapturedPacket) (packet : CapturedPacket)
    → SharesTo bytes rest old mid before between → TakesWhole rest rest' mid new packet → after ≡ between ++ packet ∷ [] → SharesTo bytes rest' old new before after
shares_more bytes rest rest' old mid new before between after packet first takes pushed = record {
  front = first.front ++ takes.front;
  parts = first.parts ∙ ap (λ t. first.front ++ t) takes.parts ∙ sym (append_assoc first.front takes.front rest');
  holds = λ fed held short.
      let all : (fed ++ first.front) ++ takes.front ≡ fed ++ (first.front ++ takes.front) = append_assoc fed first.front takes.front in
      let one = first.holds fed held (omega (arith, ap length all, length-append (fed ++ first.front) takes.front, short)) in
      let two = takes.holds between (fed ++ first.front) one (omega (arith, ap length all, short)) in
      rw (sym all, pushed) two;
}

pub last_of : (bytes rest file front : List ℕ) → bytes ≡ front ++ rest → IsLastOf bytes file → IsLastOf rest file
last_of bytes rest file front parts last = (last.0 ++ front, last.1 ∙ ap (λ t. last.0 ++ t) parts ∙ sym (append_assoc last.0 front rest))

-- the packet's bytes lie just before the rest
pub lies_before : (bytes rest file : List ℕ) (old new : Feed) (packet : CapturedPacket) → IsLastOf bytes file → TakesWhole bytes rest old new packet
    → (front : List ℕ) × (file ≡ front ++ (packet.bytes ++ rest))
lies_before bytes rest file old new packet last takes =
    (last.0 ++ takes.last.0, last.1 ∙ ap (λ t. last.0 ++ t) (takes.parts ∙ ap (λ t. t ++ rest) takes.last.1 ∙ append_assoc takes.last.0 packet.bytes rest) ∙ sym (append_assoc last.0 takes.last.0 (packet.bytes ++ rest)))

-- a file that was fed up to its rest
pub fed_to : (file rest rest' : List ℕ) (old mid new : Feed) (before after : List CapturedPacket) → HoldsBehind before [] old → TakesFront file rest old mid → SharesTo rest rest' mid new before after
    → length file < 2 ^ 64 → (front : List ℕ) × (file ≡ front ++ rest') × HoldsBehind after front new
fed_to file rest rest' old mid new before after held takes shares short = (takes.front ++ shares.front, all, two)
  where
    all : file ≡ (takes.front ++ shares.front) ++ rest'
    all = takes.parts ∙ ap (λ t. takes.front ++ t) shares.parts ∙ sym (append_assoc takes.front shares.front rest')

    long : length file ≡ length (takes.front ++ shares.front) + length rest'
    long = ap length all ∙ length-append (takes.front ++ shares.front) rest'

    parts : length (takes.front ++ shares.front) ≡ length takes.front + length shares.front
    parts = length-append takes.front shares.front

    two : HoldsBehind after (takes.front ++ shares.front) new
    two = shares.holds takes.front (takes.holds before [] held (omega (arith, short, long, parts))) (omega (arith, short, long))

-- how a capture ends whose packets were all taken
pub ends_with : (file : List ℕ) (feed : Feed) (given : List CapturedPacket) (answer : Result Header CaptureFault) (fault : CaptureFault)
    → (held_fault feed ≢ Some NoMemory → IsEnding file (held_header feed) (given ++ held_packets feed) answer)
    → (held_fault feed ≡ Some NoMemory → answer ≡ Err NoMemory) → answer ≡ Err fault
    → (fault ≡ NoMemory) ⊎ ((header : Option Header) × (packets : List CapturedPacket) × Reads file header packets (Some fault))
ends_with file feed given answer fault whole refused is = elim (memory_or_not (held_fault feed)) [
  | inl memory ↦ (let same = refused memory in inl (cc))
  | inr other ↦ inr (held_header feed, given ++ held_packets feed, rw is at (whole other))
]
