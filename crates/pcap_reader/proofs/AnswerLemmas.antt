-- What is answered is all that the bytes hold.
use Rattle.std.proofs.Common.{◌≡◌, ◌≢◌, ℕ, ◌<◌, ◌⊎◌, List, [], ◌++◌, All, refl, sym, inl, inr, Option, Some, None, Result, Ok, Err}
use Rattle.pcap_reader.specs.declared.capture.Header.{Header}
use Rattle.pcap_reader.specs.declared.capture.CapturedPacket.{CapturedPacket}
use Rattle.pcap_reader.specs.declared.capture.Capture.{Capture}
use Rattle.pcap_reader.specs.declared.capture.Stop.{Stop}
use Rattle.pcap_reader.specs.declared.capture.CaptureFault.{CaptureFault}
use Rattle.pcap_reader.specs.declared.capture.CaptureFault.TheVariants.{BadMagic, BadVersion, TruncatedHeader, TruncatedRecord, TooLong, NoMemory}
use Rattle.pcap_reader.specs.declared.feed.Feed.{Feed}
use Rattle.pcap_reader.specs.Savefile.{IsPart, Reads, IsLasting}
use Rattle.pcap_reader.specs.Answers.{GivesWhole, GivesFront, GivesOnly, Tells}
use Rattle.pcap_reader.specs.Held.{Keeps, IsOpen, HoldsBehind, BehindAt, Says}
use Rattle.pcap_reader.proofs.LawLemmas.{one_reading, has_fronts}

pub gives_only : (bs : List ℕ) (r : Result Capture Stop) → All (λ b. b < 256) bs → GivesWhole bs r ⊎ GivesFront bs r → GivesOnly bs r
gives_only bs (Ok capture) small (inl whole) h ks f reads =
    let one = one_reading bs small (Some capture.header) h capture.packets ks None f whole reads in inl (sym one.0, sym one.1, sym one.2)
gives_only bs (Err stop) small (inl whole) h ks f reads =
    let one = one_reading bs small stop.header h stop.before ks (Some stop.fault) f whole reads in inl (sym one.0, sym one.1, sym one.2)
gives_only bs (Ok capture) small (inr front) h ks f reads = absurd front
gives_only bs (Err stop) small (inr front) h ks f reads =
    let begins = has_fronts bs small stop.header h stop.before ks f front.1 reads in inr (front.0, begins.0, begins.1, begins.2)

open_end : (fed : List ℕ) (h : Header) (packets : List CapturedPacket) (offset : ℕ) (part : List ℕ) → Keeps fed h packets offset part → part ≡ [] → Reads fed (Some h) packets None
open_end fed h packets offset part keeps none = record {
  head = keeps.head;
  records = keeps.records;
  rest = part;
  parts = keeps.parts;
  header = keeps.header;
  each = keeps.each;
  ends = none;
}

open_part : (fed : List ℕ) (h : Header) (packets : List CapturedPacket) (offset : ℕ) (part : List ℕ) → Keeps fed h packets offset part → IsPart h.big part → Reads fed (Some h) packets (Some (TruncatedRecord offset))
open_part fed h packets offset part keeps half = record {
  head = keeps.head;
  records = keeps.records;
  rest = part;
  parts = keeps.parts;
  header = keeps.header;
  each = keeps.each;
  ends = (half, keeps.place);
}

not_lasting : (f g : CaptureFault) → Some f ≡ Some g → ¬ (IsLasting f) → ¬ (IsLasting g)
not_lasting f g same brief = let e : f ≡ g = cc in rw e at brief

-- no fault that stands whatever follows is in what an open feed was fed
open_tells : (fed : List ℕ) (header : Option Header) (packets : List CapturedPacket) (offset : ℕ) (part : List ℕ) → All (λ b. b < 256) fed → IsOpen fed header packets offset part
    → (h : Option Header) (ks : List CapturedPacket) (f : CaptureFault) → Reads fed h ks (Some f) → ¬ (IsLasting f)
open_tells fed None packets offset part small was h ks f reads =
    let one = one_reading fed small None h [] ks (Some TruncatedHeader) (Some f) (refl, was.3) reads in
    not_lasting TruncatedHeader f one.2 (λ lasting. lasting)
open_tells fed (Some k) packets offset part small was h ks f reads = elim was.1 [
  | inl none ↦ let one = one_reading fed small (Some k) h packets ks None (Some f) (open_end fed k packets offset part was.0 none) reads in
      let e : None ≡ Some f = one.2 in absurd (cc)
  | inr half ↦ let one = one_reading fed small (Some k) h packets ks (Some (TruncatedRecord offset)) (Some f) (open_part fed k packets offset part was.0 half) reads in
      not_lasting (TruncatedRecord offset) f one.2 (λ lasting. lasting)
]

pub tells : (given : List CapturedPacket) (fed : List ℕ) (feed : Feed) (r : Result (Unit {0}) CaptureFault) → HoldsBehind given fed feed → Says feed.fault r → Tells fed r
tells given fed feed (Ok done) held says = open_tells fed feed.header (given ++ feed.packets.items) feed.offset feed.part.items held.0 (rw says at held.1)
tells given fed feed (Err f) held says = stopped_tells (rw says at held.1) where
  stopped_tells : BehindAt given fed feed (Some f) → Tells fed (Err f)
  stopped_tells (inl stood) = inr (stood.0, feed.header, given ++ feed.packets.items, stood.1)
  stopped_tells (inr refused) = inl refused.0

pub memory_or_not : (fault : Option CaptureFault) → (fault ≡ Some NoMemory) ⊎ (fault ≢ Some NoMemory)
memory_or_not None = inr (λ e. cc)
memory_or_not (Some BadMagic) = inr (λ e. cc)
memory_or_not (Some BadVersion) = inr (λ e. cc)
memory_or_not (Some TruncatedHeader) = inr (λ e. cc)
memory_or_not (Some (TruncatedRecord at)) = inr (λ e. cc)
memory_or_not (Some (TooLong at)) = inr (λ e. cc)
memory_or_not (Some NoMemory) = inl refl

pub whole_or_front : (fed : List ℕ) (fault : Option CaptureFault) (r : Result Capture Stop) → (fault ≢ Some NoMemory → GivesWhole fed r) → (fault ≡ Some NoMemory → GivesFront fed r) → GivesWhole fed r ⊎ GivesFront fed r
whole_or_front fed fault r whole front = elim (memory_or_not fault) [ inl refused ↦ inr (front refused) | inr other ↦ inl (whole other) ]
