-- Each packet is of its section.
use Rattle.std.proofs.Common.{◌≡◌, ℕ, ◌<◌, ◌+◌, ◌-◌, ◌==◌, ◌||◌, ◌%◌, not, nat_lt, Bool, true, false, if◌then◌else◌, List, [], ◌∷◌, ◌++◌, length, take, drop, slice_get, arith, refl, ap, sym, ◌∙◌, inl, inr, append_assoc, subst, Option, Some, None, Result, Ok, Err}
use Rattle.std.proofs.lemmas.List.{append-nil}
use Rattle.pcap_reader.specs.Savefile.{number}
use Rattle.pcapng_reader.specs.declared.frame.Frame.{Frame}
use Rattle.pcapng_reader.specs.declared.front.Front.TheVariants.{Whole}
use Rattle.pcapng_reader.specs.declared.block.InterfaceDescription.{InterfaceDescription}
use Rattle.pcapng_reader.specs.declared.block.SectionHeader.{SectionHeader}
use Rattle.pcapng_reader.specs.declared.block.PacketEntry.{PacketEntry}
use Rattle.pcapng_reader.specs.declared.block.Content.{Content}
use Rattle.pcapng_reader.specs.declared.block.Content.TheVariants.{Section, Interface, Packet, Other}
use Rattle.pcapng_reader.specs.declared.block.BlockError.{BlockError}
use Rattle.pcapng_reader.specs.declared.block.BlockError.TheVariants.{NoSection, BadLength, TooLong}
use Rattle.pcapng_reader.specs.Blocks.{least_of, measure_of, measure_in, order_in, frame_in, content_in, content_by, header_in, described_in, enhanced_in, simple_in, obsolete_in, packet_in, packet_of, simple_of, if_fitting, fitting, simple_captured}
use Rattle.pcapng_reader.specs.Grammar.{WholeBlock, Place, start, front_in, place_after, IsBlock, Follow}
use Rattle.pcapng_reader.specs.Sections.{is_header, headers_in, described_by, interfaces_in, IsOfItsSection, AreOfTheirSections}
use Rattle.pcapng_reader.proofs.FrontLemmas.{Begins, begins_few, begins_bad, begins_part, begins_all, begins, chosen, guard_ok, outcome_whole}

-- what a packet says of its section and its interface
pub record IsDescribed (sections : ℕ) (interfaces : List InterfaceDescription) (entry : PacketEntry) : Type 0 where
  pub number : entry.section ≡ sections - 1
  pub described : InterfaceDescription
  pub interface : slice_get interfaces entry.interface ≡ Some described
  pub link : entry.link ≡ described.link

fitting_packet : (r : Result (Unit {0}) BlockError) (packet entry : PacketEntry) → if_fitting r packet ≡ Ok (Packet entry) → packet ≡ entry
fitting_packet (Err error) packet entry e = absurd (cc)
fitting_packet (Ok done) packet entry e = cc

described_as : (sections : ℕ) (interfaces : List InterfaceDescription) (packet entry : PacketEntry) (described : InterfaceDescription) → packet ≡ entry → packet.section ≡ sections - 1
    → slice_get interfaces packet.interface ≡ Some described → packet.link ≡ described.link → IsDescribed sections interfaces entry
described_as sections interfaces packet entry described same number interface link =
    let is : IsDescribed sections interfaces packet = record { number = number; described = described; interface = interface; link = link } in
    rw same at is

packet_described : (sections : ℕ) (interfaces : List InterfaceDescription) (o : Option InterfaceDescription) (interface : ℕ) (big : Bool) (block : List ℕ) (entry : PacketEntry) → slice_get interfaces interface ≡ o
    → packet_of sections o interface big block ≡ Ok (Packet entry) → IsDescribed sections interfaces entry
packet_described sections interfaces None interface big block entry is e = absurd (cc)
packet_described sections interfaces (Some described) interface big block entry is e =
    described_as sections interfaces _ entry described (fitting_packet (fitting 28 (number big 4 (drop 20 block)) (length block)) _ entry e) refl is refl

simple_described : (sections : ℕ) (interfaces : List InterfaceDescription) (o : Option InterfaceDescription) (big : Bool) (block : List ℕ) (entry : PacketEntry) → slice_get interfaces 0 ≡ o
    → simple_of sections o big block ≡ Ok (Packet entry) → IsDescribed sections interfaces entry
simple_described sections interfaces None big block entry is e = absurd (cc)
simple_described sections interfaces (Some described) big block entry is e =
    described_as sections interfaces _ entry described (fitting_packet (fitting 12 (simple_captured described.snaplen (number big 4 (drop 8 block))) (length block)) _ entry e) refl is refl

packets_described : (sections : ℕ) (interfaces : List InterfaceDescription) (interface : ℕ) (big : Bool) (block : List ℕ) (entry : PacketEntry) → packet_in sections interfaces interface big block ≡ Ok (Packet entry)
    → IsDescribed sections interfaces entry
unfolding packet_in
packets_described sections interfaces interface big block entry e = packet_described sections interfaces (slice_get interfaces interface) interface big block entry refl e

section_apart : (h : SectionHeader) (entry : PacketEntry) → ◌≡◌ {A = Result Content BlockError} (Ok (Section h)) (Ok (Packet entry)) → ⊥
section_apart h entry e = cc

interface_apart : (i : InterfaceDescription) (entry : PacketEntry) → ◌≡◌ {A = Result Content BlockError} (Ok (Interface i)) (Ok (Packet entry)) → ⊥
interface_apart i entry e = cc

other_apart : (entry : PacketEntry) → ◌≡◌ {A = Result Content BlockError} (Ok Other) (Ok (Packet entry)) → ⊥
other_apart entry e = cc

error_apart : (b : BlockError) (c : Content) → ◌≡◌ {A = Result Content BlockError} (Err b) (Ok c) → ⊥
error_apart b c e = cc

header_apart : (big : Bool) (block : List ℕ) (entry : PacketEntry) → header_in big block ≡ Ok (Packet entry) → ⊥
unfolding header_in
header_apart big block entry e = elim (chosen (number big 2 (drop 12 block) == 1) _ _ _ e) [ inl one ↦ section_apart _ entry one.1 | inr other ↦ error_apart _ _ other.1 ]

described_apart : (interfaces : List InterfaceDescription) (big : Bool) (block : List ℕ) (entry : PacketEntry) → described_in interfaces big block ≡ Ok (Packet entry) → ⊥
described_apart interfaces big block entry e = elim (chosen (nat_lt (length interfaces) 65536) _ _ _ e) [ inl room ↦ interface_apart _ entry room.1 | inr none ↦ error_apart _ _ none.1 ]

kind_described : (sections : ℕ) (interfaces : List InterfaceDescription) (big : Bool) (kind : ℕ) (block : List ℕ) (entry : PacketEntry) → content_by sections interfaces big kind block ≡ Ok (Packet entry) → IsDescribed sections interfaces entry
unfolding enhanced_in obsolete_in simple_in
kind_described sections interfaces big kind block entry e = elim (chosen (kind == 0x0a0d0d0a) _ _ _ e) [
  | inl is ↦ absurd (header_apart big block entry is.1)
  | inr a ↦ elim (chosen (kind == 1) _ _ _ a.1) [
    | inl is ↦ absurd (described_apart interfaces big block entry is.1)
    | inr b ↦ elim (chosen (kind == 6) _ _ _ b.1) [
      | inl is ↦ packets_described sections interfaces (number big 4 (drop 8 block)) big block entry is.1
      | inr c ↦ elim (chosen (kind == 3) _ _ _ c.1) [
        | inl is ↦ simple_described sections interfaces (slice_get interfaces 0) big block entry refl is.1
        | inr d ↦ elim (chosen (kind == 2) _ _ _ d.1) [
          | inl is ↦ packets_described sections interfaces (number big 2 (drop 8 block)) big block entry is.1
          | inr o ↦ absurd (other_apart entry o.1)
        ]
      ]
    ]
  ]
]

content_described : (sections : ℕ) (interfaces : List InterfaceDescription) (frame : Frame) (block : List ℕ) (entry : PacketEntry) → content_in sections interfaces frame block ≡ Ok (Packet entry) → IsDescribed sections interfaces entry
unfolding content_in
content_described sections interfaces frame block entry e = elim (chosen (number frame.big 4 (drop (length block - 4) block) == frame.total) _ _ _ e) [
  | inl repeated ↦ kind_described sections interfaces frame.big frame.kind block entry repeated.1
  | inr other ↦ absurd (error_apart _ _ other.1)
]

begun_described : (sections : ℕ) (big : Bool) (interfaces : List InterfaceDescription) (bytes : List ℕ) (n : ℕ) (entry : PacketEntry) → front_in sections big interfaces bytes ≡ Whole n (Packet entry) → Begins sections big interfaces bytes
    → IsDescribed sections interfaces entry
begun_described sections big interfaces bytes n entry whole (begins_few short is) = absurd (cc)
begun_described sections big interfaces bytes n entry whole (begins_bad error long framed is) = absurd (cc)
begun_described sections big interfaces bytes n entry whole (begins_part frame long framed short is) = absurd (cc)
begun_described sections big interfaces bytes n entry whole (begins_all frame long framed within is) =
    content_described sections interfaces frame (take frame.total bytes) entry (outcome_whole frame.total n (content_in sections interfaces frame (take frame.total bytes)) (Packet entry) (sym is ∙ whole)).1

-- a section header is the first block
measure_kind : (big : Bool) (kind : ℕ) (bytes : List ℕ) (frame : Frame) → measure_of big kind bytes ≡ Ok frame → kind ≡ frame.kind
unfolding measure_of
measure_kind big kind bytes frame e =
    let t = number big 4 bytes in
    let first = guard_ok (nat_lt t (least_of kind) || not (t % 4 == 0)) BadLength _ frame e in
    let second = guard_ok (nat_lt 16777216 t) TooLong _ frame first.1 in
    same_kind big kind t frame second.1
  where
    same_kind : (big : Bool) (kind t : ℕ) (frame : Frame) → ◌≡◌ {A = Result Frame BlockError} (Ok (record { big = big; kind = kind; total = t })) (Ok frame) → kind ≡ frame.kind
    same_kind big kind t frame e = let same : record { big = big; kind = kind; total = t } ≡ frame = cc in ap (λ (f : Frame). f.kind) same

measures_kind : (order : Result Bool BlockError) (kind : ℕ) (bytes : List ℕ) (frame : Frame) → measure_in order kind bytes ≡ Ok frame → kind ≡ frame.kind
measures_kind (Ok big) kind bytes frame e = measure_kind big kind bytes frame e
measures_kind (Err error) kind bytes frame e = absurd (cc)

first_kind : (big : Bool) (bytes : List ℕ) (frame : Frame) → frame_in 0 big bytes ≡ Ok frame → frame.kind == 0x0a0d0d0a ≡ true
unfolding frame_in
first_kind big bytes frame e = elim (chosen (number big 4 bytes == 0x0a0d0d0a) _ _ (Ok frame) e) [
  | inl header ↦ ap (λ k. k == 0x0a0d0d0a) (sym (measures_kind (order_in (drop 8 bytes)) (number big 4 bytes) (drop 4 bytes) frame header.1)) ∙ header.0
  | inr other ↦ absurd (no_section other.1)
]
  where
    no_section : ◌≡◌ {A = Result Frame BlockError} (Err NoSection) (Ok frame) → ⊥
    no_section e = cc

ok_content : (c d : Content) → ◌≡◌ {A = Result Content BlockError} (Ok c) (Ok d) → c ≡ d
ok_content c d e = cc

header_is : (big : Bool) (block : List ℕ) (content : Content) → header_in big block ≡ Ok content → is_header content ≡ true
unfolding header_in
header_is big block content e = elim (chosen (number big 2 (drop 12 block) == 1) _ _ _ e) [
  | inl one ↦ sym (ap is_header (ok_content _ content one.1))
  | inr other ↦ absurd (error_apart _ _ other.1)
]

content_first : (interfaces : List InterfaceDescription) (frame : Frame) (block : List ℕ) (content : Content) → frame.kind == 0x0a0d0d0a ≡ true → content_in 0 interfaces frame block ≡ Ok content → is_header content ≡ true
unfolding content_in
content_first interfaces frame block content kind e = elim (chosen (number frame.big 4 (drop (length block - 4) block) == frame.total) _ _ _ e) [
  | inl repeated ↦ header_is frame.big block content (sym (by_kind kind) ∙ repeated.1)
  | inr other ↦ absurd (error_apart _ _ other.1)
]
  where
    by_kind : frame.kind == 0x0a0d0d0a ≡ true → content_by 0 interfaces frame.big frame.kind block ≡ header_in frame.big block
    by_kind k = rw k refl

begun_first : (big : Bool) (interfaces : List InterfaceDescription) (bytes : List ℕ) (n : ℕ) (content : Content) → front_in 0 big interfaces bytes ≡ Whole n content → Begins 0 big interfaces bytes → is_header content ≡ true
begun_first big interfaces bytes n content whole (begins_few short is) = absurd (cc)
begun_first big interfaces bytes n content whole (begins_bad error long framed is) = absurd (cc)
begun_first big interfaces bytes n content whole (begins_part frame long framed short is) = absurd (cc)
begun_first big interfaces bytes n content whole (begins_all frame long framed within is) =
    content_first interfaces frame (take frame.total bytes) content (first_kind big bytes frame framed)
    (outcome_whole frame.total n (content_in 0 interfaces frame (take frame.total bytes)) content (sym is ∙ whole)).1

first_header : (block : WholeBlock) → IsBlock start block → is_header block.content ≡ true
first_header block one = begun_first true [] block.bytes (length block.bytes) block.content one.says (begins 0 true [] block.bytes)

-- blocks up to a place in a section
record HasSection (blocks : List WholeBlock) (place : Place) : Type 0 where
  pub earlier : List WholeBlock
  pub header : WholeBlock
  pub own : List WholeBlock
  pub parts : blocks ≡ earlier ++ header ∷ own
  pub begins : is_header header.content ≡ true
  pub none : headers_in own ≡ 0
  pub sections : place.sections ≡ headers_in earlier + 1
  pub interfaces : place.interfaces ≡ interfaces_in own

headers_in-append : (xs ys : List WholeBlock) → headers_in (xs ++ ys) ≡ headers_in xs + headers_in ys
headers_in-append [] ys = omega arith
headers_in-append (x ∷ xs) ys = omega (arith, headers_in-append xs ys)

interfaces_in-append : (xs ys : List WholeBlock) → interfaces_in (xs ++ ys) ≡ interfaces_in xs ++ interfaces_in ys
interfaces_in-append [] ys = refl
interfaces_in-append (x ∷ xs) ys = ap (λ t. described_by x.content ++ t) (interfaces_in-append xs ys) ∙ sym (append_assoc (described_by x.content) (interfaces_in xs) (interfaces_in ys))

own_more : (done : List WholeBlock) (p q : Place) (b : WholeBlock) → HasSection done p → is_header b.content ≡ false → q.sections ≡ p.sections → q.interfaces ≡ p.interfaces ++ described_by b.content → HasSection (done ++ b ∷ []) q
own_more done p q b has apart sections interfaces = record {
  earlier = has.earlier;
  header = has.header;
  own = has.own ++ b ∷ [];
  parts = ap (λ t. t ++ b ∷ []) has.parts ∙ append_assoc has.earlier (has.header ∷ has.own) (b ∷ []);
  begins = has.begins;
  none = let never : ◌≡◌ {A = ℕ} (if is_header b.content then 1 else 0) 0 = rw apart refl in omega (arith, headers_in-append has.own (b ∷ []), never, has.none);
  sections = sections ∙ has.sections;
  interfaces = interfaces ∙ (ap (λ t. t ++ described_by b.content) has.interfaces ∙ (ap (λ t. interfaces_in has.own ++ t) (sym (append-nil (described_by b.content))) ∙ sym (interfaces_in-append has.own (b ∷ []))));
}

section_begins : (done : List WholeBlock) (q : Place) (b : WholeBlock) → is_header b.content ≡ true → q.sections ≡ headers_in done + 1 → q.interfaces ≡ [] → HasSection (done ++ b ∷ []) q
section_begins done q b is sections interfaces = record {
  earlier = done;
  header = b;
  own = [];
  parts = refl;
  begins = is;
  none = refl;
  sections = sections;
  interfaces = interfaces;
}

all_headers : (done : List WholeBlock) (p : Place) → HasSection done p → headers_in done ≡ p.sections
all_headers done p has =
    let one : ◌≡◌ {A = ℕ} (if is_header has.header.content then 1 else 0) 1 = rw has.begins refl in
    omega (arith, ap headers_in has.parts, headers_in-append has.earlier (has.header ∷ has.own), one, has.none, has.sections)

section_step : (done : List WholeBlock) (p : Place) (b : WholeBlock) (c : Content) (n : ℕ) → b.content ≡ c → HasSection done p → HasSection (done ++ b ∷ []) (place_after p c n)
section_step done p b (Section h) n e has = section_begins done (place_after p (Section h) n) b (ap is_header e) (ap (λ k. k + 1) (sym (all_headers done p has))) refl
section_step done p b (Interface i) n e has = own_more done p (place_after p (Interface i) n) b has (ap is_header e) refl (ap (λ c. p.interfaces ++ described_by c) (sym e))
section_step done p b (Packet k) n e has = own_more done p (place_after p (Packet k) n) b has (ap is_header e) refl (sym (append-nil p.interfaces) ∙ ap (λ c. p.interfaces ++ described_by c) (sym e))
section_step done p b Other n e has = own_more done p (place_after p Other n) b has (ap is_header e) refl (sym (append-nil p.interfaces) ∙ ap (λ c. p.interfaces ++ described_by c) (sym e))

section_follows : (done bs : List WholeBlock) (p q : Place) → HasSection done p → Follow p bs q → HasSection (done ++ bs) q
section_follows done [] p q has follow = rw (append-nil done) (rw follow at has)
section_follows done (b ∷ bs) p q has follow =
    let more = section_follows (done ++ b ∷ []) bs (place_after p b.content (length b.bytes)) q (section_step done p b b.content (length b.bytes) refl has) follow.1 in
    subst (λ (xs : List WholeBlock). HasSection xs q) (append_assoc done (b ∷ []) bs) more

first_section : (b : WholeBlock) (c : Content) (n : ℕ) → b.content ≡ c → is_header c ≡ true → HasSection (b ∷ []) (place_after start c n)
first_section b (Section h) n e is = section_begins [] (place_after start (Section h) n) b (ap is_header e) refl refl
first_section b (Interface i) n e is = absurd (cc)
first_section b (Packet k) n e is = absurd (cc)
first_section b Other n e is = absurd (cc)

-- after a block there is a section
pub section_begun : (b : WholeBlock) (bs : List WholeBlock) (q : Place) → Follow start (b ∷ bs) q → 0 < q.sections
section_begun b bs q follow =
    let has = section_follows (b ∷ []) bs (place_after start b.content (length b.bytes)) q (first_section b b.content (length b.bytes) refl (first_header b follow.0)) follow.1 in
    omega (arith, has.sections)

follow_split : (p q : Place) (before after : List WholeBlock) (block : WholeBlock) → Follow p (before ++ block ∷ after) q → (mid : Place) × Follow p before mid × IsBlock mid block
follow_split p q [] after block follow = (p, refl, follow.0)
follow_split p q (b ∷ bs) after block follow =
    let more = follow_split (place_after p b.content (length b.bytes)) q bs after block follow.1 in (more.0, (follow.0, more.1), more.2)

of_section : (before : List WholeBlock) (place : Place) (block : WholeBlock) (entry : PacketEntry) → HasSection before place → IsBlock place block → block.content ≡ Packet entry → IsOfItsSection before entry
of_section before place block entry has one is =
    let says = begun_described place.sections place.big place.interfaces block.bytes (length block.bytes) entry (one.says ∙ ap (Whole (length block.bytes)) is) (begins place.sections place.big place.interfaces block.bytes) in
    record {
      earlier = has.earlier;
      header = has.header;
      own = has.own;
      parts = has.parts;
      begins = has.begins;
      none = has.none;
      number = omega (arith, says.number, has.sections);
      described = says.described;
      interface = ap (λ xs. slice_get xs entry.interface) (sym has.interfaces) ∙ says.interface;
      link = says.link;
    }

of_first : (before : List WholeBlock) (mid : Place) (block : WholeBlock) (entry : PacketEntry) → Follow start before mid → IsBlock mid block → block.content ≡ Packet entry → IsOfItsSection before entry
of_first [] mid block entry follow one is = absurd (packet_header (sym (ap is_header is) ∙ first_header block (rw (sym follow) at one)))
  where
    packet_header : false ≡ true → ⊥
    packet_header e = cc
of_first (b ∷ bs) mid block entry follow one is =
    let has = first_section b b.content (length b.bytes) refl (first_header b follow.0) in
    of_section (b ∷ bs) mid block entry (section_follows (b ∷ []) bs (place_after start b.content (length b.bytes)) mid has follow.1) one is

pub of_their_sections : AreOfTheirSections
of_their_sections bytes before after block fault entry reads is =
    let split = follow_split start reads.place before after block reads.follow in
    of_first before split.0 block entry split.1 split.2 is
