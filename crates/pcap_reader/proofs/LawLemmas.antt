-- Bytes have one reading.
use Rattle.std.proofs.Common.{◌≡◌, ℕ, ◌+◌, ◌*◌, ◌<◌, ◌⊎◌, Bool, true, false, List, [], ◌∷◌, ◌++◌, length, take, drop, arith, refl, ap, sym, ◌∙◌, inl, inr, append_assoc, length-append, length-drop, Option, Some, None, All}
use Rattle.std.specs.List.{AllZip, concat}
use Rattle.std.proofs.lemmas.List.{append_cancel_left}
use Rattle.std.proofs.Math.Seq.{take-append_seam}
use Rattle.pcap_reader.specs.declared.capture.Header.{Header}
use Rattle.pcap_reader.specs.declared.capture.CapturedPacket.{CapturedPacket}
use Rattle.pcap_reader.specs.declared.capture.CaptureFault.{CaptureFault}
use Rattle.pcap_reader.specs.declared.capture.CaptureFault.TheVariants.{BadMagic, BadVersion, TruncatedHeader, TruncatedRecord, TooLong, NoMemory}
use Rattle.pcap_reader.specs.Savefile.{number, captured, IsMagic, IsVersion, IsHeader, IsRecord, IsPart, IsLong, HasNoHeader, HasRecords, EndsWith, Reads, ReadsFront}
use Rattle.pcap_reader.specs.Answers.{HasOneReading}
use Rattle.pcap_reader.proofs.Fronts.{word_at-front, magic-on, version-on}

-- the packets of a front are the first packets of the whole
abbrev pub HasFronts : List ℕ → Type 0
HasFronts bytes = (h h' : Option Header) (ks ks' : List CapturedPacket) (f' : Option CaptureFault)
    → ReadsFront bytes h ks → Reads bytes h' ks' f' → ((h ≡ None) ⊎ (h ≡ h')) × (more : List CapturedPacket) × (ks' ≡ ks ++ more)

-- of two cuts of one list, the fronts that are as long are the same
fronts_same : (xs ys more rest : List ℕ) → xs ++ more ≡ ys ++ rest → length xs ≡ length ys → xs ≡ ys
fronts_same xs ys more rest e same = sym (take-append_seam xs more) ∙ ap (take (length xs)) e ∙ ap (λ n. take n (ys ++ rest)) same ∙ take-append_seam ys rest

orders_differ : (a b c d n m : ℕ) → a < 256 → b < 256 → c < 256 → d < 256
    → a * 16777216 + (b * 65536 + (c * 256 + d)) ≡ n → a + 256 * (b + 256 * (c + 256 * d)) ≡ m
    → (n ≡ 2712847316) ⊎ (n ≡ 2712812621) → (m ≡ 2712847316) ⊎ (m ≡ 2712812621) → ⊥
orders_differ a b c d n m la lb lc ld big little (inl i) (inl j) = omega arith
orders_differ a b c d n m la lb lc ld big little (inl i) (inr j) = omega arith
orders_differ a b c d n m la lb lc ld big little (inr i) (inl j) = omega arith
orders_differ a b c d n m la lb lc ld big little (inr i) (inr j) = omega arith

abbrev packet_of : List ℕ → ℕ → CapturedPacket
packet_of b o = record { bytes = b; original = o }

packet_same : (p q : CapturedPacket) → p.bytes ≡ q.bytes → p.original ≡ q.original → p ≡ q
packet_same p q e o = ap (λ b. packet_of b p.original) e ∙ ap (packet_of q.bytes) o

abbrev header_of : Bool → Bool → ℕ → ℕ → Header
header_of b n s w = record { big = b; nano = n; snaplen = s; network = w }

header_same : (h k : Header) → h.big ≡ k.big → h.nano ≡ k.nano → h.snaplen ≡ k.snaplen → h.network ≡ k.network → h ≡ k
header_same h k b n s w =
    ap (λ x. header_of x h.nano h.snaplen h.network) b ∙ ap (λ x. header_of k.big x h.snaplen h.network) n
    ∙ ap (λ x. header_of k.big k.nano x h.network) s ∙ ap (header_of k.big k.nano k.snaplen) w

magic_number : (big nano : Bool) (bs : List ℕ) → IsMagic big nano bs → (number big 4 bs ≡ 2712847316) ⊎ (number big 4 bs ≡ 2712812621)
magic_number big false bs m = inl m.1
magic_number big true bs m = inr m.1

big_first : (a b c d : ℕ) (xs : List ℕ) → number true 4 (a ∷ b ∷ c ∷ d ∷ xs) ≡ a * 16777216 + (b * 65536 + (c * 256 + d))
big_first a b c d xs = omega arith

little_first : (a b c d : ℕ) (xs : List ℕ) → number false 4 (a ∷ b ∷ c ∷ d ∷ xs) ≡ a + 256 * (b + 256 * (c + 256 * d))
little_first a b c d xs = omega arith

-- a magic number in one order isn't one in the other
not_both : (bs : List ℕ) → All (λ b. b < 256) bs → (nano nano' : Bool) → IsMagic true nano bs → IsMagic false nano' bs → ⊥
not_both (a ∷ b ∷ c ∷ d ∷ xs) small nano nano' m m' =
    orders_differ a b c d (number true 4 (a ∷ b ∷ c ∷ d ∷ xs)) (number false 4 (a ∷ b ∷ c ∷ d ∷ xs)) (small 0 0 (omega arith)) (small 1 0 (omega arith)) (small 2 0 (omega arith)) (small 3 0 (omega arith))
    (sym (big_first a b c d xs)) (sym (little_first a b c d xs)) (magic_number true nano (a ∷ b ∷ c ∷ d ∷ xs) m) (magic_number false nano' (a ∷ b ∷ c ∷ d ∷ xs) m')
not_both (a ∷ b ∷ c ∷ []) small nano nano' m m' = absurd (omega (arith, m.0))
not_both (a ∷ b ∷ []) small nano nano' m m' = absurd (omega (arith, m.0))
not_both (a ∷ []) small nano nano' m m' = absurd (omega (arith, m.0))
not_both [] small nano nano' m m' = absurd (omega (arith, m.0))

magic_nano : (big nano nano' : Bool) (bs : List ℕ) → IsMagic big nano bs → IsMagic big nano' bs → nano ≡ nano'
magic_nano big false false bs m m' = refl
magic_nano big true true bs m m' = refl
magic_nano big false true bs m m' = absurd (omega (arith, m.1, m'.1))
magic_nano big true false bs m m' = absurd (omega (arith, m.1, m'.1))

magic_one : (bs : List ℕ) → All (λ b. b < 256) bs → (big nano big' nano' : Bool) → IsMagic big nano bs → IsMagic big' nano' bs → (big ≡ big') × (nano ≡ nano')
magic_one bs small true nano true nano' m m' = (refl, magic_nano true nano nano' bs m m')
magic_one bs small false nano false nano' m m' = (refl, magic_nano false nano nano' bs m m')
magic_one bs small true nano false nano' m m' = absurd (not_both bs small nano nano' m m')
magic_one bs small false nano true nano' m m' = absurd (not_both bs small nano' nano m' m)

-- the three ways to have no header
no_header_kind : (bs : List ℕ) (f : CaptureFault) → HasNoHeader bs f
    → ((f ≡ BadMagic) × HasNoHeader bs BadMagic) ⊎ ((f ≡ BadVersion) × HasNoHeader bs BadVersion) ⊎ ((f ≡ TruncatedHeader) × HasNoHeader bs TruncatedHeader)
no_header_kind bs BadMagic n = inl (refl, n)
no_header_kind bs BadVersion n = inr (inl (refl, n))
no_header_kind bs TruncatedHeader n = inr (inr (refl, n))
no_header_kind bs (TruncatedRecord at) n = absurd n
no_header_kind bs (TooLong at) n = absurd n
no_header_kind bs NoMemory n = absurd n

magic_not_version : (bs : List ℕ) → All (λ b. b < 256) bs → HasNoHeader bs BadMagic → HasNoHeader bs BadVersion → ⊥
magic_not_version bs small m v = m.1 v.1 v.2 v.3

magic_not_short : (bs : List ℕ) → HasNoHeader bs BadMagic → HasNoHeader bs TruncatedHeader → ⊥
magic_not_short bs m (inl few) = omega (arith, m.0)
magic_not_short bs m (inr t) = m.1 t.0 t.1 t.2

version_not_short : (bs : List ℕ) → All (λ b. b < 256) bs → HasNoHeader bs BadVersion → HasNoHeader bs TruncatedHeader → ⊥
version_not_short bs small v (inl few) = omega (arith, v.0)
version_not_short bs small v (inr t) = elim (t.3) [
  | inl few ↦ omega (arith, v.0, few)
  | inr good ↦ v.4 (rw (magic_one bs small v.1 v.2 t.0 t.1 v.3 t.2).0 good.0)
]

no_header_one : (bs : List ℕ) → All (λ b. b < 256) bs → (f f' : CaptureFault) → HasNoHeader bs f → HasNoHeader bs f' → f ≡ f'
no_header_one bs small f f' n n' = elim (no_header_kind bs f n) [
  | inl k ↦ elim (no_header_kind bs f' n') [
    | inl k' ↦ k.0 ∙ sym k'.0
    | inr (inl k') ↦ absurd (magic_not_version bs small k.1 k'.1)
    | inr (inr k') ↦ absurd (magic_not_short bs k.1 k'.1)
  ]
  | inr (inl k) ↦ elim (no_header_kind bs f' n') [
    | inl k' ↦ absurd (magic_not_version bs small k'.1 k.1)
    | inr (inl k') ↦ k.0 ∙ sym k'.0
    | inr (inr k') ↦ absurd (version_not_short bs small k.1 k'.1)
  ]
  | inr (inr k) ↦ elim (no_header_kind bs f' n') [
    | inl k' ↦ absurd (magic_not_short bs k'.1 k.1)
    | inr (inl k') ↦ absurd (version_not_short bs small k'.1 k.1)
    | inr (inr k') ↦ k.0 ∙ sym k'.0
  ]
]

-- the three ways to end
ends_kind : (big : Bool) (rest : List ℕ) (at : ℕ) (f : Option CaptureFault) → EndsWith big rest at f
    → ((f ≡ None) × (rest ≡ [])) ⊎ ((f ≡ Some (TruncatedRecord at)) × IsPart big rest) ⊎ ((f ≡ Some (TooLong at)) × IsLong big rest)
ends_kind big rest at None e = inl (refl, e)
ends_kind big rest at (Some (TruncatedRecord place)) e = inr (inl (ap (λ x. Some (TruncatedRecord x)) e.1, e.0))
ends_kind big rest at (Some (TooLong place)) e = inr (inr (ap (λ x. Some (TooLong x)) e.1, e.0))
ends_kind big rest at (Some BadMagic) e = absurd e
ends_kind big rest at (Some BadVersion) e = absurd e
ends_kind big rest at (Some TruncatedHeader) e = absurd e
ends_kind big rest at (Some NoMemory) e = absurd e

part_not_long : (big : Bool) (rest : List ℕ) → IsPart big rest → IsLong big rest → ⊥
part_not_long big rest p l = elim (p.1) [
  | inl short ↦ omega (arith, short, l.0)
  | inr half ↦ omega (arith, half.0, l.1)
]

ends_one : (big : Bool) (rest : List ℕ) (at : ℕ) (f f' : Option CaptureFault) → EndsWith big rest at f → EndsWith big rest at f' → f ≡ f'
ends_one big rest at f f' e e' = elim (ends_kind big rest at f e) [
  | inl k ↦ elim (ends_kind big rest at f' e') [
    | inl k' ↦ k.0 ∙ sym k'.0
    | inr (inl k') ↦ absurd (omega (arith, ap length k.1, k'.1.0))
    | inr (inr k') ↦ absurd (omega (arith, ap length k.1, k'.1.0))
  ]
  | inr (inl k) ↦ elim (ends_kind big rest at f' e') [
    | inl k' ↦ absurd (omega (arith, ap length k'.1, k.1.0))
    | inr (inl k') ↦ k.0 ∙ sym k'.0
    | inr (inr k') ↦ absurd (part_not_long big rest k.1 k'.1)
  ]
  | inr (inr k) ↦ elim (ends_kind big rest at f' e') [
    | inl k' ↦ absurd (omega (arith, ap length k'.1, k.1.0))
    | inr (inl k') ↦ absurd (part_not_long big rest k'.1 k.1)
    | inr (inr k') ↦ k.0 ∙ sym k'.0
  ]
]

record_length : (big : Bool) (r : List ℕ) (p : CapturedPacket) → IsRecord big r p → length r ≡ 16 + captured big r
record_length big r p one = omega (arith, length-drop 16 r, ap length one.body, one.length_is, one.header)

-- where a whole record stands in front, a capture doesn't end
no_end : (big : Bool) (r tail : List ℕ) (p : CapturedPacket) (at : ℕ) (f : Option CaptureFault) → IsRecord big r p → EndsWith big (r ++ tail) at f → ⊥
no_end big r tail p at f one e =
    let size : length (r ++ tail) ≡ length r + length tail = length-append r tail in
    let same : captured big (r ++ tail) ≡ captured big r = word_at-front big 8 r tail (omega (arith, one.header)) in
    let whole : length r ≡ 16 + captured big r = record_length big r p one in
    elim (ends_kind big (r ++ tail) at f e) [
      | inl k ↦ omega (arith, ap length k.1, size, one.header)
      | inr (inl k) ↦ elim (k.1.1) [
        | inl short ↦ omega (arith, short, size, one.header)
        | inr half ↦ omega (arith, half.1, size, same, whole)
      ]
      | inr (inr k) ↦ omega (arith, k.1.1, same, one.short)
    ]

-- the first records of two cuts are the same
pub record FirstSame (r r' tail tail' : List ℕ) (p p' : CapturedPacket) : Type 0 where
  pub same : r ≡ r'
  pub tails : tail ≡ tail'
  pub packet : p ≡ p'

first_same : (big : Bool) (r r' tail tail' : List ℕ) (p p' : CapturedPacket) → IsRecord big r p → IsRecord big r' p' → r ++ tail ≡ r' ++ tail' → FirstSame r r' tail tail' p p'
first_same big r r' tail tail' p p' one one' e =
    let long : captured big r ≡ captured big r' =
    sym (word_at-front big 8 r tail (omega (arith, one.header))) ∙ ap (captured big) e ∙ word_at-front big 8 r' tail' (omega (arith, one'.header)) in
    let same : r ≡ r' = fronts_same r r' tail tail' e (record_length big r p one ∙ ap (λ n. 16 + n) long ∙ sym (record_length big r' p' one')) in
    record {
      same = same;
      tails = append_cancel_left r tail tail' (e ∙ ap (λ t. t ++ tail') (sym same));
      packet = packet_same p p' (sym one.body ∙ ap (drop 16) same ∙ one'.body) (one.original ∙ ap (λ t. number big 4 (drop 12 t)) same ∙ sym one'.original);
    }

pub record RecordsSame (records records' : List (List ℕ)) (rest rest' : List ℕ) (packets packets' : List CapturedPacket) : Type 0 where
  pub count : length (concat records) ≡ length (concat records')
  pub rests : rest ≡ rest'
  pub packets_same : packets ≡ packets'

records_one : (big : Bool) (records records' : List (List ℕ)) (rest rest' : List ℕ) (packets packets' : List CapturedPacket) (at at' : ℕ) (f f' : Option CaptureFault)
    → concat records ++ rest ≡ concat records' ++ rest' → AllZip (IsRecord big) records packets → AllZip (IsRecord big) records' packets'
    → EndsWith big rest at f → EndsWith big rest' at' f' → RecordsSame records records' rest rest' packets packets'
records_one big [] [] rest rest' [] [] at at' f f' e each each' ends ends' = record { count = refl; rests = e; packets_same = refl }
records_one big (r ∷ rs) [] rest rest' (p ∷ ps) packets' at at' f f' e each each' ends ends' =
    absurd (no_end big r (concat rs ++ rest) p at' f' each.0 (rw (sym (append_assoc r (concat rs) rest) ∙ e) ends'))
records_one big [] (r ∷ rs) rest rest' packets (p ∷ ps) at at' f f' e each each' ends ends' =
    absurd (no_end big r (concat rs ++ rest') p at f each'.0 (rw (sym (append_assoc r (concat rs) rest') ∙ sym e) ends))
records_one big (r ∷ rs) (r' ∷ rs') rest rest' (p ∷ ps) (p' ∷ ps') at at' f f' e each each' ends ends' =
    let first = first_same big r r' (concat rs ++ rest) (concat rs' ++ rest') p p' each.0 each'.0 (sym (append_assoc r (concat rs) rest) ∙ e ∙ append_assoc r' (concat rs') rest') in
    let more = records_one big rs rs' rest rest' ps ps' at at' f f' first.tails each.1 each'.1 ends ends' in
    record {
      count = omega (arith, length-append r (concat rs), length-append r' (concat rs'), ap length first.same, more.count);
      rests = more.rests;
      packets_same = ap (λ x. x ∷ ps) first.packet ∙ ap (λ xs. p' ∷ xs) more.packets_same;
    }
records_one big [] [] rest rest' (p ∷ ps) packets' at at' f f' e each each' ends ends' = absurd each
records_one big [] [] rest rest' [] (p ∷ ps) at at' f f' e each each' ends ends' = absurd each'
records_one big (r ∷ rs) records' rest rest' [] packets' at at' f f' e each each' ends ends' = absurd each
records_one big [] (r ∷ rs) rest rest' packets [] at at' f f' e each each' ends ends' = absurd each'
records_one big (r ∷ rs) (r' ∷ rs') rest rest' (p ∷ ps) [] at at' f f' e each each' ends ends' = absurd each'

-- of a front's packets, the whole has more
records_front : (big : Bool) (records records' : List (List ℕ)) (more rest' : List ℕ) (packets packets' : List CapturedPacket) (at' : ℕ) (f' : Option CaptureFault)
    → concat records ++ more ≡ concat records' ++ rest' → AllZip (IsRecord big) records packets → AllZip (IsRecord big) records' packets'
    → EndsWith big rest' at' f' → (left : List CapturedPacket) × (packets' ≡ packets ++ left)
records_front big [] records' more rest' [] packets' at' f' e each each' ends' = (packets', refl)
records_front big (r ∷ rs) [] more rest' (p ∷ ps) packets' at' f' e each each' ends' =
    absurd (no_end big r (concat rs ++ more) p at' f' each.0 (rw (sym (append_assoc r (concat rs) more) ∙ e) ends'))
records_front big (r ∷ rs) (r' ∷ rs') more rest' (p ∷ ps) (p' ∷ ps') at' f' e each each' ends' =
    let first = first_same big r r' (concat rs ++ more) (concat rs' ++ rest') p p' each.0 each'.0 (sym (append_assoc r (concat rs) more) ∙ e ∙ append_assoc r' (concat rs') rest') in
    let found = records_front big rs rs' more rest' ps ps' at' f' first.tails each.1 each'.1 ends' in
    (found.0, ap (λ xs. p' ∷ xs) found.1 ∙ ap (λ x. x ∷ (ps ++ found.0)) (sym first.packet))
records_front big [] records' more rest' (p ∷ ps) packets' at' f' e each each' ends' = absurd each
records_front big (r ∷ rs) records' more rest' [] packets' at' f' e each each' ends' = absurd each
records_front big (r ∷ rs) (r' ∷ rs') more rest' (p ∷ ps) [] at' f' e each each' ends' = absurd each'

-- bytes with a header in front
pub record HasHead (bs : List ℕ) (h : Header) (head tail : List ℕ) : Type 0 where
  pub parts : bs ≡ head ++ tail
  pub header : IsHeader head h

head_magic : (bs : List ℕ) (h : Header) (head tail : List ℕ) → HasHead bs h head tail → IsMagic h.big h.nano bs
head_magic bs h head tail has = rw has.parts (magic-on h.big h.nano head tail has.header.magic)

head_version : (bs : List ℕ) (h : Header) (head tail : List ℕ) → HasHead bs h head tail → IsVersion h.big bs
head_version bs h head tail has = rw has.parts (version-on h.big head tail has.header.version)

head_not_none : (bs : List ℕ) → All (λ b. b < 256) bs → (h : Header) (head tail : List ℕ) (f : CaptureFault) → HasHead bs h head tail → HasNoHeader bs f → ⊥
head_not_none bs small h head tail f has none =
    let long : length bs ≡ 24 + length tail = omega (arith, ap length has.parts, length-append head tail, has.header.long) in
    let magic = head_magic bs h head tail has in
    elim (no_header_kind bs f none) [
      | inl k ↦ k.1.1 h.big h.nano magic
      | inr (inl k) ↦ k.1.4 (rw (magic_one bs small k.1.1 k.1.2 h.big h.nano k.1.3 magic).0 (head_version bs h head tail has))
      | inr (inr k) ↦ elim (k.1) [
        | inl few ↦ omega (arith, few, long)
        | inr t ↦ elim (t.3) [
          | inl few ↦ omega (arith, few, long)
          | inr few ↦ omega (arith, few.1, long)
        ]
      ]
    ]

pub record HeadSame (h h' : Header) (tail tail' : List ℕ) : Type 0 where
  pub header : h ≡ h'
  pub tails : tail ≡ tail'

head_one : (bs : List ℕ) → All (λ b. b < 256) bs → (h h' : Header) (head head' tail tail' : List ℕ) → HasHead bs h head tail → HasHead bs h' head' tail' → HeadSame h h' tail tail'
head_one bs small h h' head head' tail tail' has has' =
    let both : head ++ tail ≡ head' ++ tail' = sym has.parts ∙ has'.parts in
    let same : head ≡ head' = fronts_same head head' tail tail' both (has.header.long ∙ sym has'.header.long) in
    let one = magic_one bs small h.big h.nano h'.big h'.nano (head_magic bs h head tail has) (head_magic bs h' head' tail' has') in
    record {
      header = header_same h h' one.0 one.1
          (has.header.snaplen ∙ ap (λ b. number b 4 (drop 16 head)) one.0 ∙ ap (λ t. number h'.big 4 (drop 16 t)) same ∙ sym has'.header.snaplen)
          (has.header.network ∙ ap (λ b. number b 4 (drop 20 head)) one.0 ∙ ap (λ t. number h'.big 4 (drop 20 t)) same ∙ sym has'.header.network);
      tails = append_cancel_left head tail tail' (both ∙ ap (λ t. t ++ tail') (sym same));
    }

head_of : (bs : List ℕ) (h : Header) (ks : List CapturedPacket) (f : Option CaptureFault) → (r : HasRecords bs h ks f) → HasHead bs h r.head (concat r.records ++ r.rest)
head_of bs h ks f r = record { parts = r.parts ∙ append_assoc r.head (concat r.records) r.rest; header = r.header }

pub one_reading : (bs : List ℕ) → All (λ b. b < 256) bs → HasOneReading bs
one_reading bs small (Some h) (Some h') ks ks' f f' r r' =
    let heads = head_one bs small h h' r.head r'.head (concat r.records ++ r.rest) (concat r'.records ++ r'.rest) (head_of bs h ks f r) (head_of bs h' ks' f' r') in
    let each' : AllZip (IsRecord h.big) r'.records ks' = rw heads.header r'.each in
    let ends' : EndsWith h.big r'.rest (24 + length (concat r'.records)) f' = rw heads.header r'.ends in
    let same = records_one h.big r.records r'.records r.rest r'.rest ks ks' (24 + length (concat r.records)) (24 + length (concat r'.records)) f f' heads.tails r.each each' r.ends ends' in
    (ap (λ x. Some x) heads.header, same.packets_same, ends_one h.big r.rest (24 + length (concat r.records)) f f' r.ends (rw (same.rests, same.count) ends'))
one_reading bs small (Some h) None ks ks' f (Some f') r r' = absurd (head_not_none bs small h r.head (concat r.records ++ r.rest) f' (head_of bs h ks f r) r'.1)
one_reading bs small None (Some h') ks ks' (Some f) f' r r' = absurd (head_not_none bs small h' r'.head (concat r'.records ++ r'.rest) f (head_of bs h' ks' f' r') r.1)
one_reading bs small None None ks ks' (Some f) (Some f') r r' = (refl, r.0 ∙ sym r'.0, ap (λ x. Some x) (no_header_one bs small f f' r.1 r'.1))
one_reading bs small (Some h) None ks ks' f None r r' = absurd r'
one_reading bs small None (Some h') ks ks' None f' r r' = absurd r
one_reading bs small None None ks ks' None f' r r' = absurd r
one_reading bs small None None ks ks' (Some f) None r r' = absurd r'

front_whole : (bs : List ℕ) → All (λ b. b < 256) bs → (h : Header) (h' : Option Header) (ks ks' : List CapturedPacket) (f' : Option CaptureFault) (front more : List ℕ)
    → bs ≡ front ++ more → HasRecords front h ks None → Reads bs h' ks' f' → (Some h ≡ h') × (left : List CapturedPacket) × (ks' ≡ ks ++ left)
front_whole bs small h None ks ks' (Some f') front more e r r' =
    absurd (head_not_none bs small h r.head (concat r.records ++ r.rest ++ more) f' (record {
      parts = e ∙ ap (λ t. t ++ more) (r.parts ∙ append_assoc r.head (concat r.records) r.rest) ∙ append_assoc r.head (concat r.records ++ r.rest) more;
      header = r.header;
    }) r'.1)
front_whole bs small h None ks ks' None front more e r r' = absurd r'
front_whole bs small h (Some h') ks ks' f' front more e r r' =
    let heads = head_one bs small h h' r.head r'.head (concat r.records ++ r.rest ++ more) (concat r'.records ++ r'.rest) (record {
      parts = e ∙ ap (λ t. t ++ more) (r.parts ∙ append_assoc r.head (concat r.records) r.rest) ∙ append_assoc r.head (concat r.records ++ r.rest) more;
      header = r.header;
    }) (head_of bs h' ks' f' r') in
    let each' : AllZip (IsRecord h.big) r'.records ks' = rw heads.header r'.each in
    let ends' : EndsWith h.big r'.rest (24 + length (concat r'.records)) f' = rw heads.header r'.ends in
    let found = records_front h.big r.records r'.records (r.rest ++ more) r'.rest ks ks' (24 + length (concat r'.records)) f'
    (sym (append_assoc (concat r.records) r.rest more) ∙ heads.tails) r.each each' ends' in
    (ap (λ x. Some x) heads.header, found.0, found.1)

pub has_fronts : (bs : List ℕ) → All (λ b. b < 256) bs → HasFronts bs
has_fronts bs small h h' ks ks' f' (inl none) r' = (inl none.0, ks', rw none.1 refl)
has_fronts bs small None h' ks ks' f' (inr front) r' = absurd front.3
has_fronts bs small (Some h) h' ks ks' f' (inr front) r' =
    let whole = front_whole bs small h h' ks ks' f' front.0 front.1 front.2 front.3 r' in
    (inr whole.0, whole.1, whole.2)
