-- Every byte string has a reading.
use Rattle.std.proofs.Common.{◌≡◌, ℕ, ◌+◌, ◌≤◌, ◌⊎◌, Bool, true, false, List, [], ◌∷◌, ◌++◌, length, take, drop, arith, refl, ap, sym, ◌∙◌, inl, inr, append_assoc, length-append, length-drop, length-take-le, Option, Some, None, zero, suc, add-zero}
use Rattle.std.specs.List.{AllZip, concat}
use Rattle.std.proofs.lemmas.List.{take-append-drop}
use Rattle.std.proofs.lemmas.Bool.{cases_lt, cases_order}
use Rattle.pcap_reader.specs.declared.capture.Header.{Header}
use Rattle.pcap_reader.specs.declared.capture.CapturedPacket.{CapturedPacket}
use Rattle.pcap_reader.specs.declared.capture.CaptureFault.{CaptureFault}
use Rattle.pcap_reader.specs.declared.capture.CaptureFault.TheVariants.{BadMagic, BadVersion, TruncatedHeader, TruncatedRecord, TooLong}
use Rattle.pcap_reader.specs.Savefile.{number, captured, IsMagic, IsVersion, IsHeader, IsRecord, IsPart, IsLong, HasNoHeader, EndsWith}
use Rattle.pcap_reader.specs.Answers.{HasReading}
use Rattle.pcap_reader.proofs.Fronts.{word_at-front, magic-front, version-front}

same_or_not : (a b : ℕ) → (a ≡ b) ⊎ ¬ (a ≡ b)
same_or_not a b = elim (cases_order a b) [
  | inl same ↦ inl same
  | inr (inl below) ↦ inr (λ same. omega (arith, same, below))
  | inr (inr above) ↦ inr (λ same. omega (arith, same, above))
]

magic_or_not : (big nano : Bool) (bs : List ℕ) → 4 ≤ length bs → IsMagic big nano bs ⊎ ¬ (IsMagic big nano bs)
magic_or_not big nano bs long = elim (same_or_not (number big 4 bs) _) [
  | inl same ↦ inl (long, same)
  | inr other ↦ inr (λ m. other m.1)
]

no_magic : (bs : List ℕ) → ¬ (IsMagic true true bs) → ¬ (IsMagic true false bs) → ¬ (IsMagic false true bs) → ¬ (IsMagic false false bs) → (big nano : Bool) → ¬ (IsMagic big nano bs)
no_magic bs a b c d true true = a
no_magic bs a b c d true false = b
no_magic bs a b c d false true = c
no_magic bs a b c d false false = d

some_magic : (bs : List ℕ) → 4 ≤ length bs → ((big : Bool) × (nano : Bool) × IsMagic big nano bs) ⊎ ((big nano : Bool) → ¬ (IsMagic big nano bs))
some_magic bs long = elim (magic_or_not true true bs long) [
  | inl m ↦ inl (true, true, m)
  | inr a ↦ elim (magic_or_not true false bs long) [
    | inl m ↦ inl (true, false, m)
    | inr b ↦ elim (magic_or_not false true bs long) [
      | inl m ↦ inl (false, true, m)
      | inr c ↦ elim (magic_or_not false false bs long) [
        | inl m ↦ inl (false, false, m)
        | inr d ↦ inr (no_magic bs a b c d)
      ]
    ]
  ]
]

version_or_not : (big : Bool) (bs : List ℕ) → 8 ≤ length bs → IsVersion big bs ⊎ ¬ (IsVersion big bs)
version_or_not big bs long = elim (same_or_not (number big 2 (drop 4 bs)) 2) [
  | inl major ↦ elim (same_or_not (number big 2 (drop 6 bs)) 4) [
    | inl minor ↦ inl (long, major, minor)
    | inr other ↦ inr (λ v. other v.2)
  ]
  | inr other ↦ inr (λ v. other v.1)
]

abbrev header_in : Bool → Bool → List ℕ → Header
header_in big nano head = record { big = big; nano = nano; snaplen = number big 4 (drop 16 head); network = number big 4 (drop 20 head) }

front_header : (big nano : Bool) (bs head tail : List ℕ) → bs ≡ head ++ tail → length head ≡ 24 → IsMagic big nano bs → IsVersion big bs → IsHeader head (header_in big nano head)
front_header big nano bs head tail e long m v = record {
  long = long;
  magic = magic-front big nano head tail (omega arith) (rw e at m);
  version = version-front big head tail (omega arith) (rw e at v);
  snaplen = refl;
  network = refl;
}

-- bytes with a header in front, or with something wrong
abbrev HasSomeHeader : List ℕ → Type 0
HasSomeHeader bs = ((f : CaptureFault) × HasNoHeader bs f) ⊎ ((h : Header) × (head : List ℕ) × (tail : List ℕ) × (bs ≡ head ++ tail) × IsHeader head h)

versioned_header : (bs : List ℕ) (big nano : Bool) → IsMagic big nano bs → IsVersion big bs → HasSomeHeader bs
versioned_header bs big nano m v = elim (cases_lt (length bs) 24) [
  | inl few ↦ inl (TruncatedHeader, inr (big, nano, m, inr (v, few)))
  | inr long ↦ let e : bs ≡ take 24 bs ++ drop 24 bs = sym (take-append-drop 24 bs) in
      inr (header_in big nano (take 24 bs), take 24 bs, drop 24 bs, e, front_header big nano bs (take 24 bs) (drop 24 bs) e (length-take-le 24 bs long) m v)
]

magic_header : (bs : List ℕ) (big nano : Bool) → IsMagic big nano bs → HasSomeHeader bs
magic_header bs big nano m = elim (cases_lt (length bs) 8) [
  | inl few ↦ inl (TruncatedHeader, inr (big, nano, m, inl few))
  | inr long ↦ elim (version_or_not big bs long) [
    | inl v ↦ versioned_header bs big nano m v
    | inr other ↦ inl (BadVersion, (long, big, nano, m, other))
  ]
]

some_header : (bs : List ℕ) → HasSomeHeader bs
some_header bs = elim (cases_lt (length bs) 4) [
  | inl few ↦ inl (TruncatedHeader, inl few)
  | inr long ↦ elim (some_magic bs long) [
    | inl m ↦ magic_header bs m.0 m.1 m.2
    | inr none ↦ inl (BadMagic, (long, none))
  ]
]

-- bytes in whole records, and what follows them
record SomeRecords (big : Bool) (at : ℕ) (bs : List ℕ) : Type 0 where
  pub packets : List CapturedPacket
  pub records : List (List ℕ)
  pub rest : List ℕ
  pub fault : Option CaptureFault
  pub parts : bs ≡ concat records ++ rest
  pub each : AllZip (IsRecord big) records packets
  pub ends : EndsWith big rest (at + length (concat records)) fault

ended : (big : Bool) (at : ℕ) (bs : List ℕ) (f : Option CaptureFault) → EndsWith big bs at f → SomeRecords big at bs
ended big at bs f e = record {
  packets = [];
  records = [];
  rest = bs;
  fault = f;
  parts = refl;
  each = tt;
  ends = rw add-zero e;
}

-- a whole record stands in front
abbrev StartsWhole : Bool → List ℕ → Type 0
StartsWhole big bs = (captured big bs ≤ 262144) × (16 + captured big bs ≤ length bs)

next_kind : (big : Bool) (bs : List ℕ) → (bs ≡ []) ⊎ (IsPart big bs ⊎ (IsLong big bs ⊎ StartsWhole big bs))
next_kind big [] = inl refl
next_kind big (b ∷ bs) = elim (cases_lt (length (b ∷ bs)) 16) [
  | inl few ↦ inr (inl (omega arith, inl few))
  | inr long ↦ elim (cases_lt 262144 (captured big (b ∷ bs))) [
    | inl above ↦ inr (inr (inl (long, above)))
    | inr short ↦ elim (cases_lt (length (b ∷ bs)) (16 + captured big (b ∷ bs))) [
      | inl few ↦ inr (inl (omega arith, inr (short, few)))
      | inr whole ↦ inr (inr (inr (short, whole)))
    ]
  ]
]

abbrev packet_in : Bool → List ℕ → CapturedPacket
packet_in big r = record { bytes = drop 16 r; original = number big 4 (drop 12 r) }

front_record : (big : Bool) (bs r tail : List ℕ) → bs ≡ r ++ tail → length r ≡ 16 + captured big bs → captured big bs ≤ 262144 → IsRecord big r (packet_in big r)
front_record big bs r tail e long short =
    let same : captured big bs ≡ captured big r = ap (captured big) e ∙ word_at-front big 8 r tail (omega arith) in
    record {
      header = omega arith;
      length_is = omega (arith, same, long, length-drop 16 r);
      short = omega (arith, same, short);
      original = refl;
      body = refl;
    }

one_more : (big : Bool) (at : ℕ) (bs r tail : List ℕ) → bs ≡ r ++ tail → IsRecord big r (packet_in big r) → SomeRecords big (at + length r) tail → SomeRecords big at bs
one_more big at bs r tail e one more = record {
  packets = packet_in big r ∷ more.packets;
  records = r ∷ more.records;
  rest = more.rest;
  fault = more.fault;
  parts = e ∙ ap (λ t. r ++ t) more.parts ∙ sym (append_assoc r (concat more.records) more.rest);
  each = (one, more.each);
  ends =
      let place : at + length (r ++ concat more.records) ≡ at + length r + length (concat more.records) = omega (arith, length-append r (concat more.records)) in
      rw place more.ends;
}

some_records : (n : ℕ) (big : Bool) (at : ℕ) (bs : List ℕ) → length bs ≤ n → SomeRecords big at bs
some_records zero big at [] few = ended big at [] None refl
some_records zero big at (b ∷ bs) few = absurd (omega arith)
some_records (suc n) big at bs few = elim (next_kind big bs) [
  | inl none ↦ ended big at bs None none
  | inr (inl part) ↦ ended big at bs (Some (TruncatedRecord at)) (part, refl)
  | inr (inr (inl long)) ↦ ended big at bs (Some (TooLong at)) (long, refl)
  | inr (inr (inr whole)) ↦ let count = 16 + captured big bs in
      let e : bs ≡ take count bs ++ drop count bs = sym (take-append-drop count bs) in
      let long : length (take count bs) ≡ count = length-take-le count bs whole.1 in
      one_more big at bs (take count bs) (drop count bs) e (front_record big bs (take count bs) (drop count bs) e long whole.0)
      (some_records n big (at + length (take count bs)) (drop count bs) (omega (arith, length-drop count bs, few)))
]

pub has_reading : (bs : List ℕ) → HasReading bs
has_reading bs = elim (some_header bs) [
  | inl none ↦ (None, [], Some none.0, (refl, none.1))
  | inr has ↦ let more = some_records (length has.2) has.0.big 24 has.2 (omega arith) in (
    Some has.0,
    more.packets,
    more.fault,
    record {
      head = has.1;
      records = more.records;
      rest = more.rest;
      parts = has.3 ∙ ap (λ t. has.1 ++ t) more.parts ∙ sym (append_assoc has.1 (concat more.records) more.rest);
      header = has.4;
      each = more.each;
      ends = more.ends;
    },
  )
]
