-- How a feed goes on.
use Rattle.std.proofs.Common.{◌≡◌, ◌≢◌, ℕ, ◌+◌, ◌-◌, ◌==◌, true, max, min, length-take-le, ◌≤◌, ◌<◌, ◌⊎◌, Bool, List, [], ◌∷◌, ◌++◌, length, take, drop, arith, refl, ap, sym, ◌∙◌, inl, inr, append_assoc, length-append, length-drop, Option, Some, None, All, slice_index}
use Rattle.std.specs.List.{AllZip, concat}
use Rattle.std.proofs.lemmas.List.{append-nil, take-append-drop, take_all, drop-append-le, nil_from_length}
use Rattle.std.proofs.Math.Seq.{take-append_seam}
use Rattle.std.proofs.lemmas.Bool.Decides.{eqb_tells}
use Rattle.std.proofs.lemmas.List.Folds.{concat-append}
use Rattle.std.proofs.lemmas.List.Elements.{All-append, All-from_get_or}
use Rattle.pcap_reader.specs.declared.capture.Header.{Header}
use Rattle.pcap_reader.specs.declared.capture.CapturedPacket.{CapturedPacket}
use Rattle.pcap_reader.specs.declared.capture.CaptureFault.{CaptureFault}
use Rattle.pcap_reader.specs.declared.capture.CaptureFault.TheVariants.{TruncatedHeader, NoMemory}
use Rattle.pcap_reader.specs.Savefile.{number, captured, IsHeader, IsRecord, IsPart, HasNoHeader, ReadsFront, IsLasting}
use Rattle.std.specs.Result.{IsErrAnd}
use Rattle.std.proofs.Common.{Result, Ok, Err}
use Rattle.pcap_reader.specs.declared.feed.Feed.{Feed}
use Rattle.pcap_reader.specs.Held.{BehindAt, HasStopped, Keeps, IsOpen, HoldsBehind, Grows, TakesWhole}
use Rattle.pcap_reader.specs.Growth.{GoesOn, IsGrownTo, IsWanted, IsWhole, IsPacket}
use Rattle.pcap_reader.proofs.Fronts.{word_at-front, stopped-lasts}

pub AllZip-push : {A B : Type 0} (R : A → B → Type 0) (xs : List A) (ys : List B) (x : A) (y : B) → AllZip R xs ys → R x y → AllZip R (xs ++ x ∷ []) (ys ++ y ∷ [])
AllZip-push R [] [] x y each last = (last, tt)
AllZip-push R [] (b ∷ ys) x y each last = absurd each
AllZip-push R (a ∷ xs) [] x y each last = absurd each
AllZip-push R (a ∷ xs) (b ∷ ys) x y each last = (each.0, AllZip-push R xs ys x y each.1 last)

concat-push : (xs : List (List ℕ)) (x : List ℕ) → concat (xs ++ x ∷ []) ≡ concat xs ++ x
concat-push xs x = concat-append xs (x ∷ []) ∙ ap (λ t. concat xs ++ t) (append-nil x)

-- a header that is wrong
pub bad_header : (fed part : List ℕ) (header : Option Header) (packets : List CapturedPacket) (offset : ℕ) (f : CaptureFault) → header ≡ None → IsGrownTo fed header packets offset part → IsLasting f → HasNoHeader part f → HasStopped fed header packets f
bad_header fed part None packets offset f none grown lasting wrong = inl (lasting, (grown.1, rw (sym grown.0) wrong))
bad_header fed part (Some h) packets offset f none grown lasting wrong = absurd (cc)

-- a part of a header is short of one
pub grown_header : (fed part : List ℕ) (header : Option Header) (packets : List CapturedPacket) (offset : ℕ) → header ≡ None → IsGrownTo fed header packets offset part → length part ≤ 24
grown_header fed part None packets offset none grown = grown.3
grown_header fed part (Some h) packets offset none grown = absurd (cc)

-- a header that is whole
pub good_header : (fed part part' : List ℕ) (header : Option Header) (packets : List CapturedPacket) (offset : ℕ) (h : Header) → header ≡ None → IsGrownTo fed header packets offset part → IsHeader part h → part' ≡ [] → IsOpen fed (Some h) packets offset part'
good_header fed part part' None packets offset h none grown good empty = (
  record {
    head = part;
    records = [];
    parts = rw empty (sym grown.0 ∙ sym (append-nil part) ∙ sym (append-nil (part ++ [])));
    header = good;
    each = rw grown.1 tt;
    place = grown.2;
  },
  inl empty,
)
good_header fed part part' (Some k) packets offset h none grown good empty = absurd (cc)

-- a record that is whole
pub good_record : (fed part part' : List ℕ) (header : Option Header) (packets packets' : List CapturedPacket) (offset offset' n : ℕ) (h : Header) (p : CapturedPacket)
    → header ≡ Some h → IsGrownTo fed header packets offset part → IsWhole h.big part n → IsPacket h.big part p
    → packets' ≡ packets ++ p ∷ [] → (offset + (16 + n) < 18446744073709551616 → offset' ≡ offset + (16 + n)) → length fed < 18446744073709551616 → part' ≡ []
    → IsOpen fed header packets' offset' part'
good_record fed part part' None packets packets' offset offset' n h p is grown whole packet pushed moved short empty = absurd (cc)
good_record fed part part' (Some k) packets packets' offset offset' n h p is grown whole packet pushed moved short empty =
    let same : k ≡ h = cc in
    let whole_k : IsWhole k.big part n = rw same whole in
    let packet_k : IsPacket k.big part p = rw same packet in
    let keeps = grown.0 in
    let size : length part ≡ 16 + n = elim grown.2 as (λ _. length part ≡ 16 + n) [
      | inl low ↦ omega (arith, low, whole_k.2)
      | inr high ↦ omega (arith, high.1, whole_k.0, whole_k.2)
    ] in
    let long : length fed ≡ 24 + (length (concat keeps.records) + length part) =
    omega (arith, ap length keeps.parts, length-append (keeps.head ++ concat keeps.records) part, length-append keeps.head (concat keeps.records), keeps.header.long) in
    let moved_to : offset' ≡ offset + (16 + n) = moved (omega (arith, keeps.place, long, size, short)) in (
      record {
        head = keeps.head;
        records = keeps.records ++ part ∷ [];
        parts = rw empty (keeps.parts ∙ append_assoc keeps.head (concat keeps.records) part ∙ ap (λ t. keeps.head ++ t) (sym (concat-push keeps.records part)) ∙ sym (append-nil (keeps.head ++ concat (keeps.records ++ part ∷ []))));
        header = keeps.header;
        each = rw pushed (AllZip-push (IsRecord k.big) keeps.records packets part p keeps.each (record {
          header = omega (arith, size);
          length_is = sym whole_k.0 ∙ sym (ap length packet_k.0 ∙ length-drop 16 part ∙ omega (arith, size));
          short = omega (arith, whole_k.0, whole_k.1);
          original = packet_k.1;
          body = sym packet_k.0;
        }));
        place = moved_to ∙ omega (arith, keeps.place, ap length (concat-push keeps.records part) ∙ length-append (concat keeps.records) part, size);
      },
      inl empty,
    )

-- an error that was handed on
pub handed_on : (given : List CapturedPacket) (fed : List ℕ) (feed : Feed) (r : Result (Unit {0}) CaptureFault) (f : CaptureFault) → IsErrAnd r (λ g. g ≡ f) → BehindAt given fed feed (Some f) → GoesOn given fed feed r
handed_on given fed feed (Ok _) f handed stopped = absurd handed
handed_on given fed feed (Err g) f handed stopped = rw handed stopped

kept_front : (fed : List ℕ) (h : Header) (packets : List CapturedPacket) (offset : ℕ) (part : List ℕ) → Keeps fed h packets offset part → ReadsFront fed (Some h) packets
kept_front fed h packets offset part keeps = inr (
  keeps.head ++ concat keeps.records,
  part,
  keeps.parts,
  record {
    head = keeps.head;
    records = keeps.records;
    rest = [];
    parts = sym (append-nil (keeps.head ++ concat keeps.records));
    header = keeps.header;
    each = keeps.each;
    ends = refl;
  },
)

grown_part : (big : Bool) (part piece : List ℕ) (n : ℕ) → (part ≡ []) ⊎ IsPart big part
    → ((length part < 16) × (n ≡ 16 - length part)) ⊎ ((16 ≤ length part) × (n ≡ 16 + captured big part - length part))
    → 0 < length piece → length piece ≤ max n 1
    → (length (part ++ piece) ≤ 16) ⊎ ((captured big (part ++ piece) ≤ 262144) × (length (part ++ piece) ≤ 16 + captured big (part ++ piece)))
grown_part big part piece n kind (inl short) some few = inl (omega (arith, length-append part piece, short.0, short.1, few))
grown_part big part piece n (inl none) (inr long) some few = absurd (omega (arith, ap length none, long.0))
grown_part big part piece n (inr half) (inr long) some few = elim half.1 [
  | inl short ↦ absurd (omega (arith, short, long.0))
  | inr rest ↦ let same : captured big (part ++ piece) ≡ captured big part = word_at-front big 8 part piece (omega (arith, long.0)) in
      inr (rw same rest.0, rw same (omega (arith, length-append part piece, rest.1, long.1, few)))
]

-- what an open feed has read is read of a front
pub open_front : (fed : List ℕ) (header : Option Header) (packets : List CapturedPacket) (offset : ℕ) (part : List ℕ) → IsOpen fed header packets offset part → ReadsFront fed header packets
open_front fed None packets offset part was = inl (refl, was.1)
open_front fed (Some h) packets offset part was = kept_front fed h packets offset part was.0

-- memory was refused in an open feed
pub open_refused : (fed : List ℕ) (header : Option Header) (packets : List CapturedPacket) (offset : ℕ) (part : List ℕ) → IsOpen fed header packets offset part → HasStopped fed header packets NoMemory
open_refused fed header packets offset part was = inr (refl, open_front fed header packets offset part was)

short_header : (fed : List ℕ) → HasNoHeader fed TruncatedHeader → length fed < 24
short_header fed (inl few) = omega arith
short_header fed (inr more) = elim more.3 [
  | inl few ↦ omega arith
  | inr few ↦ few.1
]

-- a part of an open feed grows by some bytes that it lacks
pub grown_next : (fed piece : List ℕ) (header : Option Header) (packets : List CapturedPacket) (offset n : ℕ) (part part' : List ℕ)
    → IsOpen fed header packets offset part → IsWanted header part n → 0 < length piece → length piece ≤ max n 1 → part' ≡ part ++ piece
    → IsGrownTo (fed ++ piece) header packets offset part'
grown_next fed piece None packets offset n part part' was wanted some few e = (
  e ∙ ap (λ t. t ++ piece) was.0,
  was.1,
  was.2,
  omega (arith, ap length e, length-append part piece, ap length was.0, short_header fed was.3, wanted, few),
)
grown_next fed piece (Some h) packets offset n part part' was wanted some few e = (
  record {
    head = was.0.head;
    records = was.0.records;
    parts = rw e (ap (λ t. t ++ piece) was.0.parts ∙ append_assoc (was.0.head ++ concat was.0.records) part piece);
    header = was.0.header;
    each = was.0.each;
    place = was.0.place;
  },
  omega (arith, ap length e, length-append part piece),
  rw e (grown_part h.big part piece n was.1 wanted some few),
)

-- with no byte left, all were fed
pub record SoFed (bytes rest : List ℕ) (old new : Feed) : Type 0 where
  pub done : List ℕ
  pub parts : bytes ≡ done ++ rest
  pub none : new.fault ≡ None
  pub holds : (given : List CapturedPacket) (fed : List ℕ) → HoldsBehind given fed old → length (fed ++ bytes) < 18446744073709551616 → BehindAt given (fed ++ done) new None

pub so_fed_start : (bytes : List ℕ) (feed : Feed) → feed.fault ≡ None → SoFed bytes bytes feed feed
so_fed_start bytes feed none = record {
  done = [];
  parts = refl;
  none = none;
  holds = λ given fed held short. rw (append-nil fed) (rw none at held.1);
}

pub not_empty : (rest : List ℕ) → rest ≢ [] → 0 < length rest
not_empty [] some = absurd (some refl)
not_empty (x ∷ rest) some = omega arith

-- a slice from a place to its end
pub to_end : (count : ℕ) (bytes : List ℕ) → take (length bytes - count) (drop count bytes) ≡ drop count bytes
to_end count bytes = take_all (length bytes - count) (drop count bytes) (omega (arith, length-drop count bytes))

-- a slice in two parts
pub two_parts : (count : ℕ) (rest : List ℕ) → rest ≡ take count rest ++ take (length rest - count) (drop count rest)
two_parts count rest = sym (take-append-drop count rest) ∙ ap (λ t. take count rest ++ t) (sym (to_end count rest))

-- what was fed so far, in front of all
within_all : (fed bytes done rest : List ℕ) → bytes ≡ done ++ rest → length (fed ++ bytes) ≡ length (fed ++ done) + length rest
within_all fed bytes done rest e = omega (arith, length-append fed bytes, ap length e, length-append done rest, length-append fed done)

-- memory is refused where some were fed
pub so_fed_refused : (bytes rest : List ℕ) (old new : Feed) → SoFed bytes rest old new → (given : List CapturedPacket) (fed : List ℕ) → HoldsBehind given fed old → length (fed ++ bytes) < 18446744073709551616
    → HasStopped (fed ++ bytes) new.header (given ++ new.packets.items) NoMemory
so_fed_refused bytes rest old new so given fed held short =
    rw so.parts (rw (sym (append_assoc fed so.done rest)) (stopped-lasts (fed ++ so.done) rest _ _ _ (open_refused (fed ++ so.done) _ _ _ _ (so.holds given fed held short))))

-- what a part has grown to, in an open feed to which count more bytes were given
grown_so : (bytes rest part' : List ℕ) (old new : Feed) (n count : ℕ) → (so : SoFed bytes rest old new) → IsWanted new.header new.part.items n → rest ≢ [] → count ≡ min (max n 1) (length rest)
    → part' ≡ new.part.items ++ take count rest → (given : List CapturedPacket) (fed : List ℕ) → HoldsBehind given fed old → length (fed ++ bytes) < 18446744073709551616
    → IsGrownTo ((fed ++ so.done) ++ take count rest) new.header (given ++ new.packets.items) new.offset part'
grown_so bytes rest part' old new n count so wanted some counted grew given fed held short =
    let left : 0 < length rest = not_empty rest some in
    grown_next (fed ++ so.done) (take count rest) _ _ _ n new.part.items part' (so.holds given fed held short) wanted
    (omega (arith, length-take-le count rest (omega arith), counted, left))
    (omega (arith, length-take-le count rest (omega arith), counted)) grew

-- count bytes more, and no fault
pub so_fed_next : (bytes rest part' : List ℕ) (old new new' : Feed) (n count : ℕ) → SoFed bytes rest old new → IsWanted new.header new.part.items n → rest ≢ [] → count ≡ min (max n 1) (length rest)
    → part' ≡ new.part.items ++ take count rest
    → ((given : List CapturedPacket) (fed : List ℕ) → IsGrownTo fed new.header (given ++ new.packets.items) new.offset part' → length fed < 18446744073709551616 → BehindAt given fed new' None)
    → new'.fault ≡ None → SoFed bytes (take (length rest - count) (drop count rest)) old new'
so_fed_next bytes rest part' old new new' n count so wanted some counted grew closed none = record {
  done = so.done ++ take count rest;
  parts = so.parts ∙ ap (λ t. so.done ++ t) (two_parts count rest) ∙ sym (append_assoc so.done (take count rest) (take (length rest - count) (drop count rest)));
  none = none;
  holds = λ given fed held short. rw (sym (append_assoc fed so.done (take count rest)))
      (closed given ((fed ++ so.done) ++ take count rest) (grown_so bytes rest part' old new n count so wanted some counted grew given fed held short)
      (omega (arith, within_all fed bytes so.done rest so.parts, short, length-append (fed ++ so.done) (take count rest), length-take-le count rest (omega arith))));
}

-- count bytes more, and a fault
pub so_fed_stopped : (bytes rest part' : List ℕ) (old new new' : Feed) (n count : ℕ) (f : CaptureFault) → SoFed bytes rest old new → IsWanted new.header new.part.items n → rest ≢ [] → count ≡ min (max n 1) (length rest)
    → part' ≡ new.part.items ++ take count rest
    → ((given : List CapturedPacket) (fed : List ℕ) → IsGrownTo fed new.header (given ++ new.packets.items) new.offset part' → length fed < 18446744073709551616 → BehindAt given fed new' (Some f))
    → (given : List CapturedPacket) (fed : List ℕ) → HoldsBehind given fed old → length (fed ++ bytes) < 18446744073709551616 → BehindAt given (fed ++ bytes) new' (Some f)
so_fed_stopped bytes rest part' old new new' n count f so wanted some counted grew closed given fed held short =
    let left = take (length rest - count) (drop count rest) in
    let all : fed ++ bytes ≡ ((fed ++ so.done) ++ take count rest) ++ left =
    ap (λ t. fed ++ t) (so.parts ∙ ap (λ t. so.done ++ t) (two_parts count rest)) ∙ sym (append_assoc fed so.done (take count rest ++ left)) ∙ sym (append_assoc (fed ++ so.done) (take count rest) left) in
    rw all (stopped-lasts ((fed ++ so.done) ++ take count rest) left _ _ _
    (closed given ((fed ++ so.done) ++ take count rest) (grown_so bytes rest part' old new n count so wanted some counted grew given fed held short)
    (omega (arith, within_all fed bytes so.done rest so.parts, short, length-append (fed ++ so.done) (take count rest), length-take-le count rest (omega arith)))))

-- a feed with a fault stays as it is
pub holds-on : (given : List CapturedPacket) (fed bytes : List ℕ) (feed : Feed) (f : CaptureFault) → All (λ b. b < 256) bytes → feed.fault ≡ Some f → HoldsBehind given fed feed → HoldsBehind given (fed ++ bytes) feed
holds-on given fed bytes feed f small e held = (All-append (λ b. b < 256) fed bytes held.0 small, rw e (stopped-lasts fed bytes _ _ _ (rw e at held.1)))

-- the bytes of a slice are below 256
pub are_bytes : (bytes : List ℕ) → ((i : ℕ) → slice_index bytes i < 256) → All (λ b. b < 256) bytes
are_bytes bytes small = All-from_get_or (λ b. b < 256) bytes 0 (λ i within. small i)

-- a feed that went on to these bytes holds them
pub holds_next : (given : List CapturedPacket) (fed bytes : List ℕ) (feed : Feed) (fault : Option CaptureFault) → All (λ b. b < 256) fed → All (λ b. b < 256) bytes → feed.fault ≡ fault → BehindAt given (fed ++ bytes) feed fault → HoldsBehind given (fed ++ bytes) feed
holds_next given fed bytes feed fault small more e held = (All-append (λ b. b < 256) fed bytes small more, rw e held)

-- between two feeds another part is held
pub grows_on : (old mid mid' new : Feed) → mid.header ≡ mid'.header → mid.packets.items ≡ mid'.packets.items → Grows old mid → Grows mid' new → Grows old new
grows_on old mid mid' new header packets first then = record {
  header = λ h e. then.header h (rw (sym header) (first.header h e));
  packets = (
    first.packets.0 ++ then.packets.0,
    then.packets.1 ∙ ap (λ t. t ++ then.packets.0) (sym packets ∙ first.packets.1) ∙ append_assoc old.packets.items first.packets.0 then.packets.0,
  );
}

-- the record in front of some bytes
pub split_front : (big : Bool) (bytes : List ℕ) (n : ℕ) (p : CapturedPacket) → IsWhole big bytes n → p.bytes ≡ take (16 + n - 16) (drop 16 bytes) → p.original ≡ number big 4 (take (length bytes - 12) (drop 12 bytes))
    → IsRecord big (take (16 + n) bytes) p
split_front big bytes n p whole body original =
    let front : List ℕ = take (16 + n) bytes in
    let tail : List ℕ = drop (16 + n) bytes in
    let parts : bytes ≡ front ++ tail = sym (take-append-drop (16 + n) bytes) in
    let size : length front ≡ 16 + n = length-take-le (16 + n) bytes whole.2 in
    let same : captured big bytes ≡ captured big front = ap (captured big) parts ∙ word_at-front big 8 front tail (omega (arith, size)) in
    let after : drop 16 bytes ≡ drop 16 front ++ tail = ap (drop 16) parts ∙ drop-append-le 16 front tail (omega (arith, size)) in
    let count : n ≡ length (drop 16 front) = omega (arith, length-drop 16 front, size) in
    let cut : take n (drop 16 bytes) ≡ drop 16 front = ap (take n) after ∙ ap (λ m. take m (drop 16 front ++ tail)) count ∙ take-append_seam (drop 16 front) tail in
    let small : 16 + n - 16 ≡ n = omega arith in
    let is_body : drop 16 front ≡ p.bytes = sym cut ∙ ap (λ m. take m (drop 16 bytes)) (sym small) ∙ sym body in
    let place : take (length bytes - 12) (drop 12 bytes) ≡ drop 12 bytes = to_end 12 bytes in
    record {
      header = omega (arith, size);
      length_is = sym same ∙ sym whole.0 ∙ count ∙ ap length is_body;
      short = omega (arith, same, whole.0, whole.1);
      original = original ∙ ap (number big 4) place ∙ ap (λ b. number big 4 (drop 12 b)) parts ∙ word_at-front big 12 front tail (omega (arith, size));
      body = is_body;
    }

-- an open feed between two records, and one more record
next_record : (fed front : List ℕ) (header : Option Header) (packets : List CapturedPacket) (offset offset' : ℕ) (part : List ℕ) (h : Header) (p : CapturedPacket)
    → header ≡ Some h → part ≡ [] → IsOpen fed header packets offset part → IsRecord h.big front p → length (fed ++ front) < 18446744073709551616
    → (offset + (16 + length p.bytes) < 18446744073709551616 → offset' ≡ offset + (16 + length p.bytes))
    → IsOpen (fed ++ front) header (packets ++ p ∷ []) offset' part
next_record fed front None packets offset offset' part h p is none was one short moved = absurd (cc)
next_record fed front (Some k) packets offset offset' part h p is none was one short moved =
    let same : k ≡ h = cc in
    let keeps = was.0 in
    let whole : fed ≡ keeps.head ++ concat keeps.records = keeps.parts ∙ ap (λ t. (keeps.head ++ concat keeps.records) ++ t) none ∙ append-nil (keeps.head ++ concat keeps.records) in
    let more : concat (keeps.records ++ front ∷ []) ≡ concat keeps.records ++ front = concat-push keeps.records front in
    let size : length front ≡ 16 + length p.bytes = omega (arith, one.header, ap length one.body, length-drop 16 front) in
    let long : length (concat keeps.records ++ front) ≡ length (concat keeps.records) + length front = length-append (concat keeps.records) front in
    let moved_to : offset' ≡ offset + (16 + length p.bytes) =
    moved (omega (arith, keeps.place, ap length whole, length-append keeps.head (concat keeps.records), keeps.header.long, length-append fed front, size, short)) in (
      record {
        head = keeps.head;
        records = keeps.records ++ front ∷ [];
        parts = ap (λ t. t ++ front) whole ∙ append_assoc keeps.head (concat keeps.records) front ∙ ap (λ t. keeps.head ++ t) (sym more)
            ∙ sym (append-nil (keeps.head ++ concat (keeps.records ++ front ∷ []))) ∙ ap (λ t. (keeps.head ++ concat (keeps.records ++ front ∷ [])) ++ t) (sym none);
        header = keeps.header;
        each = AllZip-push (IsRecord k.big) keeps.records packets front p keeps.each (rw same one);
        place = moved_to ∙ omega (arith, keeps.place, ap length more, long, size);
      },
      inl none,
    )

-- a feed that took one whole record off some bytes
pub whole_taken : (bytes rest front : List ℕ) (old : Feed) (h : Header) (offset' : ℕ) (p : CapturedPacket) → old.header ≡ Some h → old.fault ≡ None → old.part.items ≡ [] → old.packets.items ≡ []
    → bytes ≡ front ++ rest → IsRecord h.big front p → All (λ b. b < 256) front
    → (old.offset + (16 + length p.bytes) < 18446744073709551616 → offset' ≡ old.offset + (16 + length p.bytes))
    → TakesWhole bytes rest old (record old { offset = offset' }) p
whole_taken bytes rest front old h offset' p is going none empty parts one small moved = record {
  front = front;
  parts = parts;
  last = (take 16 front, sym (take-append-drop 16 front) ∙ ap (λ t. take 16 front ++ t) one.body);
  some = omega (arith, one.header);
  holds = λ given fed held short.
      let at : given ++ old.packets.items ≡ given = ap (λ t. given ++ t) empty ∙ append-nil given in
      let at' : (given ++ p ∷ []) ++ old.packets.items ≡ given ++ p ∷ [] = ap (λ t. (given ++ p ∷ []) ++ t) empty ∙ append-nil (given ++ p ∷ []) in
      let was : IsOpen fed old.header given old.offset old.part.items = rw at at (rw going at held.1) in
      holds_next (given ++ p ∷ []) fed front (record old { offset = offset' }) None held.0 small going
      (rw at' (next_record fed front old.header given old.offset offset' old.part.items h p is none was one short moved));
}

-- a list whose length was seen to be 0
pub none_left : {A : Type 0} (xs : List A) (n : ℕ) (r : Bool) → n ≡ length xs → r ≡ (n == 0) → r ≡ true → xs ≡ []
none_left xs n r count seen is = elim (eqb_tells n 0) [
  | inl e ↦ nil_from_length xs (omega (arith, count, e.1))
  | inr e ↦ let never = e.0 in absurd (cc)
]
