-- How a feed of records goes on.
use Rattle.std.proofs.Common.{◌≡◌, ◌≢◌, ℕ, ◌+◌, ◌-◌, max, min, ◌≤◌, ◌<◌, ◌⊎◌, Bool, List, [], ◌∷◌, ◌++◌, length, take, drop, arith, refl, ap, sym, ◌∙◌, inl, inr, append_assoc, length-append, length-drop, length-take-le, Option, Some, None, Result, Ok, Err, IfOk, MatchOption}
use Rattle.std.specs.List.{AllZip, concat}
use Rattle.std.proofs.lemmas.List.{append-nil, take-append-drop, take_all, map_push}
use Rattle.std.proofs.lemmas.List.Folds.{concat-append}
use Rattle.pcap_reader.specs.declared.capture.Header.{Header}
use Rattle.pcap_reader.specs.declared.capture.CapturedPacket.{CapturedPacket}
use Rattle.pcap_reader.specs.declared.capture.CaptureFault.{CaptureFault}
use Rattle.pcap_reader.specs.declared.capture.CaptureFault.TheVariants.{BadMagic, BadVersion, TruncatedHeader, TruncatedRecord, TooLong as LongRecord, NoMemory}
use Rattle.pcap_reader.specs.Savefile.{number, captured, HasNoHeader, IsHeader, IsLasting, IsLong, IsPart, IsRecord}
use Rattle.pcap_reader.proofs.Fronts.{reads-lasts, word_at-front}
use Rattle.pcap_reader.proofs.FeedLemmas.{AllZip-push}
use Rattle.pcap_reader.specs.declared.feed.Seen.{Seen as SeenPacket}
use Rattle.pcap_reader.specs.Held.{seen_packet}
use Rattle.savefile_front.specs.declared.front.Front.TheVariants.{Record}
use Rattle.savefile_front.specs.Fronts.{IsFront}
use Rattle.capture_reader.specs.declared.entry.Entry.TheVariants.{Packet, Savefile}
use Rattle.capture_reader.specs.declared.entry.PacketInfo.{PacketInfo}
use Rattle.capture_reader.specs.declared.entry.Found.{Found}
use Rattle.capture_reader.specs.declared.entry.Found.TheVariants.{SeenEntry as Seen, Held, Nothing}
use Rattle.capture_reader.specs.declared.entry.SeenEntry.{SeenEntry}
use Rattle.std.specs.Result.{IsErrAnd}
use Rattle.capture_reader.specs.declared.records.RecordFeed.{RecordFeed}
use Rattle.capture_reader.specs.Captures.{HasSavefile}
use Rattle.capture_reader.specs.Entries.{EntryBytes, record_entry, record_info, savefile_entries}
use Rattle.capture_reader.specs.Steps.{Adds, AdvancesBy}
use Rattle.capture_reader.specs.Recording.{EndsRecords, HasGrown, HasRead, HasSavefileFront, HoldsBy, HoldsRecords, IsApart, IsWanted, IsWhole, Looks, StopsRecords, held_record, open_part}

-- The header

pub not_whole : (found : Option Header) (bytes : List ℕ) → length bytes < 24 → MatchOption found (HasNoHeader bytes TruncatedHeader) (IsHeader bytes) → HasNoHeader bytes TruncatedHeader
not_whole None bytes few none = none
not_whole (Some h) bytes few is = absurd (omega (arith, is.long))

pub stop_header : (bytes : List ℕ) (f : CaptureFault) → (f ≡ NoMemory) ⊎ (IsLasting f × HasNoHeader bytes f) → StopsRecords [] bytes f
stop_header bytes f (inl refused) = inr (refused, inl refl)
stop_header bytes f (inr wrong) = inl (wrong.0, inr (f, refl, wrong.1, refl))

-- a fault that stands does so once more bytes have come
pub file-lasts : (xs ys : List ℕ) (given : List EntryBytes) (f : CaptureFault) → IsLasting f → HasSavefile xs given (Some f) → HasSavefile (xs ++ ys) given (Some f)
file-lasts xs ys given f lasting (inr none) = inr (none.0, none.1, wrong_on xs ys f none.0 lasting none.1 none.2, none.3)
  where
    wrong_on : (xs ys : List ℕ) (f g : CaptureFault) → IsLasting f → Some f ≡ Some g → HasNoHeader xs g → HasNoHeader (xs ++ ys) g
    wrong_on xs ys f g lasting same wrong = let e : f ≡ g = cc in (reads-lasts xs ys None [] g (rw e at lasting) (refl, wrong)).1
file-lasts xs ys given (LongRecord at) lasting (inl has) =
    let r = has.2 in
    inl (
      has.0,
      has.1,
      record {
        head = r.head;
        records = r.records;
        rest = r.rest ++ ys;
        parts = ap (λ t. t ++ ys) r.parts ∙ append_assoc (r.head ++ concat r.records) r.rest ys;
        header = r.header;
        each = r.each;
        ends = ((omega (arith, r.ends.0.0, length-append r.rest ys), rw (word_at-front has.0.big 8 r.rest ys (omega (arith, r.ends.0.0))) r.ends.0.1), r.ends.1);
      },
      has.3,
    )
file-lasts xs ys given BadMagic lasting (inl has) = absurd has.2.ends
file-lasts xs ys given BadVersion lasting (inl has) = absurd has.2.ends
file-lasts xs ys given TruncatedHeader lasting (inl has) = absurd lasting
file-lasts xs ys given (TruncatedRecord at) lasting (inl has) = absurd lasting
file-lasts xs ys given NoMemory lasting (inl has) = absurd lasting

front-lasts : (xs ys : List ℕ) (given : List EntryBytes) → HasSavefileFront xs given → HasSavefileFront (xs ++ ys) given
front-lasts xs ys given (inl none) = inl none
front-lasts xs ys given (inr has) = inr (has.0, has.1 ++ ys, ap (λ t. t ++ ys) has.2 ∙ append_assoc has.0 has.1 ys, has.3)

pub stops-on : (xs ys : List ℕ) (given : List EntryBytes) (f : CaptureFault) → StopsRecords given xs f → StopsRecords given (xs ++ ys) f
stops-on xs ys given f (inl stood) = inl (stood.0, file-lasts xs ys given f stood.0 stood.1)
stops-on xs ys given f (inr refused) = inr (refused.0, front-lasts xs ys given refused.1)

-- What a feed holds

front_by : (given : List EntryBytes) (fed : List ℕ) (header : Option Header) (offset : ℕ) (part : List ℕ) → HoldsBy given fed header offset part → HasSavefileFront fed given
front_by given fed None offset part held = inl held.1
front_by given fed (Some h) offset part read = inr (
  read.head ++ concat read.records,
  part,
  read.parts,
  inl (
    h,
    read.packets,
    record {
      head = read.head;
      records = read.records;
      rest = [];
      parts = sym (append-nil (read.head ++ concat read.records));
      header = read.header;
      each = read.each;
      ends = refl;
    },
    read.entries,
  ),
)

pub record_front : (given : List EntryBytes) (fed : List ℕ) (feed : RecordFeed) → HoldsRecords feed given fed → HasSavefileFront fed given
record_front given fed feed held = front_by given fed feed.header feed.offset (open_part feed.held feed.part.items) held

pub refused : (given : List EntryBytes) (fed bytes : List ℕ) (feed : RecordFeed) → HoldsRecords feed given fed → StopsRecords given (fed ++ bytes) NoMemory
refused given fed bytes feed held = inr (refl, front-lasts fed bytes given (record_front given fed feed held))

-- with a header, and between records or in one
pub read_of : (given : List EntryBytes) (fed : List ℕ) (feed : RecordFeed) (h : Header) → feed.held ≡ None → feed.header ≡ Some h → HoldsRecords feed given fed → HasRead given fed h feed.offset feed.part.items
read_of given fed feed h none has held = rw (none, has) at held

pub unread_of : (given : List EntryBytes) (fed : List ℕ) (feed : RecordFeed) → feed.held ≡ None → feed.header ≡ None → HoldsBy given fed feed.header feed.offset (open_part feed.held feed.part.items) → HoldsBy given fed None feed.offset feed.part.items
unread_of given fed feed none has held = rw (none, has) at held

pub holds_read : (given : List EntryBytes) (fed : List ℕ) (feed : RecordFeed) (h : Header) (part : List ℕ) → feed.header ≡ Some h → open_part feed.held feed.part.items ≡ part → HasRead given fed h feed.offset part → HoldsRecords feed given fed
holds_read given fed feed h part has is read = rw (has, is) read

-- a record more
pub one_more : (given : List EntryBytes) (fed r : List ℕ) (h : Header) (offset offset' n : ℕ) (head : List ℕ) (records : List (List ℕ)) (packets : List CapturedPacket) (packet : CapturedPacket)
    → fed ≡ (head ++ concat records) ++ r → IsHeader head h → AllZip (IsRecord h.big) records packets → given ≡ savefile_entries h records → offset ≡ 24 + length (concat records)
    → IsRecord h.big r packet → length r ≡ n → (offset + n < 18446744073709551616 → offset' ≡ offset + n) → length fed < 18446744073709551616
    → HasRead (given ++ record_entry h r ∷ []) fed h offset' []
one_more given fed r h offset offset' n head records packets packet parts header each entries place one size moved short =
    let joined : concat (records ++ r ∷ []) ≡ concat records ++ r = concat-append records (r ∷ []) ∙ ap (λ t. concat records ++ t) (append-nil r) in
    let long : length fed ≡ 24 + (length (concat records) + length r) = omega (arith, ap length parts, length-append (head ++ concat records) r, length-append head (concat records), header.long) in
    record {
      head = head;
      records = records ++ r ∷ [];
      packets = packets ++ packet ∷ [];
      parts = parts ∙ append_assoc head (concat records) r ∙ ap (λ t. head ++ t) (sym joined) ∙ sym (append-nil (head ++ concat (records ++ r ∷ [])));
      header = header;
      each = AllZip-push (IsRecord h.big) records packets r packet each one;
      entries = ap (λ t. t ++ record_entry h r ∷ []) entries ∙ ap (λ t. (Savefile h, []) ∷ t) (sym (map_push (record_entry h) records r));
      place = moved (omega (arith, place, long, size, short)) ∙ omega (arith, place, ap length joined, length-append (concat records) r, size);
      rest = inl refl;
    }

pub cut_in_two : (count : ℕ) (bytes rest : List ℕ) → rest ≡ drop count bytes → bytes ≡ take count bytes ++ rest
cut_in_two count bytes rest left = sym (take-append-drop count bytes) ∙ ap (λ t. take count bytes ++ t) (sym left)

-- The header of a savefile

short_header : (fed : List ℕ) → HasNoHeader fed TruncatedHeader → length fed < 24
short_header fed (inl few) = omega arith
short_header fed (inr more) = elim more.3 [
  | inl few ↦ omega arith
  | inr few ↦ few.1
]

-- bytes of it were added, and are looked at
record HeaderGrew (given : List EntryBytes) (fed bytes part : List ℕ) (count n offset : ℕ) : Type 0 where
  pub all : take n part ≡ fed ++ take count bytes
  pub same : part ≡ fed ++ take count bytes
  pub none : given ≡ []
  pub place : offset ≡ 24

header_grew : (given : List EntryBytes) (fed bytes part : List ℕ) (count n : ℕ) (old : RecordFeed) → old.held ≡ None → old.header ≡ None → part ≡ old.part.items ++ take count bytes
    → count ≡ min (max (24 - length old.part.items) 1) (length bytes) → n ≡ min (length part) 24 → HoldsRecords old given fed → HeaderGrew given fed bytes part count n old.offset
header_grew given fed bytes part count n old none has grew counted is held =
    let was = unread_of given fed old none has held in
    let short : length fed < 24 = short_header fed was.3 in
    let size : length (take count bytes) ≡ count = length-take-le count bytes (omega (arith, counted)) in
    let few : length part ≤ 24 = omega (arith, ap length grew, length-append old.part.items (take count bytes), size, counted, ap length was.0, short) in
    let same : part ≡ fed ++ take count bytes = grew ∙ ap (λ t. t ++ take count bytes) was.0 in
    record {
      all = take_all n part (omega (arith, is, few)) ∙ same;
      same = same;
      none = was.1;
      place = was.2;
    }

-- the header is whole
pub read_first : (given : List EntryBytes) (fed : List ℕ) (h : Header) (offset : ℕ) → given ≡ [] → offset ≡ 24 → IsHeader fed h → HasRead (given ++ (Savefile h, []) ∷ []) fed h offset []
read_first given fed h offset none at is = record {
  head = fed;
  records = [];
  packets = [];
  parts = sym (append-nil fed) ∙ sym (append-nil (fed ++ []));
  header = is;
  each = tt;
  entries = ap (λ t. t ++ (Savefile h, []) ∷ []) none;
  place = at;
  rest = inl refl;
}

-- it isn't whole
pub begins_nothing : (bytes rest : List ℕ) (count n : ℕ) (old new : RecordFeed) → rest ≡ drop count bytes → old.held ≡ None → old.header ≡ None → new.held ≡ None → new.header ≡ None → new.offset ≡ old.offset
    → new.part.items ≡ old.part.items ++ take count bytes → count ≡ min (max (24 - length old.part.items) 1) (length bytes) → n ≡ min (length new.part.items) 24 → HasNoHeader (take n new.part.items) TruncatedHeader
    → AdvancesBy {E = CaptureFault} (HoldsRecords old) (HoldsRecords new) StopsRecords (held_record new) bytes rest (Ok Nothing)
begins_nothing bytes rest count n old new left none has none' has' offset grew counted is wrong = record {
  front = take count bytes;
  parts = cut_in_two count bytes rest left;
  adds = λ given fed held short.
      let at = header_grew given fed bytes new.part.items count n old none has grew counted is held in
      rw (none', has') (at.same, at.none, offset ∙ at.place, rw at.all at wrong);
}

-- it is whole
pub begins_header : (bytes rest part : List ℕ) (count n : ℕ) (old new : RecordFeed) (h : Header) (item : SeenEntry) → item.entry ≡ Savefile h → item.bytes.now ≡ [] → rest ≡ drop count bytes → old.held ≡ None → old.header ≡ None → new.held ≡ None → new.header ≡ Some h
    → new.offset ≡ old.offset → new.part.items ≡ [] → part ≡ old.part.items ++ take count bytes → count ≡ min (max (24 - length old.part.items) 1) (length bytes) → n ≡ min (length part) 24 → IsHeader (take n part) h
    → AdvancesBy {E = CaptureFault} (HoldsRecords old) (HoldsRecords new) StopsRecords (held_record new) bytes rest (Ok (Seen item))
begins_header bytes rest part count n old new h item says body left none has none' has' offset empty grew counted is good = record {
  front = take count bytes;
  parts = cut_in_two count bytes rest left;
  adds = λ given fed held short.
      let at = header_grew given fed bytes part count n old none has grew counted is held in
      rw (says, body) (holds_read (given ++ (Savefile h, []) ∷ []) (fed ++ take count bytes) new h [] has' (rw (none', empty) refl)
      (read_first given (fed ++ take count bytes) h new.offset at.none (offset ∙ at.place) (rw at.all at good)));
}

-- it is wrong
pub begins_wrong : (bytes rest part : List ℕ) (count n : ℕ) (old new : RecordFeed) (r : Result Found CaptureFault) (f : CaptureFault) → IsErrAnd r (λ g. g ≡ f) → rest ≡ drop count bytes → old.held ≡ None → old.header ≡ None
    → part ≡ old.part.items ++ take count bytes → count ≡ min (max (24 - length old.part.items) 1) (length bytes) → n ≡ min (length part) 24 → (f ≡ NoMemory) ⊎ (IsLasting f × HasNoHeader (take n part) f)
    → AdvancesBy (HoldsRecords old) (HoldsRecords new) StopsRecords (held_record new) bytes rest r
begins_wrong bytes rest part count n old new (Ok found) f handed left none has grew counted is wrong = absurd handed
begins_wrong bytes rest part count n old new (Err g) f handed left none has grew counted is wrong = λ given fed held short.
    let at = header_grew given fed bytes part count n old none has grew counted is held in
    let all : (fed ++ take count bytes) ++ drop count bytes ≡ fed ++ bytes = append_assoc fed (take count bytes) (drop count bytes) ∙ ap (λ t. fed ++ t) (take-append-drop count bytes) in
    rw (handed, at.none) (rw all at (stops-on (fed ++ take count bytes) (drop count bytes) [] f (stop_header (fed ++ take count bytes) f (rw at.all at wrong))))

-- memory was refused
pub refused_by : (bytes rest : List ℕ) (old new : RecordFeed) (r : Result Found CaptureFault) → IsErrAnd r (λ g. g ≡ NoMemory) → AdvancesBy (HoldsRecords old) (HoldsRecords new) StopsRecords (held_record new) bytes rest r
refused_by bytes rest old new (Ok found) handed = absurd handed
refused_by bytes rest old new (Err g) handed = λ given fed held short. rw handed (refused given fed bytes old held)

-- Records in front of some bytes

pub whole_front : (big : Bool) (bytes : List ℕ) (n : ℕ) (packet : SeenPacket) → IsFront big bytes (Record n packet) → IsWhole big bytes n
whole_front big bytes n packet is = (omega (arith, is.1.header, is.0, length-take-le n bytes is.0), is.0, (seen_packet packet, is.1))

-- how long a record is
pub record_size : (big : Bool) (bytes : List ℕ) (n : ℕ) → IsWhole big bytes n → n ≡ 16 + captured big bytes
record_size big bytes n next =
    let front = take n bytes in
    let size : length front ≡ n = length-take-le n bytes next.1 in
    let same : captured big bytes ≡ captured big front = ap (captured big) (sym (take-append-drop n bytes)) ∙ word_at-front big 8 front (drop n bytes) (omega (arith, size, next.0)) in
    omega (arith, same, next.2.1.length_is, ap length next.2.1.body, length-drop 16 front, size, next.0)

-- a part that is a whole record is nothing but that
pub record_exact : (big : Bool) (part : List ℕ) (n : ℕ) → IsWhole big part n → (length part ≤ 16) ⊎ ((captured big part ≤ 262144) × (length part ≤ 16 + captured big part)) → length part ≡ n
record_exact big part n next (inl few) = omega (arith, next.0, next.1, few)
record_exact big part n next (inr few) = omega (arith, next.1, few.1, record_size big part n next)

-- a part grows by bytes that it lacks
pub grown_exact : (big : Bool) (part piece : List ℕ) (n : ℕ) → (part ≡ []) ⊎ IsPart big part → IsWanted big part n → length piece ≤ max n 1
    → (length (part ++ piece) ≤ 16) ⊎ ((captured big (part ++ piece) ≤ 262144) × (length (part ++ piece) ≤ 16 + captured big (part ++ piece)))
grown_exact big part piece n kind (inl short) few = inl (omega (arith, length-append part piece, short.0, short.1, few))
grown_exact big part piece n (inl none) (inr long) few = absurd (omega (arith, ap length none, long.0))
grown_exact big part piece n (inr half) (inr long) few = elim half.1 [
  | inl short ↦ absurd (omega (arith, short, long.0))
  | inr rest ↦ let same : captured big (part ++ piece) ≡ captured big part = word_at-front big 8 part piece (omega (arith, long.0)) in
      inr (rw same rest.0, rw same (omega (arith, length-append part piece, rest.1, long.1, few)))
]

pub grown_next : (given : List EntryBytes) (fed piece : List ℕ) (h : Header) (old new : RecordFeed) (n : ℕ) → HasRead given fed h old.offset old.part.items → IsWanted h.big old.part.items n → length piece ≤ max n 1
    → new.part.items ≡ old.part.items ++ piece → new.offset ≡ old.offset → HasGrown given (fed ++ piece) h new
grown_next given fed piece h old new n read wanted few grew same = record {
  head = read.head;
  records = read.records;
  packets = read.packets;
  parts = ap (λ t. t ++ piece) read.parts ∙ append_assoc (read.head ++ concat read.records) old.part.items piece ∙ ap (λ t. (read.head ++ concat read.records) ++ t) (sym grew);
  header = read.header;
  each = read.each;
  entries = read.entries;
  place = same ∙ read.place;
  exact = rw grew (grown_exact h.big old.part.items piece n read.rest wanted few);
}

-- what was found in a front of some bytes is found in them all
pub goes_apart : (bytes rest : List ℕ) (count : ℕ) (old new : RecordFeed) (r : Result Found CaptureFault) → rest ≡ drop count bytes → IfOk r IsApart
    → ((given : List EntryBytes) (fed : List ℕ) → HoldsRecords old given fed → length (fed ++ take count bytes) < 18446744073709551616 → Looks given (fed ++ take count bytes) new r)
    → AdvancesBy (HoldsRecords old) (HoldsRecords new) StopsRecords (held_record new) bytes rest r
goes_apart bytes rest count old new (Ok found) left is goes = record { front = take count bytes; parts = cut_in_two count bytes rest left; adds = goes }
goes_apart bytes rest count old new (Err fault) left is goes = λ given fed held short.
    let all : (fed ++ take count bytes) ++ drop count bytes ≡ fed ++ bytes = append_assoc fed (take count bytes) (drop count bytes) ∙ ap (λ t. fed ++ t) (take-append-drop count bytes) in
    rw all at (stops-on (fed ++ take count bytes) (drop count bytes) given fault
    (goes given fed held (omega (arith, short, ap length all, length-append (fed ++ take count bytes) (drop count bytes)))))

-- what is held after a look
pub looks_whole : (given : List EntryBytes) (fed : List ℕ) (h : Header) (old new : RecordFeed) (n : ℕ) (info : PacketInfo) → HasGrown given fed h old → length fed < 18446744073709551616 → IsWhole h.big old.part.items n
    → info ≡ record_info h old.part.items → new.held ≡ Some info → new.part.items ≡ old.part.items → new.header ≡ Some h → (old.offset + n < 18446744073709551616 → new.offset ≡ old.offset + n)
    → Adds (HoldsRecords new) (held_record new) given fed Held
looks_whole given fed h old new n info grown short next says holds part has moved =
    let size : length old.part.items ≡ n = record_exact h.big old.part.items n next grown.exact in
    let all : take n old.part.items ≡ old.part.items = take_all n old.part.items (omega (arith, size)) in
    let one : IsRecord h.big old.part.items next.2.0 = rw all at next.2.1 in
    let read = one_more given fed old.part.items h old.offset new.offset n grown.head grown.records grown.packets next.2.0 grown.parts grown.header grown.each grown.entries grown.place one size moved short in
    (record_entry h old.part.items, rw (holds, part, says) refl, holds_read (given ++ record_entry h old.part.items ∷ []) fed new h [] has (rw holds refl) read)

pub looks_part : (given : List EntryBytes) (fed : List ℕ) (h : Header) (feed : RecordFeed) → HasGrown given fed h feed → feed.held ≡ None → feed.header ≡ Some h → (feed.part.items ≡ []) ⊎ IsPart h.big feed.part.items → HoldsRecords feed given fed
looks_part given fed h feed grown none has next = holds_read given fed feed h feed.part.items has (rw none refl) (record {
  head = grown.head;
  records = grown.records;
  packets = grown.packets;
  parts = grown.parts;
  header = grown.header;
  each = grown.each;
  entries = grown.entries;
  place = grown.place;
  rest = next;
})

-- a record that is too long
pub stops_long : (given : List EntryBytes) (fed : List ℕ) (h : Header) (offset : ℕ) (head : List ℕ) (records : List (List ℕ)) (packets : List CapturedPacket) (rest : List ℕ)
    → fed ≡ (head ++ concat records) ++ rest → IsHeader head h → AllZip (IsRecord h.big) records packets → given ≡ savefile_entries h records → offset ≡ 24 + length (concat records) → IsLong h.big rest
    → StopsRecords given fed (LongRecord offset)
stops_long given fed h offset head records packets rest parts header each entries place long = inl (
  tt,
  inl (
    h,
    packets,
    record {
      head = head;
      records = records;
      rest = rest;
      parts = parts;
      header = header;
      each = each;
      ends = (long, place);
    },
    entries,
  ),
)

-- a whole record lies in some bytes
pub takes_whole : (bytes front rest : List ℕ) (old new : RecordFeed) (h : Header) (n : ℕ) (info : PacketInfo) (item : SeenEntry) → old.held ≡ None → old.header ≡ Some h → old.part.items ≡ []
    → IsWhole h.big bytes n → front ≡ take n bytes → rest ≡ drop n bytes → info ≡ record_info h front → item.entry ≡ Packet info → item.bytes.now ≡ drop 16 front
    → new.held ≡ None → new.header ≡ Some h → new.part.items ≡ [] → (old.offset + n < 18446744073709551616 → new.offset ≡ old.offset + n)
    → AdvancesBy {E = CaptureFault} (HoldsRecords old) (HoldsRecords new) StopsRecords (held_record new) bytes rest (Ok (Seen item))
takes_whole bytes front rest old new h n info item none has empty next is left says entry body none' has' empty' moved = record {
  front = front;
  parts = rw (is, left) (sym (take-append-drop n bytes));
  adds = λ given fed held short. rw (entry, body, says) (whole_given given fed held short);
}
  where
    whole_given : (given : List EntryBytes) (fed : List ℕ) → HoldsRecords old given fed → length (fed ++ front) < 18446744073709551616 → HoldsRecords new (given ++ record_entry h front ∷ []) (fed ++ front)
    whole_given given fed held short =
        let read = read_of given fed old h none has held in
        let one : IsRecord h.big front next.2.0 = rw (sym is) at next.2.1 in
        let parts : fed ++ front ≡ (read.head ++ concat read.records) ++ front = ap (λ t. t ++ front) (read.parts ∙ ap (λ t. (read.head ++ concat read.records) ++ t) empty ∙ append-nil (read.head ++ concat read.records)) in
        holds_read (given ++ record_entry h front ∷ []) (fed ++ front) new h [] has' (rw (none', empty') refl)
        (one_more given (fed ++ front) front h old.offset new.offset n read.head read.records read.packets next.2.0 parts read.header read.each read.entries read.place one (ap length is ∙ length-take-le n bytes next.1) moved short)

-- or one that is too long
pub takes_long : (bytes : List ℕ) (old : RecordFeed) (h : Header) → old.held ≡ None → old.header ≡ Some h → old.part.items ≡ [] → IsLong h.big bytes
    → (given : List EntryBytes) (fed : List ℕ) → HoldsRecords old given fed → StopsRecords given (fed ++ bytes) (LongRecord old.offset)
takes_long bytes old h none has empty long given fed held =
    let read = read_of given fed old h none has held in
    let parts : fed ++ bytes ≡ (read.head ++ concat read.records) ++ bytes = ap (λ t. t ++ bytes) (read.parts ∙ ap (λ t. (read.head ++ concat read.records) ++ t) empty ∙ append-nil (read.head ++ concat read.records)) in
    stops_long given (fed ++ bytes) h old.offset read.head read.records read.packets bytes parts read.header read.each read.entries read.place long

-- How a savefile ends

pub ends_unread : (given : List EntryBytes) (fed : List ℕ) (feed : RecordFeed) → feed.header ≡ None → HoldsRecords feed given fed → EndsRecords given fed (Err TruncatedHeader)
ends_unread given fed feed none held = unread_at given fed feed.offset (open_part feed.held feed.part.items) (rw none at held)
  where
    unread_at : (given : List EntryBytes) (fed : List ℕ) (offset : ℕ) (part : List ℕ) → HoldsBy given fed None offset part → EndsRecords given fed (Err TruncatedHeader)
    unread_at given fed offset part held = inr (TruncatedHeader, refl, held.3, held.1)

pub ends_whole : (given : List EntryBytes) (fed : List ℕ) (feed : RecordFeed) (h : Header) → feed.header ≡ Some h → open_part feed.held feed.part.items ≡ [] → HoldsRecords feed given fed → EndsRecords given fed (Ok tt)
ends_whole given fed feed h has none held = whole_at given fed h feed.offset (rw (has, none) at held)
  where
    whole_at : (given : List EntryBytes) (fed : List ℕ) (h : Header) (offset : ℕ) → HasRead given fed h offset [] → EndsRecords given fed (Ok tt)
    whole_at given fed h offset read = inl (
      h,
      read.packets,
      record {
        head = read.head;
        records = read.records;
        rest = [];
        parts = read.parts;
        header = read.header;
        each = read.each;
        ends = refl;
      },
      read.entries,
    )

pub ends_within : (given : List EntryBytes) (fed : List ℕ) (feed : RecordFeed) (h : Header) → feed.header ≡ Some h → feed.held ≡ None → feed.part.items ≢ [] → HoldsRecords feed given fed → EndsRecords given fed (Err (TruncatedRecord feed.offset))
ends_within given fed feed h has none some held = within_at (read_of given fed feed h none has held).rest
  where
    read : HasRead given fed h feed.offset feed.part.items
    read = read_of given fed feed h none has held

    within_at : (feed.part.items ≡ []) ⊎ IsPart h.big feed.part.items → EndsRecords given fed (Err (TruncatedRecord feed.offset))
    within_at (inl empty) = absurd (some empty)
    within_at (inr half) = inl (
      h,
      read.packets,
      record {
        head = read.head;
        records = read.records;
        rest = feed.part.items;
        parts = read.parts;
        header = read.header;
        each = read.each;
        ends = (half, read.place);
      },
      read.entries,
    )

-- after the record that was held
pub let_go : (given : List EntryBytes) (fed : List ℕ) (old new : RecordFeed) → new.held ≡ None → new.part.items ≡ open_part old.held old.part.items → new.header ≡ old.header → new.offset ≡ old.offset → HoldsRecords old given fed → HoldsRecords new given fed
let_go given fed old new none part header offset held = rw (none, part, header, offset) held

pub advances_after : (bytes rest : List ℕ) (old mid new : RecordFeed) (r : Result Found CaptureFault) → ((given : List EntryBytes) (fed : List ℕ) → HoldsRecords old given fed → HoldsRecords mid given fed)
    → AdvancesBy (HoldsRecords mid) (HoldsRecords new) StopsRecords (held_record new) bytes rest r → AdvancesBy (HoldsRecords old) (HoldsRecords new) StopsRecords (held_record new) bytes rest r
advances_after bytes rest old mid new (Ok found) gone advances = record {
  front = advances.front;
  parts = advances.parts;
  adds = λ given fed held short. advances.adds given fed (gone given fed held) short;
}
advances_after bytes rest old mid new (Err fault) gone advances = λ given fed held short. advances given fed (gone given fed held) short
