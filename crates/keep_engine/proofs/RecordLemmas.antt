-- Records of a savefile, of which some are kept.
use Rattle.std.proofs.Common.{◌≡◌, ℕ, ◌+◌, Bool, List, [], ◌∷◌, ◌++◌, take, drop, refl, ap, sym, subst, ◌∙◌, append_assoc, Result, Ok, Err}
use Rattle.std.specs.Prelude.{OnOk}
use Rattle.std.specs.List.{AllZip, concat}
use Rattle.std.proofs.lemmas.List.{append-nil, take-append-drop, drop-drop}
use Rattle.std.proofs.lemmas.List.Folds.{concat-append}
use Rattle.pcap_reader.specs.declared.capture.CapturedPacket.{CapturedPacket}
use Rattle.pcap_reader.specs.declared.capture.Header.{Header}
use Rattle.pcap_reader.specs.declared.feed.Seen.{Seen}
use Rattle.pcap_reader.specs.Held.{seen_packet}
use Rattle.pcap_reader.specs.Savefile.{IsRecord}
use Rattle.capture_reader.specs.Entries.{savefile_link}
use Rattle.console.specs.declared.filter.CodeFault.{CodeFault}
use Rattle.console.specs.Programs.{Programs}
use Rattle.console.proofs.RunningLemmas.{AllZip-append}
use Rattle.keep_engine.specs.declared.choice.KeptBytes.{KeptBytes}
use Rattle.keep_engine.specs.declared.choice.Wanted.{Wanted}
use Rattle.keep_engine.specs.Keeping.{Decides, part_of, parts_of}
use Rattle.keep_engine.specs.Sieving.{Appends, KeepsOne, TakesRecords}
use Rattle.keep_engine.proofs.ChoiceLemmas.{appends_none, appends_then}

-- some records and then others
pub parts-append : (programs : Programs) (wanted : Wanted) (h : Header) (records records' : List (List ℕ)) (packets : List CapturedPacket) (answers answers' : List (Result Bool CodeFault))
    → AllZip (IsRecord h.big) records packets → AllZip (Decides programs wanted (savefile_link h)) packets answers
    → parts_of (records ++ records') (answers ++ answers') ≡ parts_of records answers ++ parts_of records' answers'
parts-append programs wanted h [] records' [] [] answers' each decided = refl
parts-append programs wanted h [] records' [] (a ∷ answers) answers' each decided = absurd decided
parts-append programs wanted h [] records' (p ∷ packets) answers answers' each decided = absurd each
parts-append programs wanted h (r ∷ records) records' [] answers answers' each decided = absurd each
parts-append programs wanted h (r ∷ records) records' (p ∷ packets) [] answers' each decided = absurd decided
parts-append programs wanted h (r ∷ records) records' (p ∷ packets) (a ∷ answers) answers' each decided =
    ap (λ t. part_of r a ∷ t) (parts-append programs wanted h records records' packets answers answers' each.1 decided.1)

pub takes_none : (programs : Programs) (wanted : Wanted) (h : Header) (bytes : List ℕ) (kept : KeptBytes) → TakesRecords programs wanted h bytes bytes kept kept
takes_none programs wanted h bytes kept = record {
  records = [];
  packets = [];
  answers = [];
  whole = refl;
  each = tt;
  decided = tt;
  pushed = appends_none kept;
}

-- one record more
pub takes_next : (programs : Programs) (wanted : Wanted) (h : Header) (bytes rest rest' front : List ℕ) (before between after : KeptBytes) (packet : Seen)
    → TakesRecords programs wanted h bytes rest before between → rest ≡ front ++ rest' → IsRecord h.big front (seen_packet packet) → KeepsOne programs wanted (savefile_link h) packet front between after
    → TakesRecords programs wanted h bytes rest' before after
takes_next programs wanted h bytes rest rest' front before between after packet so parts is one = record {
  records = so.records ++ front ∷ [];
  packets = so.packets ++ seen_packet packet ∷ [];
  answers = so.answers ++ one.0 ∷ [];
  whole = so.whole ∙ ap (λ t. concat so.records ++ t) parts ∙ sym (append_assoc (concat so.records) front rest')
      ∙ ap (λ t. t ++ rest') (ap (λ t. concat so.records ++ t) (sym (append-nil front)) ∙ sym (concat-append so.records (front ∷ [])));
  each = AllZip-append (IsRecord h.big) so.records (front ∷ []) so.packets (seen_packet packet ∷ []) so.each (is, tt);
  decided = AllZip-append (Decides programs wanted (savefile_link h)) so.packets (seen_packet packet ∷ []) so.answers (one.0 ∷ []) so.decided (one.1, tt);
  pushed = subst (λ kept. Appends kept before after) (sym (parts-append programs wanted h so.records (front ∷ []) so.packets so.answers (one.0 ∷ []) so.each so.decided))
      (appends_then (parts_of so.records so.answers) (part_of front one.0 ∷ []) before between after so.pushed one.2);
}

-- a part that has become a record
pub takes_whole : (programs : Programs) (wanted : Wanted) (h : Header) (part front : List ℕ) (before after : KeptBytes) (packet : Seen) → front ≡ part → IsRecord h.big front (seen_packet packet) → KeepsOne programs wanted (savefile_link h) packet part before after
    → TakesRecords programs wanted h part [] before after
takes_whole programs wanted h part front before after packet all is one =
    takes_next programs wanted h part part [] part before before after packet (takes_none programs wanted h part before) (sym (append-nil part)) (rw all at is) one

-- records of a part, and then of what is left of it and a piece
pub takes_then : {T E : Type 0} (r : Result T E) (programs : Programs) (wanted : Wanted) (h : Header) (part piece mid rest bytes left : List ℕ) (before between after : KeptBytes) → part ++ piece ≡ bytes ++ rest → TakesRecords programs wanted h bytes mid before between
    → OnOk r (TakesRecords programs wanted h (mid ++ rest) left between after) → OnOk r (TakesRecords programs wanted h (part ++ piece) left before after)
takes_then (Err e) programs wanted h part piece mid rest bytes left before between after moved first second = tt
takes_then (Ok done) programs wanted h part piece mid rest bytes left before between after moved first second = record {
  records = first.records ++ second.records;
  packets = first.packets ++ second.packets;
  answers = first.answers ++ second.answers;
  whole = moved ∙ ap (λ t. t ++ rest) first.whole ∙ append_assoc (concat first.records) mid rest ∙ ap (λ t. concat first.records ++ t) second.whole
      ∙ sym (append_assoc (concat first.records) (concat second.records) left) ∙ ap (λ t. t ++ left) (sym (concat-append first.records second.records));
  each = AllZip-append (IsRecord h.big) first.records second.records first.packets second.packets first.each second.each;
  decided = AllZip-append (Decides programs wanted (savefile_link h)) first.packets second.packets first.answers second.answers first.decided second.decided;
  pushed = subst (λ kept. Appends kept before after) (sym (parts-append programs wanted h first.records second.records first.packets first.answers second.answers first.each first.decided))
      (appends_then (parts_of first.records first.answers) (parts_of second.records second.answers) before between after first.pushed second.pushed);
}

-- bytes from a place on, in two parts
pub from_place : (bytes : List ℕ) (count length_of : ℕ) → drop count bytes ≡ take length_of (drop count bytes) ++ drop (count + length_of) bytes
from_place bytes count length_of = sym (take-append-drop length_of (drop count bytes)) ∙ ap (λ t. take length_of (drop count bytes) ++ t) (drop-drop length_of count bytes)
