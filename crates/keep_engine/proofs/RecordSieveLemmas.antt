-- A savefile that comes in pieces, of which some records are kept.
use Rattle.std.proofs.Common.{◌≡◌, ℕ, ◌+◌, ◌-◌, ◌==◌, ◌⊎◌, inl, inr, Bool, true, false, List, [], ◌∷◌, ◌++◌, length, take, drop, arith, refl, ap, sym, ◌∙◌, append_assoc, length-append, Option, Some, None, Result, Ok, Err}
use Rattle.std.specs.Prelude.{OnOk}
use Rattle.std.specs.List.{concat}
use Rattle.std.proofs.lemmas.List.{take-append-drop}
use Rattle.std.proofs.lemmas.List.Folds.{concat-append}
use Rattle.pcap_reader.specs.declared.capture.Header.{Header}
use Rattle.pcap_reader.specs.declared.capture.CaptureFault.{CaptureFault}
use Rattle.pcap_reader.specs.declared.capture.CaptureFault.TheVariants.{TruncatedRecord, TooLong}
use Rattle.pcap_reader.specs.Savefile.{EndsWith, IsHeader, IsPart, IsRecord}
use Rattle.console.specs.Programs.{Programs}
use Rattle.console.proofs.RunningLemmas.{AllZip-append}
use Rattle.keep_engine.specs.declared.choice.KeptBytes.{KeptBytes}
use Rattle.keep_engine.specs.declared.choice.Wanted.{Wanted}
use Rattle.keep_engine.specs.declared.record_sieve.RecordSieve.{RecordSieve}
use Rattle.keep_engine.specs.Keeping.{Decides, KeepsSavefile, Part, parts_of}
use Rattle.keep_engine.specs.Sieving.{Appends, HasSiftedRecords, IsLeft, OpensAt, Sifted, SiftedAt, Sifts, TakesRecords}
use Rattle.keep_engine.proofs.ChoiceLemmas.{appends_none, appends_then}
use Rattle.keep_engine.proofs.RecordLemmas.{parts-append}
use Rattle.capture_reader.specs.Entries.{savefile_link}

-- of a part that has grown more records were taken
sifted_next : (programs : Programs) (wanted : Wanted) (taken piece : List ℕ) (h : Header) (part part' : List ℕ) (kept : List Part) (before after : KeptBytes)
    → Sifted programs wanted taken h part kept → (so : TakesRecords programs wanted h (part ++ piece) part' before after) → Sifted programs wanted (taken ++ piece) h part' (kept ++ parts_of so.records so.answers)
sifted_next programs wanted taken piece h part part' kept before after was so = record {
  head = was.head;
  records = was.records ++ so.records;
  packets = was.packets ++ so.packets;
  answers = was.answers ++ so.answers;
  whole = ap (λ t. t ++ piece) was.whole ∙ append_assoc (was.head ++ concat was.records) part piece ∙ ap (λ t. (was.head ++ concat was.records) ++ t) so.whole
      ∙ sym (append_assoc (was.head ++ concat was.records) (concat so.records) part')
      ∙ ap (λ t. t ++ part') (append_assoc was.head (concat was.records) (concat so.records) ∙ ap (λ t. was.head ++ t) (sym (concat-append was.records so.records)));
  header = was.header;
  each = AllZip-append (IsRecord h.big) was.records so.records was.packets so.packets was.each so.each;
  decided = AllZip-append (Decides programs wanted (savefile_link h)) was.packets so.packets was.answers so.answers was.decided so.decided;
  is = ap (λ t. t ++ parts_of so.records so.answers) was.is
      ∙ ap (λ t. Ok was.head ∷ t) (sym (parts-append programs wanted h was.records so.records was.packets was.answers so.answers was.each was.decided));
}

pub piece_taken : (programs : Programs) (wanted : Wanted) (piece : List ℕ) (old new : RecordSieve) (h : Header) (before after : KeptBytes) → old.header ≡ Ok h → new.header ≡ old.header
    → TakesRecords programs wanted h (old.part.items ++ piece) new.part.items before after → IsLeft h.big new.long new.part.items → Sifts (HasSiftedRecords programs wanted) piece old new before after
piece_taken programs wanted piece old new h before after is same so left = record {
  more = parts_of so.records so.answers;
  pushed = so.pushed;
  goes = λ taken kept was short. let has = rw is at was in rw (same ∙ is) (sifted_next programs wanted taken piece h old.part.items new.part.items kept before after has.0 so, left);
}

-- the header and the first records
first_sifted : (programs : Programs) (wanted : Wanted) (bytes : List ℕ) (before after : KeptBytes) (header : Result Header CaptureFault) (long : Bool) (part : List ℕ) → OpensAt programs wanted bytes header long part before after
    → (more : List Part) × Appends more before after × SiftedAt programs wanted bytes header long part more
first_sifted programs wanted bytes before after (Err fault) long part opens = ([], rw opens.2 (appends_none before), (opens.0, opens.1, refl))
first_sifted programs wanted bytes before after (Ok h) long part (head, rest, parts, is, between, first, so, left) = (
  Ok head ∷ parts_of so.records so.answers,
  appends_then (Ok head ∷ []) (parts_of so.records so.answers) before between after first so.pushed,
  (
    record {
      head = head;
      records = so.records;
      packets = so.packets;
      answers = so.answers;
      whole = parts ∙ ap (λ t. head ++ t) so.whole ∙ sym (append_assoc head (concat so.records) part);
      header = is;
      each = so.each;
      decided = so.decided;
      is = refl;
    },
    left,
  ),
)

pub piece_opened : (programs : Programs) (wanted : Wanted) (piece : List ℕ) (old new : RecordSieve) (f : CaptureFault) (before after : KeptBytes) → old.header ≡ Err f
    → OpensAt programs wanted (old.part.items ++ piece) new.header new.long new.part.items before after → Sifts (HasSiftedRecords programs wanted) piece old new before after
piece_opened programs wanted piece old new f before after is opens =
    let first = first_sifted programs wanted (old.part.items ++ piece) before after new.header new.long new.part.items opens in
    record {
      more = first.0;
      pushed = first.1;
      goes = λ taken kept was short. let has = rw is at was in rw (sym has.0, has.2) first.2;
    }

-- How a capture ends

-- with what follows whole records it is all that is kept
ends_at : (programs : Programs) (wanted : Wanted) (taken : List ℕ) (h : Header) (part : List ℕ) (kept : List Part) (fault : Option CaptureFault) → (was : Sifted programs wanted taken h part kept)
    → EndsWith h.big part (24 + length (concat was.records)) fault → KeepsSavefile programs wanted taken fault kept
ends_at programs wanted taken h part kept fault was ends = inl (
  h,
  record {
    packets = was.packets;
    capture = record { head = was.head; records = was.records; rest = part; parts = was.whole; header = was.header; each = was.each; ends = ends };
    answers = was.answers;
    decided = was.decided;
    is = was.is;
  },
)

place_at : (programs : Programs) (wanted : Wanted) (taken : List ℕ) (h : Header) (part : List ℕ) (kept : List Part) (n size place : ℕ) → (was : Sifted programs wanted taken h part kept) → n ≡ length taken → size ≡ length part → place ≡ n - size
    → place ≡ 24 + length (concat was.records)
place_at programs wanted taken h part kept n size place was count long is =
    omega (arith, is, long, count, ap length was.whole, length-append (was.head ++ concat was.records) part, length-append was.head (concat was.records), was.header.long)

pub ends_long : (programs : Programs) (wanted : Wanted) (taken : List ℕ) (header : Result Header CaptureFault) (h : Header) (long : Bool) (part : List ℕ) (kept : List Part) (n size place : ℕ) → header ≡ Ok h → n ≡ length taken → size ≡ length part → place ≡ n - size
    → long ≡ true → SiftedAt programs wanted taken header long part kept → KeepsSavefile programs wanted taken (Some (TooLong place)) kept
ends_long programs wanted taken header h long part kept n size place is count size_is place_is stopped has =
    let was = rw (is, stopped) at has in ends_at programs wanted taken h part kept (Some (TooLong place)) was.0 (was.1, place_at programs wanted taken h part kept n size place was.0 count size_is place_is)

some_part : (big : Bool) (part : List ℕ) (size : ℕ) → size ≡ length part → (size == 0) ≡ false → (part ≡ []) ⊎ IsPart big part → IsPart big part
some_part big part size is some (inl none) = let never = rw (is, none) at some in absurd (cc)
some_part big part size is some (inr has) = has

pub ends_within : (programs : Programs) (wanted : Wanted) (taken : List ℕ) (header : Result Header CaptureFault) (h : Header) (long : Bool) (part : List ℕ) (kept : List Part) (n size seen place : ℕ) → header ≡ Ok h → n ≡ length taken → size ≡ length part → place ≡ n - size
    → long ≡ false → seen ≡ length part → (seen == 0) ≡ false → SiftedAt programs wanted taken header long part kept → KeepsSavefile programs wanted taken (Some (TruncatedRecord place)) kept
ends_within programs wanted taken header h long part kept n size seen place is count size_is place_is going seen_is some has =
    let was = rw (is, going) at has in ends_at programs wanted taken h part kept (Some (TruncatedRecord place)) was.0 (some_part h.big part seen seen_is some was.1, place_at programs wanted taken h part kept n size place was.0 count size_is place_is)

pub ends_whole : (programs : Programs) (wanted : Wanted) (taken : List ℕ) (header : Result Header CaptureFault) (h : Header) (long : Bool) (part : List ℕ) (kept : List Part) → header ≡ Ok h
    → part ≡ [] → SiftedAt programs wanted taken header long part kept → KeepsSavefile programs wanted taken None kept
ends_whole programs wanted taken header h long part kept is none has =
    let was = rw is at has in ends_at programs wanted taken h part kept None was.0 none

-- the header was whole
pub opened : (programs : Programs) (wanted : Wanted) (bytes records : List ℕ) (front : ℕ) (h : Header) (long : Bool) (part : List ℕ) (before between after : KeptBytes)
    → IsHeader (take front bytes) h → records ≡ drop front bytes → Appends (Ok (take front bytes) ∷ []) before between → TakesRecords programs wanted h records part between after → IsLeft h.big long part
    → OpensAt programs wanted bytes (Ok h) long part before after
opened programs wanted bytes records front h long part before between after is rest pushed so left =
    (take front bytes, drop front bytes, sym (take-append-drop front bytes), is, between, pushed, rw rest at so, left)

pub on_opened : {E : Type 0} (r : Result (Unit {0}) E) (programs : Programs) (wanted : Wanted) (piece grown : List ℕ) (old new : RecordSieve) (f : CaptureFault) (before after : KeptBytes) → old.header ≡ Err f → grown ≡ old.part.items ++ piece
    → OnOk r (OpensAt programs wanted grown new.header new.long new.part.items before after) → OnOk r (Sifts (HasSiftedRecords programs wanted) piece old new before after)
on_opened (Ok done) programs wanted piece grown old new f before after is more opens = piece_opened programs wanted piece old new f before after is (rw more at opens)
on_opened (Err e) programs wanted piece grown old new f before after is more opens = tt
