-- The steps of a copy.
use Rattle.std.proofs.Common.{◌≡◌, ℕ, zero, suc, take, ◌+◌, ◌*◌, ◌^◌, ◌<◌, ◌≤◌, ◌⊎◌, inl, inr, List, [], ◌∷◌, ◌++◌, length, Bool, true, false, Option, Some, None, Result, Ok, Err, arith, refl, sym, ap, ap₂, ◌∙◌, append_assoc, length-append}
use Rattle.std.specs.Prelude.{IsSome, OnErr}
use Rattle.std.specs.List.{AllZip, concat}
use Rattle.std.specs.Io.KnownBytes.{IsAtEnd}
use Rattle.std.proofs.lemmas.List.{append-nil}
use Rattle.std.proofs.lemmas.Bool.{cases_lt}
use Rattle.pcap_reader.specs.declared.capture.Header.{Header}
use Rattle.pcap_reader.specs.declared.capture.CapturedPacket.{CapturedPacket}
use Rattle.pcap_reader.specs.declared.capture.CaptureFault.{CaptureFault as SavefileFault}
use Rattle.pcap_reader.specs.Savefile.{IsHeader, IsRecord}
use Rattle.pcapng_reader.specs.declared.fault.CaptureFault.{CaptureFault as PcapngFault}
use Rattle.pcapng_reader.specs.Grammar.{WholeBlock, Place, start, Follow, bytes_of}
use Rattle.pcapng_reader.specs.Held.{HasStopped, IsOpen, held_fault, open_part, place_of}
use Rattle.pcapng_reader.proofs.LawLemmas.{block_least}
use Rattle.pcapng_reader.proofs.SectionLemmas.{section_begun}
use Rattle.console.specs.declared.streaming.TheConstants.{STREAM_READS}
use Rattle.keep_engine.specs.declared.keeping.TheConstants.{BLOCK, MANY, SMALL}
use Rattle.engine_io.specs.declared.source.Source.{Source}
use Rattle.engine_io.specs.declared.sink.Sink.{Sink}
use Rattle.engine_io.specs.Devices.{Gets, GetsNothing, Writes}
use Rattle.console.specs.declared.filter.CodeFault.{CodeFault}
use Rattle.console.specs.Programs.{Programs}
use Rattle.engine_io.specs.Reading.{BeginsWith}
use Rattle.engine_io.proofs.KnownBytesLemmas.{gets-kept, gets-nothing, gets-then, writes-nothing, writes-then}
use Rattle.console.proofs.StreamingLemmas.{begins_itself}
use Rattle.console.specs.Expressions.{IsFilter, ShowsBadFilter}
use Rattle.keep_engine.specs.declared.choice.KeptBytes.{KeptBytes}
use Rattle.keep_engine.specs.declared.choice.Wanted.{Wanted}
use Rattle.keep_engine.specs.declared.keeping.CopyEnd.{CopyEnd}
use Rattle.keep_engine.specs.declared.keeping.CopyEnd.TheVariants.{Capture, Code}
use Rattle.keep_engine.specs.declared.block_sieve.BlockSieve.{BlockSieve}
use Rattle.capture_reader.specs.declared.fault.ReadFault.{ReadFault}
use Rattle.keep_engine.specs.declared.sieve.Sieve.{Sieve}
use Rattle.keep_engine.specs.declared.sieve.Format.{Format}
use Rattle.keep_engine.specs.declared.sieve.Format.TheVariants.{Unknown, Savefile, Pcapng}
use Rattle.pcapng_reader.specs.Blocks.{is_pcapng}
use Rattle.keep_engine.specs.Keeping.{Decides, Keeps, KeepsFront, KeepsGoodCode, KeepsInput, KeepsOfFront, KeepsPart, Leaves, Part, Says, parts_of, stop_of, text_of}
use Rattle.keep_engine.specs.Sieving.{Appends, EndsKept, HasSifted, HasSiftedBlocks, IsStopped, SaysEnding, SiftedAt, SiftedBy, Sifts, stop_after, text_after}
use Rattle.keep_engine.proofs.ChoiceLemmas.{stop_append, text_append}
use Rattle.keep_engine.proofs.SieveLemmas.{told_on}
use Rattle.capture_reader.specs.Entries.{savefile_link}

-- what was read and kept so far
pub record Copied {R W : Type 0} (programs : Programs) (wanted : Wanted) (remaining : R → Option (List ℕ)) (from at : Source R) (contents : W → Option (List ℕ)) (old new : Sink W) (sieve : Sieve) : Type 0 where
  pub input : List ℕ
  pub kept : List Part
  pub lost : Gets remaining from at input
  pub has : HasSifted programs wanted input sieve kept
  pub going : stop_of kept ≡ None
  pub appended : Writes contents old new (text_of kept)
  pub count : at.taken ≡ length input

-- nothing is kept of nothing, or something of a front
abbrev OfFront : Programs → Wanted → List ℕ → List Part → Type 0
OfFront programs wanted input kept = (kept ≡ []) ⊎ KeepsOfFront programs wanted input kept

-- a savefile up to the end of a record
savefile_front : (programs : Programs) (wanted : Wanted) (input head part : List ℕ) (kept : List Part) (records : List (List ℕ)) (packets : List CapturedPacket) (answers : List (Result Bool CodeFault)) (h : Header) → is_pcapng input ≡ false → input ≡ (head ++ concat records) ++ part → IsHeader head h
    → AllZip (IsRecord h.big) records packets → AllZip (Decides programs wanted (savefile_link h)) packets answers → kept ≡ Ok head ∷ parts_of records answers → OfFront programs wanted input kept
savefile_front programs wanted input head part kept records packets answers h other parts header each decided is = inr (
  head ++ concat records,
  part,
  parts,
  inr (
    sym (ap is_pcapng parts ∙ told_on (head ++ concat records) part (omega (arith, header.long, length-append head (concat records)))) ∙ other,
    None,
    refl,
    inl (
      h,
      record {
        packets = packets;
        capture = record { head = head; records = records; rest = []; parts = sym (append-nil (head ++ concat records)); header = header; each = each; ends = refl };
        answers = answers;
        decided = decided;
        is = is;
      },
    ),
  ),
)

-- a capture in pcapng up to the end of a block
blocks_front : (programs : Programs) (wanted : Wanted) (input rest : List ℕ) (kept : List Part) (blocks : List WholeBlock) (place : Place) → is_pcapng input ≡ true → input ≡ bytes_of blocks ++ rest → Follow start blocks place
    → AllZip (Leaves programs wanted) blocks kept → OfFront programs wanted input kept
blocks_front programs wanted input rest [] [] place told is follow each = inl refl
blocks_front programs wanted input rest (p ∷ kept) [] place told is follow each = absurd each
blocks_front programs wanted input rest kept (b ∷ blocks) place told is follow each = inr (
  bytes_of (b ∷ blocks),
  rest,
  is,
  inl (
    sym (ap is_pcapng is ∙ told_on (bytes_of (b ∷ blocks)) rest (omega (arith, block_least start b follow.0, length-append b.bytes (bytes_of blocks)))) ∙ told,
    None,
    refl,
    record {
      blocks = b ∷ blocks;
      reads = record { place = place; rest = []; parts = sym (append-nil (bytes_of (b ∷ blocks))); follow = follow; ends = (refl, section_begun b blocks place follow) };
      each = each;
    },
  ),
)

-- what was kept so far is all that is kept of a front
records_front : (programs : Programs) (wanted : Wanted) (taken : List ℕ) (header : Result Header SavefileFault) (long : Bool) (part : List ℕ) (kept : List Part) → is_pcapng taken ≡ false → SiftedAt programs wanted taken header long part kept → OfFront programs wanted taken kept
records_front programs wanted taken (Err fault) long part kept other has = inl has.2
records_front programs wanted taken (Ok h) long part kept other has =
    savefile_front programs wanted taken has.0.head part kept has.0.records has.0.packets has.0.answers h other has.0.whole has.0.header has.0.each has.0.decided has.0.is

feed_front : (programs : Programs) (wanted : Wanted) (taken : List ℕ) (kept : List Part) (sieve : BlockSieve) (fault : Option PcapngFault) → held_fault sieve.feed ≡ fault → is_pcapng taken ≡ true → HasSiftedBlocks programs wanted taken sieve kept → OfFront programs wanted taken kept
feed_front programs wanted taken kept sieve None going told has =
    let open_at : IsOpen has.blocks taken (place_of sieve.feed) sieve.feed.passing (open_part sieve.feed.held sieve.feed.part.items) = rw going at has.holds in
    blocks_front programs wanted taken open_at.part kept has.blocks (place_of sieve.feed) told open_at.parts open_at.follow has.each
feed_front programs wanted taken kept sieve (Some fault) met told has =
    let stopped : HasStopped has.blocks taken fault = rw met at has.holds in
    elim stopped [
      | inl lasting ↦ blocks_front programs wanted taken lasting.1.rest kept has.blocks lasting.1.place told lasting.1.parts lasting.1.follow has.each
      | inr refused ↦ blocks_front programs wanted taken refused.1.more kept has.blocks refused.1.place told refused.1.parts refused.1.follow has.each
    ]

sifted_front : (programs : Programs) (wanted : Wanted) (taken : List ℕ) (format : Format) (front : List ℕ) (kept : List Part) → SiftedBy programs wanted taken format front kept → OfFront programs wanted taken kept
sifted_front programs wanted taken Unknown front kept has = inl has.2
sifted_front programs wanted taken (Savefile sieve) front kept has = records_front programs wanted taken sieve.header sieve.long sieve.part.items kept has.1 has.2
sifted_front programs wanted taken (Pcapng sieve) front kept has = feed_front programs wanted taken kept sieve (held_fault sieve.feed) refl has.1 has.2

-- what was written of it
written_front : (programs : Programs) (wanted : Wanted) (input : List ℕ) (kept : List Part) → OfFront programs wanted input kept → KeepsFront programs wanted input (text_of kept)
written_front programs wanted input kept (inl none) = inl (ap text_of none)
written_front programs wanted input kept (inr front) = inr (kept, front, begins_itself (text_of kept))

-- a front that ends with a packet for which CODE has no program
stopped_front : (programs : Programs) (wanted : Wanted) (input : List ℕ) (kept : List Part) (stop : CodeFault) → stop_of kept ≡ Some stop → OfFront programs wanted input kept → KeepsOfFront programs wanted input kept
stopped_front programs wanted input kept stop is (inl none) = let e : ◌≡◌ {A = Option CodeFault} None (Some stop) = ap stop_of (sym none) ∙ is in absurd (cc)
stopped_front programs wanted input kept stop is (inr front) = front

front_on : (programs : Programs) (wanted : Wanted) (input piece text : List ℕ) → KeepsFront programs wanted input text → KeepsFront programs wanted (input ++ piece) text
front_on programs wanted input piece text (inl none) = inl none
front_on programs wanted input piece text (inr (kept, (front, rest, parts, keeps), begins)) = inr (kept, (front, rest ++ piece, ap (λ t. t ++ piece) parts ∙ append_assoc front rest piece, keeps), begins)

nothing_begins : (text more : List ℕ) → [] ≡ text ++ more → text ≡ []
nothing_begins [] more e = refl
nothing_begins (x ∷ text) more e = absurd (omega (arith, ap length e, length-append (x ∷ text) more))

front_of_front : (programs : Programs) (wanted : Wanted) (input text whole : List ℕ) → BeginsWith text whole → KeepsFront programs wanted input whole → KeepsFront programs wanted input text
front_of_front programs wanted input text whole (more, is) (inl none) = inl (nothing_begins text more (sym none ∙ is))
front_of_front programs wanted input text whole (more, is) (inr (kept, front, (others, begins))) =
    inr (kept, front, (more ++ others, begins ∙ ap (λ t. t ++ others) is ∙ append_assoc text more others))

-- so many bytes at most
pub take_few : (n : ℕ) (xs : List ℕ) → length (take n xs) ≤ n
take_few zero xs = omega arith
take_few (suc n) [] = omega arith
take_few (suc n) (x ∷ xs) = omega (arith, take_few n xs)

-- a read after so many turns
pub few_more : (taken taken' count turn room : ℕ) → taken ≤ MANY + BLOCK + SMALL * turn → count ≤ room → room ≤ BLOCK → (MANY ≤ taken → room ≤ SMALL) → taken' ≡ taken + count → taken' ≤ MANY + BLOCK + SMALL * (turn + 1)
few_more taken taken' count turn room few most large small more = elim (cases_lt taken MANY) [
  | inl less ↦ omega (arith, most, large, more, less)
  | inr many ↦ omega (arith, few, most, small many, more)
]

-- all reads together gave less than 2^64 bytes
pub few_enough : (taken taken' count turn room : ℕ) → taken ≤ MANY + BLOCK + SMALL * turn → count ≤ room → room ≤ BLOCK → (MANY ≤ taken → room ≤ SMALL) → taken' ≡ taken + count → turn < STREAM_READS → taken' < 2 ^ 64
few_enough taken taken' count turn room few most large small more one = omega (arith, few_more taken taken' count turn room few most large small more, one)

-- nothing was read yet
pub copied_none : (programs : Programs) (wanted : Wanted) {R W : Type 0} {remaining : R → Option (List ℕ)} {contents : W → Option (List ℕ)} (from : Source R) (old : Sink W) (sieve : Sieve) → from.taken ≡ 0 → HasSifted programs wanted [] sieve []
    → Copied programs wanted remaining from from contents old old sieve
copied_none programs wanted from old sieve none has = record { input = []; kept = []; lost = gets-nothing from; has = has; going = refl; appended = writes-nothing old; count = none }

-- a read that gave nothing
pub copied_kept : (programs : Programs) (wanted : Wanted) {R W : Type 0} {remaining : R → Option (List ℕ)} {contents : W → Option (List ℕ)} (from at at' : Source R) (old new : Sink W) (sieve : Sieve) → Copied programs wanted remaining from at contents old new sieve → GetsNothing remaining at at' → at'.taken ≡ at.taken + 0
    → Copied programs wanted remaining from at' contents old new sieve
copied_kept programs wanted from at at' old new sieve so still count = record { input = so.input; kept = so.kept; lost = gets-kept from at at' so.input so.lost still; has = so.has; going = so.going; appended = so.appended; count = omega (arith, count, so.count) }

-- a read, of which this was kept
pub record Taken {R W : Type 0} (programs : Programs) (wanted : Wanted) (remaining : R → Option (List ℕ)) (from at : Source R) (contents : W → Option (List ℕ)) (old new : Sink W) (sieve : Sieve) (stop : Option CodeFault) : Type 0 where
  pub input : List ℕ
  pub kept : List Part
  pub lost : Gets remaining from at input
  pub has : HasSifted programs wanted input sieve kept
  pub met : stop ≡ stop_of kept
  pub appended : Writes contents old new (text_of kept)
  pub count : at.taken ≡ length input

more_text : (more : List Part) (before after : KeptBytes) → before.bytes.items ≡ [] → before.stop ≡ None → Appends more before after → (after.bytes.items ≡ text_of more) × (after.stop ≡ stop_of more)
more_text more before after none going pushed = (
  pushed.0 ∙ ap₂ (λ s t. text_after s more t) going none,
  pushed.1 ∙ ap (λ s. stop_after s more) going,
)

pub taken_next : (programs : Programs) (wanted : Wanted) {R W : Type 0} {remaining : R → Option (List ℕ)} {contents : W → Option (List ℕ)} (from at at' : Source R) (old new last : Sink W) (sieve sieve' : Sieve) (piece : List ℕ) (before after : KeptBytes) (count : ℕ)
    → Copied programs wanted remaining from at contents old new sieve → Gets remaining at at' piece → at'.taken ≡ at.taken + count → length piece ≡ count → at'.taken < 2 ^ 64 → before.bytes.items ≡ [] → before.stop ≡ None
    → Sifts (HasSifted programs wanted) piece sieve sieve' before after → Writes contents new last after.bytes.items
    → Taken programs wanted remaining from at' contents old last sieve' after.stop
taken_next programs wanted from at at' old new last sieve sieve' piece before after count so lost more long bound none going sifts wrote =
    let all = more_text sifts.more before after none going sifts.pushed in
    record {
      input = so.input ++ piece;
      kept = so.kept ++ sifts.more;
      lost = gets-then from at at' so.input piece so.lost lost;
      has = sifts.goes so.input so.kept so.has (omega (arith, more, long, so.count, bound, length-append so.input piece));
      met = all.1 ∙ sym (stop_append so.kept sifts.more so.going);
      appended = rw (text_append so.kept sifts.more so.going, sym all.0) (writes-then old new last (text_of so.kept) after.bytes.items so.appended wrote);
      count = omega (arith, more, long, so.count, length-append so.input piece);
    }

-- where it didn't stop, the copy goes on
pub copied_next : (programs : Programs) (wanted : Wanted) {R W : Type 0} {remaining : R → Option (List ℕ)} {contents : W → Option (List ℕ)} (from at : Source R) (old new : Sink W) (sieve : Sieve) (stop : Option CodeFault)
    → stop ≡ None → Taken programs wanted remaining from at contents old new sieve stop → Copied programs wanted remaining from at contents old new sieve
copied_next programs wanted from at old new sieve stop none so =
    record { input = so.input; kept = so.kept; lost = so.lost; has = so.has; going = sym so.met ∙ none; appended = so.appended; count = so.count }

-- and where it did, this is what is kept
pub stopped_at : (programs : Programs) (wanted : Wanted) {R W : Type 0} {remaining : R → Option (List ℕ)} {contents : W → Option (List ℕ)} (from at : Source R) (old new : Sink W) (sieve : Sieve) (stop : Option CodeFault) (fault : CodeFault)
    → stop ≡ Some fault → (so : Taken programs wanted remaining from at contents old new sieve stop) → EndsKept programs wanted so.input (Code fault) (text_of so.kept)
stopped_at programs wanted from at old new sieve stop fault is so =
    let met : stop_of so.kept ≡ Some fault = sym so.met ∙ is in
    (so.kept, refl, stopped_front programs wanted so.input so.kept fault met (sifted_front programs wanted so.input sieve.format sieve.front.items so.kept so.has), met)

-- what is left where a read failed
abbrev Left : {R W : Type 0} → Programs → Wanted → (R → Option (List ℕ)) → Source R → Source R → (W → Option (List ℕ)) → Sink W → Sink W → Type 0
Left programs wanted remaining from at contents old new = (input : List ℕ) × Gets remaining from at input × (text : List ℕ) × Writes contents old new text × KeepsFront programs wanted input text

pub left_kept : (programs : Programs) (wanted : Wanted) {R W : Type 0} {remaining : R → Option (List ℕ)} {contents : W → Option (List ℕ)} (from at at' : Source R) (old new : Sink W) (sieve : Sieve) → Copied programs wanted remaining from at contents old new sieve → GetsNothing remaining at at'
    → Left programs wanted remaining from at' contents old new
left_kept programs wanted from at at' old new sieve so still =
    (so.input, gets-kept from at at' so.input so.lost still, text_of so.kept, so.appended, written_front programs wanted so.input so.kept (sifted_front programs wanted so.input sieve.format sieve.front.items so.kept so.has))

-- where what was read wasn't taken
pub left_read : {T E : Type 0} (r : Result T E) (programs : Programs) (wanted : Wanted) {R W : Type 0} {remaining : R → Option (List ℕ)} {contents : W → Option (List ℕ)} (from at at' : Source R) (old new : Sink W) (sieve : Sieve) (piece : List ℕ)
    → Copied programs wanted remaining from at contents old new sieve → Gets remaining at at' piece
    → OnErr r (Left programs wanted remaining from at' contents old new)
left_read (Ok v) programs wanted from at at' old new sieve piece so lost = tt
left_read (Err e) programs wanted from at at' old new sieve piece so lost = (
  so.input ++ piece,
  gets-then from at at' so.input piece so.lost lost,
  text_of so.kept,
  so.appended,
  front_on programs wanted so.input piece (text_of so.kept) (written_front programs wanted so.input so.kept (sifted_front programs wanted so.input sieve.format sieve.front.items so.kept so.has)),
)

-- and where what was kept of it wasn't written
pub left_wrote : {T E : Type 0} (r : Result T E) (programs : Programs) (wanted : Wanted) {R W : Type 0} {remaining : R → Option (List ℕ)} {contents : W → Option (List ℕ)} (from at at' : Source R) (old new last : Sink W) (sieve sieve' : Sieve) (piece : List ℕ) (before after : KeptBytes)
    → Copied programs wanted remaining from at contents old new sieve → Gets remaining at at' piece → at'.taken ≡ at.taken + length piece → at'.taken < 2 ^ 64 → before.bytes.items ≡ [] → before.stop ≡ None → Sifts (HasSifted programs wanted) piece sieve sieve' before after
    → (front : List ℕ) × BeginsWith front after.bytes.items × Writes contents new last front
    → OnErr r (Left programs wanted remaining from at' contents old last)
left_wrote (Ok v) programs wanted from at at' old new last sieve sieve' piece before after so lost more bound none going sifts wrote = tt
left_wrote (Err e) programs wanted from at at' old new last sieve sieve' piece before after so lost more bound none going sifts wrote =
    let all = more_text sifts.more before after none going sifts.pushed in
    let kept = so.kept ++ sifts.more in
    let begins : BeginsWith (text_of so.kept ++ wrote.0) (text_of kept) =
    (wrote.1.0, text_append so.kept sifts.more so.going ∙ ap (λ t. text_of so.kept ++ t) (sym all.0 ∙ wrote.1.1) ∙ sym (append_assoc (text_of so.kept) wrote.0 wrote.1.0)) in (
      so.input ++ piece,
      gets-then from at at' so.input piece so.lost lost,
      text_of so.kept ++ wrote.0,
      writes-then old new last (text_of so.kept) wrote.0 so.appended wrote.2,
      front_of_front programs wanted (so.input ++ piece) (text_of so.kept ++ wrote.0) (text_of kept) begins
          (written_front programs wanted (so.input ++ piece) kept
          (sifted_front programs wanted (so.input ++ piece) sieve'.format sieve'.front.items kept (sifts.goes so.input so.kept so.has (omega (arith, more, so.count, bound, length-append so.input piece))))),
    )

-- all that is kept is all that is kept of a front
keeps_front : (programs : Programs) (wanted : Wanted) (input : List ℕ) (kept : List Part) (fault : Option ReadFault) → Keeps programs wanted input fault kept → OfFront programs wanted input kept
keeps_front programs wanted input kept fault (inl (told, wrong, is, keeps)) =
    blocks_front programs wanted input keeps.reads.rest kept keeps.blocks keeps.reads.place told keeps.reads.parts keeps.reads.follow keeps.each
keeps_front programs wanted input kept fault (inr (other, wrong, is, inr none)) = inl none.3
keeps_front programs wanted input kept fault (inr (other, wrong, is, inl (h, keeps))) =
    savefile_front programs wanted input keeps.capture.head keeps.capture.rest kept keeps.capture.records keeps.packets keeps.answers h other keeps.capture.parts keeps.capture.header keeps.capture.each keeps.decided keeps.is

ends_front : (programs : Programs) (wanted : Wanted) (input text : List ℕ) (ending : CopyEnd) → EndsKept programs wanted input ending text → KeepsFront programs wanted input text
ends_front programs wanted input text (Capture fault) (kept, is, keeps, going) = rw is (written_front programs wanted input kept (keeps_front programs wanted input kept fault keeps))
ends_front programs wanted input text (Code stop) (kept, is, front, met) = rw is (written_front programs wanted input kept (inr front))

-- A code

-- what is left where nothing was read
pub left_none : {T E : Type 0} (r : Result T E) (code : List ℕ) (accept : ℕ) (wanted : Wanted) {R W : Type 0} (remaining : R → Option (List ℕ)) (contents : W → Option (List ℕ)) (from : Source R) (to : Sink W)
    → OnErr r ((input : List ℕ) × Gets remaining from from input × (text : List ℕ) × Writes contents to to text × KeepsPart code accept wanted input text)
left_none (Ok v) code accept wanted remaining contents from to = tt
left_none (Err e) code accept wanted remaining contents from to = ([], gets-nothing from, [], writes-nothing to, inl refl)

-- and where its lines weren't made
pub left_of_code : {T E : Type 0} (r : Result T E) (code : List ℕ) (accept : ℕ) (programs : Programs) (wanted : Wanted) {R W : Type 0} {remaining : R → Option (List ℕ)} {contents : W → Option (List ℕ)} (from at : Source R) (old new : Sink W) (ending : CopyEnd) → IsFilter code accept programs
    → (input : List ℕ) × Gets remaining from at input × (text : List ℕ) × Writes contents old new text × EndsKept programs wanted input ending text × (IsAtEnd (remaining at.inner) ⊎ IsStopped ending)
    → OnErr r ((input : List ℕ) × Gets remaining from at input × (text : List ℕ) × Writes contents old new text × KeepsPart code accept wanted input text)
left_of_code (Ok v) code accept programs wanted from at old new ending good so = tt
left_of_code (Err e) code accept programs wanted from at old new ending good so = (so.0, so.1, so.2, so.3, inr (programs, good, ends_front programs wanted so.0 so.2 ending so.4))

some_status : (fault : Option ReadFault) (status : ℕ) (line : List ℕ) → IsSome fault → Says fault status line → status ≡ 1
some_status None status line some says = absurd (cc)
some_status (Some fault) status line some says = says.0

stopped_status : (code : List ℕ) (ending : CopyEnd) (status : ℕ) (lines : List ℕ) → IsStopped ending → SaysEnding code ending status lines → status ≡ 1
stopped_status code (Capture fault) status lines some says = some_status fault status lines some says
stopped_status code (Code stop) status lines some says = says.0

keeps_input : (code : List ℕ) (programs : Programs) (wanted : Wanted) (input text : List ℕ) (ending : CopyEnd) (status : ℕ) (lines : List ℕ) → EndsKept programs wanted input ending text → SaysEnding code ending status lines
    → KeepsInput code programs wanted input status lines text
keeps_input code programs wanted input text (Capture fault) status lines (kept, is, keeps, going) says = (kept, is, inl (fault, keeps, going, says))
keeps_input code programs wanted input text (Code stop) status lines (kept, is, front, met) says = (kept, is, inr (stop, front, met, says.0, says.1))

-- what is kept of a good code
pub kept_of_code : (code : List ℕ) (accept : ℕ) (programs : Programs) (wanted : Wanted) {R W : Type 0} {remaining : R → Option (List ℕ)} {contents : W → Option (List ℕ)} (from at : Source R) (old new : Sink W) (ending : CopyEnd) (status : ℕ) (before after : List ℕ) → IsFilter code accept programs
    → (input : List ℕ) × Gets remaining from at input × (text : List ℕ) × Writes contents old new text × EndsKept programs wanted input ending text × (IsAtEnd (remaining at.inner) ⊎ IsStopped ending)
    → (lines : List ℕ) × (after ≡ before ++ lines) × SaysEnding code ending status lines
    → (text : List ℕ) × Writes contents old new text × (lines : List ℕ) × (after ≡ before ++ lines)
    × (((line : List ℕ) × (words : List ℕ) × ShowsBadFilter code line words × (lines ≡ line ++ words) × (status ≡ 1) × (text ≡ []))
    ⊎ ((input : List ℕ) × Gets remaining from at input × KeepsGoodCode code accept wanted input status lines text × (IsAtEnd (remaining at.inner) ⊎ (status ≡ 1))))
kept_of_code code accept programs wanted from at old new ending status before after good so says = (
  so.2,
  so.3,
  says.0,
  says.1,
  inr (
    so.0,
    so.1,
    (programs, good, keeps_input code programs wanted so.0 so.2 ending status says.0 so.4 says.2),
    elim (so.5) [ inl end ↦ inl end | inr some ↦ inr (stopped_status code ending status says.0 some says.2) ],
  ),
)

-- a line and then words
pub two_pushed : (old mid new line words : List ℕ) → mid ≡ old ++ line → new ≡ mid ++ words → new ≡ old ++ (line ++ words)
two_pushed old mid new line words first second = second ∙ ap (λ t. t ++ words) first ∙ append_assoc old line words
