-- What a stream has printed of a capture.
use Rattle.std.proofs.Common.{◌≡◌, ℕ, ◌+◌, ◌*◌, ◌<◌, ◌≤◌, List, [], ◌∷◌, ◌++◌, length, inl, inr, All, Bool, true, false, Option, None, Some, Result, Ok, Err, MatchOption, arith, refl, ap, sym, ◌∙◌, append_assoc, length-append, IfOk}
use Rattle.std.specs.Prelude.{OnErr, OnOk}
use Rattle.std.specs.Io.KnownBytes.{IsAtEnd}
use Rattle.std.proofs.lemmas.List.{append-nil}
use Rattle.std.proofs.lemmas.List.Elements.{All-append}
use Rattle.capture_reader.specs.declared.entry.SeenEntry.{SeenEntry}
use Rattle.capture_reader.specs.declared.entry.Found.{Found}
use Rattle.capture_reader.specs.declared.fault.ReadFault.{ReadFault}
use Rattle.capture_reader.specs.declared.feed.CaptureFeed.{CaptureFeed}
use Rattle.capture_reader.specs.Holding.{Advances, HoldsAfter, held_fault}
use Rattle.capture_reader.specs.Entries.{EntryBytes}
use Rattle.capture_reader.specs.Steps.{seen_item}
use Rattle.capture_reader.proofs.LawLemmas.{given_first, has_reading}
use Rattle.engine_io.specs.declared.source.Source.{Source}
use Rattle.engine_io.specs.declared.sink.Sink.{Sink}
use Rattle.engine_io.specs.Devices.{Gets, GetsNothing, Writes}
use Rattle.engine_io.specs.Reading.{BeginsWith}
use Rattle.engine_io.proofs.KnownBytesLemmas.{gets-end, gets-kept, gets-nothing, gets-then, writes-nothing, writes-then}
use Rattle.console.specs.declared.dumping.Place.{Place}
use Rattle.console.specs.Choosing.{chosen, is_chosen}
use Rattle.console.specs.Dumping.{dump_text, entry_line, entry_lines, interfaces_after, packets_after}
use Rattle.console.specs.DumpStream.{LeavesDump, LinesTo, PrintsOn, PrintsSeen, ShowsEntries}
use Rattle.console.specs.Faults.{fault_status, fault_text}
use Rattle.console.specs.Reading.{EndsAs}
use Rattle.console.specs.Running.{item_entries}
use Rattle.console.proofs.RunningLemmas.{IsFound, adds_item}

-- the line for an entry that is shown, or none
pub seen_shown : (link : Option ℕ) (stamped : Bool) (item : SeenEntry) (old new : Place) (before after : List ℕ) → is_chosen link item.entry ≡ true → after ≡ before ++ entry_line stamped old.packets old.interfaces item.entry item.bytes.now
    → new.packets ≡ packets_after old.packets item.entry → new.interfaces ≡ interfaces_after old.interfaces item.entry → PrintsSeen link stamped (Some item) old new before after
seen_shown link stamped item old new before after is printed packets interfaces = record {
  shown = entry_line stamped old.packets old.interfaces item.entry item.bytes.now;
  printed = printed;
  rest = λ more. rw (is, packets, interfaces) refl;
}

pub seen_left_out : (link : Option ℕ) (stamped : Bool) (item : SeenEntry) (place : Place) (before : List ℕ) → is_chosen link item.entry ≡ false → PrintsSeen link stamped (Some item) place place before before
seen_left_out link stamped item place before is = record { shown = []; printed = sym (append-nil before); rest = λ more. rw is refl }

pub seen_none : (link : Option ℕ) (stamped : Bool) (place : Place) (before : List ℕ) → PrintsSeen link stamped None place place before before
seen_none link stamped place before = record { shown = []; printed = sym (append-nil before); rest = λ more. refl }

-- nothing was taken
pub print_none : (link : Option ℕ) (stamped : Bool) (bytes : List ℕ) (feed : CaptureFeed) (place : Place) (text : List ℕ) → PrintsOn link stamped bytes bytes feed feed place place text text
print_none link stamped bytes feed place text = record {
  front = [];
  entries = [];
  shown = [];
  parts = refl;
  printed = sym (append-nil text);
  adds = λ given fed holds short. rw (append-nil given, append-nil fed) holds;
  shows = λ more. refl;
}

-- one front and then another
pub print_then : (link : Option ℕ) (stamped : Bool) (bytes mid rest : List ℕ) (old then new : CaptureFeed) (place place' place'' : Place) (before between after : List ℕ) → PrintsOn link stamped bytes mid old then place place' before between
    → PrintsOn link stamped mid rest then new place' place'' between after → PrintsOn link stamped bytes rest old new place place'' before after
print_then link stamped bytes mid rest old then new place place' place'' before between after first next = record {
  front = first.front ++ next.front;
  entries = first.entries ++ next.entries;
  shown = first.shown ++ next.shown;
  parts = first.parts ∙ ap (λ t. first.front ++ t) next.parts ∙ sym (append_assoc first.front next.front rest);
  printed = next.printed ∙ ap (λ t. t ++ next.shown) first.printed ∙ append_assoc before first.shown next.shown;
  adds = λ given fed holds short.
      let all : (fed ++ first.front) ++ next.front ≡ fed ++ (first.front ++ next.front) = append_assoc fed first.front next.front in
      let one = first.adds given fed holds (omega (arith, ap length all, length-append (fed ++ first.front) next.front, short)) in
      let two = next.adds (given ++ first.entries) (fed ++ first.front) one (omega (arith, ap length all, short)) in
      rw (append_assoc given first.entries next.entries, append_assoc fed first.front next.front) at two;
  shows = λ more.
      ap (λ e. entry_lines stamped place.packets place.interfaces (chosen link e)) (append_assoc first.entries next.entries more)
      ∙ (first.shows (next.entries ++ more) ∙ (ap (λ t. first.shown ++ t) (next.shows more) ∙ sym (append_assoc first.shown next.shown (entry_lines stamped place''.packets place''.interfaces (chosen link more)))));
}

-- an entry that was seen in place, or is held, or none
pub print_item : (link : Option ℕ) (stamped : Bool) (bytes rest : List ℕ) (old new : CaptureFeed) (found : Found) (item : Option SeenEntry) (place place' : Place) (before after : List ℕ) → Advances bytes rest old new (Ok found) → IsFound new found item
    → PrintsSeen link stamped item place place' before after → PrintsOn link stamped bytes rest old new place place' before after
print_item link stamped bytes rest old new found item place place' before after takes is seen = record {
  front = takes.front;
  entries = item_entries item;
  shown = seen.shown;
  parts = takes.parts;
  printed = seen.printed;
  adds = λ given fed holds short. adds_item given (fed ++ takes.front) new found item is (takes.adds given fed holds short);
  shows = seen.rest;
}

-- a capture with a fault
pub print_stopped : (link : Option ℕ) (stamped : Bool) (bytes rest : List ℕ) (old new : CaptureFeed) (place : Place) (text : List ℕ) (fault : ReadFault) → held_fault new ≡ Some fault → Advances bytes rest old new (Err fault)
    → PrintsOn link stamped bytes [] old new place place text text
print_stopped link stamped bytes rest old new place text fault says advances = record {
  front = bytes;
  entries = [];
  shown = [];
  parts = sym (append-nil bytes);
  printed = sym (append-nil text);
  adds = λ given fed holds short. rw (append-nil given) (rw says (advances given fed holds short));
  shows = λ more. refl;
}

pub prints_ok : {E : Type 0} (r : Result (Unit {0}) E) (P Q : Type 0) → (P → Q) → OnOk r P → OnOk r Q
prints_ok (Ok done) P Q f p = f p
prints_ok (Err e) P Q f p = tt

-- a source got bytes, and the lines of their entries were written
pub record Dumped {R W : Type 0} (link : Option ℕ) (stamped : Bool) (remaining : R → Option (List ℕ)) (from at : Source R) (contents : W → Option (List ℕ)) (old new : Sink W) (feed : CaptureFeed) (place : Place) (turns : ℕ) : Type 0 where
  pub input : List ℕ
  pub given : List EntryBytes
  pub text : List ℕ
  pub lost : Gets remaining from at input
  pub small : All (λ b. b < 256) input
  pub holds : HoldsAfter feed given input
  pub appended : Writes contents old new text
  pub lines : (more : List EntryBytes) → entry_lines stamped 0 0 (chosen link (given ++ more)) ≡ text ++ entry_lines stamped place.packets place.interfaces (chosen link more)
  pub short : length input ≤ 65536 * turns

no_bytes : All (λ b. b < 256) []
no_bytes = λ k d within. absurd (omega arith)

pub dumped_none : (link : Option ℕ) (stamped : Bool) {R W : Type 0} {remaining : R → Option (List ℕ)} {contents : W → Option (List ℕ)} (source : Source R) (sink : Sink W) (feed : CaptureFeed) (place : Place) → HoldsAfter feed [] [] → place.packets ≡ 0 → place.interfaces ≡ 0
    → Dumped link stamped remaining source source contents sink sink feed place 0
dumped_none link stamped source sink feed place holds packets interfaces = record {
  input = [];
  given = [];
  text = [];
  lost = gets-nothing source;
  small = no_bytes;
  holds = holds;
  appended = writes-nothing sink;
  lines = λ more. rw (packets, interfaces) refl;
  short = omega arith;
}

-- what was written so far is a front of what is shown of the bytes and more
dumped_front : (link : Option ℕ) (stamped : Bool) (given : List EntryBytes) (fed rest text : List ℕ) (feed : CaptureFeed) (place : Place) → All (λ b. b < 256) fed → All (λ b. b < 256) rest → HoldsAfter feed given fed
    → ((more : List EntryBytes) → entry_lines stamped 0 0 (chosen link (given ++ more)) ≡ text ++ entry_lines stamped place.packets place.interfaces (chosen link more)) → LeavesDump link stamped (fed ++ rest) text
dumped_front link stamped given fed rest text feed place small others holds lines =
    let reading = has_reading (fed ++ rest) in
    let first = given_first given reading.0 fed rest feed reading.1 (All-append (λ b. b < 256) fed rest small others) holds reading.2 in
    let left : List ℕ = entry_lines stamped place.packets place.interfaces (chosen link first.0) in
    let whole : dump_text link stamped reading.0 reading.1 ≡ text ++ (left ++ fault_text reading.1) =
    ap (λ e. entry_lines stamped 0 0 (chosen link e) ++ fault_text reading.1) first.1 ∙ (ap (λ l. l ++ fault_text reading.1) (lines first.0) ∙ append_assoc text left (fault_text reading.1)) in
    (fault_status reading.1, dump_text link stamped reading.0 reading.1, (reading.0, reading.1, reading.2, refl, refl), (left ++ fault_text reading.1, whole))

-- where a read failed, or memory was refused
pub left_kept : (link : Option ℕ) (stamped : Bool) {R W : Type 0} {remaining : R → Option (List ℕ)} {contents : W → Option (List ℕ)} (from at at' : Source R) (old new : Sink W) (feed : CaptureFeed) (place : Place) (turns : ℕ)
    → Dumped link stamped remaining from at contents old new feed place turns → GetsNothing remaining at at'
    → (input : List ℕ) × Gets remaining from at' input × ((text : List ℕ) × Writes contents old new text × LeavesDump link stamped input text)
left_kept link stamped from at at' old new feed place turns so kept =
    let leaves = dumped_front link stamped so.given so.input [] so.text feed place so.small no_bytes so.holds so.lines in
    (so.input, gets-kept from at at' so.input so.lost kept, (so.text, so.appended, rw (append-nil so.input) at leaves))

pub left_read : (link : Option ℕ) (stamped : Bool) {R W : Type 0} {remaining : R → Option (List ℕ)} {contents : W → Option (List ℕ)} (from at at' : Source R) (old new : Sink W) (feed : CaptureFeed) (place : Place) (turns : ℕ) (piece : List ℕ)
    → Dumped link stamped remaining from at contents old new feed place turns → Gets remaining at at' piece → All (λ b. b < 256) piece
    → (input : List ℕ) × Gets remaining from at' input × ((text : List ℕ) × Writes contents old new text × LeavesDump link stamped input text)
left_read link stamped from at at' old new feed place turns piece so lost small =
    (so.input ++ piece, gets-then from at at' so.input piece so.lost lost, (so.text, so.appended, dumped_front link stamped so.given so.input piece so.text feed place so.small small so.holds so.lines))

-- what was read was printed, and a front of that or all of it written
pub dumped_more : (link : Option ℕ) (stamped : Bool) {R W : Type 0} {remaining : R → Option (List ℕ)} {contents : W → Option (List ℕ)} (from at at' : Source R) (old mid new : Sink W) (feed feed' : CaptureFeed) (place place' : Place) (turns : ℕ) (piece text : List ℕ)
    → Dumped link stamped remaining from at contents old mid feed place turns → Gets remaining at at' piece → All (λ b. b < 256) piece → length piece ≤ 65536 → turns < 281474976710655
    → PrintsOn link stamped piece [] feed feed' place place' [] text → Writes contents mid new text → Dumped link stamped remaining from at' contents old new feed' place' (turns + 1)
dumped_more link stamped from at at' old mid new feed feed' place place' turns piece text so lost small few limit prints wrote =
    let all : piece ≡ prints.front = prints.parts ∙ append-nil prints.front in
    record {
      input = so.input ++ piece;
      given = so.given ++ prints.entries;
      text = so.text ++ text;
      lost = gets-then from at at' so.input piece so.lost lost;
      small = All-append (λ b. b < 256) so.input piece so.small small;
      holds = rw all (prints.adds so.given so.input so.holds (omega (arith, length-append so.input prints.front, ap length all, so.short, few, limit)));
      appended = writes-then old mid new so.text text so.appended wrote;
      lines = λ more.
          ap (λ e. entry_lines stamped 0 0 (chosen link e)) (append_assoc so.given prints.entries more)
          ∙ (so.lines (prints.entries ++ more) ∙ (ap (λ t. so.text ++ t) (prints.shows more)
          ∙ (ap (λ t. so.text ++ (t ++ entry_lines stamped place'.packets place'.interfaces (chosen link more))) (sym prints.printed)
          ∙ sym (append_assoc so.text text (entry_lines stamped place'.packets place'.interfaces (chosen link more))))));
      short = omega (arith, length-append so.input piece, so.short, few);
    }

pub dumped_kept : (link : Option ℕ) (stamped : Bool) {R W : Type 0} {remaining : R → Option (List ℕ)} {contents : W → Option (List ℕ)} (from at at' : Source R) (old new : Sink W) (feed : CaptureFeed) (place : Place) (turns : ℕ)
    → Dumped link stamped remaining from at contents old new feed place turns → GetsNothing remaining at at' → Dumped link stamped remaining from at' contents old new feed place (turns + 1)
dumped_kept link stamped from at at' old new feed place turns so kept = record {
  input = so.input;
  given = so.given;
  text = so.text;
  lost = gets-kept from at at' so.input so.lost kept;
  small = so.small;
  holds = so.holds;
  appended = so.appended;
  lines = so.lines;
  short = omega (arith, so.short);
}

-- a front of what was written so far
leaves_front : (link : Option ℕ) (stamped : Bool) (input text front : List ℕ) → LeavesDump link stamped input text → BeginsWith front text → LeavesDump link stamped input front
leaves_front link stamped input text front leaves begins =
    (leaves.0, leaves.1, leaves.2, (begins.0 ++ leaves.3.0, leaves.3.1 ∙ (ap (λ t. t ++ leaves.3.0) begins.1 ∙ append_assoc front begins.0 leaves.3.0)))

begins_after : (text front whole : List ℕ) → BeginsWith front whole → BeginsWith (text ++ front) (text ++ whole)
begins_after text front whole begins = (begins.0, ap (λ t. text ++ t) begins.1 ∙ sym (append_assoc text front begins.0))

-- what was read was printed, and a front of that was written
pub left_wrote : (link : Option ℕ) (stamped : Bool) {R W : Type 0} {remaining : R → Option (List ℕ)} {contents : W → Option (List ℕ)} (from at at' : Source R) (old mid new : Sink W) (feed feed' : CaptureFeed) (place place' : Place) (turns : ℕ) (piece text front : List ℕ)
    → Dumped link stamped remaining from at contents old mid feed place turns → Gets remaining at at' piece → All (λ b. b < 256) piece → length piece ≤ 65536 → turns < 281474976710655
    → PrintsOn link stamped piece [] feed feed' place place' [] text → BeginsWith front text → Writes contents mid new front
    → (input : List ℕ) × Gets remaining from at' input × ((shown : List ℕ) × Writes contents old new shown × LeavesDump link stamped input shown)
left_wrote link stamped from at at' old mid new feed feed' place place' turns piece text front so lost small few limit prints begins wrote =
    let all : piece ≡ prints.front = prints.parts ∙ append-nil prints.front in
    let holds : HoldsAfter feed' (so.given ++ prints.entries) (so.input ++ piece) =
    rw all (prints.adds so.given so.input so.holds (omega (arith, length-append so.input prints.front, ap length all, so.short, few, limit))) in
    let leaves = dumped_front link stamped (so.given ++ prints.entries) (so.input ++ piece) [] (so.text ++ text) feed' place' (All-append (λ b. b < 256) so.input piece so.small small) no_bytes holds
    (λ more.
    ap (λ e. entry_lines stamped 0 0 (chosen link e)) (append_assoc so.given prints.entries more)
    ∙ (so.lines (prints.entries ++ more) ∙ (ap (λ t. so.text ++ t) (prints.shows more)
    ∙ (ap (λ t. so.text ++ (t ++ entry_lines stamped place'.packets place'.interfaces (chosen link more))) (sym prints.printed)
    ∙ sym (append_assoc so.text text (entry_lines stamped place'.packets place'.interfaces (chosen link more))))))) in
    let short : LeavesDump link stamped (so.input ++ piece) (so.text ++ text) = rw (append-nil (so.input ++ piece)) at leaves in (
      so.input ++ piece,
      gets-then from at at' so.input piece so.lost lost,
      (so.text ++ front, writes-then old mid new so.text front so.appended wrote, leaves_front link stamped (so.input ++ piece) (so.text ++ text) (so.text ++ front) short (begins_after so.text front text begins)),
    )

-- the whole input was read
whole_text : (link : Option ℕ) (stamped : Bool) (given : List EntryBytes) (text : List ℕ) (place : Place) (fault : Option ReadFault)
    → ((more : List EntryBytes) → entry_lines stamped 0 0 (chosen link (given ++ more)) ≡ text ++ entry_lines stamped place.packets place.interfaces (chosen link more)) → dump_text link stamped given fault ≡ text ++ fault_text fault
whole_text link stamped given text place fault lines =
    let all : entry_lines stamped 0 0 (chosen link given) ≡ text = ap (λ e. entry_lines stamped 0 0 (chosen link e)) (sym (append-nil given)) ∙ (lines [] ∙ append-nil text) in
    ap (λ t. t ++ fault_text fault) all

pub end_shown : {E : Type 0} (r : Result ℕ E) (link : Option ℕ) (stamped : Bool) {R W : Type 0} {remaining : R → Option (List ℕ)} {contents : W → Option (List ℕ)} (from at at' : Source R) (old mid new : Sink W) (feed : CaptureFeed) (place : Place) (turns : ℕ) (fault : Option ReadFault)
    → Dumped link stamped remaining from at contents old mid feed place turns → Gets remaining at at' [] → IsAtEnd (remaining at'.inner) → EndsAs feed fault → IfOk r (λ status. (status ≡ fault_status fault) × Writes contents mid new ([] ++ fault_text fault))
    → IfOk r (λ status. (input : List ℕ) × Gets remaining from at' input × IsAtEnd (remaining at'.inner) × ((text : List ℕ) × Writes contents old new text × ShowsEntries link stamped input status text))
end_shown (Ok status) link stamped from at at' old mid new feed place turns fault so lost end ends wrote = (
  so.input,
  gets-end from at at' so.input so.lost lost,
  end,
  (
    so.text ++ fault_text fault,
    writes-then old mid new so.text (fault_text fault) so.appended wrote.1,
    (so.given, fault, ends so.given so.input so.holds, sym (whole_text link stamped so.given so.text place fault so.lines), wrote.0),
  ),
)
end_shown (Err e) link stamped from at at' old mid new feed place turns fault so lost end ends wrote = tt

pub end_left : {T E : Type 0} (r : Result T E) (link : Option ℕ) (stamped : Bool) {R W : Type 0} {remaining : R → Option (List ℕ)} {contents : W → Option (List ℕ)} (from at at' : Source R) (old mid new : Sink W) (feed : CaptureFeed) (place : Place) (turns : ℕ) (fault : Option ReadFault)
    → Dumped link stamped remaining from at contents old mid feed place turns → Gets remaining at at' [] → EndsAs feed fault → OnErr r ((front : List ℕ) × BeginsWith front ([] ++ fault_text fault) × Writes contents mid new front)
    → OnErr r ((input : List ℕ) × Gets remaining from at' input × ((text : List ℕ) × Writes contents old new text × LeavesDump link stamped input text))
end_left (Ok v) link stamped from at at' old mid new feed place turns fault so lost ends wrote = tt
end_left (Err e) link stamped from at at' old mid new feed place turns fault so lost ends wrote =
    let whole = whole_text link stamped so.given so.text place fault so.lines in
    let begins = begins_after so.text wrote.0 (fault_text fault) wrote.1 in (
      so.input,
      gets-end from at at' so.input so.lost lost,
      (
        so.text ++ wrote.0,
        writes-then old mid new so.text wrote.0 so.appended wrote.2,
        (fault_status fault, dump_text link stamped so.given fault, (so.given, fault, ends so.given so.input so.holds, refl, refl), (begins.0, whole ∙ begins.1)),
      ),
    )
