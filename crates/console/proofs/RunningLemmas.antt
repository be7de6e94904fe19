-- How packets are run while a capture is read.
use Rattle.std.proofs.Common.{◌≡◌, ℕ, ◌+◌, ◌<◌, List, [], ◌∷◌, ◌++◌, length, drop, take, All, Bool, true, false, if◌then◌else◌, Option, None, Some, Result, Ok, Err, arith, refl, ap, subst, sym, ◌∙◌, append_assoc, length-append}
use Rattle.std.specs.Prelude.{◌≢◌, IfOk, IsSome, OnOk}
use Rattle.std.specs.Bool.{MatchBool}
use Rattle.std.specs.List.{AllZip}
use Rattle.std.proofs.lemmas.List.{append-nil}
use Rattle.std.proofs.lemmas.List.Elements.{All-append, All-drop, All-take}
use Rattle.std.proofs.Math.Seq.{drop-append_seam, take-append_seam}
use Rattle.console.specs.Programs.{Programs}
use Rattle.filter_vm.specs.declared.machine.Outcome.{Outcome}
use Rattle.capture_reader.specs.declared.entry.PacketTime.{PacketTime}
use Rattle.capture_reader.specs.declared.entry.SeenEntry.{SeenEntry}
use Rattle.capture_reader.specs.declared.entry.Found.{Found}
use Rattle.capture_reader.specs.declared.entry.Found.TheVariants.{SeenEntry as Seen, Held, Nothing}
use Rattle.capture_reader.specs.declared.fault.ReadFault.{ReadFault}
use Rattle.capture_reader.specs.declared.feed.CaptureFeed.{CaptureFeed}
use Rattle.capture_reader.specs.Entries.{EntryBytes}
use Rattle.capture_reader.specs.Steps.{Adds, seen_item}
use Rattle.capture_reader.specs.Holding.{Advances, HoldsAfter, held_entry, held_fault}
use Rattle.console.specs.declared.capture_run.CaptureRun.{CaptureRun}
use Rattle.console.specs.Choosing.{chosen, entry_times, is_chosen, times_in}
use Rattle.engine_io.specs.declared.source.Source.{Source}
use Rattle.engine_io.specs.Devices.{Gets, GetsNothing}
use Rattle.console.specs.declared.filter.CodeFault.{CodeFault}
use Rattle.console.specs.Refusing.{AnswersLinked, linked_in, refused_in, served}
use Rattle.console.proofs.RefusingLemmas.{added_parts, linked_in-append, passed_parts}
use Rattle.console.specs.Running.{HasRun, PassesOn, RunsItem, RunsOn, RunsTo, item_entries, times_shown}
use Rattle.console.specs.Linking.{AreLinkTypes, links_in}
use Rattle.console.proofs.LinkLemmas.{links_in-append}
use Rattle.engine_io.proofs.KnownBytesLemmas.{gets-kept, gets-then}

-- nothing was taken
pub runs_none : {S : Type 0} (Ran : List ℕ → S → List Outcome → Type 0) (bytes : List ℕ) (feed : S) (before : List Outcome) → RunsTo Ran Ran bytes bytes feed feed before before
runs_none Ran bytes feed before = record {
  front = [];
  parts = refl;
  more = [];
  pushed = sym (append-nil before);
  runs = λ fed outcomes has short. rw (append-nil fed, append-nil outcomes) has;
}

-- one front and then another
pub runs_then : {S : Type 0} (From Mid To : List ℕ → S → List Outcome → Type 0) (bytes mid rest : List ℕ) (old amid new : S) (before between after : List Outcome)
    → RunsTo From Mid bytes mid old amid before between → RunsTo Mid To mid rest amid new between after → RunsTo From To bytes rest old new before after
runs_then From Mid To bytes mid rest old amid new before between after first next = record {
  front = first.front ++ next.front;
  parts = first.parts ∙ ap (λ t. first.front ++ t) next.parts ∙ sym (append_assoc first.front next.front rest);
  more = first.more ++ next.more;
  pushed = next.pushed ∙ ap (λ t. t ++ next.more) first.pushed ∙ append_assoc before first.more next.more;
  runs = λ fed outcomes has short.
      let all : (fed ++ first.front) ++ next.front ≡ fed ++ (first.front ++ next.front) = append_assoc fed first.front next.front in
      let one = first.runs fed outcomes has (omega (arith, ap length all, length-append (fed ++ first.front) next.front, short)) in
      let two = next.runs (fed ++ first.front) (outcomes ++ first.more) one (omega (arith, ap length all, short)) in
      rw (sym all, sym (append_assoc outcomes first.more next.more)) two;
}

pub AllZip-append : {A B : Type 0} (R : A → B → Type 0) (xs xs' : List A) (ys ys' : List B) → AllZip R xs ys → AllZip R xs' ys' → AllZip R (xs ++ xs') (ys ++ ys')
AllZip-append R [] xs' [] ys' first next = next
AllZip-append R [] xs' (b ∷ ys) ys' first next = absurd first
AllZip-append R (a ∷ xs) xs' [] ys' first next = absurd first
AllZip-append R (a ∷ xs) xs' (b ∷ ys) ys' first next = (first.0, AllZip-append R xs xs' ys ys' first.1 next)

-- Packets of a capture

-- the entry that was found
abbrev pub IsFound : CaptureFeed → Found → Option SeenEntry → Type 0
IsFound feed (Seen item) found = found ≡ Some item
IsFound feed Held None = held_entry feed ≡ None
IsFound feed Held (Some item) = held_entry feed ≡ Some (seen_item item)
IsFound feed Nothing found = found ≡ None

pub adds_item : (given : List EntryBytes) (fed : List ℕ) (feed : CaptureFeed) (found : Found) (item : Option SeenEntry) → IsFound feed found item → Adds (HoldsAfter feed) (held_entry feed) given fed found → HoldsAfter feed (given ++ item_entries item) fed
adds_item given fed feed (Seen i) item is adds = rw is adds
adds_item given fed feed Nothing item is adds = rw (is, append-nil given) adds
adds_item given fed feed Held None is adds = absurd (never is adds.1)
  where
    never : held_entry feed ≡ None → held_entry feed ≡ Some adds.0 → ⊥
    never none some = cc
adds_item given fed feed Held (Some i) is adds = let same : adds.0 ≡ seen_item i = one adds.0 (seen_item i) (sym adds.1 ∙ is) in rw same at adds.2
  where
    one : (x y : EntryBytes) → Some x ≡ Some y → x ≡ y
    one x y e = cc

-- nothing was taken
pub run_none : (programs : Programs) (bytes : List ℕ) (run : CaptureRun) (before : List Outcome) (since : List PacketTime) → RunsOn programs bytes bytes run run before before since since
run_none programs bytes run before since = record {
  front = [];
  parts = refl;
  more = [];
  times = [];
  pushed = sym (append-nil before);
  pushed_times = sym (append-nil since);
  runs = λ fed outcomes stamps has small short. rw (append-nil fed, append-nil outcomes, append-nil stamps) has;
}

small_rest : (bytes front rest : List ℕ) → All (λ b. b < 256) bytes → bytes ≡ front ++ rest → All (λ b. b < 256) rest
small_rest bytes front rest small parts =
    let e : drop (length front) bytes ≡ rest = ap (drop (length front)) parts ∙ drop-append_seam front rest in rw e at (All-drop (λ b. b < 256) (length front) bytes small)

-- one front and then another
pub run_then : (programs : Programs) (bytes mid rest : List ℕ) (old other new : CaptureRun) (before between after : List Outcome) (since amid upto : List PacketTime)
    → RunsOn programs bytes mid old other before between since amid → RunsOn programs mid rest other new between after amid upto → RunsOn programs bytes rest old new before after since upto
run_then programs bytes mid rest old other new before between after since amid upto first next = record {
  front = first.front ++ next.front;
  parts = first.parts ∙ ap (λ t. first.front ++ t) next.parts ∙ sym (append_assoc first.front next.front rest);
  more = first.more ++ next.more;
  times = first.times ++ next.times;
  pushed = next.pushed ∙ ap (λ t. t ++ next.more) first.pushed ∙ append_assoc before first.more next.more;
  pushed_times = next.pushed_times ∙ ap (λ t. t ++ next.times) first.pushed_times ∙ append_assoc since first.times next.times;
  runs = λ fed outcomes stamps has small short.
      let all : (fed ++ first.front) ++ next.front ≡ fed ++ (first.front ++ next.front) = append_assoc fed first.front next.front in
      let one = first.runs fed outcomes stamps has small (omega (arith, ap length all, length-append (fed ++ first.front) next.front, short)) in
      let two = next.runs (fed ++ first.front) (outcomes ++ first.more) (stamps ++ first.times) one (small_rest bytes first.front mid small first.parts) (omega (arith, ap length all, short)) in
      rw (sym all, sym (append_assoc outcomes first.more next.more), sym (append_assoc stamps first.times next.times)) two;
}

pub chosen-append : (one : Option ℕ) (entries more : List EntryBytes) → chosen one (entries ++ more) ≡ chosen one entries ++ chosen one more
chosen-append one [] more = refl
chosen-append one (e ∷ entries) more = ap (λ t. (if is_chosen one e.0 then e ∷ [] else []) ++ t) (chosen-append one entries more) ∙ sym (append_assoc (if is_chosen one e.0 then e ∷ [] else []) (chosen one entries) (chosen one more))

pub times_in-append : (entries more : List EntryBytes) → times_in (entries ++ more) ≡ times_in entries ++ times_in more
times_in-append [] more = refl
times_in-append (e ∷ entries) more = ap (λ t. entry_times e.0 ++ t) (times_in-append entries more) ∙ sym (append_assoc (entry_times e.0) (times_in entries) (times_in more))

times_shown-append : (stamped : Bool) (entries more : List EntryBytes) → times_shown stamped (entries ++ more) ≡ times_shown stamped entries ++ times_shown stamped more
times_shown-append true entries more = times_in-append entries more
times_shown-append false entries more = refl

small_front : (bytes front rest : List ℕ) → All (λ b. b < 256) bytes → bytes ≡ front ++ rest → All (λ b. b < 256) front
small_front bytes front rest small parts =
    let e : take (length front) bytes ≡ front = ap (take (length front)) parts ∙ take-append_seam front rest in rw e at (All-take (λ b. b < 256) (length front) bytes small)

-- the link types of the interfaces, once these entries were added
abbrev pub AddsLinks : List EntryBytes → CaptureRun → CaptureRun → Type 0
AddsLinks added old new = (links : List ℕ) → AreLinkTypes links old.links → AreLinkTypes (links ++ links_in added) new.links

pub no_links : (old new : CaptureRun) → new.links ≡ old.links → AddsLinks [] old new
no_links old new same = λ links are. rw (append-nil links, same) are

-- the packet of an entry that was added, where none was refused before
runs_added : (programs : Programs) (fed front : List ℕ) (old new : CaptureRun) (outcomes more : List Outcome) (stamps times : List PacketTime) (entries added : List EntryBytes)
    → (has : HasRun programs fed old outcomes stamps) → has.entries ≡ entries → new.link ≡ old.link → new.stamped ≡ old.stamped
    → old.refused ≡ None → new.refused ≡ refused_in programs (chosen old.link added) → All (λ b. b < 256) front → HoldsAfter new.feed (entries ++ added) (fed ++ front)
    → AllZip (AnswersLinked programs) (linked_in (served programs (chosen old.link added))) more → times ≡ times_shown old.stamped (served programs (chosen old.link added)) → AddsLinks added old new
    → HasRun programs (fed ++ front) new (outcomes ++ more) (stamps ++ times)
runs_added programs fed front old new outcomes more stamps times entries added has is link stamped none stop small holds ran seen linked =
    let parts = added_parts programs (chosen old.link entries) (chosen old.link added) (chosen new.link (entries ++ added)) (ap (λ l. chosen l (entries ++ added)) link ∙ chosen-append old.link entries added)
    (ap (λ e. refused_in programs (chosen old.link e)) (sym is) ∙ sym has.refused ∙ none) in
    record {
      entries = entries ++ added;
      holds = holds;
      small = All-append (λ b. b < 256) fed front has.small small;
      ran = rw (parts.0, linked_in-append (served programs (chosen old.link entries)) (served programs (chosen old.link added)))
          (AllZip-append (AnswersLinked programs) (linked_in (served programs (chosen old.link entries))) (linked_in (served programs (chosen old.link added))) outcomes more (rw is at has.ran) ran);
      refused = stop ∙ sym parts.1;
      times = rw (stamped, parts.0, times_shown-append old.stamped (served programs (chosen old.link entries)) (served programs (chosen old.link added)))
          (ap (λ t. t ++ times) (has.times ∙ ap (λ e. times_shown old.stamped (served programs (chosen old.link e))) is) ∙ ap (λ t. times_shown old.stamped (served programs (chosen old.link entries)) ++ t) seen);
      links = rw (links_in-append entries added) (linked (links_in entries) (rw is at has.links));
    }

-- and where one was
runs_passed : (programs : Programs) (fed front : List ℕ) (old new : CaptureRun) (outcomes : List Outcome) (stamps : List PacketTime) (entries added : List EntryBytes)
    → (has : HasRun programs fed old outcomes stamps) → has.entries ≡ entries → new.link ≡ old.link → new.stamped ≡ old.stamped
    → IsSome old.refused → new.refused ≡ old.refused → All (λ b. b < 256) front → HoldsAfter new.feed (entries ++ added) (fed ++ front) → AddsLinks added old new
    → HasRun programs (fed ++ front) new outcomes stamps
runs_passed programs fed front old new outcomes stamps entries added has is link stamped some same small holds linked =
    let parts = passed_parts programs (chosen old.link entries) (chosen old.link added) (chosen new.link (entries ++ added)) old.refused (ap (λ l. chosen l (entries ++ added)) link ∙ chosen-append old.link entries added) some
    (has.refused ∙ ap (λ e. refused_in programs (chosen old.link e)) is) in
    record {
      entries = entries ++ added;
      holds = holds;
      small = All-append (λ b. b < 256) fed front has.small small;
      ran = rw parts.0 (rw is at has.ran);
      refused = same ∙ sym parts.1;
      times = rw (stamped, parts.0) (has.times ∙ ap (λ e. times_shown old.stamped (served programs (chosen old.link e))) is);
      links = rw (links_in-append entries added) (linked (links_in entries) (rw is at has.links));
    }

-- no entry was added
runs_same : (programs : Programs) (fed front : List ℕ) (old new : CaptureRun) (outcomes : List Outcome) (stamps : List PacketTime) (entries : List EntryBytes)
    → (has : HasRun programs fed old outcomes stamps) → has.entries ≡ entries → new.link ≡ old.link → new.stamped ≡ old.stamped → new.refused ≡ old.refused → new.links ≡ old.links
    → All (λ b. b < 256) front → HoldsAfter new.feed entries (fed ++ front) → HasRun programs (fed ++ front) new outcomes stamps
runs_same programs fed front old new outcomes stamps entries has is link stamped refused links small holds = record {
  entries = entries;
  holds = holds;
  small = All-append (λ b. b < 256) fed front has.small small;
  ran = rw link (rw is at has.ran);
  refused = refused ∙ has.refused ∙ ap (λ e. refused_in programs (chosen old.link e)) is ∙ ap (λ l. refused_in programs (chosen l entries)) (sym link);
  times = rw (stamped, link) (has.times ∙ ap (λ e. times_shown old.stamped (served programs (chosen old.link e))) is);
  links = rw links (rw is at has.links);
}

-- an entry that was seen in place, or is held, or none
pub run_item : (programs : Programs) (bytes rest : List ℕ) (old new : CaptureRun) (found : Found) (item : Option SeenEntry) (stop : Option CodeFault) (before after : List Outcome) (since upto : List PacketTime)
    → Advances bytes rest old.feed new.feed (Ok found) → IsFound new.feed found item → new.link ≡ old.link → new.stamped ≡ old.stamped → old.refused ≡ None → new.refused ≡ stop
    → RunsItem programs old.link old.stamped item stop before after since upto → AddsLinks (item_entries item) old new
    → RunsOn programs bytes rest old new before after since upto
run_item programs bytes rest old new found item stop before after since upto takes is link stamped none stopped ran linked = record {
  front = takes.front;
  parts = takes.parts;
  more = ran.more;
  times = ran.times;
  pushed = ran.pushed;
  pushed_times = ran.pushed_times;
  runs = λ fed outcomes stamps has small short.
      runs_added programs fed takes.front old new outcomes ran.more stamps ran.times has.entries (item_entries item) has refl link stamped none (stopped ∙ ran.stops) (small_front bytes takes.front rest small takes.parts)
      (adds_item has.entries (fed ++ takes.front) new.feed found item is (takes.adds has.entries fed has.holds short)) ran.ran ran.seen linked;
}

-- the same after a packet was refused
pub pass_item : (bytes rest : List ℕ) (old new : CaptureRun) (found : Found) (item : Option SeenEntry)
    → Advances bytes rest old.feed new.feed (Ok found) → IsFound new.feed found item → new.link ≡ old.link → new.stamped ≡ old.stamped → IsSome old.refused → new.refused ≡ old.refused
    → AddsLinks (item_entries item) old new → PassesOn bytes rest old new
pass_item bytes rest old new found item takes is link stamped some same linked = λ programs before since. record {
  front = takes.front;
  parts = takes.parts;
  more = [];
  times = [];
  pushed = sym (append-nil before);
  pushed_times = sym (append-nil since);
  runs = λ fed outcomes stamps has small short. rw (append-nil outcomes, append-nil stamps)
      (runs_passed programs fed takes.front old new outcomes stamps has.entries (item_entries item) has refl link stamped some same (small_front bytes takes.front rest small takes.parts)
      (adds_item has.entries (fed ++ takes.front) new.feed found item is (takes.adds has.entries fed has.holds short)) linked);
}

-- one front and then another, without running
pub pass_none : (bytes : List ℕ) (run : CaptureRun) → PassesOn bytes bytes run run
pass_none bytes run = λ programs outcomes stamps. run_none programs bytes run outcomes stamps

pub pass_then : (bytes mid rest : List ℕ) (old other new : CaptureRun) → PassesOn bytes mid old other → PassesOn mid rest other new → PassesOn bytes rest old new
pass_then bytes mid rest old other new first next = λ programs outcomes stamps.
    run_then programs bytes mid rest old other new outcomes outcomes outcomes stamps stamps stamps (first programs outcomes stamps) (next programs outcomes stamps)

-- how it goes on after an entry: where the packet was refused, without running, and else as before
abbrev pub WentOn : Bool → Option CodeFault → List ℕ → List ℕ → CaptureRun → CaptureRun → Type 0
WentOn stopped stop before after old new = MatchBool stopped
    ((after ≡ []) × IsSome new.refused × PassesOn before [] (record old { refused = stop }) new)
    ((stop ≡ None) × (new ≡ old) × (after ≡ before))

went_on : (programs : Programs) (bytes mid rest : List ℕ) (old found new : CaptureRun) (stopped : Bool) (stop : Option CodeFault) (before after : List Outcome) (since upto : List PacketTime)
    → found.refused ≡ None → RunsOn programs bytes mid old (record found { refused = stop }) before after since upto → WentOn stopped stop mid rest found new → RunsOn programs bytes rest old new before after since upto
went_on programs bytes mid rest old found new true stop before after since upto none ran went =
    rw went.0 (run_then programs bytes mid [] old (record found { refused = stop }) new before after after since upto upto ran (went.2 programs after upto))
went_on programs bytes mid rest old found new false stop before after since upto none ran went =
    rw (went.1, went.2) (subst (λ (r : CaptureRun). RunsOn programs bytes mid old r before after since upto) (same found stop (went.0 ∙ sym none)) ran)
  where
    same : (run : CaptureRun) (refused : Option CodeFault) → refused ≡ run.refused → record run { refused = refused } ≡ run
    same run refused is = rw is refl

pub after_runs : {E : Type 0} (r : Result Bool E) (programs : Programs) (bytes mid rest : List ℕ) (old found new : CaptureRun) (seen : Found) (item : Option SeenEntry) (stop : Option CodeFault) (before after : List Outcome) (since upto : List PacketTime)
    → Advances bytes mid old.feed found.feed (Ok seen) → IsFound found.feed seen item → found.link ≡ old.link → found.stamped ≡ old.stamped → found.refused ≡ old.refused → old.refused ≡ None
    → RunsItem programs old.link old.stamped item stop before after since upto → AddsLinks (item_entries item) old found
    → IfOk r (λ stopped. WentOn stopped stop mid rest found new) → OnOk r (RunsOn programs bytes rest old new before after since upto)
after_runs (Err e) programs bytes mid rest old found new seen item stop before after since upto takes is link stamped same none ran linked went = tt
after_runs (Ok stopped) programs bytes mid rest old found new seen item stop before after since upto takes is link stamped same none ran linked went =
    went_on programs bytes mid rest old found new stopped stop before after since upto (same ∙ none)
    (run_item programs bytes mid old (record found { refused = stop }) seen item stop before after since upto takes is link stamped none refl ran linked) went

pub after_shorter : {E : Type 0} (r : Result Bool E) (stop : Option CodeFault) (bytes mid rest : List ℕ) (found new : CaptureRun) → (bytes ≢ [] → length mid < length bytes) → IfOk r (λ stopped. WentOn stopped stop mid rest found new)
    → IfOk r (λ _. bytes ≢ [] → length rest < length bytes)
after_shorter (Err e) stop bytes mid rest found new shorter went = tt
after_shorter (Ok true) stop bytes mid rest found new shorter went = λ some. rw went.0 (omega (arith, shorter some))
after_shorter (Ok false) stop bytes mid rest found new shorter went = λ some. rw went.2 (shorter some)

-- no packet was run
pub none_run : (programs : Programs) (link : Option ℕ) (stamped : Bool) (outcomes : List Outcome) (stamps : List PacketTime) → RunsItem programs link stamped None None outcomes outcomes stamps stamps
none_run programs link true outcomes stamps = record { more = []; times = []; pushed = sym (append-nil outcomes); pushed_times = sym (append-nil stamps); ran = tt; seen = refl; stops = refl }
none_run programs link false outcomes stamps = record { more = []; times = []; pushed = sym (append-nil outcomes); pushed_times = sym (append-nil stamps); ran = tt; seen = refl; stops = refl }

-- a capture with a fault
pub run_stopped : (programs : Programs) (bytes rest : List ℕ) (old new : CaptureRun) (before : List Outcome) (since : List PacketTime) (fault : ReadFault) → new.link ≡ old.link → new.stamped ≡ old.stamped → new.refused ≡ old.refused → new.links ≡ old.links
    → held_fault new.feed ≡ Some fault → Advances bytes rest old.feed new.feed (Err fault) → RunsOn programs bytes [] old new before before since since
run_stopped programs bytes rest old new before since fault link stamped refused links says advances = record {
  front = bytes;
  parts = sym (append-nil bytes);
  more = [];
  times = [];
  pushed = sym (append-nil before);
  pushed_times = sym (append-nil since);
  runs = λ fed outcomes stamps has small short. rw (append-nil outcomes, append-nil stamps)
      (runs_same programs fed bytes old new outcomes stamps has.entries has refl link stamped refused links small (rw says (advances has.entries fed has.holds short)));
}

-- a source got these bytes, whose whole packets were run
pub record SoRun {R : Type 0} (programs : Programs) (remaining : R → Option (List ℕ)) (old new : Source R) (run : CaptureRun) (outcomes : List Outcome) (stamps : List PacketTime) (taken : ℕ) : Type 0 where
  pub given : List ℕ
  pub lost : Gets remaining old new given
  pub has : HasRun programs given run outcomes stamps
  pub count : taken ≡ length given

pub so_run_next : (programs : Programs) {R : Type 0} {remaining : R → Option (List ℕ)} (old mid new : Source R) (run run' : CaptureRun) (before after : List Outcome) (since upto : List PacketTime) (taken taken' : ℕ) (piece : List ℕ)
    → SoRun programs remaining old mid run before since taken → Gets remaining mid new piece → taken' ≡ taken + length piece → taken' < 18446744073709551616
    → RunsOn programs piece [] run run' before after since upto → All (λ b. b < 256) piece → SoRun programs remaining old new run' after upto taken'
so_run_next programs old mid new run run' before after since upto taken taken' piece so next count short runs small =
    let all : piece ≡ runs.front = runs.parts ∙ append-nil runs.front in
    record {
      given = so.given ++ piece;
      lost = gets-then old mid new so.given piece so.lost next;
      has = rw (all, runs.pushed, runs.pushed_times) (runs.runs so.given before since so.has small (omega (arith, length-append so.given runs.front, ap length all, so.count)));
      count = omega (arith, length-append so.given piece, so.count);
    }

-- a read that failed and took nothing
pub so_run_kept : (programs : Programs) {R : Type 0} {remaining : R → Option (List ℕ)} (old mid new : Source R) (run : CaptureRun) (outcomes : List Outcome) (stamps : List PacketTime) (taken taken' : ℕ) → SoRun programs remaining old mid run outcomes stamps taken → GetsNothing remaining mid new → taken' ≡ taken
    → SoRun programs remaining old new run outcomes stamps taken'
so_run_kept programs old mid new run outcomes stamps taken taken' so kept same = record { given = so.given; lost = gets-kept old mid new so.given so.lost kept; has = so.has; count = same ∙ so.count }
