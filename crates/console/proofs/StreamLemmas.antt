-- The steps of a stream.
use Rattle.std.proofs.Common.{◌≡◌, ℕ, ◌+◌, ◌*◌, ◌<◌, ◌≤◌, ◌⊎◌, inl, inr, List, [], ◌∷◌, ◌++◌, length, zero-add, All, Bool, true, false, Option, Result, Ok, Err, IfOk, arith, refl, subst, sym, ap, ◌∙◌, append_assoc, length-append, take, length-take-le}
use Rattle.std.specs.Prelude.{IsErr, IsTrue, None, OnErr, OnOk}
use Rattle.std.specs.Bool.{MatchBool}
use Rattle.std.specs.Io.KnownBytes.{IsAtEnd}
use Rattle.std.proofs.lemmas.List.{append-nil}
use Rattle.console.specs.Programs.{Programs}
use Rattle.filter_vm.specs.declared.machine.Outcome.{Outcome}
use Rattle.engine_io.specs.declared.source.Source.{Source}
use Rattle.engine_io.specs.declared.sink.Sink.{Sink}
use Rattle.console.specs.declared.form.PacketForm.{PacketForm}
use Rattle.engine_io.specs.Devices.{Gets, GetsNothing, Writes}
use Rattle.console.specs.declared.ending.Ending.{Ending}
use Rattle.console.specs.declared.packet_source.PacketSource.{PacketSource}
use Rattle.capture_reader.specs.declared.entry.PacketTime.{PacketTime}
use Rattle.console.specs.declared.tally.Tally.{Tally}
use Rattle.console.specs.declared.view.View.{View}
use Rattle.console.specs.declared.view.View.TheVariants.{Lines, Numbers, Count, NumbersAndCount, Quiet}
use Rattle.engine_io.specs.declared.fault.EngineFault.{EngineFault}
use Rattle.engine_io.specs.Reading.{BeginsWith}
use Rattle.console.specs.Expressions.{IsFilter, ShowsBadFilter, explanation_of}
use Rattle.console.specs.Matching.{ending_status}
use Rattle.console.specs.declared.tally.Finished.{Finished}
use Rattle.console.specs.Streaming.{SourceEnded, SourceRan, StampTo, StreamLeaves, StreamShows, form_of, is_stamped}
use Rattle.console.specs.Views.{AreShown, HasCounted, IsFound, RanAll, RanFirst, ShowsEnd, ShowsView, ShowsViewCode, ShowsViewPart, ViewLeaves, ViewShows, accepted, heard, other_stamps, shown_at_once, shows_stamps}
use Rattle.console.proofs.WholeLemmas.{filter_ends, some_front}
use Rattle.engine_io.proofs.KnownBytesLemmas.{gets-kept, gets-then, keeps-itself, writes-nothing, writes-then}
use Rattle.console.proofs.StreamingLemmas.{Ends, EndsAtOne, Streamed, begins_itself, ended_first, ended_stamps, no_bytes, ran_aligned, ran_first, ran_stamps}
use Rattle.console.proofs.ViewLemmas.{lines_part, lines_shows, shown-append}

-- what is left where what was read isn't run
pub left_read : {T E : Type 0} (r : Result T E) (view : View) (programs : Programs) (form : PacketForm) {R W : Type 0} {remaining : R → Option (List ℕ)} {contents : W → Option (List ℕ)} (from at at' : Source R) (old new : Sink W) (source : PacketSource) (tally : Tally) (turns : ℕ) (piece : List ℕ)
    → Streamed view programs form remaining from at contents old new source tally turns → Gets remaining at at' piece → All (λ b. b < 256) piece
    → OnErr r ((input : List ℕ) × Gets remaining from at' input × ((text : List ℕ) × Writes contents old new text × ShowsViewPart view programs form input text))
left_read (Ok v) view programs form from at at' old new source tally turns piece so lost small = tt
left_read (Err e) view programs form from at at' old new source tally turns piece so lost small = (
  so.input ++ piece,
  gets-then from at at' so.input piece so.lost lost,
  (
    shown_at_once view 0 so.stamps so.shown,
    so.appended,
    inl (so.shown, rw so.kind at (ran_first programs so.input piece source so.shown so.stamps so.ran small), so.stamps, rw (so.stamped, so.kind) at (ran_stamps programs so.input piece source so.shown so.stamps so.ran small), begins_itself (shown_at_once view 0 so.stamps so.shown)),
  ),
)

-- and where a read failed
pub left_kept : (view : View) (programs : Programs) (form : PacketForm) {R W : Type 0} {remaining : R → Option (List ℕ)} {contents : W → Option (List ℕ)} (from at at' : Source R) (old new : Sink W) (source : PacketSource) (tally : Tally) (turns : ℕ) → Streamed view programs form remaining from at contents old new source tally turns → GetsNothing remaining at at'
    → (input : List ℕ) × Gets remaining from at' input × ((text : List ℕ) × Writes contents old new text × ShowsViewPart view programs form input text)
left_kept view programs form from at at' old new source tally turns so kept = (
  so.input,
  gets-kept from at at' so.input so.lost kept,
  (
    shown_at_once view 0 so.stamps so.shown,
    so.appended,
    inl (so.shown, rw (so.kind, append-nil so.input) at (ran_first programs so.input [] source so.shown so.stamps so.ran no_bytes), so.stamps, rw (so.stamped, so.kind, append-nil so.input) at (ran_stamps programs so.input [] source so.shown so.stamps so.ran no_bytes), begins_itself (shown_at_once view 0 so.stamps so.shown)),
  ),
)

pub keeps_itself : {R : Type 0} {remaining : R → Option (List ℕ)} (source : Source R) → GetsNothing remaining source source
keeps_itself source = record { list = refl; left = keeps-itself _ }

-- a read that was interrupted
pub streamed_kept : (view : View) (programs : Programs) (form : PacketForm) {R W : Type 0} {remaining : R → Option (List ℕ)} {contents : W → Option (List ℕ)} (from at at' : Source R) (old new : Sink W) (source : PacketSource) (tally : Tally) (turns : ℕ) → Streamed view programs form remaining from at contents old new source tally turns → GetsNothing remaining at at'
    → Streamed view programs form remaining from at' contents old new source tally (turns + 1)
streamed_kept view programs form from at at' old new source tally turns so kept = record {
  input = so.input;
  shown = so.shown;
  stamps = so.stamps;
  stamped = so.stamped;
  lost = gets-kept from at at' so.input so.lost kept;
  ran = so.ran;
  counted = so.counted;
  appended = so.appended;
  kind = so.kind;
  short = omega (arith, so.short);
}

-- what was read was run, but isn't shown yet
pub record Took {R W : Type 0} (view : View) (To : List ℕ → List Outcome → List PacketTime → Type 0) (form : PacketForm) (remaining : R → Option (List ℕ)) (from at : Source R) (contents : W → Option (List ℕ)) (old new : Sink W) (source : PacketSource) (tally : Tally) (outcomes : List Outcome) (times : List PacketTime) (turns : ℕ) : Type 0 where
  pub input : List ℕ
  pub shown : List Outcome
  pub stamps : List PacketTime
  pub lost : Gets remaining from at input
  pub has : To input (shown ++ outcomes) (stamps ++ times)
  pub aligned : (length stamps ≡ length shown) ⊎ ((stamps ≡ []) × (times ≡ []))
  pub counted : HasCounted view tally shown
  pub appended : Writes contents old new (shown_at_once view 0 stamps shown)
  pub kind : form_of source ≡ form
  pub stamped : is_stamped source ≡ shows_stamps view form
  pub short : length input ≤ 65536 * turns

align : (programs : Programs) (fed : List ℕ) (source : PacketSource) (outcomes : List Outcome) (stamps since upto : List PacketTime) → SourceRan programs fed source outcomes stamps → since ≡ [] → (is_stamped source ≡ false → upto ≡ since)
    → (length stamps ≡ length outcomes) ⊎ ((stamps ≡ []) × (upto ≡ []))
align programs fed source outcomes stamps since upto ran none plain = elim (ran_aligned programs fed source outcomes stamps ran) [
  | inl same ↦ inl same
  | inr apart ↦ inr (apart.1, plain apart.0 ∙ none)
]

pub took : (view : View) (To : List ℕ → PacketSource → List Outcome → List PacketTime → Type 0) (programs : Programs) (form : PacketForm) {R W : Type 0} {remaining : R → Option (List ℕ)} {contents : W → Option (List ℕ)} (from at at' : Source R) (old new : Sink W) (source source' : PacketSource) (tally : Tally) (turns : ℕ) (piece : List ℕ) (before after : List Outcome) (since upto : List PacketTime)
    → Streamed view programs form remaining from at contents old new source tally turns → Gets remaining at at' piece → length piece ≤ 65536 → turns < 281474976710655 → before ≡ [] → since ≡ [] → (is_stamped source ≡ false → upto ≡ since)
    → StampTo (SourceRan programs) To piece source source' before after since upto → form_of source' ≡ form_of source → is_stamped source' ≡ is_stamped source
    → Took view (λ input outcomes stamps. To input source' outcomes stamps) form remaining from at' contents old new source' tally after upto (turns + 1)
took view To programs form from at at' old new source source' tally turns piece before after since upto so lost few limit none no_times plain runs kind stamped =
    let pushed : after ≡ runs.more = runs.pushed ∙ ap (λ t. t ++ runs.more) none in
    let timed : upto ≡ runs.times = runs.pushed_times ∙ ap (λ t. t ++ runs.times) no_times in
    record {
      input = so.input ++ piece;
      shown = so.shown;
      stamps = so.stamps;
      lost = gets-then from at at' so.input piece so.lost lost;
      has = rw (pushed, timed) (runs.runs so.input so.shown so.stamps so.ran (omega (arith, length-append so.input piece, so.short, few, limit)));
      aligned = align programs so.input source so.shown so.stamps since upto so.ran no_times plain;
      counted = so.counted;
      appended = so.appended;
      kind = kind ∙ so.kind;
      stamped = stamped ∙ so.stamped;
      short = omega (arith, length-append so.input piece, so.short, few);
    }

-- a run of what was read, whether it stopped or not
abbrev pub RanOrStopped : Programs → Bool → List ℕ → PacketSource → List Outcome → List PacketTime → Type 0
RanOrStopped programs stopped taken source outcomes stamps = MatchBool stopped (SourceEnded programs true taken source outcomes stamps) (SourceRan programs taken source outcomes stamps)

pub either_run : (programs : Programs) (stopped : Bool) (piece : List ℕ) (old new : PacketSource) (before after : List Outcome) (since upto : List PacketTime)
    → MatchBool stopped (StampTo (SourceRan programs) (SourceEnded programs true) piece old new before after since upto) (StampTo (SourceRan programs) (SourceRan programs) piece old new before after since upto)
    → StampTo (SourceRan programs) (RanOrStopped programs stopped) piece old new before after since upto
either_run programs true piece old new before after since upto r = record { more = r.more; times = r.times; pushed = r.pushed; pushed_times = r.pushed_times; runs = λ fed outcomes stamps has short. r.runs fed outcomes stamps has short }
either_run programs false piece old new before after since upto r = record { more = r.more; times = r.times; pushed = r.pushed; pushed_times = r.pushed_times; runs = λ fed outcomes stamps has short. r.runs fed outcomes stamps has short }

-- the first packets that were run, with their time stamps
abbrev pub FirstShown : Programs → PacketSource → List ℕ → List Outcome → List PacketTime → Type 0
FirstShown programs source input outcomes stamps = RanFirst programs (form_of source) input outcomes × AreShown (is_stamped source) (form_of source) input (length outcomes) stamps

pub ended_shown : (programs : Programs) (stopped : Bool) (taken : List ℕ) (source : PacketSource) (outcomes : List Outcome) (stamps : List PacketTime) → SourceEnded programs stopped taken source outcomes stamps → FirstShown programs source taken outcomes stamps
ended_shown programs stopped taken source outcomes stamps has = (ended_first programs stopped taken source outcomes stamps has, ended_stamps programs stopped taken source outcomes stamps has)

pub either_shown : (programs : Programs) (stopped : Bool) (taken : List ℕ) (source : PacketSource) (outcomes : List Outcome) (stamps : List PacketTime) → RanOrStopped programs stopped taken source outcomes stamps
    → FirstShown programs source taken outcomes stamps
either_shown programs true taken source outcomes stamps has = ended_shown programs true taken source outcomes stamps has
either_shown programs false taken source outcomes stamps has =
    (rw (append-nil taken) at (ran_first programs taken [] source outcomes stamps has no_bytes), rw (append-nil taken) at (ran_stamps programs taken [] source outcomes stamps has no_bytes))

-- what is shown of outcomes after others that were counted
shown_then : (view : View) (tally : Tally) (stamps times : List PacketTime) (shown more : List Outcome) → HasCounted view tally shown → (length stamps ≡ length shown) ⊎ ((stamps ≡ []) × (times ≡ []))
    → shown_at_once view 0 (stamps ++ times) (shown ++ more) ≡ shown_at_once view 0 stamps shown ++ shown_at_once tally.view tally.total times more
shown_then view tally stamps times shown more counted aligned = rw (counted.0, counted.1) (rw zero-add at (shown-append view 0 stamps times shown more aligned))

-- what is left where the outcomes couldn't be written
pub left_took : {T E : Type 0} (r : Result T E) (view : View) (To : List ℕ → List Outcome → List PacketTime → Type 0) (programs : Programs) (form : PacketForm) {R W : Type 0} {remaining : R → Option (List ℕ)} {contents : W → Option (List ℕ)} (from at : Source R) (old new last : Sink W) (source : PacketSource) (tally : Tally) (outcomes : List Outcome) (times : List PacketTime) (turns : ℕ)
    → Took view To form remaining from at contents old new source tally outcomes times turns
    → ((input : List ℕ) (outcomes : List Outcome) (stamps : List PacketTime) → To input outcomes stamps → FirstShown programs source input outcomes stamps)
    → (front : List ℕ) × BeginsWith front (shown_at_once tally.view tally.total times outcomes) × Writes contents new last front
    → OnErr r ((input : List ℕ) × Gets remaining from at input × ((text : List ℕ) × Writes contents old last text × ShowsViewPart view programs form input text))
left_took (Ok v) view To programs form from at old new last source tally outcomes times turns so firsts failed = tt
left_took (Err e) view To programs form from at old new last source tally outcomes times turns so firsts failed =
    let lines : List ℕ = shown_at_once view 0 so.stamps so.shown in
    let shown = firsts so.input (so.shown ++ outcomes) (so.stamps ++ times) so.has in
    let all : shown_at_once view 0 (so.stamps ++ times) (so.shown ++ outcomes) ≡ (lines ++ failed.0) ++ failed.1.0 =
    shown_then view tally so.stamps times so.shown outcomes so.counted so.aligned ∙ ap (λ t. lines ++ t) failed.1.1 ∙ sym (append_assoc lines failed.0 failed.1.0) in (
      so.input,
      so.lost,
      (
        lines ++ failed.0,
        writes-then old new last lines failed.0 so.appended failed.2,
        inl (so.shown ++ outcomes, rw so.kind at shown.0, so.stamps ++ times, rw (so.stamped, so.kind) at shown.1, (failed.1.0, all)),
      ),
    )

-- the outcomes were shown
pub record Showed {R W : Type 0} (view : View) (To : List ℕ → List Outcome → List PacketTime → Type 0) (form : PacketForm) (remaining : R → Option (List ℕ)) (from at : Source R) (contents : W → Option (List ℕ)) (old new : Sink W) (source : PacketSource) (tally : Tally) (turns : ℕ) : Type 0 where
  pub input : List ℕ
  pub outcomes : List Outcome
  pub stamps : List PacketTime
  pub lost : Gets remaining from at input
  pub has : To input outcomes stamps
  pub stamped : is_stamped source ≡ shows_stamps view form
  pub counted : HasCounted view tally outcomes
  pub appended : Writes contents old new (shown_at_once view 0 stamps outcomes)
  pub kind : form_of source ≡ form
  pub short : length input ≤ 65536 * turns

pub showed : (view : View) (To : List ℕ → List Outcome → List PacketTime → Type 0) (form : PacketForm) {R W : Type 0} {remaining : R → Option (List ℕ)} {contents : W → Option (List ℕ)} (from at : Source R) (old new last : Sink W) (source : PacketSource) (tally tally' : Tally) (outcomes : List Outcome) (times : List PacketTime) (turns : ℕ)
    → Took view To form remaining from at contents old new source tally outcomes times turns → Writes contents new last (shown_at_once tally.view tally.total times outcomes)
    → ((view : View) (before : List Outcome) → HasCounted view tally before → HasCounted view tally' (before ++ outcomes))
    → Showed view To form remaining from at contents old last source tally' turns
showed view To form from at old new last source tally tally' outcomes times turns so more counts = record {
  input = so.input;
  outcomes = so.shown ++ outcomes;
  stamps = so.stamps ++ times;
  stamped = so.stamped;
  lost = so.lost;
  has = so.has;
  counted = counts view so.shown so.counted;
  appended = rw (shown_then view tally so.stamps times so.shown outcomes so.counted so.aligned) (writes-then old new last (shown_at_once view 0 so.stamps so.shown) (shown_at_once tally.view tally.total times outcomes) so.appended more);
  kind = so.kind;
  short = so.short;
}

-- and there is more to read
pub streamed_next : (view : View) (programs : Programs) (form : PacketForm) {R W : Type 0} {remaining : R → Option (List ℕ)} {contents : W → Option (List ℕ)} (from at : Source R) (old new : Sink W) (source : PacketSource) (tally : Tally) (turns : ℕ)
    → Showed view (λ input outcomes stamps. RanOrStopped programs false input source outcomes stamps) form remaining from at contents old new source tally turns → Streamed view programs form remaining from at contents old new source tally turns
streamed_next view programs form from at old new source tally turns so = record {
  input = so.input;
  shown = so.outcomes;
  stamps = so.stamps;
  stamped = so.stamped;
  lost = so.lost;
  ran = so.has;
  counted = so.counted;
  appended = so.appended;
  kind = so.kind;
  short = so.short;
}

-- fewer than 2^64 bytes were read
short_input : (input turns : ℕ) → input ≤ 65536 * turns → turns ≤ 281474976710655 → input < 18446744073709551616
short_input input turns short limit = omega arith

-- what is left where nothing came after the outcomes
pub left_showed : {T E : Type 0} (r : Result T E) (view : View) (To : List ℕ → List Outcome → List PacketTime → Type 0) (programs : Programs) (form : PacketForm) {R W : Type 0} {remaining : R → Option (List ℕ)} {contents : W → Option (List ℕ)} (from at : Source R) (old new : Sink W) (source : PacketSource) (tally : Tally) (turns : ℕ)
    → Showed view To form remaining from at contents old new source tally turns
    → ((input : List ℕ) (outcomes : List Outcome) (stamps : List PacketTime) → To input outcomes stamps → FirstShown programs source input outcomes stamps)
    → OnErr r ((input : List ℕ) × Gets remaining from at input × ((text : List ℕ) × Writes contents old new text × ShowsViewPart view programs form input text))
left_showed (Ok v) view To programs form from at old new source tally turns so firsts = tt
left_showed (Err e) view To programs form from at old new source tally turns so firsts = (
  so.input,
  so.lost,
  (
    shown_at_once view 0 so.stamps so.outcomes,
    so.appended,
    inl (so.outcomes, rw so.kind at (firsts so.input so.outcomes so.stamps so.has).0, so.stamps, rw (so.stamped, so.kind) at (firsts so.input so.outcomes so.stamps so.has).1, begins_itself (shown_at_once view 0 so.stamps so.outcomes)),
  ),
)

nothing_shown : (n : ℕ) (stamps : List PacketTime) (outcomes : List Outcome) → shown_at_once Quiet n stamps outcomes ≡ []
nothing_shown n stamps [] = refl
nothing_shown n stamps (o ∷ outcomes) = nothing_shown (n + 1) (other_stamps stamps) outcomes

-- a text and a status of outcomes and of what comes after them
view_end : (view : View) (programs : Programs) (form : PacketForm) (input : List ℕ) (outcomes : List Outcome) (stamps : List PacketTime) (ending : Ending) (text : List ℕ) (f : Finished)
    → RanFirst programs form input outcomes → AreShown (shows_stamps view form) form input (length outcomes) stamps → RanAll programs form input outcomes ending
    → ShowsEnd view (accepted outcomes) (length outcomes) ending text f → ShowsView view programs form input f.status (shown_at_once view 0 stamps outcomes ++ text) f.stop
view_end Lines programs form input outcomes stamps ending text f first times all shows = (outcomes, ending, all, stamps, times, (shows.1, ap (λ t. shown_at_once Lines 0 stamps outcomes ++ t) shows.0, shows.2))
view_end Numbers programs form input outcomes stamps ending text f first times all shows = (outcomes, ending, all, stamps, times, (shows.1, ap (λ t. shown_at_once Numbers 0 stamps outcomes ++ t) shows.0, shows.2))
view_end Count programs form input outcomes stamps ending text f first times all shows = (outcomes, ending, all, stamps, times, (shows.1, ap (λ t. shown_at_once Count 0 stamps outcomes ++ t) shows.0, shows.2))
view_end NumbersAndCount programs form input outcomes stamps ending text f first times all shows = (outcomes, ending, all, stamps, times, (shows.1, ap (λ t. shown_at_once NumbersAndCount 0 stamps outcomes ++ t) shows.0, shows.2))
view_end Quiet programs form input outcomes stamps ending text f first times all shows = (
  ap (λ t. shown_at_once Quiet 0 stamps outcomes ++ t) shows.0 ∙ append-nil (shown_at_once Quiet 0 stamps outcomes) ∙ nothing_shown 0 stamps outcomes,
  elim (shows.1) [
    | inl some ↦ inl (outcomes, first, some.0, some.1, some.2)
    | inr none ↦ inr (outcomes, ending, all, none.0, none.1, none.2)
  ],
)

ended_view : (view : View) (programs : Programs) (stopped : Bool) (form : PacketForm) {R W : Type 0} {remaining : R → Option (List ℕ)} {contents : W → Option (List ℕ)} (from at : Source R) (old new : Sink W) (source : PacketSource) (tally : Tally) (turns : ℕ) (ending : Ending) (text : List ℕ) (f : Finished)
    → (so : Showed view (λ input outcomes stamps. SourceEnded programs stopped input source outcomes stamps) form remaining from at contents old new source tally turns) → turns ≤ 281474976710655
    → Ends source stopped ending → ShowsEnd tally.view tally.accepted tally.total ending text f
    → ShowsView view programs form so.input f.status (shown_at_once view 0 so.stamps so.outcomes ++ text) f.stop
ended_view view programs stopped form from at old new source tally turns ending text f so limit ends shows =
    view_end view programs form so.input so.outcomes so.stamps ending text f (rw so.kind at (ended_first programs stopped so.input source so.outcomes so.stamps so.has))
    (rw (so.stamped, so.kind) at (ended_stamps programs stopped so.input source so.outcomes so.stamps so.has))
    (rw so.kind at (ends programs so.input so.outcomes so.stamps (short_input (length so.input) turns so.short limit) so.has))
    (rw (so.counted.0, so.counted.1, so.counted.2) at shows)

-- the status that comes with a line after the outcomes
status_of : (view : View) (some all : ℕ) (ending : Ending) (text : List ℕ) (f : Finished) → ShowsEnd view some all ending text f → ending_status ending ≡ 1 → (f.status ≡ 1) ⊎ IsFound view f.status
status_of Lines some all ending text f shows one = inl (shows.1 ∙ one)
status_of Numbers some all ending text f shows one = inl (shows.1 ∙ one)
status_of Count some all ending text f shows one = inl (shows.1 ∙ one)
status_of NumbersAndCount some all ending text f shows one = inl (shows.1 ∙ one)
status_of Quiet some all ending text f shows one = elim (shows.1) [
  | inl found ↦ inr (refl, found.1)
  | inr none ↦ elim (none.1) [ inl whole ↦ absurd (omega (arith, whole.0, one)) | inr bad ↦ inl bad.1 ]
]

-- what is shown at the end
pub end_shown : (r : Result Finished EngineFault) (view : View) (programs : Programs) (stopped : Bool) (form : PacketForm) {R W : Type 0} {remaining : R → Option (List ℕ)} {contents : W → Option (List ℕ)} (from at : Source R) (old new last : Sink W) (source : PacketSource) (tally : Tally) (turns : ℕ) (ending : Ending)
    → Showed view (λ input outcomes stamps. SourceEnded programs stopped input source outcomes stamps) form remaining from at contents old new source tally turns → turns ≤ 281474976710655
    → (IsAtEnd (remaining at.inner) ⊎ IsTrue stopped)
    → Ends source stopped ending
    → EndsAtOne source stopped ending
    → IfOk r (λ f. (text : List ℕ) × Writes contents new last text × ShowsEnd tally.view tally.accepted tally.total ending text f)
    → IfOk r (λ f. (input : List ℕ) × Gets remaining from at input × ((text : List ℕ) × Writes contents old last text × ShowsView view programs form input f.status text f.stop)
    × (IsAtEnd (remaining at.inner) ⊎ (f.status ≡ 1) ⊎ IsFound view f.status))
end_shown (Err e) view programs stopped form from at old new last source tally turns ending so limit at_end ends is_one shows = tt
end_shown (Ok f) view programs stopped form from at old new last source tally turns ending so limit at_end ends is_one shows = (
  so.input,
  so.lost,
  (
    shown_at_once view 0 so.stamps so.outcomes ++ shows.0,
    writes-then old new last (shown_at_once view 0 so.stamps so.outcomes) shows.0 so.appended shows.1,
    ended_view view programs stopped form from at old new source tally turns ending shows.0 f so limit ends shows.2,
  ),
  elim at_end [
    | inl end ↦ inl end
    | inr at_once ↦ inr (rw so.counted.0 at (status_of tally.view tally.accepted tally.total ending shows.0 f shows.2 (is_one programs so.input so.outcomes so.stamps so.has at_once)))
  ],
)

-- where nothing that follows is looked at, the status says so
pub end_well : (r : Result Finished EngineFault) (view : View) (programs : Programs) (form : PacketForm) {R W : Type 0} {remaining : R → Option (List ℕ)} {contents : W → Option (List ℕ)} (from at : Source R) (old new last : Sink W) (source : PacketSource) (tally : Tally) (turns : ℕ) (ending : Ending) (written read ended : Bool)
    → Showed view (λ input outcomes stamps. SourceEnded programs true input source outcomes stamps) form remaining from at contents old new source tally turns
    → EndsAtOne source true ending
    → IfOk r (λ f. (text : List ℕ) × Writes contents new last text × ShowsEnd tally.view tally.accepted tally.total ending text f)
    → OnOk r (written ≡ false) → read ≡ false
    → IfOk r (λ f. (written ≡ false) × (read ≡ false) × ((ended ≡ true) ⊎ (f.status ≡ 1) ⊎ IsFound view f.status))
end_well (Err e) view programs form from at old new last source tally turns ending written read ended so is_one shows good well = tt
end_well (Ok f) view programs form from at old new last source tally turns ending written read ended so is_one shows good well =
    (good, well, inr (rw so.counted.0 at (status_of tally.view tally.accepted tally.total ending shows.0 f shows.2 (is_one programs so.input so.outcomes so.stamps so.has refl))))

-- and left, where it couldn't be written
pub end_left : (r : Result Finished EngineFault) (view : View) (programs : Programs) (stopped : Bool) (form : PacketForm) {R W : Type 0} {remaining : R → Option (List ℕ)} {contents : W → Option (List ℕ)} (from at : Source R) (old new last : Sink W) (source : PacketSource) (tally : Tally) (turns : ℕ) (ending : Ending)
    → Showed view (λ input outcomes stamps. SourceEnded programs stopped input source outcomes stamps) form remaining from at contents old new source tally turns → turns ≤ 281474976710655
    → Ends source stopped ending
    → OnErr r ((text : List ℕ) × Writes contents new last text × ((f : Finished) × (whole : List ℕ) × ShowsEnd tally.view tally.accepted tally.total ending whole f × BeginsWith text whole))
    → OnErr r ((input : List ℕ) × Gets remaining from at input × ((text : List ℕ) × Writes contents old last text × ShowsViewPart view programs form input text))
end_left (Ok v) view programs stopped form from at old new last source tally turns ending so limit ends failed = tt
end_left (Err e) view programs stopped form from at old new last source tally turns ending so limit ends failed =
    let lines : List ℕ = shown_at_once view 0 so.stamps so.outcomes in
    let text : List ℕ = failed.0 in
    let part = failed.2 in (
      so.input,
      so.lost,
      (
        lines ++ text,
        writes-then old new last lines text so.appended failed.1,
        inr (
          part.0.status,
          lines ++ part.1,
          part.0.stop,
          ended_view view programs stopped form from at old new source tally turns ending part.1 part.0 so limit ends part.2,
          (part.3.0, ap (λ t. lines ++ t) part.3.1 ∙ sym (append_assoc lines text part.3.0)),
        ),
      ),
    )

-- a packet was accepted, and nothing else matters
pub found_shown : (view : View) (programs : Programs) (form : PacketForm) {R W : Type 0} {remaining : R → Option (List ℕ)} {contents : W → Option (List ℕ)} (from at : Source R) (old new : Sink W) (source : PacketSource) (tally : Tally) (turns : ℕ) (stopped : Bool)
    → Showed view (λ input outcomes stamps. RanOrStopped programs stopped input source outcomes stamps) form remaining from at contents old new source tally turns → (tally.view ≡ Quiet) × (0 < tally.accepted)
    → (input : List ℕ) × Gets remaining from at input × ((text : List ℕ) × Writes contents old new text × ShowsView view programs form input 0 text None) × (IsAtEnd (remaining at.inner) ⊎ (◌≡◌ {A = ℕ} 0 1) ⊎ IsFound view 0)
found_shown view programs form from at old new source tally turns stopped so found =
    let quiet : view ≡ Quiet = sym so.counted.0 ∙ found.0 in (
      so.input,
      so.lost,
      (
        shown_at_once view 0 so.stamps so.outcomes,
        so.appended,
        rw quiet (nothing_shown 0 so.stamps so.outcomes, inl (so.outcomes, rw so.kind at (either_shown programs stopped so.input source so.outcomes so.stamps so.has).0, rw so.counted.2 at found.1, refl, refl)),
      ),
      inr (inr (quiet, refl)),
    )

-- a read gives at most as many bytes as there is room
pub taken_bytes : (count : ℕ) (block : List ℕ) → count ≤ length block → length block ≤ 65536 → length (take count block) ≤ 65536
taken_bytes count block within room = omega (arith, length-take-le count block within)

-- what is known of an answer
by_ok : (P : Finished → Type 0) (r : Result Finished EngineFault) (finished : Finished) → r ≡ Ok finished → IfOk r P → P finished
by_ok P (Ok f) finished is p = subst P (one f finished is) p
  where
    one : (x y : Finished) → (◌≡◌ {A = Result Finished EngineFault} (Ok x) (Ok y)) → x ≡ y
    one x y e = cc
by_ok P (Err e) finished is p = absurd (never e finished is)
  where
    never : (x : EngineFault) (y : Finished) → (◌≡◌ {A = Result Finished EngineFault} (Err x) (Ok y)) → ⊥
    never x y e = cc

-- what is shown of a good code
module _ (view : View) (code : List ℕ) (accept : ℕ) (programs : Programs) (form kind : PacketForm) {R W : Type 0} (remaining : R → Option (List ℕ)) (contents : W → Option (List ℕ)) (from at : Source R) (old new : Sink W) (good : IsFilter code accept programs) (same : kind ≡ form) where
  pub shown_of_code : (r : Result Finished EngineFault) (finished : Finished) (before after : List ℕ) → r ≡ Ok finished
      → IfOk r (λ f. (input : List ℕ) × Gets remaining from at input × ((text : List ℕ) × Writes contents old new text × ShowsView view programs kind input f.status text f.stop) × (IsAtEnd (remaining at.inner) ⊎ (f.status ≡ 1) ⊎ IsFound view f.status))
      → after ≡ before ++ explanation_of code finished.stop
      → (text : List ℕ) × (words : List ℕ) × Writes contents old new text × (after ≡ before ++ words) × ((ShowsViewCode view code text words × (finished.status ≡ 1))
      ⊎ ((input : List ℕ) × Gets remaining from at input × ViewShows view code accept form input finished.status text words × (IsAtEnd (remaining at.inner) ⊎ (finished.status ≡ 1) ⊎ IsFound view finished.status)))
  shown_of_code r finished before after is shown told =
      let s = by_ok (λ f. (input : List ℕ) × Gets remaining from at input × ((text : List ℕ) × Writes contents old new text × ShowsView view programs kind input f.status text f.stop) × (IsAtEnd (remaining at.inner) ⊎ (f.status ≡ 1) ⊎ IsFound view f.status)) r finished is shown in
      (s.2.0, explanation_of code finished.stop, s.2.1, told, inr (s.0, s.1, (programs, good, finished.stop, subst (λ (k : PacketForm). ShowsView view programs k s.0 finished.status s.2.0 finished.stop) same s.2.2, refl), s.3))

  pub left_of_code : {T : Type 0} (r : Result T EngineFault) (q : Result Finished EngineFault)
      → OnErr q ((input : List ℕ) × Gets remaining from at input × ((text : List ℕ) × Writes contents old new text × ShowsViewPart view programs kind input text)) → IsErr q
      → OnErr r ((text : List ℕ) × Writes contents old new text × ((text ≡ []) ⊎ (((whole : List ℕ) × (words : List ℕ) × ShowsBadFilter code whole words × BeginsWith text whole)
      ⊎ ((input : List ℕ) × Gets remaining from at input × ViewLeaves view code accept form input text))))
  left_of_code (Ok v) q left failed = tt
  left_of_code (Err e) (Ok f) left failed = absurd (never failed)
    where
      never : IsErr {T = Finished} {E = EngineFault} (Ok f) → ⊥
      never h = cc
  left_of_code (Err e) (Err q) left failed = (left.2.0, left.2.1, inr (inr (left.0, left.1, (programs, good, rw same at left.2.2))))

  -- and where what a fault means couldn't be said
  pub left_unsaid : {T : Type 0} (r : Result T EngineFault) (q : Result Finished EngineFault) (finished : Finished) → q ≡ Ok finished
      → IfOk q (λ f. (input : List ℕ) × Gets remaining from at input × ((text : List ℕ) × Writes contents old new text × ShowsView view programs kind input f.status text f.stop) × (IsAtEnd (remaining at.inner) ⊎ (f.status ≡ 1) ⊎ IsFound view f.status))
      → OnErr r ((text : List ℕ) × Writes contents old new text × ((text ≡ []) ⊎ (((whole : List ℕ) × (words : List ℕ) × ShowsBadFilter code whole words × BeginsWith text whole)
      ⊎ ((input : List ℕ) × Gets remaining from at input × ViewLeaves view code accept form input text))))
  left_unsaid (Ok v) q finished is shown = tt
  left_unsaid (Err e) q finished is shown =
      let s = by_ok (λ f. (input : List ℕ) × Gets remaining from at input × ((text : List ℕ) × Writes contents old new text × ShowsView view programs kind input f.status text f.stop) × (IsAtEnd (remaining at.inner) ⊎ (f.status ≡ 1) ⊎ IsFound view f.status)) q finished is shown in
      (s.2.0, s.2.1, inr (inr (s.0, s.1, (programs, good, inr (finished.status, s.2.0, finished.stop, subst (λ (k : PacketForm). ShowsView view programs k s.0 finished.status s.2.0 finished.stop) same s.2.2, begins_itself s.2.0)))))

-- nothing was written
pub nothing_left : {T E : Type 0} (r : Result T E) (view : View) (code : List ℕ) (accept : ℕ) (form : PacketForm) {R W : Type 0} (remaining : R → Option (List ℕ)) (contents : W → Option (List ℕ)) (from at : Source R) (sink : Sink W)
    → OnErr r ((text : List ℕ) × Writes contents sink sink text × ((text ≡ []) ⊎ (((whole : List ℕ) × (words : List ℕ) × ShowsBadFilter code whole words × BeginsWith text whole)
    ⊎ ((input : List ℕ) × Gets remaining from at input × ViewLeaves view code accept form input text))))
nothing_left (Ok v) view code accept form remaining contents from at sink = tt
nothing_left (Err e) view code accept form remaining contents from at sink = ([], writes-nothing sink, inl refl)

-- the line of a bad code
pub bad_code_shown : (r : Result ℕ EngineFault) (view : View) (code : List ℕ) (accept : ℕ) (line words : List ℕ) (form : PacketForm) {R W : Type 0} (remaining : R → Option (List ℕ)) (contents : W → Option (List ℕ)) (from at : Source R) (old new : Sink W) (before after : List ℕ)
    → ShowsBadFilter code line words → after ≡ before ++ words → IfOk r (λ status. (status ≡ 1) × Writes contents old new (heard view line))
    → IfOk r (λ status. (text : List ℕ) × (words : List ℕ) × Writes contents old new text × (after ≡ before ++ words) × ((ShowsViewCode view code text words × (status ≡ 1))
    ⊎ ((input : List ℕ) × Gets remaining from at input × ViewShows view code accept form input status text words × (IsAtEnd (remaining at.inner) ⊎ (status ≡ 1) ⊎ IsFound view status))))
bad_code_shown (Err e) view code accept line words form remaining contents from at old new before after bad told wrote = tt
bad_code_shown (Ok status) view code accept line words form remaining contents from at old new before after bad told wrote =
    (heard view line, words, wrote.1, told, inl ((line, bad, refl), wrote.0))

-- where the line of a bad code couldn't be written
pub bad_code_left : {T E : Type 0} (r : Result T E) (view : View) (code : List ℕ) (accept : ℕ) (line words : List ℕ) (form : PacketForm) {R W : Type 0} (remaining : R → Option (List ℕ)) {contents : W → Option (List ℕ)} (from at : Source R) (old new : Sink W) → ShowsBadFilter code line words → (front : List ℕ) × BeginsWith front line × Writes contents old new front
    → OnErr r ((text : List ℕ) × Writes contents old new text × ((text ≡ []) ⊎ (((whole : List ℕ) × (words : List ℕ) × ShowsBadFilter code whole words × BeginsWith text whole)
    ⊎ ((input : List ℕ) × Gets remaining from at input × ViewLeaves view code accept form input text))))
bad_code_left (Ok v) view code accept line words form remaining from at old new bad failed = tt
bad_code_left (Err e) view code accept line words form remaining from at old new bad failed = (failed.0, failed.2, inr (inl (line, words, bad, failed.1)))

-- A stream of lines

pub lines_of_view : (r : Result ℕ EngineFault) (code : List ℕ) (accept : ℕ) (form : PacketForm) {R W : Type 0} (remaining : R → Option (List ℕ)) (contents : W → Option (List ℕ)) (from at : Source R) (old new : Sink W) (before after : List ℕ)
    → IfOk r (λ status. (text : List ℕ) × (words : List ℕ) × Writes contents old new text × (after ≡ before ++ words) × ((ShowsViewCode Lines code text words × (status ≡ 1))
    ⊎ ((input : List ℕ) × Gets remaining from at input × ViewShows Lines code accept form input status text words × (IsAtEnd (remaining at.inner) ⊎ (status ≡ 1) ⊎ IsFound Lines status))))
    → IfOk r (λ status. (text : List ℕ) × (words : List ℕ) × Writes contents old new text × (after ≡ before ++ words) × ((ShowsBadFilter code text words × (status ≡ 1))
    ⊎ ((input : List ℕ) × Gets remaining from at input × StreamShows code accept form input status text words × (IsAtEnd (remaining at.inner) ⊎ (status ≡ 1)))))
lines_of_view (Err e) code accept form remaining contents from at old new before after shown = tt
lines_of_view (Ok status) code accept form remaining contents from at old new before after shown = (
  shown.0,
  shown.1,
  shown.2,
  shown.3,
  elim (shown.4) [
    | inl bad ↦ inl (rw bad.0.2 bad.0.1, bad.1)
    | inr s ↦ inr (s.0, s.1, (s.2.0, s.2.1, s.2.2, lines_shows s.2.0 form s.0 status shown.0 s.2.2 s.2.3, s.2.4), no_find _ status s.3)
  ],
)
  where
    no_find : (P : Type 0) (status : ℕ) → P ⊎ (status ≡ 1) ⊎ IsFound Lines status → P ⊎ (status ≡ 1)
    no_find P status (inl p) = inl p
    no_find P status (inr (inl one)) = inr one
    no_find P status (inr (inr found)) = let never = found.0 in absurd (cc)

view_left : (code : List ℕ) (accept : ℕ) (form : PacketForm) {R : Type 0} {remaining : R → Option (List ℕ)} (from at : Source R) (text : List ℕ)
    → (text ≡ []) ⊎ (((whole : List ℕ) × (words : List ℕ) × ShowsBadFilter code whole words × BeginsWith text whole) ⊎ ((input : List ℕ) × Gets remaining from at input × ViewLeaves Lines code accept form input text))
    → (text ≡ []) ⊎ (((whole : List ℕ) × (words : List ℕ) × ShowsBadFilter code whole words × BeginsWith text whole) ⊎ ((input : List ℕ) × Gets remaining from at input × StreamLeaves code accept form input text))
view_left code accept form from at text (inl none) = inl none
view_left code accept form from at text (inr (inl bad)) = inr (inl bad)
view_left code accept form from at text (inr (inr s)) = inr (inr (s.0, s.1, (s.2.0, s.2.1, some_front s.2.0 (filter_ends code accept s.2.0 s.2.1) form s.0 text (lines_part s.2.0 form s.0 text s.2.2))))

pub left_of_view : {T E : Type 0} (r : Result T E) (code : List ℕ) (accept : ℕ) (form : PacketForm) {R W : Type 0} (remaining : R → Option (List ℕ)) (contents : W → Option (List ℕ)) (from at : Source R) (old new : Sink W)
    → OnErr r ((text : List ℕ) × Writes contents old new text × ((text ≡ []) ⊎ (((whole : List ℕ) × (words : List ℕ) × ShowsBadFilter code whole words × BeginsWith text whole)
    ⊎ ((input : List ℕ) × Gets remaining from at input × ViewLeaves Lines code accept form input text))))
    → OnErr r ((text : List ℕ) × Writes contents old new text × ((text ≡ []) ⊎ (((whole : List ℕ) × (words : List ℕ) × ShowsBadFilter code whole words × BeginsWith text whole)
    ⊎ ((input : List ℕ) × Gets remaining from at input × StreamLeaves code accept form input text))))
left_of_view (Ok v) code accept form remaining contents from at old new left = tt
left_of_view (Err e) code accept form remaining contents from at old new left = (left.0, left.1, view_left code accept form from at left.0 left.2)
