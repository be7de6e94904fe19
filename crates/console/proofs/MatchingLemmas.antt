-- What `match` has shown after some of its lines.
use Rattle.std.proofs.Common.{Result, Ok, Err, IfOk, ◌⊎◌, ◌≡◌, ℕ, ◌+◌, List, [], ◌∷◌, ◌++◌, ◌<◌, ◌≤◌, length, Option, Some, None, refl, ap, sym, ◌∙◌, append_assoc, arith, length-append, inl, inr, IsErr, flat_map}
use Rattle.std.specs.List.{AllZip}
use Rattle.std.specs.Io.KnownBytes.{Consumes, IsAtEnd}
use Rattle.std.proofs.lemmas.List.{append-nil}
use Rattle.filter_vm.specs.declared.machine.Outcome.{Outcome}
use Rattle.std.specs.Result.{IsErrOf}
use Rattle.engine_io.specs.declared.fault.EngineFault.{EngineFault}
use Rattle.engine_io.specs.declared.fault.EngineFault.TheVariants.{NoMemory}
use Rattle.console.specs.declared.ending.Ending.{Ending}
use Rattle.console.specs.declared.ending.Ending.TheVariants.{Done}
use Rattle.console.specs.declared.filter.CodeFault.{CodeFault}
use Rattle.console.specs.Expressions.{IsFilter, ShowsBadFilter, explanation_of}
use Rattle.std.specs.Prelude.{OnOk}
use Rattle.engine_io.specs.declared.input.TheConstants.{INPUT_BYTES}
use Rattle.engine_io.specs.declared.source.Source.{Source}
use Rattle.engine_io.specs.declared.sink.Sink.{Sink}
use Rattle.console.specs.declared.form.PacketForm.{PacketForm}
use Rattle.engine_io.specs.Devices.{Gets, Writes}
use Rattle.engine_io.specs.Reading.{BeginsWith, GotTooMany, IsInput, IsKnown, too_long_line}
use Rattle.console.specs.declared.form.PacketForm.TheVariants.{Digits, Capture}
use Rattle.std.specs.Str.Lines.{lines}
use Rattle.capture_reader.specs.declared.entry.PacketTime.{PacketTime}
use Rattle.console.specs.declared.capture_run.CaptureRun.{CaptureRun}
use Rattle.console.specs.Programs.{Programs}
use Rattle.console.specs.Running.{HasRun}
use Rattle.engine_io.proofs.InputLemmas.{shown_long, whole_input}
use Rattle.console.specs.Matching.{Answers, IsNotRun, ShowsBytes, ShowsFirst, ShowsLines, ShowsPackets, ShowsGoodCode, ShowsInput, ShowsPart, ShowsRead, StopsBy, ending_status, ending_stop, ending_text, line_ending, outcome_line}
use Rattle.console.proofs.WholeLemmas.{filter_ends, packets_front}
use Rattle.engine_io.proofs.KnownBytesLemmas.{writes-then, writes-nothing}
use Rattle.pcap_reader.proofs.FeedLemmas.{AllZip-push}

-- all is lines that were answered and the rest, and the answers are written but for what is kept back
pub record SoFar {A W : Type 0} (Gives : A → Outcome → Type 0) (all rest : List A) (number : ℕ) (contents : W → Option (List ℕ)) (old new : Sink W) (kept : List ℕ) : Type 0 where
  pub good : List A
  pub outcomes : List Outcome
  pub written : List ℕ
  pub front : all ≡ good ++ rest
  pub ran : AllZip Gives good outcomes
  pub count : number ≡ length good
  pub appended : Writes contents old new written
  pub printed : written ++ kept ≡ flat_map outcome_line outcomes

pub so_far_start : {A : Type 0} (Gives : A → Outcome → Type 0) (all : List A) {W : Type 0} {contents : W → Option (List ℕ)} (sink : Sink W) → SoFar Gives all all 0 contents sink sink []
so_far_start Gives all sink = record {
  good = [];
  outcomes = [];
  written = [];
  front = refl;
  ran = tt;
  count = refl;
  appended = writes-nothing sink;
  printed = refl;
}

pub flat_map-push : {A B : Type 0} (f : A → List B) (xs : List A) (x : A) → flat_map f (xs ++ x ∷ []) ≡ flat_map f xs ++ f x
flat_map-push f [] x = append-nil (f x)
flat_map-push f (a ∷ xs) x = ap (λ t. f a ++ t) (flat_map-push f xs x) ∙ sym (append_assoc (f a) (flat_map f xs) (f x))

pub so_far_next : {A : Type 0} (Gives : A → Outcome → Type 0) (all : List A) (line : A) (rest : List A) (n m : ℕ) {W : Type 0} {contents : W → Option (List ℕ)} (old new : Sink W) (kept kept' : List ℕ) (o : Outcome)
    → (left : List A) → left ≡ line ∷ rest → SoFar Gives all left n contents old new kept → Gives line o → kept' ≡ kept ++ outcome_line o → m ≡ n + 1 → SoFar Gives all rest m contents old new kept'
so_far_next Gives all line rest n m old new kept kept' o left first so ran text one = record {
  good = so.good ++ line ∷ [];
  outcomes = so.outcomes ++ o ∷ [];
  written = so.written;
  front = so.front ∙ ap (λ t. so.good ++ t) first ∙ sym (append_assoc so.good (line ∷ []) rest);
  ran = AllZip-push Gives so.good so.outcomes line o so.ran ran;
  count = simp length-append (omega (arith, so.count));
  appended = so.appended;
  printed = ap (λ t. so.written ++ t) text ∙ sym (append_assoc so.written kept (outcome_line o)) ∙ ap (λ t. t ++ outcome_line o) so.printed ∙ sym (flat_map-push outcome_line so.outcomes o);
}

-- what was kept back is written
pub so_far_written : {A : Type 0} (Gives : A → Outcome → Type 0) (all rest : List A) (n : ℕ) {W : Type 0} {contents : W → Option (List ℕ)} (old new last : Sink W) (kept : List ℕ)
    → SoFar Gives all rest n contents old new kept → Writes contents new last kept → SoFar Gives all rest n contents old last []
so_far_written Gives all rest n old new last kept so more = record {
  good = so.good;
  outcomes = so.outcomes;
  written = so.written ++ kept;
  front = so.front;
  ran = so.ran;
  count = so.count;
  appended = writes-then old new last so.written kept so.appended more;
  printed = append-nil (so.written ++ kept) ∙ so.printed;
}

-- the last text is written
abbrev pub LinesShown : {W : Type 0} → Programs → ℕ → List (List ℕ) → (W → Option (List ℕ)) → Sink W → Sink W → List ℕ → List ℕ → List ℕ → ℕ → Type 0
LinesShown programs link all contents old last code before after status = (text : List ℕ) × (stop : Option CodeFault) × ShowsLines programs link all status text stop × Writes contents old last text
    × (after ≡ before ++ explanation_of code stop)

lines_shown : (r : Result ℕ EngineFault) (programs : Programs) (link : ℕ) (all : List (List ℕ)) (good : List (List ℕ)) (outcomes : List Outcome) (ending : Ending) (written kept code before after : List ℕ) {W : Type 0} {contents : W → Option (List ℕ)} (old new last : Sink W)
    → AllZip (Answers programs link) good outcomes → StopsBy programs link all good ending → Writes contents old new written → written ++ kept ≡ flat_map outcome_line outcomes
    → IfOk r (λ status. (status ≡ ending_status ending) × Writes contents new last (kept ++ ending_text ending)) → OnOk r (after ≡ before ++ explanation_of code (ending_stop ending))
    → IfOk r (LinesShown programs link all contents old last code before after)
lines_shown (Err e) programs link all good outcomes ending written kept code before after old new last ran stops appended printed shown told = tt
lines_shown (Ok status) programs link all good outcomes ending written kept code before after old new last ran stops appended printed shown told = (
  written ++ (kept ++ ending_text ending),
  ending_stop ending,
  record {
    good = good;
    outcomes = outcomes;
    ending = ending;
    ran = ran;
    stops = stops;
    shown = (shown.0, sym (append_assoc written kept (ending_text ending)) ∙ ap (λ t. t ++ ending_text ending) printed, refl);
  },
  writes-then old new last written (kept ++ ending_text ending) appended shown.1,
  told,
)

-- at the end of the lines
pub so_far_end : (r : Result ℕ EngineFault) (programs : Programs) (link : ℕ) (all : List (List ℕ)) (n : ℕ) (kept code before after : List ℕ) {W : Type 0} {contents : W → Option (List ℕ)} (old new last : Sink W)
    → (left : List (List ℕ)) → left ≡ [] → SoFar (Answers programs link) all left n contents old new kept
    → IfOk r (λ status. (status ≡ ending_status Done) × Writes contents new last (kept ++ ending_text Done)) → OnOk r (after ≡ before ++ explanation_of code (ending_stop Done))
    → IfOk r (LinesShown programs link all contents old last code before after)
so_far_end r programs link all n kept code before after old new last left none so shown told =
    lines_shown r programs link all so.good so.outcomes Done so.written kept code before after old new last so.ran (inl (so.front ∙ ap (λ t. so.good ++ t) none ∙ append-nil so.good, refl)) so.appended so.printed shown told

-- at a line that isn't run
pub so_far_bad : (r : Result ℕ EngineFault) (programs : Programs) (link : ℕ) (all : List (List ℕ)) (bad : List ℕ) (rest : List (List ℕ)) (n m : ℕ) (stop : Option CodeFault) (ending : Ending) (kept code before after : List ℕ) {W : Type 0} {contents : W → Option (List ℕ)} (old new last : Sink W)
    → (left : List (List ℕ)) → left ≡ bad ∷ rest → SoFar (Answers programs link) all left n contents old new kept → IsNotRun programs link bad stop → m ≡ n + 1 → ending ≡ line_ending m stop
    → IfOk r (λ status. (status ≡ ending_status ending) × Writes contents new last (kept ++ ending_text ending)) → OnOk r (after ≡ before ++ explanation_of code (ending_stop ending))
    → IfOk r (LinesShown programs link all contents old last code before after)
so_far_bad r programs link all bad rest n m stop ending kept code before after old new last left first so wrong one is shown told =
    lines_shown r programs link all so.good so.outcomes ending so.written kept code before after old new last so.ran
    (inr (bad, rest, so.front ∙ ap (λ t. so.good ++ t) first, stop, wrong, is ∙ ap (λ k. line_ending k stop) (one ∙ ap (λ k. k + 1) so.count))) so.appended so.printed shown told

-- and where it couldn't be written
pub so_far_left : (r : Result ℕ EngineFault) (programs : Programs) (link : ℕ) (all rest : List (List ℕ)) (n : ℕ) (kept : List ℕ) {W : Type 0} {contents : W → Option (List ℕ)} (old new last : Sink W)
    → SoFar (Answers programs link) all rest n contents old new kept → (IsErrOf r NoMemory → last ≡ new)
    → IsErrOf r NoMemory → (text : List ℕ) × ShowsFirst (Answers programs link) all text × Writes contents old last text
so_far_left r programs link all rest n kept old new last so same = λ memory. (
  so.written,
  record { good = so.good; left = rest; outcomes = so.outcomes; more = kept; front = so.front; ran = so.ran; printed = so.printed },
  rw (same memory) so.appended,
)

-- what is shown of a good code is what is shown of its programs
pub shown_of : (r : Result ℕ EngineFault) (code : List ℕ) (accept : ℕ) (programs : Programs) (form : PacketForm) {R W : Type 0} (remaining : R → Option (List ℕ)) (contents : W → Option (List ℕ)) (known lost : Source R) (old new : Sink W) (before after : List ℕ) → IsFilter code accept programs
    → IfOk r (λ status. (text : List ℕ) × (stop : Option CodeFault) × Writes contents old new text × ((input : List ℕ) × IsInput remaining known lost input × ShowsInput programs form input status text stop) × (after ≡ before ++ explanation_of code stop))
    → IfOk r (λ status. (text : List ℕ) × (words : List ℕ) × Writes contents old new text × (after ≡ before ++ words)
    × ((ShowsBadFilter code text words × (status ≡ 1)) ⊎ ((input : List ℕ) × IsInput remaining known lost input × ShowsGoodCode code accept form input status text words)))
shown_of (Ok status) code accept programs form remaining contents known lost old new before after good s =
    (s.0, explanation_of code s.1, s.2, s.4, inr (s.3.0, s.3.1, (programs, good, s.1, s.3.2, refl)))
shown_of (Err fault) code accept programs form remaining contents known lost old new before after good s = tt

part_by : (code : List ℕ) (accept : ℕ) (programs : Programs) (form : PacketForm) {R : Type 0} {remaining : R → Option (List ℕ)} (known left : Source R) (text : List ℕ) → IsFilter code accept programs → ShowsRead programs form remaining known left text
    → ShowsPart code accept form remaining known left text
part_by code accept programs form known left text good (inl nothing) = inl nothing
part_by code accept programs form known left text good (inr read) = inr (record {
  programs = programs;
  good = good;
  input = read.0;
  got = read.1;
  is = read.2;
  short = read.3;
  front = packets_front programs (filter_ends code accept programs good) form read.0 text read.4;
  packets = read.4;
})

pub part_of : (r : Result ℕ EngineFault) (code : List ℕ) (accept : ℕ) (programs : Programs) (form : PacketForm) {R W : Type 0} {remaining : R → Option (List ℕ)} {contents : W → Option (List ℕ)} (known left : Source R) (old new : Sink W) → IsFilter code accept programs
    → (IsErrOf r NoMemory → (text : List ℕ) × ShowsRead programs form remaining known left text × Writes contents old new text)
    → IsErrOf r NoMemory → (text : List ℕ) × ShowsPart code accept form remaining known left text × Writes contents old new text
part_of r code accept programs form known left old new good part = λ memory. let p = part memory in (p.0, part_by code accept programs form known left p.0 good p.1, p.2)

-- the same link type
pub bytes_of_link : (programs : Programs) (link link' : Option ℕ) (input : List ℕ) (status : ℕ) (text : List ℕ) (stop : Option CodeFault) → link' ≡ link → ShowsBytes programs (Capture link') input status text stop → ShowsBytes programs (Capture link) input status text stop
bytes_of_link programs link link' input status text stop same shows = rw same at shows

pub packets_of_link : (programs : Programs) (link link' : Option ℕ) (input text : List ℕ) → link' ≡ link → ShowsPackets programs (Capture link') input text → ShowsPackets programs (Capture link) input text
packets_of_link programs link link' input text same shows = rw same at shows

-- What is shown of an input

abbrev pub ShownInput : {R W : Type 0} → Programs → PacketForm → List ℕ → (R → Option (List ℕ)) → (W → Option (List ℕ)) → Source R → Source R → Sink W → Sink W → List ℕ → List ℕ → ℕ → Type 0
ShownInput programs form code remaining contents known lost old new before after status = (text : List ℕ) × (stop : Option CodeFault) × Writes contents old new text
    × ((input : List ℕ) × IsInput remaining known lost input × ShowsInput programs form input status text stop) × (after ≡ before ++ explanation_of code stop)

-- of one that is too long
pub long_given : (r : Result ℕ EngineFault) (programs : Programs) (form : PacketForm) (code : List ℕ) {R W : Type 0} (remaining : R → Option (List ℕ)) (contents : W → Option (List ℕ)) (known lost : Source R) (old new : Sink W) (before after : List ℕ)
    → GotTooMany remaining known lost INPUT_BYTES → after ≡ before → IfOk r (λ status. (status ≡ 1) × Writes contents old new too_long_line)
    → IfOk r (ShownInput programs form code remaining contents known lost old new before after)
long_given (Err e) programs form code remaining contents known lost old new before after got same wrote = tt
long_given (Ok status) programs form code remaining contents known lost old new before after got same wrote =
    let shown = shown_long (Ok status) _ known lost old new (λ input status text. ShowsInput programs form input status text None) got (λ input long. inr (long, (refl, refl), refl)) wrote in
    (shown.0, None, shown.1, shown.2, same ∙ sym (append-nil before))

-- of lines
pub lines_given : (r : Result ℕ EngineFault) (programs : Programs) (form : PacketForm) (link : ℕ) (code : List ℕ) {R W : Type 0} (remaining : R → Option (List ℕ)) (contents : W → Option (List ℕ)) (known lost : Source R) (old new : Sink W) (before after input : List ℕ)
    → form ≡ Digits link → Gets remaining known lost input × IsAtEnd (remaining lost.inner) × (length input ≤ INPUT_BYTES) → IfOk r (LinesShown programs link (lines input) contents old new code before after)
    → IfOk r (ShownInput programs form code remaining contents known lost old new before after)
lines_given (Err e) programs form link code remaining contents known lost old new before after input is gave shown = tt
lines_given (Ok status) programs form link code remaining contents known lost old new before after input is gave shown =
    rw is (shown.0, shown.1, shown.3, (input, whole_input known lost input gave.0 gave.1, inl (gave.2, shown.2)), shown.4)

-- of a capture
pub capture_given : (r : Result ℕ EngineFault) (programs : Programs) (form : PacketForm) (link : Option ℕ) (code : List ℕ) {R W : Type 0} (remaining : R → Option (List ℕ)) (contents : W → Option (List ℕ)) (known lost : Source R) (old new : Sink W) (before after input : List ℕ) (run : CaptureRun) (outcomes : List Outcome) (stamps : List PacketTime)
    → form ≡ Capture link → run.link ≡ link → Gets remaining known lost input → IsAtEnd (remaining lost.inner) → length input ≤ INPUT_BYTES → HasRun programs input run outcomes stamps
    → IfOk r (λ status. (text : List ℕ) × (stop : Option CodeFault) × Writes contents old new text
    × ((programs : Programs) (fed : List ℕ) (stamps : List PacketTime) → HasRun programs fed run outcomes stamps → ShowsBytes programs (Capture run.link) fed status text stop)
    × (after ≡ before ++ explanation_of code stop))
    → IfOk r (ShownInput programs form code remaining contents known lost old new before after)
capture_given (Err e) programs form link code remaining contents known lost old new before after input run outcomes stamps is same got end short has shown = tt
capture_given (Ok status) programs form link code remaining contents known lost old new before after input run outcomes stamps is same got end short has shown =
    rw is (shown.0, shown.1, shown.2, (input, whole_input known lost input got end, inl (short, bytes_of_link programs link run.link input status shown.0 shown.1 same (shown.3 programs input stamps has))), shown.4)
