-- What a view shows of some outcomes and of more.
use Rattle.std.proofs.Common.{◌≡◌, ℕ, zero, suc, ◌+◌, ◌⊎◌, inl, inr, List, [], ◌∷◌, ◌++◌, length, flat_map, Option, None, Some, refl, sym, ap, ◌∙◌, append_assoc, add-zero, arith}
use Rattle.std.specs.Prelude.{Result, Ok, Err, OnErr}
use Rattle.engine_io.specs.declared.sink.Sink.{Sink}
use Rattle.engine_io.specs.Devices.{Writes}
use Rattle.engine_io.proofs.KnownBytesLemmas.{writes-nothing}
use Rattle.std.proofs.lemmas.List.Sums.{sum_by-append}
use Rattle.console.specs.Programs.{Programs}
use Rattle.filter_vm.specs.declared.machine.Outcome.{Outcome}
use Rattle.console.specs.declared.ending.Ending.{Ending}
use Rattle.console.specs.declared.ending.Ending.TheVariants.{Done, BadLine, Refused, Fault}
use Rattle.capture_reader.specs.declared.entry.PacketTime.{PacketTime}
use Rattle.console.specs.declared.form.PacketForm.{PacketForm}
use Rattle.console.specs.declared.form.PacketForm.TheVariants.{Digits, Capture}
use Rattle.console.specs.declared.view.View.{View}
use Rattle.console.specs.declared.view.View.TheVariants.{Lines, Numbers, Count, NumbersAndCount, Quiet}
use Rattle.console.specs.declared.filter.CodeFault.{CodeFault}
use Rattle.console.specs.declared.tally.Finished.{Finished}
use Rattle.console.specs.Matching.{ShowsBytes, ShowsPackets, ending_status, ending_stop, ending_text, outcome_line}
use Rattle.console.specs.Streaming.{ShowsSome}
use Rattle.console.specs.Views.{RanFirst, ShowsEnd, ShowsView, ShowsViewPart, accepted, shown_after, other_stamps, shown_at_once, shown_line}
use Rattle.engine_io.specs.Reading.{BeginsWith}

plain-append : (view : View) (n : ℕ) (first more : List Outcome) → shown_at_once view n [] (first ++ more) ≡ shown_at_once view n [] first ++ shown_at_once view (n + length first) [] more
plain-append view n [] more = ap (λ k. shown_at_once view k [] more) (sym (add-zero n))
plain-append view n (o ∷ first) more =
    let next : n + 1 + length first ≡ n + length (o ∷ first) = omega arith in
    ap (λ t. shown_line view (n + 1) None o ++ t) (plain-append view (n + 1) first more ∙ ap (λ k. shown_at_once view (n + 1) [] first ++ shown_at_once view k [] more) next)
    ∙ sym (append_assoc (shown_line view (n + 1) None o) (shown_at_once view (n + 1) [] first) (shown_at_once view (n + length (o ∷ first)) [] more))

stamped-append : (view : View) (n : ℕ) (ss ts : List PacketTime) (first more : List Outcome) → length ss ≡ length first
    → shown_at_once view n (ss ++ ts) (first ++ more) ≡ shown_at_once view n ss first ++ shown_at_once view (n + length first) ts more
stamped-append view n [] ts [] more same = ap (λ k. shown_at_once view k ts more) (sym (add-zero n))
stamped-append view n (s ∷ ss) ts [] more same = absurd (omega (arith, same))
stamped-append view n [] ts (o ∷ first) more same = absurd (omega (arith, same))
stamped-append view n (s ∷ ss) ts (o ∷ first) more same =
    let next : n + 1 + length first ≡ n + length (o ∷ first) = omega arith in
    let shorter : length ss ≡ length first = omega (arith, same) in
    ap (λ t. shown_line view (n + 1) (Some s) o ++ t) (stamped-append view (n + 1) ss ts first more shorter ∙ ap (λ k. shown_at_once view (n + 1) ss first ++ shown_at_once view k ts more) next)
    ∙ sym (append_assoc (shown_line view (n + 1) (Some s) o) (shown_at_once view (n + 1) ss first) (shown_at_once view (n + length (o ∷ first)) ts more))

pub shown-append : (view : View) (n : ℕ) (ss ts : List PacketTime) (first more : List Outcome) → (length ss ≡ length first) ⊎ ((ss ≡ []) × (ts ≡ []))
    → shown_at_once view n (ss ++ ts) (first ++ more) ≡ shown_at_once view n ss first ++ shown_at_once view (n + length first) ts more
shown-append view n ss ts first more (inl same) = stamped-append view n ss ts first more same
shown-append view n ss ts first more (inr none) = rw (none.0, none.1) (plain-append view n first more)

-- lines without numbers
pub lines_flat : (n : ℕ) (stamps : List PacketTime) (outcomes : List Outcome) → shown_at_once Lines n stamps outcomes ≡ flat_map outcome_line outcomes
lines_flat n stamps [] = refl
lines_flat n stamps (o ∷ outcomes) = ap (λ t. outcome_line o ++ t) (lines_flat (n + 1) (other_stamps stamps) outcomes)

pub accepted-append : (first more : List Outcome) → accepted (first ++ more) ≡ accepted first + accepted more
accepted-append first more = sum_by-append _ first more

-- what is shown under `Lines` is what `match` shows
pub lines_shows : (programs : Programs) (form : PacketForm) (input : List ℕ) (status : ℕ) (text : List ℕ) (stop : Option CodeFault) → ShowsView Lines programs form input status text stop → ShowsBytes programs form input status text stop
lines_shows programs (Digits link) input status text stop s = record {
  good = s.2.0;
  outcomes = s.0;
  ending = s.1;
  ran = s.2.1;
  stops = s.2.2;
  shown = (s.5.0, s.5.1 ∙ ap (λ t. t ++ ending_text s.1) (lines_flat 0 s.3 s.0), s.5.2);
}
lines_shows programs (Capture link) input status text stop s = (
  s.2.0,
  s.2.1,
  s.2.2,
  record {
    outcomes = s.0;
    ran = s.2.3;
    shown = (
      s.5.0 ∙ ap ending_status s.2.4,
      s.5.1 ∙ ap (λ t. t ++ ending_text s.1) (lines_flat 0 s.3 s.0) ∙ ap (λ e. flat_map outcome_line s.0 ++ ending_text e) s.2.4,
      s.5.2 ∙ ap ending_stop s.2.4,
    );
  },
)

lines_packets : (programs : Programs) (form : PacketForm) (input text : List ℕ) (outcomes : List Outcome) (stamps : List PacketTime) → RanFirst programs form input outcomes → BeginsWith text (shown_at_once Lines 0 stamps outcomes)
    → ShowsPackets programs form input text
lines_packets programs (Digits link) input text outcomes stamps ran begins = record {
  good = ran.0;
  left = ran.1;
  outcomes = outcomes;
  more = begins.0;
  front = ran.2;
  ran = ran.3;
  printed = sym begins.1 ∙ lines_flat 0 stamps outcomes;
}
lines_packets programs (Capture link) input text outcomes stamps ran begins = (
  ran.0,
  ran.1,
  ran.2,
  record {
    good = ran.3;
    left = ran.4;
    outcomes = outcomes;
    more = begins.0;
    front = ran.5;
    ran = ran.6;
    printed = sym begins.1 ∙ lines_flat 0 stamps outcomes;
  },
)

pub lines_part : (programs : Programs) (form : PacketForm) (input text : List ℕ) → ShowsViewPart Lines programs form input text → ShowsSome programs form input text
lines_part programs form input text (inl first) = inl (lines_packets programs form input text first.0 first.2 first.1 first.4)
lines_part programs form input text (inr all) = inr (all.0, all.1, all.2, lines_shows programs form input all.0 all.1 all.2 all.3, all.4)

-- the end that goes with a line
abbrev pub finished_by : Ending → Finished
finished_by ending = record { status = ending_status ending; stop = ending_stop ending }

-- something is shown at the end
some_end : (view : View) (some all : ℕ) (ending : Ending) → (finished : Finished) × (whole : List ℕ) × ShowsEnd view some all ending whole finished
some_end Lines some all ending = (finished_by ending, shown_after Lines some all ++ ending_text ending, (refl, refl, refl))
some_end Numbers some all ending = (finished_by ending, shown_after Numbers some all ++ ending_text ending, (refl, refl, refl))
some_end Count some all ending = (finished_by ending, shown_after Count some all ++ ending_text ending, (refl, refl, refl))
some_end NumbersAndCount some all ending = (finished_by ending, shown_after NumbersAndCount some all ++ ending_text ending, (refl, refl, refl))
some_end Quiet zero all Done = (record { status = 4; stop = None }, [], (refl, inr (refl, inl (refl, refl), refl)))
some_end Quiet zero all (BadLine number) = (record { status = 1; stop = None }, [], (refl, inr (refl, inr (refl, refl), refl)))
some_end Quiet zero all (Refused fault) = (record { status = 1; stop = Some fault }, [], (refl, inr (refl, inr (refl, refl), refl)))
some_end Quiet zero all (Fault fault) = (record { status = 1; stop = None }, [], (refl, inr (refl, inr (refl, refl), refl)))
some_end Quiet (suc n) all ending = (record { status = 0; stop = None }, [], (refl, inl (omega arith, refl, refl)))

-- and nothing of it was written
pub end_unwritten : {T E : Type 0} (r : Result T E) (view : View) (some all : ℕ) (ending : Ending) {W : Type 0} (contents : W → Option (List ℕ)) (known : Sink W)
    → OnErr r ((text : List ℕ) × Writes contents known known text × ((finished : Finished) × (whole : List ℕ) × ShowsEnd view some all ending whole finished × BeginsWith text whole))
end_unwritten (Ok v) view some all ending contents known = tt
end_unwritten (Err e) view some all ending contents known = let end = some_end view some all ending in ([], writes-nothing known, (end.0, end.1, end.2, (end.1, refl)))

-- all of it, but under `Quiet`
pub end_written : (view : View) (some all : ℕ) (ending : Ending) (text : List ℕ) → (view ≡ Quiet → ⊥) → text ≡ shown_after view some all ++ ending_text ending
    → ShowsEnd view some all ending text (finished_by ending)
end_written Lines some all ending text loud is = (is, refl, refl)
end_written Numbers some all ending text loud is = (is, refl, refl)
end_written Count some all ending text loud is = (is, refl, refl)
end_written NumbersAndCount some all ending text loud is = (is, refl, refl)
end_written Quiet some all ending text loud is = absurd (loud refl)

pub end_told : (view : View) (some all : ℕ) (ending : Ending) (text : List ℕ) (status : ℕ) (stop : Option CodeFault) → (view ≡ Quiet → ⊥) → text ≡ shown_after view some all ++ ending_text ending
    → status ≡ ending_status ending → stop ≡ ending_stop ending → ShowsEnd view some all ending text (record { status = status; stop = stop })
end_told view some all ending text status stop loud is at met = rw (at, met) (end_written view some all ending text loud is)

-- a front of it
pub end_front : {T E : Type 0} (r : Result T E) (view : View) (some all : ℕ) (ending : Ending) (text : List ℕ) {W : Type 0} {contents : W → Option (List ℕ)} (old new : Sink W) → (view ≡ Quiet → ⊥) → text ≡ shown_after view some all ++ ending_text ending
    → (front : List ℕ) × BeginsWith front text × Writes contents old new front
    → OnErr r ((text : List ℕ) × Writes contents old new text × ((finished : Finished) × (whole : List ℕ) × ShowsEnd view some all ending whole finished × BeginsWith text whole))
end_front (Ok v) view some all ending text old new loud is failed = tt
end_front (Err e) view some all ending text old new loud is failed = (failed.0, failed.2, (finished_by ending, text, end_written view some all ending text loud is, failed.1))
