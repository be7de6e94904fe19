-- Each input has a whole text, since each packet has an outcome.
use Rattle.std.proofs.Common.{◌≡◌, ℕ, ◌+◌, ◌⊎◌, inl, inr, List, [], ◌∷◌, ◌++◌, length, flat_map, Option, None, Some, Result, Ok, Err, refl, sym, ap, ◌∙◌, append_assoc, IsErr}
use Rattle.std.specs.List.{AllZip}
use Rattle.std.specs.Str.Lines.{lines}
use Rattle.std.proofs.lemmas.Grind.{flat_map-append}
use Rattle.hex.specs.Hex.{decode_of}
use Rattle.bpf_insn.specs.declared.insn.Insn.{Insn}
use Rattle.filter_vm.specs.declared.machine.Outcome.{Outcome}
use Rattle.bpf_insn.specs.Machine.{Ends, Packet}
use Rattle.filter_vm.proofs.Totality.{has_end}
use Rattle.capture_reader.specs.declared.entry.Entry.TheVariants.{Savefile, Section, Interface, Packet as Seen}
use Rattle.capture_reader.specs.Entries.{EntryBytes}
use Rattle.console.specs.declared.form.PacketForm.{PacketForm}
use Rattle.console.specs.declared.form.PacketForm.TheVariants.{Digits, Capture}
use Rattle.engine_io.specs.Reading.{BeginsWith}
use Rattle.console.specs.declared.ending.Ending.{Ending}
use Rattle.console.specs.declared.ending.Ending.TheVariants.{Done}
use Rattle.console.specs.declared.filter.CodeFault.{CodeFault}
use Rattle.console.specs.declared.filter.CodeFault.TheVariants.{Compile, Link as NoLink}
use Rattle.console.specs.Choosing.{chosen}
use Rattle.console.specs.Expressions.{Gives, IsFilter}
use Rattle.console.specs.Matching.{Answers, IsNotRun, ShowsFirst, ShowsFront, ShowsLines, ShowsPackets, StopsBy, capture_ending, ending_status, ending_stop, ending_text, line_ending, outcome_line}
use Rattle.console.specs.Programs.{Programs}
use Rattle.console.specs.Refusing.{AnswersLinked, LinkedPacket, entry_linked, entry_refusal, linked_in, refusal_of, refused_in, served, served_by}
use Rattle.console.specs.Streaming.{ShowsSome}
use Rattle.console.proofs.RunningLemmas.{AllZip-append}

-- bytes, or an error
bytes_or_error : {E : Type 0} (r : Result (List ℕ) E) → ((bytes : List ℕ) × (r ≡ Ok bytes)) ⊎ IsErr r
bytes_or_error (Ok bytes) = inl (bytes, refl)
bytes_or_error (Err e) = inr refl

-- a text that begins the lines of the first outcomes begins the whole
begins_more : (text more : List ℕ) (first rest : List Outcome) (ending : List ℕ) → text ++ more ≡ flat_map outcome_line first
    → BeginsWith text (flat_map outcome_line (first ++ rest) ++ ending)
begins_more text more first rest ending printed =
    let lines : List ℕ = flat_map outcome_line rest in (
      (more ++ lines) ++ ending,
      ap (λ t. t ++ ending) (flat_map-append outcome_line first rest) ∙ ap (λ t. (t ++ lines) ++ ending) (sym printed)
          ∙ ap (λ t. t ++ ending) (append_assoc text more lines) ∙ append_assoc text (more ++ lines) ending,
    )

-- each program that is run gives each packet an outcome
abbrev pub AlwaysEnds : Programs → Type 0
AlwaysEnds programs = (link : ℕ) (program : List Insn) (packet : Packet) → programs link ≡ Ok program → (verdict : ℕ) × (steps : ℕ) × Ends program packet verdict steps

-- what CODE gives to run does
given_ends : (code : List ℕ) (accept number : ℕ) (program : List Insn) (packet : Packet) (given : Result (List Insn) CodeFault) → given ≡ Ok program → Gives code accept number given → (verdict : ℕ) × (steps : ℕ) × Ends program packet verdict steps
given_ends code accept number program packet (Ok other) is gives =
    let same : other ≡ program = one other program is in
    let ends = gives.2.selects packet in
    (_, ends.0, rw same at ends.1)
  where
    one : (x y : List Insn) → (◌≡◌ {A = Result (List Insn) CodeFault} (Ok x) (Ok y)) → x ≡ y
    one x y e = cc
given_ends code accept number program packet (Err fault) is gives = absurd (never fault program is)
  where
    never : (f : CodeFault) (y : List Insn) → (◌≡◌ {A = Result (List Insn) CodeFault} (Err f) (Ok y)) → ⊥
    never f y e = cc

pub filter_ends : (code : List ℕ) (accept : ℕ) (programs : Programs) → IsFilter code accept programs → AlwaysEnds programs
filter_ends code accept programs (inl decimal) = λ link program packet is.
    let same : decimal.1 ≡ program = one decimal.1 program (sym (ap (λ f. f link) decimal.3) ∙ is) in
    let end = has_end program packet (rw same at decimal.2.1) in
    (end.0, end.1, end.2)
  where
    one : (x y : List Insn) → (◌≡◌ {A = Result (List Insn) CodeFault} (Ok x) (Ok y)) → x ≡ y
    one x y e = cc
filter_ends code accept programs (inr expression) = λ link program packet is. given_ends code accept link program packet (programs link) is (expression.1 link)

module _ (programs : Programs) (ends : AlwaysEnds programs) where
  -- the lines that are run, up to the first that isn't
  record Lined (link : ℕ) (all : List (List ℕ)) : Type 0 where
    pub good : List (List ℕ)
    pub outcomes : List Outcome
    pub ran : AllZip (Answers programs link) good outcomes
    pub stops : (all ≡ good) ⊎ ((bad : List ℕ) × (more : List (List ℕ)) × (all ≡ good ++ bad ∷ more) × (stop : Option CodeFault) × IsNotRun programs link bad stop)

  -- a line that spells a packet is run, or CODE has a fault over its link type
  run_or_not : (link : ℕ) (line bytes : List ℕ) → decode_of line ≡ Ok bytes → (given : Result (List Insn) CodeFault) → programs link ≡ given
      → ((outcome : Outcome) × Answers programs link line outcome) ⊎ ((fault : CodeFault) × IsNotRun programs link line (Some fault))
  run_or_not link line bytes spelled (Ok program) is =
      let packet : Packet = record { bytes = bytes; original = length bytes } in
      let end = ends link program packet is in
      inl (record { verdict = end.0; steps = end.1 }, (program, is, packet, (spelled, refl), end.2))
  run_or_not link line bytes spelled (Err fault) is = inr (fault, (rw spelled refl, is))

  lined : (link : ℕ) (all : List (List ℕ)) → Lined link all
  lined link [] = record { good = []; outcomes = []; ran = tt; stops = inl refl }
  lined link (line ∷ all) = elim (bytes_or_error (decode_of line)) [
    | inr bad ↦ record { good = []; outcomes = []; ran = tt; stops = inr (line, all, refl, None, bad) }
    | inl spelled ↦ elim (run_or_not link line spelled.0 spelled.1 (programs link) refl) [
      | inr not ↦ record { good = []; outcomes = []; ran = tt; stops = inr (line, all, refl, Some not.0, not.1) }
      | inl runs ↦
          let rest = lined link all in
          record {
            good = line ∷ rest.good;
            outcomes = runs.0 ∷ rest.outcomes;
            ran = (runs.1, rest.ran);
            stops = elim (rest.stops) [
              | inl whole ↦ inl (ap (λ t. line ∷ t) whole)
              | inr at ↦ inr (at.0, at.1, ap (λ t. line ∷ t) at.2, at.3, at.4)
            ];
          }
    ]
  ]

  lines_front : (link : ℕ) (all : List (List ℕ)) (text : List ℕ) → ShowsFirst (Answers programs link) all text
      → (status : ℕ) × (whole : List ℕ) × (stop : Option CodeFault) × ShowsLines programs link all status whole stop × BeginsWith text whole
  lines_front link all text first =
      let rest = lined link first.left in
      let ran = AllZip-append (Answers programs link) first.good rest.good first.outcomes rest.outcomes first.ran rest.ran in
      elim (rest.stops) [
        | inl whole ↦ (
          0,
          flat_map outcome_line (first.outcomes ++ rest.outcomes) ++ [],
          None,
          record {
            good = first.good ++ rest.good;
            outcomes = first.outcomes ++ rest.outcomes;
            ending = Done;
            ran = ran;
            stops = inl (first.front ∙ ap (λ t. first.good ++ t) whole, refl);
            shown = (refl, refl, refl);
          },
          begins_more text first.more first.outcomes rest.outcomes [] first.printed,
        )
        | inr at ↦
            let ending : Ending = line_ending (length (first.good ++ rest.good) + 1) at.3 in (
              ending_status ending,
              flat_map outcome_line (first.outcomes ++ rest.outcomes) ++ ending_text ending,
              ending_stop ending,
              record {
                good = first.good ++ rest.good;
                outcomes = first.outcomes ++ rest.outcomes;
                ending = ending;
                ran = ran;
                stops = inr (at.0, at.1, first.front ∙ ap (λ t. first.good ++ t) at.2 ∙ sym (append_assoc first.good rest.good (at.0 ∷ at.1)), at.3, at.4, refl);
                shown = (refl, refl, refl);
              },
              begins_more text first.more first.outcomes rest.outcomes (ending_text ending) first.printed,
            )
      ]

  -- each packet of a capture that is served has an outcome
  given_refusal : (link : ℕ) (given : Result (List Insn) CodeFault) → programs link ≡ given → refusal_of given ≡ None → (program : List Insn) × (programs link ≡ Ok program)
  given_refusal link (Ok program) is none = (program, is)
  given_refusal link (Err fault) is none = absurd (never fault none)
    where
      never : (f : CodeFault) → (◌≡◌ {A = Option CodeFault} (Some f) None) → ⊥
      never f e = cc

  entry_ends : (e : EntryBytes) → entry_refusal programs e.0 ≡ None → (outcomes : List Outcome) × AllZip (AnswersLinked programs) (entry_linked e.0 e.1) outcomes
  entry_ends (Savefile h, bytes) none = ([], tt)
  entry_ends (Section s, bytes) none = ([], tt)
  entry_ends (Interface i, bytes) none = ([], tt)
  entry_ends (Seen info, bytes) none =
      let given = given_refusal info.link (programs info.link) refl none in
      let end = ends info.link given.0 (record { bytes = bytes; original = info.original }) given.1 in
      (record { verdict = end.0; steps = end.1 } ∷ [], ((given.0, given.1, end.2), tt))

  captured_head : (r : Option CodeFault) (e : EntryBytes) (served_ones : List EntryBytes) → (r ≡ None → (outcomes : List Outcome) × AllZip (AnswersLinked programs) (entry_linked e.0 e.1) outcomes)
      → (outcomes : List Outcome) × AllZip (AnswersLinked programs) (linked_in served_ones) outcomes → (outcomes : List Outcome) × AllZip (AnswersLinked programs) (linked_in (served_by r e served_ones)) outcomes
  captured_head None e served_ones ran rest =
      let first = ran refl in
      (first.0 ++ rest.0, AllZip-append (AnswersLinked programs) (entry_linked e.0 e.1) (linked_in served_ones) first.0 rest.0 first.1 rest.1)
  captured_head (Some fault) e served_ones ran rest = ([], tt)

  captured : (entries : List EntryBytes) → (outcomes : List Outcome) × AllZip (AnswersLinked programs) (linked_in (served programs entries)) outcomes
  captured [] = ([], tt)
  captured (e ∷ entries) = captured_head (entry_refusal programs e.0) e (served programs entries) (entry_ends e) (captured entries)

  -- packets that were run are the first that are served
  run_served : (entries : List EntryBytes) (good left : List LinkedPacket) (outcomes : List Outcome) → linked_in entries ≡ good ++ left → AllZip (AnswersLinked programs) good outcomes
      → (others : List LinkedPacket) × (linked_in (served programs entries) ≡ good ++ others)
  run_served [] [] left outcomes parts ran = ([], refl)
  run_served [] (p ∷ good) left outcomes parts ran = absurd (never p (good ++ left) parts)
    where
      never : (x : LinkedPacket) (xs : List LinkedPacket) → (◌≡◌ {A = List LinkedPacket} [] (x ∷ xs)) → ⊥
      never x xs e = cc
  run_served ((Savefile h, bytes) ∷ entries) good left outcomes parts ran = run_served entries good left outcomes parts ran
  run_served ((Section s, bytes) ∷ entries) good left outcomes parts ran = run_served entries good left outcomes parts ran
  run_served ((Interface i, bytes) ∷ entries) good left outcomes parts ran = run_served entries good left outcomes parts ran
  run_served ((Seen info, bytes) ∷ entries) [] left outcomes parts ran = (linked_in (served programs ((Seen info, bytes) ∷ entries)), refl)
  run_served ((Seen info, bytes) ∷ entries) (p ∷ good) left [] parts ran = absurd ran
  run_served ((Seen info, bytes) ∷ entries) (p ∷ good) left (o ∷ outcomes) parts ran =
      let seen : LinkedPacket = (info.link, record { bytes = bytes; original = info.original }) in
      let one : seen ≡ p = heads seen p (linked_in entries) (good ++ left) parts in
      let rest = run_served entries good left outcomes (tails seen p (linked_in entries) (good ++ left) parts) ran.1 in
      let goes : refusal_of (programs info.link) ≡ None = ap (λ x. refusal_of (programs (link_in x))) one ∙ ap refusal_of ran.0.1 in
      (rest.0, head (refusal_of (programs info.link)) goes ∙ ap (λ t. seen ∷ t) rest.1 ∙ ap (λ x. x ∷ (good ++ rest.0)) one)
    where
      link_in : LinkedPacket → ℕ
      link_in x = x.0

      heads : (x y : LinkedPacket) (xs ys : List LinkedPacket) → x ∷ xs ≡ y ∷ ys → x ≡ y
      heads x y xs ys e = cc

      tails : (x y : LinkedPacket) (xs ys : List LinkedPacket) → x ∷ xs ≡ y ∷ ys → xs ≡ ys
      tails x y xs ys e = cc

      head : (r : Option CodeFault) → r ≡ None → linked_in (served_by r (Seen info, bytes) (served programs entries)) ≡ (info.link, record { bytes = bytes; original = info.original }) ∷ linked_in (served programs entries)
      head None is = refl
      head (Some fault) is = absurd (never fault is)
        where
          never : (f : CodeFault) → (◌≡◌ {A = Option CodeFault} (Some f) None) → ⊥
          never f e = cc

  -- the outcomes of the first packets, and of the others that are served
  more_ran : (entries : List EntryBytes) (good left : List LinkedPacket) (outcomes : List Outcome) → linked_in entries ≡ good ++ left → AllZip (AnswersLinked programs) good outcomes
      → (rest : List Outcome) × AllZip (AnswersLinked programs) (linked_in (served programs entries)) (outcomes ++ rest)
  more_ran entries good left outcomes parts ran =
      let first = run_served entries good left outcomes parts ran in
      let all = captured entries in
      let rest = after good first.0 all.0 (rw first.1 at all.1) in
      (rest.0, rw first.1 (AllZip-append (AnswersLinked programs) good first.0 outcomes rest.0 ran rest.1))
    where
      -- the outcomes behind the first ones
      after : (good others : List LinkedPacket) (all : List Outcome) → AllZip (AnswersLinked programs) (good ++ others) all → (rest : List Outcome) × AllZip (AnswersLinked programs) others rest
      after [] others all ran = (all, ran)
      after (p ∷ good) others [] ran = absurd ran
      after (p ∷ good) others (o ∷ all) ran = after good others all ran.1

  -- what is shown of the first packets begins what is shown of all
  pub packets_front : (form : PacketForm) (input text : List ℕ) → ShowsPackets programs form input text → ShowsFront programs form input text
  packets_front (Digits link) input text first = lines_front link (lines input) text first
  packets_front (Capture link) input text (entries, fault, reads, first) =
      let rest = more_ran (chosen link entries) first.good first.left first.outcomes first.front first.ran in
      let ending : Ending = capture_ending (refused_in programs (chosen link entries)) fault in (
        ending_status ending,
        flat_map outcome_line (first.outcomes ++ rest.0) ++ ending_text ending,
        ending_stop ending,
        (entries, fault, reads, record { outcomes = first.outcomes ++ rest.0; ran = rest.1; shown = (refl, refl, refl) }),
        begins_more text first.more first.outcomes rest.0 (ending_text ending) first.printed,
      )

  pub some_front : (form : PacketForm) (input text : List ℕ) → ShowsSome programs form input text → ShowsFront programs form input text
  some_front form input text (inl packets) = packets_front form input text packets
  some_front form input text (inr front) = front
