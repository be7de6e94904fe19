-- Of one input one text is shown, with one status.
use Rattle.std.proofs.Common.{◌≡◌, ℕ, ◌+◌, ◌⊎◌, inl, inr, List, [], ◌∷◌, ◌++◌, length, flat_map, Bool, true, false, Option, None, Some, Result, Ok, Err, refl, sym, ap, ◌∙◌, arith, subst, IsErr}
use Rattle.std.specs.Prelude.{IsOk}
use Rattle.std.specs.List.{AllZip}
use Rattle.std.specs.Str.Lines.{lines}
use Rattle.std.proofs.lemmas.List.{append-nil}
use Rattle.hex.specs.Hex.{decode_of}
use Rattle.bpf_insn.specs.declared.insn.Insn.{Insn}
use Rattle.bpf_insn.proofs.DddLaws.{one_program}
use Rattle.filter_vm.specs.declared.machine.Outcome.{Outcome}
use Rattle.bpf_insn.specs.Machine.{Packet, Ends}
use Rattle.filter_vm.proofs.Unique.{Ends-same}
use Rattle.capture_reader.specs.declared.fault.ReadFault.{ReadFault}
use Rattle.capture_reader.specs.Entries.{EntryBytes}
use Rattle.capture_reader.proofs.LawLemmas.{one_reading}
use Rattle.console.specs.declared.form.PacketForm.{PacketForm}
use Rattle.console.specs.declared.form.PacketForm.TheVariants.{Digits, Capture}
use Rattle.console.specs.Choosing.{chosen}
use Rattle.engine_io.specs.Reading.{ShowsTooLong}
use Rattle.console.specs.Reading.{AreBytes, ShowsOne}
use Rattle.console.specs.Faults.{fault_status}
use Rattle.console.specs.declared.ending.Ending.{Ending}
use Rattle.console.specs.declared.ending.Ending.TheVariants.{Done}
use Rattle.console.specs.declared.filter.CodeFault.{CodeFault}
use Rattle.console.specs.Expressions.{IsFilter}
use Rattle.console.specs.Telling.{is_expression}
use Rattle.console.specs.Programs.{Programs, same_for_all}
use Rattle.console.specs.Refusing.{AnswersCaptured, AnswersLinked, LinkedPacket, linked_in, refused_in, served}
use Rattle.engine_io.specs.Showing.{ShowsBounded}
use Rattle.console.specs.Dumping.{ShowsDump, dump_text}
use Rattle.console.specs.Matching.{Answers, IsNotRun, ShowsBytes, ShowsGoodCode, ShowsInput, ShowsLines, StopsBy, capture_ending, ending_status, ending_text, line_ending, outcome_line}

not_both : {b : Bool} → b ≡ true → b ≡ false → ⊥
not_both e f = cc

-- An input whose length has a limit

pub long_once : ShowsOne ShowsTooLong
long_once status other text more one two = (one.0 ∙ sym two.0, one.1 ∙ sym two.1)

pub bounded_once : (Shows : List ℕ → ℕ → List ℕ → Type 0) (input : List ℕ) → ShowsOne (Shows input) → ShowsOne (ShowsBounded Shows input)
bounded_once Shows input once status other text more (inl one) (inl two) = once status other text more one.1 two.1
bounded_once Shows input once status other text more (inl one) (inr two) = absurd (omega (arith, one.0, two.0))
bounded_once Shows input once status other text more (inr one) (inl two) = absurd (omega (arith, one.0, two.0))
bounded_once Shows input once status other text more (inr one) (inr two) = long_once status other text more one.1 two.1

-- A dump

dump_same : (link : Option ℕ) (stamped : Bool) (es es' : List EntryBytes) (f f' : Option ReadFault) → es ≡ es' → f ≡ f' → dump_text link stamped es f ≡ dump_text link stamped es' f'
dump_same link stamped es es' f f' a b = rw (a, b) refl

pub dump_once : (link : Option ℕ) (stamped : Bool) (input : List ℕ) → AreBytes input → ShowsOne (ShowsDump link stamped input)
dump_once link stamped input small status other text more (inl one) (inl two) =
    let same = one_reading input small one.1 two.1 one.2 two.2 one.3 two.3 in
    (one.5 ∙ ap fault_status same.1 ∙ sym two.5, one.4 ∙ dump_same link stamped one.1 two.1 one.2 two.2 same.0 same.1 ∙ sym two.4)
dump_once link stamped input small status other text more (inl one) (inr two) = absurd (omega (arith, one.0, two.0))
dump_once link stamped input small status other text more (inr one) (inl two) = absurd (omega (arith, one.0, two.0))
dump_once link stamped input small status other text more (inr one) (inr two) = long_once status other text more one.1 two.1

-- Packets

outcome_same : (o p : Outcome) → o.verdict ≡ p.verdict → o.steps ≡ p.steps → o ≡ p
outcome_same o p verdict steps = both o.verdict o.steps p.verdict p.steps verdict steps
  where
    both : (v s w t : ℕ) → v ≡ w → s ≡ t → (let a : Outcome = record { verdict = v; steps = s } in let b : Outcome = record { verdict = w; steps = t } in a ≡ b)
    both v s w t a b = rw (a, b) refl

packet_same : (p q : Packet) → p.bytes ≡ q.bytes → p.original ≡ q.original → p ≡ q
packet_same p q bytes original = both p.bytes p.original q.bytes q.original bytes original
  where
    both : (b : List ℕ) (n : ℕ) (c : List ℕ) (m : ℕ) → b ≡ c → n ≡ m → (let x : Packet = record { bytes = b; original = n } in let y : Packet = record { bytes = c; original = m } in x ≡ y)
    both b n c m e f = rw (e, f) refl

AllZip-same : {A : Type 0} (Gives : A → Outcome → Type 0) → ((x : A) (o p : Outcome) → Gives x o → Gives x p → o ≡ p) → (xs : List A) (os ps : List Outcome)
    → AllZip Gives xs os → AllZip Gives xs ps → os ≡ ps
AllZip-same Gives same [] [] [] one two = refl
AllZip-same Gives same [] [] (p ∷ ps) one two = absurd two
AllZip-same Gives same [] (o ∷ os) ps one two = absurd one
AllZip-same Gives same (x ∷ xs) [] ps one two = absurd one
AllZip-same Gives same (x ∷ xs) (o ∷ os) [] one two = absurd two
AllZip-same Gives same (x ∷ xs) (o ∷ os) (p ∷ ps) one two =
    let first : o ≡ p = same x o p one.0 two.0 in
    let rest : os ≡ ps = AllZip-same Gives same xs os ps one.1 two.1 in
    cc

ends_same : (program : List Insn) (packet : Packet) (o p : Outcome) → Ends program packet o.verdict o.steps → Ends program packet p.verdict p.steps → o ≡ p
ends_same program packet o p one two =
    let same = Ends-same program packet o.verdict o.steps p.verdict p.steps one two in
    outcome_same o p same.0 same.1

program_same : (given : Result (List Insn) CodeFault) (program other : List Insn) → given ≡ Ok program → given ≡ Ok other → program ≡ other
program_same given program other one two = let same : (◌≡◌ {A = Result (List Insn) CodeFault} (Ok program) (Ok other)) = sym one ∙ two in cc

answers_same : (programs : Programs) (link : ℕ) (line : List ℕ) (o p : Outcome) → Answers programs link line o → Answers programs link line p → o ≡ p
answers_same programs link line o p (program, runs, packet, hex, ends) (program', runs', packet', hex', ends') =
    let spelled : Ok packet.bytes ≡ Ok packet'.bytes = sym hex.0 ∙ hex'.0 in
    let bytes : packet.bytes ≡ packet'.bytes = cc in
    let same : packet ≡ packet' = packet_same packet packet' bytes (hex.1 ∙ ap length bytes ∙ sym hex'.1) in
    let one : program ≡ program' = program_same (programs link) program program' runs runs' in
    let ended : Ends program' packet' o.verdict o.steps = rw (same, one) at ends in
    ends_same program' packet' o p ended ends'

linked_same : (programs : Programs) (packet : LinkedPacket) (o p : Outcome) → AnswersLinked programs packet o → AnswersLinked programs packet p → o ≡ p
linked_same programs packet o p (program, runs, ends) (program', runs', ends') =
    let one : program ≡ program' = program_same (programs packet.0) program program' runs runs' in
    ends_same program' (record { bytes = packet.1.bytes; original = packet.1.original }) o p (subst (λ (code : List Insn). AnswersCaptured code packet.1 o) one ends) ends'

-- Lines

-- what follows the lines that were run: nothing, or a line that isn't
abbrev IsRest : Programs → ℕ → List (List ℕ) → Type 0
IsRest programs link rest = (rest ≡ []) ⊎ ((bad : List ℕ) × (more : List (List ℕ)) × (stop : Option CodeFault) × (rest ≡ bad ∷ more) × IsNotRun programs link bad stop)

run_or_not : (programs : Programs) (link : ℕ) (line : List ℕ) (o : Outcome) (stop : Option CodeFault) → Answers programs link line o → IsNotRun programs link line stop → ⊥
run_or_not programs link line o None (program, runs, packet, hex, ends) wrong = let no = rw hex.0 at wrong in cc
run_or_not programs link line o (Some fault) (program, runs, packet, hex, ends) wrong = never fault program (sym wrong.1 ∙ runs)
  where
    never : (f : CodeFault) (y : List Insn) → (◌≡◌ {A = Result (List Insn) CodeFault} (Err f) (Ok y)) → ⊥
    never f y e = cc

-- a line has one reason not to be run
stop_one : (programs : Programs) (link : ℕ) (line : List ℕ) (stop stop' : Option CodeFault) → IsNotRun programs link line stop → IsNotRun programs link line stop' → stop ≡ stop'
stop_one programs link line None None one two = refl
stop_one programs link line None (Some fault) one two = absurd (never (decode_of line) one two.0)
  where
    never : {T E : Type 0} (r : Result T E) → IsErr r → IsOk r → ⊥
    never (Ok v) e o = cc
    never (Err x) e o = cc
stop_one programs link line (Some fault) None one two = absurd (never (decode_of line) two one.0)
  where
    never : {T E : Type 0} (r : Result T E) → IsErr r → IsOk r → ⊥
    never (Ok v) e o = cc
    never (Err x) e o = cc
stop_one programs link line (Some fault) (Some other) one two = ap (λ f. Some f) (same fault other (sym one.1 ∙ two.1))
  where
    same : (f g : CodeFault) → (◌≡◌ {A = Result (List Insn) CodeFault} (Err f) (Err g)) → f ≡ g
    same f g e = cc

answered_not_rest : (programs : Programs) (link : ℕ) (line : List ℕ) (o : Outcome) (later rest : List (List ℕ)) → Answers programs link line o → rest ≡ line ∷ later → IsRest programs link rest → ⊥
answered_not_rest programs link line o later rest answers begins (inl none) = cc
answered_not_rest programs link line o later rest answers begins (inr at) =
    let e : at.0 ∷ at.1 ≡ line ∷ later = sym at.3 ∙ begins in
    let same : at.0 ≡ line = cc in
    run_or_not programs link line o at.2 answers (subst (λ (l : List ℕ). IsNotRun programs link l at.2) same at.4)

good_same : (programs : Programs) (link : ℕ) (good good' rest rest' : List (List ℕ)) (os os' : List Outcome) → good ++ rest ≡ good' ++ rest' → AllZip (Answers programs link) good os → AllZip (Answers programs link) good' os'
    → IsRest programs link rest → IsRest programs link rest' → (good ≡ good') × (rest ≡ rest')
good_same programs link [] [] rest rest' os os' e ran ran' stops stops' = (refl, e)
good_same programs link [] (line ∷ good') rest rest' os [] e ran ran' stops stops' = absurd ran'
good_same programs link [] (line ∷ good') rest rest' os (o ∷ os') e ran ran' stops stops' = absurd (answered_not_rest programs link line o (good' ++ rest') rest ran'.0 e stops)
good_same programs link (line ∷ good) [] rest rest' [] os' e ran ran' stops stops' = absurd ran
good_same programs link (line ∷ good) [] rest rest' (o ∷ os) os' e ran ran' stops stops' = absurd (answered_not_rest programs link line o (good ++ rest) rest' ran.0 (sym e) stops')
good_same programs link (line ∷ good) (line' ∷ good') rest rest' [] os' e ran ran' stops stops' = absurd ran
good_same programs link (line ∷ good) (line' ∷ good') rest rest' (o ∷ os) [] e ran ran' stops stops' = absurd ran'
good_same programs link (line ∷ good) (line' ∷ good') rest rest' (o ∷ os) (o' ∷ os') e ran ran' stops stops' =
    let whole : line ∷ (good ++ rest) ≡ line' ∷ (good' ++ rest') = e in
    let first : line ≡ line' = cc in
    let others : good ++ rest ≡ good' ++ rest' = cc in
    let same = good_same programs link good good' rest rest' os os' others ran.1 ran'.1 stops stops' in
    let goods : good ≡ good' = same.0 in
    (cc, same.1)

-- how the lines stop, with what follows the good ones
abbrev StopsAt : Programs → ℕ → List (List ℕ) → List (List ℕ) → List (List ℕ) → Ending → Type 0
StopsAt programs link all good rest ending = (all ≡ good ++ rest) × IsRest programs link rest
    × (((rest ≡ []) × (ending ≡ Done))
    ⊎ ((bad : List ℕ) × (more : List (List ℕ)) × (stop : Option CodeFault) × (rest ≡ bad ∷ more) × IsNotRun programs link bad stop × (ending ≡ line_ending (length good + 1) stop)))

stops_at : (programs : Programs) (link : ℕ) (all good : List (List ℕ)) (ending : Ending) → StopsBy programs link all good ending → (rest : List (List ℕ)) × StopsAt programs link all good rest ending
stops_at programs link all good ending (inl ended) = ([], (ended.0 ∙ sym (append-nil good), inl refl, inl (refl, ended.1)))
stops_at programs link all good ending (inr at) = (at.0 ∷ at.1, (at.2, inr (at.0, at.1, at.3, refl, at.4), inr (at.0, at.1, at.3, refl, at.4, at.5)))

stop_same : (programs : Programs) (link : ℕ) (all good good' rest rest' : List (List ℕ)) (ending ending' : Ending) → StopsAt programs link all good rest ending → StopsAt programs link all good' rest' ending'
    → good ≡ good' → rest ≡ rest' → ending ≡ ending'
stop_same programs link all good good' rest rest' ending ending' one two goods rests = elim (one.2) [
  | inl ended ↦ elim (two.2) [
    | inl ended' ↦ ended.1 ∙ sym ended'.1
    | inr at' ↦ let never : [] ≡ at'.0 ∷ at'.1 = sym ended.0 ∙ rests ∙ at'.3 in absurd (cc)
  ]
  | inr at ↦ elim (two.2) [
    | inl ended' ↦ let never : [] ≡ at.0 ∷ at.1 = sym ended'.0 ∙ sym rests ∙ at.3 in absurd (cc)
    | inr at' ↦
        let e : at.0 ∷ at.1 ≡ at'.0 ∷ at'.1 = sym at.3 ∙ rests ∙ at'.3 in
        let bad : at.0 ≡ at'.0 = cc in
        let stops = stop_one programs link at'.0 at.2 at'.2 (subst (λ (l : List ℕ). IsNotRun programs link l at.2) bad at.4) at'.4 in
        at.5 ∙ ap (λ (g : List (List ℕ)). line_ending (length g + 1) at.2) goods ∙ ap (λ (s : Option CodeFault). line_ending (length good' + 1) s) stops ∙ sym at'.5
  ]
]

lines_once : (programs : Programs) (link : ℕ) (all : List (List ℕ)) → ShowsOne (λ status text. (stop : Option CodeFault) × ShowsLines programs link all status text stop)
lines_once programs link all status other text more (stop, one) (stop', two) =
    let at = stops_at programs link all one.good one.ending one.stops in
    let at' = stops_at programs link all two.good two.ending two.stops in
    let same = good_same programs link one.good two.good at.0 at'.0 one.outcomes two.outcomes (sym at.1.0 ∙ at'.1.0) one.ran two.ran at.1.1 at'.1.1 in
    let ends = stop_same programs link all one.good two.good at.0 at'.0 one.ending two.ending at.1 at'.1 same.0 same.1 in
    let ran : AllZip (Answers programs link) two.good one.outcomes = rw same.0 at one.ran in
    let outcomes : one.outcomes ≡ two.outcomes = AllZip-same (Answers programs link) (answers_same programs link) two.good one.outcomes two.outcomes ran two.ran in (
      one.shown.0 ∙ ap ending_status ends ∙ sym two.shown.0,
      one.shown.1 ∙ ap (λ o. flat_map outcome_line o ++ ending_text one.ending) outcomes ∙ ap (λ e. flat_map outcome_line two.outcomes ++ ending_text e) ends ∙ sym two.shown.1,
    )

-- Captures

capture_once : (programs : Programs) (link : Option ℕ) (input : List ℕ) → AreBytes input → ShowsOne (λ status text. (stop : Option CodeFault) × ShowsBytes programs (Capture link) input status text stop)
capture_once programs link input small status other text more (stop, (es, f, reads, shown)) (stop', (es', f', reads', shown')) =
    let same = one_reading input small es es' f f' reads reads' in
    let ran : AllZip (AnswersLinked programs) (linked_in (served programs (chosen link es'))) shown.outcomes = rw same.0 at shown.ran in
    let outcomes : shown.outcomes ≡ shown'.outcomes = AllZip-same (AnswersLinked programs) (linked_same programs) (linked_in (served programs (chosen link es'))) shown.outcomes shown'.outcomes ran shown'.ran in
    let ends : capture_ending (refused_in programs (chosen link es)) f ≡ capture_ending (refused_in programs (chosen link es')) f' =
    ap (λ e. capture_ending (refused_in programs (chosen link e)) f) same.0 ∙ ap (λ g. capture_ending (refused_in programs (chosen link es')) g) same.1 in (
      shown.shown.0 ∙ ap ending_status ends ∙ sym shown'.shown.0,
      shown.shown.1 ∙ ap (λ o. flat_map outcome_line o ++ ending_text (capture_ending (refused_in programs (chosen link es)) f)) outcomes ∙ ap (λ e. flat_map outcome_line shown'.outcomes ++ ending_text e) ends ∙ sym shown'.shown.1,
    )

bytes_once : (programs : Programs) (form : PacketForm) (input : List ℕ) → AreBytes input → ShowsOne (λ status text. (stop : Option CodeFault) × ShowsBytes programs form input status text stop)
bytes_once programs (Digits link) input small = lines_once programs link (lines input)
bytes_once programs (Capture link) input small = capture_once programs link input small

pub input_once : (programs : Programs) (form : PacketForm) (input : List ℕ) → AreBytes input → ShowsOne (λ status text. (stop : Option CodeFault) × ShowsInput programs form input status text stop)
input_once programs form input small status other text more (stop, inl one) (stop', inl two) = bytes_once programs form input small status other text more (stop, one.1) (stop', two.1)
input_once programs form input small status other text more (stop, inl one) (stop', inr two) = absurd (omega (arith, one.0, two.0))
input_once programs form input small status other text more (stop, inr one) (stop', inl two) = absurd (omega (arith, one.0, two.0))
input_once programs form input small status other text more (stop, inr one) (stop', inr two) = long_once status other text more one.1 two.1

-- a decimal text has one program
programs_same : (code : List ℕ) (accept : ℕ) (programs programs' : Programs) → is_expression code ≡ false → IsFilter code accept programs → IsFilter code accept programs' → programs ≡ programs'
programs_same code accept programs programs' plain (inl one) (inl two) = one.3 ∙ ap same_for_all (one_program code one.1 two.1 one.2.0 two.2.0) ∙ sym two.3
programs_same code accept programs programs' plain (inl one) (inr two) = absurd (not_both two.0 plain)
programs_same code accept programs programs' plain (inr one) two = absurd (not_both one.0 plain)

pub good_code_once : (code : List ℕ) (accept : ℕ) (form : PacketForm) → is_expression code ≡ false → (input : List ℕ) → AreBytes input
    → ShowsOne (λ status text. (words : List ℕ) × ShowsGoodCode code accept form input status text words)
good_code_once code accept form plain input small status other text more (words, (programs, good, stop, shows, told)) (words', (programs', good', stop', shows', told')) =
    let same = programs_same code accept programs programs' plain good good' in
    input_once programs' form input small status other text more (stop, subst (λ (p : Programs). ShowsInput p form input status text stop) same shows) (stop', shows')
