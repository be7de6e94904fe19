-- What `match --explain` has gathered after some of its lines.
use Rattle.std.proofs.Common.{◌≡◌, ℕ, ◌+◌, ◌<◌, List, [], ◌∷◌, ◌++◌, length, refl, ap, sym, ◌∙◌, append_assoc, arith, length-append, inl, inr, subst, ap₂, Option, None, Some, Result, Ok, Err, false, true}
use Rattle.std.specs.Prelude.{IfOk, OnOk, ◌≤◌, ◌⊎◌}
use Rattle.std.specs.Io.KnownBytes.{IsAtEnd}
use Rattle.std.proofs.lemmas.List.{append-nil, map-append}
use Rattle.std.proofs.lemmas.Grind.{flat_map-append}
use Rattle.std.specs.List.{All, AllZip, flat_map}
use Rattle.std.proofs.lemmas.Option.{slice_get-get_or}
use Rattle.bpf_insn.specs.declared.insn.Insn.{Insn}
use Rattle.bpf_insn.proofs.Places.{FormAt-inside}
use Rattle.filter_vm.specs.declared.machine.tracing.Taken.{Taken}
use Rattle.bpf_insn.specs.Machine.{Packet, State}
use Rattle.filter_vm.specs.Tracing.{IsTaken, Traces}
use Rattle.console.proofs.MatchingLemmas.{flat_map-push}
use Rattle.console.specs.declared.ending.Ending.{Ending}
use Rattle.console.specs.declared.ending.Ending.TheVariants.{Refused}
use Rattle.console.specs.declared.captured.KeptEntry.{KeptEntry}
use Rattle.console.specs.declared.form.PacketForm.{PacketForm}
use Rattle.capture_reader.specs.declared.entry.Entry.{Entry}
use Rattle.capture_reader.specs.declared.entry.Entry.TheVariants.{Savefile, Section, Interface, Packet as PacketEntry}
use Rattle.capture_reader.specs.declared.entry.PacketInfo.{PacketInfo}
use Rattle.capture_reader.specs.declared.fault.ReadFault.{ReadFault}
use Rattle.capture_reader.specs.Entries.{EntryBytes}
use Rattle.console.specs.Choosing.{chosen, is_link}
use Rattle.console.specs.Reading.{entries_of}
use Rattle.console.specs.Refusing.{linked_in, refused_in, served}
use Rattle.console.proofs.RefusingLemmas.{added_parts, linked_in-append, passed_parts}
use Rattle.console.proofs.RunningLemmas.{AllZip-append, chosen-append}
use Rattle.console.specs.declared.filter.CodeFault.{CodeFault}
use Rattle.console.specs.Expressions.{IsFilter, ShowsBadFilter, explanation_of}
use Rattle.console.specs.Matching.{IsNotRun, capture_ending, ending_status, ending_stop, ending_text, line_ending}
use Rattle.console.specs.Programs.{Programs}
use Rattle.engine_io.specs.declared.fault.EngineFault.{EngineFault}
use Rattle.engine_io.specs.declared.input.TheConstants.{INPUT_BYTES}
use Rattle.engine_io.specs.declared.source.Source.{Source}
use Rattle.engine_io.specs.declared.sink.Sink.{Sink}
use Rattle.engine_io.specs.Devices.{Gets, Writes}
use Rattle.engine_io.specs.Reading.{GotTooMany, IsInput, too_long_line}
use Rattle.engine_io.proofs.InputLemmas.{shown_long, whole_input}
use Rattle.graph_engine.specs.Explaining.{Explains, ExplainsBytes, ExplainsEntries, ExplainsEntry, ExplainsLines, ExplainsLinked, ExplainsPackets, ExplainsRun, ShowsExplained, ShowsInput}
use Rattle.pcap_reader.proofs.FeedLemmas.{AllZip-push}

-- all is lines that were explained and the rest, and the text is their explanations
pub record SoFar (programs : Programs) (link : ℕ) (all rest : List (List ℕ)) (number : ℕ) (text : List ℕ) : Type 0 where
  pub good : List (List ℕ)
  pub texts : List (List ℕ)
  pub front : all ≡ good ++ rest
  pub explained : AllZip (Explains programs link) good texts
  pub count : number ≡ length good
  pub printed : text ≡ flat_map (λ t. t) texts

pub so_far_start : (programs : Programs) (link : ℕ) (all : List (List ℕ)) → SoFar programs link all all 0 []
so_far_start programs link all = record { good = []; texts = []; front = refl; explained = tt; count = refl; printed = refl }

pub so_far_next : (programs : Programs) (link : ℕ) (all left rest : List (List ℕ)) (line : List ℕ) (n m : ℕ) (text text' more : List ℕ)
    → left ≡ line ∷ rest → SoFar programs link all left n text → Explains programs link line more → text' ≡ text ++ more → m ≡ n + 1 → SoFar programs link all rest m text'
so_far_next programs link all left rest line n m text text' more first so explains longer one = record {
  good = so.good ++ line ∷ [];
  texts = so.texts ++ more ∷ [];
  front = so.front ∙ ap (λ t. so.good ++ t) first ∙ sym (append_assoc so.good (line ∷ []) rest);
  explained = AllZip-push (Explains programs link) so.good so.texts line more so.explained explains;
  count = simp length-append (omega (arith, so.count));
  printed = longer ∙ ap (λ t. t ++ more) so.printed ∙ sym (flat_map-push (λ t. t) so.texts more);
}

-- the next line isn't run
pub some_explained : (programs : Programs) (link : ℕ) (all left rest : List (List ℕ)) (line : List ℕ) (n m : ℕ) (text : List ℕ) (stop : Option CodeFault) (ending : Ending) → left ≡ line ∷ rest → SoFar programs link all left n text → m ≡ n + 1
    → IsNotRun programs link line stop → ending ≡ line_ending m stop → ExplainsLines programs link all ending text
some_explained programs link all left rest line n m text stop ending first so one not_run is = record {
  good = so.good;
  texts = so.texts;
  explained = so.explained;
  stops = inr (line, rest, so.front ∙ ap (λ t. so.good ++ t) first, stop, not_run, is ∙ ap (λ k. line_ending k stop) (one ∙ ap (λ k. k + 1) so.count));
  printed = so.printed;
}

-- Packets of a capture

-- none
pub no_packets : (programs : Programs) → ExplainsPackets programs [] []
no_packets programs = record { texts = []; explained = tt; printed = refl }

-- of some entries, none of which is refused, and then of others
pub packets_then : (programs : Programs) (before next : List EntryBytes) (text more : List ℕ) → refused_in programs before ≡ None → ExplainsPackets programs before text → ExplainsPackets programs next more
    → ExplainsPackets programs (before ++ next) (text ++ more)
packets_then programs before next text more none first second =
    let parts = added_parts programs before next (before ++ next) refl none in
    let linked : linked_in (served programs (before ++ next)) ≡ linked_in (served programs before) ++ linked_in (served programs next) =
    ap linked_in parts.0 ∙ linked_in-append (served programs before) (served programs next) in
    record {
      texts = first.texts ++ second.texts;
      explained = subst (λ packets. AllZip (ExplainsLinked programs) packets (first.texts ++ second.texts)) (sym linked)
          (AllZip-append (ExplainsLinked programs) (linked_in (served programs before)) (linked_in (served programs next)) first.texts second.texts first.explained second.explained);
      printed = ap₂ (λ x y. x ++ y) first.printed second.printed ∙ sym (flat_map-append (λ t. t) first.texts second.texts);
    }

-- of an entry that isn't the packet of a link type that is named
left_out : (programs : Programs) (entries : List EntryBytes) (before : List ℕ) → linked_in (served programs entries) ≡ [] → refused_in programs entries ≡ None → ExplainsEntry programs entries None before before
left_out programs entries before none going =
    ([], record { texts = []; explained = subst (λ packets. AllZip (ExplainsLinked programs) packets []) (sym none) tt; printed = refl }, sym (append-nil before), sym going)

pub no_packet : (programs : Programs) (link : Option ℕ) (entry : Entry) (bytes before : List ℕ) → ((info : PacketInfo) → entry ≡ PacketEntry info → ⊥) → ExplainsEntry programs (chosen link ((entry, bytes) ∷ [])) None before before
no_packet programs link (Savefile h) bytes before other = left_out programs ((Savefile h, bytes) ∷ []) before refl refl
no_packet programs link (Section s) bytes before other = left_out programs ((Section s, bytes) ∷ []) before refl refl
no_packet programs link (Interface i) bytes before other = left_out programs ((Interface i, bytes) ∷ []) before refl refl
no_packet programs link (PacketEntry info) bytes before other = absurd (other info refl)

pub other_link : (programs : Programs) (link : Option ℕ) (entry : Entry) (info : PacketInfo) (bytes before : List ℕ) → entry ≡ PacketEntry info → is_link link info.link ≡ false → ExplainsEntry programs (chosen link ((entry, bytes) ∷ [])) None before before
other_link programs link entry info bytes before is other = rw (is, other) (left_out programs [] before refl refl)

-- of a packet that was run
pub one_explained : (programs : Programs) (link : Option ℕ) (entry : Entry) (info : PacketInfo) (bytes before after more : List ℕ) (program : List Insn) → entry ≡ PacketEntry info → is_link link info.link ≡ true → programs info.link ≡ Ok program
    → ExplainsRun program (record { bytes = bytes; original = info.original }) more → after ≡ before ++ more → ExplainsEntry programs (chosen link ((entry, bytes) ∷ [])) None before after
one_explained programs link entry info bytes before after more program is chosen_is runs explains longer =
    let there : ExplainsLinked programs (info.link, record { bytes = bytes; original = info.original }) more = (program, runs, explains) in
    let all : ExplainsPackets programs ((PacketEntry info, bytes) ∷ []) more = record { texts = more ∷ []; explained = rw runs (there, tt); printed = sym (append-nil more) } in
    let going : refused_in programs ((PacketEntry info, bytes) ∷ []) ≡ None = rw runs refl in
    rw (is, chosen_is) (more, all, longer, sym going)

-- and of one that is refused
pub one_refused : (programs : Programs) (link : Option ℕ) (entry : Entry) (info : PacketInfo) (bytes before : List ℕ) (fault : CodeFault) → entry ≡ PacketEntry info → is_link link info.link ≡ true → programs info.link ≡ Err fault
    → ExplainsEntry programs (chosen link ((entry, bytes) ∷ [])) (Some fault) before before
one_refused programs link entry info bytes before fault is chosen_is none =
    let all : ExplainsPackets programs ((PacketEntry info, bytes) ∷ []) [] = record { texts = []; explained = rw none tt; printed = refl } in
    let met : refused_in programs ((PacketEntry info, bytes) ∷ []) ≡ Some fault = rw none refl in
    rw (is, chosen_is) ([], all, sym (append-nil before), sym met)

-- entries that were explained, none of which was refused, and those that are left
pub record Gathered (programs : Programs) (link : Option ℕ) (all rest : List KeptEntry) (text : List ℕ) : Type 0 where
  pub done : List KeptEntry
  pub front : all ≡ done ++ rest
  pub going : refused_in programs (chosen link (entries_of done)) ≡ None
  pub packets : ExplainsPackets programs (chosen link (entries_of done)) text

pub gathered_none : (programs : Programs) (link : Option ℕ) (all : List KeptEntry) → Gathered programs link all all []
gathered_none programs link all = record { done = []; front = refl; going = refl; packets = no_packets programs }

chosen_two : (link : Option ℕ) (done more : List KeptEntry) → chosen link (entries_of (done ++ more)) ≡ chosen link (entries_of done) ++ chosen link (entries_of more)
chosen_two link done more = ap (chosen link) (map-append (λ (kept : KeptEntry). (kept.entry, kept.bytes)) done more) ∙ chosen-append link (entries_of done) (entries_of more)

pub gathered_next : (programs : Programs) (link : Option ℕ) (all left rest : List KeptEntry) (kept : KeptEntry) (text text' : List ℕ) → left ≡ kept ∷ rest → Gathered programs link all left text
    → ExplainsEntry programs (chosen link (entries_of (kept ∷ []))) None text text' → Gathered programs link all rest text'
gathered_next programs link all left rest kept text text' first so (more, packets, longer, going) =
    let before = chosen link (entries_of so.done) in
    let next = chosen link (entries_of (kept ∷ [])) in
    let parts = added_parts programs before next (chosen link (entries_of (so.done ++ kept ∷ []))) (chosen_two link so.done (kept ∷ [])) so.going in
    record {
      done = so.done ++ kept ∷ [];
      front = so.front ∙ ap (λ t. so.done ++ t) first ∙ sym (append_assoc so.done (kept ∷ []) rest);
      going = parts.1 ∙ sym going;
      packets = rw (chosen_two link so.done (kept ∷ []), longer) (packets_then programs before next text more so.going so.packets packets);
    }

-- the next is refused
pub gathered_stop : (programs : Programs) (link : Option ℕ) (all left rest : List KeptEntry) (kept : KeptEntry) (text text' : List ℕ) (stop : CodeFault) (fault : Option ReadFault) → left ≡ kept ∷ rest → Gathered programs link all left text
    → ExplainsEntry programs (chosen link (entries_of (kept ∷ []))) (Some stop) text text' → ExplainsEntries programs (chosen link (entries_of all)) fault (Refused stop) text'
gathered_stop programs link all left rest kept text text' stop fault first so (more, packets, longer, met) =
    let before = chosen link (entries_of so.done) in
    let next = chosen link (entries_of (kept ∷ [])) in
    let others = chosen link (entries_of rest) in
    let both = packets_then programs before next text more so.going so.packets packets in
    let parts = added_parts programs before next (before ++ next) refl so.going in
    let refused : refused_in programs (before ++ next) ≡ Some stop = parts.1 ∙ sym met in
    let whole : chosen link (entries_of all) ≡ (before ++ next) ++ others =
    ap (λ t. chosen link (entries_of t)) (so.front ∙ ap (λ t. so.done ++ t) first) ∙ chosen_two link so.done (kept ∷ rest) ∙ ap (λ t. before ++ t) (chosen_two link (kept ∷ []) rest) ∙ sym (append_assoc before next others) in
    let passed = passed_parts programs (before ++ next) others (chosen link (entries_of all)) (Some stop) whole refl (sym refused) in (
      record { texts = both.texts; explained = rw passed.0 both.explained; printed = longer ∙ both.printed },
      ap (λ r. capture_ending r fault) (sym passed.1),
    )

-- What is shown

abbrev pub ShownInput : {R W : Type 0} → Programs → PacketForm → List ℕ → (R → Option (List ℕ)) → (W → Option (List ℕ)) → Source R → Source R → Sink W → Sink W → List ℕ → List ℕ → ℕ → Type 0
ShownInput programs form code remaining contents known lost old new before after status = (text : List ℕ) × (stop : Option CodeFault) × Writes contents old new text
    × ((input : List ℕ) × IsInput remaining known lost input × ShowsInput programs form input status text stop) × (after ≡ before ++ explanation_of code stop)

-- of an input that is too long
pub long_given : (r : Result ℕ EngineFault) (programs : Programs) (form : PacketForm) (code : List ℕ) {R W : Type 0} (remaining : R → Option (List ℕ)) (contents : W → Option (List ℕ)) (known lost : Source R) (old new : Sink W) (before after : List ℕ)
    → GotTooMany remaining known lost INPUT_BYTES → after ≡ before → IfOk r (λ status. (status ≡ 1) × Writes contents old new too_long_line)
    → IfOk r (ShownInput programs form code remaining contents known lost old new before after)
long_given (Err e) programs form code remaining contents known lost old new before after got same wrote = tt
long_given (Ok status) programs form code remaining contents known lost old new before after got same wrote =
    let shown = shown_long (Ok status) _ known lost old new (λ input status text. ShowsInput programs form input status text None) got (λ input long. inr (long, (refl, refl), refl)) wrote in
    (shown.0, None, shown.1, shown.2, same ∙ sym (append-nil before))

-- of one that isn't
pub bytes_given : (r : Result ℕ EngineFault) (programs : Programs) (form : PacketForm) (code : List ℕ) {R W : Type 0} (remaining : R → Option (List ℕ)) (contents : W → Option (List ℕ)) (known lost : Source R) (old new : Sink W) (before after input text : List ℕ) (ending : Ending)
    → Gets remaining known lost input → IsAtEnd (remaining lost.inner) → length input ≤ INPUT_BYTES → ExplainsBytes programs form input ending text
    → IfOk r (λ status. (status ≡ ending_status ending) × Writes contents old new (text ++ ending_text ending)) → OnOk r (after ≡ before ++ explanation_of code (ending_stop ending))
    → IfOk r (ShownInput programs form code remaining contents known lost old new before after)
bytes_given (Err e) programs form code remaining contents known lost old new before after input text ending got end short explains wrote said = tt
bytes_given (Ok status) programs form code remaining contents known lost old new before after input text ending got end short explains wrote said =
    (text ++ ending_text ending, ending_stop ending, wrote.1, (input, whole_input known lost input got end, inl (short, (ending, text, explains, refl, wrote.0, refl))), said)

-- and of a good code
pub shown_of : (r : Result ℕ EngineFault) (code : List ℕ) (accept : ℕ) (programs : Programs) (form : PacketForm) {R W : Type 0} (remaining : R → Option (List ℕ)) (contents : W → Option (List ℕ)) (known lost : Source R) (old new : Sink W) (before after : List ℕ) → IsFilter code accept programs
    → IfOk r (ShownInput programs form code remaining contents known lost old new before after)
    → IfOk r (λ status. (text : List ℕ) × (words : List ℕ) × Writes contents old new text × (after ≡ before ++ words)
    × ((ShowsBadFilter code text words × (status ≡ 1)) ⊎ ((input : List ℕ) × IsInput remaining known lost input × ShowsExplained code accept form input status text words)))
shown_of (Ok status) code accept programs form remaining contents known lost old new before after good s =
    (s.0, explanation_of code s.1, s.2, s.4, inr (s.3.0, s.3.1, (programs, good, s.1, s.3.2, refl)))
shown_of (Err fault) code accept programs form remaining contents known lost old new before after good s = tt

-- an instruction that was taken is one of the program
is_inside : (program : List Insn) (packet : Packet) (s : State) (t : Taken) → IsTaken program packet s t → t.pc < length program
is_inside program packet s t taken = rw taken.0 (elim taken.1 [
  | inl on ↦ FormAt-inside program s.pc on.1.0 on.1.1
  | inr last ↦ FormAt-inside program s.pc last.1.0 last.1.1
])

pub taken_inside : (program : List Insn) (packet : Packet) (verdict : ℕ) (taken : List Taken) → Traces program packet verdict taken → All (λ t. t.pc < length program) taken
taken_inside program packet verdict taken traces = λ k d within.
    let there = traces.each k _ (slice_get-get_or taken k d within) in is_inside program packet there.0 _ there.2
