-- What is known after one more line.
use Rattle.std.proofs.Common.{◌≡◌, ℕ, ◌+◌, Bool, true, false, ◌||◌, eqb, if◌then◌else◌, List, [], ◌∷◌, ◌++◌, length, Option, Some, None, length-append, append-nil, refl, sym, ap, ◌∙◌, inl, inr, slice_get}
use Rattle.std.specs.Prelude.{map}
use Rattle.std.specs.List.{flat_map, list_any}
use Rattle.std.specs.Map.{update}
use Rattle.std.specs.Str.{bytes_eq}
use Rattle.std.proofs.lemmas.Bool.{cases_Bool}
use Rattle.std.proofs.lemmas.Grind.{flat_map-append}
use Rattle.std.proofs.lemmas.List.Folds.{list_any-append}
use Rattle.std.proofs.lemmas.Slice.Eq.{bytes_eq-Decides}
use Rattle.std.proofs.Math.Bool.{or-false, or-true}
use Rattle.bpf_insn.specs.declared.insn.Insn.{Insn}
use Rattle.filter_table.specs.Limits.{TableLimits}
use Rattle.pcap_reader.specs.declared.capture.CapturedPacket.{CapturedPacket}
use Rattle.world_events.specs.declared.event.Event.{Event}
use Rattle.mk_script.specs.declared.script.Item.{Item}
use Rattle.mk_script.specs.declared.script.Item.TheVariants.{Ask, Apply}
use Rattle.mk_script.specs.Meanings.{Meaning, Limits, Budgets, NamedProgram, NamedPacket, NamedCapture, Home, Does, Receives, Trace, Nothing, Jobs, Counted, Named, limits_in, budgets_in, programs_in, packets_in, captures_in, jobs_in, is_trace, is_act, named, home_from, is_traced, jobs_behind, items_in, items_of}
use Rattle.mk_script.specs.Changes.{KnowsParts, asks_in, events_in}
use Rattle.filter_asm.proofs.DefineLemmas.{bytes_eq-comm}

pub push_flat : {A : Type 0} (f : Meaning → List A) (given : List Meaning) (m : Meaning) → flat_map f (given ++ m ∷ []) ≡ flat_map f given ++ f m
push_flat f given m = flat_map-append f given (m ∷ []) ∙ ap (λ l. flat_map f given ++ l) (append-nil (f m))

pub same_flat : {A : Type 0} (f : Meaning → List A) (given : List Meaning) (m : Meaning) → f m ≡ [] → flat_map f (given ++ m ∷ []) ≡ flat_map f given
same_flat f given m e = push_flat f given m ∙ ap (λ l. flat_map f given ++ l) e ∙ append-nil (flat_map f given)

push_any : (p : Meaning → Bool) (given : List Meaning) (m : Meaning) → list_any p (given ++ m ∷ []) ≡ (list_any p given || p m)
push_any p given m = list_any-append p given (m ∷ []) ∙ ap (λ b. list_any p given || b) (or-false (p m))

pub same_any : (p : Meaning → Bool) (given : List Meaning) (m : Meaning) → p m ≡ false → list_any p (given ++ m ∷ []) ≡ list_any p given
same_any p given m e = push_any p given m ∙ ap (λ b. list_any p given || b) e ∙ or-false (list_any p given)

home_push : (core : ℕ) (given : List Meaning) (m : Meaning) (d : ℕ) → home_from core (given ++ m ∷ []) d ≡ home_from (home_from core given d) (m ∷ []) d
home_push core [] m d = refl
home_push core (Home e c ∷ given) m d = home_push (if eqb e d then c else core) given m d
home_push core (x ∷ given) m d = home_push core given m d

pub same_jobs_behind : (given : List Meaning) (m : Meaning) → jobs_in m ≡ [] → is_trace m ≡ false → jobs_behind (given ++ m ∷ []) ≡ jobs_behind given
same_jobs_behind given m none untraced = rw (same_any is_trace given m untraced, same_flat jobs_in given m none) refl

pub items_push : (given : List Meaning) (m : Meaning) → is_trace m ≡ false → items_of (given ++ m ∷ []) ≡ items_of given ++ items_in (is_traced given) m
items_push given m untraced = rw (same_any is_trace given m untraced) (push_flat (items_in (is_traced given)) given m)

-- one more name, which has no value
named_push : {X : Type 0} (names : List (List ℕ × X)) (name : List ℕ) (x : X) (other : List ℕ) → named names name ≡ None
    → named (names ++ (name, x) ∷ []) other ≡ update bytes_eq (named names) name (Some x) other
named_push [] name x other new = rw (bytes_eq-comm other name) refl
named_push (d ∷ names) name x other new =
    elim (cases_Bool (bytes_eq name d.0)) [
      | inl same ↦ let some = rw same at new in absurd (cc)
      | inr apart ↦
          let rest : named names name ≡ None = rw apart at new in
          let further = named_push names name x other rest in
          elim (cases_Bool (bytes_eq other d.0)) [
            | inl here ↦
                let is_d : other ≡ d.0 = (bytes_eq-Decides other d.0).0 here in
                let not_name : bytes_eq name other ≡ false = rw is_d apart in
                rw (here, not_name) refl
            | inr there ↦ rw there further
          ]
    ]

-- the first of one that is given where none was
first_push : (found : List TableLimits) (l : TableLimits) → None ≡ slice_get found 0 → Some l ≡ slice_get (found ++ l ∷ []) 0
first_push [] l none = refl
first_push (x ∷ found) l none = absurd (cc)

asks_none : (events : List Event) → flat_map asks_in (map (λ e. Apply e) events) ≡ []
asks_none [] = refl
asks_none (e ∷ events) = asks_none events

events_all : (events : List Event) → flat_map events_in (map (λ e. Apply e) events) ≡ events
events_all [] = refl
events_all (e ∷ events) = ap (λ l. e ∷ l) (events_all events)

-- where nothing was done that only a simulation does, the items are requests and receptions
asks_split : (given : List Meaning) → list_any is_act given ≡ false → flat_map asks_in (flat_map (items_in false) given) ≡ flat_map (items_in true) given
asks_split [] quiet = refl
asks_split (Does (Ask core op) ∷ given) quiet = ap (λ l. Ask core op ∷ l) (asks_split given quiet)
asks_split (Does item ∷ given) quiet = absurd (cc)
asks_split (Receives events ∷ given) quiet = flat_map-append asks_in (map (λ e. Apply e) events) (flat_map (items_in false) given) ∙ (rw (asks_none events) (asks_split given quiet))
asks_split (m ∷ given) quiet = asks_split given quiet

events_split : (given : List Meaning) → list_any is_act given ≡ false → flat_map events_in (flat_map (items_in false) given) ≡ flat_map jobs_in given
events_split [] quiet = refl
events_split (Does (Ask core op) ∷ given) quiet = events_split given quiet
events_split (Does item ∷ given) quiet = absurd (cc)
events_split (Receives events ∷ given) quiet = flat_map-append events_in (map (λ e. Apply e) events) (flat_map (items_in false) given) ∙ (rw (events_all events) (ap (λ l. events ++ l) (events_split given quiet)))
events_split (m ∷ given) quiet = events_split given quiet

-- receptions are only counted before `trace`
untraced_from : (n : ℕ) (given : List Meaning) → Counted n ≡ jobs_behind given → (is_traced given ≡ false) × (n ≡ length (flat_map jobs_in given))
untraced_from n given e = elim (cases_Bool (is_traced given)) [
  | inl traced ↦ let named = rw traced at e in absurd (cc)
  | inr untraced ↦ let counted = rw untraced at e in let same : n ≡ length (flat_map jobs_in given) = cc in (untraced, same)
]

module _ (limits : Option TableLimits) (budgets : List ℕ) (programs : List ℕ → Option (List Insn)) (packets : List ℕ → Option CapturedPacket) (captures : List ℕ → Option (List CapturedPacket)) (home : ℕ → ℕ) (acted : Bool)
    (jobs : Jobs) (items : List Item) (given : List Meaning) (knows : KnowsParts limits budgets programs packets captures home acted jobs items given) where
  pub knows_nothing : KnowsParts limits budgets programs packets captures home acted jobs items (given ++ Nothing ∷ [])
  knows_nothing = record {
    same_limits = knows.same_limits ∙ sym (ap (λ l. slice_get l 0) (same_flat limits_in given (Nothing) refl));
    same_budgets = knows.same_budgets ∙ sym (same_flat budgets_in given (Nothing) refl);
    same_programs = λ n. knows.same_programs n ∙ ap (λ l. named l n) (sym (same_flat programs_in given (Nothing) refl));
    same_packets = λ n. knows.same_packets n ∙ ap (λ l. named l n) (sym (same_flat packets_in given (Nothing) refl));
    same_captures = λ n. knows.same_captures n ∙ ap (λ l. named l n) (sym (same_flat captures_in given (Nothing) refl));
    same_home = λ d. knows.same_home d ∙ sym (home_push 0 given (Nothing) d);
    same_acted = knows.same_acted ∙ sym (same_any is_act given (Nothing) refl);
    same_jobs = knows.same_jobs ∙ sym (same_jobs_behind given (Nothing) refl refl);
    same_items = knows.same_items ∙ sym (items_push given (Nothing) refl ∙ append-nil (items_of given));
  }

  pub knows_limits : (l : TableLimits) → limits ≡ None → KnowsParts (Some l) budgets programs packets captures home acted jobs items (given ++ Limits l ∷ [])
  knows_limits l none = record {
    same_limits = first_push (flat_map limits_in given) l (sym none ∙ knows.same_limits) ∙ ap (λ ls. slice_get ls 0) (sym (push_flat limits_in given (Limits l)));
    same_budgets = knows.same_budgets ∙ sym (same_flat budgets_in given (Limits l) refl);
    same_programs = λ n. knows.same_programs n ∙ ap (λ ls. named ls n) (sym (same_flat programs_in given (Limits l) refl));
    same_packets = λ n. knows.same_packets n ∙ ap (λ ls. named ls n) (sym (same_flat packets_in given (Limits l) refl));
    same_captures = λ n. knows.same_captures n ∙ ap (λ ls. named ls n) (sym (same_flat captures_in given (Limits l) refl));
    same_home = λ d. knows.same_home d ∙ sym (home_push 0 given (Limits l) d);
    same_acted = knows.same_acted ∙ sym (same_any is_act given (Limits l) refl);
    same_jobs = knows.same_jobs ∙ sym (same_jobs_behind given (Limits l) refl refl);
    same_items = knows.same_items ∙ sym (items_push given (Limits l) refl ∙ append-nil (items_of given));
  }

  pub knows_budgets : (more : List ℕ) → budgets ≡ [] → KnowsParts limits more programs packets captures home acted jobs items (given ++ Budgets more ∷ [])
  knows_budgets more none = record {
    same_limits = knows.same_limits ∙ sym (ap (λ l. slice_get l 0) (same_flat limits_in given (Budgets more) refl));
    same_budgets = sym (push_flat budgets_in given (Budgets more) ∙ ap (λ l. l ++ more) (sym knows.same_budgets ∙ none));
    same_programs = λ n. knows.same_programs n ∙ ap (λ l. named l n) (sym (same_flat programs_in given (Budgets more) refl));
    same_packets = λ n. knows.same_packets n ∙ ap (λ l. named l n) (sym (same_flat packets_in given (Budgets more) refl));
    same_captures = λ n. knows.same_captures n ∙ ap (λ l. named l n) (sym (same_flat captures_in given (Budgets more) refl));
    same_home = λ d. knows.same_home d ∙ sym (home_push 0 given (Budgets more) d);
    same_acted = knows.same_acted ∙ sym (same_any is_act given (Budgets more) refl);
    same_jobs = knows.same_jobs ∙ sym (same_jobs_behind given (Budgets more) refl refl);
    same_items = knows.same_items ∙ sym (items_push given (Budgets more) refl ∙ append-nil (items_of given));
  }

  pub knows_program : (name : List ℕ) (x : List Insn) (newer : List ℕ → Option (List Insn)) → programs name ≡ None → ((n : List ℕ) → newer n ≡ update bytes_eq programs name (Some x) n) → KnowsParts limits budgets newer packets captures home acted jobs items (given ++ NamedProgram name x ∷ [])
  knows_program name x newer new changed = record {
    same_limits = knows.same_limits ∙ sym (ap (λ l. slice_get l 0) (same_flat limits_in given (NamedProgram name x) refl));
    same_budgets = knows.same_budgets ∙ sym (same_flat budgets_in given (NamedProgram name x) refl);
    same_programs = λ n. changed n ∙ ap (λ v. if bytes_eq name n then Some x else v) (knows.same_programs n) ∙ sym (ap (λ l. named l n) (push_flat programs_in given (NamedProgram name x)) ∙ named_push (flat_map programs_in given) name x n (sym (knows.same_programs name) ∙ new));
    same_packets = λ n. knows.same_packets n ∙ ap (λ l. named l n) (sym (same_flat packets_in given (NamedProgram name x) refl));
    same_captures = λ n. knows.same_captures n ∙ ap (λ l. named l n) (sym (same_flat captures_in given (NamedProgram name x) refl));
    same_home = λ d. knows.same_home d ∙ sym (home_push 0 given (NamedProgram name x) d);
    same_acted = knows.same_acted ∙ sym (same_any is_act given (NamedProgram name x) refl);
    same_jobs = knows.same_jobs ∙ sym (same_jobs_behind given (NamedProgram name x) refl refl);
    same_items = knows.same_items ∙ sym (items_push given (NamedProgram name x) refl ∙ append-nil (items_of given));
  }

  pub knows_packet : (name : List ℕ) (x : CapturedPacket) (newer : List ℕ → Option (CapturedPacket)) → packets name ≡ None → ((n : List ℕ) → newer n ≡ update bytes_eq packets name (Some x) n) → KnowsParts limits budgets programs newer captures home acted jobs items (given ++ NamedPacket name x ∷ [])
  knows_packet name x newer new changed = record {
    same_limits = knows.same_limits ∙ sym (ap (λ l. slice_get l 0) (same_flat limits_in given (NamedPacket name x) refl));
    same_budgets = knows.same_budgets ∙ sym (same_flat budgets_in given (NamedPacket name x) refl);
    same_programs = λ n. knows.same_programs n ∙ ap (λ l. named l n) (sym (same_flat programs_in given (NamedPacket name x) refl));
    same_packets = λ n. changed n ∙ ap (λ v. if bytes_eq name n then Some x else v) (knows.same_packets n) ∙ sym (ap (λ l. named l n) (push_flat packets_in given (NamedPacket name x)) ∙ named_push (flat_map packets_in given) name x n (sym (knows.same_packets name) ∙ new));
    same_captures = λ n. knows.same_captures n ∙ ap (λ l. named l n) (sym (same_flat captures_in given (NamedPacket name x) refl));
    same_home = λ d. knows.same_home d ∙ sym (home_push 0 given (NamedPacket name x) d);
    same_acted = knows.same_acted ∙ sym (same_any is_act given (NamedPacket name x) refl);
    same_jobs = knows.same_jobs ∙ sym (same_jobs_behind given (NamedPacket name x) refl refl);
    same_items = knows.same_items ∙ sym (items_push given (NamedPacket name x) refl ∙ append-nil (items_of given));
  }

  pub knows_capture : (name : List ℕ) (x : List CapturedPacket) (newer : List ℕ → Option (List CapturedPacket)) → captures name ≡ None → ((n : List ℕ) → newer n ≡ update bytes_eq captures name (Some x) n) → KnowsParts limits budgets programs packets newer home acted jobs items (given ++ NamedCapture name x ∷ [])
  knows_capture name x newer new changed = record {
    same_limits = knows.same_limits ∙ sym (ap (λ l. slice_get l 0) (same_flat limits_in given (NamedCapture name x) refl));
    same_budgets = knows.same_budgets ∙ sym (same_flat budgets_in given (NamedCapture name x) refl);
    same_programs = λ n. knows.same_programs n ∙ ap (λ l. named l n) (sym (same_flat programs_in given (NamedCapture name x) refl));
    same_packets = λ n. knows.same_packets n ∙ ap (λ l. named l n) (sym (same_flat packets_in given (NamedCapture name x) refl));
    same_captures = λ n. changed n ∙ ap (λ v. if bytes_eq name n then Some x else v) (knows.same_captures n) ∙ sym (ap (λ l. named l n) (push_flat captures_in given (NamedCapture name x)) ∙ named_push (flat_map captures_in given) name x n (sym (knows.same_captures name) ∙ new));
    same_home = λ d. knows.same_home d ∙ sym (home_push 0 given (NamedCapture name x) d);
    same_acted = knows.same_acted ∙ sym (same_any is_act given (NamedCapture name x) refl);
    same_jobs = knows.same_jobs ∙ sym (same_jobs_behind given (NamedCapture name x) refl refl);
    same_items = knows.same_items ∙ sym (items_push given (NamedCapture name x) refl ∙ append-nil (items_of given));
  }

  pub knows_home : (domain core : ℕ) (newer : ℕ → ℕ) → ((d : ℕ) → newer d ≡ (if eqb domain d then core else home d)) → KnowsParts limits budgets programs packets captures newer acted jobs items (given ++ Home domain core ∷ [])
  knows_home domain core newer changed = record {
    same_limits = knows.same_limits ∙ sym (ap (λ l. slice_get l 0) (same_flat limits_in given (Home domain core) refl));
    same_budgets = knows.same_budgets ∙ sym (same_flat budgets_in given (Home domain core) refl);
    same_programs = λ n. knows.same_programs n ∙ ap (λ l. named l n) (sym (same_flat programs_in given (Home domain core) refl));
    same_packets = λ n. knows.same_packets n ∙ ap (λ l. named l n) (sym (same_flat packets_in given (Home domain core) refl));
    same_captures = λ n. knows.same_captures n ∙ ap (λ l. named l n) (sym (same_flat captures_in given (Home domain core) refl));
    same_home = λ d. changed d ∙ ap (λ v. if eqb domain d then core else v) (knows.same_home d) ∙ sym (home_push 0 given (Home domain core) d);
    same_acted = knows.same_acted ∙ sym (same_any is_act given (Home domain core) refl);
    same_jobs = knows.same_jobs ∙ sym (same_jobs_behind given (Home domain core) refl refl);
    same_items = knows.same_items ∙ sym (items_push given (Home domain core) refl ∙ append-nil (items_of given));
  }

  pub knows_does : (item : Item) (newer : Bool) (more : List Item) → newer ≡ (acted || is_act (Does item)) → more ≡ items ++ item ∷ [] → KnowsParts limits budgets programs packets captures home newer jobs more (given ++ Does item ∷ [])
  knows_does item newer more changed pushed = record {
    same_limits = knows.same_limits ∙ sym (ap (λ l. slice_get l 0) (same_flat limits_in given (Does item) refl));
    same_budgets = knows.same_budgets ∙ sym (same_flat budgets_in given (Does item) refl);
    same_programs = λ n. knows.same_programs n ∙ ap (λ l. named l n) (sym (same_flat programs_in given (Does item) refl));
    same_packets = λ n. knows.same_packets n ∙ ap (λ l. named l n) (sym (same_flat packets_in given (Does item) refl));
    same_captures = λ n. knows.same_captures n ∙ ap (λ l. named l n) (sym (same_flat captures_in given (Does item) refl));
    same_home = λ d. knows.same_home d ∙ sym (home_push 0 given (Does item) d);
    same_acted = changed ∙ ap (λ b. b || is_act (Does item)) knows.same_acted ∙ sym (push_any is_act given (Does item));
    same_jobs = knows.same_jobs ∙ sym (same_jobs_behind given (Does item) refl refl);
    same_items = pushed ∙ ap (λ l. l ++ item ∷ []) knows.same_items ∙ sym (items_push given (Does item) refl);
  }

  pub knows_receives : (events : List Event) (n count : ℕ) (more : List Item) → jobs ≡ Counted n → count ≡ n + length events → more ≡ items ++ map (λ e. Apply e) events → KnowsParts limits budgets programs packets captures home acted (Counted count) more (given ++ Receives events ∷ [])
  knows_receives events n count more counted length_is pushed = record {
    same_limits = knows.same_limits ∙ sym (ap (λ l. slice_get l 0) (same_flat limits_in given (Receives events) refl));
    same_budgets = knows.same_budgets ∙ sym (same_flat budgets_in given (Receives events) refl);
    same_programs = λ n. knows.same_programs n ∙ ap (λ l. named l n) (sym (same_flat programs_in given (Receives events) refl));
    same_packets = λ n. knows.same_packets n ∙ ap (λ l. named l n) (sym (same_flat packets_in given (Receives events) refl));
    same_captures = λ n. knows.same_captures n ∙ ap (λ l. named l n) (sym (same_flat captures_in given (Receives events) refl));
    same_home = λ d. knows.same_home d ∙ sym (home_push 0 given (Receives events) d);
    same_acted = knows.same_acted ∙ sym (same_any is_act given (Receives events) refl);
    same_jobs = let before = untraced_from n given (sym counted ∙ knows.same_jobs) in let untraced = before.0 in sym (rw (same_any is_trace given (Receives events) refl, untraced, push_flat jobs_in given (Receives events), length-append, ← before.1, ← length_is) refl);
    same_items = let before = untraced_from n given (sym counted ∙ knows.same_jobs) in pushed ∙ ap (λ l. l ++ map (λ e. Apply e) events) knows.same_items ∙ sym (items_push given (Receives events) refl ∙ ap (λ t. items_of given ++ items_in t (Receives events)) before.0);
  }

  pub knows_trace : (n : ℕ) (asks : List Item) (events : List Event) → jobs ≡ Counted n → acted ≡ false → asks ≡ flat_map asks_in items → events ≡ flat_map events_in items → KnowsParts limits budgets programs packets captures home acted (Named events) asks (given ++ Trace ∷ [])
  knows_trace n asks events counted quiet asks_is events_is = record {
    same_limits = knows.same_limits ∙ sym (ap (λ l. slice_get l 0) (same_flat limits_in given (Trace) refl));
    same_budgets = knows.same_budgets ∙ sym (same_flat budgets_in given (Trace) refl);
    same_programs = λ n. knows.same_programs n ∙ ap (λ l. named l n) (sym (same_flat programs_in given (Trace) refl));
    same_packets = λ n. knows.same_packets n ∙ ap (λ l. named l n) (sym (same_flat packets_in given (Trace) refl));
    same_captures = λ n. knows.same_captures n ∙ ap (λ l. named l n) (sym (same_flat captures_in given (Trace) refl));
    same_home = λ d. knows.same_home d ∙ sym (home_push 0 given (Trace) d);
    same_acted = knows.same_acted ∙ sym (same_any is_act given (Trace) refl);
    same_jobs = let before = untraced_from n given (sym counted ∙ knows.same_jobs) in let all : items ≡ flat_map (items_in false) given = knows.same_items ∙ ap (λ t. flat_map (items_in t) given) before.0 in let traced : is_traced (given ++ Trace ∷ []) ≡ true = push_any is_trace given Trace ∙ or-true (is_traced given) in ap (λ e. Named e) (events_is ∙ ap (λ l. flat_map events_in l) all ∙ events_split given (sym knows.same_acted ∙ quiet)) ∙ sym (rw (traced, same_flat jobs_in given Trace refl) refl);
    same_items = let before = untraced_from n given (sym counted ∙ knows.same_jobs) in let all : items ≡ flat_map (items_in false) given = knows.same_items ∙ ap (λ t. flat_map (items_in t) given) before.0 in let traced : is_traced (given ++ Trace ∷ []) ≡ true = push_any is_trace given Trace ∙ or-true (is_traced given) in asks_is ∙ ap (λ l. flat_map asks_in l) all ∙ asks_split given (sym knows.same_acted ∙ quiet) ∙ sym (rw traced (same_flat (items_in true) given Trace refl));
  }
