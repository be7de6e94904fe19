-- Lines that come in pieces.
use Rattle.std.proofs.Common.{◌≡◌, ℕ, ◌+◌, ◌-◌, ◌<◌, ◌≤◌, ◌==◌, Bool, true, false, inl, inr, List, [], ◌∷◌, ◌++◌, length, take, drop, get_or, arith, refl, ap, sym, ◌∙◌, append_assoc, length-append, length-take-le}
use Rattle.std.specs.List.{position_or_len}
use Rattle.std.specs.Str.Lines.{lines, strip_carriage_return}
use Rattle.std.proofs.lemmas.Bool.Decides.{eqb_tells}
use Rattle.std.proofs.lemmas.List.{append-nil, get_or_append_left, get_or-take, take-append-drop, take_more, take_rest}
use Rattle.std.proofs.lemmas.List.Elements.{All-append, All-nil}
use Rattle.std.proofs.lemmas.List.Sums.{position_or_len_is, fails_before_first, passes_at_first}
use Rattle.std.proofs.Math.Seq.{take-append_seam, drop-append_seam, get_or-append_seam}
use Rattle.console.specs.Programs.{Programs}
use Rattle.filter_vm.specs.declared.machine.Outcome.{Outcome}
use Rattle.console.specs.declared.line_feed.LineFeed.{LineFeed}
use Rattle.console.specs.Matching.{Answers, IsNotRun}
use Rattle.console.specs.Running.{RunsTo}
use Rattle.console.specs.Streaming.{IsOneLine, LinesEnded, LinesRan, LinesStopped}
use Rattle.console.proofs.LineLemmas.{lines_first, lines_last}
use Rattle.console.proofs.RunningLemmas.{AllZip-append}

-- a line and its end, and what follows
line_ends : (line more : List ℕ) (b : ℕ) → IsOneLine line → (b == 10) ≡ true → lines (line ++ b ∷ more) ≡ strip_carriage_return line ∷ lines more
line_ends line more b clean end =
    let all : List ℕ = line ++ b ∷ more in
    let long : length all ≡ length line + (length more + 1) = omega (arith, length-append line (b ∷ more)) in
    let at : position_or_len (λ v. v == 10) all ≡ length line = position_or_len_is (λ v. v == 10) all (length line) 0 (omega arith)
    (λ k low. ap (λ v. v == 10) (get_or_append_left line (b ∷ more) 0 k low) ∙ clean k 0 low) (λ _. ap (λ v. v == 10) (get_or-append_seam line b more 0) ∙ end) in
    let size : length (line ++ b ∷ []) ≡ length line + 1 = omega (arith, length-append line (b ∷ [])) in
    let rest : drop (length line + 1) all ≡ more =
    ap (λ n. drop n all) (sym size) ∙ ap (drop (length (line ++ b ∷ []))) (sym (append_assoc line (b ∷ []) more)) ∙ drop-append_seam (line ++ b ∷ []) more in
    lines_first all (length line) (omega arith) at ∙ ap (λ t. strip_carriage_return t ∷ lines (drop (length line + 1) all)) (take-append_seam line (b ∷ more))
    ∙ ap (λ t. strip_carriage_return line ∷ lines t) rest

-- bytes in which a newline was found, before it and after it
newline_parts : (rest : List ℕ) (end : ℕ) → end < length rest → rest ≡ take end rest ++ get_or rest end 0 ∷ drop (end + 1) rest
newline_parts rest end within =
    sym (take-append-drop (end + 1) rest) ∙ ap (λ t. t ++ drop (end + 1) rest) (take_more rest end 0 within) ∙ append_assoc (take end rest) (get_or rest end 0 ∷ []) (drop (end + 1) rest)

is_newline : (rest : List ℕ) (end : ℕ) → end < length rest → position_or_len (λ b. b == 10) rest ≡ end → (get_or rest end 0 == 10) ≡ true
is_newline rest end within at = ap (λ n. get_or rest n 0 == 10) (sym at) ∙ passes_at_first (λ b. b == 10) rest 0 (omega (arith, at, within))

before_newline : (rest : List ℕ) (end : ℕ) → end < length rest → position_or_len (λ b. b == 10) rest ≡ end → IsOneLine (take end rest)
before_newline rest end within at = λ k d low.
    let short : k < end = omega (arith, low, length-take-le end rest (omega arith)) in
    ap (λ v. v == 10) (get_or-take end rest k d short) ∙ fails_before_first (λ b. b == 10) rest k d (omega (arith, at, short))

no_newline : (rest : List ℕ) → length rest ≤ position_or_len (λ b. b == 10) rest → IsOneLine rest
no_newline rest none = λ k d within. fails_before_first (λ b. b == 10) rest k d (omega arith)

one_line : (line : List ℕ) → IsOneLine line → length line ≤ position_or_len (λ b. b == 10) line
one_line line clean = let at = position_or_len_is (λ b. b == 10) line (length line) 0 (omega arith) (λ k low. clean k 0 low) (λ h. absurd (omega arith)) in omega (arith, at)

-- what was taken, and then a line with its end
taken_line : (taken done part before more : List ℕ) (b : ℕ) → taken ≡ done ++ part → (taken ++ before) ++ b ∷ more ≡ done ++ ((part ++ before) ++ b ∷ more)
taken_line taken done part before more b parts =
    ap (λ t. (t ++ before) ++ b ∷ more) parts ∙ ap (λ t. t ++ b ∷ more) (append_assoc done part before) ∙ append_assoc done (part ++ before) (b ∷ more)

-- the lines of what was taken, of a line with its end and of what follows
lines_so_far : (taken done part before more : List ℕ) (good : List (List ℕ)) (b : ℕ) → taken ≡ done ++ part → ((more : List ℕ) → lines (done ++ more) ≡ good ++ lines more)
    → IsOneLine part → IsOneLine before → (b == 10) ≡ true → lines ((taken ++ before) ++ b ∷ more) ≡ good ++ strip_carriage_return (part ++ before) ∷ lines more
lines_so_far taken done part before more good b parts whole clean clean' end =
    ap lines (taken_line taken done part before more b parts) ∙ whole ((part ++ before) ++ b ∷ more)
    ∙ ap (λ t. good ++ t) (line_ends (part ++ before) more b (All-append (λ v. (v == 10) ≡ false) part before clean clean') end)

-- one more line that spells a packet
pub lines_next : (programs : Programs) (rest : List ℕ) (end : ℕ) (old new : LineFeed) (before after : List Outcome) (outcome : Outcome) → end < length rest → position_or_len (λ b. b == 10) rest ≡ end
    → new.link ≡ old.link → Answers programs old.link (strip_carriage_return (old.part.items ++ take end rest)) outcome → after ≡ before ++ outcome ∷ [] → new.part.items ≡ []
    → (old.number + 1 < 18446744073709551616 → new.number ≡ old.number + 1)
    → RunsTo (LinesRan programs) (LinesRan programs) rest (take (length rest - (end + 1)) (drop (end + 1) rest)) old new before after
lines_next programs rest end old new before after outcome within at link answers pushed empty counted = record {
  front = take (end + 1) rest;
  parts = sym (take-append-drop (end + 1) rest) ∙ ap (λ t. take (end + 1) rest ++ t) (sym (take_rest rest (end + 1)));
  more = outcome ∷ [];
  pushed = pushed;
  runs = λ fed outcomes has short.
      let line : List ℕ = strip_carriage_return (old.part.items ++ take end rest) in
      let size : length (take (end + 1) rest) ≡ end + 1 = length-take-le (end + 1) rest (omega arith) in
      let long : length fed ≡ length has.done + length old.part.items = omega (arith, ap length has.parts, length-append has.done old.part.items) in
      let all : length (fed ++ take (end + 1) rest) ≡ length fed + (end + 1) = omega (arith, length-append fed (take (end + 1) rest), size) in
      let number : new.number ≡ old.number + 1 = counted (omega (arith, has.count, has.few, long, all, short)) in
      let one_more : length (has.good ++ line ∷ []) ≡ length has.good + 1 = omega (arith, length-append has.good (line ∷ [])) in
      record {
        done = fed ++ take (end + 1) rest;
        good = has.good ++ line ∷ [];
        parts = sym (append-nil (fed ++ take (end + 1) rest)) ∙ ap (λ t. (fed ++ take (end + 1) rest) ++ t) (sym empty);
        whole = λ more.
            ap (λ t. lines ((fed ++ t) ++ more)) (take_more rest end 0 within)
            ∙ ap lines (append_assoc fed (take end rest ++ get_or rest end 0 ∷ []) more ∙ ap (λ t. fed ++ t) (append_assoc (take end rest) (get_or rest end 0 ∷ []) more) ∙ sym (append_assoc fed (take end rest) (get_or rest end 0 ∷ more)))
            ∙ lines_so_far fed has.done old.part.items (take end rest) more has.good (get_or rest end 0) has.parts has.whole has.open_line (before_newline rest end within at) (is_newline rest end within at)
            ∙ sym (append_assoc has.good (line ∷ []) (lines more));
        open_line = rw empty (All-nil (λ v. (v == 10) ≡ false));
        ran = rw link (AllZip-append (Answers programs old.link) has.good (line ∷ []) outcomes (outcome ∷ []) has.ran (answers, tt));
        count = number ∙ omega (arith, has.count, one_more);
        few = omega (arith, one_more, has.few, long, all);
      };
}

-- a line that isn't run
pub lines_bad : (programs : Programs) (rest : List ℕ) (end : ℕ) (old new : LineFeed) (before after : List Outcome) → end < length rest → position_or_len (λ b. b == 10) rest ≡ end
    → new.link ≡ old.link → IsNotRun programs old.link (strip_carriage_return (old.part.items ++ take end rest)) new.refused → after ≡ before → new.number ≡ old.number
    → RunsTo (LinesRan programs) (LinesStopped programs) rest [] old new before after
lines_bad programs rest end old new before after within at link wrong same counted = record {
  front = rest;
  parts = sym (append-nil rest);
  more = [];
  pushed = same ∙ sym (append-nil before);
  runs = λ fed outcomes has short. record {
    good = has.good;
    bad = strip_carriage_return (old.part.items ++ take end rest);
    more = lines (drop (end + 1) rest);
    parts = ap (λ t. lines (fed ++ t)) (newline_parts rest end within) ∙ ap lines (sym (append_assoc fed (take end rest) (get_or rest end 0 ∷ drop (end + 1) rest)))
        ∙ lines_so_far fed has.done old.part.items (take end rest) (drop (end + 1) rest) has.good (get_or rest end 0) has.parts has.whole has.open_line (before_newline rest end within at) (is_newline rest end within at);
    wrong = rw link wrong;
    ran = rw (link, append-nil outcomes) has.ran;
    count = counted ∙ has.count;
    few = omega (arith, has.few, ap length has.parts, length-append has.done old.part.items, length-append fed rest, within);
  };
}

-- bytes of a line that isn't whole
pub lines_kept : (programs : Programs) (rest : List ℕ) (old new : LineFeed) (outcomes : List Outcome) → length rest ≤ position_or_len (λ b. b == 10) rest → new.part.items ≡ old.part.items ++ rest → new.number ≡ old.number → new.link ≡ old.link
    → RunsTo (LinesRan programs) (LinesRan programs) rest [] old new outcomes outcomes
lines_kept programs rest old new outcomes none kept counted link = record {
  front = rest;
  parts = sym (append-nil rest);
  more = [];
  pushed = sym (append-nil outcomes);
  runs = λ fed outcomes has short. record {
    done = has.done;
    good = has.good;
    parts = ap (λ t. t ++ rest) has.parts ∙ append_assoc has.done old.part.items rest ∙ ap (λ t. has.done ++ t) (sym kept);
    whole = has.whole;
    open_line = rw kept (All-append (λ v. (v == 10) ≡ false) old.part.items rest has.open_line (no_newline rest none));
    ran = rw (link, append-nil outcomes) has.ran;
    count = counted ∙ has.count;
    few = has.few;
  };
}

-- the lines of all that was taken, where a line is open
last_line : (taken done part : List ℕ) (good : List (List ℕ)) → taken ≡ done ++ part → ((more : List ℕ) → lines (done ++ more) ≡ good ++ lines more) → IsOneLine part → 0 < length part
    → lines (taken ++ []) ≡ good ++ part ∷ []
last_line taken done part good parts whole clean some =
    ap lines (append-nil taken ∙ parts) ∙ whole part ∙ ap (λ t. good ++ t) (lines_last part some (one_line part clean))

-- the end of the last line, which spells a packet
pub lines_last_good : (programs : Programs) (old new : LineFeed) (before after : List Outcome) (outcome : Outcome) → 0 < length old.part.items → new.link ≡ old.link → Answers programs old.link old.part.items outcome → after ≡ before ++ outcome ∷ []
    → RunsTo (LinesRan programs) (LinesEnded programs) [] [] old new before after
lines_last_good programs old new before after outcome some link answers pushed = record {
  front = [];
  parts = refl;
  more = outcome ∷ [];
  pushed = pushed;
  runs = λ fed outcomes has short.
      rw (link, last_line fed has.done old.part.items has.good has.parts has.whole has.open_line some) (AllZip-append (Answers programs old.link) has.good (old.part.items ∷ []) outcomes (outcome ∷ []) has.ran (answers, tt));
}

-- or isn't run
pub lines_last_bad : (programs : Programs) (old new : LineFeed) (outcomes : List Outcome) → 0 < length old.part.items → new.link ≡ old.link → IsNotRun programs old.link old.part.items new.refused → new.number ≡ old.number
    → RunsTo (LinesRan programs) (LinesStopped programs) [] [] old new outcomes outcomes
lines_last_bad programs old new outcomes some link wrong counted = record {
  front = [];
  parts = refl;
  more = [];
  pushed = sym (append-nil outcomes);
  runs = λ fed outcomes has short. record {
    good = has.good;
    bad = old.part.items;
    more = [];
    parts = last_line fed has.done old.part.items has.good has.parts has.whole has.open_line some;
    wrong = rw link wrong;
    ran = rw (link, append-nil outcomes) has.ran;
    count = counted ∙ has.count;
    few = omega (arith, has.few, ap length has.parts, length-append has.done old.part.items, length-append fed [], some);
  };
}

-- a length that was seen not to be 0
pub some_left : (n : ℕ) (r : Bool) → r ≡ (n == 0) → r ≡ false → 0 < n
some_left n r seen is = elim (eqb_tells n 0) [
  | inl e ↦ let never = e.0 in absurd (cc)
  | inr e ↦ omega (arith, e.1)
]

-- and one that was
pub none_left : (n : ℕ) (items : List ℕ) (r : Bool) → r ≡ (n == 0) → r ≡ true → length items ≡ n → items ≡ []
none_left n [] r seen is long = refl
none_left n (x ∷ xs) r seen is long = elim (eqb_tells n 0) [
  | inl e ↦ absurd (omega (arith, e.1, long))
  | inr e ↦ let never = e.0 in absurd (cc)
]
