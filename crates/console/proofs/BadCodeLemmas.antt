-- Of a code that spells no acceptable program one line is shown, but for the path to an unwritten word.
use Rattle.std.proofs.Common.{◌≡◌, ◌≢◌, ℕ, ◌==◌, ◌⊎◌, inl, inr, if◌then◌else◌, Bool, true, false, Option, None, Some, Result, Ok, Err, List, ◌++◌, refl, sym, ap, ◌∙◌, arith, subst, codes}
use Rattle.std.specs.Fmt.{decimal}
use Rattle.bpf_insn.specs.declared.insn.Insn.{Insn}
use Rattle.bpf_insn.specs.declared.form.Form.TheVariants.{LdMem, LdxMem}
use Rattle.bpf_insn.proofs.DddLaws.{one_fault, one_program, spelled_or_faulty}
use Rattle.bpf_insn.proofs.Places.{FormAt-same}
use Rattle.filter_verify.specs.declared.rules.Refusal.{Refusal}
use Rattle.filter_verify.specs.declared.rules.Refusal.TheVariants.{Empty, TooLong, BadCode, ZeroDivisor, BadShift, BadWord, JumpOut, Ancillary, NoReturn, Unwritten, NoMemory}
use Rattle.filter_verify.specs.Numbers.{number_of, place_of}
use Rattle.filter_verify.specs.Paths.{LoadsWord}
use Rattle.filter_verify.specs.Rules.{Refuses}
use Rattle.filter_verify.proofs.OneReason.{Refuses-same}
use Rattle.filter_verify.proofs.Reasons.{Refuses-sound}
use Rattle.expr_tree.specs.Expr.{Expr}
use Rattle.expr_meaning.specs.declared.link.Link.{Link}
use Rattle.expr_meaning.specs.declared.link.Link.TheVariants.{Ethernet}
use Rattle.expr_parse.specs.Parsing.{Spells}
use Rattle.console.specs.declared.filter.CodeFault.{CodeFault}
use Rattle.console.specs.declared.filter.CodeFault.TheVariants.{Compile, Link as NoLink}
use Rattle.console.specs.Expressions.{Gives, IsFilter, ShowsBadFilter}
use Rattle.console.specs.Programs.{Programs}
use Rattle.console.specs.Code.{IsGoodCode, SameButPath, ShowsBadCode, code_line, refused_line}

-- the line for a refusal of this number at this place, where no path belongs to it
abbrev line_by : ℕ → ℕ → List ℕ
line_by number pc =
    if number == 1 then codes "refused Empty\n"
    else (if number == 2 then codes "refused TooLong\n"
    else (if number == 3 then codes "refused BadCode pc " ++ decimal pc ++ codes "\n"
    else (if number == 4 then codes "refused ZeroDivisor pc " ++ decimal pc ++ codes "\n"
    else (if number == 5 then codes "refused BadShift pc " ++ decimal pc ++ codes "\n"
    else (if number == 6 then codes "refused BadWord pc " ++ decimal pc ++ codes "\n"
    else (if number == 7 then codes "refused JumpOut pc " ++ decimal pc ++ codes "\n"
    else (if number == 8 then codes "refused Ancillary pc " ++ decimal pc ++ codes "\n"
    else (if number == 9 then codes "refused NoReturn\n"
    else codes "refused \n"))))))))

-- a refusal is of an unwritten word, or its number and its place give its line
path_or_line : (r : Refusal) → ((pc : ℕ) × (word : ℕ) × (path : List ℕ) × (r ≡ Unwritten pc word path)) ⊎ ((number_of r ≢ 10) × (refused_line r ≡ line_by (number_of r) (place_of r)))
path_or_line Empty = inr ((λ e. omega (arith, e)), refl)
path_or_line TooLong = inr ((λ e. omega (arith, e)), refl)
path_or_line (BadCode pc) = inr ((λ e. omega (arith, e)), refl)
path_or_line (ZeroDivisor pc) = inr ((λ e. omega (arith, e)), refl)
path_or_line (BadShift pc) = inr ((λ e. omega (arith, e)), refl)
path_or_line (BadWord pc) = inr ((λ e. omega (arith, e)), refl)
path_or_line (JumpOut pc) = inr ((λ e. omega (arith, e)), refl)
path_or_line (Ancillary pc) = inr ((λ e. omega (arith, e)), refl)
path_or_line NoReturn = inr ((λ e. omega (arith, e)), refl)
path_or_line (Unwritten pc word path) = inl (pc, word, path, refl)
path_or_line NoMemory = inr ((λ e. omega (arith, e)), refl)

-- an instruction loads one word at most
loaded_same : (program : List Insn) (pc word other : ℕ) → LoadsWord program pc word → LoadsWord program pc other → word ≡ other
loaded_same program pc word other (inl a) (inl b) = let same : LdMem word ≡ LdMem other = FormAt-same program pc (LdMem word) (LdMem other) a b in cc
loaded_same program pc word other (inl a) (inr b) = let same : LdMem word ≡ LdxMem other = FormAt-same program pc (LdMem word) (LdxMem other) a b in cc
loaded_same program pc word other (inr a) (inl b) = let same : LdxMem word ≡ LdMem other = FormAt-same program pc (LdxMem word) (LdMem other) a b in cc
loaded_same program pc word other (inr a) (inr b) = let same : LdxMem word ≡ LdxMem other = FormAt-same program pc (LdxMem word) (LdxMem other) a b in cc

unwritten_once : (program : List Insn) (pc word : ℕ) (path : List ℕ) (pc' word' : ℕ) (path' : List ℕ) → pc ≡ pc' → Refuses program (Unwritten pc word path) → Refuses program (Unwritten pc' word' path')
    → SameButPath (refused_line (Unwritten pc word path)) (refused_line (Unwritten pc' word' path'))
unwritten_once program pc word path pc' word' path' places one two =
    let loads : LoadsWord program pc' word = subst (λ (p : ℕ). LoadsWord program p word) places one.1.loads in
    let words : word ≡ word' = loaded_same program pc' word word' loads two.1.loads in
    inr (pc, word, path, path', refl, ap (λ p. refused_line (Unwritten p word' path')) (sym places) ∙ ap (λ w. refused_line (Unwritten pc w path')) (sym words))

refusals_once : (program : List Insn) (r q : Refusal) → Refuses program r → Refuses program q → SameButPath (refused_line r) (refused_line q)
refusals_once program r q one two =
    let same = Refuses-same program r q one two in
    elim (path_or_line r) [
      | inl by ↦ elim (path_or_line q) [
        | inl by' ↦
            let places : by.0 ≡ by'.0 = sym (ap place_of by.3) ∙ same.1 ∙ ap place_of by'.3 in
            rw (by.3, by'.3) (unwritten_once program by.0 by.1 by.2 by'.0 by'.1 by'.2 places (subst (Refuses program) by.3 one) (subst (Refuses program) by'.3 two))
        | inr other ↦ absurd (other.0 (sym same.0 ∙ ap number_of by.3))
      ]
      | inr known ↦ elim (path_or_line q) [
        | inl by' ↦ absurd (known.0 (same.0 ∙ ap number_of by'.3))
        | inr known' ↦ inl (known.1 ∙ ap (λ n. line_by n (place_of r)) same.0 ∙ ap (λ p. line_by (number_of q) p) same.1 ∙ sym known'.1)
      ]
    ]

pub bad_code_once : (code text other : List ℕ) → ShowsBadCode code text → ShowsBadCode code other → SameButPath text other
bad_code_once code text other (inl one) (inl two) = inl (one.2 ∙ ap code_line (one_fault code one.0 two.0 one.1 two.1) ∙ sym two.2)
bad_code_once code text other (inl one) (inr two) = absurd (spelled_or_faulty code two.0 one.0 two.1 one.1)
bad_code_once code text other (inr one) (inl two) = absurd (spelled_or_faulty code one.0 two.0 one.1 two.1)
bad_code_once code text other (inr one) (inr two) =
    let same : one.0 ≡ two.0 = one_program code one.0 two.0 one.1 two.1 in
    rw (one.4, two.4) (refusals_once two.0 one.2 two.2 (rw same at one.3) two.3)

-- a code that is good has no such line
pub good_not_bad : (code : List ℕ) (program : List Insn) (text : List ℕ) → IsGoodCode code program → ShowsBadCode code text → ⊥
good_not_bad code program text good (inl bad) = spelled_or_faulty code program bad.0 good.0 bad.1
good_not_bad code program text good (inr bad) =
    let same : program ≡ bad.0 = one_program code program bad.0 good.0 bad.1 in
    Refuses-sound bad.0 bad.2 (rw same at good.1) bad.3

-- and neither has one that gives something to run, decimal text or an expression
spelled : (code : List ℕ) (accept : ℕ) (given : Result (List Insn) CodeFault) → Gives code accept 1 given → (expr : Expr) × Spells code expr
spelled code accept (Ok program) gives = (gives.2.expr, gives.2.spells)
spelled code accept (Err (Compile fault)) gives = gives.3
spelled code accept (Err (NoLink number)) gives = absurd (never gives.0)
  where
    never : (◌≡◌ {A = Option Link} (Some Ethernet) None) → ⊥
    never e = cc

not_both : {b : Bool} → b ≡ true → b ≡ false → ⊥
not_both e f = cc

pub filter_not_bad : (code : List ℕ) (accept : ℕ) (programs : Programs) (text words : List ℕ) → IsFilter code accept programs → ShowsBadFilter code text words → ⊥
filter_not_bad code accept programs text words (inl good) (inl bad) = good_not_bad code good.1 text good.2 bad.1
filter_not_bad code accept programs text words (inl good) (inr bad) = not_both bad.0 good.0
filter_not_bad code accept programs text words (inr good) (inl bad) = not_both good.0 bad.0
filter_not_bad code accept programs text words (inr good) (inr bad) = let expr = spelled code accept (programs 1) (good.1 1) in bad.3 expr.0 expr.1
