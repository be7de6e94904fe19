-- Texts that are written piece by piece.
use Rattle.std.proofs.Common.{◌≡◌, ◌∙◌, ◌++◌, [], ◌∷◌, List, ℕ, refl, Result, Ok, Err, OnOk, ap, sym, is_ok, if◌then◌else◌, append_assoc}
use Rattle.std.specs.List.{flat_map}
use Rattle.std.specs.Fmt.{decimal}
use Rattle.endpoint_caps.specs.declared.Cap.{Cap}
use Rattle.endpoint_caps.specs.Keeping.{entries_of}
use Rattle.filter_table.specs.declared.operation.OpFault.{OpFault}
use Rattle.filter_table.specs.declared.operation.OpFault.TheVariants.{BadProgram}
use Rattle.sim_lines.specs.Decisions.{rule_words}

-- what was written is this text too
pub same_text : {X E : Type 0} (r : Result X E) (a b c : List ℕ) → OnOk r (a ≡ b) → b ≡ c → OnOk r (a ≡ c)
same_text (Ok x) a b c e f = e ∙ f
same_text (Err x) a b c e f = tt

pub bad_program : (text : List ℕ) (fault : OpFault) (rule pc : ℕ) → fault ≡ BadProgram rule pc
    → text ++ 66 ∷ 97 ∷ 100 ∷ 80 ∷ 114 ∷ 111 ∷ 103 ∷ 114 ∷ 97 ∷ 109 ∷ 32 ∷ (decimal rule ++ 32 ∷ decimal pc) ≡ text ++ rule_words fault
bad_program text fault rule pc is =
    let words : 66 ∷ 97 ∷ 100 ∷ 80 ∷ 114 ∷ 111 ∷ 103 ∷ 114 ∷ 97 ∷ 109 ∷ 32 ∷ (decimal rule ++ 32 ∷ decimal pc) ≡ rule_words (BadProgram rule pc) = simp append_assoc in
    ap (λ t. text ++ t) (words ∙ ap rule_words (sym is))

-- a piece was pushed, or nothing
pub pushed_text : {X E : Type 0} (r : Result X E) (new old piece : List ℕ) → new ≡ (if is_ok r then old ++ piece else old) → OnOk r (new ≡ old ++ piece)
pushed_text (Ok x) new old piece e = e
pushed_text (Err x) new old piece e = tt

-- the lines of what is listed under keys
pub lines_of : (line : Cap → List ℕ) (caps : List Cap) → flat_map (λ (entry : ℕ × Cap). line entry.1) (entries_of caps) ≡ flat_map line caps
lines_of line [] = refl
lines_of line (c ∷ caps) = ap (λ ys. line c ++ ys) (lines_of line caps)
