-- A path through a program has at most as many places as the program has instructions: no jump leads backward.
use Rattle.std.proofs.Common.{◌≡◌, ◌∙◌, ℕ, ◌+◌, ◌<◌, ◌≤◌, List, [], ◌∷◌, ◌++◌, length, ap, subst, inl, inr, arith, length-append}
use Rattle.bpf_insn.specs.declared.insn.Insn.{Insn}
use Rattle.bpf_insn.proofs.Places.{FormAt-inside}
use Rattle.filter_verify.specs.declared.rules.Refusal.{Refusal}
use Rattle.filter_verify.specs.declared.rules.Refusal.TheVariants.{Empty, TooLong, BadCode, ZeroDivisor, BadShift, BadWord, JumpOut, Ancillary, NoReturn, Unwritten, NoMemory}
use Rattle.filter_verify.specs.Paths.{IsWalk, Path, IsUnwritten}
use Rattle.filter_verify.specs.Rules.{Refuses}
use Rattle.filter_verify.proofs.Forward.{Successor-later}
use Rattle.mkdemux_c.specs.Refusals.{path_of}

-- each step of a walk leads to a later place
walk_climbs : (program : List Insn) (start : ℕ) (middle : List ℕ) (last : ℕ) → IsWalk program (start ∷ (middle ++ last ∷ [])) → start + length middle < last
walk_climbs program start [] last walk =
    let later = Successor-later program start last walk.0 in
    omega arith
walk_climbs program start (next ∷ rest) last walk =
    let later = Successor-later program start next walk.0 in
    let climbs = walk_climbs program next rest last walk.1 in
    omega arith

path_climbs : (program : List Insn) (earlier : List ℕ) (last : ℕ) → Path program (earlier ++ last ∷ []) → length earlier ≤ last
path_climbs program [] last path = omega arith
path_climbs program (start ∷ middle) last path =
    let climbs = walk_climbs program start middle last path.1 in
    omega arith

path_within : (program : List Insn) (pc word : ℕ) (path : List ℕ) → IsUnwritten program pc word path → length path ≤ length program
path_within program pc word path unwritten =
    let climbs = path_climbs program unwritten.earlier pc (subst (Path program) unwritten.ends unwritten.is_path) in
    let inside : pc < length program = elim unwritten.loads [
      | inl at ↦ FormAt-inside program pc _ at
      | inr at ↦ FormAt-inside program pc _ at
    ] in
    let whole : length path ≡ length unwritten.earlier + 1 = ap length unwritten.ends ∙ length-append unwritten.earlier (pc ∷ []) in
    omega arith

-- the path of a refusal, where it has one
pub refused_path-within : (program : List Insn) (refusal : Refusal) → ((refusal ≡ NoMemory → ⊥) → Refuses program refusal) → (length (path_of refusal) ≤ length program) × (length (path_of refusal) ≤ 4096)
refused_path-within program (Unwritten pc word path) refuses =
    let refused = refuses (λ e. cc) in
    let within = path_within program pc word path refused.1 in
    let short = refused.0.sized.1 in
    (within, omega arith)
refused_path-within program Empty refuses = (omega arith, omega arith)
refused_path-within program TooLong refuses = (omega arith, omega arith)
refused_path-within program (BadCode pc) refuses = (omega arith, omega arith)
refused_path-within program (ZeroDivisor pc) refuses = (omega arith, omega arith)
refused_path-within program (BadShift pc) refuses = (omega arith, omega arith)
refused_path-within program (BadWord pc) refuses = (omega arith, omega arith)
refused_path-within program (JumpOut pc) refuses = (omega arith, omega arith)
refused_path-within program (Ancillary pc) refuses = (omega arith, omega arith)
refused_path-within program NoReturn refuses = (omega arith, omega arith)
refused_path-within program NoMemory refuses = (omega arith, omega arith)
