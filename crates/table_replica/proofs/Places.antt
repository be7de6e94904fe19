-- The places that refusals name are those of instructions.
use Rattle.std.proofs.Common.{ℕ, ◌<◌, ◌≤◌, List, length, inl, inr, arith}
use Rattle.bpf_insn.specs.declared.insn.Insn.{Insn}
use Rattle.bpf_insn.proofs.Places.{FormAt-inside}
use Rattle.filter_verify.specs.declared.rules.Refusal.{Refusal}
use Rattle.filter_verify.specs.declared.rules.Refusal.TheVariants.{Empty, TooLong, BadCode, ZeroDivisor, BadShift, BadWord, JumpOut, Ancillary, NoReturn, Unwritten, NoMemory}
use Rattle.filter_verify.specs.Paths.{LoadsWord}
use Rattle.filter_verify.specs.Rules.{Refuses, IsFirst}
use Rattle.filter_verify.specs.Numbers.{place_of}

first_below : (program : List Insn) (pc : ℕ) → IsFirst program pc → pc < 65536
first_below program pc first = let limited = first.0.1 in let inside = first.1 in omega arith

load_below : (program : List Insn) (pc word : ℕ) → LoadsWord program pc word → length program ≤ 4096 → pc < 65536
load_below program pc word (inl at) limited = let inside = FormAt-inside program pc _ at in omega arith
load_below program pc word (inr at) limited = let inside = FormAt-inside program pc _ at in omega arith

pub place_below : (program : List Insn) (refusal : Refusal) → Refuses program refusal → place_of refusal < 65536
place_below program Empty r = omega arith
place_below program TooLong r = omega arith
place_below program (BadCode pc) r = first_below program pc r.0
place_below program (ZeroDivisor pc) r = first_below program pc r.0
place_below program (BadShift pc) r = first_below program pc r.0
place_below program (BadWord pc) r = first_below program pc r.0
place_below program (JumpOut pc) r = first_below program pc r.0
place_below program (Ancillary pc) r = first_below program pc r.0
place_below program NoReturn r = omega arith
place_below program (Unwritten pc word path) r = load_below program pc word r.1.loads r.0.sized.1
place_below program NoMemory r = absurd r
