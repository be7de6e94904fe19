-- What each part of the code generator adds to a program.
-- No public clause cites these.
use Rattle.std.specs.Prelude.{◌≡◌, ℕ, ◌+◌, ◌-◌, List, length, Option, Some, None}
use Rattle.bpf_insn.specs.declared.insn.Insn.{Insn}
use Rattle.bpf_insn.specs.Machine.{Packet}
use Rattle.filter_cond.specs.declared.number.Load.{Load}
use Rattle.filter_cond.specs.declared.check.Check.{Check}
use Rattle.filter_cond.specs.Numbers.{loaded}
use Rattle.filter_cond.specs.Means.{tested}
use Rattle.filter_codegen.specs.declared.plan.Bits.{Bits}
use Rattle.filter_codegen.specs.declared.plan.Held.{Held}
use Rattle.filter_codegen.specs.declared.plan.Start.{Start}
use Rattle.filter_codegen.specs.Drafts.{Adds}
use Rattle.filter_codegen.specs.Graphs.{answer}
use Rattle.filter_codegen.specs.Held.{Enters, Needs, IsReady, own_header, left}

-- compares the accumulator, and goes on at one of two places
pub record Branches (check : Check) (pass fail : ℕ) (old new : List Insn) (place : ℕ) : Type 0 where
  pub adds : Adds old new 1
  pub first : place + 1 ≡ length new
  pub enters : (packet : Packet) (header : Option ℕ) (accept reject : ℕ)
      → Enters packet old pass (Some (record { load = check.load; mask = check.mask })) header accept
      → Enters packet old fail (Some (record { load = check.load; mask = check.mask })) header reject
      → Enters packet new place (Some (record { load = check.load; mask = check.mask })) header (answer (tested check packet) accept reject)

-- keeps the bits of the accumulator that count, and goes on at the old front
pub record Masks (check : Check) (old new : List Insn) : Type 0 where
  pub adds : Adds old new 1
  pub enters : (packet : Packet) (header : Option ℕ) (verdict : ℕ)
      → Enters packet old (length old - 1) (Some (record { load = check.load; mask = check.mask })) header verdict
      → Enters packet new (length new - 1) (Some (record { load = check.load; mask = None })) header verdict

-- loads a number, the index register being ready, and goes on at the old front; or rejects the packet that lacks it
pub record Loads (load : Load) (old new : List Insn) (place : ℕ) : Type 0 where
  pub adds : Adds old new 1
  pub first : place + 1 ≡ length new
  pub enters : (packet : Packet) (number : Option Bits) (header : Option ℕ) (verdict : ℕ)
      → IsReady load header → (loaded load packet ≡ None → verdict ≡ 0)
      → Enters packet old (length old - 1) (Some (record { load = load; mask = None })) header verdict
      → Enters packet new place number header verdict

-- loads the index register before
pub record Indexes (load : Load) (old new : List Insn) (place : ℕ) : Type 0 where
  pub adds : Adds old new 2
  pub first : place + 1 ≡ length new
  pub enters : (packet : Packet) (number : Option Bits) (header : Option ℕ) (verdict : ℕ)
      → (loaded load packet ≡ None → verdict ≡ 0)
      → Enters packet old (length old - 1) (Some (record { load = load; mask = None })) (own_header load) verdict
      → Enters packet new place number header verdict

-- tests a number, and goes on at one of two places, as the test comes out; or rejects the packet that lacks it
pub record Emits (check : Check) (start : Start) (pass fail : ℕ) (old new : List Insn) (place : ℕ) : Type 0 where
  pub adds : Adds old new 4
  pub first : place + 1 ≡ length new
  pub enters : (packet : Packet) (held : Held) (accept reject : ℕ)
      → Needs check start held
      → (let after = left check start held in Enters packet old pass after.number after.header accept)
      → (let after = left check start held in Enters packet old fail after.number after.header reject)
      → Enters packet new place held.number held.header (answer (tested check packet) accept reject)
