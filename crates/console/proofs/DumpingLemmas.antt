-- What `dump` has shown of what it read.
use Rattle.std.proofs.Common.{◌≡◌, ℕ, Bool, List, ◌++◌, append_assoc, Option, Some, refl, inl, inr}
use Rattle.console.specs.declared.captured.Captured.{Captured}
use Rattle.engine_io.specs.declared.source.Source.{Source}
use Rattle.engine_io.specs.Reading.{BeginsWith, IsInput}
use Rattle.console.specs.Reading.{GaveCapture, entries_of}
use Rattle.console.specs.Faults.{fault_status}
use Rattle.console.specs.Dumping.{ShowsDump, ShowsDumpPart, dump_text}
use Rattle.engine_io.proofs.InputLemmas.{whole_input}

-- an input that was read
pub dump_read : (link : Option ℕ) (stamped : Bool) {R : Type 0} {remaining : R → Option (List ℕ)} (old new : Source R) (c : Captured) → GaveCapture remaining old new (Some c)
    → (input : List ℕ) × IsInput remaining old new input × ShowsDump link stamped input (fault_status c.fault) (dump_text link stamped (entries_of c.entries.items) c.fault)
dump_read link stamped old new c gave = (gave.0, whole_input old new gave.0 gave.1 gave.2, inl (gave.3, entries_of c.entries.items, c.fault, gave.4, refl, refl))

-- and shown in part
pub dump_part : (link : Option ℕ) (stamped : Bool) {R : Type 0} {remaining : R → Option (List ℕ)} (old new : Source R) (input : List ℕ) (status : ℕ) (whole text : List ℕ) → IsInput remaining old new input → ShowsDump link stamped input status whole → BeginsWith text whole → ShowsDumpPart link stamped remaining old new text
dump_part link stamped old new input status whole text is shows begins = inr (input, status, whole, is, shows, begins)

-- ten texts, one after the other
pub ten_texts : (t t1 t2 t3 t4 t5 t6 t7 t8 t9 t10 a b c d e f g h i j : List ℕ) → t1 ≡ t ++ a → t2 ≡ t1 ++ b → t3 ≡ t2 ++ c → t4 ≡ t3 ++ d → t5 ≡ t4 ++ e → t6 ≡ t5 ++ f → t7 ≡ t6 ++ g → t8 ≡ t7 ++ h → t9 ≡ t8 ++ i → t10 ≡ t9 ++ j
    → t10 ≡ t ++ (((((((((a ++ b) ++ c) ++ d) ++ e) ++ f) ++ g) ++ h) ++ i) ++ j)
ten_texts t t1 t2 t3 t4 t5 t6 t7 t8 t9 t10 a b c d e f g h i j p1 p2 p3 p4 p5 p6 p7 p8 p9 p10 = rw (p10, p9, p8, p7, p6, p5, p4, p3, p2, p1) (simp append_assoc)
