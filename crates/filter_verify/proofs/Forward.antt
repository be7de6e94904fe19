-- Control goes forward.
use Rattle.bpf_insn.specs.Program.{JumpsTo, LeadsTo}
use Rattle.std.proofs.Common.{ℕ, ◌<◌, List, inl, inr, arith}
use Rattle.bpf_insn.specs.declared.insn.Insn.{Insn}
use Rattle.bpf_insn.specs.declared.form.Form.{Form}
use Rattle.bpf_insn.specs.declared.form.Form.TheVariants.{Ja, JmpK, JmpX, RetK, RetA}
use Rattle.filter_verify.specs.Paths.{Successor}

-- a jump's target is after it
pub JumpsTo-later : (pc : ℕ) (form : Form) (to : ℕ) → JumpsTo pc form to → pc < to
JumpsTo-later pc (Ja k) to e = omega arith
JumpsTo-later pc (JmpK test k jt jf) to e = elim e [ inl a ↦ omega arith | inr b ↦ omega arith ]
JumpsTo-later pc (JmpX test jt jf) to e = elim e [ inl a ↦ omega arith | inr b ↦ omega arith ]
JumpsTo-later pc _ to e = absurd e

-- where control goes is after the instruction
pub LeadsTo-later : (pc : ℕ) (form : Form) (to : ℕ) → LeadsTo pc form to → pc < to
LeadsTo-later pc (Ja k) to e = omega arith
LeadsTo-later pc (JmpK test k jt jf) to e = elim e [ inl a ↦ omega arith | inr b ↦ omega arith ]
LeadsTo-later pc (JmpX test jt jf) to e = elim e [ inl a ↦ omega arith | inr b ↦ omega arith ]
LeadsTo-later pc (RetK k) to e = absurd e
LeadsTo-later pc RetA to e = absurd e
LeadsTo-later pc _ to e = omega arith

-- a successor is after its place
pub Successor-later : (program : List Insn) (pc to : ℕ) → Successor program pc to → pc < to
Successor-later program pc to leads = LeadsTo-later pc leads.0 to leads.2
