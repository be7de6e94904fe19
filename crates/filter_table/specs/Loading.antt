-- Operations that bring a program that lies elsewhere.
use Rattle.std.specs.Prelude.{List}
use Rattle.bpf_insn.specs.declared.insn.Insn.{Insn}
use Rattle.filter_table.specs.declared.loading.Load.{Load}
use Rattle.filter_table.specs.declared.loading.Load.TheVariants.{Install, Replace}
use Rattle.filter_table.specs.declared.operation.Op.{Op}
use Rattle.filter_table.specs.declared.operation.Op.TheVariants as op

-- the operation with this program
abbrev pub load_op : Load → List Insn → Op
load_op (Install domain cap) program = op.Install domain cap program
load_op (Replace domain filter) program = op.Replace domain filter program
