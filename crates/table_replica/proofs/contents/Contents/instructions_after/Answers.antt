use Rattle.std.proofs.Common.{◌≡◌, ◌+◌, None, ap, arith, length, refl, subst, sym}
use Rattle.bpf_insn.specs.declared.insn.Insn.{Insn}
use Rattle.endpoint_caps.specs.Capabilities.{first}
use Rattle.filter_table.specs.Tables.{after, instructions_of, tests}
use Rattle.filter_table.specs.declared.operation.Op.{Op}
use Rattle.filter_table.specs.declared.operation.Op.TheVariants.{Replace}
use Rattle.filter_table.proofs.Changes.{replace_room}
use Rattle.table_replica.proofs.Counting.{replaced_allowed}
use Rattle.table_replica.proofs.contents.Contents.instructions_after.Goals as goal

pub overflow_cast-result-in-Replace : goal.overflow_cast-result-in-Replace
overflow_cast-result-in-Replace c =
    let s = c.args.self.now.table in
    let none = subst (λ (o : Op). first (tests s c.requires.allowed.0 o) ≡ None) c.in-Replace.is c.requires.allowed.2 in
    let sum = replaced_allowed s c.requires.allowed.0 c.in-Replace.domain c.in-Replace.filter c.in-Replace.program c.requires.sound none in
    let room = replace_room s c.requires.allowed.0 c.in-Replace.domain c.in-Replace.filter c.in-Replace.program none in
    let low = c.requires.allowed.1 in
    let long = ap (length {A = Insn}) c.as_slice-in-Replace.ensures in
    omega (arith, sum, room, low, long)

pub overflow_add-result-in-Replace : goal.overflow_add-result-in-Replace
overflow_add-result-in-Replace c =
    let s = c.args.self.now.table in
    let none = subst (λ (o : Op). first (tests s c.requires.allowed.0 o) ≡ None) c.in-Replace.is c.requires.allowed.2 in
    let sum = replaced_allowed s c.requires.allowed.0 c.in-Replace.domain c.in-Replace.filter c.in-Replace.program c.requires.sound none in
    let room = replace_room s c.requires.allowed.0 c.in-Replace.domain c.in-Replace.filter c.in-Replace.program none in
    let low = c.requires.allowed.1 in
    let is = c.instructions_without-in-Replace.ensures in
    let long = ap (length {A = Insn}) c.as_slice-in-Replace.ensures in
    omega (arith, sum, room, low, is, long)

pub returns-in-Replace : goal.returns-in-Replace
unfolding after
returns-in-Replace c =
    let s = c.args.self.now.table in
    let none = subst (λ (o : Op). first (tests s c.requires.allowed.0 o) ≡ None) c.in-Replace.is c.requires.allowed.2 in
    let sum = replaced_allowed s c.requires.allowed.0 c.in-Replace.domain c.in-Replace.filter c.in-Replace.program c.requires.sound none in
    let is = c.instructions_without-in-Replace.ensures in
    let long = ap (length {A = Insn}) c.as_slice-in-Replace.ensures in
    subst (λ (o : Op). c.instructions_without-in-Replace.result + length c.as_slice-in-Replace.result.now ≡ instructions_of (after s o).filters) (sym c.in-Replace.is) (omega (arith, sum, is, long))
