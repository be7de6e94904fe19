use Rattle.std.proofs.Common.{◌∙◌, ap, arith, length}
use Rattle.bpf_insn.specs.declared.insn.Insn.{Insn}
use Rattle.table_replica.specs.Shown.{Staging}
use Rattle.table_replica.specs.declared.shares.Share.{Share}
use Rattle.table_replica.specs.Shares.{with_one}
use Rattle.table_replica.proofs.Owned.{install_counts, replace_counts, new_installed, new_removed, new_replaced, removes_owned, replaces_owned}
use Rattle.table_replica.proofs.contents.Contents.share_after.Goals as goal

pub with_one-requires-clause-filters : goal.with_one-requires-clause-filters
with_one-requires-clause-filters c =
    let s = c.args.self.now.table in
    let own = c.in-Install in
    let ids = ap (λ (v : Staging). v.table.next_filter) c.self.view_is in
    let counts = install_counts s c.args.op.now c.requires.allowed.0 own.domain own.cap own.program c.requires.sound own.is c.requires.allowed.2 (omega (arith, ids)) c.requires.allowed.1 in
    let few = counts.0 in
    let count = ap (λ (x : Share). x.filters) c.share.ensures in
    omega (arith, few, count)

pub with_one-requires-clause-instructions : goal.with_one-requires-clause-instructions
with_one-requires-clause-instructions c =
    let s = c.args.self.now.table in
    let own = c.in-Install in
    let ids = ap (λ (v : Staging). v.table.next_filter) c.self.view_is in
    let counts = install_counts s c.args.op.now c.requires.allowed.0 own.domain own.cap own.program c.requires.sound own.is c.requires.allowed.2 (omega (arith, ids)) c.requires.allowed.1 in
    let short = counts.1 in
    let sum = ap (λ (x : Share). x.instructions) c.share.ensures in
    let long = ap (length {A = Insn}) c.as_slice.ensures in
    omega (arith, short, sum, long)

pub with_one-requires-in-Replace-clause-filters : goal.with_one-requires-in-Replace-clause-filters
with_one-requires-in-Replace-clause-filters c =
    let own = c.in-Replace in
    let ids = ap (λ (v : Staging). v.table.next_filter) c.self.view_is in
    (replace_counts c.args.self.now.table c.args.op.now c.requires.allowed.0 own.domain own.filter own.program c.share_without-left.result c.requires.sound own.is c.requires.allowed.2 (omega (arith, ids)) c.requires.allowed.1
    c.share_without-left.ensures).0

pub with_one-requires-in-Replace-clause-instructions : goal.with_one-requires-in-Replace-clause-instructions
with_one-requires-in-Replace-clause-instructions c =
    let own = c.in-Replace in
    let ids = ap (λ (v : Staging). v.table.next_filter) c.self.view_is in
    let counts = replace_counts c.args.self.now.table c.args.op.now c.requires.allowed.0 own.domain own.filter own.program c.share_without-left.result c.requires.sound own.is c.requires.allowed.2 (omega (arith, ids)) c.requires.allowed.1
    c.share_without-left.ensures in
    let short = counts.1 in
    let long = ap (length {A = Insn}) c.as_slice-in-Replace.ensures in
    omega (arith, short, long)

pub returns-in-Install : goal.returns-in-Install
returns-in-Install c =
    let own = c.in-Install in
    new_installed c.args.self.now.table c.args.op.now own.domain own.cap own.program c.as_slice.result.now c.with_one.result own.is c.as_slice.ensures
    (c.with_one.ensures ∙ ap (λ (x : Share). with_one x c.as_slice.result.now) c.share.ensures)

pub returns-in-Remove : goal.returns-in-Remove
returns-in-Remove c =
    let s = c.args.self.now.table in
    let own = c.in-Remove in
    new_removed s c.args.op.now own.domain own.filter c.share_without.result c.requires.sound (removes_owned s c.args.op.now c.requires.allowed.0 own.domain own.filter own.is c.requires.allowed.2) own.is c.share_without.ensures

pub returns-in-Replace : goal.returns-in-Replace
returns-in-Replace c =
    let s = c.args.self.now.table in
    let own = c.in-Replace in
    new_replaced s c.args.op.now own.domain own.filter own.program c.as_slice-in-Replace.result.now c.with_one-in-Replace.result c.share_without-left.result c.requires.sound
    (replaces_owned s c.args.op.now c.requires.allowed.0 own.domain own.filter own.program own.is c.requires.allowed.2) own.is c.as_slice-in-Replace.ensures c.share_without-left.ensures c.with_one-in-Replace.ensures
