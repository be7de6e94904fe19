use Rattle.std.proofs.Common.{List, ap, inl, length, map, subst, sym}
use Rattle.bpf_insn.specs.Machine.{Packet}
use Rattle.filter_group.specs.declared.lockstep.Hit.{Hit}
use Rattle.filter_table.specs.Tables.{AreReceivers}
use Rattle.installed_filters.specs.Counts.{AreWithin}
use Rattle.installed_filters.specs.Keeping.{AreApart, AreKept, GetsBy}
use Rattle.installed_filters.specs.Installed.{AreHeldBy, Installed, Standing}
use Rattle.installed_filters.specs.Receiving.{kept_by}
use Rattle.installed_filters.proofs.Planned.{running_own}
use Rattle.installed_filters.proofs.Received.{hits_apart, hits_within, received}
use Rattle.installed_filters.proofs.filters.Filters.receivers.Goals as goal

pub receive-requires-clause-inside : goal.receive-requires-clause-inside
receive-requires-clause-inside c =
    let i = c.self.inside in
    let own = running_own i.rows i.slots i.reaches c.self.invariant.0.booked i.lists i.change c.self.invariant.1 c.self.invariant.0.listed in
    let packet : Packet = record { bytes = c.args.bytes.now; original = c.args.original } in
    subst (λ (hs : List Hit). AreWithin c.self.inside.reaches.ends hs) (sym c.deref.ensures.value)
    (hits_within i.rows.entries i.slots.slots i.reaches.ends c.self.invariant.0.booked i.lists.running (λ m p x. (c.self.invariant.0.listed.run m p).1 (inl x)) own packet c.run.new.lists.hits.items c.in_ok-run.ensures)

pub receive-requires-clause-apart : goal.receive-requires-clause-apart
receive-requires-clause-apart c =
    let i = c.self.inside in
    let own = running_own i.rows i.slots i.reaches c.self.invariant.0.booked i.lists i.change c.self.invariant.1 c.self.invariant.0.listed in
    let packet : Packet = record { bytes = c.args.bytes.now; original = c.args.original } in
    subst AreApart (sym c.deref.ensures.value)
    (hits_apart i.rows.entries i.slots.slots i.reaches.ends c.self.invariant.0.booked i.lists.running (λ m p x. (c.self.invariant.0.listed.run m p).1 (inl x)) own packet c.run.new.lists.hits.items c.in_ok-run.ensures)

pub returns : goal.returns
returns c = λ caps.
    let i = c.self.inside in
    let own = running_own i.rows i.slots i.reaches c.self.invariant.0.booked i.lists i.change c.self.invariant.1 c.self.invariant.0.listed in
    let packet : Packet = record { bytes = c.args.bytes.now; original = c.args.original } in
    let ends = c.self.inside.reaches.ends in
    let kept = kept_by c.in_ok-found.found c.receive.new.kept.items in
    let h = subst (λ (hs : List Hit). AreKept (GetsBy ends hs) (length c.args.bytes.now) kept) c.deref.ensures.value c.in_ok-found.ensures in
    subst (λ (fs : List Installed). AreHeldBy caps fs → AreReceivers caps (map (λ f. f.filter) fs) packet kept) (ap (λ (s : Standing). s.now) c.self.view_is)
    (λ held. received i.rows.entries i.slots.slots ends c.self.invariant.0.booked i.lists.running (λ m p x. (c.self.invariant.0.listed.run m p).1 (inl x)) own packet c.run.new.lists.hits.items c.in_ok-run.ensures caps held kept h)
