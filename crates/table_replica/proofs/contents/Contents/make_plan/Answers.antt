use Rattle.std.proofs.Common.{◌≡◌, ◌∙◌, None, ap, arith, refl, subst, sym}
use Rattle.endpoint_caps.specs.Capabilities.{first}
use Rattle.filter_table.specs.Soundness.{IsSoundTable}
use Rattle.filter_table.specs.Tables.{TableState, after, instructions_of, made, tests}
use Rattle.filter_table.proofs.Changes.{version_room}
use Rattle.installed_filters.specs.Lent.{listed}
use Rattle.table_replica.specs.Changing.{IsNext}
use Rattle.table_replica.specs.Shares.{IsNewShare}
use Rattle.table_replica.specs.Shown.{Staging}
use Rattle.table_replica.proofs.NextFilters.{may_change}
use Rattle.table_replica.proofs.Planned.{plan_kept}
use Rattle.table_replica.proofs.contents.Contents.make_plan.Goals as goal

pub prepare_filters-requires-clause-may : goal.prepare_filters-requires-clause-may
prepare_filters-requires-clause-may c =
    let i = c.self.inside in
    let s : TableState = record { limits = i.limits; version = i.version; caps = i.caps.table; filters = listed i.filters.now; next_filter = i.next_filter } in
    let sound = subst (λ (v : Staging). IsSoundTable v.table) (sym c.self.view_is) c.requires.sound in
    let none = subst (λ (v : Staging). first (tests v.table c.args.budget c.args.op.now) ≡ None) (sym c.self.view_is) c.requires.allowed in
    may_change s sound i.filters.now refl c.self.invariant.held c.args.budget c.args.op.now none (omega arith)

pub invariant_of-self-2 : goal.invariant_of-self-2
invariant_of-self-2 c =
    let i = c.self.inside in
    let s : TableState = record { limits = i.limits; version = i.version; caps = i.caps.table; filters = listed i.filters.now; next_filter = i.next_filter } in
    let op = c.args.op.now in
    let sound = subst (λ (v : Staging). IsSoundTable v.table) (sym c.self.view_is) c.requires.sound in
    let none = subst (λ (v : Staging). first (tests v.table c.args.budget op) ≡ None) (sym c.self.view_is) c.requires.allowed in
    plan_kept s c.prepare_caps.new.caps i.filters c.prepare_filters.new.filters i.shares c.reserve.new.self i.instructions c.args.budget op _ sound refl c.self.invariant.held c.self.invariant.shares_kept c.self.invariant.total none
    c.prepare_caps.ensures.table c.prepare_filters.ensures.now
    (subst (λ t. IsNext t i.next_filter i.filters.now op c.prepare_filters.new.filters.next) c.prepare_caps.ensures.table c.in_ok-prepare_filters.ensures.planned)
    c.reserve.ensures.entries (subst (λ (v : Staging). IsNewShare v.table.filters (after v.table op).filters c.share_after-share.result) (sym c.self.view_is) c.share_after-share.ensures) c.in_ok-reserve.ensures.room
    c.of.ensures c.in_ok-caps.ensures.change c.in_ok-caps.ensures.ready
    (c.instructions_after-instructions.ensures ∙ ap (λ (v : Staging). instructions_of (after v.table op).filters) (sym c.self.view_is))
    (c.next_filter_after-next_filter.ensures ∙ ap (λ (v : Staging). (after v.table op).next_filter) (sym c.self.view_is))
    (c.made-made.ensures ∙ ap (λ (v : Staging). made v.table op) (sym c.self.view_is))
    (version_room s c.args.budget op none (omega arith))
