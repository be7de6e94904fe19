use Rattle.std.proofs.Common.{◌≡◌, ◌∙◌, ◌+◌, Some, ap, sym, subst}
use Rattle.endpoint_caps.specs.Capabilities.{CapTable}
use Rattle.filter_table.specs.Tables.{TableState, after, instructions_of, made}
use Rattle.filter_table.specs.declared.operation.Op.{Op}
use Rattle.installed_filters.specs.Installed.{AreHeldBy}
use Rattle.installed_filters.specs.Lent.{listed}
use Rattle.table_replica.specs.declared.plan.Plan.{Plan}
use Rattle.table_replica.specs.Plans.{IsPlan, IsPlanned, staged_op}
use Rattle.table_replica.specs.Shown.{Staging}
use Rattle.table_replica.proofs.Planned.{is_after, plan_caps, plan_filters, plan_shares}
use Rattle.table_replica.proofs.contents.Contents.perform.Goals as goal

pub invariant_of-self-2 : goal.invariant_of-self-2
invariant_of-self-2 c =
    let i = c.self.inside in
    let s : TableState = record { limits = i.limits; version = i.version; caps = i.caps.table; filters = listed i.filters.now; next_filter = i.next_filter } in
    let plan : Plan = c.in_ok-caps.field-0 in
    let there : i.plan ≡ Some plan = sym c.take.ensures.value ∙ c.in_ok-caps.was in
    let p : IsPlan s i.caps i.filters i.shares plan = subst (IsPlanned s i.caps i.filters i.shares) there c.self.invariant.planned in
    let caps = plan_caps s i.caps i.filters i.shares plan c.change_caps.new.caps.table p c.change_caps.ensures in
    let filters = plan_filters s i.caps i.filters i.shares plan c.perform.new.self.now p c.perform.ensures.now in
    let next : TableState = record { limits = i.limits; version = i.version + 1; caps = c.change_caps.new.caps.table; filters = listed c.perform.new.self.now; next_filter = plan.next_filter } in
    record {
      held = subst (λ (t : CapTable). AreHeldBy t.held c.perform.new.self.now) (sym caps) filters.1;
      shares_kept = plan_shares s i.caps i.filters i.shares plan c.change.new.self.entries c.perform.new.self.now p c.self.invariant.shares_kept c.change.ensures filters.0;
      total = p.instructions_after ∙ ap instructions_of (sym filters.0);
      planned = subst (IsPlanned next c.change_caps.new.caps c.perform.new.self c.change.new.self) (sym c.take.ensures.after) c.perform.ensures.free;
    }

pub returns-clause-performed : goal.returns-clause-performed
returns-clause-performed c =
    let i = c.self.inside in
    let s : TableState = record { limits = i.limits; version = i.version; caps = i.caps.table; filters = listed i.filters.now; next_filter = i.next_filter } in
    let plan : Plan = c.in_ok-caps.field-0 in
    let there : i.plan ≡ Some plan = sym c.take.ensures.value ∙ c.in_ok-caps.was in
    let p : IsPlan s i.caps i.filters i.shares plan = subst (IsPlanned s i.caps i.filters i.shares) there c.self.invariant.planned in
    let caps = plan_caps s i.caps i.filters i.shares plan c.change_caps.new.caps.table p c.change_caps.ensures in
    let filters = plan_filters s i.caps i.filters i.shares plan c.perform.new.self.now p c.perform.ensures.now in
    subst (λ (v : Staging). (op : Op) × (v.staged ≡ Some op) × (record { limits = i.limits; version = i.version + 1; caps = c.change_caps.new.caps.table; filters = listed c.perform.new.self.now; next_filter = plan.next_filter } ≡ after v.table op) × (plan.made ≡ made v.table op))
    c.self.view_is
    (plan.op.value, ap staged_op there, is_after s plan.op.value c.change_caps.new.caps.table (listed c.perform.new.self.now) plan.next_filter caps filters.0 p.next_filter, p.made)
