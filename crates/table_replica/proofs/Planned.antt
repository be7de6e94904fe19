-- What a plan makes of the table is what its operation does.
use Rattle.std.proofs.Common.{◌≡◌, ◌+◌, ◌<◌, ◌≤◌, ℕ, Option, Some, None, List, refl, sym, ap, ◌∙◌, subst}
use Rattle.std.specs.Prelude.{MatchOption, IfSome, IfNone}
use Rattle.endpoint_caps.specs.Capabilities.{CapTable, first}
use Rattle.endpoint_caps.specs.Holding.{Holding}
use Rattle.filter_table.specs.Listed.{ListedFilter}
use Rattle.filter_table.specs.Soundness.{IsSoundTable, IdsGrow}
use Rattle.filter_table.specs.declared.operation.Made.{Made}
use Rattle.filter_table.proofs.Changes.{fits_after}
use Rattle.filter_table.proofs.Soundness.{sound_next, ids_stay, ids_after}
use Rattle.filter_table.proofs.Tables.{limits-after}
use Rattle.filter_table.specs.Tables.{TableState, after, made, instructions_of, tests}
use Rattle.filter_table.specs.declared.operation.Op.{Op}
use Rattle.filter_table.specs.declared.operation.Op.TheVariants.{Create, Mint, Revoke, DropCap, Install, Remove, Replace}
use Rattle.table_replica.specs.declared.plan.Plan.{Plan}
use Rattle.installed_filters.specs.Installed.{Installed, Standing, AreHeldBy}
use Rattle.installed_filters.specs.Lent.{listed}
use Rattle.chunked.specs.Maps.{SortedMap, value_at}
use Rattle.table_replica.specs.declared.shares.Share.{Share}
use Rattle.table_replica.specs.Shares.{AreShares, HasRoom, IsNewShare, value_with}
use Rattle.table_replica.proofs.Owned.{shares_put}
use Rattle.table_replica.specs.Changing.{IsNext}
use Rattle.table_replica.specs.Plans.{change_of, caps_after, AreNextFilters, IsKept, IsPlan, IsReady}
use Rattle.table_replica.proofs.NextFilters.{next_is}
use Rattle.table_replica.specs.Replicas.{AllowsStaged}
use Rattle.table_replica.specs.Shown.{Staging}

pub caps_changed : (s : TableState) (op : Op) → (after s op).caps ≡ caps_after s.caps (change_of op)
unfolding after
caps_changed s (Create domain endpoint) = refl
caps_changed s (Mint domain cap to rights) = refl
caps_changed s (Revoke domain cap) = refl
caps_changed s (DropCap domain cap) = refl
caps_changed s (Install domain cap program) = refl
caps_changed s (Remove domain id) = refl
caps_changed s (Replace domain id program) = refl

version_after : (s : TableState) (op : Op) → (after s op).version ≡ s.version + 1
unfolding after
version_after s (Create domain endpoint) = refl
version_after s (Mint domain cap to rights) = refl
version_after s (Revoke domain cap) = refl
version_after s (DropCap domain cap) = refl
version_after s (Install domain cap program) = refl
version_after s (Remove domain id) = refl
version_after s (Replace domain id program) = refl

pub is_after : (s : TableState) (op : Op) (caps : CapTable) (listed : List ListedFilter) (next : ℕ) → caps ≡ (after s op).caps → listed ≡ (after s op).filters → next ≡ (after s op).next_filter
    → record { limits = s.limits; version = s.version + 1; caps = caps; filters = listed; next_filter = next } ≡ after s op
is_after s op caps listed next c f n = λ j. record { limits = sym (limits-after s op) j; version = sym (version_after s op) j; caps = c j; filters = f j; next_filter = n j }

-- the capabilities once they are changed as planned
pub plan_caps : (s : TableState) (held : Holding) (filters : Standing) (shares : SortedMap Share) (plan : Plan) (new : CapTable) → IsPlan s held filters shares plan → new ≡ caps_after s.caps plan.caps → new ≡ (after s plan.op.value).caps
plan_caps s held filters shares plan new p is = is ∙ (ap (caps_after s.caps) p.change ∙ sym (caps_changed s plan.op.value))

-- the filters once they are changed as planned
pub plan_filters : (s : TableState) (held : Holding) (filters : Standing) (shares : SortedMap Share) (plan : Plan) (new : List Installed) → IsPlan s held filters shares plan → MatchOption filters.next (new ≡ filters.now) (λ next. new ≡ next)
    → (listed new ≡ (after s plan.op.value).filters) × AreHeldBy (after s plan.op.value).caps.held new
plan_filters s held filters shares plan new p = by_next filters.next p.filters_after
  where
    by_next : (o : Option (List Installed)) → MatchOption o ((listed filters.now ≡ (after s plan.op.value).filters) × AreHeldBy (after s plan.op.value).caps.held filters.now) (λ next. (listed next ≡ (after s plan.op.value).filters) × AreHeldBy (after s plan.op.value).caps.held next)
        → MatchOption o (new ≡ filters.now) (λ next. new ≡ next) → (listed new ≡ (after s plan.op.value).filters) × AreHeldBy (after s plan.op.value).caps.held new
    by_next None h is = (ap listed is ∙ h.0, subst (AreHeldBy (after s plan.op.value).caps.held) (sym is) h.1)
    by_next (Some next) h is = (ap listed is ∙ h.0, subst (AreHeldBy (after s plan.op.value).caps.held) (sym is) h.1)

-- the shares once one is changed as planned
pub plan_shares : (s : TableState) (held : Holding) (filters : Standing) (shares : SortedMap Share) (plan : Plan) (entries : List (ℕ × Share)) (new : List Installed) → IsPlan s held filters shares plan → AreShares shares.entries s.filters
    → ((domain : ℕ) → value_at entries domain ≡ value_with plan.share shares.entries domain) → listed new ≡ (after s plan.op.value).filters → AreShares entries (listed new)
plan_shares s held filters shares plan entries new p were put same = subst (AreShares entries) (sym same) (shares_put shares.entries entries s.filters (after s plan.op.value).filters plan.share were p.share put)

-- what is planned for an operation that no test refuses
pub plan_kept : (s : TableState) (held : Holding) (before filters : Standing) (old shares : SortedMap Share) (instructions budget : ℕ) (op : Op) (plan : Plan) → IsSoundTable s → listed before.now ≡ s.filters → AreHeldBy s.caps.held before.now
    → AreShares old.entries (listed before.now) → instructions ≡ instructions_of (listed before.now) → first (tests s budget op) ≡ None → held.table ≡ s.caps → filters.now ≡ before.now → IsNext s.caps s.next_filter before.now op filters.next
    → shares.entries ≡ old.entries → IsNewShare s.filters (after s op).filters plan.share → HasRoom shares plan.share → plan.op.value ≡ op → plan.caps ≡ change_of op → IsReady held plan.caps → plan.instructions ≡ instructions_of (after s op).filters → plan.next_filter ≡ (after s op).next_filter → plan.made ≡ made s op
    → s.version < 18446744073709551615
    → IsKept (record { limits = s.limits; version = s.version; caps = held.table; filters = listed filters.now; next_filter = s.next_filter }) held filters shares instructions (Some plan)
plan_kept s held before filters old shares instructions budget op plan sound same under were total none table now next kept share has op_is change ready count number id room = subst (λ (t : TableState). IsKept t held filters shares instructions (Some plan)) (sym state) (record {
  held = subst (λ (t : CapTable). AreHeldBy t.held filters.now) (sym table) (subst (AreHeldBy s.caps.held) (sym now) under);
  shares_kept = subst (λ (es : List (ℕ × Share)). AreShares es (listed filters.now)) (sym kept) (subst (λ (fs : List Installed). AreShares old.entries (listed fs)) (sym now) were);
  total = total ∙ ap (λ (fs : List Installed). instructions_of (listed fs)) (sym now);
  planned = record {
    change = change ∙ ap change_of (sym op_is);
    ready = ready;
    filters_after = subst (λ (o : Op). AreNextFilters (after s o).caps.held (after s o).filters filters) (sym op_is)
        (subst (λ (fs : List Installed). AreNextFilters (after s op).caps.held (after s op).filters (record { now = fs; next = filters.next })) (sym now) (next_is s sound before.now same under budget op filters.next none next));
    share = subst (λ (o : Op). IsNewShare s.filters (after s o).filters plan.share) (sym op_is) share;
    room = has;
    instructions_after = count ∙ ap (λ (o : Op). instructions_of (after s o).filters) (sym op_is);
    next_filter = number ∙ ap (λ (o : Op). (after s o).next_filter) (sym op_is);
    made = id ∙ ap (made s) (sym op_is);
    version = room;
  };
})
  where
    listed_is : listed filters.now ≡ s.filters
    listed_is = ap listed now ∙ same

    state : record { limits = s.limits; version = s.version; caps = held.table; filters = listed filters.now; next_filter = s.next_filter } ≡ s
    state = λ j. record { limits = s.limits; version = s.version; caps = table j; filters = listed_is j; next_filter = s.next_filter }

-- A table that has performed what was staged, or had nothing staged

-- what becomes of it
pub data Became (s : Staging) (t : TableState) : Type 0 where
  stayed : t ≡ s.table → Became s t
  changed : (op : Op) → s.staged ≡ Some op → t ≡ after s.table op → Became s t

pub became : (s : Staging) (t : TableState) (id : Option Made) → IfSome id (λ id. (op : Op) × (s.staged ≡ Some op) × (t ≡ after s.table op) × (id ≡ made s.table op))
    → IfNone id ((s.staged ≡ None) × (t ≡ s.table)) → Became s t
became s t None performed none = stayed none.1
became s t (Some id) performed none = changed performed.0 performed.1 performed.2

allows_none : (budget : ℕ) (s : TableState) (staged : Option Op) → staged ≡ None → AllowsStaged budget s staged
allows_none budget s staged none op is = absurd (let found : None ≡ Some op = sym none ∙ is in cc)

-- it keeps what a replica keeps
pub kept_performed : (budget : ℕ) (s : Staging) (t : TableState) (staged : Option Op) → instructions_of s.table.filters ≤ budget → IsSoundTable s.table → AllowsStaged budget s.table s.staged
    → Became s t → staged ≡ None → (instructions_of t.filters ≤ budget) × IsSoundTable t × AllowsStaged budget t staged
kept_performed budget s t staged fits sound allows (stayed same) none =
    (subst (λ (u : TableState). instructions_of u.filters ≤ budget) (sym same) fits, subst IsSoundTable (sym same) sound, allows_none budget t staged none)
kept_performed budget s t staged fits sound allows (changed op at is) none = (
  subst (λ (u : TableState). instructions_of u.filters ≤ budget) (sym is) (fits_after s.table budget op (allows op at) fits),
  subst IsSoundTable (sym is) (sound_next s.table budget op (allows op at) sound),
  allows_none budget t staged none,
)

-- and gives no id out again
pub ids_performed : (s : Staging) (t : TableState) → Became s t → IdsGrow s.table t
ids_performed s t (stayed same) = ids_stay s.table t same
ids_performed s t (changed op at is) = ids_after s.table t op is
