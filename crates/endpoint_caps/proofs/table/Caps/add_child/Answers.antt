use Rattle.std.proofs.Common.{◌≡◌, ◌==◌, ◌+◌, ◌++◌, ◌<◌, ℕ, Option, Some, is_none, [], ◌∷◌, arith, refl, ap, sym, ◌∙◌, subst}
use Rattle.std.specs.BTreeMap.{insert_entry}
use Rattle.std.specs.Ordering.{nat_cmp}
use Rattle.std.specs.Prelude.{if◌then◌else◌}
use Rattle.chunked.specs.Maps.{SortedMap, value_at}
use Rattle.endpoint_caps.specs.declared.Cap.{Cap}
use Rattle.endpoint_caps.specs.Capabilities.{CapTable, cap_at}
use Rattle.endpoint_caps.specs.Keeping.{caps_of}
use Rattle.endpoint_caps.specs.Holding.{Holding, child_key}
use Rattle.endpoint_caps.proofs.Keeping.{held-below, view-push}
use Rattle.endpoint_caps.proofs.Holding.{free_key, put_last, below_ids, no_value, free_child, held-minted}
use Rattle.endpoint_caps.proofs.Shares.{count-fits, counted-made, maker-minted}
use Rattle.endpoint_caps.proofs.table.Caps.add_child.Goals as goal

pub insert_reserved-requires-clause-absent : goal.insert_reserved-requires-clause-absent
insert_reserved-requires-clause-absent c =
    let key : c.from.result ≡ c.self.inside.next = c.from.ensures in
    ap (value_at c.self.inside.by_id.entries) key ∙ free_key c.self.inside.by_id.entries c.self.inside.next c.self.invariant.held.kept

pub insert_reserved-requires-2-clause-absent : goal.insert_reserved-requires-2-clause-absent
insert_reserved-requires-2-clause-absent c =
    let key : c.key_of_child.result ≡ child_key c.args.from.id c.self.inside.next = c.key_of_child.ensures in
    ap (value_at c.self.inside.children.entries) key
    ∙ no_value _ (c.self.invariant.held.by_parent (child_key c.args.from.id c.self.inside.next) ∙ free_child _ c.self.inside.next c.args.from.id c.self.invariant.held.kept.in_order c.self.invariant.held.below)

pub invariant_of-self : goal.invariant_of-self
invariant_of-self c =
    let cap : Cap = record { id = c.self.inside.next; endpoint = c.args.from.endpoint; holder = c.args.holder; rights = c.args.rights; parent = Some c.args.from.id } in
    let was : ◌≡◌ {A = CapTable} (record { held = caps_of c.self.inside.by_id.entries; next = c.self.inside.next }) c.args.self.now.table = ap (λ (v : Holding). v.table) c.self.view_is in
    let key : c.key_of_child.result ≡ child_key c.args.from.id c.self.inside.next = c.key_of_child.ensures in
    let there = subst (λ (t : CapTable). cap_at t.held c.args.from.id ≡ Some c.args.from) (sym was) c.requires.from in
    let low = held-below (caps_of c.self.inside.by_id.entries) c.self.inside.next c.args.from.id c.self.invariant.held.kept.in_order (ap is_none there) in
    let below = subst (λ (t : CapTable). t.next < 4294967295) (sym was) c.requires.below in
    let put = put_last _ _ c.self.inside.next c.from.result cap c.self.invariant.held.kept c.from.ensures (ap (λ (m : SortedMap Cap). m.entries) c.insert_reserved.ensures.entries
    ∙ ap (λ (p : Option ℕ). insert_entry nat_cmp c.self.inside.by_id.entries c.from.result (record { id = c.self.inside.next; endpoint = c.args.from.endpoint; holder = c.args.holder; rights = c.args.rights; parent = p })) (c.new.ensures.same (omega arith))) in
    record {
      held = held-minted c.self.inside.by_id.entries c.insert_reserved.new.self.entries c.self.inside.children.entries c.insert_reserved-2.new.self.entries c.self.inside.taken.entries c.self.inside.next cap c.args.from tt
          c.self.invariant.held refl refl refl there (below_ids c.self.inside.next (subst (λ (t : CapTable). t.next < 4294967295) (sym was) c.requires.below)) put
          (subst (λ (k : ℕ). (q : ℕ) → value_at c.insert_reserved-2.new.self.entries q ≡ (if q == k then Some tt else value_at c.self.inside.children.entries q)) key c.insert_reserved-2.ensures.values);
      counts = counted-made c.self.inside.by_id.entries c.insert_reserved.new.self.entries cap c.args.from.holder c.self.inside.next c.self.inside.counts.entries c.count_up.new.counts.entries c.self.invariant.held.kept refl put
          c.self.invariant.counts (λ domain. maker-minted (caps_of c.self.inside.by_id.entries) cap c.args.from domain c.self.invariant.held.kept.in_order refl there) c.count_up.ensures;
    }

pub count_up-requires-clause-fits : goal.count_up-requires-clause-fits
count_up-requires-clause-fits c =
    let was : ◌≡◌ {A = CapTable} (record { held = caps_of c.self.inside.by_id.entries; next = c.self.inside.next }) c.args.self.now.table = ap (λ (v : Holding). v.table) c.self.view_is in
    count-fits (caps_of c.self.inside.by_id.entries) c.self.inside.counts.entries c.self.inside.next c.args.from.holder c.self.invariant.held.kept.in_order c.self.invariant.counts
    (subst (λ (t : CapTable). t.next < 4294967295) (sym was) c.requires.below)

pub returns-clause-table : goal.returns-clause-table
returns-clause-table c =
    let cap : Cap = record { id = c.self.inside.next; endpoint = c.args.from.endpoint; holder = c.args.holder; rights = c.args.rights; parent = Some c.args.from.id } in
    let was : ◌≡◌ {A = CapTable} (record { held = caps_of c.self.inside.by_id.entries; next = c.self.inside.next }) c.args.self.now.table = ap (λ (v : Holding). v.table) c.self.view_is in
    let there = subst (λ (t : CapTable). cap_at t.held c.args.from.id ≡ Some c.args.from) (sym was) c.requires.from in
    let low = held-below (caps_of c.self.inside.by_id.entries) c.self.inside.next c.args.from.id c.self.invariant.held.kept.in_order (ap is_none there) in
    let below = subst (λ (t : CapTable). t.next < 4294967295) (sym was) c.requires.below in
    view-push c.args.self.now.table c.self.inside.by_id.entries c.insert_reserved.new.self.entries c.self.inside.next cap was
    (put_last _ _ c.self.inside.next c.from.result cap c.self.invariant.held.kept c.from.ensures (ap (λ (m : SortedMap Cap). m.entries) c.insert_reserved.ensures.entries
    ∙ ap (λ (p : Option ℕ). insert_entry nat_cmp c.self.inside.by_id.entries c.from.result (record { id = c.self.inside.next; endpoint = c.args.from.endpoint; holder = c.args.holder; rights = c.args.rights; parent = p })) (c.new.ensures.same (omega arith))))
    ∙ ap (λ (t : CapTable). record { held = c.args.self.now.table.held ++ record { id = t.next; endpoint = c.args.from.endpoint; holder = c.args.holder; rights = c.args.rights; parent = Some c.args.from.id } ∷ []; next = c.args.self.now.table.next + 1 }) was
