use Rattle.std.proofs.Common.{◌≡◌, ◌==◌, ◌+◌, ◌++◌, ℕ, Some, None, [], ◌∷◌, refl, ap, sym, ◌∙◌, subst}
use Rattle.std.specs.Prelude.{if◌then◌else◌}
use Rattle.chunked.specs.Maps.{SortedMap, value_at}
use Rattle.endpoint_caps.specs.declared.Cap.{Cap}
use Rattle.endpoint_caps.specs.declared.Rights.TheVariants.{Rm}
use Rattle.endpoint_caps.specs.Capabilities.{CapTable, created, first, create_tests}
use Rattle.endpoint_caps.specs.Keeping.{caps_of}
use Rattle.endpoint_caps.specs.Holding.{Holding}
use Rattle.endpoint_caps.proofs.Keeping.{eq_sym, view-push}
use Rattle.endpoint_caps.proofs.Holding.{free_key, put_last, may_create, more_below, more_ids, held-created, same_view}
use Rattle.endpoint_caps.proofs.Shares.{count-fits, counted-made}
use Rattle.endpoint_caps.proofs.table.Caps.perform_create.Goals as goal

pub insert_reserved-requires-clause-absent : goal.insert_reserved-requires-clause-absent
insert_reserved-requires-clause-absent c =
    let key : c.from.result ≡ c.self.inside.next = c.from.ensures in
    ap (value_at c.self.inside.by_id.entries) key ∙ free_key c.self.inside.by_id.entries c.self.inside.next c.self.invariant.held.kept

pub invariant_of-self : goal.invariant_of-self
invariant_of-self c =
    let cap : Cap = record { id = c.self.inside.next; endpoint = c.args.endpoint; holder = c.args.domain; rights = Rm; parent = None } in
    let was : ◌≡◌ {A = CapTable} (record { held = caps_of c.self.inside.by_id.entries; next = c.self.inside.next }) c.args.self.now.table = ap (λ (v : Holding). v.table) c.self.view_is in
    let may = may_create c.requires.allowed.0 _ c.args.domain c.args.endpoint (subst (λ (t : CapTable). first (create_tests c.requires.allowed.0 t c.args.domain c.args.endpoint) ≡ None) (sym was) c.requires.allowed.1) in
    let in_use : c.from-2.result ≡ c.args.endpoint = c.from-2.ensures in
    let put = put_last _ _ c.self.inside.next c.from.result cap c.self.invariant.held.kept c.from.ensures (ap (λ (m : SortedMap Cap). m.entries) c.insert_reserved.ensures.entries) in
    record {
      held = held-created c.self.inside.by_id.entries c.insert_reserved.new.self.entries c.self.inside.children.entries c.self.inside.taken.entries c.insert_reserved-2.new.self.entries c.self.inside.next cap tt
          c.self.invariant.held refl refl (more_ids c.self.inside.next c.self.invariant.held.below may.more) may.free put
          (subst (λ (k : ℕ). (q : ℕ) → value_at c.insert_reserved-2.new.self.entries q ≡ (if q == k then Some tt else value_at c.self.inside.taken.entries q)) in_use c.insert_reserved-2.ensures.values);
      counts = counted-made c.self.inside.by_id.entries c.insert_reserved.new.self.entries cap c.args.domain c.self.inside.next c.self.inside.counts.entries c.count_up.new.counts.entries c.self.invariant.held.kept refl put
          c.self.invariant.counts (λ domain. eq_sym c.args.domain domain) c.count_up.ensures;
    }

pub count_up-requires-clause-fits : goal.count_up-requires-clause-fits
count_up-requires-clause-fits c =
    let was : ◌≡◌ {A = CapTable} (record { held = caps_of c.self.inside.by_id.entries; next = c.self.inside.next }) c.args.self.now.table = ap (λ (v : Holding). v.table) c.self.view_is in
    let may = may_create c.requires.allowed.0 _ c.args.domain c.args.endpoint (subst (λ (t : CapTable). first (create_tests c.requires.allowed.0 t c.args.domain c.args.endpoint) ≡ None) (sym was) c.requires.allowed.1) in
    count-fits (caps_of c.self.inside.by_id.entries) c.self.inside.counts.entries c.self.inside.next c.args.domain c.self.invariant.held.kept.in_order c.self.invariant.counts
    (more_below c.self.inside.next c.self.invariant.held.below may.more)

pub returns-clause-made : goal.returns-clause-made
returns-clause-made c =
    let cap : Cap = record { id = c.self.inside.next; endpoint = c.args.endpoint; holder = c.args.domain; rights = Rm; parent = None } in
    let was : ◌≡◌ {A = CapTable} (record { held = caps_of c.self.inside.by_id.entries; next = c.self.inside.next }) c.args.self.now.table = ap (λ (v : Holding). v.table) c.self.view_is in
    same_view _ (created c.args.self.now.table c.args.domain c.args.endpoint) c.insert_reserved.new.self.ready c.self.inside.children.ready c.insert_reserved-2.new.self.ready c.count_up.new.counts.ready
    (view-push c.args.self.now.table c.self.inside.by_id.entries c.insert_reserved.new.self.entries c.self.inside.next cap was
    (put_last _ _ c.self.inside.next c.from.result cap c.self.invariant.held.kept c.from.ensures (ap (λ (m : SortedMap Cap). m.entries) c.insert_reserved.ensures.entries))
    ∙ ap (λ (t : CapTable). record { held = c.args.self.now.table.held ++ record { id = t.next; endpoint = c.args.endpoint; holder = c.args.domain; rights = Rm; parent = None } ∷ []; next = c.args.self.now.table.next + 1 }) was)
    (ap (λ (m : SortedMap Cap). m.ready) c.insert_reserved.ensures.entries)
