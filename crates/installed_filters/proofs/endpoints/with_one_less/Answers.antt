use Rattle.std.proofs.Common.{◌-◌, ◌<◌, ℕ, arith, subst, sym}
use Rattle.chunked.specs.Maps.{SortedMap, value_at}
use Rattle.installed_filters.specs.Counts.{AreSmall, counted, counts_in, number_of}
use Rattle.installed_filters.specs.declared.endpoints.Held.{Held}
use Rattle.installed_filters.proofs.Indexed.{small_after}
use Rattle.installed_filters.proofs.endpoints.with_one_less.Goals as goal

pub returns-in-Many-clause-small : goal.returns-in-Many-clause-small
returns-in-Many-clause-small c =
    let before = c.deref_mut.result.now.entries in
    let lt : c.args.endpoint < 65536 = omega arith in
    let small = subst (λ (h : Held). AreSmall (counts_in h).entries) c.in-Many.is c.requires.small in
    small_after before c.count_down.new.all.entries c.args.endpoint (counted (number_of (value_at before c.args.endpoint) - 1)) lt
    (subst (λ (m : SortedMap ℕ). AreSmall m.entries) (sym c.deref_mut.ensures.value) small) c.count_down.ensures
