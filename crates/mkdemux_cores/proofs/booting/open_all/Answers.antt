use Rattle.std.proofs.Common.{map, Some, length, refl, ap, sym, ◌∙◌, arith}
use Rattle.std.proofs.lemmas.List.{length-map}
use Rattle.std.proofs.lemmas.Simd.{map-map}
use Rattle.core_machine.specs.Machines.{RingCore}
use Rattle.mkdemux_cores.proofs.Opening.{same_at}
use Rattle.mkdemux_cores.proofs.booting.open_all.Goals as goal

pub put_all-requires-clause-closed : goal.put_all-requires-clause-closed
put_all-requires-clause-closed c = λ k d below.
    let same = c.if-is_any_open.ensures.same in
    let old = c.args.cores.now in let new = c.is_any_open.new.cores in
    let long = sym (length-map new (λ h. h.core)) ∙ ap length same ∙ length-map old (λ h. h.core) in
    same_at (λ h. h.core) new old same k d (omega (arith, long, below)) ∙ c.if-is_any_open.ensures.closed refl k d (omega (arith, long, below))

pub returns-in-Ok-clause-opened : goal.returns-in-Ok-clause-opened
returns-in-Ok-clause-opened c = λ _. record {
  cores = map (λ b. b.value) c.in-Ok.booted.items;
  all_open = c.put_all.ensures ∙ sym (map-map (λ (x : RingCore). Some x) (λ b. b.value) c.in-Ok.booted.items);
  machine = c.in-Ok.ensures.machine;
  nothing_done = c.in-Ok.ensures.nothing;
}
