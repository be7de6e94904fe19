use Rattle.std.proofs.Common.{◌≡◌, ◌∙◌, ◌++◌, List, Some, inl, map, sym, ap}
use Rattle.std.proofs.lemmas.Simd.{map-map}
use Rattle.std.proofs.lemmas.List.{length-map, take_at}
use Rattle.core_machine.specs.Machines.{RingCore}
use Rattle.mkdemux_cores.proofs.Handles.{from_none, one_name}
use Rattle.mkdemux_cores.proofs.settling.mkdemux_settle.Goals as goal

pub returns-clause-settles : goal.returns-clause-settles
returns-clause-settles c = λ _ _.
    let all = from_none c.machine_fault.result c.in_default.is c.machine_fault.ensures.none in let e = c.settle-settled.ensures in
    let taken : map (λ b. b.value) c.as_mut_slice.result.now ≡ all.0 =
    ap (λ boxes. map (λ b. b.value) boxes) c.as_mut_slice.ensures.value ∙ c.take_all.ensures.taken all.0 (c.machine_fault.ensures.same ∙ all.2) ∙ ap (λ boxes. map (λ b. b.value) boxes ++ all.0) c.in-Ok.ensures.items in
    let new = c.settle-settled.new.cores in
    let long = sym (length-map new (λ b. b.value)) ∙ e.machine.all ∙ length-map c.as_mut_slice.result.now (λ b. b.value) ∙ c.as_mut_slice.ensures.len in
    inl (record {
      old = map (λ b. b.value) c.as_mut_slice.result.now;
      new = map (λ b. b.value) c.settle-settled.new.cores;
      had = all.2 ∙ ap (λ (l : List RingCore). map (λ x. Some x) l) (sym taken);
      has = c.put_all.ensures ∙ ap (λ boxes. map (λ b. Some b.value) boxes) (take_at new _ _ long) ∙ sym (map-map (λ (x : RingCore). Some x) (λ b. b.value) c.settle-settled.new.cores);
      settled = c.settle-settled.result;
      answer_is = c.answer_of.ensures;
      same = e.machine;
      keeps = e.keeps;
      ends = e.ends;
      rounds = e.rounds;
      concludes = e.concludes;
    })

pub returns-clause-two_machines : goal.returns-clause-two_machines
returns-clause-two_machines c = λ i j a b at_a at_b differ.
    let all = from_none c.machine_fault.result c.in_default.is c.machine_fault.ensures.none in
    absurd (differ (one_name c.args.cores.now all.0 all.1 all.2 all.4 i j a b at_a at_b))

pub returns-in_default-with_capacity-clause-two_machines : goal.returns-in_default-with_capacity-clause-two_machines
returns-in_default-with_capacity-clause-two_machines c = λ i j a b at_a at_b differ.
    let all = from_none c.machine_fault.result c.in_default.is c.machine_fault.ensures.none in
    absurd (differ (one_name c.args.cores.now all.0 all.1 all.2 all.4 i j a b at_a at_b))
