use Rattle.std.proofs.Common.{◌≡◌, ◌<◌, ◌≤◌, ◌++◌, ◌∷◌, [], ℕ, Some, slice_get, slice_set, get_or, length, sym, ap, ◌∙◌, subst, arith}
use Rattle.std.specs.Vec.Iter.{into_iter_items}
use Rattle.std.proofs.lemmas.List.{nil_from_length}
use Rattle.std.proofs.lemmas.Option.{slice_get-get_or}
use Rattle.core_loop.specs.Cores.{AreShort}
use Rattle.core_machine.proofs.ComingUp.{ComingUp, next_inside, next_lane, coming_more, coming_last}
use Rattle.core_machine.proofs.booting.start_cores.Goals as goal

pub add_core-requires-clause-short : goal.add_core-requires-clause-short
add_core-requires-clause-short c =
    let was = c.loop-links.invariant.coming in
    let cores = c.loop-links.cores in
    let lanes = c.loop-links.lanes.items in
    let next = c.in-Some.ensures.steps.0 in
    let inside : length cores.items < length c.args.budgets.now = next_inside _ _ _ _ _ _ _ _ _ c.in-Some.links cores.items cores.items c.loop-links.ports.items c.loop-links.ports.items was next c.requires.count.1 in
    let place : c.len-place.result ≡ length cores.items = c.len-place.ensures ∙ cores.ok.0 in
    let below : c.len-place.result < length lanes = omega (arith, place, inside, was.long, c.requires.count.2) in
    let there : slice_get lanes c.len-place.result ≡ Some c.replace-requests.result =
    slice_get-get_or lanes c.len-place.result c.index_mut.result.now below ∙ ap Some (sym c.index_mut.ensures.value) ∙ ap Some (sym c.replace-requests.ensures.value) in
    let at_lane : slice_get lanes (length cores.items) ≡ Some c.replace-requests.result = subst (λ (n : ℕ). slice_get lanes n ≡ Some c.replace-requests.result) place there in
    let short : AreShort (length cores.items) c.replace-requests.result.items =
    c.requires.short (length cores.items) c.replace-requests.result (next_lane _ _ _ _ _ _ _ _ _ c.in-Some.links cores.items cores.items c.loop-links.ports.items c.loop-links.ports.items was next c.replace-requests.result at_lane) in
    short

pub add_core-requires-clause-room : goal.add_core-requires-clause-room
add_core-requires-clause-room c =
    let was = c.loop-links.invariant.coming in
    let inside = next_inside _ _ _ _ _ _ _ _ _ c.in-Some.links c.loop-links.cores.items c.loop-links.cores.items c.loop-links.ports.items c.loop-links.ports.items was c.in-Some.ensures.steps.0 c.requires.count.1 in
    omega (arith, inside, c.loop-links.invariant.room)

pub add_core-requires-clause-port_room : goal.add_core-requires-clause-port_room
add_core-requires-clause-port_room c =
    let was = c.loop-links.invariant.coming in
    let inside = next_inside _ _ _ _ _ _ _ _ _ c.in-Some.links c.loop-links.cores.items c.loop-links.cores.items c.loop-links.ports.items c.loop-links.ports.items was c.in-Some.ensures.steps.0 c.requires.count.1 in
    omega (arith, inside, was.up.all, was.up.all_ports, c.loop-links.invariant.port_room)

pub loop-links-preserved : goal.loop-links-preserved
loop-links-preserved c =
    let was = c.loop-links.invariant.coming in
    let cores = c.loop-links.cores in
    let lanes = c.loop-links.lanes.items in
    let budgets = c.args.budgets.now in
    let next = c.in-Some.ensures.steps.0 in
    let inside : length cores.items < length budgets = next_inside _ _ _ _ _ _ _ _ _ c.in-Some.links cores.items cores.items c.loop-links.ports.items c.loop-links.ports.items was next c.requires.count.1 in
    let place : c.len-place.result ≡ length cores.items = c.len-place.ensures ∙ cores.ok.0 in
    let below : c.len-place.result < length lanes = omega (arith, place, inside, was.long, c.requires.count.2) in
    let there : slice_get lanes c.len-place.result ≡ Some c.replace-requests.result =
    slice_get-get_or lanes c.len-place.result c.index_mut.result.now below ∙ ap Some (sym c.index_mut.ensures.value) ∙ ap Some (sym c.replace-requests.ensures.value) in
    let at_lane : slice_get lanes (length cores.items) ≡ Some c.replace-requests.result = subst (λ (n : ℕ). slice_get lanes n ≡ Some c.replace-requests.result) place there in
    let budget = get_or budgets c.len-place.result 0 in
    let at_place : slice_get budgets c.len-place.result ≡ Some budget = slice_get-get_or budgets c.len-place.result 0 (omega (arith, place, inside)) in
    let at_budget : slice_get budgets (length cores.items) ≡ Some budget = subst (λ (n : ℕ). slice_get budgets n ≡ Some budget) place at_place in
    let more = coming_more _ _ _ _ _ _ _ _ _ c.in-Some.links cores.items _ c.loop-links.ports.items _ was next budget c.replace-requests.result c.replace-requests.new.dest at_lane at_budget c.in_ok-add_core.ensures.adds in
    record {
      coming = subst (λ (n : ℕ). ComingUp (length budgets) c.args.limits budgets c.args.lanes.items (slice_set lanes n c.replace-requests.new.dest) c.args.links.items (c.loop-links.yielded ++ c.in-Some.links ∷ []) (into_iter_items c.next.new.self) c.add_core.new.cores.items c.add_core.new.ports.items) (sym place) more;
      room = subst (λ (n : ℕ). length budgets ≤ n) (sym c.in_ok-add_core.ensures.room) c.loop-links.invariant.room;
      port_room = subst (λ (n : ℕ). length budgets ≤ n) (sym c.in_ok-add_core.ensures.port_room) c.loop-links.invariant.port_room;
    }

pub returns : goal.returns
returns c = coming_last _ _ _ _ _ _ _ _ _ _ c.loop-links.invariant.coming (nil_from_length _ (sym c.loop-links.links-iterator.rest.ok.0 ∙ c.in-None.ensures.steps.0))
