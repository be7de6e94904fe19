-- The packets of a script for threads are named by their cores and numbers.
use Rattle.std.proofs.Common.{◌≡◌, ℕ, zero, suc, ◌+◌, ◌-◌, ◌^◌, ◌≤◌, ◌<◌, false, eqb, List, [], ◌∷◌, length, Some, arith, slice_get}
use Rattle.std.specs.List.{AllByRecursion}
use Rattle.std.proofs.lemmas.Bool.Decides.{nat_tests}
use Rattle.std.proofs.lemmas.List.Elements.{recursion_from_All}
use Rattle.pcap_reader.specs.declared.capture.CapturedPacket.{CapturedPacket}
use Rattle.world_events.specs.declared.event.Event.{Event}
use Rattle.world_events.specs.declared.event.Event.TheVariants.{Rx}
use Rattle.mk_script.specs.declared.script.Item.{Item}
use Rattle.mk_script.specs.declared.script.Item.TheVariants.{Ask, Apply}
use Rattle.mk_script.specs.declared.script.Script.{Script}
use Rattle.mk_script.specs.Threads.{IsForThreads, IsScriptForThreads, received}
use Rattle.trace_text.specs.Traces.{IsNamedIn}

-- a reception is at one of the cores
core_below : (cores : ℕ) (items : List Item) (place core number floor : ℕ) (packet : CapturedPacket) → AllByRecursion (IsForThreads cores) items → slice_get (received items) place ≡ Some (Rx core number packet floor) → core < cores
core_below cores [] place core number floor packet all e = absurd (cc)
core_below cores (Ask c op ∷ items) place core number floor packet all e = core_below cores items place core number floor packet all.1 e
core_below cores (Apply (Rx c n p f) ∷ items) zero core number floor packet all e = let same : c ≡ core = cc in omega (arith, same, all.0)
core_below cores (Apply (Rx c n p f) ∷ items) (suc place) core number floor packet all e = core_below cores items place core number floor packet all.1 e
core_below cores (Apply event ∷ items) place core number floor packet all e = absurd all.0
core_below cores (item ∷ items) place core number floor packet all e = absurd all.0

-- there are more receptions than its place
place_below : (events : List Event) (place : ℕ) (event : Event) → slice_get events place ≡ Some event → place < length events
place_below [] place event e = absurd (cc)
place_below (x ∷ events) zero event e = omega arith
place_below (x ∷ events) (suc place) event e = omega (arith, place_below events place event e)

pub named : (script : Script) (place core number floor : ℕ) (packet : CapturedPacket) → IsScriptForThreads script → length script.budgets ≤ 2 ^ 16 → length (received script.items) < 2 ^ 64
    → slice_get (received script.items) place ≡ Some (Rx core number packet floor) → IsNamedIn (received script.items) (Rx core number packet floor)
named script place core number floor packet is few short e =
    let cores = length script.budgets in
    let events = received script.items in
    let below = core_below cores script.items place core number floor packet (recursion_from_All (IsForThreads cores) script.items is.items) e in
    let within = place_below events place (Rx core number packet floor) e in
    let next : number ≡ place + 1 = is.numbered place core number floor packet e in
    let some : eqb number 0 ≡ false = grind (arith, nat_tests) in
    let back : number - 1 ≡ place = omega (arith, next) in
    (omega (arith, below, few), omega (arith, next, within, short), rw (some, back) e)
