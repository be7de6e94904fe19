-- Where an event is done, none of its faults stood.
use Rattle.std.proofs.Common.{◌≡◌, ◌≢◌, ◌∙◌, ◌∷◌, ℕ, zero, suc, Bool, true, None, Some, List, slice_get, ap, sym, subst, arith}
use Rattle.std.specs.Prelude.{option_map, option_and_then, Result, Ok, Err, IfOk, OnOk}
use Rattle.filter_table.specs.declared.operation.Op.{Op}
use Rattle.pcap_reader.specs.declared.capture.CapturedPacket.{CapturedPacket}
use Rattle.monitor_messages.specs.declared.message.Message.{Message}
use Rattle.world_events.specs.declared.event.Event.TheVariants.{Start, Submit, StartFor, Take, Rx}
use Rattle.world_events.specs.declared.event.Answer.{Answer}
use Rattle.world_model.specs.Worlds.{Peer, World, Happens}
use Rattle.world_events.specs.declared.fault.WorldFault.{WorldFault}
use Rattle.world_events.specs.declared.fault.WorldFault.TheVariants.{NoSuchCore, Nothing, NotReady, NotIdle, Spent, Outstanding, NoneWaiting, NoMemory}
use Rattle.world_model.specs.Refusals.{channel, waiting_at, NoneStands}

is_joined : (w : World) (entry : ℕ) (peer : Peer) → slice_get w.peers entry ≡ Some peer → channel w zero (suc entry) ≢ None
is_joined w entry peer at none = let x : option_map (λ (p : Peer). p.up) (slice_get w.peers entry) ≡ Some peer.up = ap (option_map (λ (p : Peer). p.up)) at in cc

pub start_none : (w w' : World) (op : Op) (answer : Answer) → Happens w (Start op) w' answer → NoneStands w (Start op)
start_none w w' op answer h NotIdle s = s h.here.can_start.0
start_none w w' op answer h Spent s = omega (arith, s.1, h.here.can_start.1)
start_none w w' op answer h NoSuchCore s = s
start_none w w' op answer h Nothing s = s
start_none w w' op answer h NotReady s = s
start_none w w' op answer h Outstanding s = s
start_none w w' op answer h NoneWaiting s = s
start_none w w' op answer h NoMemory s = s

pub submit_none : (w w' : World) (core : ℕ) (op : Op) (answer : Answer) → Happens w (Submit core op) w' answer → NoneStands w (Submit core op)
submit_none w w' zero op answer h fault s = h
submit_none w w' (suc entry) op answer h NoSuchCore s = is_joined w entry h.peer h.is_peer s
submit_none w w' (suc entry) op answer h Outstanding s =
    let e : entry ≡ s.0 = omega (arith, s.2) in
    let there : slice_get w.peers entry ≡ Some s.1 = subst (λ (n : ℕ). slice_get w.peers n ≡ Some s.1) (sym e) s.3 in
    let here = h.is_peer in
    let same : h.peer ≡ s.1 = cc in
    let out : h.peer.outstanding ≡ true = ap (λ (p : Peer). p.outstanding) same ∙ s.4 in
    cc (out, h.here.none_outstanding)
submit_none w w' (suc entry) op answer h Nothing s = s
submit_none w w' (suc entry) op answer h NotReady s = s
submit_none w w' (suc entry) op answer h NotIdle s = s
submit_none w w' (suc entry) op answer h Spent s = s
submit_none w w' (suc entry) op answer h NoneWaiting s = s
submit_none w w' (suc entry) op answer h NoMemory s = s

pub start_for_none : (w w' : World) (core : ℕ) (answer : Answer) → channel w zero core ≢ None → Happens w (StartFor core) w' answer → NoneStands w (StartFor core)
start_for_none w w' zero answer joined h fault s = h
start_for_none w w' (suc entry) answer joined h NoSuchCore s = joined s
start_for_none w w' (suc entry) answer joined h NotIdle s = s.1 h.here.can_start.0
start_for_none w w' (suc entry) answer joined h Spent s = omega (arith, s.2, h.here.can_start.1)
start_for_none w w' (suc entry) answer joined h NoneWaiting s =
    let x : waiting_at w (suc entry) ≡ Some h.here.starts.op = ap (option_and_then (λ waits. waits)) h.here.starts.is_waiting in
    cc (x, s.3)
start_for_none w w' (suc entry) answer joined h Nothing s = s
start_for_none w w' (suc entry) answer joined h NotReady s = s
start_for_none w w' (suc entry) answer joined h Outstanding s = s
start_for_none w w' (suc entry) answer joined h NoMemory s = s

pub take_none : (w w' : World) (to from : ℕ) (short : Bool) (answer : Answer) → Happens w (Take to from short) w' answer → NoneStands w (Take to from short)
take_none w w' zero zero short answer h fault s = h
take_none w w' (suc to) (suc from) short answer h fault s = h
take_none w w' zero (suc entry) short answer h NoSuchCore s = is_joined w entry h.peer h.is_peer s
take_none w w' zero (suc entry) short answer h Nothing s =
    let x : channel w zero (suc entry) ≡ Some (h.m ∷ h.rest) = ap (option_map (λ (p : Peer). p.up)) h.is_peer ∙ ap (λ (ms : List Message). Some ms) h.oldest in
    cc (x, s)
take_none w w' zero (suc entry) short answer h NotReady s = s
take_none w w' zero (suc entry) short answer h NotIdle s = s
take_none w w' zero (suc entry) short answer h Spent s = s
take_none w w' zero (suc entry) short answer h Outstanding s = s
take_none w w' zero (suc entry) short answer h NoneWaiting s = s
take_none w w' zero (suc entry) short answer h NoMemory s = s
take_none w w' (suc entry) zero short answer h NoSuchCore s =
    let x : channel w (suc entry) zero ≡ Some h.peer.down = ap (option_map (λ (p : Peer). p.down)) h.is_peer in
    cc (x, s)
take_none w w' (suc entry) zero short answer h Nothing s =
    let x : channel w (suc entry) zero ≡ Some (h.m ∷ h.rest) = ap (option_map (λ (p : Peer). p.down)) h.is_peer ∙ ap (λ (ms : List Message). Some ms) h.oldest in
    cc (x, s)
take_none w w' (suc entry) zero short answer h NotReady s = s
take_none w w' (suc entry) zero short answer h NotIdle s = s
take_none w w' (suc entry) zero short answer h Spent s = s
take_none w w' (suc entry) zero short answer h Outstanding s = s
take_none w w' (suc entry) zero short answer h NoneWaiting s = s
take_none w w' (suc entry) zero short answer h NoMemory s = s

pub rx_none : (w w' : World) (core number : ℕ) (packet : CapturedPacket) (floor : ℕ) (answer : Answer) → Happens w (Rx core number packet floor) w' answer → NoneStands w (Rx core number packet floor)
rx_none w w' core number packet floor answer h NoSuchCore s = cc (h.is_version, s)
rx_none w w' core number packet floor answer h NotReady s =
    let here = h.is_version in
    let there = s.1 in
    let same : h.version ≡ s.0 = cc in
    omega (arith, same, s.2, h.here.above_floor)
rx_none w w' core number packet floor answer h Nothing s = s
rx_none w w' core number packet floor answer h NotIdle s = s
rx_none w w' core number packet floor answer h Spent s = s
rx_none w w' core number packet floor answer h Outstanding s = s
rx_none w w' core number packet floor answer h NoneWaiting s = s
rx_none w w' core number packet floor answer h NoMemory s = s

pub ok_stands : (r : Result Answer WorldFault) (P : Type 0) → P → OnOk r P
ok_stands (Ok answer) P p = p
ok_stands (Err fault) P p = tt

pub done_stands : (r : Result Answer WorldFault) (P : Answer → Type 0) (Q : Type 0) → ((answer : Answer) → P answer → Q) → IfOk r P → OnOk r Q
done_stands (Ok answer) P Q as' h = as' answer h
done_stands (Err fault) P Q as' h = tt

pub joined_stands : (r : Result Answer WorldFault) (P : Answer → Type 0) (J Q : Type 0) → ((answer : Answer) → J → P answer → Q) → OnOk r J → IfOk r P → OnOk r Q
joined_stands (Ok answer) P J Q as' j h = as' answer j h
joined_stands (Err fault) P J Q as' j h = tt
