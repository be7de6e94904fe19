use Rattle.std.proofs.Common.{◌≡◌, ◌≢◌, ℕ, true, false, Option, None, Some, is_none, length, length-append, ap, arith, List, refl}
use Rattle.ump_ring.specs.Receivers.{lines_received, lines_known}
use Rattle.core_links.proofs.Flowing.{lines_within}
use Rattle.core_links.proofs.ring_links.Link.beside.Goals as goal

going_on : (x : Option (List ℕ)) → is_none x ≡ false → x ≢ None
going_on None e = absurd cc
going_on (Some v) e = λ n. cc

none_on : (x : Option (List ℕ)) → is_none x ≡ true → x ≡ None
none_on None e = refl
none_on (Some v) e = absurd cc

pub returns-clause-exact_out : goal.returns-clause-exact_out
returns-clause-exact_out c = record {
  ends = record { items = omega (arith, ap length c.beside.ensures.items, length-append (lines_received c.beside.new.receiver) (lines_known c.beside.new.receiver)); places = c.beside.ensures.places };
  front = c.beside.ensures.kept;
  going = λ busy. c.beside.ensures.going (going_on _ busy);
  all = λ ready same. c.beside.ensures.all (none_on _ ready) same;
  within = omega (arith, c.beside.ensures.within, lines_within _ c.beside.ensures.short);
  sound = c.beside.ensures.sound.1;
}

pub returns-clause-exact_in : goal.returns-clause-exact_in
returns-clause-exact_in c = record {
  ends = record { items = omega (arith, ap length c.beside-2.ensures.items, length-append (lines_received c.beside-2.new.receiver) (lines_known c.beside-2.new.receiver)); places = c.beside-2.ensures.places };
  front = c.beside-2.ensures.kept;
  going = λ busy. c.beside-2.ensures.going (going_on _ busy);
  all = λ ready same. c.beside-2.ensures.all (none_on _ ready) same;
  within = omega (arith, c.beside-2.ensures.within, lines_within _ c.beside-2.ensures.short);
  sound = c.beside-2.ensures.sound.1;
}
