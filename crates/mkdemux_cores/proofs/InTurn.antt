-- Packets of a burst, one after another.
use Rattle.std.proofs.Common.{◌≡◌, ◌<◌, ◌≤◌, ◌+◌, ◌-◌, ℕ, List, [], ◌∷◌, ◌++◌, length, take, drop, set, sum, get_or, refl, sym, ap, ◌∙◌, subst, arith, length-drop}
use borrow.Rule.Slice.PartMut.{put_mid}
use Rattle.std.proofs.lemmas.List.{length-take-le, take-append-drop, take_more, take_more_set}
use Rattle.filter_table.specs.declared.delivery.Kept.{Kept}
use Rattle.filter_table.proofs.Lists.{get_some}
use Rattle.core_loop.specs.declared.live.NotReceived.{NotReceived}
use Rattle.core_loop.specs.declared.live.NotReceived.TheVariants as no
use Rattle.core_loop.specs.Receiving.{HasReceived, IsRefused, version_now}
use Rattle.core_machine.specs.Machines.{RingCore}
use Rattle.mkdemux_cores.specs.declared.bursts.Packet.{Packet}
use Rattle.mkdemux_cores.specs.declared.answers.TheConstants.{DONE}
use Rattle.mkdemux_cores.specs.Receipts.{needed, why_number}
use Rattle.mkdemux_cores.specs.Bursts.{Receives, IsBurst}
use Rattle.mkdemux_cores.specs.Bursts.Receives.{none, more}
use Rattle.mkdemux_cores.proofs.Rooms.{end_of, end_is, put_end, front_more, rest_more, counts_more, sum_more}

-- the first packets were received
pub record SoFar (old now : RingCore) (packets : List Packet) (done used : ℕ) (room room_now : List Kept) (counts counts_now : List ℕ) : Type 0 where
  pub used_is : used ≡ sum (take done counts_now)
  pub receives : Receives old (take done packets) (take done counts_now) (take used room_now) now
  pub one_version : version_now now ≡ version_now old
  pub fits : used ≤ length room
  pub rest : drop used room_now ≡ drop used room
  pub rest_of_counts : drop done counts_now ≡ drop done counts

pub so_far_none : (core : RingCore) (packets : List Packet) (room : List Kept) (counts : List ℕ) → SoFar core core packets 0 0 room room counts counts
so_far_none core packets room counts = record { used_is = refl; receives = none; one_version = refl; fits = omega arith; rest = refl; rest_of_counts = refl }

-- and one more
module _ (old now new : RingCore) (packets : List Packet) (done used : ℕ) (room room_now sub : List Kept) (counts counts_now : List ℕ) (packet : Packet) (written : ℕ)
    (was : SoFar old now packets done used room room_now counts counts_now) where
  pub so_far_more : done < length packets → done < length counts_now → length room_now ≡ length room → length sub ≡ length (end_of used room_now) → written ≤ length sub
      → HasReceived now new (get_or packets done packet).bytes.now (get_or packets done packet).original (take written sub) → drop written sub ≡ drop written (end_of used room_now)
      → SoFar old new packets (done + 1) (used + written) room (put_mid used (length room_now - used) room_now sub) counts (set counts_now done written)
  so_far_more inside counted same long below received rest =
      let fits : used ≤ length room_now = omega (arith, was.fits, same) in
      let is = put_end used written room room_now sub fits long in
      let there = get_or packets done packet in
      let last : length (take written sub) ≡ written = length-take-le written sub below in
      let packets_are : take done packets ++ there ∷ [] ≡ take (done + 1) packets = sym (take_more packets done packet inside) in
      let counts_are : take done counts_now ++ length (take written sub) ∷ [] ≡ take (done + 1) (set counts_now done written) =
      ap (λ (n : ℕ). take done counts_now ++ n ∷ []) last ∙ sym (take_more_set counts_now done written counted) in
      let kept_are : take used room_now ++ take written sub ≡ take (used + written) (put_mid used (length room_now - used) room_now sub) =
      sym (ap (take (used + written)) is ∙ front_more used written room room_now sub fits long below) in
      record {
        used_is = ap (λ (n : ℕ). n + written) was.used_is ∙ sym (sum_more done written counts_now counted);
        receives = subst (λ (l : List Packet). Receives old l (take (done + 1) (set counts_now done written)) (take (used + written) (put_mid used (length room_now - used) room_now sub)) new) packets_are
            (subst (λ (l : List ℕ). Receives old (take done packets ++ there ∷ []) l (take (used + written) (put_mid used (length room_now - used) room_now sub)) new) counts_are
            (subst (λ (l : List Kept). Receives old (take done packets ++ there ∷ []) (take done counts_now ++ length (take written sub) ∷ []) l new) kept_are (more there was.receives received)));
        one_version = ap version_now received.new_is ∙ was.one_version;
        fits = omega (arith, ap length (end_is used room_now fits), long, below, same, length-drop used room_now);
        rest = ap (drop (used + written)) is ∙ rest_more used written room room_now sub fits long below rest was.rest;
        rest_of_counts = counts_more done written counts counts_now counted was.rest_of_counts;
      }

never_done : (why : NotReceived) → why_number why ≡ DONE → ⊥
never_done (no.Stopped cause) e = omega (arith, e)
never_done no.Spent e = omega (arith, e)
never_done (no.NoRoom count) e = omega (arith, e)
never_done no.NoMemory e = omega (arith, e)

-- the next one isn't received
module _ (old now new : RingCore) (packets : List Packet) (done used : ℕ) (room room_now sub : List Kept) (counts counts_now : List ℕ) (packet : Packet)
    (was : SoFar old now packets done used room room_now counts counts_now) where
  pub refused_next : done < length packets → length room_now ≡ length room → (why : NotReceived) (answer : ℕ) → answer ≡ why_number why → new ≡ now → sub ≡ end_of used room_now
      → IsRefused now (get_or packets done packet).bytes.now (get_or packets done packet).original (length (end_of used room_now)) why
      → IsBurst old new packets answer done room (put_mid used (length room_now - used) room_now sub) counts counts_now
  refused_next inside same why answer answer_is core_same sub_is refused =
      let fits : used ≤ length room_now = omega (arith, was.fits, same) in
      let is : put_mid used (length room_now - used) room_now sub ≡ room_now =
      put_end used 0 room room_now sub fits (ap length sub_is) ∙ ap (λ (l : List Kept). take used room_now ++ l) (sub_is ∙ end_is used room_now fits) ∙ take-append-drop used room_now in
      let left : length (end_of used room_now) ≡ length room - used = ap length (end_is used room_now fits) ∙ length-drop used room_now ∙ ap (λ (n : ℕ). n - used) same in
      let there = get_or packets done packet in
      let here : IsRefused now there.bytes.now there.original (length room - used) why = subst (λ (n : ℕ). IsRefused now there.bytes.now there.original n why) left refused in
      record {
        used = used;
        used_is = was.used_is;
        receives = subst (λ (c : RingCore). Receives old (take done packets) (take done counts_now) (take used (put_mid used (length room_now - used) room_now sub)) c) (sym core_same)
            (subst (λ (l : List Kept). Receives old (take done packets) (take done counts_now) (take used l) now) (sym is) was.receives);
        one_version = ap version_now core_same ∙ was.one_version;
        within = omega arith;
        fits = was.fits;
        rest = ap (drop used) is ∙ was.rest;
        rest_of_counts = was.rest_of_counts;
        all = λ e. absurd (never_done why (sym answer_is ∙ e));
        refused = λ _. (
          there,
          needed why,
          get_some packets done packet inside,
          record {
            why = why;
            refused = subst (λ (c : RingCore). IsRefused c there.bytes.now there.original (length room - used) why) (sym core_same) here;
            answer_is = answer_is;
            count_is = refl;
          },
        );
      }
