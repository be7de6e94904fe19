use Rattle.std.proofs.Common.{◌≡◌, ◌+◌, ◌≤◌, IsOk, suc, slice_set, vec_capacity, sym, ap, ◌∙◌, subst, arith}
use Rattle.std.specs.List.{insert}
use Rattle.std.proofs.lemmas.List.{map-set}
use Rattle.std.proofs.lemmas.List.Elements.{All-set}
use Rattle.std.proofs.lemmas.Grind.{common_steps}
use Rattle.chunked.specs.Chunks.{lists, AreWide}
use Rattle.chunked.proofs.Vectors.{list_read, room_read, map-insert, All-insert}
use Rattle.chunked.proofs.edits.insert_parted.Goals as goal

pub returns-clause-parted : goal.returns-clause-parted
returns-clause-parted g c =
    let all = c.args.chunks.now.items in
    let chunk = c.args.chunk in
    let at = list_read all chunk c.index_mut.result.now c.requires.inside c.index_mut.ensures.value in
    let front = c.divide.new.chunk in
    let back = c.divide.new.rest in
    let ok : IsOk c.insert.result = c.insert.ensures.succeeds c.requires.next in
    let one : chunk + 1 ≡ suc chunk = omega arith in
    let new : c.insert.new.self.items ≡ insert (slice_set all chunk front) (chunk + 1) back = grind arith in
    record {
      front = front.items;
      back = back.items;
      chunks =
          ap lists new
          ∙ map-insert (λ v. v.items) (slice_set all chunk front) (chunk + 1) back
          ∙ ap (λ n. insert (lists (slice_set all chunk front)) n back.items) one
          ∙ ap (λ xs. insert xs (suc chunk) back.items) (map-set (λ v. v.items) all chunk front);
      items = c.divide.ensures.items ∙ ap (λ xs. insert xs c.args.offset c.args.item) (sym at);
      front_filled = c.divide.ensures.front_filled;
      back_filled = c.divide.ensures.back_filled;
      front_half = c.divide.ensures.front_half;
      back_half = λ more. c.divide.ensures.back_half (grind (arith, common_steps));
    }

pub returns-clause-wide : goal.returns-clause-wide
returns-clause-wide g c = λ wide.
    let all = c.args.chunks.now.items in
    let chunk = c.args.chunk in
    let room = room_read all chunk c.index_mut.result.now c.requires.inside c.index_mut.ensures.value in
    let ok : IsOk c.insert.result = c.insert.ensures.succeeds c.requires.next in
    let new : c.insert.new.self.items ≡ insert (slice_set all chunk c.divide.new.chunk) (chunk + 1) c.divide.new.rest = grind arith in
    let front : 128 ≤ vec_capacity c.divide.new.chunk = omega arith in
    let back : 128 ≤ vec_capacity c.divide.new.rest = omega arith in
    subst (λ xs. AreWide 128 xs) (sym new)
    (All-insert (λ v. 128 ≤ vec_capacity v) (slice_set all chunk c.divide.new.chunk) (chunk + 1) c.divide.new.rest (All-set (λ v. 128 ≤ vec_capacity v) all chunk c.divide.new.chunk front wide) back)
