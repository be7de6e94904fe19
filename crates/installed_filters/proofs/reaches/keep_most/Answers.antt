use Rattle.std.proofs.Common.{◌≡◌, ◌++◌, arith, ℕ, List, drop, length, take, ap, subst, sym, ◌∙◌}
use Rattle.std.proofs.Math.Seq.{take-append_seam}
use Rattle.std.proofs.lemmas.List.{length-replicate}
use Rattle.filter_table.specs.declared.delivery.Kept.{Kept}
use Rattle.installed_filters.specs.Counts.{AreReachKeys}
use Rattle.installed_filters.specs.Keeping.{AreKept, AreNoted, GetsBy}
use Rattle.installed_filters.proofs.Hits.{noted_none, noted_gets, keys_within}
use Rattle.installed_filters.proofs.reaches.keep_most.Goals as goal

pub note-requires-clause-inside : goal.note-requires-clause-inside
note-requires-clause-inside c = λ i hit at.
    let low = c.requires.inside i hit at in
    let long = ap (length {A = ℕ}) (c.deref_mut.ensures.value ∙ c.in_ok-forget.ensures) ∙ length-replicate {A = ℕ} (length c.args.ends.now) 0 in
    omega arith

pub keep_noted-count-requires-clause-keys : goal.keep_noted-count-requires-clause-keys
keep_noted-count-requires-clause-keys c =
    let noted = c.note.new.verdicts in
    let long : length c.deref_mut.result.now ≡ length c.args.ends.now = ap (length {A = ℕ}) (c.deref_mut.ensures.value ∙ c.in_ok-forget.ensures) ∙ length-replicate {A = ℕ} (length c.args.ends.now) 0 in
    let whole : c.forget.new.verdicts.len ≡ length noted = let same = c.note.auto.verdicts in let all = c.deref_mut.ensures.len in omega (arith, same, all) in
    let is : c.deref.result.now ≡ noted =
    c.deref.ensures.value ∙ (ap (λ (n : ℕ). take n (noted ++ drop (length noted) c.forget.new.verdicts.items)) whole ∙ take-append_seam noted (drop (length noted) c.forget.new.verdicts.items)) in
    subst (λ (n : ℕ). AreReachKeys n c.args.order.now.entries) (sym (ap (length {A = ℕ}) is ∙ (c.note.auto.verdicts ∙ long))) (keys_within c.args.ends.now c.args.order.now.entries c.requires.indexed)

pub returns : goal.returns
returns c =
    let noted = c.note.new.verdicts in
    let whole : c.forget.new.verdicts.len ≡ length noted = let same = c.note.auto.verdicts in let all = c.deref_mut.ensures.len in omega (arith, same, all) in
    let is : c.deref.result.now ≡ noted =
    c.deref.ensures.value ∙ (ap (λ (n : ℕ). take n (noted ++ drop (length noted) c.forget.new.verdicts.items)) whole ∙ take-append_seam noted (drop (length noted) c.forget.new.verdicts.items)) in
    let before = noted_none c.args.hits.now c.deref_mut.result.now (length c.args.ends.now) (c.deref_mut.ensures.value ∙ c.in_ok-forget.ensures) in
    let all : AreNoted c.args.hits.now (length c.args.hits.now) c.deref.result.now = subst (AreNoted c.args.hits.now (length c.args.hits.now)) (sym is) (c.note.ensures before) in
    let kept = c.keep_noted-count.new.kept in
    let long : c.resize.new.self.len ≡ length kept = let same = c.keep_noted-count.auto.kept in let room = c.deref_mut-2.ensures.len in omega (arith, same, room) in
    let items : c.truncate.new.self.items ≡ take c.keep_noted-count.result kept =
    c.truncate.ensures.items ∙ ap (take c.keep_noted-count.result) (ap (λ (n : ℕ). take n (kept ++ drop (length kept) c.resize.new.self.items)) long ∙ take-append_seam kept (drop (length kept) c.resize.new.self.items)) in
    subst (λ (ks : List Kept). AreKept (GetsBy c.args.ends.now c.args.hits.now) c.args.captured ks) (sym items)
    (noted_gets c.args.ends.now c.args.order.now.entries c.args.hits.now c.deref.result.now c.args.captured (take c.keep_noted-count.result kept) c.requires.indexed c.requires.inside c.requires.apart all c.keep_noted-count.ensures)
