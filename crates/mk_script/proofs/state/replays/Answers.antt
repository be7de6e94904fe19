use Rattle.std.proofs.Common.{◌≡◌, ◌∙◌, ◌+◌, ℕ, length, ap, sym}
use Rattle.mk_script.specs.DraftViews.{events_of, jobs_of}
use Rattle.mk_script.proofs.ReplayLemmas.{length-replayed}
use Rattle.mk_script.proofs.ChangeLemmas.{knows_receives}
use Rattle.mk_script.proofs.state.replays.Goals as goal

pub returns : goal.returns
returns c =
    let r = c.args.reading.now in
    let replay = c.args.replay.now in
    let counted = ap (jobs_of r.received) c.requires in
    let events = events_of replay in
    let count : r.received + length c.as_slice.result.now ≡ r.received + length events = ap (λ (n : ℕ). r.received + n) (ap length c.as_slice.ensures ∙ sym (length-replayed replay.cores replay.received replay.floor 0 replay.packets)) in
    λ given knows. rw c.requires (knows_receives _ _ _ _ _ _ _ _ _ given knows events r.received _ c.receive_all.new.items.items counted count c.in_ok-receive_all.ensures.items)
