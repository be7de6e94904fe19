use Rattle.tiered.proofs.Turns.{moved_down}
use Rattle.tiered.proofs.block.move_down.Goals as goal

pub returns-clause-items : goal.returns-clause-items
returns-clause-items g c =
    moved_down c.args.items.now c.rotate_left.new.self c.args.out c.args.into c.replace-old.new.dest c.args.item c.replace-old.ensures.after c.requires.order c.requires.inside c.rotate_left.ensures.after
