use Rattle.std.proofs.Common.{List, ℕ, ◌++◌, ap, ◌∙◌}
use Rattle.monitor_messages.specs.Coding.{coded}
use Rattle.monitor_messages.proofs.Lengths.{encoded_length}
use Rattle.monitor_messages.proofs.writing.encode.Goals as goal

pub returns-clause-length : goal.returns-clause-length
returns-clause-length c =
    encoded_length c.put_message.new.out.items c.args.stamp c.args.message.now c.requires (c.in_ok-put_message.ensures.bytes ∙ ap (λ (r : List ℕ). r ++ coded c.args.stamp c.args.message.now) c.new-out.ensures.items)
