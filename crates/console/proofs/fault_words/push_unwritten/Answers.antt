use Rattle.std.proofs.Common.{◌++◌, ◌∙◌, ap, append_assoc}
use Rattle.console.specs.Code.{commas}
use Rattle.console.proofs.fault_words.push_unwritten.Goals as goal

pub returns : goal.returns
returns c = c.in_ok-push_places.ensures ∙ ap (λ t. t ++ commas c.args.path.now) c.in_ok-write.ensures.bytes ∙ simp append_assoc
