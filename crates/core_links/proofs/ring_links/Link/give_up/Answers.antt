use Rattle.std.proofs.Common.{◌≡◌, ◌++◌, [], ℕ, List, Option, Some, None, take, drop, refl, ap, ◌∙◌}
use Rattle.ump_ring.specs.Joiners.{shown_list}
use Rattle.ump_ring.specs.Receivers.{messages_taken, message_kept}
use Rattle.core_links.proofs.ring_links.Link.give_up.Goals as goal

one_shown : (x : Option (List ℕ)) → shown_list x ≡ take 1 (shown_list x)
one_shown None = refl
one_shown (Some m) = refl

none_after : (x : Option (List ℕ)) → [] ≡ drop 1 (shown_list x)
none_after None = refl
none_after (Some m) = refl

pub returns-clause-given : goal.returns-clause-given
returns-clause-given c = record {
  sent = refl;
  ready = refl;
  told = refl;
  stopped = c.give_up.ensures.stopped;
  taken = c.give_up.ensures.taken ∙ ap (λ (l : List (List ℕ)). messages_taken c.args.self.now.receiver ++ l) (one_shown (message_kept c.args.self.now.receiver));
  kept = ap shown_list c.give_up.ensures.kept ∙ none_after (message_kept c.args.self.now.receiver);
}
