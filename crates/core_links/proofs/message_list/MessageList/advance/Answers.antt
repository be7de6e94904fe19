use Rattle.std.proofs.Common.{sym, subst, ◌<◌, ℕ, length, arith}
use Rattle.std.proofs.lemmas.List.{length-map}
use Rattle.ump_ring.specs.Pieces.{bytes_of}
use Rattle.core_links.specs.MessageLists.{all_of}
use Rattle.core_links.specs.declared.message_list.MessageList.{MessageList}
use Rattle.core_links.proofs.Reading.{take_one_more, drop_one_more, some_left, last_read}
use Rattle.core_links.proofs.message_list.MessageList.advance.Goals as goal

within : (m : MessageList) (n : ℕ) → n < length m.messages.items → n < length (all_of m)
within m n lt = subst (λ (k : ℕ). n < k) (sym (length-map m.messages.items bytes_of)) lt

pub returns-clause-read : goal.returns-clause-read
returns-clause-read c = take_one_more (all_of c.args.self.now) c.args.self.now.read

pub returns-clause-unread : goal.returns-clause-unread
returns-clause-unread c = drop_one_more (all_of c.args.self.now) c.args.self.now.read

pub returns-clause-some : goal.returns-clause-some
returns-clause-some c = λ e. some_left (all_of c.args.self.now) c.args.self.now.read (within c.args.self.now c.args.self.now.read (omega (arith, c.args.self.now.messages.ok.0)))

pub returns-clause-last : goal.returns-clause-last
returns-clause-last c = λ e. last_read (all_of c.args.self.now) c.args.self.now.read (within c.args.self.now c.args.self.now.read (omega (arith, c.args.self.now.messages.ok.0)))
