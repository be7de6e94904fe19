use Rattle.std.proofs.Common.{rules, IfOk, Result, Ok, Err}
use Rattle.core_machine.proofs.booting.start_core.Goals as goal

both : {A E : Type 0} (P Q : A → Type 0) (r : Result A E) → IfOk r P → IfOk r Q → IfOk r (λ a. P a × Q a)
both P Q (Ok a) p q = (p, q)
both P Q (Err e) p q = p

then : {A E : Type 0} (P Q : A → Type 0) (r : Result A E) → IfOk r P → ((a : A) → P a → Q a) → IfOk r Q
then P Q (Ok a) p f = f a p
then P Q (Err e) p f = p

pub returns-clause-up : goal.returns-clause-up
returns-clause-up c =
    let new = c.new.ensures in
    let r = c.new.result in
    let all = both _ _ r new.place (both _ _ r new.limits (both _ _ r new.parts (both _ _ r new.history (both _ _ r new.running new.requests)))) in
    then _ _ r all (λ core h. record {
      port = c.in_ok-port.port;
      comes_up = search rules;
      pushed = c.push_reserved.ensures.items;
    })
