use Rattle.std.proofs.Common.{Result, IfOk, subst}
use Rattle.core_threads.specs.declared.halt.RunFault.{RunFault}
use Rattle.core_threads.specs.declared.threads.Joined.{Joined}
use Rattle.core_threads.specs.Joining.{HaveRan}
use Rattle.core_threads.proofs.threads.join_last.Goals as goal
use Rattle.pcap_reader.proofs.FeedLemmas.{AllZip-push}

pub returns-in-Ok-push-clause-cores : goal.returns-in-Ok-push-clause-cores
returns-in-Ok-push-clause-cores c = λ cores core was ran.
    let P : Result Joined RunFault → Type 0 = λ r. IfOk r (λ joined. HaveRan cores joined.ran.items) in
    let before : HaveRan cores c.in-Ok.joined.ran.items = subst P c.in-Ok.is was in
    rw c.in-Ok-push.ensures.items (AllZip-push _ cores c.in-Ok.joined.ran.items core c.args.ran before ran)
