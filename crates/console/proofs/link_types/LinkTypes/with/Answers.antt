use Rattle.std.proofs.Common.{arith}
use Rattle.console.proofs.LinkLemmas.{more_links, other_link, same_link}
use Rattle.console.proofs.link_types.LinkTypes.with.Goals as goal

pub returns-in-One : goal.returns-in-One
returns-in-One c = λ links are. same_link links c.in-One.one c.args.link (omega (arith, c.if-one-link.true)) (rw c.in-One.is at are)

pub returns-in-One-2 : goal.returns-in-One-2
returns-in-One-2 c = λ links are. other_link links c.in-One.one c.args.link (λ same. absurd (omega (arith, c.if-one-link.false, same))) (rw c.in-One.is at are)

pub returns-in-Several : goal.returns-in-Several
returns-in-Several c = λ links are. rw c.in-Several.is (more_links links c.args.link (rw c.in-Several.is at are))
