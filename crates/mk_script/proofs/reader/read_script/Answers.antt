use Rattle.mk_script.specs.Scripts.{settings}
use Rattle.mk_script.proofs.LawLemmas.{one_outcome, only_from, first_from}
use Rattle.mk_script.proofs.LimitLemmas.{limits_from}
use Rattle.mk_script.proofs.ThreadLemmas.{threads_from}
use Rattle.mk_script.proofs.TotalLemmas.{some_outcome}
use Rattle.mk_script.proofs.reader.read_script.Goals as goal

pub returns-clause-some : goal.returns-clause-some
returns-clause-some c = some_outcome (settings c.args.files.now c.args.threads) c.args.text.now

pub returns-clause-one : goal.returns-clause-one
returns-clause-one c = one_outcome (settings c.args.files.now c.args.threads) c.are_files.ensures c.args.text.now

pub returns-clause-limits : goal.returns-clause-limits
returns-clause-limits c = limits_from (settings c.args.files.now c.args.threads) c.args.text.now c.script.result c.requires c.script.ensures.found

pub returns-clause-threads : goal.returns-clause-threads
returns-clause-threads c threads = threads_from (settings c.args.files.now c.args.threads) c.args.text.now c.script.result c.requires threads c.script.ensures.found

pub returns-clause-only : goal.returns-clause-only
returns-clause-only c = only_from (settings c.args.files.now c.args.threads) c.are_files.ensures c.args.text.now c.script.result c.script.ensures.found c.script.ensures.refused

pub returns-clause-first : goal.returns-clause-first
returns-clause-first c = first_from (settings c.args.files.now c.args.threads) c.are_files.ensures c.args.text.now c.script.result c.script.ensures.found c.script.ensures.refused
