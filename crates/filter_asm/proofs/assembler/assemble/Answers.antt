use Rattle.filter_asm.proofs.LawLemmas.{each_stands_for_some, none_stands_for_two, only_from, first_from}
use Rattle.filter_asm.specs.Cleared.{PrintedStands}
use Rattle.filter_asm.proofs.FitsLemmas.{fitting_operands_are_read, read_operands_fit}
use Rattle.filter_asm.proofs.LeadsLemmas.{links_lead}
use Rattle.filter_asm.proofs.RoundTrip.{stands_for_itself}
use Rattle.filter_asm.proofs.assembler.assemble.Goals as goal

pub returns-clause-some : goal.returns-clause-some
returns-clause-some c = each_stands_for_some c.args.text.now

pub returns-clause-one : goal.returns-clause-one
returns-clause-one c = none_stands_for_two c.args.text.now

pub returns-clause-only : goal.returns-clause-only
returns-clause-only c = only_from c.args.text.now c.two_passes.result c.two_passes.ensures.found c.two_passes.ensures.refused

pub returns-clause-first : goal.returns-clause-first
returns-clause-first c = first_from c.args.text.now c.two_passes.result c.two_passes.ensures.found c.two_passes.ensures.refused

pub returns-clause-printed : goal.returns-clause-printed
unfolding PrintedStands
returns-clause-printed c = stands_for_itself

pub returns-clause-read_fit : goal.returns-clause-read_fit
returns-clause-read_fit c = read_operands_fit

pub returns-clause-fit_read : goal.returns-clause-fit_read
returns-clause-fit_read c = fitting_operands_are_read

pub returns-clause-leads : goal.returns-clause-leads
returns-clause-leads c = links_lead
