use Rattle.std.proofs.Common.{◌+◌, sym}
use Rattle.std.proofs.lemmas.List.{take_rest}
use Rattle.bpf_insn.proofs.PieceLemmas.{cut_at, cut_none}
use Rattle.filter_listing.proofs.reading.first_line.Goals as goal

pub returns-in-Some-clause-lines : goal.returns-in-Some-clause-lines
returns-in-Some-clause-lines c = rw (take_rest c.args.text.now (c.in-Some.end + 1)) (cut_at _ c.args.text.now c.in-Some.end (sym c.in-Some.ensures))

pub returns-in-None-clause-lines : goal.returns-in-None-clause-lines
returns-in-None-clause-lines c = cut_none _ c.args.text.now (sym c.in-None.ensures)
