use Rattle.std.proofs.Common.{◌+◌, sym, ap, map}
use Rattle.std.proofs.lemmas.List.{take_rest}
use Rattle.bpf_insn.specs.Texts.{words_of}
use Rattle.bpf_insn.proofs.PieceLemmas.{cut_at, cut_none}
use Rattle.bpf_insn.proofs.pieces.first_piece.Goals as goal

pub returns-in-Some-clause-pieces : goal.returns-in-Some-clause-pieces
returns-in-Some-clause-pieces c = rw (take_rest c.args.text.now (c.in-Some.end + 1)) (ap (map words_of) (cut_at _ c.args.text.now c.in-Some.end (sym c.in-Some.ensures)))

pub returns-in-None-clause-pieces : goal.returns-in-None-clause-pieces
returns-in-None-clause-pieces c = ap (map words_of) (cut_none _ c.args.text.now (sym c.in-None.ensures))
