use Rattle.std.proofs.Common.{refl}
use Rattle.std.specs.Fmt.{digits}
use Rattle.definitions_tried.proofs.Spelled.{count_of_4096, count_of_4097, lines, not_too_long_at_4096, numbers}
use Rattle.definitions_tried.proofs.texts.decimal_texts.Goals as goal

pub returns-clause-of_tcpdump : goal.returns-clause-of_tcpdump
returns-clause-of_tcpdump c = lines

pub returns-clause-of_bpf_asm : goal.returns-clause-of_bpf_asm
returns-clause-of_bpf_asm c = numbers

pub returns-clause-written : goal.returns-clause-written
unfolding digits
returns-clause-written c = refl

pub returns-clause-count_of_4096 : goal.returns-clause-count_of_4096
returns-clause-count_of_4096 c = count_of_4096

pub returns-clause-count_of_4097 : goal.returns-clause-count_of_4097
returns-clause-count_of_4097 c = count_of_4097

pub returns-clause-not_too_long_at_4096 : goal.returns-clause-not_too_long_at_4096
returns-clause-not_too_long_at_4096 c = not_too_long_at_4096
