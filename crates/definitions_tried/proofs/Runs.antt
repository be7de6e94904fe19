-- Runs of the filter for ARP, written out.
use Rattle.std.proofs.Common.{ℕ, refl, lit<, lit≤, arith}
use Rattle.std.specs.FinMap.{empty}
use Rattle.bpf_insn.specs.declared.form.Form.TheVariants.{LdAbs, JmpK, RetK}
use Rattle.bpf_insn.specs.declared.form.Size.TheVariants.{Half}
use Rattle.bpf_insn.specs.declared.form.Test.TheVariants.{Equal}
use Rattle.bpf_insn.specs.Machine.{State, Ends, opening}
use Rattle.bpf_insn.specs.Program.{form_at}
use Rattle.bpf_insn.specs.Table.{form_of}
use Rattle.filter_vm.proofs.Unique.{Ends-same}
use Rattle.definitions_tried.specs.Filters.{arp, arp_request, ip_datagram, cut_frame}

abbrev at : ℕ → ℕ → State
at pc a = record { pc = pc; a = a; x = 0; memory = empty }

pub arp_is_kept : Ends arp arp_request 64 3
unfolding form_at form_of
arp_is_kept = record {
  before = 2;
  counted = refl;
  state = at 2 2054;
  chain = (at 1 2054, (opening, refl, (LdAbs Half 12, refl, (lit< tt, (2054, (lit≤ tt, refl), refl)))), (JmpK Equal 2054 0 1, refl, refl));
  last = (RetK 64, refl, refl);
}

pub another_is_not : Ends arp ip_datagram 0 3
unfolding form_at form_of
another_is_not = record {
  before = 2;
  counted = refl;
  state = at 3 2048;
  chain = (at 1 2048, (opening, refl, (LdAbs Half 12, refl, (lit< tt, (2048, (lit≤ tt, refl), refl)))), (JmpK Equal 2054 0 1, refl, refl));
  last = (RetK 0, refl, refl);
}

pub past_the_end : Ends arp cut_frame 0 1
unfolding form_at form_of
past_the_end = record {
  before = 0;
  counted = refl;
  state = opening;
  chain = refl;
  last = (LdAbs Half 12, refl, (lit< tt, refl));
}

pub not_65_bytes : Ends arp arp_request 65 3 → ⊥
not_65_bytes ends = let same = (Ends-same arp arp_request 64 3 65 3 arp_is_kept ends).0 in absurd (omega arith)

pub not_in_4 : Ends arp arp_request 64 4 → ⊥
not_in_4 ends = let same = (Ends-same arp arp_request 64 3 64 4 arp_is_kept ends).1 in absurd (omega arith)
