-- What is run on a packet: the program of its link type (libpcap, "Link-layer header types"), or the fault of CODE that stands for one.
use Rattle.std.specs.Prelude.{ℕ, List, Option, Some, None, Result, Ok, Err}
use Rattle.bpf_insn.specs.declared.insn.Insn.{Insn}
use Rattle.expr_meaning.specs.declared.link.Link.{Link}
use Rattle.expr_meaning.specs.declared.link.Link.TheVariants.{Ethernet, Raw, Cooked, Cooked2, Null, Loop, Ipv4, Ipv6}
use Rattle.expr_meaning.specs.Links.{link_of}
use Rattle.console.specs.declared.filter.CodeFault.{CodeFault}
use Rattle.console.specs.declared.filter.CodeFault.TheVariants as faults
use Rattle.console.specs.declared.filter.Filter.{Filter}
use Rattle.console.specs.declared.filter.Filter.TheVariants.{Same, ByLink}
use Rattle.console.specs.declared.filter.LinkPrograms.{LinkPrograms}

-- a program for packets of each link type, by its number in captures, or why there is none
abbrev pub Programs : Type 0
Programs = ℕ → Result (List Insn) CodeFault

-- the same for all
abbrev pub same_for_all : List Insn → Programs
same_for_all program link = Ok program

-- that of one that expressions know
abbrev pub over_link : LinkPrograms → Link → Result (List Insn) CodeFault
over_link programs Ethernet = programs.ethernet
over_link programs Raw = programs.raw
over_link programs Cooked = programs.cooked
over_link programs Cooked2 = programs.cooked2
over_link programs Null = programs.null
over_link programs Loop = programs.loopback
over_link programs Ipv4 = programs.ipv4
over_link programs Ipv6 = programs.ipv6

abbrev pub at_link : LinkPrograms → ℕ → Option Link → Result (List Insn) CodeFault
at_link programs number (Some link) = over_link programs link
at_link programs number None = Err (faults.Link number)

-- those of a filter
abbrev pub programs_of : Filter → Programs
programs_of (Same program) = same_for_all program
programs_of (ByLink programs) = λ number. at_link programs number (link_of number)
