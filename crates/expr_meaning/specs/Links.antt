-- Link types by their numbers in captures (libpcap, "Link-layer header types").
use Rattle.std.specs.Prelude.{ℕ, ◌==◌, if◌then◌else◌, Option, Some, None}
use Rattle.expr_meaning.specs.declared.link.Link.{Link}
use Rattle.expr_meaning.specs.declared.link.Link.TheVariants.{Ethernet, Raw, Cooked, Cooked2, Null, Loop, Ipv4, Ipv6}

abbrev pub link_of : ℕ → Option Link
link_of number =
    if number == 0 then Some Null else if number == 1 then Some Ethernet
    else if number == 12 then Some Raw else if number == 101 then Some Raw
    else if number == 108 then Some Loop else if number == 113 then Some Cooked
    else if number == 228 then Some Ipv4 else if number == 229 then Some Ipv6
    else if number == 276 then Some Cooked2 else None
