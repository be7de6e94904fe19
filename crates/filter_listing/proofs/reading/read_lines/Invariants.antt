use Rattle.std.proofs.Common.{◌≡◌, ◌+◌, ◌≤◌, length}
use Rattle.std.specs.List.{All}
use Rattle.filter_listing.specs.Image.{IsBare}
use Rattle.filter_listing.specs.declared.reading.Style.TheVariants.{Images}
use Rattle.filter_listing.specs.Lines.{lines_of}
use Rattle.filter_listing.proofs.LinesLemmas.{ReadTo}
use Rattle.filter_listing.proofs.reading.read_lines.Given as goal

abbrev pub invariant-loop-kind : goal.invariant-loop-kind
invariant-loop-kind l = record { room : l.number + length l.left ≤ length l.text; bare : l.style ≡ Images → All IsBare l.program.items; so_far : ReadTo l.style l.text (lines_of l.left) l.number l.program.items }

abbrev pub decreases-loop-kind : goal.decreases-loop-kind
decreases-loop-kind l = length l.left
