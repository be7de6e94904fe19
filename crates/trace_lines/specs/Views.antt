-- What contracts see of lines that are borrowed.
use Rattle.trace_lines.specs.declared.lines.Line.{Line}
use Rattle.trace_lines.specs.declared.lines.Read.{Read}
use Rattle.trace_lines.specs.declared.lines.Read.TheVariants as read
use Rattle.trace_lines.specs.declared.picture.Row.{Row}
use Rattle.trace_lines.specs.Links.{Drawn}
use Rattle.trace_lines.specs.Lines.{Shown, Said, Skipped, Bad, Done}

abbrev pub shown : Line → Shown
shown l = record { event = l.event; no = l.no; version = l.version.now; text = l.text.now }

abbrev pub said : Read → Said
said read.Skipped = Skipped
said read.Bad = Bad
said (read.Done line) = Done (shown line)

abbrev pub drawn : Row → Drawn
drawn r = record { row = r.row; sender = r.sender; shown = shown r.line }
