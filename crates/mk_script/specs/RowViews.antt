-- What contracts see of the tables of commands. No public clause cites these.
use Rattle.mk_script.specs.Rows as spec
use Rattle.mk_script.specs.declared.rows.Row.{Row}

abbrev pub row_of : Row → spec.Row
row_of r = record { word = r.word.now; command = r.command; least = r.least; forms = r.forms.now; open_ended = r.open_ended; for_threads = r.for_threads }
