-- What `run` printed of a script, given to `sim` after the script and a line `trace`.
use Rattle.std.specs.Prelude.{ℕ, List, ◌++◌, codes}
use Rattle.std.specs.List.{flat_map}
use Rattle.world_events.specs.declared.event.Done.{Done}
use Rattle.world_histories.specs.Merging.{as_listed}
use Rattle.sim_lines.specs.Events.{done_line}
use Rattle.mk_script.specs.declared.script.Script.{Script}
use Rattle.run_engine.specs.Showing.{ShowsRun}

-- the events of the run that the text shows
abbrev pub events_of : {script : Script} {text : List ℕ} → ShowsRun script text → List Done
events_of run = as_listed run.merged

-- their lines: the text without the lines of what is left
abbrev pub event_lines : {script : Script} {text : List ℕ} → ShowsRun script text → List ℕ
event_lines run = flat_map done_line (events_of run)

-- a script, a line `trace`, and what a run of the script printed
abbrev pub with_trace : List ℕ → List ℕ → List ℕ
with_trace input text = input ++ (codes "trace\n" ++ text)
