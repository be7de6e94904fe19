-- What a script gives the cores to do.
use Rattle.std.specs.Prelude.{ℕ, List, [], ◌∷◌}
use Rattle.std.specs.List.{flat_map}
use Rattle.filter_table.specs.declared.operation.Op.{Op}
use Rattle.rx_queue.specs.declared.job.Job.{Job}
use Rattle.world_events.specs.declared.event.Event.TheVariants.{Rx}
use Rattle.mk_script.specs.declared.script.Item.{Item}
use Rattle.mk_script.specs.declared.script.Item.TheVariants.{Ask, Apply}

-- requests, each with the core where it enters
abbrev pub request_in : Item → List (ℕ × Op)
request_in (Ask core op) = (core, op) ∷ []
request_in item = []

abbrev pub requests_of : List Item → List (ℕ × Op)
requests_of items = flat_map request_in items

-- jobs, each with the core that receives its packet
abbrev pub job_in : Item → List (ℕ × Job)
job_in (Apply (Rx core number packet floor)) = (core, record { number = number; packet = packet; floor = floor }) ∷ []
job_in item = []

abbrev pub jobs_of : List Item → List (ℕ × Job)
jobs_of items = flat_map job_in items
