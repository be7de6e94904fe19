-- What a script for threads gives its cores enters at them, and can be sent.
use Rattle.std.proofs.Common.{◌≡◌, ◌<◌, All, ℕ, zero, suc, List, [], ◌∷◌, subst, sym}
use Rattle.std.specs.List.{flat_map}
use Rattle.std.proofs.lemmas.List.Elements.{All-nil, All-cons, All-head, All-tail, All-append}
use Rattle.filter_table.specs.declared.operation.Op.{Op}
use Rattle.rx_queue.specs.declared.job.Job.{Job}
use Rattle.core_loop.specs.Cores.{AreShort}
use Rattle.core_machine.specs.Booting.{AreGivable}
use Rattle.filter_table.specs.Tables.{HasShortProgram}
use Rattle.world_events.specs.declared.event.Event.TheVariants.{Rx}
use Rattle.world_events.specs.declared.event.Event.TheVariants as event
use Rattle.mk_script.specs.declared.script.Item.{Item}
use Rattle.mk_script.specs.declared.script.Item.TheVariants.{Ask, Begin, Submit, StartFor, Apply, Settle, Show}
use Rattle.mk_script.specs.Limits.{IsLimited}
use Rattle.mk_script.specs.Threads.{IsForThreads}
use Rattle.run_engine.specs.Work.{request_in, requests_of, job_in, jobs_of}

-- what holds of each part holds of the whole
all_parts : {A B : Type 0} (P : B → Type 0) (Q : A → Type 0) (f : A → List B) → ((a : A) → Q a → All P (f a)) → (xs : List A) → All Q xs → All P (flat_map f xs)
all_parts P Q f part [] all = All-nil P
all_parts P Q f part (x ∷ xs) all = All-append P (f x) (flat_map f xs) (part x (All-head Q x xs all)) (all_parts P Q f part xs (All-tail Q x xs all))

request_inside : (cores : ℕ) (item : Item) → IsForThreads cores item → All (λ r. r.0 < cores) (request_in item)
request_inside cores (Ask core op) h = All-cons (λ r. r.0 < cores) (core, op) [] h (All-nil (λ r. r.0 < cores))
request_inside cores (Apply e) h = All-nil (λ r. r.0 < cores)
request_inside cores Begin h = absurd h
request_inside cores (Submit core) h = absurd h
request_inside cores (StartFor core) h = absurd h
request_inside cores Settle h = absurd h
request_inside cores (Show core) h = absurd h

pub requests_inside : (cores : ℕ) (items : List Item) (requests : List (ℕ × Op)) → All (IsForThreads cores) items → requests ≡ requests_of items → All (λ r. r.0 < cores) requests
requests_inside cores items requests all are = subst (All (λ r. r.0 < cores)) (sym are) (all_parts (λ r. r.0 < cores) (IsForThreads cores) request_in (request_inside cores) items all)

job_inside : (cores : ℕ) (item : Item) → IsForThreads cores item → All (λ j. j.0 < cores) (job_in item)
job_inside cores (Apply (Rx core number packet floor)) h =
    All-cons (λ j. j.0 < cores) (core, record { number = number; packet = packet; floor = floor }) [] h (All-nil (λ j. j.0 < cores))
job_inside cores (Apply (event.Start op)) h = absurd h
job_inside cores (Apply (event.Submit core op)) h = absurd h
job_inside cores (Apply (event.StartFor core)) h = absurd h
job_inside cores (Apply (event.Take to from short)) h = absurd h
job_inside cores (Ask core op) h = All-nil (λ j. j.0 < cores)
job_inside cores Begin h = absurd h
job_inside cores (Submit core) h = absurd h
job_inside cores (StartFor core) h = absurd h
job_inside cores Settle h = absurd h
job_inside cores (Show core) h = absurd h

pub jobs_inside : (cores : ℕ) (items : List Item) (jobs : List (ℕ × Job)) → All (IsForThreads cores) items → jobs ≡ jobs_of items → All (λ j. j.0 < cores) jobs
jobs_inside cores items jobs all are = subst (All (λ j. j.0 < cores)) (sym are) (all_parts (λ j. j.0 < cores) (IsForThreads cores) job_in (job_inside cores) items all)

short_for : (core : ℕ) (op : Op) → HasShortProgram op → AreShort core (op ∷ [])
short_for zero op h = cc
short_for (suc entry) op h = All-cons HasShortProgram op [] h (All-nil HasShortProgram)

request_givable : (item : Item) → IsLimited item → AreGivable (request_in item)
request_givable (Ask core op) h = All-cons (λ r. AreShort r.0 (r.1 ∷ [])) (core, op) [] (short_for core op h) (All-nil (λ r. AreShort r.0 (r.1 ∷ [])))
request_givable (Apply e) h = All-nil (λ r. AreShort r.0 (r.1 ∷ []))
request_givable Begin h = All-nil (λ r. AreShort r.0 (r.1 ∷ []))
request_givable (Submit core) h = All-nil (λ r. AreShort r.0 (r.1 ∷ []))
request_givable (StartFor core) h = All-nil (λ r. AreShort r.0 (r.1 ∷ []))
request_givable Settle h = All-nil (λ r. AreShort r.0 (r.1 ∷ []))
request_givable (Show core) h = All-nil (λ r. AreShort r.0 (r.1 ∷ []))

pub requests_givable : (items : List Item) (requests : List (ℕ × Op)) → All IsLimited items → requests ≡ requests_of items → AreGivable requests
requests_givable items requests all are = subst AreGivable (sym are) (all_parts (λ r. AreShort r.0 (r.1 ∷ [])) IsLimited request_in request_givable items all)
