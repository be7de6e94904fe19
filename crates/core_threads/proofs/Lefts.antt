-- More jobs of a core are left.
use Rattle.std.proofs.Common.{◌≡◌, List, [], ◌∷◌, ◌++◌, ℕ, sym, ap, ◌∙◌, append_assoc}
use Rattle.std.proofs.lemmas.List.{map-append}
use Rattle.rx_queue.specs.declared.job.Job.{Job}
use Rattle.core_threads.specs.Leaving.{tagged, Leaves}

-- one more
pub leaves_more : (core : ℕ) (taken jobs jobs' : List Job) (job : Job) (old mid new : List (ℕ × Job)) → Leaves core taken jobs old mid → new ≡ mid ++ (core, job) ∷ [] → jobs' ≡ jobs ++ job ∷ [] → Leaves core taken jobs' old new
leaves_more core taken jobs jobs' job old mid new was pushed grown = record {
  more = was.more ++ job ∷ [];
  left = pushed ∙ ap (λ l. l ++ (core, job) ∷ []) was.left ∙ append_assoc old (tagged core was.more) ((core, job) ∷ []) ∙ ap (λ l. old ++ l) (sym (map-append (λ (item : Job). (core, item)) was.more (job ∷ [])));
  whole = sym (append_assoc taken was.more (job ∷ [])) ∙ ap (λ l. l ++ job ∷ []) was.whole ∙ sym grown;
}

-- one part after another
pub leaves_along : (core : ℕ) (taken first second : List Job) (old mid new : List (ℕ × Job)) → Leaves core taken first old mid → Leaves core [] second mid new → Leaves core taken (first ++ second) old new
leaves_along core taken first second old mid new a b = record {
  more = a.more ++ b.more;
  left = b.left ∙ ap (λ l. l ++ tagged core b.more) a.left ∙ append_assoc old (tagged core a.more) (tagged core b.more) ∙ ap (λ l. old ++ l) (sym (map-append (λ (item : Job). (core, item)) a.more b.more));
  whole = sym (append_assoc taken a.more b.more) ∙ ap (λ l. l ++ b.more) a.whole ∙ ap (λ l. first ++ l) b.whole;
}
