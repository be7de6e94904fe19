-- Links over which nothing has come, as far as their ends know.
use Rattle.std.specs.Prelude.{◌≡◌, [], ℕ, None}
use Rattle.core_links.specs.Views.{LinkView}
use Rattle.core_links.specs.Flows.{Flow}

-- no message is kept, the link has not stopped, and no line is known that was not received
pub record IsCalm (v : LinkView) (f : Flow) : Type 0 where
  pub none_kept : v.kept ≡ []
  pub running : v.stopped ≡ None
  pub none_known : f.known ≡ 0
