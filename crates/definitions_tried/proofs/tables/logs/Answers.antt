use Rattle.std.proofs.Common.{refl}
use Rattle.filter_table.specs.Tables.{table, after, made}
use Rattle.definitions_tried.proofs.tables.logs.Goals as goal

pub returns-clause-versions : goal.returns-clause-versions
unfolding table after
returns-clause-versions c = (refl, refl, refl)

pub returns-clause-first_cap : goal.returns-clause-first_cap
unfolding table after made
returns-clause-first_cap c = refl

pub returns-clause-first_filter : goal.returns-clause-first_filter
unfolding table after made
returns-clause-first_filter c = refl

pub returns-clause-next_cap : goal.returns-clause-next_cap
unfolding table after made
returns-clause-next_cap c = refl

pub returns-clause-held : goal.returns-clause-held
unfolding table after
returns-clause-held c = refl

pub returns-clause-none_is_held : goal.returns-clause-none_is_held
unfolding table after
returns-clause-none_is_held c = refl

pub returns-clause-filter_stays : goal.returns-clause-filter_stays
unfolding table after
returns-clause-filter_stays c = refl
