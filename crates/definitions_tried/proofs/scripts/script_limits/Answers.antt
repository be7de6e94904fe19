use Rattle.std.proofs.Common.{refl}
use Rattle.mk_script.specs.Drafts.{script_draft, limits_draft, cores_draft}
use Rattle.mk_script.specs.Rows.{command_of}
use Rattle.definitions_tried.proofs.scripts.script_limits.Goals as goal

pub returns-clause-limits : goal.returns-clause-limits
unfolding script_draft limits_draft cores_draft command_of
returns-clause-limits c = refl

pub returns-clause-not_0 : goal.returns-clause-not_0
unfolding script_draft limits_draft cores_draft command_of
returns-clause-not_0 c = refl

pub returns-clause-no_more : goal.returns-clause-no_more
unfolding script_draft limits_draft cores_draft command_of
returns-clause-no_more c = refl

pub returns-clause-once : goal.returns-clause-once
unfolding script_draft limits_draft cores_draft command_of
returns-clause-once c = refl

pub returns-clause-before_cores : goal.returns-clause-before_cores
unfolding script_draft limits_draft cores_draft command_of
returns-clause-before_cores c = refl

pub returns-clause-twice_first : goal.returns-clause-twice_first
unfolding script_draft limits_draft cores_draft command_of
returns-clause-twice_first c = refl

pub returns-clause-no_cores_yet : goal.returns-clause-no_cores_yet
unfolding script_draft limits_draft cores_draft command_of
returns-clause-no_cores_yet c = refl

pub returns-clause-eight_cores : goal.returns-clause-eight_cores
unfolding script_draft limits_draft cores_draft command_of
returns-clause-eight_cores c = refl

pub returns-clause-no_nine_cores : goal.returns-clause-no_nine_cores
unfolding script_draft limits_draft cores_draft command_of
returns-clause-no_nine_cores c = refl

pub returns-clause-line_first : goal.returns-clause-line_first
unfolding script_draft limits_draft cores_draft command_of
returns-clause-line_first c = refl

pub returns-clause-most_cores_by_limits : goal.returns-clause-most_cores_by_limits
unfolding script_draft limits_draft cores_draft command_of
returns-clause-most_cores_by_limits c = refl

pub returns-clause-no_more_by_limits : goal.returns-clause-no_more_by_limits
unfolding script_draft limits_draft cores_draft command_of
returns-clause-no_more_by_limits c = refl
