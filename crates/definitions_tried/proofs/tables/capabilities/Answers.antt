use Rattle.std.proofs.Common.{refl}
use Rattle.definitions_tried.proofs.Derived.{grandchild, root, sibling}
use Rattle.definitions_tried.proofs.tables.capabilities.Goals as goal

pub returns-clause-all_are_held : goal.returns-clause-all_are_held
returns-clause-all_are_held c = refl

pub returns-clause-minted_from_a_minted_one : goal.returns-clause-minted_from_a_minted_one
returns-clause-minted_from_a_minted_one c = grandchild

pub returns-clause-not_the_other_way : goal.returns-clause-not_the_other_way
returns-clause-not_the_other_way c = root 4 1 refl

pub returns-clause-not_a_sibling : goal.returns-clause-not_a_sibling
returns-clause-not_a_sibling c = sibling 4 refl

pub returns-clause-not_itself : goal.returns-clause-not_itself
returns-clause-not_itself c = root 1 1 refl

pub returns-clause-revoked_with_all_mints : goal.returns-clause-revoked_with_all_mints
returns-clause-revoked_with_all_mints c = refl

pub returns-clause-revoked_below_a_minted_one : goal.returns-clause-revoked_below_a_minted_one
returns-clause-revoked_below_a_minted_one c = refl

pub returns-clause-dropped_with_all_mints : goal.returns-clause-dropped_with_all_mints
returns-clause-dropped_with_all_mints c = refl

pub returns-clause-no_id_again : goal.returns-clause-no_id_again
returns-clause-no_id_again c = refl

pub returns-clause-endpoint_once : goal.returns-clause-endpoint_once
returns-clause-endpoint_once c = refl

pub returns-clause-another_endpoint : goal.returns-clause-another_endpoint
returns-clause-another_endpoint c = refl

pub returns-clause-by_its_holder_alone : goal.returns-clause-by_its_holder_alone
returns-clause-by_its_holder_alone c = refl

pub returns-clause-none_of_that_id : goal.returns-clause-none_of_that_id
returns-clause-none_of_that_id c = refl

pub returns-clause-not_without_the_right_to_mint : goal.returns-clause-not_without_the_right_to_mint
returns-clause-not_without_the_right_to_mint c = refl

pub returns-clause-no_more_rights : goal.returns-clause-no_more_rights
returns-clause-no_more_rights c = refl

pub returns-clause-the_same_rights : goal.returns-clause-the_same_rights
returns-clause-the_same_rights c = refl

pub returns-clause-no_receiving_by_a_right_to_mint : goal.returns-clause-no_receiving_by_a_right_to_mint
returns-clause-no_receiving_by_a_right_to_mint c = refl

pub returns-clause-the_holder_before_the_right : goal.returns-clause-the_holder_before_the_right
returns-clause-the_holder_before_the_right c = refl

pub returns-clause-one_more_of_1024 : goal.returns-clause-one_more_of_1024
returns-clause-one_more_of_1024 c = refl

pub returns-clause-none_more_than_1024 : goal.returns-clause-none_more_than_1024
returns-clause-none_more_than_1024 c = refl

pub returns-clause-the_rights_before_the_room : goal.returns-clause-the_rights_before_the_room
returns-clause-the_rights_before_the_room c = refl
