-- A worked sequence of creations, mints and revocations, computed.
use Rattle.std.proofs.Common.{◌≡◌, ℕ, Some, None, List, [], ◌∷◌, map, refl}
use Rattle.endpoint_caps.specs.declared.Cap.{Cap}
use Rattle.endpoint_caps.specs.declared.Rights.TheVariants.{R, M}
use Rattle.endpoint_caps.specs.declared.CapFault.TheVariants.{NoCap, NotHolder, NoRight, RightsExceed, EndpointTaken, CapsFull, DomainFull}
use Rattle.endpoint_caps.specs.Capabilities.{CapBounds, CapTable, no_caps, created, minted_from, revoked, dropped, count_for, first, create_tests, mint_tests, Under, minted, further}

abbrev many : CapBounds
many = record { total = 1024; share = 1024 }

abbrev one : CapTable
one = created no_caps 1 7

abbrev two : CapTable
two = minted_from one 1 2 R

abbrev three : CapTable
three = minted_from two 1 2 M

abbrev four : CapTable
four = minted_from three 3 4 M

ids : CapTable → List ℕ
ids table = map (λ (c : Cap). c.id) table.held

allowed_1 : first (create_tests many no_caps 1 7) ≡ None
allowed_1 = refl

taken : first (create_tests many one 1 7) ≡ Some EndpointTaken
taken = refl

not_holder : first (mint_tests many one 2 1 R) ≡ Some NotHolder
not_holder = refl

no_cap : first (mint_tests many one 1 9 R) ≡ Some NoCap
no_cap = refl

no_right : first (mint_tests many two 2 2 R) ≡ Some NoRight
no_right = refl

exceeds : first (mint_tests many three 2 3 R) ≡ Some RightsExceed
exceeds = refl

allowed_4 : first (mint_tests many three 2 3 M) ≡ None
allowed_4 = refl

all_held : ids four ≡ 1 ∷ 2 ∷ 3 ∷ 4 ∷ []
unfolding ids
all_held = refl

after_revoke : ids (revoked four 1) ≡ 1 ∷ []
unfolding ids
after_revoke = refl

after_drop : ids (dropped (revoked four 1) 1) ≡ []
unfolding ids
after_drop = refl

next_id : ids (created (dropped (revoked four 1) 1) 2 7) ≡ 5 ∷ []
unfolding ids
next_id = refl

grandchild : Under four.held 1 4
grandchild = further _ 3 refl refl (minted _ refl refl)

-- what a domain makes counts for it, whoever holds it: here domain 1 made the first three, and domain 2 the fourth

counts_1 : map (count_for four.held) (1 ∷ 2 ∷ 4 ∷ []) ≡ 3 ∷ 1 ∷ 0 ∷ []
counts_1 = refl

abbrev few : CapBounds
few = record { total = 5; share = 3 }

full_1 : first (create_tests few four 1 8) ≡ Some DomainFull
full_1 = refl

full_2 : first (mint_tests few four 1 1 R) ≡ Some DomainFull
full_2 = refl

others_go_on : first (create_tests few four 4 8) ≡ None
others_go_on = refl

full_3 : first (create_tests few (created four 4 8) 1 9) ≡ Some CapsFull
full_3 = refl
