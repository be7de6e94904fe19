-- Which expressions can be asked of a link type. A test that stands behind a tag, but also counts where the tag is missing, can't be: of what
-- is asked then the place isn't known. (libpcap reads it at the place behind the tag.)
use Rattle.std.specs.Prelude.{◌&&◌, ◌||◌, Bool, true, false, if◌then◌else◌, Option, Some, None}
use Rattle.expr_words.specs.declared.protocol.Protocol.{Protocol}
use Rattle.expr_tree.specs.declared.test.Test.{Test}
use Rattle.expr_tree.specs.declared.test.Test.TheVariants as test
use Rattle.expr_tree.specs.Expr as expr
use Rattle.expr_tree.specs.Expr.{Expr, Value, Number, Len, Bytes, Operation, Negate}
use Rattle.expr_meaning.specs.declared.place.Place.{Place}
use Rattle.expr_meaning.specs.Asked.{can_ask, can_load}
use Rattle.expr_meaning.specs.Holds.{moved}

-- a tag moves the place
abbrev pub is_tag : Test → Bool
is_tag (test.Vlan number) = true
is_tag (test.Mpls label) = true
is_tag (test.Pppoes number) = true
is_tag _ = false

-- one stands in the expression
abbrev pub has_tag : Expr → Bool
has_tag (expr.Is test) = is_tag test
has_tag (expr.Not of) = has_tag of
has_tag (expr.And first second) = has_tag first || has_tag second
has_tag (expr.Or first second) = has_tag first || has_tag second
has_tag _ = false

-- what is known of a place behind tests that need not be true
abbrev pub kept : Bool → Option Place → Option Place
kept tag place = if tag then None else place

abbrev pub behind_test : Test → Option Place → Option Place
behind_test test None = None
behind_test test (Some place) = Some (moved test place)

-- what is known of the place behind an expression, in the same conjunction: none where it depends on the packet
abbrev pub behind : Expr → Option Place → Option Place
behind (expr.Is test) place = behind_test test place
behind (expr.Not of) place = kept (has_tag of) place
behind (expr.And first second) place = behind second (behind first place)
behind (expr.Or first second) place = kept (has_tag first || has_tag second) place
behind _ place = place

abbrev pub can_test : Test → Option Place → Bool
can_test test None = false
can_test test (Some place) = can_ask place.layer test

abbrev pub can_bytes : Protocol → Option Place → Bool
can_bytes protocol None = false
can_bytes protocol (Some place) = can_load place.layer protocol

-- bytes can be asked for of each header that a calculation is made of
abbrev pub can_value : Value → Option Place → Bool
can_value (Number number) place = true
can_value Len place = true
can_value (Bytes protocol index size) place = can_value index place && can_bytes protocol place
can_value (Operation operator first second) place = can_value first place && can_value second place
can_value (Negate of) place = can_value of place

-- each test and each calculation can be asked where it stands
abbrev pub can : Expr → Option Place → Bool
can expr.Every place = true
can (expr.Is test) place = can_test test place
can (expr.Compare relation first second) place = can_value first place && can_value second place
can (expr.Not of) place = can of place
can (expr.And first second) place = can first place && can second (behind first place)
can (expr.Or first second) place = can first place && can second (kept (has_tag first) place)
