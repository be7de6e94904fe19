-- Comparisons of numbers of packets.
use Rattle.std.proofs.Common.{◌≡◌, ℕ, ◌+◌, ◌-◌, ◌*◌, ◌<◌, ◌≤◌, ◌%◌, ◌^◌, Bool, true, false, not, List, ◌∷◌, ◌++◌, Option, Some, None, Result, Ok, Err, refl, sym, ap, ◌∙◌, arith}
use Rattle.std.specs.Prelude.{option_map, option_and_then, nat_lt, nat_le, ◌==◌, IfOk, IfSome}
use Rattle.std.proofs.lemmas.Bool.Decides.{nat_tests}
use Rattle.std.proofs.lemmas.Nat.{and_comm}
use Rattle.bpf_insn.specs.declared.form.Size.{Size}
use Rattle.bpf_insn.specs.declared.form.Size.TheVariants.{Byte}
use Rattle.bpf_insn.specs.Machine.{Packet}
use Rattle.filter_cond.specs.declared.cond.Part.{Part}
use Rattle.filter_cond.specs.declared.number.Load.{Load}
use Rattle.filter_cond.specs.declared.number.Load.TheVariants.{Past, Length}
use Rattle.filter_cond.specs.Means.{masked, truths_of}
use Rattle.filter_cond.specs.Numbers.{number_at, loaded, applied}
use Rattle.expr_words.specs.declared.protocol.Protocol.{Protocol}
use Rattle.expr_tree.specs.declared.calc.Operator.{Operator}
use Rattle.expr_tree.specs.declared.calc.Operator.TheVariants as op
use Rattle.expr_tree.specs.declared.calc.Relation.{Relation}
use Rattle.expr_tree.specs.declared.calc.Relation.TheVariants.{Equal, NotEqual, Less, Greater, LessEqual, GreaterEqual}
use Rattle.expr_tree.specs.declared.calc.Size as calc
use Rattle.expr_tree.specs.Expr.{Value, Number, Len, Bytes, Operation, Negate, Compare}
use Rattle.expr_meaning.specs.declared.place.Place.{Place}
use Rattle.expr_meaning.specs.Carriages.{carriage_of}
use Rattle.expr_meaning.specs.Questions.{answer, and_then}
use Rattle.expr_meaning.specs.Layers.{known}
use Rattle.expr_meaning.specs.Headers.{there}
use Rattle.expr_meaning.specs.Values.{operation_of, size_of, relates, bytes_of, behind4, value, compares}
use Rattle.expr_meaning.specs.Asked.{can_load}
use Rattle.expr_meaning.specs.Holds.{headers}
use Rattle.expr_meaning.specs.Refused.{can_value}
use Rattle.expr_fields.specs.Parts.{parts_of}
use Rattle.expr_lower.specs.declared.operand.Loading.{Loading}
use Rattle.expr_lower.specs.Walks.{Fronts, still}
use Rattle.expr_lower.specs.Operands.{IsConstant, header_of, Loads, LoadsAll, IsMasked, related, relate, turned}
use Rattle.expr_lower.proofs.Walking.{both, adds_parts}

-- numbers alone
pub number_constant : (number : ℕ) → IsConstant (Number number) number
number_constant number = (λ packet place. (refl, refl), λ place. refl)

pub operation_constant : (operator : Operator) (v w : Value) (a b r : Option ℕ) → IfSome a (IsConstant v) → IfSome b (IsConstant w) → r ≡ option_and_then (λ x. option_and_then (λ y. applied (operation_of operator) x y) b) a → IfSome r (IsConstant (Operation operator v w))
operation_constant operator v w a b None ca cb e = tt
operation_constant operator v w None b (Some r) ca cb e = absurd (cc)
operation_constant operator v w (Some x) None (Some r) ca cb e = absurd (cc)
operation_constant operator v w (Some x) (Some y) (Some r) ca cb e = (
  λ packet place.
      let p = ca.0 packet place in
      let q = cb.0 packet place in (
        ap (option_and_then (λ a. option_and_then (applied (operation_of operator) a) (value packet place w))) p.0
            ∙ ap (option_and_then (applied (operation_of operator) x)) q.0
            ∙ sym e,
        ap (λ t. and_then t (answer (headers place w) packet)) p.1 ∙ q.1,
      ),
  λ place. both (can_value v place) (can_value w place) (ca.1 place) (cb.1 place),
)

pub negate_constant : (v : Value) (a : ℕ) (r : ℕ) → IsConstant v a → r ≡ (2 ^ 32 - a) % 2 ^ 32 → IsConstant (Negate v) r
negate_constant v a r c e =
    (λ packet place. let p = c.0 packet place in (ap (option_map (λ a. (2 ^ 32 - a) % 2 ^ 32)) p.0 ∙ ap Some (sym e), p.1), c.1)

-- what IPv4 carries, by the length of its header
short : (first : ℕ) → 4 * (first % 16) ≤ 60
short first = omega arith

past_sum : (payload index h : ℕ) → index < 2 ^ 31 → h ≤ 60 → payload + (h + index) % 2 ^ 32 ≡ h + (payload + index)
past_sum payload index h small low = let e : (h + index) % 2 ^ 32 ≡ h + index = omega arith in rw e (omega arith)

behind_by : (packet : Packet) (size : Size) (payload index : ℕ) (first : Option ℕ) → index < 2 ^ 31 → option_and_then (λ past. number_at packet.bytes size (payload + (past + index) % 2 ^ 32)) (option_map (λ first. 4 * (first % 16)) first) ≡ option_and_then (λ past. number_at packet.bytes size (past + (payload + index))) (option_map (λ first. 4 * (first % 16)) first)
behind_by packet size payload index None small = refl
behind_by packet size payload index (Some first) small = ap (number_at packet.bytes size) (past_sum payload index (4 * (first % 16)) small (short first))

pub behind_is : (packet : Packet) (size : Size) (payload index : ℕ) → index < 2 ^ 31 → behind4 packet payload size index ≡ loaded (Past size payload (payload + index)) packet
behind_is packet size payload index small = behind_by packet size payload index (number_at packet.bytes Byte payload) small

-- one load
twice : (x : Option ℕ) → x ≡ option_map (masked None) x
twice None = refl
twice (Some x) = refl

pub len_loads : (before : Option Place) → LoadsAll Len before (record { load = Length; mask = None; header = None })
len_loads before = (refl, (λ packet place fits. (refl, refl), refl))

pub bytes_load : (known : Place) (protocol : Protocol) (size : calc.Size) (index : ℕ) (load : Load) (v : Value) → ((packet : Packet) → bytes_of packet known.payload (carriage_of protocol) (size_of size) index ≡ loaded load packet) → can_load known.layer protocol ≡ true → IsConstant v index → LoadsAll (Bytes protocol v size) (Some known) (record { load = load; mask = None; header = Some (record { place = known; protocol = protocol }) })
bytes_load known protocol size index load v is can c = (
  refl,
  (
    λ packet place fits.
        let p = c.0 packet place in (
          ap (option_and_then (bytes_of packet place.payload (carriage_of protocol) (size_of size))) p.0
              ∙ ap (λ (q : Place). bytes_of packet q.payload (carriage_of protocol) (size_of size) index) fits
              ∙ is packet
              ∙ twice (loaded load packet),
          ap (λ t. and_then t (answer (there place protocol) packet)) p.1 ∙ ap (λ q. answer (there q protocol) packet) fits,
        ),
    both (can_value v (Some known)) (can_load known.layer protocol) (c.1 (Some known)) can,
  ),
)

-- a number and its mask
none_is_all : (loading : Loading) (packet : Packet) → loading.mask ≡ None → option_map (masked loading.mask) (loaded loading.load packet) ≡ loaded loading.load packet
none_is_all loading packet e = ap (λ m. option_map (masked m) (loaded loading.load packet)) e ∙ sym (twice (loaded loading.load packet))

and_applied : (x : Option ℕ) (mask : ℕ) → option_and_then (λ a. applied (operation_of op.And) a mask) x ≡ option_map (masked (Some mask)) x
and_applied None mask = refl
and_applied (Some x) mask = refl

applied_and : (x : Option ℕ) (mask : ℕ) → option_and_then (applied (operation_of op.And) mask) x ≡ option_map (masked (Some mask)) x
applied_and None mask = refl
applied_and (Some x) mask = ap Some (and_comm mask x)

and_true : (x : Option Bool) → and_then x (Some true) ≡ x
and_true None = refl
and_true (Some true) = refl
and_true (Some false) = refl

pub masked_loads : (v w : Value) (before : Option Place) (loading : Loading) (mask : ℕ) → LoadsAll v before loading → IsConstant w mask → IsMasked v w before (record loading { mask = Some mask })
masked_loads v w before loading mask l c = (
  (
    λ packet place fits.
        let p = l.1.0 packet place fits in
        let q = c.0 packet place in (
          ap (option_and_then (λ a. option_and_then (applied (operation_of op.And) a) (value packet place w))) (p.0 ∙ none_is_all loading packet l.0)
              ∙ ap (λ x. option_and_then (λ a. option_and_then (applied (operation_of op.And) a) x) (loaded loading.load packet)) q.0
              ∙ and_applied (loaded loading.load packet) mask,
          ap (λ t. and_then t (answer (headers place w) packet)) p.1 ∙ ap (and_then (answer (header_of loading.header) packet)) q.1 ∙ and_true (answer (header_of loading.header) packet),
        ),
    both (can_value v before) (can_value w before) l.1.1 (c.1 before),
  ),
  (
    λ packet place fits.
        let p = l.1.0 packet place fits in
        let q = c.0 packet place in (
          ap (option_and_then (λ a. option_and_then (applied (operation_of op.And) a) (value packet place v))) q.0
              ∙ ap (option_and_then (applied (operation_of op.And) mask)) (p.0 ∙ none_is_all loading packet l.0)
              ∙ applied_and (loaded loading.load packet) mask,
          ap (λ t. and_then t (answer (headers place v) packet)) q.1 ∙ p.1,
        ),
    both (can_value w before) (can_value v before) (c.1 before) l.1.1,
  ),
)

-- a load that was found
pub found : {E : Type 0} (result : Result (Option Loading) E) (P Q : Loading → Type 0) → ((loading : Loading) → P loading → Q loading) → IfOk result (λ f. IfSome f P) → IfOk result (λ f. IfSome f Q)
found (Ok (Some loading)) P Q f h = f loading h
found (Ok None) P Q f h = tt
found (Err e) P Q f h = tt

-- how two numbers are related
map_not : (f : ℕ → Bool) (x : Option ℕ) → option_map not (option_map f x) ≡ option_map (λ v. not (f v)) x
map_not f None = refl
map_not f (Some x) = refl

map_same : (f g : ℕ → Bool) (x : Option ℕ) → ((v : ℕ) → f v ≡ g v) → option_map f x ≡ option_map g x
map_same f g None e = refl
map_same f g (Some x) e = ap Some (e x)

not_le : (a k : ℕ) → not (nat_le k a) ≡ nat_lt a k
not_le a k = grind (arith, nat_tests)

not_lt : (a k : ℕ) → not (nat_lt k a) ≡ nat_le a k
not_lt a k = grind (arith, nat_tests)

same_back : (a k : ℕ) → (k == a) ≡ (a == k)
same_back a k = grind (arith, nat_tests)

related_is : (relation : Relation) (load : Load) (mask : Option ℕ) (k : ℕ) (packet : Packet) → answer (related relation load mask k) packet ≡ option_map (λ v. relates relation (masked mask v) k) (loaded load packet)
related_is Equal load mask k packet = refl
related_is NotEqual load mask k packet = map_not (λ v. masked mask v == k) (loaded load packet)
related_is Less load mask k packet = map_not (λ v. nat_le k (masked mask v)) (loaded load packet) ∙ map_same (λ v. not (nat_le k (masked mask v))) (λ v. nat_lt (masked mask v) k) (loaded load packet) (λ v. not_le (masked mask v) k)
related_is Greater load mask k packet = refl
related_is LessEqual load mask k packet = map_not (λ v. nat_lt k (masked mask v)) (loaded load packet) ∙ map_same (λ v. not (nat_lt k (masked mask v))) (λ v. nat_le (masked mask v) k) (loaded load packet) (λ v. not_lt (masked mask v) k)
related_is GreaterEqual load mask k packet = refl

from_the_left : (relation : Relation) (mask : Option ℕ) (k : ℕ) (x : Option ℕ) → option_and_then (λ a. option_map (relates relation a) (Some k)) (option_map (masked mask) x) ≡ option_map (λ v. relates relation (masked mask v) k) x
from_the_left relation mask k None = refl
from_the_left relation mask k (Some x) = refl

back : (relation : Relation) (k a : ℕ) → relates relation k a ≡ relates (turned relation) a k
back Equal k a = same_back a k
back NotEqual k a = ap not (same_back a k)
back Less k a = refl
back Greater k a = refl
back LessEqual k a = refl
back GreaterEqual k a = refl

from_the_right : (relation : Relation) (mask : Option ℕ) (k : ℕ) (x : Option ℕ) → option_map (relates relation k) (option_map (masked mask) x) ≡ option_map (λ v. relates (turned relation) (masked mask v) k) x
from_the_right relation mask k None = refl
from_the_right relation mask k (Some x) = ap Some (back relation k (masked mask x))

-- comparisons
pub loads_lower : (relation : Relation) (v w : Value) (before : Option Place) (loading : Loading) (k : ℕ) (old new : List Part) → Loads v before loading → IsConstant w k → new ≡ old ++ parts_of (relate relation loading k) → Fronts (Compare relation v w) before (still before) old new
loads_lower relation v w before loading k old new l c e = record {
  says = λ place fits results packet.
      let p = l.0 packet place fits in
      let q = c.0 packet place in
      let header = answer (header_of loading.header) packet in
      adds_parts (relate relation loading k) old new e results packet
      ∙ ap (λ t. t ∷ truths_of results packet old)
      (sym
      (ap (λ t. and_then (and_then t (answer (headers place w) packet)) (compares packet place relation v w)) p.1
      ∙ ap (λ t. and_then (and_then header t) (compares packet place relation v w)) q.1
      ∙ ap (λ t. and_then t (compares packet place relation v w)) (and_true header)
      ∙ ap (λ x. and_then header (option_and_then (λ a. option_map (relates relation a) (value packet place w)) x)) p.0
      ∙ ap (λ x. and_then header (option_and_then (λ a. option_map (relates relation a) x) (option_map (masked loading.mask) (loaded loading.load packet)))) q.0
      ∙ ap (and_then header) (from_the_left relation loading.mask k (loaded loading.load packet) ∙ sym (related_is relation loading.load loading.mask k packet))));
  place = refl;
  tag = refl;
  can_be = both (can_value v before) (can_value w before) l.1 (c.1 before);
}

pub turned_lower : (relation : Relation) (v w : Value) (before : Option Place) (loading : Loading) (k : ℕ) (old new : List Part) → IsConstant v k → Loads w before loading → new ≡ old ++ parts_of (relate (turned relation) loading k) → Fronts (Compare relation v w) before (still before) old new
turned_lower relation v w before loading k old new c l e = record {
  says = λ place fits results packet.
      let p = c.0 packet place in
      let q = l.0 packet place fits in
      let header = answer (header_of loading.header) packet in
      adds_parts (relate (turned relation) loading k) old new e results packet
      ∙ ap (λ t. t ∷ truths_of results packet old)
      (sym
      (ap (λ t. and_then (and_then t (answer (headers place w) packet)) (compares packet place relation v w)) p.1
      ∙ ap (λ t. and_then t (compares packet place relation v w)) q.1
      ∙ ap (λ x. and_then header (option_and_then (λ a. option_map (relates relation a) (value packet place w)) x)) p.0
      ∙ ap (λ x. and_then header (option_map (relates relation k) x)) q.0
      ∙ ap (and_then header) (from_the_right relation loading.mask k (loaded loading.load packet) ∙ sym (related_is (turned relation) loading.load loading.mask k packet))));
  place = refl;
  tag = refl;
  can_be = both (can_value v before) (can_value w before) (c.1 before) l.1;
}

known_is : (b : Bool) (packet : Packet) → answer (known b) packet ≡ Some b
known_is true packet = refl
known_is false packet = refl

pub known_lower : (relation : Relation) (v w : Value) (before : Option Place) (a b : ℕ) (old new : List Part) → IsConstant v a → IsConstant w b → new ≡ old ++ parts_of (known (relates relation a b)) → Fronts (Compare relation v w) before (still before) old new
known_lower relation v w before a b old new c d e = record {
  says = λ place fits results packet.
      let p = c.0 packet place in
      let q = d.0 packet place in
      adds_parts (known (relates relation a b)) old new e results packet
      ∙ ap (λ t. t ∷ truths_of results packet old)
      (known_is (relates relation a b) packet
      ∙ sym
      (ap (λ t. and_then (and_then t (answer (headers place w) packet)) (compares packet place relation v w)) p.1
      ∙ ap (λ t. and_then t (compares packet place relation v w)) q.1
      ∙ ap (option_and_then (λ x. option_map (relates relation x) (value packet place w))) p.0
      ∙ ap (option_map (relates relation a)) q.0));
  place = refl;
  tag = refl;
  can_be = both (can_value v before) (can_value w before) (c.1 before) (d.1 before);
}
