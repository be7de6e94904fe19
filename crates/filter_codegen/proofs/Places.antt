-- What graphs say at their places.
use Rattle.std.proofs.Common.{◌≡◌, ℕ, zero, suc, ◌+◌, ◌-◌, ◌<◌, ◌≤◌, if◌then◌else◌, Bool, true, false, Option, Some, None, List, [], ◌∷◌, ◌++◌, length, get_or, refl, sym, ap, ◌∙◌, subst, arith, append_assoc, length-append}
use Rattle.std.specs.Prelude.{reverse}
use Rattle.std.proofs.lemmas.Bool.{ne_eqb, eq-eqb}
use Rattle.std.proofs.lemmas.List.{get_or-reverse, length-reverse}
use Rattle.bpf_insn.specs.Machine.{Packet}
use Rattle.filter_codegen.specs.declared.graph.Node.{Node}
use Rattle.filter_cond.specs.Means.{tested}
use Rattle.filter_codegen.specs.Graphs.{answer, value, node_at, IsForward, Extends, Adds}

module _ (packet : Packet) (accept : ℕ) where
  -- a later node changes nothing at earlier places
  value_later : (node : Node) (nodes : List Node) (place : ℕ) → place < length nodes + 2 → value packet accept (node ∷ nodes) place ≡ value packet accept nodes place
  value_later node nodes place below =
      ap (λ b. if b then answer (tested node.check packet) (value packet accept nodes node.pass) (value packet accept nodes node.fail) else value packet accept nodes place)
      (ne_eqb place (length nodes + 2) (λ e. absurd (omega arith)))

  -- what it says at its own place
  pub value_here : (node : Node) (nodes : List Node) (place : ℕ) → place ≡ length nodes + 2 → value packet accept (node ∷ nodes) place ≡ answer (tested node.check packet) (value packet accept nodes node.pass) (value packet accept nodes node.fail)
  value_here node nodes place e =
      ap (λ b. if b then answer (tested node.check packet) (value packet accept nodes node.pass) (value packet accept nodes node.fail) else value packet accept nodes place)
      (eq-eqb place (length nodes + 2) e)

  pub value_more : (front nodes : List Node) (place : ℕ) → place < length nodes + 2 → value packet accept (front ++ nodes) place ≡ value packet accept nodes place
  value_more [] nodes place below = refl
  value_more (node ∷ front) nodes place below = value_later node (front ++ nodes) place (omega (arith, length-append front nodes)) ∙ value_more front nodes place below

  pub value_extends : (old new : List Node) (most place : ℕ) → Extends old new most → place < length old + 2 → value packet accept new place ≡ value packet accept old place
  value_extends old new most place e below = ap (λ g. value packet accept g place) e.whole ∙ value_more e.front old place below

  -- what the node at a place says
  pub node_says : (nodes : List Node) → IsForward nodes → (k place : ℕ) (d : Node) → k < length nodes → place + k ≡ length nodes + 1 → (let node = get_or nodes k d in (node.pass < place) × (node.fail < place) × (value packet accept nodes place ≡ answer (tested node.check packet) (value packet accept nodes node.pass) (value packet accept nodes node.fail)))
  node_says [] forward k place d inside counted = absurd (omega arith)
  node_says (n ∷ rest) forward zero place d inside counted =
      let at : place ≡ length rest + 2 = omega arith in
      let p = forward.0 in let q = forward.1 in (
        omega arith,
        omega arith,
        value_here n rest place at
            ∙ ap (λ v. answer (tested n.check packet) v (value packet accept rest n.fail)) (sym (value_later n rest n.pass p))
            ∙ ap (λ v. answer (tested n.check packet) (value packet accept (n ∷ rest) n.pass) v) (sym (value_later n rest n.fail q)),
      )
  node_says (n ∷ rest) forward (suc k) place d inside counted =
      let w = node_says rest forward.2 k place d (omega arith) (omega arith) in
      let p = w.0 in let q = w.1 in
      let m = get_or rest k d in (
        w.0,
        w.1,
        value_later n rest place (omega arith)
            ∙ w.2
            ∙ ap (λ v. answer (tested m.check packet) v (value packet accept rest m.fail)) (sym (value_later n rest m.pass (omega arith)))
            ∙ ap (λ v. answer (tested m.check packet) (value packet accept (n ∷ rest) m.pass) v) (sym (value_later n rest m.fail (omega arith))),
      )

  -- what the node says that a graph keeps at a place
  pub got_says : (items graph : List Node) (place : ℕ) (node : Node) → reverse items ≡ graph → IsForward (reverse items) → 2 ≤ place → place < length graph + 2 → node ≡ get_or items (place - 2) node → (node.pass < place) × (node.fail < place) × (value packet accept graph place ≡ answer (tested node.check packet) (value packet accept graph node.pass) (value packet accept graph node.fail))
  got_says items graph place node seen forward test inside got =
      let len = length-reverse items in
      let same = ap length seen in
      let k = length items - 1 - (place - 2) in
      let back : length items - 1 - k ≡ place - 2 = omega arith in
      let e : get_or (reverse items) k node ≡ node = get_or-reverse items k node (omega arith) ∙ ap (λ i. get_or items i node) back ∙ sym got in
      let w = node_says (reverse items) forward k place node (omega arith) (omega arith) in
      let u = subst (λ (n : Node). (n.pass < place) × (n.fail < place) × (value packet accept (reverse items) place ≡ answer (tested n.check packet) (value packet accept (reverse items) n.pass) (value packet accept (reverse items) n.fail))) e w in
      subst (λ (g : List Node). (node.pass < place) × (node.fail < place) × (value packet accept g place ≡ answer (tested node.check packet) (value packet accept g node.pass) (value packet accept g node.fail))) seen u

  -- place 0 rejects
  pub value_zero : (graph : List Node) → value packet accept graph 0 ≡ 0
  value_zero [] = refl
  value_zero (node ∷ nodes) = value_later node nodes 0 (omega arith) ∙ value_zero nodes

  -- and place 1 accepts
  pub value_one : (graph : List Node) → value packet accept graph 1 ≡ accept
  value_one [] = refl
  value_one (node ∷ nodes) = value_later node nodes 1 (omega arith) ∙ value_one nodes

-- graphs that grow
pub extends_none : (graph : List Node) → Extends graph graph 0
extends_none graph = record { front = []; whole = refl; few = omega arith }

pub extends_one : (node : Node) (graph : List Node) → Extends graph (node ∷ graph) 1
extends_one node graph = record { front = node ∷ []; whole = refl; few = omega arith }

pub extends_both : (old mid new : List Node) (m n : ℕ) → Extends old mid m → Extends mid new n → Extends old new (m + n)
extends_both old mid new m n a b = record {
  front = b.front ++ a.front;
  whole = b.whole ∙ ap (λ l. b.front ++ l) a.whole ∙ sym (append_assoc b.front a.front old);
  few = let e = length-append b.front a.front in let p = a.few in let q = b.few in omega arith;
}

pub extends_fewer : (old new : List Node) (m n : ℕ) → m ≤ n → Extends old new m → Extends old new n
extends_fewer old new m n le a = record { front = a.front; whole = a.whole; few = let p = a.few in omega arith }

pub extends_length : (old new : List Node) (m : ℕ) → Extends old new m → (length old ≤ length new) × (length new ≤ length old + m)
extends_length old new m a =
    let e = ap length a.whole ∙ length-append a.front old in
    let p = a.few in
    (omega arith, omega arith)

-- the node that a graph keeps at a place
node_later : (nodes : List Node) (k place : ℕ) (d : Node) → k < length nodes → place + k ≡ length nodes + 1 → node_at nodes place ≡ Some (get_or nodes k d)
node_later [] k place d inside counted = absurd (omega arith)
node_later (n ∷ rest) zero place d inside counted =
    ap (λ b. if b then Some n else node_at rest place) (eq-eqb place (length rest + 2) (omega arith))
node_later (n ∷ rest) (suc k) place d inside counted =
    ap (λ b. if b then Some n else node_at rest place) (ne_eqb place (length rest + 2) (λ e. absurd (omega arith)))
    ∙ node_later rest k place d (omega arith) (omega arith)

pub got_at : (items graph : List Node) (place : ℕ) (node : Node) → reverse items ≡ graph → 2 ≤ place → place < length graph + 2 → node ≡ get_or items (place - 2) node → node_at graph place ≡ Some node
got_at items graph place node seen test inside got =
    let len = length-reverse items in
    let same = ap length seen in
    let k = length items - 1 - (place - 2) in
    let back : length items - 1 - k ≡ place - 2 = omega arith in
    let e : get_or (reverse items) k node ≡ node = get_or-reverse items k node (omega arith) ∙ ap (λ i. get_or items i node) back ∙ sym got in
    ap (λ g. node_at g place) (sym seen) ∙ node_later (reverse items) k place node (omega arith) (omega arith) ∙ ap Some e

-- a graph that has the node already, or has it now
pub adds_known : (graph : List Node) (node : Node) (place : ℕ) → place < length graph + 2 → ((packet : Packet) (accept : ℕ) → value packet accept graph place ≡ answer (tested node.check packet) (value packet accept graph node.pass) (value packet accept graph node.fail)) → Adds node graph graph place
adds_known graph node place inside says = record { extends = extends_fewer graph graph 0 1 (omega arith) (extends_none graph); inside = inside; says = says }

answer_same : (o : Option Bool) (w : ℕ) → w ≡ 0 → answer o w w ≡ 0
answer_same None w e = refl
answer_same (Some true) w e = e
answer_same (Some false) w e = e

pub adds_reject : (graph : List Node) (node : Node) → node.pass ≡ 0 → node.fail ≡ 0 → Adds node graph graph 0
adds_reject graph node p f = adds_known graph node 0 (omega arith) (λ packet accept.
    let zero = value_zero packet accept graph in
    zero ∙ sym (answer_same (tested node.check packet) (value packet accept graph 0) zero)
    ∙ ap (λ n. answer (tested node.check packet) (value packet accept graph n) (value packet accept graph 0)) (sym p)
    ∙ ap (λ n. answer (tested node.check packet) (value packet accept graph node.pass) (value packet accept graph n)) (sym f))

pub adds_push : (old new : List Node) (node : Node) (place : ℕ) → new ≡ node ∷ old → place ≡ length old + 2 → Adds node old new place
adds_push old new node place made at = subst (λ g. Adds node old g place) (sym made) (record {
  extends = extends_one node old;
  inside = omega arith;
  says = λ packet accept. value_here packet accept node old place at;
})
