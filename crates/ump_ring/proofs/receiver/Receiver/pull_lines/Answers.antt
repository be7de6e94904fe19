use Rattle.std.proofs.Common.{◌≡◌, ◌+◌, ◌<◌, ◌≤◌, ◌++◌, ◌∷◌, [], ℕ, List, None, Some, length, length-append, arith, ap, sym, ◌∙◌, rules}
use Rattle.std.proofs.lemmas.Result.{err_from_is_err_and}
use mathlib.Core.List.{IsPrefix}
use Rattle.rtrb.specs.Ring.{received, known_items}
use Rattle.ump_ring.specs.Receivers.{messages_taken, messages_of}
use Rattle.ump_ring.specs.declared.fault.LineFault.{LineFault}
use Rattle.ump_ring.specs.declared.joiner.Joiner.{Joiner}
use Rattle.ump_ring.specs.Receiving.{IsReceiving}
use Rattle.ump_ring.specs.Joiners.{fault_of, number_next, size_begun, bytes_come}
use Rattle.ump_ring.specs.Reading.{sound_lines, line_fault, StopsAt}
use Rattle.ump_ring.specs.Lines.{messages_in}
use Rattle.ump_ring.proofs.Prefixes.{prefix-more}
use Rattle.ump_ring.proofs.Receiving.{pulled, after-lines}
use Rattle.ump_ring.proofs.Rows.{row_more}
use Rattle.ump_ring.proofs.receiver.Receiver.pull_lines.Goals as goal

-- a line that is received was known, or is one more
known_more : (before after known left : List (List ℕ)) (line : List ℕ) (m n : ℕ) → m + n ≤ length before + length known → after ≡ before ++ line ∷ [] → IsPrefix known (line ∷ left) → m + n ≤ length after + length left
known_more before after known left line m n le e p = omega (arith, le, ap length e, length-append before (line ∷ []), ap length p.1, length-append known p.0)

-- with one line more the list is longer than any prefix
longer : (before between after : List (List ℕ)) (line : List ℕ) → IsPrefix before between → after ≡ between ++ line ∷ [] → length before < length after
longer before between after line p e = omega (arith, ap length e, length-append between (line ∷ []), ap length p.1, length-append before p.0)

pub invariant_of-self-then-branch : goal.invariant_of-self-then-branch
invariant_of-self-then-branch c = record {
  receiving = (pulled c.loop.self.joiner c.line.new.self (received c.loop.self.consumer) (received c.pop.new.self) c.in-Ok.line c.in_ok-line.field-0 c.loop.self.kept (messages_taken c.args.self.now)
      c.loop.invariant.sound c.loop.self.receiving c.in-Ok.ensures.ok.0 c.in_ok-line.ensures.read c.in_ok-line.ensures.ok.1 c.loop.invariant.none_kept c.loop.invariant.taken).0;
  keeps = λ e. c.in_ok-line.ensures.ok.1.0 c.if-branch.true;
}

pub returns-then-branch-clause-taken : goal.returns-then-branch-clause-taken
returns-then-branch-clause-taken c =
    ap (λ k. messages_of k (messages_in (sound_lines c.line.new.self.fault (received c.pop.new.self)))) (sym c.if-branch.true)
    ∙ (pulled c.loop.self.joiner c.line.new.self (received c.loop.self.consumer) (received c.pop.new.self) c.in-Ok.line c.in_ok-line.field-0 c.loop.self.kept (messages_taken c.args.self.now)
    c.loop.invariant.sound c.loop.self.receiving c.in-Ok.ensures.ok.0 c.in_ok-line.ensures.read c.in_ok-line.ensures.ok.1 c.loop.invariant.none_kept c.loop.invariant.taken).1

pub invariant_of-self-else-branch : goal.invariant_of-self-else-branch
invariant_of-self-else-branch c = record {
  receiving = (pulled c.loop.self.joiner c.line.new.self (received c.loop.self.consumer) (received c.pop.new.self) c.in-Ok.line c.in_ok-line.field-0 c.loop.self.kept (messages_taken c.args.self.now)
      c.loop.invariant.sound c.loop.self.receiving c.in-Ok.ensures.ok.0 c.in_ok-line.ensures.read c.in_ok-line.ensures.ok.1 c.loop.invariant.none_kept c.loop.invariant.taken).0;
  keeps = λ e. let f = c.loop.invariant.none_kept in absurd (cc (e, f));
}

pub loop-preserved : goal.loop-preserved
loop-preserved c = record {
  ring = search rules;
  known = known_more (received c.loop.self.consumer) (received c.pop.new.self) (known_items c.loop.self.consumer) (known_items c.pop.new.self) c.in-Ok.line _ _ c.loop.invariant.known c.in-Ok.ensures.ok.0 c.in-Ok.ensures.ok.1;
  lines = prefix-more _ _ _ _ c.loop.invariant.lines c.in-Ok.ensures.ok.0;
  none_before = c.loop.invariant.none_before;
  many = λ some. row_more c.loop.self.joiner c.line.new.self c.in-Ok.line c.loop.counter c.in_ok-line.field-0 (search rules) c.loop.invariant.sound c.in_ok-line.ensures.rule c.in_ok-line.ensures.ok.0 c.in_ok-line.ensures.ok.1 c.if-branch.false c.line.new.self.filled c.loop.invariant.many;
  taken = ap (λ k. messages_of k (messages_in (sound_lines c.line.new.self.fault (received c.pop.new.self)))) (c.loop.invariant.none_kept ∙ sym c.if-branch.false)
      ∙ (pulled c.loop.self.joiner c.line.new.self (received c.loop.self.consumer) (received c.pop.new.self) c.in-Ok.line c.in_ok-line.field-0 c.loop.self.kept (messages_taken c.args.self.now)
      c.loop.invariant.sound c.loop.self.receiving c.in-Ok.ensures.ok.0 c.in_ok-line.ensures.read c.in_ok-line.ensures.ok.1 c.loop.invariant.none_kept c.loop.invariant.taken).1;
  sound = search rules;
  none_kept = search rules;
  still = λ e. absurd cc;
  moved = λ _. longer _ _ _ _ c.loop.invariant.lines c.in-Ok.ensures.ok.0;
}

pub returns-in_err-line-clause-lines : goal.returns-in_err-line-clause-lines
returns-in_err-line-clause-lines c = prefix-more _ _ _ _ c.loop.invariant.lines c.in-Ok.ensures.ok.0

pub returns-then-branch-clause-lines : goal.returns-then-branch-clause-lines
returns-then-branch-clause-lines c = prefix-more _ _ _ _ c.loop.invariant.lines c.in-Ok.ensures.ok.0

pub returns-in_err-line-clause-known : goal.returns-in_err-line-clause-known
returns-in_err-line-clause-known c = known_more (received c.loop.self.consumer) (received c.pop.new.self) (known_items c.loop.self.consumer) (known_items c.pop.new.self) c.in-Ok.line _ _ c.loop.invariant.known c.in-Ok.ensures.ok.0 c.in-Ok.ensures.ok.1

pub returns-then-branch-clause-known : goal.returns-then-branch-clause-known
returns-then-branch-clause-known c = known_more (received c.loop.self.consumer) (received c.pop.new.self) (known_items c.loop.self.consumer) (known_items c.pop.new.self) c.in-Ok.line _ _ c.loop.invariant.known c.in-Ok.ensures.ok.0 c.in-Ok.ensures.ok.1

pub returns-in_err-line-clause-moved : goal.returns-in_err-line-clause-moved
returns-in_err-line-clause-moved c = λ _. longer _ _ _ _ c.loop.invariant.lines c.in-Ok.ensures.ok.0

pub returns-then-branch-clause-moved : goal.returns-then-branch-clause-moved
returns-then-branch-clause-moved c = λ _. longer _ _ _ _ c.loop.invariant.lines c.in-Ok.ensures.ok.0

-- the joiner has read the lines before this one, at which it stops
stops : (before after : Joiner) (lines now : List (List ℕ)) (line : List ℕ) (fault : LineFault) → IsReceiving before lines → fault_of before ≡ None → now ≡ lines ++ line ∷ []
    → fault_of after ≡ line_fault (number_next before) (size_begun before) (bytes_come before) line → fault_of after ≡ Some fault → StopsAt fault now
stops before after lines now line fault is none split rule err = record {
  before = lines;
  line = line;
  number = before.number;
  size = before.size;
  bytes = before.bytes.items;
  split = split;
  read = (after-lines before lines none is).read;
  faulty = sym rule ∙ err;
}

pub returns-in_err-line-clause-err : goal.returns-in_err-line-clause-err
returns-in_err-line-clause-err c =
    let err = c.in_err-line.ensures.err.0 in
    let p = err_from_is_err_and c.from_residual.result c.from_residual.ensures.1 in
    rw (p.1, p.2) (err, stops c.loop.self.joiner c.line.new.self _ _ c.in-Ok.line _ c.loop.self.receiving c.loop.invariant.sound c.in-Ok.ensures.ok.0 (c.in_err-line.ensures.rule c.loop.invariant.sound) err)
