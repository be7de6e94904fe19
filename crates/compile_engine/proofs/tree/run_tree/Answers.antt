use Rattle.compile_engine.proofs.tree.run_tree.Goals as goal

pub returns-clause-shown : goal.returns-clause-shown
returns-clause-shown g c = (
  c.in_ok-shown.shown.text.items,
  rw c.as_slice.ensures.value at c.in_ok-write_bytes.ensures.written,
  rw (c.as_bytes.ensures.value, c.in_ok-text.ensures) at c.in_ok-shown.ensures,
)
