use Rattle.commands.proofs.performing.perform_match.Goals as goal

pub returns-then-stream-clause-shown : goal.returns-then-stream-clause-shown
returns-then-stream-clause-shown g c = rw c.if-stream.true (rw c.as_bytes.ensures.value at c.run_stream.ensures.shown)

pub returns-else-stream-clause-shown : goal.returns-else-stream-clause-shown
returns-else-stream-clause-shown g c = rw c.if-stream.false (rw c.as_bytes-else-stream.ensures.value at c.run_match.ensures.shown)
