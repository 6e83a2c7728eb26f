use Rattle.std.proofs.Common.{◌≤◌, length}
use Rattle.case_input.proofs.fill.Given as goal

-- What is read lies within the buffer.
abbrev pub invariant-loop : goal.invariant-loop
invariant-loop g l = l.done ≤ length l.buffer
