use Rattle.std.proofs.Common.{◌*◌, ◌≡◌}
use Rattle.times.proofs.Rows.{row_to}
use Rattle.times.proofs.row_of.Given as goal

abbrev pub invariant-loop-k : goal.invariant-loop-k
invariant-loop-k l = l.row ≡ row_to l.q l.fn.slots (6 * l.k)
