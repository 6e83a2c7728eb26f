use Rattle.std.proofs.Common.{◌≡◌, true}
use Rattle.state.proofs.Devices.{formed_to}
use Rattle.state.proofs.well_formed.Given as goal

abbrev pub invariant-loop-k : goal.invariant-loop-k
invariant-loop-k l = formed_to l.p l.d-items l.k ≡ true
