use Rattle.std.proofs.Common.{◌≡◌}
use Rattle.yard.specs.Engaged.{byte_of}
use Rattle.yard.proofs.bits.engaged_byte.Given as goal

abbrev pub invariant-loop-k : goal.invariant-loop-k
invariant-loop-k l = l.byte ≡ byte_of l.k l.fn.devices
