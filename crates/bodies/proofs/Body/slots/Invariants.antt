use Rattle.std.proofs.Common.{◌≡◌}
use Rattle.planfile_rules.specs.File.{slots_in}
use Rattle.bodies.proofs.Body.slots.Given as goal

abbrev pub invariant-loop-k : goal.invariant-loop-k
invariant-loop-k l = l.slots ≡ slots_in l.k l.self.bytes.now
