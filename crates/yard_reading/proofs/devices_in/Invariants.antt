use Rattle.std.proofs.Common.{◌≡◌}
use Rattle.laws.specs.Lists.{swept}
use Rattle.rules.specs.Yard.{fresh_device}
use Rattle.layout_rules.specs.Reading.{device_in}
use Rattle.yard_reading.proofs.devices_in.Given as goal

abbrev pub invariant-loop-k : goal.invariant-loop-k
invariant-loop-k l = l.devices ≡ swept (device_in l.bytes) (λ i. fresh_device) l.k 8
