use Rattle.std.proofs.Common.{◌≡◌}
use Rattle.laws.specs.Tests.{each}
use Rattle.layout_rules.specs.Reading.{device_stands}
use Rattle.yard_reading.proofs.devices_stand.Given as goal

abbrev pub invariant-loop-k : goal.invariant-loop-k
invariant-loop-k l = l.all ≡ each (device_stands l.bytes) l.k
