use Rattle.std.proofs.Common.{◌+◌}
use Rattle.laws.specs.Written.{Written}
use Rattle.layout_rules.specs.Bytes.{devices_bytes, device_start}
use Rattle.layout.proofs.yard.put_devices.Given as goal

abbrev pub invariant-loop-k : goal.invariant-loop-k
invariant-loop-k l =
    Written l.initial.out (device_start 1) (devices_bytes l.devices l.k) l.out (device_start (l.k + 1))
