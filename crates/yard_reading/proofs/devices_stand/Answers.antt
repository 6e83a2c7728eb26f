use Rattle.std.proofs.Common.{add-one, refl}
use Rattle.laws.specs.Tests.{each}
use Rattle.yard_reading.proofs.devices_stand.Goals as goal

pub loop-k-init : goal.loop-k-init
unfolding each
loop-k-init c = refl

pub loop-k-preserved : goal.loop-k-preserved
unfolding each
loop-k-preserved c = rw (c.loop-k.invariant, c.device_stands-all.ensures, add-one c.loop-k.k)
