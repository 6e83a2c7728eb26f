use Rattle.std.proofs.Common.{arith}
use Rattle.laws.proofs.Writes.{no_piece, next_member, as_end}
use Rattle.rules.specs.Yard.{fresh_device}
use Rattle.layout_rules.specs.Bytes.{device_bytes}
use Rattle.layout.proofs.yard.put_devices.Goals as goal

pub loop-k-init : goal.loop-k-init
loop-k-init c = no_piece _ _ _

pub loop-k-preserved : goal.loop-k-preserved
loop-k-preserved c =
    let one = rw c.from.ensures at c.put_device.ensures in
    as_end _ (next_member device_bytes c.args.devices fresh_device c.loop-k.k c.loop-k.invariant one) (omega arith)
