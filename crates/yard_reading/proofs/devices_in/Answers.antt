use Rattle.std.proofs.Common.{◌≡◌, sym, ◌∙◌, arith}
use Rattle.laws.specs.Lists.{tabulate}
use Rattle.laws.proofs.Lists.{swept_none, swept_next, swept_all}
use Rattle.rules.specs.Yard.{fresh_device}
use Rattle.layout_rules.specs.Reading.{device_in}
use Rattle.yard_reading.proofs.devices_in.Goals as goal

pub loop-k-init : goal.loop-k-init
unfolding tabulate
loop-k-init c = c.fresh_devices-devices.ensures ∙ sym (swept_none (device_in c.args.bytes.now) (λ i. fresh_device) 8)

pub loop-k-preserved : goal.loop-k-preserved
loop-k-preserved c =
    let one = c.device_in in
    let next =
    swept_next (device_in c.args.bytes.now) (λ i. fresh_device) 8 c.loop-k.k one.result fresh_device (omega arith) one.ensures in
    rw (c.loop-k.invariant, c.from.ensures) next

pub returns : goal.returns
returns c =
    let all : c.loop-k.k ≡ 8 = omega arith in
    rw all at c.loop-k.invariant ∙ swept_all (device_in c.args.bytes.now) (λ i. fresh_device) 8
