use Rattle.std.proofs.Common.{arith}
use Rattle.state.proofs.Devices.{broken}
use Rattle.state.proofs.well_formed.Goals as goal

pub returns-then-not-device_formed : goal.returns-then-not-device_formed
returns-then-not-device_formed c =
    let formed = c.device_formed in
    broken c.args.p c.args.y c.loop-k.k formed.result formed.ensures (omega arith) c.if-not-device_formed.true
