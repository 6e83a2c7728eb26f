use Rattle.std.proofs.Common.{◌+◌, List, arith}
use Rattle.rules.specs.declared.Device.{Device}
use Rattle.yard.proofs.Bytes.{byte_small, byte_next}
use Rattle.yard.proofs.bits.engaged_byte.Goals as goal

pub overflow_add-byte : goal.overflow_add-byte
overflow_add-byte c =
    let here = c.loop-k in
    let ds : List Device = c.args.devices in
    let next = byte_next ds c.args.n here.k c.loop-k-test.true in
    omega (arith, here.invariant, c.engaged_bit-byte.ensures, next.1, byte_small ds (here.k + 1) (omega (arith, next.0)))
