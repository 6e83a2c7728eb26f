use Rattle.std.proofs.Common.{◌+◌, take}
use Rattle.laws.specs.Written.{Written}
use Rattle.numbers.proofs.write.put_bytes.Given as goal

abbrev pub invariant-loop-k : goal.invariant-loop-k
invariant-loop-k g l = Written l.initial.out l.at (take l.k l.bytes) l.out (l.at + l.k)
