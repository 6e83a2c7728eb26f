use Rattle.std.proofs.Common.{take}
use Rattle.text.specs.Lays.{Lays}
use Rattle.text.proofs.Pen.word.Given as goal

abbrev pub invariant-loop-b : goal.invariant-loop-b
invariant-loop-b l = Lays l.initial.self (take l.b-index l.text) l.self
