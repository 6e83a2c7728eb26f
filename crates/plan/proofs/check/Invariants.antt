use Rattle.std.proofs.Common.{◌≡◌}
use Rattle.plan.proofs.Least.{lowest_of, refusal_at}
use Rattle.plan.proofs.Verdict.{found}
use Rattle.plan.proofs.check.Given as goal

abbrev pub invariant-loop-k : goal.invariant-loop-k
invariant-loop-k l = refusal_at l.line l.at ≡ lowest_of (found l.fn.p l.yardstick.ls) l.k
