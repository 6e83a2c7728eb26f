use Rattle.std.proofs.Common.{arith, sym, ◌∙◌}
use Rattle.plan.proofs.Least.{starts, one_lower, one_not_lower}
use Rattle.plan.proofs.Verdict.{found, ends_accepted, ends_refused}
use Rattle.plan.proofs.check.Goals as goal
use Rattle.plan.proofs.check.Goals.{then-lower, else-lower}

pub loop-k-init : goal.loop-k-init
unfolding found
loop-k-init c = starts (found c.args.p c.lease_length.result) _ c.yard_line-line.ensures

pub loop-k-preserved : goal.loop-k-preserved
unfolding found
loop-k-preserved c =
    let f = found c.args.p c.lease_length.result in
    let found_is = rw c.place_after.ensures.same at c.slot_line-found.ensures in
    elim c.if-lower.branch [
      | then-lower w ↦
          rw (w.line-is, w.at-is)
          (one_lower f c.loop-k.k c.loop-k.at _ _ c.loop-k.invariant found_is (sym c.lower.ensures ∙ w.if-lower.true))
      | else-lower w ↦
          rw (w.line-is, w.at-is)
          (one_not_lower f c.loop-k.k c.loop-k.at _ _ c.loop-k.invariant found_is (sym c.lower.ensures ∙ w.if-lower.false))
    ]

pub returns-in-None : goal.returns-in-None
returns-in-None c =
    ends_accepted c.args.p c.lease_length.result c.loop-k.k c.lease_length.ensures (omega arith) _ _ c.loop-k.invariant c.in-None.is

pub returns-in-Some : goal.returns-in-Some
returns-in-Some c =
    ends_refused c.args.p c.lease_length.result c.loop-k.k c.lease_length.ensures (omega arith) _ _ _ c.loop-k.invariant c.in-Some.is
