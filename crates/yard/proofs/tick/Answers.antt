use Rattle.std.proofs.Common.{arith, sym, ◌∙◌}
use Rattle.yard.proofs.Answers.{tick_taken, tick_refused, tick_accepted}
use Rattle.yard.proofs.tick.Goals as goal

pub returns-in_default : goal.returns-in_default
returns-in_default c =
    let a = c.args in
    tick_refused a.p a.y a.r _ c.tick_verdict-verdict.ensures _ c.in_default.is

pub roll_on-s-requires : goal.roll_on-s-requires
roll_on-s-requires c =
    let a = c.args in
    record {
      sound = tick_taken a.p a.y a.r (sym c.tick_verdict-verdict.ensures ∙ c.in-Ok.is);
      ticks_in_bounds = omega arith;
    }

pub returns : goal.returns
returns c =
    let a = c.args in
    let s = c.roll_on-s.ensures.yard_after in
    tick_accepted a.p a.y a.r _ c.tick_verdict-verdict.ensures c.in-Ok.is _ _ s.0 s.1
