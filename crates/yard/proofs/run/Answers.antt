use Rattle.std.proofs.Common.{ℕ, List}
use Rattle.rules.specs.declared.Plan.{Plan}
use Rattle.rules.specs.declared.Yard.{Yard}
use Rattle.yard.proofs.Answers.{run_refused, run_taken, run_accepted, run_keeps}
use Rattle.yard.proofs.run.Goals as goal

pub returns-in_default : goal.returns-in_default
returns-in_default c =
    let a = c.args in
    let p : Plan = a.p in
    let y : Yard = a.y in
    let roll : List ℕ = a.roll.now in
    let buffer : List ℕ = a.engaged.now in
    let e = run_refused p y roll a.budget buffer _ c.ticks_to_do-ticks.ensures _ c.run_verdict-verdict.ensures _ c.in_default.is in
    record { value = e.0; engaged_after = e.1; kept = run_keeps p y roll a.budget buffer _ _ e.0 e.1 }

pub roll_on-s-requires : goal.roll_on-s-requires
roll_on-s-requires c =
    let a = c.args in
    let p : Plan = a.p in
    let y : Yard = a.y in
    let roll : List ℕ = a.roll.now in
    let buffer : List ℕ = a.engaged.now in
    let e = run_taken p y roll a.budget buffer _ c.ticks_to_do-ticks.ensures _ c.run_verdict-verdict.ensures c.in-Ok.is in
    record { sound = (e.0, e.1); ticks_in_bounds = e.2 }

pub returns : goal.returns
returns c =
    let a = c.args in
    let p : Plan = a.p in
    let y : Yard = a.y in
    let roll : List ℕ = a.roll.now in
    let buffer : List ℕ = a.engaged.now in
    let s = c.roll_on-s.ensures in
    let e = run_accepted p y roll a.budget buffer _ c.ticks_to_do-ticks.ensures _ c.run_verdict-verdict.ensures c.in-Ok.is _ _ s.yard_after.0 s.engaged_after in
    record { value = e.0; engaged_after = e.1; kept = run_keeps p y roll a.budget buffer _ _ e.0 e.1 }
