use Rattle.std.proofs.Common.{ℕ, ◌-◌, ◌≡◌, sym, ◌∙◌, ap, true, false, not, List, arith, below_more}
use Rattle.laws.proofs.Tests.{lowest_is, lowest_is_none}
use Rattle.rules.specs.declared.Plan.{Plan}
use Rattle.rules.specs.Run.{records}
use Rattle.rolls.specs.Bounds.{Bound}
use Rattle.rolls.proofs.first_bad.Invariants.{bad}
use Rattle.rolls.proofs.first_bad.Goals as goal

pub returns-then-not-within : goal.returns-then-not-within
returns-then-not-within c =
    let p : Plan = c.args.p in
    let roll : List ℕ = c.args.roll.now in
    let willing : Bound (p.N - 1) c.bound-willing.result = rw c.saturating_sub.ensures at c.bound-willing.ensures in
    let k : ℕ = c.loop-k.k in
    let here : bad p roll k ≡ true =
    ap not (sym (rw c.record_at.ensures at (c.within.ensures p willing c.bound-lost.ensures)) ∙ c.if-not-within.true) in
    sym (lowest_is (bad p roll) (records roll) k (omega arith) here c.loop-k.invariant)

pub loop-k-preserved : goal.loop-k-preserved
loop-k-preserved c =
    let p : Plan = c.args.p in
    let roll : List ℕ = c.args.roll.now in
    let willing : Bound (p.N - 1) c.bound-willing.result = rw c.saturating_sub.ensures at c.bound-willing.ensures in
    let here : bad p roll c.loop-k.k ≡ false =
    ap not (sym (rw c.record_at.ensures at (c.within.ensures p willing c.bound-lost.ensures)) ∙ c.if-not-within.false) in
    below_more _ c.loop-k.k c.loop-k.invariant here

pub returns : goal.returns
returns c =
    let p : Plan = c.args.p in
    let roll : List ℕ = c.args.roll.now in
    c.records-count.ensures ∙ sym (lowest_is_none (bad p roll) (records roll) (λ j h. c.loop-k.invariant j (omega arith)))
