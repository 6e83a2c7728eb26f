-- After a tick every active device is nested in the one below it.
use Rattle.std.proofs.Common.{ℕ, ◌+◌, ◌≤◌, ◌<◌, arith, ◌≡◌, refl}
use Rattle.rules.specs.declared.Plan.{Plan}
use Rattle.rules.specs.declared.Yard.{Yard}
use Rattle.rules.specs.declared.Record.{Record}
use Rattle.rules.specs.Plan.{slot, stay}
use Rattle.rules.specs.Yard.{device}
use Rattle.rules.specs.Tick.{tick}
use Rattle.rules.specs.Numbers.{base_index}
use Rattle.rules.specs.Theorems.{Accepts}
use Rattle.rules.proofs.States.Formed.{Formed}
use Rattle.rules.proofs.Ticks.Views.{turn}
use Rattle.rules.proofs.Ticks.Keeps.{keeps}
use Rattle.rules.proofs.Promises.Stays.Stay.{some_left}
use Rattle.rules.proofs.Promises.Stays.Moves.{Stays, Step}
use Rattle.rules.proofs.Promises.Stays.Hears.{called_off}
use Rattle.rules.proofs.Promises.Stays.Ticked.{StepOf, tick_steps}
use Rattle.rules.proofs.Promises.Stays.Steps.{on_active}
use Rattle.rules.proofs.Promises.Bases.Letters.{Entered}
use Rattle.rules.proofs.Promises.Bases.Turns.{Prompt}
use Rattle.rules.proofs.Promises.Bases.Ticked.{tick_asks, tick_calls}
use Rattle.rules.proofs.Promises.Safe.Clauses.{ActiveAt, spent_at, age_at, Reached, Nest, Nested}

module _ (p : Plan) (a : Accepts p) (y : Yard) (r : Record) (f : Formed p y) (soon : Prompt p y.base y.clock y.lease) (nested : Nested p y) (reached : Reached p (tick p y r)) where
  abbrev end : Yard
  end = tick p y r

  module _ (i : ℕ) (low : 1 ≤ i) (few : i < p.N) (active : ActiveAt (tick p y r) (i + 1)) where
    -- Device i+1 starts: it was asked because device i has just entered.
    starts_nested :
        Entered p i (device end i).place (device end i).clock → spent_at p end (i + 1) ≡ 0 → age_at p end (i + 1) ≡ 0
        → Nest p end i
    starts_nested came new young =
        record {
          active = came.active;
          outlasts = omega (arith, a.c6 i low few);
          precedes = omega arith;
        }

    -- Device i+1 was active: device i was, and goes on. It does not come to its end before, and it is not called off, since
    -- the base has not left device i+1.
    goes_on_nested :
        Stays (slot p (i + 1)) 1 (device y (i + 1)) (device end (i + 1)) → spent_at p y (i + 1) + 1 ≤ spent_at p end (i + 1)
        → Nest p end i
    goes_on_nested h more = by (tick_steps p y r i a f low (omega arith))
      where
        n : Nest p y i
        n = nested i low few h.was

        left : spent_at p end (i + 1) < stay p (i + 1)
        left =
            some_left p (i + 1) (device end (i + 1)).place (device end (i + 1)).clock
            ((keeps p a y r f).placed (i + 1) (omega arith) (omega (arith, a.devices)) (omega arith)) active

        by : StepOf p y r i → Nest p end i
        by (Step.rests idle still) = absurd (idle n.active)
        by (Step.starts ask idle pl c) = absurd (idle n.active)
        by (Step.goes_on k one) =
            record {
              active = k.is;
              outlasts = omega (arith, n.outlasts);
              precedes = omega (arith, n.precedes, h.older);
            }
        by (Step.halted o k before all) =
            let off : called_off (turn p y r).down ≡ i = o few in
            let here : called_off (turn p y r).down ≡ base_index end.base =
            tick_calls p y r a f soon (omega arith) in
            absurd (omega (arith, reached (i + 1) (omega arith) (omega arith) active))
        by (Step.ends was one pl c) = absurd (omega (arith, n.outlasts, left))

  pub nested_kept : Nested p (tick p y r)
  nested_kept i low few active =
      on_active (tick_steps p y r (i + 1) a f (omega arith) (omega arith)) active
      (λ ask new young.
      let came = (tick_asks p y r a f soon (i + 1) (omega arith) ask).after i low refl in
      starts_nested i low few active came new young)
      (λ h more. goes_on_nested i low few active h more)
