-- After a tick what is left of each stay is left of the lease.
use Rattle.std.proofs.Common.{ℕ, ◌+◌, ◌-◌, ◌*◌, ◌≤◌, arith, ◌≡◌, ap}
use Rattle.rules.specs.declared.Plan.{Plan}
use Rattle.rules.specs.declared.Yard.{Yard}
use Rattle.rules.specs.declared.Record.{Record}
use Rattle.rules.specs.Plan.{stay, LS}
use Rattle.rules.specs.Tick.{tick}
use Rattle.rules.specs.Numbers.{base_index}
use Rattle.rules.specs.Theorems.{Accepts}
use Rattle.rules.proofs.States.Formed.{Formed}
use Rattle.rules.proofs.Promises.Stays.Ticked.{tick_steps}
use Rattle.rules.proofs.Promises.Stays.Steps.{on_active}
use Rattle.rules.proofs.Promises.Bases.Turns.{Prompt}
use Rattle.rules.proofs.Promises.Bases.Ticked.{tick_asks, tick_runs}
use Rattle.rules.proofs.Promises.Safe.Clauses.{Reached, Covered}

module _ (p : Plan) (a : Accepts p) where
  -- A stay that starts within (j-1) × W ticks of the lease ends within it, by c4.
  fits : (j : ℕ) → 1 ≤ j → j ≤ p.N → j * p.W + stay p j ≤ LS p + p.W
  fits j low used =
      let one : j ≡ j - 1 + 1 = omega arith in omega (arith, a.c4 j low used, ap (λ (k : ℕ). k * p.W) one)

  -- Later the lease clock and what is spent of the stay go on together.
  pub covered_kept :
      (y : Yard) (r : Record) → Formed p y → Prompt p y.base y.clock y.lease → Reached p y → Covered p y
      → Reached p (tick p y r) → Covered p (tick p y r)
  covered_kept y r f soon reached covered still j low used active =
      on_active (tick_steps p y r j a f low used) active
      (λ ask new young. omega (arith, fits j low used, (tick_asks p y r a f soon j low ask).early))
      (λ h more.
      let here : j ≤ base_index y.base = reached j low used h.was in
      let there : j ≤ base_index (tick p y r).base = still j low used active in
      let runs : (tick p y r).lease ≡ y.lease + 1 = tick_runs p y r a f soon (omega arith) (omega arith) in
      omega (arith, covered j low used h.was))
