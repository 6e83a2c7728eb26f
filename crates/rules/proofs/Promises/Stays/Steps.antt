-- What a tick of a device tells of its stay: how an active device came to be so, and how an engaged one goes on.
use Rattle.std.proofs.Common.{ℕ, ◌+◌, ◌≤◌, ◌<◌, arith, ◌≡◌, true}
use Rattle.rules.specs.declared.Slot.{Slot}
use Rattle.rules.specs.declared.Device.{Device}
use Rattle.rules.specs.Yard.{engaged}
use Rattle.rules.proofs.Promises.Stays.Stay.{Active, spent, age, engaged_active}
use Rattle.rules.proofs.Promises.Stays.Moves.{Stays, Step}

module _ {s : Slot} {Asked Off : Type 0} {d e : Device} where
  -- An active device has just been asked and has started, or it was active before and has spent a tick or more.
  pub on_active :
      {A : Type 0} → Step s Asked Off d e → Active e.place
      → (Asked → spent s e.place e.clock ≡ 0 → age s e.place e.clock ≡ 0 → A)
      → (Stays s 1 d e → spent s d.place d.clock + 1 ≤ spent s e.place e.clock → A)
      → A
  on_active (Step.rests idle still) active new old = absurd (still active)
  on_active (Step.starts ask idle pl c) active new old = new ask (rw (pl, c)) (rw (pl, c))
  on_active (Step.goes_on h one) active new old = old h (omega arith)
  on_active (Step.halted o h few all) active new old = old h (omega arith)
  on_active (Step.ends was one pl c) active new old = absurd (rw pl at active)

  -- One that has spent something, and is not in Exiting, was active a tick before and has spent just that tick since.
  pub was_active :
      Step s Asked Off d e → Active e.place
      → 1 ≤ spent s e.place e.clock → spent s e.place e.clock < s.E + s.R
      → Active d.place × (spent s e.place e.clock ≡ spent s d.place d.clock + 1)
  was_active (Step.rests idle still) active from to = absurd (still active)
  was_active (Step.starts ask idle pl c) active from to = absurd (omega (arith, rw (pl, c) at from))
  was_active (Step.goes_on h one) active from to = (h.was, one)
  was_active (Step.halted o h few all) active from to = absurd (omega arith)
  was_active (Step.ends was one pl c) active from to = absurd (rw pl at active)

  -- An engaged device that has been in Exiting 1 for less than k ticks, k below X, is still engaged a tick later.
  pub stays_engaged :
      (k : ℕ) → Step s Asked Off d e → engaged d.place ≡ true → spent s d.place d.clock < s.E + s.R + k → k < s.X
      → (engaged e.place ≡ true) × (spent s e.place e.clock < s.E + s.R + (k + 1))
  stays_engaged k (Step.rests idle still) was to time = absurd (idle (engaged_active d.place was))
  stays_engaged k (Step.starts ask idle pl c) was to time = absurd (idle (engaged_active d.place was))
  stays_engaged k (Step.goes_on h one) was to time = (h.engages was, omega arith)
  stays_engaged k (Step.halted o h few all) was to time = (h.engages was, omega arith)
  stays_engaged k (Step.ends on one pl c) was to time = absurd (omega arith)
