-- The clauses of the invariant, over a general device and a general pair.
use Rattle.std.proofs.Common.{ℕ, ◌+◌, ◌≤◌, ◌<◌}
use Rattle.rules.specs.declared.Plan.{Plan}
use Rattle.rules.specs.declared.Yard.{Yard}
use Rattle.rules.specs.Plan.{slot, stay, LS}
use Rattle.rules.specs.Yard.{device}
use Rattle.rules.specs.Numbers.{base_index}
use Rattle.rules.proofs.States.Formed.{Formed}
use Rattle.rules.proofs.Promises.Stays.Stay.{Active, spent, age}
use Rattle.rules.proofs.Promises.Bases.Turns.{Prompt}

-- Device i of a yard: whether it is active, what it has spent of its stay, and how old that is at least.
abbrev pub ActiveAt : Yard → ℕ → Type 0
ActiveAt y i = Active (device y i).place

abbrev pub spent_at : Plan → Yard → ℕ → ℕ
spent_at p y i = spent (slot p i) (device y i).place (device y i).clock

abbrev pub age_at : Plan → Yard → ℕ → ℕ
age_at p y i = age (slot p i) (device y i).place (device y i).clock

-- No device is active above that of the base's place, and none while the base is in Fall-Back.
abbrev pub Reached : Plan → Yard → Type 0
Reached p y = (j : ℕ) → 1 ≤ j → j ≤ p.N → ActiveAt y j → j ≤ base_index y.base

-- What is left of a stay is left of the lease.
abbrev pub Covered : Plan → Yard → Type 0
Covered p y = (j : ℕ) → 1 ≤ j → j ≤ p.N → ActiveAt y j → y.lease + stay p j ≤ LS p + spent_at p y j

-- While device i+1 is active device i is; it comes to Exiting only when device i+1 is out, and it entered before.
pub record Nest (p : Plan) (y : Yard) (i : ℕ) : Type 0 where
  pub active : ActiveAt y i
  pub outlasts : stay p (i + 1) + spent_at p y i < (slot p i).E + (slot p i).R + spent_at p y (i + 1)
  pub precedes : age_at p y (i + 1) < spent_at p y i

abbrev pub Nested : Plan → Yard → Type 0
Nested p y = (i : ℕ) → 1 ≤ i → i < p.N → ActiveAt y (i + 1) → Nest p y i

pub record Safe (p : Plan) (y : Yard) : Type 0 where
  pub formed : Formed p y
  pub prompt : Prompt p y.base y.clock y.lease
  pub reached : Reached p y
  pub covered : Covered p y
  pub nested : Nested p y
