-- Promises 1 to 3: no stay is too long, and neighbours are engaged one within the other, with their spacing.
use Rattle.std.proofs.Common.{ℕ, ◌+◌, ◌≤◌, ◌<◌, arith, ◌≡◌, true}
use Rattle.rules.specs.declared.Plan.{Plan}
use Rattle.rules.specs.declared.Yard.{Yard}
use Rattle.rules.specs.Plan.{slot, stay}
use Rattle.rules.specs.Yard.{device, engaged}
use Rattle.rules.specs.Theorems.{Accepts}
use Rattle.rules.specs.Promises.{yard_after, engaged_at, Kept, StaysAndSpacing, SpacedAsPlanned}
use Rattle.rules.proofs.Plans.Accepted.{accepted_exactly}
use Rattle.rules.proofs.Promises.Stays.Stay.{engaged_active, some_left, engaged_past, engaged_between}
use Rattle.rules.proofs.Promises.Safe.Clauses.{ActiveAt, spent_at, Nest, Safe}
use Rattle.rules.proofs.Promises.Safe.Always.{always_safe}
use Rattle.rules.proofs.Promises.History.{was_engaged, stays_on, stays_short}

module _ (p : Plan) (a : Accepts p) (y : Yard) (s : Safe p y) (i : ℕ) (low : 1 ≤ i) (few : i < p.N) where
  -- Where device i+1 is engaged, device i has been in Running for G + 2 ticks or more and is not yet in Exiting.
  pub record Within : Type 0 where
    pub active : ActiveAt y i
    pub entered : (slot p i).E + (slot p i).G + 2 ≤ spent_at p y i
    pub running : spent_at p y i < (slot p i).E + (slot p i).R

  within : engaged (device y (i + 1)).place ≡ true → Within
  within is =
      let inner = engaged_active (device y (i + 1)).place is in
      let n : Nest p y i = s.nested i low few inner in
      let placed = s.formed.placed (i + 1) (omega arith) (omega (arith, a.devices)) (omega arith) in
      let left : spent_at p y (i + 1) < stay p (i + 1) = some_left p (i + 1) (device y (i + 1)).place _ placed inner in
      let past = engaged_past p (i + 1) (device y (i + 1)).place (device y (i + 1)).clock is in
      record {
        active = n.active;
        entered = omega (arith, past.0, n.precedes, a.c5 i low few);
        running = omega (arith, n.outlasts);
      }

  within_engaged : Within → engaged (device y i).place ≡ true
  within_engaged w =
      engaged_between p i (device y i).place _ (s.formed.placed i low (omega (arith, a.devices)) (omega arith))
      w.active (omega (arith, w.entered)) w.running

pub stays_and_spacing : StaysAndSpacing
stays_and_spacing p roll n e =
    let a : Accepts p = (accepted_exactly p).0 e in
    let safe : (t : ℕ) → Safe p (yard_after p roll t) = always_safe p a roll in
    record {
      stays = λ i t low high far all. stays_short p a roll i low high t (λ k h. all k (omega arith));
      before =
          λ i t k low few far is near.
          let w = within p a (yard_after p roll t) (safe t) i low few is in
          was_engaged p a roll i low (omega arith) t k w.active (omega (arith, w.entered)) w.running;
      after =
          λ i t k low few is near far.
          let y : Yard = yard_after p roll t in
          let w = within p a y (safe t) i low few is in
          (stays_on p a roll i low (omega arith) t k (within_engaged p a y (safe t) i low few w) w.running
          (omega (arith, a.c7 i low few))).0;
    }

pub spaced : SpacedAsPlanned
spaced p roll n e =
    let k : Kept p (engaged_at p roll) n = stays_and_spacing p roll n e in
    record {
      enters = λ i t g low few far out is near. k.before i (t + 1) g low few far is (omega arith);
      leaves = λ i t g low few is out near far. k.after i t g low few is (omega arith) far;
    }
