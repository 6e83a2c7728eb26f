-- A fresh yard meets the invariant and a tick keeps it, so it holds after every tick of every roll.
use Rattle.std.proofs.Common.{ℕ, zero, suc, ◌+◌, ◌≤◌, arith, refl, List}
use Rattle.rules.specs.declared.Plan.{Plan}
use Rattle.rules.specs.declared.Yard.{Yard}
use Rattle.rules.specs.Yard.{device, fresh_yard}
use Rattle.rules.specs.Run.{record_at, after}
use Rattle.rules.specs.Theorems.{Accepts}
use Rattle.rules.specs.Promises.{yard_after}
use Rattle.rules.proofs.States.Formed.{Formed}
use Rattle.rules.proofs.States.Fresh.{fresh_device_lem}
use Rattle.rules.proofs.Ticks.Keeps.{keeps}
use Rattle.rules.proofs.Promises.Stays.Stay.{Idle}
use Rattle.rules.proofs.Promises.Bases.Turns.{Prompt}
use Rattle.rules.proofs.Promises.Bases.Ticked.{tick_prompt}
use Rattle.rules.proofs.Promises.Safe.Clauses.{Reached, Covered, Nested, Safe}
use Rattle.rules.proofs.Promises.Safe.Reach.{reached_kept}
use Rattle.rules.proofs.Promises.Safe.Cover.{covered_kept}
use Rattle.rules.proofs.Promises.Safe.Nest.{nested_kept}

module _ (p : Plan) (a : Accepts p) where
  pub fresh_idle : (i : ℕ) → 1 ≤ i → i ≤ p.N → Idle (device fresh_yard i).place
  fresh_idle i low used = rw (fresh_device_lem i low (omega (arith, a.devices))) (λ q. q)

  fresh_formed : Formed p fresh_yard
  unfolding fresh_yard
  fresh_formed =
      record {
        based = (omega arith, refl);
        placed = λ i low high used. rw (fresh_device_lem i low high) (omega arith);
        lettered = λ i low high used. rw (fresh_device_lem i low high) tt;
        unused = λ i low high over. fresh_device_lem i low high;
      }

  -- Clause by clause, so that a promise rests on no condition that it does not need. These two rest on c1 alone.
  module _ (roll : List ℕ) where
    abbrev yard : ℕ → Yard
    yard t = yard_after p roll t

    pub always_formed : (t : ℕ) → Formed p (yard t)
    unfolding after
    always_formed zero = fresh_formed
    always_formed (suc t) = keeps p a (yard t) (record_at roll t) (always_formed t)

    pub always_prompt : (t : ℕ) → Prompt p (yard t).base (yard t).clock (yard t).lease
    unfolding after fresh_yard
    always_prompt zero = tt
    always_prompt (suc t) = tick_prompt p (yard t) (record_at roll t) a (always_formed t) (always_prompt t)

    -- These rest on c4.
    pub always_led : (t : ℕ) → Reached p (yard t) × Covered p (yard t)
    unfolding after
    always_led zero = (
      λ j low used active. absurd (fresh_idle j low used active),
      λ j low used active. absurd (fresh_idle j low used active),
    )
    always_led (suc t) =
        let led = always_led t in
        let f = always_formed t in
        let soon = always_prompt t in
        let reached = reached_kept p a (yard t) (record_at roll t) f soon led.0 led.1 in
        (reached, covered_kept p a (yard t) (record_at roll t) f soon led.0 led.1 reached)

    -- This rests on c6.
    always_nested : (t : ℕ) → Nested p (yard t)
    unfolding after
    always_nested zero = λ i low few active. absurd (fresh_idle (i + 1) (omega arith) (omega arith) active)
    always_nested (suc t) =
        nested_kept p a (yard t) (record_at roll t) (always_formed t) (always_prompt t) (always_nested t) (always_led (suc t)).0

    pub always_safe : (t : ℕ) → Safe p (yard t)
    always_safe t =
        record {
          formed = always_formed t;
          prompt = always_prompt t;
          reached = (always_led t).0;
          covered = (always_led t).1;
          nested = always_nested t;
        }
