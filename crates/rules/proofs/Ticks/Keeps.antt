-- Theorem 3: under an accepted plan a tick keeps a well-formed state well formed.
pub mod Devices
pub mod Base
use Rattle.std.proofs.Common.{ℕ, ◌≤◌, ◌∙◌}
use Rattle.rules.specs.declared.Plan.{Plan}
use Rattle.rules.specs.declared.Yard.{Yard}
use Rattle.rules.specs.declared.Record.{Record}
use Rattle.rules.specs.Yard.{device}
use Rattle.rules.specs.Tick.{tick}
use Rattle.rules.specs.Tick.Input.{approval}
use Rattle.rules.specs.Theorems.{Accepts, TickKeepsForm}
use Rattle.rules.proofs.Plans.Accepted.{accepted_exactly}
use Rattle.rules.proofs.States.Formed.{Formed, formed_is, is_formed}
use Rattle.rules.proofs.Ticks.Views.{turn, up, tick_used, tick_unused, tick_base, tick_clock, tick_lease}

module _ (p : Plan) (a : Accepts p) (y : Yard) (r : Record) (f : Formed p y) where
  sound : Base.Sound p a (turn p y r)
  sound =
      Base.move_sound p a (approval r) _ _ y.base _ _
      (Base.clock_kept p a y.base y.clock y.lease f.based)

  good : (i : ℕ) (low : 1 ≤ i) (high : i ≤ 8) (used : i ≤ p.N) → Devices.Good p a i low used (device (tick p y r) i)
  good i low high used =
      rw (tick_used p y r i low high used)
      (Devices.delivered_good p a i low used r (turn p y r).down (up p y r i).place (up p y r i).clock sound.1
      (Devices.up_placed p a i low used r (device y i) (f.placed i low high used)))

  pub keeps : Formed p (tick p y r)
  unfolding tick
  keeps =
      record {
        based = rw (tick_base p y r, tick_clock p y r, tick_lease p y r) sound.0;
        placed = λ i low high used. (good i low high used).0;
        lettered = λ i low high used. (good i low high used).1;
        unused = λ i low high over. tick_unused p y r i low high over ∙ f.unused i low high over;
      }

pub tick_keeps_form : TickKeepsForm
tick_keeps_form p y r e w = is_formed p (tick p y r) (keeps p ((accepted_exactly p).0 e) y r (formed_is p y w))
