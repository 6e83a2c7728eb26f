-- A tick's byte shows exactly the devices in Running and in Exiting 1.
use Rattle.std.proofs.Common.{ℕ, ◌+◌, ◌-◌, ◌≤◌, arith, ◌≡◌, refl, sym, ◌∙◌, ap, ◌⊎◌, inl, inr, ⊎_elim, true, false}
use mathlib.Core.Bool.{false≢true}
use Rattle.laws.specs.Bits.{bit}
use Rattle.laws.proofs.Bits.{of_bits_at, of_bits_above}
use Rattle.rules.specs.declared.Plan.{Plan}
use Rattle.rules.specs.declared.Yard.{Yard}
use Rattle.rules.specs.declared.Place.{Place}
use Rattle.rules.specs.declared.Place.TheVariants as place
use Rattle.rules.specs.Yard.{device, engaged}
use Rattle.rules.specs.Run.{engaged_byte}
use Rattle.rules.specs.Theorems.{EngagedExactly}

pub engaged_is : (pl : Place) → engaged pl ≡ true → (pl ≡ place.Running) ⊎ (pl ≡ place.Exiting1)
unfolding engaged
engaged_is place.FallBack e = absurd (false≢true e)
engaged_is place.Requesting e = absurd (false≢true e)
engaged_is place.Entering e = absurd (false≢true e)
engaged_is place.Running e = inl refl
engaged_is place.Exiting1 e = inr refl
engaged_is place.Exiting2 e = absurd (false≢true e)

pub is_engaged : (pl : Place) → (pl ≡ place.Running) ⊎ (pl ≡ place.Exiting1) → engaged pl ≡ true
unfolding engaged
is_engaged pl h = ⊎_elim (λ e. rw e) (λ e. rw e) h

module _ (p : Plan) (y : Yard) where
  pub byte_at : (i : ℕ) → 1 ≤ i → i ≤ p.N → bit (engaged_byte p y) (i - 1) ≡ engaged (device y i).place
  unfolding engaged_byte
  byte_at i low high =
      of_bits_at (λ k. engaged (device y (k + 1)).place) p.N (i - 1) (omega arith)
      ∙ ap (λ (k : ℕ). engaged (device y k).place) {x = i - 1 + 1} {y = i} (omega arith)

  byte_above : (k : ℕ) → p.N ≤ k → bit (engaged_byte p y) k ≡ false
  unfolding engaged_byte
  byte_above k h = of_bits_above _ p.N k h

pub engaged_exactly : EngagedExactly
engaged_exactly p y = (
  λ i low high. (
    λ e. engaged_is (device y i).place (sym (byte_at p y i low high) ∙ e),
    λ h. byte_at p y i low high ∙ is_engaged (device y i).place h,
  ),
  byte_above p y,
)
