-- In an undisturbed tick every letter that was written is heard, and the down letter arrives.
use Rattle.std.proofs.Common.{Option, ℕ, ◌≤◌, arith, ◌≡◌, refl, sym, ◌∙◌, ap, subst, Bool, true, false, cond, true≢false}
use Rattle.laws.proofs.Tests.{case}
use Rattle.rules.specs.declared.Plan.{Plan}
use Rattle.rules.specs.declared.Slot.{Slot}
use Rattle.rules.specs.declared.Yard.{Yard}
use Rattle.rules.specs.declared.Record.{Record}
use Rattle.rules.specs.declared.Device.{Device}
use Rattle.rules.specs.declared.Letter.{Letter}
use Rattle.rules.specs.Letters as letter
use Rattle.rules.specs.declared.Down.{Down}
use Rattle.rules.specs.Downs as down
use Rattle.rules.specs.Plan.{slot}
use Rattle.rules.specs.Yard.{at, device, same_letter}
use Rattle.rules.specs.Tick.{tick}
use Rattle.rules.specs.Tick.Input.{willing, up_lost, down_lost}
use Rattle.rules.specs.Tick.Step3.{heard}
use Rattle.rules.specs.Tick.Step4.{arrived}
use Rattle.rules.specs.Theorems.{Accepts}
use Rattle.rules.specs.Promises.{Undisturbed}
use Rattle.rules.proofs.States.Formed.{same_letter_lem}
use Rattle.rules.proofs.Ticks.Views.{risen, turn, up, risen_used, tick_used, tick_down}

-- Only what is there can be lost.
kept_up : (x : Option Letter) (lost : Bool) → ((x ≡ letter.none → ⊥) → lost ≡ false) → cond lost letter.none x ≡ x
kept_up x false h = refl
kept_up x true h =
    case (same_letter x letter.none) (λ e. sym (same_letter_lem x letter.none e))
    (λ e. absurd (true≢false (h (λ q. true≢false (rw q at e)))))

abbrev Sent : Option Down → Type 0
Sent down.none = ⊥
Sent (down.LeaseReq k) = Unit
Sent (down.Grant k) = Unit
Sent (down.Cancel k) = Unit
Sent (down.Abort k) = Unit

module _ (s : Slot) (w : Bool) (i : ℕ) (d : Device) where
  kept_down :
      (l : Option Down) (lost : Bool) → ((l ≡ down.none → ⊥) → lost ≡ false) → cond lost d (arrived s w l i d) ≡ arrived s w l i d
  unfolding arrived
  kept_down l false h = refl
  kept_down down.none true h = refl
  kept_down (down.LeaseReq k) true h = absurd (true≢false (h (λ q. subst Sent q tt)))
  kept_down (down.Grant k) true h = absurd (true≢false (h (λ q. subst Sent q tt)))
  kept_down (down.Cancel k) true h = absurd (true≢false (h (λ q. subst Sent q tt)))
  kept_down (down.Abort k) true h = absurd (true≢false (h (λ q. subst Sent q tt)))

module _ (p : Plan) (a : Accepts p) (y : Yard) (r : Record) (u : Undisturbed p y r) (i : ℕ) (low : 1 ≤ i) (used : i ≤ p.N) where
  in_slots : i ≤ 8
  in_slots = omega (arith, a.devices)

  pub all_heard : heard r (risen p y r) i ≡ (up p y r i).letter
  all_heard =
      kept_up (device (risen p y r) i).letter (up_lost r i) (u.up_kept i low used)
      ∙ ap (λ (d : Device). d.letter) (risen_used p y r i low in_slots used)

  pub all_arrives :
      device (tick p y r) i ≡ arrived (slot p i) (willing r i) (turn p y r).down i (at (up p y r i).place (up p y r i).clock letter.none)
  all_arrives =
      tick_used p y r i low in_slots used
      ∙ kept_down (slot p i) (willing r i) i _ (turn p y r).down (down_lost r)
      (λ some. u.down_kept (λ none. some (sym (tick_down p y r) ∙ none)))
