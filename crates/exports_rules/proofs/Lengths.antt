-- Each call that is not refused was lent a yard, or a plan, of the right length.
use Rattle.std.proofs.Common.{ℕ, ◌≡◌, refl, ◌&&◌, List, length, eqb-true}
use Rattle.laws.proofs.Tests.{case}
use Rattle.rules.specs.Verdict.{Accepted}
use Rattle.rules.specs.Downs as down
use Rattle.rules.specs.declared.Record.{Record}
use Rattle.rules.specs.declared.FreshAnswer.{FreshAnswer}
use Rattle.rules.specs.declared.TickAnswer.{TickAnswer}
use Rattle.rules.specs.declared.RunAnswer.{RunAnswer}
use Rattle.rules.specs.Yard.{fresh_yard, fresh_answer}
use Rattle.rules.specs.Tick.{tick_answer}
use Rattle.rules.specs.Run.{run_answer}
use Rattle.planfile_rules.specs.declared.ReadAnswer.{ReadAnswer}
use Rattle.planfile_rules.specs.File.{plan_size, whole_plan, read_answer}
use Rattle.listing_rules.specs.declared.Listed.{Listed}
use Rattle.listing_rules.specs.Listing.{list_answer}
use Rattle.layout_rules.specs.Bytes.{yard_size}
use Rattle.layout_rules.specs.Reading.{yard_of}
use Rattle.exports_rules.specs.Asked.{size_verdict, fits_plan, fits_yard, sizes, fresh_for, tick_for, run_for, read_for, list_for}
use Rattle.exports_rules.proofs.Sizes.{sized, yard_sized}

pub fresh_sized : (plan : List ℕ) (room : ℕ) → (fresh_for plan room).verdict ≡ Accepted → room ≡ yard_size
unfolding fresh_for
fresh_sized plan room h =
    let fits = fits_plan (length plan) && fits_yard room in
    yard_sized (fits_plan (length plan)) room
    (sized (λ (a : FreshAnswer). a.verdict) fits (fresh_answer (whole_plan plan))
    (record { verdict = size_verdict fits; yard = fresh_yard }) refl h)

-- A fresh yard is the same for every plan.
pub fresh_same : (plan : List ℕ) (room : ℕ) → (fresh_for plan room).yard ≡ fresh_yard
unfolding fresh_for fresh_answer size_verdict
fresh_same plan room = case (fits_plan (length plan) && fits_yard room) (λ e. rw e) (λ e. rw e)

pub read_sized : (file : List ℕ) (room : ℕ) → (read_for file room).verdict ≡ Accepted → room ≡ plan_size
unfolding read_for
read_sized file room h =
    eqb-true room plan_size
    (sized (λ (a : ReadAnswer). a.verdict) (fits_plan room) (read_answer file)
    (record { verdict = size_verdict (fits_plan room); plan = (read_answer file).plan }) refl h)

module _ (plan yard : List ℕ) where
  pub tick_sized : (r : Record) → (tick_for plan yard r).verdict ≡ Accepted → length yard ≡ yard_size
  unfolding tick_for
  tick_sized r h =
      yard_sized (fits_plan (length plan)) (length yard)
      (sized (λ (a : TickAnswer). a.verdict) (sizes plan yard) (tick_answer (whole_plan plan) (yard_of yard) r)
      (record { verdict = size_verdict (sizes plan yard); yard = yard_of yard; down = down.none }) refl h)

  pub run_sized :
      (roll : List ℕ) (budget : ℕ) (engaged : List ℕ) → (run_for plan yard roll budget engaged).verdict ≡ Accepted
      → length yard ≡ yard_size
  unfolding run_for
  run_sized roll budget engaged h =
      yard_sized (fits_plan (length plan)) (length yard)
      (sized (λ (a : RunAnswer). a.verdict) (sizes plan yard)
      (run_answer (whole_plan plan) (yard_of yard) roll budget engaged)
      (record { verdict = size_verdict (sizes plan yard); yard = yard_of yard; ticks = 0 }) refl h)

  pub list_sized : (roll : List ℕ) (first room : ℕ) → (list_for plan yard roll first room).verdict ≡ Accepted → length yard ≡ yard_size
  unfolding list_for
  list_sized roll first room h =
      yard_sized (fits_plan (length plan)) (length yard)
      (sized (λ (a : Listed). a.verdict) (sizes plan yard) (list_answer (whole_plan plan) (yard_of yard) roll first room)
      (record { verdict = size_verdict (sizes plan yard); yard = yard_of yard; ticks = 0; length = 0 }) refl h)
