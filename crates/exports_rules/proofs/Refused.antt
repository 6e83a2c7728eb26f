-- A call that is refused leaves every lent buffer as it was, and does nothing.
use Rattle.std.proofs.Common.{ℕ, ◌<◌, arith, ◌≡◌, refl, ◌∙◌, List, length}
use Rattle.laws.proofs.Tests.{case}
use Rattle.rules.specs.Verdict.{Verdict}
use Rattle.rules.specs.Verdict.{Accepted, Refused}
use Rattle.rules.specs.Downs as down
use Rattle.rules.specs.declared.Record.{Record}
use Rattle.rules.specs.Verdict.{number_of}
use Rattle.rules.specs.Tick.{tick_answer}
use Rattle.rules.specs.Run.{engaged_bytes, run_answer, run_buffer}
use Rattle.rules.proofs.Answers.{by_verdict}
use Rattle.listing_rules.specs.Listing.{lines_text, ticks_listed, list_answer, list_buffer}
use Rattle.planfile_rules.specs.Writing.{write_answer, write_buffer}
use Rattle.exports_rules.specs.Asked.{size_verdict, fits_plan, sizes, tick_for, run_for, engaged_for, write_for, file_for, list_for, text_for}
use Rattle.exports_rules.specs.Calls.{Answered}
use Rattle.exports_rules.specs.Theorems.{RefusedUntouched}

-- A number other than 0 is a refusal's.
refusal : {A : Type 0} {v : Verdict} {number i : ℕ} → Answered v number i → 0 < number → ((k j : ℕ) → v ≡ Refused k j → A) → A
refusal {v} a h so = by_verdict v (λ taken. absurd (none taken a h)) so
  where
    none : {v : Verdict} {number i : ℕ} → v ≡ Accepted → Answered v number i → 0 < number → ⊥
    none {v} e a h = let z = a.no in let zero : number_of v ≡ 0 = rw e in omega arith

module _ (plan yard : List ℕ) where
  no_letter_lem : (x : Record) {k i : ℕ} → (tick_for plan yard x).verdict ≡ Refused k i → (tick_for plan yard x).down ≡ down.none
  unfolding tick_for size_verdict tick_answer
  no_letter_lem x = case (sizes plan yard) (λ e. rw e (λ h. rw h)) (λ e. rw e (λ h. refl))

  module _ (roll : List ℕ) (budget : ℕ) (engaged : List ℕ) where
    no_run :
        {k i : ℕ} → (run_for plan yard roll budget engaged).verdict ≡ Refused k i
        → (engaged_for plan yard roll budget engaged ≡ engaged) × ((run_for plan yard roll budget engaged).ticks ≡ 0)
    unfolding run_for engaged_for size_verdict run_answer run_buffer engaged_bytes
    no_run =
        case (sizes plan yard) (λ e. rw e (λ h. (rw h, rw h))) (λ e. rw e (λ h. (refl, refl)))

  module _ (roll : List ℕ) (first : ℕ) (out : List ℕ) where
    no_lines :
        {k i : ℕ} → (list_for plan yard roll first (length out)).verdict ≡ Refused k i
        → (text_for plan yard roll first out ≡ out)
        × ((list_for plan yard roll first (length out)).ticks ≡ 0)
        × ((list_for plan yard roll first (length out)).length ≡ 0)
    unfolding list_for text_for size_verdict list_answer list_buffer ticks_listed lines_text
    no_lines =
        case (sizes plan yard) (λ e. rw e (λ h. (rw h, rw h, rw h))) (λ e. rw e (λ h. (refl, refl, refl)))

no_file :
    (plan file : List ℕ) {k i : ℕ} → (write_for plan (length file)).verdict ≡ Refused k i
    → (file_for plan file ≡ file) × ((write_for plan (length file)).length ≡ 0)
unfolding write_for file_for size_verdict write_answer write_buffer
no_file plan file = case (fits_plan (length plan)) (λ e. rw e (λ h. (rw h, rw h))) (λ e. rw e (λ h. (refl, refl)))

pub refused_untouched : RefusedUntouched
refused_untouched = record {
  fresh = λ plan yard after number i a h. refusal a.answer h (λ k j e. rw e at a.bytes);
  tick = λ plan yard x after number down device i a h.
      refusal a.answer h (λ k j e.
      let none = no_letter_lem plan yard x e in
      (rw e at a.bytes, a.letter ∙ rw none, a.to ∙ rw none));
  run = λ plan yard roll budget engaged after shown number ticks i a h.
      refusal a.answer h (λ k j e.
      let none = no_run plan yard roll budget engaged e in
      (rw e at a.bytes, a.buffer ∙ none.0, a.done ∙ none.1));
  read = λ file plan after number i a h. refusal a.answer h (λ k j e. rw e at a.bytes);
  write = λ plan file after number n i a h.
      refusal a.answer h (λ k j e. let none = no_file plan file e in (a.buffer ∙ none.0, a.long ∙ none.1));
  list = λ plan yard roll first out after text number ticks n i a h.
      refusal a.answer h (λ k j e.
      let none = no_lines plan yard roll first out e in
      (rw e at a.bytes, a.buffer ∙ none.0, a.done ∙ none.1, a.long ∙ none.2));
}
