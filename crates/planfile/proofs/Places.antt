-- Where a file's body lies, as the reader has been told: a place, or a refusal.
use Rattle.std.proofs.Common.{◌≡◌, ℕ, ◌+◌, ◌-◌, ◌*◌, ◌≤◌, ◌<◌, List, length, refl, sym, ◌∙◌, ap, arith}
use Rattle.std.specs.Prelude.{Result, Ok, Err}
use Rattle.std.specs.Result.{result_and, result_unwrap_or}
use Rattle.rules.proofs.Answers.{by_verdict}
use Rattle.rules.specs.declared.Refusal.{Refusal}
use Rattle.rules.specs.Verdict.{Verdict, Accepted}
use Rattle.planfile_rules.specs.declared.Span.{Span}
use Rattle.planfile_rules.specs.File.{trailer_of, trailer_verdict, devices_for, plan_in, body_verdict, empty_plan, answer_of, read_answer, body_span}
use Rattle.planfile_rules.proofs.Trailers.{trailer_holds}
use Rattle.planfile_rules.proofs.Files.{part_of, taken_span, trailer_refused, devices_fit, trailer_taken, span_within}

and_ok : (v : Verdict) (a b : Span) → result_and v (Ok a) ≡ Ok b → (v ≡ Accepted) × (a ≡ b)
and_ok Accepted a b e = (refl, cc)
and_ok (Err r) a b e = absurd cc

and_err : (v : Verdict) (a : Span) (r : Refusal) → result_and v (Ok a) ≡ Err r → v ≡ Err r
and_err Accepted a r e = absurd cc
and_err (Err r) a q e = cc

module _ (file : List ℕ) {told : Result Span Refusal} (is_told : told ≡ result_and (trailer_verdict (length file) (trailer_of file)) (Ok (body_span file))) where
  -- A place is where the body lies; where there is none, the file is refused with what is said of its trailer.
  module _ {s : Span} (place : told ≡ Ok s) where
    both : (trailer_verdict (length file) (trailer_of file) ≡ Accepted) × (body_span file ≡ s)
    both = and_ok _ _ _ (sym is_told ∙ place)

    place_is : s ≡ record { start = length file - (trailer_of file).back; len = (trailer_of file).size }
    place_is = sym both.1 ∙ sym (taken_span file (trailer_of file) _ refl refl both.0)

    pub place_within : s.start + s.len ≤ length file
    place_within = rw both.1 at (span_within file)

    pub place_near : s.start + s.len ≤ 65536
    place_near = omega (arith, place_within, (trailer_holds (length file) (trailer_of file) both.0).bytes)

    pub place_short : s.len < 65536
    place_short =
        let holds = trailer_holds (length file) (trailer_of file) both.0 in
        rw place_is (omega (arith, holds.bytes, holds.body))

    module _ {n : ℕ} (n_is : n ≡ devices_for s.len) where
      pub place_fits : (n ≤ 8) × (8 + 12 * n ≤ length (part_of file s.start (s.start + s.len)))
      place_fits = rw place_is (devices_fit file (trailer_of file) _ refl refl both.0 n (rw place_is at n_is))

      pub place_taken : answer_of (body_verdict n (part_of file s.start (s.start + s.len))) (plan_in n (part_of file s.start (s.start + s.len))) ≡ read_answer file
      place_taken = rw place_is (trailer_taken file (trailer_of file) _ refl refl both.0 n (rw place_is at n_is) _ refl)

  pub place_refused : {r : Refusal} → told ≡ Err r → answer_of (Err r) empty_plan ≡ read_answer file
  place_refused {r = r} e =
      let said = and_err _ _ _ (sym is_told ∙ e) in
      sym (ap (λ (v : Verdict). answer_of v empty_plan) said) ∙ trailer_refused file (trailer_of file) _ refl refl said

  pub place_else : result_unwrap_or told (record { start = 0; len = 0 }) ≡ body_span file
  unfolding body_span
  place_else = rw is_told (by_verdict (trailer_verdict (length file) (trailer_of file)) (λ e. rw e refl) (λ k i e. rw e refl))
