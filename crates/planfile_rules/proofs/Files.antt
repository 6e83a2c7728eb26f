-- What a file is answered, by its length, its trailer and its body; and what is true of every answer.
use Rattle.std.proofs.Common.{ℕ, ◌+◌, ◌-◌, ◌*◌, ◌≤◌, arith, ◌≡◌, sym, ◌∙◌, ap, not, List, eqb, length, take, drop, length-drop, length-take-le, eq-eqb, ne_eqb}
use Rattle.rules.specs.Verdict.{Verdict}
use Rattle.rules.specs.Verdict.{Accepted, Refused}
use Rattle.rules.specs.Verdict.{refused_if}
use Rattle.rules.specs.Table.{plan_verdict}
use Rattle.rules.proofs.Answers.{by_verdict, first_accepted}
use Rattle.rules.proofs.Plans.Accepted.{accepted_exactly}
use Rattle.planfile_rules.specs.declared.Trailer.{Trailer}
use Rattle.numbers.specs.Bytes.{num16}
use Rattle.planfile_rules.specs.File.{trailer_of, body_at, devices_for, plan_in, plan_of, empty_plan, trailer_verdict, body_verdict, file_verdict, answer_of, read_answer, body_span}
use Rattle.planfile_rules.specs.Theorems.{TrailerHolds, ReadAccepts, RefusedEmpty, NotesFree}
use Rattle.planfile_rules.proofs.Trailers.{devices_back, trailer_holds}

-- The part of a list from a start to an end, as code takes it.
abbrev pub part_of : List ℕ → ℕ → ℕ → List ℕ
part_of l start end = take (end - start) (drop start l)

-- The trailer t is the file's, and v is the verdict on it.
module _
    (file : List ℕ)
    (t : Trailer)
    (v : Verdict)
    (is_the_trailer : t ≡ trailer_of file)
    (was_judged : v ≡ trailer_verdict (length file) t)
  where
    pub trailer_refused : {k i : ℕ} → v ≡ Refused k i → answer_of v empty_plan ≡ read_answer file
    unfolding read_answer answer_of
    trailer_refused e = rw (← is_the_trailer, ← was_judged, e)

    pub refused_span : {k i : ℕ} → v ≡ Refused k i → record { start = 0; len = 0 } ≡ body_span file
    unfolding body_span
    refused_span e = rw (← is_the_trailer, ← was_judged, e)

    pub taken_span : v ≡ Accepted → record { start = length file - t.back; len = t.size } ≡ body_span file
    unfolding body_span
    taken_span e = rw (← is_the_trailer, ← was_judged, e)

    -- Where it is taken, the body lies within the file, and has the bytes of n devices.
    module _ (taken : v ≡ Accepted) where
      holds : TrailerHolds (length file) t
      holds = trailer_holds (length file) t (sym was_judged ∙ taken)

      pub starts_within : t.back ≤ length file
      starts_within = holds.body.1

      pub ends_within : length file - t.back + t.size ≤ length file
      ends_within = omega (arith, holds.body)

      is_the_body : part_of file (length file - t.back) (length file - t.back + t.size) ≡ body_at t file
      is_the_body =
          ap (λ (k : ℕ). take k (drop (length file - t.back) file))
          {x = length file - t.back + t.size - (length file - t.back)} {y = t.size} (omega arith)

      module _ (n : ℕ) (n_is : n ≡ devices_for t.size) where
        right_number : n ≡ holds.devices.0
        right_number = n_is ∙ ap devices_for holds.devices.3 ∙ devices_back holds.devices.0

        pub devices_fit :
            (n ≤ 8) × (8 + 12 * n ≤ length (part_of file (length file - t.back) (length file - t.back + t.size)))
        devices_fit =
            let long : length (part_of file (length file - t.back) (length file - t.back + t.size)) ≡ 8 + 12 * n =
            ap length is_the_body
            ∙ length-take-le t.size (drop (length file - t.back) file)
            (rw (length-drop (length file - t.back) file) (omega (arith, holds.body)))
            ∙ rw right_number holds.devices.3 in
            (rw right_number holds.devices.2, omega arith)

        pub trailer_taken :
            (body : List ℕ) → body ≡ part_of file (length file - t.back) (length file - t.back + t.size)
            → answer_of (body_verdict n body) (plan_in n body) ≡ read_answer file
        unfolding read_answer
        trailer_taken body e =
            rw (← is_the_trailer, ← was_judged, taken, e, is_the_body, n_is)

-- N, as the body for n devices names it.
module _ (n : ℕ) (body : List ℕ) (N : ℕ) (was_read : N ≡ num16 body 0) where
  pub body_refused : (N ≡ n → ⊥) → answer_of (Refused 19 0) empty_plan ≡ answer_of (body_verdict n body) (plan_in n body)
  unfolding answer_of body_verdict
  body_refused ne = rw (ne_eqb (num16 body 0) n (λ e. ne (was_read ∙ e)))

  pub body_checked :
      N ≡ n → answer_of (plan_verdict (plan_in n body)) (plan_in n body) ≡ answer_of (body_verdict n body) (plan_in n body)
  unfolding body_verdict
  body_checked e = rw (eq-eqb (num16 body 0) n (sym was_read ∙ e))

body_accepted : (n : ℕ) (body : List ℕ) → body_verdict n body ≡ Accepted → plan_verdict (plan_in n body) ≡ Accepted
unfolding body_verdict
body_accepted n body e =
    (first_accepted (refused_if (not (eqb (num16 body 0) n)) 19 0) (plan_verdict (plan_in n body)) e).1

plan_accepted : (file : List ℕ) → file_verdict file ≡ Accepted → plan_verdict (plan_of file) ≡ Accepted
plan_accepted file e =
    let t : Trailer = trailer_of file in
    let n : ℕ = devices_for t.size in
    body_accepted n (body_at t file)
    (first_accepted (trailer_verdict (length file) t) (body_verdict n (body_at t file)) e).1

pub read_accepts : ReadAccepts
unfolding read_answer answer_of
read_accepts file e =
    rw e (plan_accepted file e, ((accepted_exactly (plan_of file)).0 (plan_accepted file e)).unused)

pub refused_empty : RefusedEmpty
unfolding read_answer answer_of
refused_empty file k i e = rw e

pub notes_free : NotesFree
unfolding read_answer
notes_free f g same_length same_trailer same_body = rw (same_body, same_trailer, same_length)

-- Wherever a body lies, it lies within its file.
pub span_within : (file : List ℕ) → (body_span file).start + (body_span file).len ≤ length file
unfolding body_span
span_within file =
    let t : Trailer = trailer_of file in
    by_verdict (trailer_verdict (length file) t)
    (λ e. rw e (omega (arith, (trailer_holds (length file) t e).body)))
    (λ k i e. rw e (omega arith))
