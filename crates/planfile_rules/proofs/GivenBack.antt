-- A file without notes that is taken is given back: its plan is written as its bytes.
use Rattle.std.proofs.Common.{ℕ, ◌+◌, ◌-◌, ◌*◌, ◌≤◌, arith, ◌≡◌, sym, ◌∙◌, ap, not, List, ◌++◌, eqb, length, drop, get_or, length-append, length-drop, take_all, length-take-le, w8, Fits, eqb-true}
use borrow.Author.Tests.{not-false}
use Rattle.laws.proofs.Lists.{parts_join}
use Rattle.numbers.specs.Bytes.{num16, AllBytes}
use Rattle.numbers.proofs.Back.{two_given, four_given, drop_small, part_small}
use Rattle.rules.specs.Verdict.{Accepted}
use Rattle.rules.specs.Verdict.{refused_if}
use Rattle.rules.proofs.Answers.{accepted_if, first_accepted}
use Rattle.planfile_rules.specs.declared.Trailer.{Trailer}
use Rattle.planfile_rules.specs.declared.ReadAnswer.{ReadAnswer}
use Rattle.planfile_rules.specs.File.{last_ten, the_mark, trailer_in, trailer_of, body_of, devices_for, plan_in, plan_of, trailer_verdict, body_verdict, file_verdict, answer_of, read_answer}
use Rattle.planfile_rules.specs.Writing.{body_bytes, trailer_bytes, trailer_for, file_bytes, WithoutNotes}
use Rattle.planfile_rules.specs.Theorems.{TrailerHolds, ReadThenWrite}
use Rattle.planfile_rules.proofs.Trailers.{devices_back, trailer_holds}
use Rattle.planfile_rules.proofs.Bodies.{body_given}

-- A trailer's ten bytes are given back.
trailer_given : (ten : List ℕ) → AllBytes ten → length ten ≡ 10 → trailer_bytes (trailer_in ten) ≡ ten
unfolding trailer_in trailer_bytes
trailer_given ten small long =
    rw (
      two_given ten small 0 (omega arith),
      two_given ten small 2 (omega arith),
      four_given ten small 4 (omega arith),
      two_given ten small 8 (omega arith),
      parts_join ten 0 2 2,
      parts_join ten 0 4 4,
      parts_join ten 0 8 2,
    )
    (take_all 10 ten (omega arith))

trailer_is :
    (t : Trailer) (n : ℕ) → t.size ≡ 8 + 12 * n → t.version ≡ 1 → t.back ≡ 8 + 12 * n + 10 → t.mark ≡ the_mark
    → t ≡ trailer_for n
unfolding trailer_for
trailer_is t n size version back mark j =
    record { size = size j; version = version j; back = back j; mark = mark j }

-- A file that is taken, and is its body and its trailer.
module _ (file : List ℕ) (small : AllBytes file) (bare : WithoutNotes file) (taken : file_verdict file ≡ Accepted) where
  verdicts :
      (trailer_verdict (length file) (trailer_of file) ≡ Accepted)
      × (body_verdict (devices_for (trailer_of file).size) (body_of file) ≡ Accepted)
  verdicts = first_accepted _ _ taken

  holds : TrailerHolds (length file) (trailer_of file)
  holds = trailer_holds (length file) (trailer_of file) verdicts.0

  body_long : length (body_of file) ≡ (trailer_of file).size
  body_long =
      length-take-le (trailer_of file).size (drop (length file - (trailer_of file).back) file)
      (rw (length-drop (length file - (trailer_of file).back) file) (omega (arith, holds.body)))

  ten_long : length (last_ten file) ≡ 10
  ten_long = length-drop (length file - 10) file ∙ omega (arith, holds.bytes)

  file_long : length file ≡ (trailer_of file).size + 10
  file_long = ap length bare ∙ length-append (body_of file) (last_ten file) ∙ omega (arith, body_long, ten_long)

  body_named : num16 (body_of file) 0 ≡ devices_for (trailer_of file).size
  unfolding body_verdict
  body_named =
      eqb-true _ _
      (not-false _ (accepted_if _ 19 0 (first_accepted (refused_if (not (eqb (num16 (body_of file) 0) (devices_for (trailer_of file).size))) 19 0) _ verdicts.1).0))

  module _ (n : ℕ) (most : n ≤ 8) (size : (trailer_of file).size ≡ 8 + 12 * n) where
    devices : devices_for (trailer_of file).size ≡ n
    devices = ap devices_for size ∙ devices_back n

    ten_given : trailer_bytes (trailer_for n) ≡ last_ten file
    ten_given =
        rw (← trailer_is (trailer_of file) n size holds.version (omega (arith, size, file_long, holds.body)) holds.mark)
        (trailer_given (last_ten file) (drop_small file small (length file - 10)) ten_long)

    plan_named : (plan_in n (body_of file)).N ≡ n
    unfolding plan_in
    plan_named = body_named ∙ devices

    given : file_bytes (plan_in n (body_of file)) ≡ file
    unfolding file_bytes
    given =
        let bytes : AllBytes (body_of file) =
        part_small file small (length file - (trailer_of file).back) (trailer_of file).size in
        ap (λ (k : ℕ). body_bytes (plan_in n (body_of file)) k ++ trailer_bytes (trailer_for k)) plan_named
        ∙ ap (λ (b : List ℕ). b ++ trailer_bytes (trailer_for n)) (body_given n most (body_of file) bytes (body_long ∙ size))
        ∙ ap (λ (t : List ℕ). body_of file ++ t) ten_given
        ∙ sym bare

  pub given_back : file_bytes (plan_of file) ≡ file
  given_back =
      let d = holds.devices in rw (devices d.0 d.2 d.3) (given d.0 d.2 d.3)

pub read_then_write : ReadThenWrite
unfolding read_answer answer_of
read_then_write file small bare taken = rw taken (given_back file small bare taken)

-- The same of the reader's answer r to a slice of bytes.
pub given_back_of :
    (file : List ℕ) (r : ReadAnswer) → r ≡ read_answer file → ((k : ℕ) → Fits w8 (get_or file k 0))
    → r.verdict ≡ Accepted → WithoutNotes file → file_bytes r.plan ≡ file
given_back_of file r same known = rw same (λ taken bare. read_then_write file (λ k. omega (arith, known k)) bare taken)
