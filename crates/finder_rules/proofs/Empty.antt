-- The empty part at the roll's end means that nothing is at fault, and only that.
use Rattle.std.proofs.Common.{ℕ, ◌+◌, arith, ◌≡◌, refl, ap, not, List, eqb, ltb, length}
use Rattle.laws.proofs.Tests.{tests, case}
use Rattle.rules.specs.declared.Plan.{Plan}
use Rattle.rules.specs.Verdict.{Verdict}
use Rattle.rules.specs.Verdict.{Accepted}
use Rattle.rules.specs.Run.{first_bad, left_over, records, length_verdict, records_verdict}
use Rattle.rules.proofs.Answers.{by_verdict, accepted_if}
use Rattle.planfile_rules.specs.File.{read_answer}
use Rattle.finder_rules.specs.declared.Piece.{Piece}
use Rattle.finder_rules.specs.declared.Piece.TheVariants.{InFile, InRoll}
use Rattle.finder_rules.specs.Piece.{roll_start, roll_length, piece}
use Rattle.finder_rules.specs.Theorems.{EmptyExactly}

-- How many bytes a piece has, and of the roll only.
size_of : Piece → ℕ
size_of (InFile start n) = 1
size_of (InRoll start n) = n

module _ (p : Plan) (roll : List ℕ) where
  faultless : roll_length p roll ≡ 0 → (length_verdict roll ≡ Accepted) × (records_verdict p roll ≡ Accepted)
  unfolding roll_length records_verdict
  faultless =
      case (eqb (left_over roll) 0)
      (λ q. rw q
      (case (ltb (first_bad p roll) (records roll))
      (λ b. rw b (λ e. absurd (omega arith)))
      (λ b. rw b (λ e. (refl, refl)))))
      (λ q. rw q (λ e. absurd (omega tests)))

  empty_end :
      length_verdict roll ≡ Accepted → records_verdict p roll ≡ Accepted
      → InRoll (roll_start p roll) (roll_length p roll) ≡ InRoll (length roll) 0
  unfolding roll_start roll_length records_verdict
  empty_end l r =
      rw (accepted_if (not (eqb (left_over roll) 0)) 12 0 l, accepted_if (ltb (first_bad p roll) (records roll)) 10 (first_bad p roll + 1) r)

pub empty_exactly : EmptyExactly
unfolding piece size_of
empty_exactly file roll =
    let v : Verdict = (read_answer file).verdict in
    let p : Plan = (read_answer file).plan in (
      by_verdict v
          (λ t. rw t (λ e. let f = faultless p roll (ap size_of e) in (refl, cc, f.1)))
          (λ k i t. rw t (λ e. absurd (let z : ◌≡◌ {A = ℕ} 1 0 = ap size_of e in omega arith))),
      λ h. rw h.0 (empty_end p roll h.1 h.2),
    )
