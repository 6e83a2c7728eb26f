-- A piece lies within the slice that it is of.
use Rattle.std.proofs.Common.{ℕ, ◌+◌, ◌≤◌, arith, ◌≡◌, sym, ◌∙◌, List, eqb, ltb, length}
use Rattle.laws.proofs.Tests.{tests, case}
use Rattle.rules.specs.declared.Plan.{Plan}
use Rattle.rules.specs.Run.{first_bad, left_over, records}
use Rattle.rules.proofs.Answers.{by_verdict}
use Rattle.planfile_rules.specs.File.{read_answer}
use Rattle.planfile_rules.proofs.Files.{span_within}
use Rattle.finder_rules.specs.declared.Piece.{Piece}
use Rattle.finder_rules.specs.Piece.{file_start, file_length, roll_start, roll_length, piece, Within}
use Rattle.finder_rules.specs.Theorems.{PieceWithin}

in_file : (file : List ℕ) (number : ℕ) → file_start file number + file_length file number ≤ length file
unfolding file_start file_length
in_file file number = case (ltb number 10) (λ t. rw t (span_within file)) (λ t. rw t (omega arith))

in_roll : (p : Plan) (roll : List ℕ) → roll_start p roll + roll_length p roll ≤ length roll
unfolding roll_start roll_length
in_roll p roll =
    case (eqb (left_over roll) 0)
    (λ q. rw q
    (case (ltb (first_bad p roll) (records roll))
    (λ b. rw b (omega tests))
    (λ b. rw b (omega arith))))
    (λ q. rw q (omega arith))

pub piece_within : PieceWithin
unfolding piece
piece_within file roll =
    by_verdict (read_answer file).verdict
    (λ t. rw t (in_roll (read_answer file).plan roll))
    (λ k i t. rw t (in_file file k))

-- The same of a piece that was located and then taken apart.
pub found_within : (file roll : List ℕ) {p q : Piece} → p ≡ piece file roll → p ≡ q → Within q file roll
found_within file roll located is = rw (sym located ∙ is) at (piece_within file roll)
