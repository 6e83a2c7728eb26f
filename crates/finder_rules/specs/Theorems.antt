-- What is proved of the finder's definitions, each under the name that stands beside it.
use Rattle.std.specs.Prelude.{ℕ, ◌≡◌, ◌↔◌, List, length}
use Rattle.std.specs.Borrow.{Bor}
use Rattle.rules.specs.Verdict.{Accepted}
use Rattle.rules.specs.Run.{length_verdict, records_verdict}
use Rattle.planfile_rules.specs.File.{read_answer}
use Rattle.finder_rules.specs.declared.Piece.{Piece}
use Rattle.finder_rules.specs.declared.Piece.TheVariants.{InRoll}
use Rattle.finder_rules.specs.Piece.{piece, Within, Lies}

-- The piece lies within the slice that it is of, whatever the file and the roll (`piece_within`).
abbrev pub PieceWithin : Type 0
PieceWithin = (file roll : List ℕ) → Within (piece file roll) file roll

-- Any two results that the contract allows have the same bytes at the same place (`find_determined`). What stays free is the
-- ghost name of the reference, which no program can see.
abbrev pub FindDetermined : Type 0
FindDetermined =
    (r s file roll : Bor (List ℕ)) (p : Piece) → Lies r file roll p → Lies s file roll p
    → (r.now ≡ s.now) × (r.ref_ptr.0 ≡ s.ref_ptr.0) × (r.ref_ptr.1 ≡ s.ref_ptr.1)

-- The empty part at the roll's end is handed back exactly when the file is taken and the roll has no fault
-- (`empty_exactly`).
abbrev pub EmptyExactly : Type 0
EmptyExactly =
    (file roll : List ℕ)
    → (piece file roll ≡ InRoll (length roll) 0)
    ↔ (((read_answer file).verdict ≡ Accepted)
    × (length_verdict roll ≡ Accepted)
    × (records_verdict (read_answer file).plan roll ≡ Accepted))
