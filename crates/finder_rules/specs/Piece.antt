-- Document 01, "The plan file": the finder hands back the refused piece of whichever is at fault, file or roll, a part of the
-- lent bytes and nothing else.
use Rattle.std.specs.Prelude.{ℕ, ◌+◌, ◌-◌, ◌≤◌, min, ◌≡◌, not, cond, List, ltb, eqb, length, take, drop, Err}
use Rattle.std.specs.Borrow.{Bor}
use Rattle.rules.specs.declared.Plan.{Plan}
use Rattle.rules.specs.Verdict.{Verdict, Accepted}
use Rattle.rules.specs.Run.{record_size, records, left_over, record_start, first_bad}
use Rattle.planfile_rules.specs.File.{body_span, read_answer}
use Rattle.finder_rules.specs.declared.Piece.{Piece}
use Rattle.finder_rules.specs.declared.Piece.TheVariants.{InFile, InRoll}

-- The last 10 bytes of the file (all, if shorter) for 14 to 19; the body for 2 to 9.
unfoldable pub file_start : List ℕ → ℕ → ℕ
file_start file number = cond (ltb number 10) (body_span file).start (length file - 10)

unfoldable pub file_length : List ℕ → ℕ → ℕ
file_length file number = cond (ltb number 10) (body_span file).len (min 10 (length file))

-- The 1 to 3 leftover bytes for 12; the record's four bytes for 10; otherwise the empty part at the roll's end.
unfoldable pub roll_start : Plan → List ℕ → ℕ
roll_start p roll =
    cond (not (eqb (left_over roll) 0)) (record_start (records roll))
    (cond (ltb (first_bad p roll) (records roll)) (record_start (first_bad p roll)) (length roll))

unfoldable pub roll_length : Plan → List ℕ → ℕ
roll_length p roll =
    cond (not (eqb (left_over roll) 0)) (left_over roll)
    (cond (ltb (first_bad p roll) (records roll)) record_size 0)

-- The roll is looked at only after the plan has been taken.
abbrev pub piece_for : Verdict → Plan → List ℕ → List ℕ → Piece
piece_for Accepted p file roll = InRoll (roll_start p roll) (roll_length p roll)
piece_for (Err r) p file roll = InFile (file_start file r.number) (file_length file r.number)

unfoldable pub piece : List ℕ → List ℕ → Piece
piece file roll = piece_for (read_answer file).verdict (read_answer file).plan file roll

-- A piece of the file ends by the file's end, a piece of the roll by the roll's.
abbrev pub Within : Piece → List ℕ → List ℕ → Type 0
Within (InFile start n) file roll = start + n ≤ length file
Within (InRoll start n) file roll = start + n ≤ length roll

-- A lent part: r has the n bytes of s from start, and lies just there.
pub record PartOf (r s : Bor (List ℕ)) (start n : ℕ) : Type 0 where
  pub bytes : r.now ≡ take n (drop start s.now)
  pub block : r.ref_ptr.0 ≡ s.ref_ptr.0
  pub place : r.ref_ptr.1 ≡ start + s.ref_ptr.1

-- r is the piece, of whichever of the two it is.
abbrev pub Lies : Bor (List ℕ) → Bor (List ℕ) → Bor (List ℕ) → Piece → Type 0
Lies r file roll (InFile start n) = PartOf r file start n
Lies r file roll (InRoll start n) = PartOf r roll start n
