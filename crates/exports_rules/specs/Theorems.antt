-- What a caller may rest on, each statement proved in proofs/ under the name that stands beside it.
use Rattle.std.specs.Prelude.{ℕ, ◌<◌, ◌≡◌, cond, List, eqb, length, take, Option}
use Rattle.numbers.specs.Bytes.{AllBytes}
use Rattle.rules.specs.declared.Down.{Down}
use Rattle.rules.specs.Downs as down
use Rattle.rules.specs.declared.Record.{Record}
use Rattle.rules.specs.Yard.{fresh_yard}
use Rattle.rules.specs.Numbers.{down_number, down_index}
use Rattle.rules.specs.Tick.{tick_answer}
use Rattle.rules.specs.Run.{run_answer}
use Rattle.finder_rules.specs.declared.Piece.{Piece}
use Rattle.finder_rules.specs.declared.Piece.TheVariants.{InFile, InRoll}
use Rattle.planfile_rules.specs.File.{whole_plan, read_answer}
use Rattle.planfile_rules.specs.Writing.{ReadAs, WithoutNotes}
use Rattle.listing_rules.specs.Listing.{list_answer}
use Rattle.layout_rules.specs.Reading.{yard_of}
use Rattle.exports_rules.specs.Calls.{Checked, Freshened, Ticked, Ran, Taken, Wrote, which_of, start_of, length_of, Found, Lined}

-- Any two results that a contract allows are equal.
abbrev pub Determined : {A : Type 0} → (A → Type 0) → Type 0
Determined {A} allows = (r s : A) → allows r → allows s → r ≡ s

-- Each call's are: its numbers, and every buffer that it may write (`calls_determined`). The header's contract needs none of
-- this: it is two equations.
pub record CallsDetermined : Type 0 where
  pub check : (plan : List ℕ) → Determined (λ (r : ℕ × ℕ). Checked plan r.0 r.1)
  pub fresh :
      (plan yard : List ℕ) → Determined (λ (r : List ℕ × ℕ × ℕ). Freshened plan yard r.0 r.1 r.2)
  pub tick :
      (plan yard : List ℕ) (x : Record)
      → Determined (λ (r : List ℕ × ℕ × ℕ × ℕ × ℕ). Ticked plan yard x r.0 r.1 r.2 r.3 r.4)
  pub run :
      (plan yard roll : List ℕ) (budget : ℕ) (engaged : List ℕ)
      → Determined (λ (r : List ℕ × List ℕ × ℕ × ℕ × ℕ). Ran plan yard roll budget engaged r.0 r.1 r.2 r.3 r.4)
  pub read : (file plan : List ℕ) → Determined (λ (r : List ℕ × ℕ × ℕ). Taken file plan r.0 r.1 r.2)
  pub write : (plan file : List ℕ) → Determined (λ (r : List ℕ × ℕ × ℕ × ℕ). Wrote plan file r.0 r.1 r.2 r.3)
  pub find : (file roll : List ℕ) → Determined (λ (r : ℕ × ℕ × ℕ). Found file roll r.0 r.1 r.2)
  pub list :
      (plan yard roll : List ℕ) (first : ℕ) (out : List ℕ)
      → Determined (λ (r : List ℕ × List ℕ × ℕ × ℕ × ℕ × ℕ). Lined plan yard roll first out r.0 r.1 r.2 r.3 r.4 r.5)

-- A number other than 0 means that every lent buffer is as it was, and that there is no letter, no tick and no text
-- (`refused_untouched`).
pub record RefusedUntouched : Type 0 where
  pub fresh : (plan yard after : List ℕ) (number i : ℕ) → Freshened plan yard after number i → 0 < number → after ≡ yard
  pub tick :
      (plan yard : List ℕ) (x : Record) (after : List ℕ) (number down device i : ℕ)
      → Ticked plan yard x after number down device i → 0 < number
      → (after ≡ yard) × (down ≡ 0) × (device ≡ 0)
  pub run :
      (plan yard roll : List ℕ) (budget : ℕ) (engaged after shown : List ℕ) (number ticks i : ℕ)
      → Ran plan yard roll budget engaged after shown number ticks i → 0 < number
      → (after ≡ yard) × (shown ≡ engaged) × (ticks ≡ 0)
  pub read : (file plan after : List ℕ) (number i : ℕ) → Taken file plan after number i → 0 < number → after ≡ plan
  pub write :
      (plan file after : List ℕ) (number n i : ℕ) → Wrote plan file after number n i → 0 < number → (after ≡ file) × (n ≡ 0)
  pub list :
      (plan yard roll : List ℕ) (first : ℕ) (out after text : List ℕ) (number ticks n i : ℕ)
      → Lined plan yard roll first out after text number ticks n i → 0 < number
      → (after ≡ yard) × (text ≡ out) × (ticks ≡ 0) × (n ≡ 0)

-- What one call leaves, the next one reads: where the number is 0, the yard or the plan of document 01's answer. What was
-- written is read as the plan, and a file without notes that was read into a plan is written from it byte for byte
-- (`chained`).
pub record Chained : Type 0 where
  pub fresh : (plan yard after : List ℕ) (i : ℕ) → Freshened plan yard after 0 i → yard_of after ≡ fresh_yard
  pub tick :
      (plan yard : List ℕ) (x : Record) (after : List ℕ) (down device i : ℕ)
      → Ticked plan yard x after 0 down device i
      → yard_of after ≡ (tick_answer (whole_plan plan) (yard_of yard) x).yard
  pub run :
      (plan yard roll : List ℕ) (budget : ℕ) (engaged after shown : List ℕ) (ticks i : ℕ)
      → Ran plan yard roll budget engaged after shown 0 ticks i
      → yard_of after ≡ (run_answer (whole_plan plan) (yard_of yard) roll budget engaged).yard
  pub read : (file plan after : List ℕ) (i : ℕ) → Taken file plan after 0 i → whole_plan after ≡ (read_answer file).plan
  pub write :
      (plan file after : List ℕ) (n i : ℕ) → Wrote plan file after 0 n i → ReadAs (take n after) (whole_plan plan)
  pub copy :
      (file plan left : List ℕ) (i : ℕ) → AllBytes file → WithoutNotes file → Taken file plan left 0 i
      → (out after : List ℕ) (n j : ℕ) → Wrote left out after 0 n j → take n after ≡ file
  pub list :
      (plan yard roll : List ℕ) (first : ℕ) (out after text : List ℕ) (ticks n i : ℕ)
      → Lined plan yard roll first out after text 0 ticks n i
      → yard_of after ≡ (list_answer (whole_plan plan) (yard_of yard) roll first (length out)).yard

-- What the numbers of a letter and of a piece stand for, for a caller who reads them.
unfoldable pub letter_told : ℕ → ℕ → Option Down
letter_told number i =
    cond (eqb number 1) (down.LeaseReq i)
    (cond (eqb number 2) (down.Grant i)
    (cond (eqb number 3) (down.Cancel i)
    (cond (eqb number 4) (down.Abort i) down.none)))

unfoldable pub piece_told : ℕ → ℕ → ℕ → Piece
piece_told which s n = cond (eqb which 0) (InFile s n) (InRoll s n)

-- Nothing is lost in them: each letter and each piece is had back (`told_apart`).
pub record ToldApart : Type 0 where
  pub letter : (l : Option Down) → letter_told (down_number l) (down_index l) ≡ l
  pub piece : (x : Piece) → piece_told (which_of x) (start_of x) (length_of x) ≡ x
