-- What a caller sees of each call: the number that it answers, the numbers behind its references, and every lent buffer
-- afterwards. A call that refuses changes no byte of a lent buffer.
use Rattle.std.specs.Prelude.{ℕ, ◌≡◌, List, length, take}
use Rattle.rules.specs.Verdict.{Verdict}
use Rattle.rules.specs.declared.Record.{Record}
use Rattle.rules.specs.Verdict.{number_of, index_of, if_accepted}
use Rattle.rules.specs.Yard.{fresh_yard}
use Rattle.rules.specs.Numbers.{down_number, down_index}
use Rattle.finder_rules.specs.declared.Piece.{Piece}
use Rattle.finder_rules.specs.declared.Piece.TheVariants.{InFile, InRoll}
use Rattle.finder_rules.specs.Piece.{piece}
use Rattle.planfile_rules.specs.File.{whole_plan}
use Rattle.planfile_rules.specs.Writing.{ReadAs, plan_bytes}
use Rattle.layout_rules.specs.Bytes.{yard_bytes}
use Rattle.exports_rules.specs.Asked.{KeptBy, check_for, fresh_for, tick_for, run_for, engaged_for, read_for, write_for, file_for, list_for, text_for}

-- A verdict crosses as its number and its index.
pub record Answered (v : Verdict) (number index : ℕ) : Type 0 where
  pub no : number ≡ number_of v
  pub at : index ≡ index_of v

-- The plan check.
abbrev pub Checked : List ℕ → ℕ → ℕ → Type 0
Checked plan number index = Answered (check_for plan) number index

-- A fresh yard.
pub record Freshened (plan yard after : List ℕ) (number index : ℕ) : Type 0 where
  pub answer : Answered (fresh_for plan (length yard)).verdict number index
  pub bytes : after ≡ if_accepted (fresh_for plan (length yard)).verdict (yard_bytes fresh_yard) yard

-- One tick. The letter that it sends down crosses as its number and the number of the device that it is for.
pub record Ticked (plan yard : List ℕ) (r : Record) (after : List ℕ) (number down device index : ℕ) : Type 0 where
  pub answer : Answered (tick_for plan yard r).verdict number index
  pub letter : down ≡ down_number (tick_for plan yard r).down
  pub to : device ≡ down_index (tick_for plan yard r).down
  pub bytes : after ≡ if_accepted (tick_for plan yard r).verdict (yard_bytes (tick_for plan yard r).yard) yard

-- A run.
pub record Ran (plan yard roll : List ℕ) (budget : ℕ) (engaged after shown_after : List ℕ) (number ticks index : ℕ) : Type 0 where
  pub answer : Answered (run_for plan yard roll budget engaged).verdict number index
  pub done : ticks ≡ (run_for plan yard roll budget engaged).ticks
  pub bytes : after ≡ if_accepted (run_for plan yard roll budget engaged).verdict (yard_bytes (run_for plan yard roll budget engaged).yard) yard
  pub buffer : shown_after ≡ engaged_for plan yard roll budget engaged
  -- from a fresh yard under an accepted plan the engaged bytes keep the promises
  pub promises : KeptBy plan yard shown_after ticks

-- A plan file, read.
pub record Taken (file plan after : List ℕ) (number index : ℕ) : Type 0 where
  pub answer : Answered (read_for file (length plan)).verdict number index
  pub bytes : after ≡ if_accepted (read_for file (length plan)).verdict (plan_bytes (read_for file (length plan)).plan) plan

-- A plan, written as a file.
pub record Wrote (plan file after : List ℕ) (number n index : ℕ) : Type 0 where
  pub answer : Answered (write_for plan (length file)).verdict number index
  pub long : n ≡ (write_for plan (length file)).length
  pub buffer : after ≡ file_for plan file
  -- reading what was written gives the plan back
  pub back : number ≡ 0 → ReadAs (take n after) (whole_plan plan)

-- The refused piece: of the file for 0, of the roll for 1.
abbrev pub which_of : Piece → ℕ
which_of (InFile s n) = 0
which_of (InRoll s n) = 1

abbrev pub start_of : Piece → ℕ
start_of (InFile s n) = s
start_of (InRoll s n) = s

abbrev pub length_of : Piece → ℕ
length_of (InFile s n) = n
length_of (InRoll s n) = n

pub record Found (file roll : List ℕ) (which start n : ℕ) : Type 0 where
  pub slice : which ≡ which_of (piece file roll)
  pub from : start ≡ start_of (piece file roll)
  pub long : n ≡ length_of (piece file roll)

-- A listing's lines.
pub record Lined (plan yard roll : List ℕ) (first : ℕ) (out after text : List ℕ) (number ticks n index : ℕ) : Type 0 where
  pub answer : Answered (list_for plan yard roll first (length out)).verdict number index
  pub done : ticks ≡ (list_for plan yard roll first (length out)).ticks
  pub long : n ≡ (list_for plan yard roll first (length out)).length
  pub bytes : after ≡ if_accepted (list_for plan yard roll first (length out)).verdict (yard_bytes (list_for plan yard roll first (length out)).yard) yard
  pub buffer : text ≡ text_for plan yard roll first out
