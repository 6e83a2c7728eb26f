-- What keeps the definitions honest: statements for a reader to hold against document 01, each proved in proofs/ under the
-- name that stands beside it.
use Rattle.std.specs.Prelude.{ℕ, ◌+◌, ◌-◌, ◌*◌, ◌≤◌, ◌<◌, ◌≡◌, ◌↔◌, ◌⊎◌, List, length, take, get_or}
use Rattle.numbers.specs.Bytes.{AllBytes}
use Rattle.rules.specs.declared.Plan.{Plan}
use Rattle.rules.specs.Verdict.{Accepted, Refused}
use Rattle.rules.specs.Plan.{slot, empty_slot}
use Rattle.rules.specs.Table.{plan_verdict}
use Rattle.rules.specs.Worked.{P, laser}
use Rattle.planfile_rules.specs.declared.Trailer.{Trailer}
use Rattle.planfile_rules.specs.File.{last_ten, the_mark, body_of, slot_in, plan_in, empty_plan, trailer_verdict, read_answer, whole_plan}
use Rattle.planfile_rules.specs.Writing.{file_bytes, write_verdict, write_answer, write_buffer, ReadAs, WithoutNotes, plan_bytes}
use Rattle.planfile_rules.specs.Worked.{bare, noted, laser_file}

-- What is asked of a trailer in a file of len bytes, in the order of the refusals.
pub record TrailerHolds (len : ℕ) (t : Trailer) : Type 0 where
  -- 14: 42 to 65,536 bytes
  pub bytes : (42 ≤ len) × (len ≤ 65536)
  -- 15: the last two bytes
  pub mark : t.mark ≡ the_mark
  -- 16: version 1
  pub version : t.version ≡ 1
  -- 17: the body length is 8 + 12 × n for n in 2..8
  pub devices : (n : ℕ) × (2 ≤ n) × (n ≤ 8) × (t.size ≡ 8 + 12 * n)
  -- 18: the body lies within the file, before the trailer
  pub body : (t.size + 10 ≤ t.back) × (t.back ≤ len)

-- A trailer is taken exactly when it meets that (`trailer_exactly`).
abbrev pub TrailerExactly : Type 0
TrailerExactly = (len : ℕ) (t : Trailer) → (trailer_verdict len t ≡ Accepted) ↔ TrailerHolds len t

-- Device i's times stand in the body after those of the devices before it; slots above n are all zero (`slots_read`).
abbrev pub SlotsRead : Type 0
SlotsRead =
    (n : ℕ) (body : List ℕ) (i : ℕ) → 1 ≤ i → i ≤ 8
    → (i ≤ n → slot (plan_in n body) i ≡ slot_in body (8 + 12 * (i - 1))) × (n < i → slot (plan_in n body) i ≡ empty_slot)

-- A plan that is read is one that the plan check accepts, and its slots above N are all zero (`read_accepts`).
abbrev pub ReadAccepts : Type 0
ReadAccepts =
    (file : List ℕ) → (read_answer file).verdict ≡ Accepted
    → (plan_verdict (read_answer file).plan ≡ Accepted)
    × ((i : ℕ) → (read_answer file).plan.N < i → i ≤ 8 → slot (read_answer file).plan i ≡ empty_slot)

-- A file is refused with 14 to 19, index 0, or as the plan check refuses, with 2 to 9: 1 never comes (`refused_numbers`).
abbrev pub RefusedNumbers : Type 0
RefusedNumbers =
    (file : List ℕ) (k i : ℕ) → (read_answer file).verdict ≡ Refused k i
    → ((14 ≤ k) × (k ≤ 19) × (i ≡ 0)) ⊎ ((2 ≤ k) × (k ≤ 9))

-- A refused file gives an all-zero plan (`refused_empty`).
abbrev pub RefusedEmpty : Type 0
RefusedEmpty = (file : List ℕ) (k i : ℕ) → (read_answer file).verdict ≡ Refused k i → (read_answer file).plan ≡ empty_plan

-- Notes are free: two files of one length, with the same last ten bytes and the same body, are answered alike (`notes_free`).
abbrev pub NotesFree : Type 0
NotesFree =
    (f g : List ℕ) → length f ≡ length g → last_ten f ≡ last_ten g → body_of f ≡ body_of g → read_answer f ≡ read_answer g

-- Plan P is read from a file without notes, and from one with notes before and after the body; so are the laser settings,
-- whose G and S differ. Each is written as its file without notes (`worked_files`).
pub record WorkedFiles : Type 0 where
  pub read : ReadAs bare P × ReadAs noted P × ReadAs laser_file laser
  pub written : (file_bytes P ≡ bare) × (file_bytes laser ≡ laser_file)

-- What a buffer is taken or refused for: 1 to 9 as the plan check has it, whatever the room; then 20 at 0 with less room than
-- the file is long, which is 18 + 12 × N (`write_exactly`).
pub record WriteExactly (p : Plan) (room : ℕ) : Type 0 where
  pub long : length (file_bytes p) ≡ 18 + 12 * p.N
  pub first : (k i : ℕ) → plan_verdict p ≡ Refused k i → write_verdict p room ≡ Refused k i
  pub short : plan_verdict p ≡ Accepted → room < length (file_bytes p) → write_verdict p room ≡ Refused 20 0
  pub taken : plan_verdict p ≡ Accepted → length (file_bytes p) ≤ room → write_verdict p room ≡ Accepted

-- What the buffer holds afterwards: as it was where it is refused, and then no length is answered; else the file in front,
-- and bytes past its end stay (`write_leaves`).
pub record WriteLeaves (p : Plan) (buffer : List ℕ) : Type 0 where
  pub refused :
      (k i : ℕ) → write_verdict p (length buffer) ≡ Refused k i
      → (write_buffer p buffer ≡ buffer) × ((write_answer p (length buffer)).length ≡ 0)
  pub front :
      write_verdict p (length buffer) ≡ Accepted
      → take (write_answer p (length buffer)).length (write_buffer p buffer) ≡ file_bytes p
  pub past :
      write_verdict p (length buffer) ≡ Accepted
      → (k : ℕ) → length (file_bytes p) ≤ k → get_or (write_buffer p buffer) k 0 ≡ get_or buffer k 0

-- Reading what was written gives the plan back, for every accepted plan, and it was written without notes; every plan has
-- eight slots (`write_then_read`).
abbrev pub WriteThenRead : Type 0
WriteThenRead =
    (p : Plan) → length p.slots ≡ 8 → plan_verdict p ≡ Accepted → ReadAs (file_bytes p) p × WithoutNotes (file_bytes p)

-- Writing what was read from a file without notes gives its bytes back, for every such file that is taken; every file is
-- bytes (`read_then_write`).
abbrev pub ReadThenWrite : Type 0
ReadThenWrite =
    (file : List ℕ) → AllBytes file → WithoutNotes file → (read_answer file).verdict ≡ Accepted
    → file_bytes (read_answer file).plan ≡ file

-- A plan's 104 bytes are read as that plan, accepted or not (`plan_back`).
abbrev pub PlanBack : Type 0
PlanBack = (p : Plan) → length p.slots ≡ 8 → whole_plan (plan_bytes p) ≡ p
