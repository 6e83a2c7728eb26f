-- Document 02, request 01: a plan written as a file. Body first, trailer straight after it, no notes; the numbers of each
-- stand where document 01, "The plan file", has them.
use Rattle.std.specs.Prelude.{ℕ, ◌+◌, ◌-◌, ◌*◌, ◌≡◌, cond, List, [], ◌++◌, leb, ltb, length, drop, get_or}
use Rattle.laws.specs.Lists.{joined}
use Rattle.numbers.specs.Bytes.{two_bytes, four_bytes}
use Rattle.rules.specs.declared.Plan.{Plan}
use Rattle.rules.specs.declared.Slot.{Slot}
use Rattle.rules.specs.Verdict.{Verdict}
use Rattle.rules.specs.Verdict.{Accepted}
use Rattle.rules.specs.Verdict.{if_accepted, refused_if, first_of}
use Rattle.rules.specs.Plan.{empty_slot}
use Rattle.rules.specs.Table.{plan_verdict}
use Rattle.planfile_rules.specs.declared.Trailer.{Trailer}
use Rattle.planfile_rules.specs.declared.WriteAnswer.{WriteAnswer}
use Rattle.planfile_rules.specs.File.{last_ten, the_mark, body_of, read_answer, body_fits, plan_size}

-- Per device F, E, R, X, G, S, two bytes each.
unfoldable pub slot_bytes : Slot → List ℕ
slot_bytes s =
    two_bytes s.F ++ two_bytes s.E ++ two_bytes s.R ++ two_bytes s.X ++ two_bytes s.G ++ two_bytes s.S

-- Those of the first n devices.
abbrev pub slots_bytes : List Slot → ℕ → List ℕ
slots_bytes slots n = joined (λ i. slot_bytes (get_or slots (i - 1) empty_slot)) n

-- A body for n devices: N, W, B, Q, two bytes each, then per device.
unfoldable pub body_bytes : Plan → ℕ → List ℕ
body_bytes p n = two_bytes p.N ++ two_bytes p.W ++ two_bytes p.B ++ two_bytes p.Q ++ slots_bytes p.slots n

-- What is written of it into a buffer of so many bytes: all, or nothing.
unfoldable pub body_written : Plan → ℕ → ℕ → List ℕ
body_written p n room = cond (body_fits n room) (body_bytes p n) []

-- Trailer: body length (2), version (2), distance back from the file's end to the body (4), bytes 59 50 hex.
unfoldable pub trailer_bytes : Trailer → List ℕ
trailer_bytes t = two_bytes t.size ++ two_bytes t.version ++ four_bytes t.back ++ two_bytes t.mark

-- The trailer for n devices: a body of 8 + 12 × n bytes, version 1; from the file's end back to the body it is all of the
-- body and the trailer's 10 bytes.
unfoldable pub trailer_for : ℕ → Trailer
trailer_for n = record { size = 8 + 12 * n; version = 1; back = 8 + 12 * n + 10; mark = the_mark }

-- Body first, trailer straight after it, no notes.
unfoldable pub file_bytes : Plan → List ℕ
file_bytes p = body_bytes p p.N ++ trailer_bytes (trailer_for p.N)

-- 20 when the buffer is shorter than 18 + 12 × N; its index is 0.
abbrev pub room_verdict : ℕ → ℕ → Verdict
room_verdict n room = refused_if (ltb room (18 + 12 * n)) 20 0

-- Refusals: 1 to 9 first, then 20.
unfoldable pub write_verdict : Plan → ℕ → Verdict
write_verdict p room = first_of (plan_verdict p) (room_verdict p.N room)

-- The answer: the verdict, and the length written; 0 where it refuses.
unfoldable pub write_answer : Plan → ℕ → WriteAnswer
write_answer p room =
    let v = write_verdict p room in record { verdict = v; length = if_accepted v (length (file_bytes p)) 0 }

-- The buffer afterwards: the file, and bytes past its end stay; or the buffer as it was.
unfoldable pub write_buffer : Plan → List ℕ → List ℕ
write_buffer p buffer =
    if_accepted (write_verdict p (length buffer)) (file_bytes p ++ drop (length (file_bytes p)) buffer) buffer

-- These bytes, as a file, are read as this plan.
abbrev pub ReadAs : List ℕ → Plan → Type 0
ReadAs file p = read_answer file ≡ record { verdict = Accepted; plan = p }

-- A file without notes is its body and its trailer, and nothing else.
abbrev pub WithoutNotes : List ℕ → Type 0
WithoutNotes file = file ≡ body_of file ++ last_ten file

-- A plan with all eight slots, as callers in other languages lend it, not checked here. File.antt's `whole_plan` reads them.
abbrev pub plan_bytes : Plan → List ℕ
plan_bytes p = body_bytes p 8

-- What is written of them into a buffer of so many bytes: all, or nothing.
unfoldable pub plan_written : Plan → ℕ → List ℕ
plan_written p room = cond (leb plan_size room) (plan_bytes p) []
