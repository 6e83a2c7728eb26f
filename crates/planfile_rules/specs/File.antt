-- Document 01, "The plan file": what a file says, and what its reader answers. Notes may surround the body.
-- Of a trailer, `size` is the body length, `back` the distance back from the file's end to the body, `mark` its last two bytes.
use Rattle.std.specs.Prelude.{ℕ, ◌+◌, ◌-◌, ◌*◌, ◌/◌, Bool, not, cond, ◌&&◌, ◌||◌, List, [], ◌∷◌, leb, ltb, eqb, length, take, drop}
use Rattle.laws.specs.Lists.{tabulate, swept}
use Rattle.rules.specs.declared.Plan.{Plan}
use Rattle.rules.specs.declared.Slot.{Slot}
use Rattle.rules.specs.Verdict.{Verdict}
use Rattle.rules.specs.Verdict.{if_accepted, refused_if, first_of, first_refusal}
use Rattle.rules.specs.Plan.{empty_slot}
use Rattle.rules.specs.Table.{plan_verdict}
use Rattle.planfile_rules.specs.declared.Trailer.{Trailer}
use Rattle.planfile_rules.specs.declared.ReadAnswer.{ReadAnswer}
use Rattle.planfile_rules.specs.declared.Span.{Span}
use Rattle.numbers.specs.Bytes.{num16, num32}

-- The trailer is the last 10 bytes; of a shorter file, which is refused, all.
abbrev pub last_ten : List ℕ → List ℕ
last_ten file = drop (length file - 10) file

-- Trailer: body length (2), version (2), distance back from the file's end to the body (4), bytes 59 50 hex.
unfoldable pub trailer_in : List ℕ → Trailer
trailer_in ten = record { size = num16 ten 0; version = num16 ten 2; back = num32 ten 4; mark = num16 ten 8 }

abbrev pub trailer_of : List ℕ → Trailer
trailer_of file = trailer_in (last_ten file)

-- The bytes 59 50 hex, as a number.
abbrev pub the_mark : ℕ
the_mark = 0x59 + 256 * 0x50

-- The body starts wherever the trailer says.
abbrev pub body_at : Trailer → List ℕ → List ℕ
body_at t file = take t.size (drop (length file - t.back) file)

abbrev pub body_of : List ℕ → List ℕ
body_of file = body_at (trailer_of file) file

-- The n for which a body length is 8 + 12 × n, where there is one.
unfoldable pub devices_for : ℕ → ℕ
devices_for size = (size - 8) / 12

-- The body length is 8 + 12 × n for n in 2..8.
unfoldable pub is_body_size : ℕ → Bool
is_body_size size = let n = devices_for size in leb 2 n && leb n 8 && eqb size (8 + 12 * n)

-- Per device F, E, R, X, G, S, two bytes each, from a place of the body.
unfoldable pub slot_in : List ℕ → ℕ → Slot
slot_in body at =
    record {
      F = num16 body at;
      E = num16 body (at + 2);
      R = num16 body (at + 4);
      X = num16 body (at + 6);
      G = num16 body (at + 8);
      S = num16 body (at + 10);
    }

-- The slots of n devices, each where the body has it; those above n are all zero.
unfoldable pub slots_in : ℕ → List ℕ → List Slot
slots_in n body = swept (λ i. slot_in body (8 + 12 * (i - 1))) (λ i. empty_slot) n 8

-- Body: N, W, B, Q, then per device.
unfoldable pub plan_in : ℕ → List ℕ → Plan
plan_in n body =
    record { N = num16 body 0; W = num16 body 2; B = num16 body 4; Q = num16 body 6; slots = slots_in n body }

abbrev pub plan_of : List ℕ → Plan
plan_of file = plan_in (devices_for (trailer_of file).size) (body_of file)

-- A plan that is all zero.
unfoldable pub empty_plan : Plan
empty_plan = record { N = 0; W = 0; B = 0; Q = 0; slots = tabulate (λ i. empty_slot) 8 }

-- So many bytes have room for a body of n devices, of which there are at most eight.
abbrev pub body_fits : ℕ → ℕ → Bool
body_fits n room = leb n 8 && leb (8 + 12 * n) room

-- The plan in a body of n devices, not checked here; where they have no room in it, one that is all zero.
unfoldable pub plan_for : ℕ → List ℕ → Plan
plan_for n body = cond (body_fits n (length body)) (plan_in n body) empty_plan

-- Refused in order, index 0. Of the trailer, in a file of so many bytes: 14 to 18.
unfoldable pub trailer_verdict : ℕ → Trailer → Verdict
trailer_verdict len t =
    first_refusal
    (refused_if (ltb len 42 || ltb 65536 len) 14 0
    ∷ refused_if (not (eqb t.mark the_mark)) 15 0
    ∷ refused_if (not (eqb t.version 1)) 16 0
    ∷ refused_if (not (is_body_size t.size)) 17 0
    ∷ refused_if (ltb t.back (t.size + 10) || ltb len t.back) 18 0
    ∷ [])

-- Of a body for n devices: 19, then 2 to 9 as the plan check has them. N is 2 to 8 there, so 1 never comes.
unfoldable pub body_verdict : ℕ → List ℕ → Verdict
body_verdict n body = first_of (refused_if (not (eqb (num16 body 0) n)) 19 0) (plan_verdict (plan_in n body))

abbrev pub file_verdict : List ℕ → Verdict
file_verdict file =
    let t = trailer_of file in
    first_of (trailer_verdict (length file) t) (body_verdict (devices_for t.size) (body_at t file))

-- A refused file gives an all-zero plan.
unfoldable pub answer_of : Verdict → Plan → ReadAnswer
answer_of v p = record { verdict = v; plan = if_accepted v p empty_plan }

unfoldable pub read_answer : List ℕ → ReadAnswer
read_answer file = answer_of (file_verdict file) (plan_of file)

-- Where the body lies: from its distance, as long as the trailer says; nothing at 0 where the trailer is not taken.
unfoldable pub body_span : List ℕ → Span
body_span file =
    let t = trailer_of file in
    if_accepted (trailer_verdict (length file) t)
    (record { start = length file - t.back; len = t.size })
    (record { start = 0; len = 0 })

-- How many bytes a plan with all eight slots takes, as callers in other languages lend it. They are not checked here.
abbrev pub plan_size : ℕ
plan_size = 104

unfoldable pub whole_plan : List ℕ → Plan
whole_plan bytes = cond (eqb (length bytes) plan_size) (plan_in 8 bytes) empty_plan
