-- How a text is read: byte by byte, from the yard's line to the last device's.
use Rattle.std.specs.Prelude.{ℕ, zero, suc, ◌+◌, ◌-◌, ◌*◌, min, Bool, not, cond, ◌&&◌, ◌||◌, List, [], ◌∷◌, leb, ltb, eqb, get_or, set}
use Rattle.rules.specs.declared.Plan.{Plan}
use Rattle.rules.specs.declared.Slot.{Slot}
use Rattle.rules.specs.Verdict.{Verdict}
use Rattle.rules.specs.Verdict.{refused_if, first_of, if_accepted}
use Rattle.rules.specs.Plan.{empty_slot}
use Rattle.rules.specs.Table.{plan_verdict}
use Rattle.planfile_rules.specs.File.{empty_plan}
use Rattle.plantext_rules.specs.declared.Stand.{Stand}
use Rattle.plantext_rules.specs.declared.Stand.TheVariants as stand
use Rattle.plantext_rules.specs.declared.Cursor.{Cursor}
use Rattle.plantext_rules.specs.declared.Reader.{Reader}
use Rattle.plantext_rules.specs.declared.TextAnswer.{TextAnswer}

-- Blanks and tabs.
abbrev pub is_blank : ℕ → Bool
is_blank b = eqb b 32 || eqb b 9

abbrev pub is_digit : ℕ → Bool
is_digit b = leb 48 b && leb b 57

-- Stands by number, to compare them.
abbrev pub stand_number : Stand → ℕ
stand_number stand.LineStart = 0
stand_number stand.Comment = 1
stand_number stand.Name = 2
stand_number stand.Wait = 3
stand_number stand.Number = 4
stand_number stand.Gap = 5
stand_number stand.Return = 6
stand_number stand.Refused = 7

abbrev pub stands_at : Stand → Stand → Bool
stands_at there s = eqb (stand_number s) (stand_number there)

-- The letter of a line's field: the yard's line has N, W, B, Q, from field 1 on; a device's has F, E, R, X, G, S, behind its
-- own number, which is field 0. Any other field has none: 256 is no byte.
unfoldable pub letter_of : ℕ → ℕ → ℕ
letter_of device field =
    cond (eqb device 0) (get_or (256 ∷ 78 ∷ 87 ∷ 66 ∷ 81 ∷ []) field 256)
    (get_or (256 ∷ 70 ∷ 69 ∷ 82 ∷ 88 ∷ 71 ∷ 83 ∷ []) field 256)

abbrev pub first_field : ℕ → ℕ
first_field device = cond (eqb device 0) 1 0

-- All fields of a line have been read. The last device's G and S may be left out.
unfoldable pub complete : ℕ → Cursor → Bool
complete n c =
    cond (eqb c.device 0) (eqb c.field 5) (eqb c.field 7 || (eqb c.field 5 && eqb c.device n))

-- A line is still to come: the yard's, or that of one of n devices.
abbrev pub wanted : ℕ → Cursor → Bool
wanted n c = eqb c.device 0 || leb c.device n

abbrev pub goes : Stand → Cursor → Cursor
goes s c = record {
  stand = s;
  line = c.line;
  device = c.device;
  field = c.field;
  digits = c.digits;
  value = c.value;
}

abbrev pub refused : Cursor → Cursor
refused = goes stand.Refused

-- The next line, of the same device (a comment or an empty line has ended), or of the next.
abbrev pub next_line : ℕ → ℕ → Cursor → Cursor
next_line device field c = record { stand = stand.LineStart; line = c.line + 1; device = device; field = field; digits = 0; value = 0 }

-- A line has ended: it was empty, or it has all its fields.
unfoldable pub line_ends : ℕ → Cursor → Cursor
line_ends n c =
    cond (eqb c.field (first_field c.device)) (next_line c.device c.field c)
    (cond (complete n c) (next_line (c.device + 1) 0 c) (refused c))

-- Decimal numbers of at most 5 digits.
abbrev pub counts : ℕ → ℕ → Cursor → Cursor
counts digits value c = record {
  stand = stand.Number;
  line = c.line;
  device = c.device;
  field = c.field;
  digits = digits;
  value = value;
}

abbrev pub first_digit : ℕ → Cursor → Cursor
first_digit b c = counts 1 (b - 48) c

abbrev pub next_digit : ℕ → Cursor → Cursor
next_digit b c = cond (ltb c.digits 5) (counts (c.digits + 1) (10 * c.value + (b - 48)) c) (refused c)

-- A number is over. A device's line starts with its own number.
abbrev pub owned : Cursor → Bool
owned c = not (eqb c.field 0) || eqb c.value c.device

abbrev pub next_field : Cursor → Cursor
next_field c = record {
  stand = c.stand;
  line = c.line;
  device = c.device;
  field = c.field + 1;
  digits = c.digits;
  value = c.value;
}

-- Behind a field comes a blank, or the line's end: LF or CR LF.
unfoldable pub field_ends : ℕ → ℕ → Cursor → Cursor
field_ends n b c =
    cond (is_blank b) (goes stand.Gap c)
    (cond (eqb b 10) (line_ends n c) (cond (eqb b 13) (goes stand.Return c) (refused c)))

-- A field starts with its letter, a device's line with a number.
unfoldable pub field_starts : ℕ → Cursor → Cursor
field_starts b c =
    cond (eqb c.field 0) (cond (is_digit b) (first_digit b c) (refused c))
    (cond (eqb b (letter_of c.device c.field)) (goes stand.Name c) (refused c))

-- A line that starts with # and an empty line are skipped.
unfoldable pub line_starts : ℕ → ℕ → Cursor → Cursor
line_starts n b c =
    cond (eqb b 35) (goes stand.Comment c)
    (cond (eqb b 10) (line_ends n c)
    (cond (eqb b 13) (goes stand.Return c) (cond (wanted n c) (field_starts b c) (refused c))))

-- A comment goes on to the line's end.
abbrev pub in_comment : ℕ → Cursor → Cursor
in_comment b c = cond (eqb b 10) (next_line c.device c.field c) c

-- One or more blanks or tabs stand between a letter and its number, and between a number and the next letter.
abbrev pub behind_name : ℕ → Cursor → Cursor
behind_name b c = cond (is_blank b) (goes stand.Wait c) (refused c)

abbrev pub in_wait : ℕ → Cursor → Cursor
in_wait b c = cond (is_blank b) c (cond (is_digit b) (first_digit b c) (refused c))

abbrev pub in_number : ℕ → ℕ → Cursor → Cursor
in_number n b c = cond (is_digit b) (next_digit b c) (cond (owned c) (field_ends n b (next_field c)) (refused c))

abbrev pub in_gap : ℕ → Cursor → Cursor
in_gap b c = cond (is_blank b) c (field_starts b c)

-- Behind a CR comes LF.
abbrev pub behind_return : ℕ → ℕ → Cursor → Cursor
behind_return n b c = cond (eqb b 10) (line_ends n c) (refused c)

-- Where a reader stands behind a byte, if the plan has n devices so far.
abbrev pub next : ℕ → Stand → ℕ → Cursor → Cursor
next n stand.LineStart b c = line_starts n b c
next n stand.Comment b c = in_comment b c
next n stand.Name b c = behind_name b c
next n stand.Wait b c = in_wait b c
next n stand.Number b c = in_number n b c
next n stand.Gap b c = in_gap b c
next n stand.Return b c = behind_return n b c
next n stand.Refused b c = c

-- A plan's numbers have two bytes. One above 65,535 is kept as that, which the plan check refuses likewise.
abbrev pub two_bytes_of : ℕ → ℕ
two_bytes_of value = min value 65535

unfoldable pub with_time : ℕ → ℕ → Slot → Slot
with_time field t s = record {
  F = cond (eqb field 1) t s.F;
  E = cond (eqb field 2) t s.E;
  R = cond (eqb field 3) t s.R;
  X = cond (eqb field 4) t s.X;
  G = cond (eqb field 5) t s.G;
  S = cond (eqb field 6) t s.S;
}

unfoldable pub with_yard_number : ℕ → ℕ → Plan → Plan
with_yard_number field t p = record {
  N = cond (eqb field 1) t p.N;
  W = cond (eqb field 2) t p.W;
  B = cond (eqb field 3) t p.B;
  Q = cond (eqb field 4) t p.Q;
  slots = p.slots;
}

unfoldable pub with_device_number : ℕ → ℕ → ℕ → Plan → Plan
with_device_number k field t p = record {
  N = p.N;
  W = p.W;
  B = p.B;
  Q = p.Q;
  slots = set p.slots k (with_time field t (get_or p.slots k empty_slot));
}

-- The plan with the number of a field. There is room for eight devices.
unfoldable pub with_number : ℕ → ℕ → ℕ → Plan → Plan
with_number zero field t p = with_yard_number field t p
with_number (suc k) field t p = with_device_number k field t p

-- A number is over at the first byte that is no digit.
abbrev pub number_ends : Stand → ℕ → Bool
number_ends s b = stands_at stand.Number s && not (is_digit b)

unfoldable pub reads : Reader → ℕ → Reader
reads r b =
    let c = r.cursor in
    record {
      cursor = next r.plan.N c.stand b c;
      plan = cond (number_ends c.stand b) (with_number c.device c.field (two_bytes_of c.value) r.plan) r.plan;
    }

unfoldable pub read_on : Reader → List ℕ → Reader
read_on r [] = r
read_on r (b ∷ bs) = read_on (reads r b) bs

abbrev pub from_start : Reader
from_start = record {
  cursor = record { stand = stand.LineStart; line = 1; device = 0; field = 1; digits = 0; value = 0 };
  plan = empty_plan;
}

-- The last line may lack its end.
unfoldable pub text_ends : Reader → Reader
text_ends r = cond (stands_at stand.LineStart r.cursor.stand) r (reads r 10)

-- Anything else is refused: 28, its index the line's number from 1 (missing lines: the number after the last).
unfoldable pub lines_verdict : Reader → Verdict
lines_verdict r = refused_if (stands_at stand.Refused r.cursor.stand || wanted r.plan.N r.cursor) 28 r.cursor.line

-- The plan of a text: 28, or the plan check's verdict; an all-zero plan when refused.
unfoldable pub text_answer : List ℕ → TextAnswer
text_answer text =
    let r = text_ends (read_on from_start text) in
    let v = first_of (lines_verdict r) (plan_verdict r.plan) in
    record { verdict = v; plan = if_accepted v r.plan empty_plan }
