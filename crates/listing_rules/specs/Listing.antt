-- Document 01, "Worked yards": the lines of a run, tick by tick, and what a listing writes of them into one buffer.
use Rattle.std.specs.Prelude.{ℕ, zero, suc, ◌+◌, Bool, cond, List, [], ◌∷◌, ◌++◌, ltb, leb, length, take, drop}
use Rattle.laws.specs.Tests.{lowest, all_of}
use Rattle.rules.specs.declared.Plan.{Plan}
use Rattle.rules.specs.declared.Yard.{Yard}
use Rattle.rules.specs.Verdict.{if_accepted}
use Rattle.rules.specs.Tick.{sent}
use Rattle.rules.specs.Tick.Input.{down_lost}
use Rattle.rules.specs.Run.{records, record_at, after, roll_verdict}
use Rattle.listing_rules.specs.declared.Listed.{Listed}
use Rattle.listing_rules.specs.Text.{line_text, header_text}

-- The line of tick k + 1 of a roll, whose number is first + k + 1: the yard at the tick's end, and the letter that was sent in it.
unfoldable pub tick_line : Plan → Yard → List ℕ → ℕ → ℕ → List ℕ
tick_line p y roll first k =
    line_text (first + k + 1) p.N (after p y roll (suc k))
    (sent p (after p y roll k) (record_at roll k)).down
    (down_lost (record_at roll k))

-- The lines of the first k ticks.
unfoldable pub lines_text : Plan → Yard → List ℕ → ℕ → ℕ → List ℕ
lines_text p y roll first zero = []
lines_text p y roll first (suc k) = lines_text p y roll first k ++ tick_line p y roll first k

-- No line is longer: a tick is begun only where so many bytes of room are left.
abbrev pub line_room : ℕ
line_room = 64

-- Behind the first k lines there is no room for one more.
abbrev pub full : Plan → Yard → List ℕ → ℕ → ℕ → ℕ → Bool
full p y roll first room k = ltb room (length (lines_text p y roll first k) + line_room)

-- The ticks done: all of the roll, or those before the first that has no room; none when the roll is refused.
unfoldable pub ticks_listed : Plan → Yard → List ℕ → ℕ → ℕ → ℕ
ticks_listed p y roll first room =
    if_accepted (roll_verdict p y roll) (lowest (full p y roll first room) (records roll)) 0

-- The answer: where the listing stands, so that it goes on from that yard with the rest of the roll. A refusal answers the
-- state it was given, 0 ticks and no text.
unfoldable pub list_answer : Plan → Yard → List ℕ → ℕ → ℕ → Listed
list_answer p y roll first room =
    let k = ticks_listed p y roll first room in
    record {
      verdict = roll_verdict p y roll;
      yard = after p y roll k;
      ticks = k;
      length = length (lines_text p y roll first k);
    }

-- The buffer afterwards: the lines of the ticks done; later bytes keep their value.
unfoldable pub list_buffer : Plan → Yard → List ℕ → ℕ → List ℕ → List ℕ
list_buffer p y roll first buffer =
    let text = lines_text p y roll first (ticks_listed p y roll first (length buffer)) in
    text ++ drop (length text) buffer

-- The header is written from `at` on where a line has room there and n is a plan's number of devices; else nothing is.
unfoldable pub header_written : ℕ → ℕ → ℕ → List ℕ
header_written n room at = cond (all_of (leb n 8 ∷ leb (at + line_room) room ∷ [])) (header_text n) []

unfoldable pub header_buffer : ℕ → List ℕ → ℕ → List ℕ
header_buffer n buffer at =
    let text = header_written n (length buffer) at in
    take at buffer ++ text ++ drop (at + length text) buffer
