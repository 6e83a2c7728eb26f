-- Document 01, "One tick": the input record, four bytes.
use Rattle.std.specs.Prelude.{ℕ, ◌-◌, Bool, not, [], ◌∷◌, leb}
use Rattle.laws.specs.Tests.{all_of}
use Rattle.laws.specs.Bits.{bit, clear_from}
use Rattle.rules.specs.declared.Plan.{Plan}
use Rattle.rules.specs.declared.Record.{Record}
use Rattle.rules.specs.Verdict.{Verdict}
use Rattle.rules.specs.Verdict.{refused_if}

-- Byte 0: command 0 none, 1 request, 2 cancel.
abbrev pub request : ℕ
request = 1

abbrev pub cancel : ℕ
cancel = 2

-- Byte 1: bit 0 approval holds, bit 1 this tick's down letter is lost.
abbrev pub approval : Record → Bool
approval r = bit r.flags 0

abbrev pub down_lost : Record → Bool
down_lost r = bit r.flags 1

-- Byte 2: bit i-1 says participant i is willing.
abbrev pub willing : Record → ℕ → Bool
willing r i = bit r.willing (i - 1)

-- Byte 3: bit i-1 says device i's up letter is lost.
abbrev pub up_lost : Record → ℕ → Bool
up_lost r i = bit r.lost (i - 1)

-- All other bits zero (bits N-1 and up of byte 2, bits N and up of byte 3).
unfoldable pub valid_record : Plan → Record → Bool
valid_record p r =
    all_of
    (leb r.command cancel
    ∷ clear_from 2 r.flags
    ∷ clear_from (p.N - 1) r.willing
    ∷ clear_from p.N r.lost
    ∷ [])

-- Else refusal 10; its index is the tick's number.
unfoldable pub record_verdict : Plan → Record → ℕ → Verdict
record_verdict p r number = refused_if (not (valid_record p r)) 10 number
