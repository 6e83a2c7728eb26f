-- Document 01, "Run": plan, state, roll of records, a budget of ticks and a buffer.
use Rattle.std.specs.Prelude.{ℕ, zero, suc, ◌+◌, ◌*◌, ◌/◌, ◌%◌, min, not, List, [], ◌∷◌, ◌++◌, ltb, eqb, length, get_or, drop}
use Rattle.laws.specs.Tests.{lowest}
use Rattle.laws.specs.Bits.{of_bits}
use Rattle.rules.specs.declared.Plan.{Plan}
use Rattle.rules.specs.declared.Yard.{Yard}
use Rattle.rules.specs.declared.Record.{Record}
use Rattle.rules.specs.Verdict.{Verdict}
use Rattle.rules.specs.declared.RunAnswer.{RunAnswer}
use Rattle.rules.specs.Verdict.{refused_if, first_refusal, if_accepted}
use Rattle.rules.specs.Table.{plan_verdict}
use Rattle.rules.specs.Yard.{device, engaged, state_verdict}
use Rattle.rules.specs.Tick.Input.{valid_record}
use Rattle.rules.specs.Tick.{tick}

-- A record is four bytes.
abbrev pub record_size : ℕ
record_size = 4

-- How many records a roll has, and how many bytes are left over behind the last.
abbrev pub records : List ℕ → ℕ
records roll = length roll / record_size

abbrev pub left_over : List ℕ → ℕ
left_over roll = length roll % record_size

-- Where record k starts, counted from 0, and the record.
abbrev pub record_start : ℕ → ℕ
record_start k = record_size * k

unfoldable pub record_at : List ℕ → ℕ → Record
record_at roll k =
    record {
      command = get_or roll (record_start k) 0;
      flags = get_or roll (record_start k + 1) 0;
      willing = get_or roll (record_start k + 2) 0;
      lost = get_or roll (record_start k + 3) 0;
    }

-- The state after the first k ticks of a roll.
unfoldable pub after : Plan → Yard → List ℕ → ℕ → Yard
after p y roll zero = y
after p y roll (suc k) = tick p (after p y roll k) (record_at roll k)

-- Bit i-1 set when device i is engaged.
unfoldable pub engaged_byte : Plan → Yard → ℕ
engaged_byte p y = of_bits (λ k. engaged (device y (k + 1)).place) p.N

-- One byte a tick, for the first k ticks, each of the state at that tick's end.
unfoldable pub engaged_bytes : Plan → Yard → List ℕ → ℕ → List ℕ
engaged_bytes p y roll zero = []
engaged_bytes p y roll (suc k) = engaged_bytes p y roll k ++ (engaged_byte p (after p y roll (suc k)) ∷ [])

-- It does the smaller of budget and records.
abbrev pub ticks_to_do : List ℕ → ℕ → ℕ
ticks_to_do roll budget = min budget (records roll)

-- Roll length not a multiple of 4 (12, index 0).
abbrev pub length_verdict : List ℕ → Verdict
length_verdict roll = refused_if (not (eqb (left_over roll) 0)) 12 0

-- The first record that is not valid, counted from 0; the number of records where there is none.
abbrev pub first_bad : Plan → List ℕ → ℕ
first_bad p roll = lowest (λ k. not (valid_record p (record_at roll k))) (records roll)

-- Any bad record in the whole roll (10, first): its index is the tick's number in the roll from 1.
unfoldable pub records_verdict : Plan → List ℕ → Verdict
records_verdict p roll = refused_if (ltb (first_bad p roll) (records roll)) 10 (first_bad p roll + 1)

-- A roll is refused in this order: plan (1 to 9), state (11), roll length (12), records (10).
unfoldable pub roll_verdict : Plan → Yard → List ℕ → Verdict
roll_verdict p y roll = first_refusal (plan_verdict p ∷ state_verdict p y ∷ length_verdict roll ∷ records_verdict p roll ∷ [])

-- Buffer shorter than the ticks to do (13, index 0).
abbrev pub buffer_verdict : List ℕ → ℕ → List ℕ → Verdict
buffer_verdict roll budget buffer = refused_if (ltb (length buffer) (ticks_to_do roll budget)) 13 0

-- A run is refused as its roll is, and then for its buffer (13).
unfoldable pub run_verdict : Plan → Yard → List ℕ → ℕ → List ℕ → Verdict
run_verdict p y roll budget buffer = first_refusal (roll_verdict p y roll ∷ buffer_verdict roll budget buffer ∷ [])

-- The ticks done: none when refused.
abbrev pub ticks_done : Verdict → List ℕ → ℕ → ℕ
ticks_done v roll budget = if_accepted v (ticks_to_do roll budget) 0

-- A refusal answers its number and index, the state it was given and 0 ticks done: 0 ticks lead from a state to itself.
unfoldable pub run_answer : Plan → Yard → List ℕ → ℕ → List ℕ → RunAnswer
run_answer p y roll budget buffer =
    let v = run_verdict p y roll budget buffer in
    let k = ticks_done v roll budget in
    record { verdict = v; yard = after p y roll k; ticks = k }

-- The buffer afterwards: one byte a tick done; later bytes keep their value, and all of them when refused.
unfoldable pub run_buffer : Plan → Yard → List ℕ → ℕ → List ℕ → List ℕ
run_buffer p y roll budget buffer =
    let k = ticks_done (run_verdict p y roll budget buffer) roll budget in
    engaged_bytes p y roll k ++ drop k buffer
