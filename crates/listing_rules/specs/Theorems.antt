-- What keeps the definitions honest: statements for a reader to hold against document 01, each proved in proofs/ under the
-- name that stands beside it.
use Rattle.std.specs.Prelude.{ℕ, suc, ◌+◌, ◌-◌, ◌*◌, ◌^◌, ◌≤◌, ◌<◌, ◌≡◌, ◌↔◌, ◌⊎◌, Bool, true, false, List, ◌++◌, length, get_or, drop, Option}
use Rattle.laws.specs.Bits.{bit}
use Rattle.rules.specs.declared.Plan.{Plan}
use Rattle.rules.specs.declared.Yard.{Yard}
use Rattle.rules.specs.declared.Down.{Down}
use Rattle.rules.specs.Downs as down
use Rattle.rules.specs.Verdict.{Accepted}
use Rattle.rules.specs.Numbers.{base_index, down_index}
use Rattle.rules.specs.Run.{record_start, after, engaged_byte, roll_verdict}
use Rattle.text_rules.specs.Decimal.{decimal}
use Rattle.listing_rules.specs.Text.{sup_text, line_text, header_text}
use Rattle.listing_rules.specs.Listing.{tick_line, lines_text, line_room}
use Rattle.listing_rules.specs.Printed.{listed, printed}

-- The three listings come out as document 01 prints them (`as_printed`).
abbrev pub AsPrinted : Type 0
AsPrinted = listed ≡ printed

-- Where no letter was sent, a loss leaves no mark: the line is the same (`no_letter_no_mark`).
abbrev pub NoLetterNoMark : Type 0
NoLetterNoMark = (t n : ℕ) (y : Yard) (lost : Bool) → line_text t n y down.none lost ≡ line_text t n y down.none false

-- A line of at most 8 devices, with a tick number of 64 bits and indices of one byte, has room in 64 bytes (`line_fits`).
abbrev pub LineFits : Type 0
LineFits =
    (t n : ℕ) (y : Yard) (l : Option Down) (lost : Bool) → t < 2 ^ 64 → n ≤ 8 → base_index y.base < 256 → down_index l < 256
    → length (line_text t n y l lost) ≤ line_room

-- So has the header for at most 8 devices (`header_fits`).
abbrev pub HeaderFits : Type 0
HeaderFits = (n : ℕ) → n ≤ 8 → length (header_text n) ≤ line_room

-- So each line of a roll that is not refused has room, with a tick number of 64 bits (`tick_fits`).
abbrev pub TickFits : Type 0
TickFits =
    (p : Plan) (y : Yard) (roll : List ℕ) (first : ℕ) → roll_verdict p y roll ≡ Accepted
    → (k : ℕ) → first + k + 1 < 2 ^ 64 → length (tick_line p y roll first k) ≤ line_room

-- Where device i stands in the line of tick number t: behind number and supervisor, with a space before each field.
abbrev pub column_of : ℕ → Yard → ℕ → ℕ
column_of t y i = length (decimal t) + length (sup_text y.base) + 2 * i

-- Device i shows 'R' or 'X' in a tick's line exactly when bit i-1 of that tick's byte of the run is set (`engaged_shown`).
abbrev pub EngagedShown : Type 0
EngagedShown =
    (p : Plan) (y : Yard) (roll : List ℕ) (first k i : ℕ) → 1 ≤ i → i ≤ p.N
    → ((get_or (tick_line p y roll first k) (column_of (first + k + 1) (after p y roll (suc k)) i) 0 ≡ 82)
    ⊎ (get_or (tick_line p y roll first k) (column_of (first + k + 1) (after p y roll (suc k)) i) 0 ≡ 88))
    ↔ (bit (engaged_byte p (after p y roll (suc k))) (i - 1) ≡ true)

-- A listing that goes on, from the yard after a ticks with the rest of the roll and numbers from first + a, is one listing
-- (`listing_splits`).
abbrev pub ListingSplits : Type 0
ListingSplits =
    (p : Plan) (y : Yard) (roll : List ℕ) (first a b : ℕ)
    → lines_text p y roll first (a + b)
    ≡ lines_text p y roll first a ++ lines_text p (after p y roll a) (drop (record_start a) roll) (first + a) b
