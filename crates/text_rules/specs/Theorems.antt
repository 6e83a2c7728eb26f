-- What keeps the definitions honest, each statement proved in proofs/ under the name that stands beside it.
use Rattle.std.specs.Prelude.{ℕ, suc, ◌+◌, ◌^◌, ◌≤◌, ◌<◌, ◌≡◌, ◌≢◌, ◌⊎◌, List, ◌++◌, length, get_or, take, drop}
use Rattle.laws.specs.Written.{Written}
use Rattle.text_rules.specs.Decimal.{digit, decimal, number_of}
use Rattle.text_rules.specs.Laid.{Laid}

-- A buffer stays as long as it was (`length_stays`).
abbrev pub LengthStays : Type 0
LengthStays = (l t x : List ℕ) (at end : ℕ) → Laid l at t x end → length x ≡ length l

-- Bytes before the text's place keep their value, and so do bytes behind the text (`rest_kept`).
abbrev pub RestKept : Type 0
RestKept =
    (l t x : List ℕ) (at end : ℕ) → Laid l at t x end → (k : ℕ) → (k < at) ⊎ (at + length t ≤ k) → get_or x k 0 ≡ get_or l k 0

-- Each byte of the text that has a place in the buffer stands there (`in_place`).
abbrev pub InPlace : Type 0
InPlace =
    (l t x : List ℕ) (at end : ℕ) → Laid l at t x end → (k : ℕ) → k < length t → at + k < length l
    → get_or x (at + k) 0 ≡ get_or t k 0

-- With room the text stands there whole, and its end is behind its last byte (`stands_whole`).
abbrev pub StandsWhole : Type 0
StandsWhole =
    (l t x : List ℕ) (at end : ℕ) → Laid l at t x end → at + length t ≤ length l
    → (take (length t) (drop at x) ≡ t) × (end ≡ at + length t)

-- And it is then the plain write that takes its room for granted (`plain_write`).
abbrev pub PlainWrite : Type 0
PlainWrite = (l t x : List ℕ) (at end : ℕ) → Laid l at t x end → at + length t ≤ length l → Written l at t x end

-- A text, and another from where it ends, are one text, whether there is room for both or not (`one_text`).
abbrev pub OneText : Type 0
OneText =
    (l m x t u : List ℕ) (at mid end : ℕ) → Laid l at t m mid → Laid m mid u x end → Laid l at (t ++ u) x end

-- A decimal is read back as its number (`decimal_back`).
abbrev pub DecimalBack : Type 0
DecimalBack = (n : ℕ) → number_of (decimal n) ≡ n

-- It has no zero in front, but for 0 itself (`no_zero_in_front`).
abbrev pub NoZeroInFront : Type 0
NoZeroInFront = (n : ℕ) → 1 ≤ n → get_or (decimal n) 0 0 ≢ digit 0

-- A number below 10 ^ k has at most k digits, from k = 1 on (`digits_few`).
abbrev pub DigitsFew : Type 0
DigitsFew = (k n : ℕ) → n < 10 ^ suc k → length (decimal n) ≤ suc k
