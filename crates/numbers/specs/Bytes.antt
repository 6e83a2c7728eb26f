-- Document 01, "The plan file": numbers are little-endian. A number is read at a place, counted from 0; past a list's end
-- each byte is 0.
use Rattle.std.specs.Prelude.{ℕ, ◌+◌, ◌*◌, ◌/◌, ◌%◌, ◌<◌, List, [], ◌∷◌, ◌++◌, get_or}

-- A number of two bytes.
unfoldable pub num16 : List ℕ → ℕ → ℕ
num16 s at = get_or s at 0 + 256 * get_or s (at + 1) 0

-- A number of four bytes.
unfoldable pub num32 : List ℕ → ℕ → ℕ
num32 s at = num16 s at + 65536 * num16 s (at + 2)

-- The bytes of each.
unfoldable pub two_bytes : ℕ → List ℕ
two_bytes v = v % 256 ∷ v / 256 ∷ []

unfoldable pub four_bytes : ℕ → List ℕ
four_bytes v = two_bytes (v % 65536) ++ two_bytes (v / 65536)

-- Every number of a list is a byte's, as in every slice of bytes.
abbrev pub AllBytes : List ℕ → Type 0
AllBytes l = (k : ℕ) → get_or l k 0 < 256
