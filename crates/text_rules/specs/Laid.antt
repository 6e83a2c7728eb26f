-- What a function does to a buffer that it lays a text into, from a place on.
use Rattle.std.specs.Prelude.{ℕ, ◌+◌, ◌-◌, min, ◌≡◌, List, length}
use Rattle.std.proofs.lemmas.List.Edits.{sets}

-- How many bytes of a text have room behind a place: all of them, or those up to the buffer's end, or none.
abbrev pub room_for : List ℕ → ℕ → List ℕ → ℕ
room_for buffer at text = min (length text) (length buffer - at)

-- The text has been stored byte by byte from `at` on as far as there is room, every other byte keeps its value, and `end` is
-- where the next byte goes.
pub record Laid (entry : List ℕ) (at : ℕ) (text exit : List ℕ) (end : ℕ) : Type 0 where
  pub buffer : exit ≡ sets entry at text
  pub stands : end ≡ at + room_for entry at text
