-- What a function does to a buffer that it writes a text or a number into.
use Rattle.std.specs.Prelude.{ℕ, ◌+◌, ◌≡◌, List, length}
use Rattle.std.proofs.lemmas.List.Edits.{sets}

-- A text has been stored byte by byte from `at` on, every other byte keeps its value, and `end` is where it ends.
pub record Written (entry : List ℕ) (at : ℕ) (text exit : List ℕ) (end : ℕ) : Type 0 where
  pub buffer : exit ≡ sets entry at text
  pub stands : end ≡ at + length text
