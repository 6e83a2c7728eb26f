-- What a function does with a pen that it is lent.
use Rattle.std.specs.Prelude.{ℕ, ◌≡◌, List}
use Rattle.text_rules.specs.Laid.{Laid}
use Rattle.text.specs.declared.Pen.{Pen}

-- It lays a text into the pen's buffer from where the pen stands, and the pen then stands at its end. The buffer is the one
-- that was lent.
pub record Lays (before : Pen) (text : List ℕ) (after : Pen) : Type 0 where
  pub same_buffer : after.out.ghost_name ≡ before.out.ghost_name
  pub laid : Laid before.out.now before.at text after.out.now after.at
