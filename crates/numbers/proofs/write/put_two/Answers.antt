use Rattle.std.proofs.Common.{ℕ, ◌/◌, ◌%◌, ◌<◌, ◌≡◌, ◌∙◌, [], ◌∷◌, refl, arith}
use Rattle.laws.proofs.Writes.{as_text}
use Rattle.numbers.specs.Bytes.{two_bytes}
use Rattle.numbers.proofs.write.put_two.Goals as goal

upper : (x : ℕ) → x < 65536 → x / 256 % 256 ≡ x / 256
upper x h = omega arith

lower_first : (x : ℕ) → x < 65536 → x % 256 ∷ x / 256 % 256 ∷ [] ≡ two_bytes x
unfolding two_bytes
lower_first x h = rw (upper x h) refl

pub returns : goal.returns
returns c = as_text _ c.put_bytes.ensures (c.to_le_bytes.ensures ∙ lower_first c.args.x c.ranges.x.fits)
