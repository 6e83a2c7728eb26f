use Rattle.std.proofs.Common.{ℕ, ◌/◌, ◌%◌, ◌<◌, ◌≡◌, ◌∙◌, refl, arith}
use Rattle.laws.proofs.Writes.{as_text}
use Rattle.numbers.specs.Bytes.{two_bytes, four_bytes}
use Rattle.numbers.proofs.write.put_four.Goals as goal

first : (x : ℕ) → x % 65536 % 256 ≡ x % 256
first x = omega arith

second : (x : ℕ) → x % 65536 / 256 ≡ x / 256 % 256
second x = omega arith

fourth : (x : ℕ) → x < 4294967296 → x / 65536 / 256 ≡ x / 16777216 % 256
fourth x h = omega arith

pub returns : goal.returns
unfolding two_bytes four_bytes
returns c =
    let x = c.args.x in
    as_text _ c.put_bytes.ensures (c.to_le_bytes.ensures ∙ rw (first x, second x, fourth x c.ranges.x.fits) refl)
