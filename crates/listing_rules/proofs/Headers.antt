-- The header: when it is written, and that it then stands in the buffer.
use Rattle.std.proofs.Common.{ℕ, ◌+◌, ◌≤◌, arith, ◌≡◌, List, length, le-leb}
use Rattle.laws.specs.Tests.{all_of}
use Rattle.listing_rules.specs.Text.{header_text}
use Rattle.listing_rules.specs.Listing.{line_room, header_written, header_buffer}
use Rattle.laws.proofs.Writes.{as_parts}
use Rattle.text_rules.specs.Laid.{Laid}
use Rattle.text_rules.proofs.Laying.{with_room}
use Rattle.listing_rules.proofs.Theorems.{header_fits}

module _ (n : ℕ) (l : List ℕ) (at : ℕ) where
  pub written :
      {x : List ℕ} {end : ℕ} → n ≤ 8 → at + line_room ≤ length l → Laid l at (header_text n) x end
      → (end ≡ at + length (header_written n (length l) at)) × (x ≡ header_buffer n l at)
  unfolding header_written header_buffer all_of
  written few room v =
      let w = with_room v (omega (arith, header_fits n few)) in
      let all : header_written n (length l) at ≡ header_text n = rw (le-leb n 8 few, le-leb (at + line_room) (length l) room) in
      (rw all w.stands, rw all (as_parts w (omega (arith, w.stands, header_fits n few))))
