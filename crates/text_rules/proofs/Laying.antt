-- Laws of texts that are laid one behind the other, with room or without.
use Rattle.std.proofs.Common.{ℕ, ◌+◌, ◌≤◌, ◌<◌, arith, add-one, ◌≡◌, refl, sym, ◌∙◌, ap, List, [], ◌∷◌, ◌++◌, leb, length, length-append, take, get_or, take-suc}
use lib.Seq.{set_out, sets, length-sets, take-length}
use Rattle.laws.specs.Written.{Written}
use Rattle.laws.proofs.Tests.{case, tests}
use Rattle.laws.proofs.Writes as writes
use Rattle.text_rules.specs.Laid.{Laid}

pub nothing : (l : List ℕ) (at : ℕ) → Laid l at [] l at
nothing l at = record { buffer = refl; stands = omega arith }

-- A byte that has no place in the buffer.
pub no_room : (l : List ℕ) (at b : ℕ) → length l ≤ at → Laid l at (b ∷ []) l at
no_room l at b h = record { buffer = sym (set_out l at b h); stands = omega arith }

-- The same by another account of the text.
pub as_text : {l x t : List ℕ} {at end : ℕ} (u : List ℕ) → Laid l at t x end → t ≡ u → Laid l at u x end
as_text u w e = rw e at w

pub length_kept : {l t x : List ℕ} {at end : ℕ} → Laid l at t x end → length x ≡ length l
length_kept {l} {t} {x} {at} w = ap length w.buffer ∙ length-sets l at t

-- With room it is the plain write.
pub with_room : {l t x : List ℕ} {at end : ℕ} → Laid l at t x end → at + length t ≤ length l → Written l at t x end
with_room w h = record { buffer = w.buffer; stands = omega (arith, w.stands) }

-- What is laid from a text's end on is laid behind the whole text: past the buffer's end both places are the same.
from_end :
    {l t m : List ℕ} {at mid : ℕ} (u : List ℕ) → Laid l at t m mid → sets m mid u ≡ sets m (at + length t) u
from_end {l} {t} {m} {at} {mid} u v =
    case (leb (at + length t) (length l))
    (λ e.
    let same : mid ≡ at + length t = omega (tests, v.stands) in
    rw same)
    (λ e.
    let past : length m ≤ mid = omega (tests, v.stands, length_kept v) in
    let far : length m ≤ at + length t = omega (tests, length_kept v) in
    sym (writes.past_end u m mid past).buffer ∙ (writes.past_end u m (at + length t) far).buffer)

pub and_then :
    {l m x t u : List ℕ} {at mid end : ℕ} → Laid l at t m mid → Laid m mid u x end → Laid l at (t ++ u) x end
and_then {l} {m} {x} {t} {u} {at} {mid} {end} v w =
    let first : Written l at t m (at + length t) = record { buffer = v.buffer; stands = refl } in
    let second : Written m (at + length t) u x (at + length t + length u) =
    record { buffer = w.buffer ∙ from_end u v; stands = refl } in
    record {
      buffer = (writes.and_then first second).buffer;
      stands = omega (arith, v.stands, w.stands, length_kept v, length-append t u);
    }

-- A word, byte by byte from the front.
pub next_byte :
    (text : List ℕ) (k : ℕ) {l m x : List ℕ} {at mid end : ℕ} → k < length text → Laid l at (take k text) m mid
    → Laid m mid (get_or text k 0 ∷ []) x end → Laid l at (take (k + 1) text) x end
next_byte text k h v w = as_text _ (and_then v w) (rw add-one (sym (take-suc text k 0 h)))

pub all_bytes :
    (text : List ℕ) (k : ℕ) {l m : List ℕ} {at end : ℕ} → k ≡ length text → Laid l at (take k text) m end
    → Laid l at text m end
all_bytes text k e w = as_text text w (rw e (take-length text))
