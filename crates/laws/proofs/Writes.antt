-- One law for all writes: what is written from a place on, and then from where that ends, is one text.
use Rattle.std.proofs.Common.{ℕ, suc, ◌+◌, ◌-◌, ◌≤◌, ◌<◌, arith, add-zero, add-suc, suc-add, add_assoc, add-one, ◌≡◌, refl, sym, ◌∙◌, ap, List, [], ◌∷◌, ◌++◌, append-nil, append_assoc, length, length-append, length-drop, length-set, take, drop, get_or, set, drop_of_length-le, length-take-le, take-suc, drop-drop}
use lib.Seq.{set_out, sets, sets-eq, length-sets, take-length}
use Rattle.laws.specs.Lists.{joined}
use Rattle.laws.specs.Written.{Written}

sets_append : (a b l : List ℕ) (i : ℕ) → sets l i (a ++ b) ≡ sets (sets l i a) (i + length a) b
sets_append [] b l i = rw (add-zero i)
sets_append (x ∷ a) b l i = rw (add-suc i (length a), ← (suc-add i (length a))) (sets_append a b _ (suc i))

pub nothing : (l : List ℕ) (at : ℕ) → Written l at [] l at
nothing l at = record { buffer = refl; stands = omega arith }

pub and_then :
    {l m x a b : List ℕ} {at mid end : ℕ} → Written l at a m mid → Written m mid b x end → Written l at (a ++ b) x end
and_then {l} {m} {x} {a} {b} {at} {mid} {end} v w = record {
  buffer = w.buffer ∙ rw (v.buffer, v.stands) (sym (sets_append a b l at));
  stands = omega (arith, v.stands, w.stands, length-append a b);
}

-- The same write by another account of its text.
pub as_text : {l x a : List ℕ} {at end : ℕ} (b : List ℕ) → Written l at a x end → a ≡ b → Written l at b x end
as_text b w e = rw e at w

-- The same by another account of where it ends.
pub as_end : {l x a : List ℕ} {at end : ℕ} (e : ℕ) → Written l at a x end → end ≡ e → Written l at a x e
as_end e w same = rw same at w

-- Two writes by how far each reaches: n bytes, and w more from there on.
pub then_more :
    (n w : ℕ) {l m x a b : List ℕ} {at : ℕ} → Written l at a m (at + n) → Written m (at + n) b x (at + n + w)
    → Written l at (a ++ b) x (at + (n + w))
then_more n w {at} v u = as_end _ (and_then v u) (add_assoc at n w)

-- Nothing is written past a buffer's end.
sets_past : (a l : List ℕ) (i : ℕ) → length l ≤ i → sets l i a ≡ l
sets_past [] l i h = refl
sets_past (x ∷ a) l i h = rw (set_out l i x h) (sets_past a l (suc i) (omega arith))

pub past_end : (a l : List ℕ) (at : ℕ) → length l ≤ at → Written l at a l (at + length a)
past_end a l at h = record { buffer = sym (sets_past a l at h); stands = refl }

-- A write leaves the buffer as long as it was.
pub length_kept : {l x a : List ℕ} {at end : ℕ} → Written l at a x end → length x ≡ length l
length_kept {l} {x} {a} {at} w = ap length w.buffer ∙ length-sets l at a

-- A text that is written from the front, byte by byte.
pub next_byte :
    (text : List ℕ) (k : ℕ) {l m : List ℕ} {at : ℕ} → k < length text → Written l at (take k text) m (at + k)
    → Written l at (take (k + 1) text) (set m (at + k) (get_or text k 0)) (at + (k + 1))
next_byte text k {l} {m} {at} h w =
    let one : Written m (at + k) (get_or text k 0 ∷ []) (set m (at + k) (get_or text k 0)) (at + (k + 1)) =
    record { buffer = refl; stands = omega arith } in
    as_text _ (and_then w one) (rw add-one (sym (take-suc text k 0 h)))

pub all_bytes :
    (text : List ℕ) (k : ℕ) {l m : List ℕ} {at : ℕ} → k ≡ length text → Written l at (take k text) m (at + k)
    → Written l at text m (at + k)
all_bytes text k e w = as_text text w (rw e (take-length text))

-- Two bytes, one behind the other.
pub two_bytes_lem : (l : List ℕ) (at a b : ℕ) → Written l at (a ∷ b ∷ []) (set (set l at a) (at + 1) b) (at + 2)
two_bytes_lem l at a b = record { buffer = ap (λ (j : ℕ). set (set l at a) j b) (add-one at); stands = omega arith }

-- Only the first of two bytes has room.
pub first_byte : (l : List ℕ) (at a b : ℕ) → length l ≤ at + 1 → Written l at (a ∷ b ∷ []) (set l at a) (at + 2)
first_byte l at a b h = record {
  buffer = sym (set_out (set l at a) (suc at) b (rw (length-set l at a) (omega arith)));
  stands = omega arith;
}

-- Pieces that are written one behind the other.
pub no_piece : (f : ℕ → List ℕ) (l : List ℕ) (at : ℕ) → Written l at (joined f 0) l at
unfolding joined
no_piece f l at = nothing l at

pub next_piece :
    (f : ℕ → List ℕ) (k : ℕ) {l m x : List ℕ} {at mid end : ℕ} → Written l at (joined f k) m mid
    → Written m mid (f (k + 1)) x end → Written l at (joined f (k + 1)) x end
unfolding joined
next_piece f k v w = rw (add-one k) (and_then v (rw (add-one k) at w))

-- The same of a list's members, each by its own bytes.
pub next_member :
    {A : Type 0} (f : A → List ℕ) (members : List A) (d : A) (k : ℕ) {l m x : List ℕ} {at mid end : ℕ}
    → Written l at (joined (λ i. f (get_or members (i - 1) d)) k) m mid
    → Written m mid (f (get_or members k d)) x end
    → Written l at (joined (λ i. f (get_or members (i - 1) d)) (k + 1)) x end
next_member f members d k v w =
    let same : k + 1 - 1 ≡ k = omega arith in next_piece (λ i. f (get_or members (i - 1) d)) k v (rw same w)

-- What is written where there is room, as a caller reads it.
pub as_parts :
    {l x a : List ℕ} {at end : ℕ} → Written l at a x end → at + length a ≤ length l
    → x ≡ take at l ++ a ++ drop (at + length a) l
as_parts {l} {x} {a} {at} w h = w.buffer ∙ sets-eq a l at h

-- What is written at the front of a buffer that has room for it, as a caller reads it.
pub at_front :
    {l x a : List ℕ} {end : ℕ} → Written l 0 a x end → length a ≤ length l → (end ≡ length a) × (x ≡ a ++ drop end l)
at_front {l} {x} {a} {end} w h =
    let stands : end ≡ length a = omega (arith, w.stands) in
    (stands, rw stands (as_parts w (omega arith) ∙ ap (λ (k : ℕ). a ++ drop k l) {x = 0 + length a} {y = length a} (omega arith)))

-- A text that is written into a part of just its length is written into the whole.
sets_all : (a l : List ℕ) → length l ≡ length a → sets l 0 a ≡ a
sets_all a l e =
    sets-eq a l 0 (omega arith) ∙ rw (drop_of_length-le l {i = 0 + length a} (omega arith)) (append-nil a)

pub into_part :
    (l : List ℕ) (at end : ℕ) {a x : List ℕ} {n : ℕ} → at + length a ≡ end → end ≤ length l
    → Written (take (end - at) (drop at l)) 0 a x n → Written l at a (take at l ++ (x ++ drop (end - at) (drop at l))) end
into_part l at end {a} {x} ends within w =
    let part : List ℕ = take (end - at) (drop at l) in
    let long : length part ≡ length a =
    length-take-le (end - at) (drop at l) (rw (length-drop at l) (omega arith)) ∙ omega arith in
    let all : x ≡ a = w.buffer ∙ sets_all a part long in
    let past : drop (end - at) (drop at l) ≡ drop (at + length a) l =
    drop-drop (end - at) at l ∙ ap (λ (k : ℕ). drop k l) {x = at + (end - at)} {y = at + length a} (omega arith) in
    record {
      buffer = rw (all, past) (sym (append_assoc (take at l) a (drop (at + length a) l)) ∙ sym (sets-eq a l at (omega arith)));
      stands = sym ends;
    }
