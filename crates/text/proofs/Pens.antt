-- Laws of what one pen lays, text behind text.
use Rattle.std.proofs.Common.{ℕ, ◌+◌, ◌<◌, ◌≡◌, refl, ◌∙◌, List, [], ◌∷◌, ◌++◌, length, take, get_or}
use Rattle.text_rules.proofs.Laying as laying
use Rattle.text.specs.declared.Pen.{Pen}
use Rattle.text.specs.Lays.{Lays}

pub nothing : (p : Pen) → Lays p [] p
nothing p = record { same_buffer = refl; laid = laying.nothing p.out.now p.at }

pub and_then : {p q r : Pen} {t u : List ℕ} → Lays p t q → Lays q u r → Lays p (t ++ u) r
and_then v w = record { same_buffer = w.same_buffer ∙ v.same_buffer; laid = laying.and_then v.laid w.laid }

-- The same by another account of the text.
pub as_text : {p q : Pen} {t : List ℕ} (u : List ℕ) → Lays p t q → t ≡ u → Lays p u q
as_text u w e = rw e at w

-- A word, byte by byte from the front.
pub next_byte :
    (text : List ℕ) (k : ℕ) {p q r : Pen} → k < length text → Lays p (take k text) q → Lays q (get_or text k 0 ∷ []) r
    → Lays p (take (k + 1) text) r
next_byte text k h v w =
    record { same_buffer = w.same_buffer ∙ v.same_buffer; laid = laying.next_byte text k h v.laid w.laid }
