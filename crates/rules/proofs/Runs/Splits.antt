-- Theorem 4: a run over the first a ticks and then over the rest is one run over all.
use Rattle.std.proofs.Common.{ℕ, zero, suc, ◌+◌, arith, add-zero, add-suc, ◌≡◌, sym, ◌∙◌, ap, ap₂, List, [], ◌∷◌, ◌++◌, append_assoc, append-nil, get_or, drop, get_or-drop}
use Rattle.rules.specs.declared.Plan.{Plan}
use Rattle.rules.specs.declared.Yard.{Yard}
use Rattle.rules.specs.Run.{record_start, record_at, after, engaged_byte, engaged_bytes}
use Rattle.rules.specs.Theorems.{RunSplits}

-- The records of what is left of a roll.
pub record_later : (roll : List ℕ) (a b : ℕ) → record_at (drop (record_start a) roll) b ≡ record_at roll (a + b)
unfolding record_at
record_later roll a b =
    let byte : (j : ℕ) → get_or (drop (record_start a) roll) (record_start b + j) 0 ≡ get_or roll (record_start (a + b) + j) 0 =
    λ j. get_or-drop (record_start a) roll (record_start b + j) 0 ∙ ap (λ (k : ℕ). get_or roll k 0) (omega arith) in
    let first : get_or (drop (record_start a) roll) (record_start b) 0 ≡ get_or roll (record_start (a + b)) 0 =
    get_or-drop (record_start a) roll (record_start b) 0 ∙ ap (λ (k : ℕ). get_or roll k 0) (omega arith) in
    λ j. record { command = first j; flags = byte 1 j; willing = byte 2 j; lost = byte 3 j }

module _ (p : Plan) (y : Yard) (roll : List ℕ) (a : ℕ) where
  pub after_splits : (b : ℕ) → after p y roll (a + b) ≡ after p (after p y roll a) (drop (record_start a) roll) b
  unfolding after
  after_splits zero = ap (after p y roll) (add-zero a)
  after_splits (suc b) = rw (add-suc a b, after_splits b, record_later roll a b)

  pub bytes_split :
      (b : ℕ)
      → engaged_bytes p y roll (a + b)
      ≡ engaged_bytes p y roll a ++ engaged_bytes p (after p y roll a) (drop (record_start a) roll) b
  unfolding engaged_bytes
  bytes_split zero = ap (engaged_bytes p y roll) (add-zero a) ∙ sym (append-nil _)
  bytes_split (suc b) =
      rw (add-suc a b)
      (ap₂ (λ (l : List ℕ) (z : Yard). l ++ (engaged_byte p z ∷ [])) (bytes_split b)
      (ap (after p y roll) (sym (add-suc a b)) ∙ after_splits (suc b))
      ∙ append_assoc (engaged_bytes p y roll a) _ _)

pub run_splits : RunSplits
run_splits p y roll a b = (after_splits p y roll a b, bytes_split p y roll a b)
