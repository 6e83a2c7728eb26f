-- Answers. Document 01 refuses by number and index; a call that is not refused answers 0 at 0.
use Rattle.std.specs.Prelude.{ℕ, Bool, cond, List, [], ◌∷◌, Result, Ok, Err}
use Rattle.rules.specs.declared.Refusal.{Refusal}

-- What a call answers of its input: taken, or refused.
abbrev pub Verdict : Type 0
Verdict = Result (Unit {0}) Refusal

pattern abbrev pub Accepted : Verdict
Accepted = Ok tt

-- Refused with number k at index i.
abbrev pub Refused : ℕ → ℕ → Verdict
Refused k i = Err (record { number = k; index = i })

-- The number of document 01 that an answer stands for.
abbrev pub number_of : Verdict → ℕ
number_of Accepted = 0
number_of (Err r) = r.number

-- The index of document 01 that an answer stands for.
abbrev pub index_of : Verdict → ℕ
index_of Accepted = 0
index_of (Err r) = r.index

-- One thing where a call is not refused, another where it is.
module _ {ℓ} {A : Type ℓ} where
  abbrev pub if_accepted : Verdict → A → A → A
  if_accepted Accepted taken refused = taken
  if_accepted (Err r) taken refused = refused

-- Refused with number k at index i where the test holds.
abbrev pub refused_if : Bool → ℕ → ℕ → Verdict
refused_if test k i = cond test (Refused k i) Accepted

-- The first of two answers that is a refusal.
abbrev pub first_of : Verdict → Verdict → Verdict
first_of Accepted v = v
first_of (Err r) v = Err r

-- The first refusal of a list, in its order.
unfoldable pub first_refusal : List Verdict → Verdict
first_refusal [] = Accepted
first_refusal (v ∷ vs) = first_of v (first_refusal vs)
