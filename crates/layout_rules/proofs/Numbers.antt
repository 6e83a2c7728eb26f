-- A number that stands for a place, a letter or a base is written as it was read. The other way round is `vocabulary_back` of the rules.
use Rattle.std.proofs.Common.{ℕ, zero, suc, ◌≤◌, arith, ◌≡◌, refl}
use Rattle.rules.specs.Numbers.{place_number, place_of, letter_number, letter_of, base_number, base_index, base_of}

pub place_again : (a : ℕ) → a ≤ 5 → place_number (place_of a) ≡ a
unfolding place_of
place_again zero h = refl
place_again (suc zero) h = refl
place_again (suc (suc zero)) h = refl
place_again (suc (suc (suc zero))) h = refl
place_again (suc (suc (suc (suc zero)))) h = refl
place_again (suc (suc (suc (suc (suc zero))))) h = refl
place_again (suc (suc (suc (suc (suc (suc a)))))) h = absurd (omega arith)

pub letter_again : (a : ℕ) → a ≤ 5 → letter_number (letter_of a) ≡ a
unfolding letter_of
letter_again zero h = refl
letter_again (suc zero) h = refl
letter_again (suc (suc zero)) h = refl
letter_again (suc (suc (suc zero))) h = refl
letter_again (suc (suc (suc (suc zero)))) h = refl
letter_again (suc (suc (suc (suc (suc zero))))) h = refl
letter_again (suc (suc (suc (suc (suc (suc a)))))) h = absurd (omega arith)

pub base_again :
    (a b : ℕ) → a ≤ 3 → (a ≡ 0 → b ≡ 0) → (base_number (base_of a b) ≡ a) × (base_index (base_of a b) ≡ b)
unfolding base_of
base_again zero zero high alone = (refl, refl)
base_again zero (suc b) high alone = absurd (omega (arith, alone refl))
base_again (suc zero) b high alone = (refl, refl)
base_again (suc (suc zero)) b high alone = (refl, refl)
base_again (suc (suc (suc zero))) b high alone = (refl, refl)
base_again (suc (suc (suc (suc a)))) b high alone = absurd (omega arith)
