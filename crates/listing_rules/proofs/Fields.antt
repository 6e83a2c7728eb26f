-- Fields with a space before each: one more field, and a whole line in the order in which it is laid.
use Rattle.std.proofs.Common.{Option, ℕ, zero, suc, ◌+◌, ◌-◌, ◌*◌, ◌≤◌, arith, suc-mul, add-one, ◌≡◌, refl, sym, ◌∙◌, ap, Bool, List, [], ◌∷◌, ◌++◌, append_assoc, append-nil, length, get_or, length-append}
use Rattle.laws.specs.Lists.{tabulate}
use Rattle.text_rules.specs.Decimal.{decimal}
use Rattle.text_rules.specs.Laid.{Laid}
use Rattle.text_rules.proofs.Laying.{nothing, and_then, as_text}
use Rattle.rules.specs.declared.Device.{Device}
use Rattle.rules.specs.declared.Yard.{Yard}
use Rattle.rules.specs.declared.Down.{Down}
use Rattle.rules.specs.Yard.{fresh_device, device}
use Rattle.listing_rules.specs.Text.{sup_text, place_sign, place_text, down_text, spaced, line_of, line_text, header_text}

pub spaced_append : (a b : List (List ℕ)) → spaced (a ++ b) ≡ spaced a ++ spaced b
unfolding spaced
spaced_append [] b = refl
spaced_append (f ∷ a) b = rw (spaced_append a b) (ap (λ (l : List ℕ). 32 ∷ l) (sym (append_assoc f (spaced a) (spaced b))))

pub one_field : (f : List ℕ) → spaced (f ∷ []) ≡ 32 ∷ f
unfolding spaced
one_field f = ap (λ (l : List ℕ). 32 ∷ l) (append-nil f)

pub next_field : (f : ℕ → List ℕ) (k : ℕ) → spaced (tabulate f (k + 1)) ≡ spaced (tabulate f k) ++ (32 ∷ f (k + 1))
unfolding tabulate
next_field f k = rw add-one (spaced_append (tabulate f k) _ ∙ rw (one_field (f (suc k))))

-- Fields f 1, f 2, .. that are laid one behind the other.
module _ (f : ℕ → List ℕ) where
  pub no_field : (l : List ℕ) (at : ℕ) → Laid l at (spaced (tabulate f 0)) l at
  unfolding tabulate spaced
  no_field l at = nothing l at

  pub one_more :
      (k : ℕ) {l m x : List ℕ} {at mid end : ℕ} → Laid l at (spaced (tabulate f k)) m mid
      → Laid m mid (32 ∷ f (k + 1)) x end → Laid l at (spaced (tabulate f (k + 1))) x end
  one_more k u w = as_text _ (and_then u w) (sym (next_field f k))

  pub all_fields :
      (k n : ℕ) {l x : List ℕ} {at end : ℕ} → k ≡ n → Laid l at (spaced (tabulate f k)) x end
      → Laid l at (spaced (tabulate f n)) x end
  all_fields k n e w = rw e at w

  -- Fields that are all w bytes long.
  pub fields_length :
      (w n : ℕ) → ((i : ℕ) → i ≤ n → length (f i) ≡ w) → length (spaced (tabulate f n)) ≡ n * suc w
  unfolding tabulate spaced
  fields_length w zero all = omega arith
  fields_length w (suc n) all =
      ap length (ap (λ (k : ℕ). spaced (tabulate f k)) (sym (add-one n)) ∙ next_field f n)
      ∙ length-append (spaced (tabulate f n)) _
      ∙ rw (fields_length w n (λ i h. all i (omega arith)), add-one n, all (suc n) (omega arith), suc-mul n (suc w))

-- The field of the next device.
pub next_place :
    (ds : List Device) (k b : ℕ) → b ≡ place_sign (get_or ds k fresh_device).place
    → b ∷ [] ≡ place_text (get_or ds (k + 1 - 1) fresh_device).place
next_place ds k b e = let same : k + 1 - 1 ≡ k = omega arith in rw (same, e)

-- A line in the order in which it is laid.
in_order :
    (a s d : List ℕ) (T : List (List ℕ))
    → line_of a (s ∷ T ++ (d ∷ [])) ≡ a ++ (32 ∷ s ++ (spaced T ++ (32 ∷ d ++ (10 ∷ []))))
unfolding spaced
in_order a s d T =
    rw (spaced_append T (d ∷ []), append-nil d)
    (append_assoc a _ (10 ∷ [])
    ∙ ap (λ (l : List ℕ). a ++ (32 ∷ l))
    (append_assoc s (spaced T ++ (32 ∷ d)) (10 ∷ [])
    ∙ ap (λ (l : List ℕ). s ++ l) (append_assoc (spaced T) (32 ∷ d) (10 ∷ []))))

pub line_in_order :
    (t n : ℕ) (y : Yard) (d : Option Down) (lost : Bool)
    → line_text t n y d lost
    ≡ decimal t
    ++ (32 ∷ sup_text y.base
    ++ (spaced (tabulate (λ i. place_text (device y i).place) n) ++ (32 ∷ down_text d lost ++ (10 ∷ []))))
unfolding line_text
line_in_order t n y d lost = in_order (decimal t) (sup_text y.base) (down_text d lost) _

-- "tick sup", the titles, " down" and the newline.
pub header_in_order :
    (n : ℕ)
    → header_text n
    ≡ 116 ∷ 105 ∷ 99 ∷ 107 ∷ 32 ∷ 115 ∷ 117 ∷ 112
    ∷ (spaced (tabulate (λ i. 100 ∷ decimal i) n) ++ (32 ∷ 100 ∷ 111 ∷ 119 ∷ 110 ∷ 10 ∷ []))
unfolding header_text
header_in_order n = in_order (116 ∷ 105 ∷ 99 ∷ 107 ∷ []) (115 ∷ 117 ∷ 112 ∷ []) (100 ∷ 111 ∷ 119 ∷ 110 ∷ []) _
