-- The theorems of specs/Theorems.antt but the printed listings.
use Rattle.std.proofs.Common.{Option, ℕ, zero, suc, ◌+◌, ◌-◌, ◌*◌, ◌≤◌, ◌<◌, arith, add-zero, add-suc, add-one, ◌≡◌, refl, sym, ◌∙◌, ap, ◌↔◌, ◌⊎◌, inl, inr, ⊎_elim, Bool, true, false, List, [], ◌∷◌, ◌++◌, append_assoc, append-nil, eqb, length, get_or, length-append, get_or-append-add, eqb-true}
use mathlib.Core.Bool.{false≢true}
use lib.ListN.{get_or-append}
use Rattle.laws.specs.Lists.{tabulate}
use Rattle.laws.proofs.Tests.{case, tests}
use Rattle.text_rules.specs.Decimal.{decimal}
use Rattle.text_rules.proofs.Decimals.{one_digit, digits_few}
use Rattle.rules.specs.declared.Yard.{Yard}
use Rattle.rules.specs.declared.Base.{Base}
use Rattle.rules.specs.declared.Base.TheVariants as base
use Rattle.rules.specs.declared.Place.{Place}
use Rattle.rules.specs.declared.Place.TheVariants as place
use Rattle.rules.specs.declared.Down.{Down}
use Rattle.rules.specs.Downs as down
use Rattle.rules.specs.Yard.{device, engaged}
use Rattle.rules.specs.Numbers.{base_index, down_index}
use Rattle.rules.specs.Run.{after}
use Rattle.rules.proofs.Runs.Engaged.{byte_at}
use Rattle.rules.proofs.Runs.Splits.{record_later, after_splits}
use Rattle.listing_rules.specs.Text.{sup_text, place_sign, mark, down_text, spaced, line_text}
use Rattle.listing_rules.specs.Listing.{tick_line, lines_text}
use Rattle.listing_rules.specs.Theorems.{LineFits, HeaderFits, column_of, EngagedShown, ListingSplits, NoLetterNoMark}
use Rattle.listing_rules.proofs.Fields.{next_field, fields_length, line_in_order, header_in_order}

-- Fields of one byte, each with a space before it.
module _ (b : ℕ → ℕ) where
  bytes_length : (n : ℕ) → length (spaced (tabulate (λ i. b i ∷ []) n)) ≡ n * 2
  bytes_length n = fields_length (λ i. b i ∷ []) 1 n (λ i h. refl)

  field_at : (n i : ℕ) → 1 ≤ i → i ≤ n → get_or (spaced (tabulate (λ i. b i ∷ []) n)) (2 * i - 1) 0 ≡ b i
  field_at zero i low high = absurd (omega arith)
  field_at (suc n) i low high =
      let all : spaced (tabulate (λ i. b i ∷ []) (suc n)) ≡ spaced (tabulate (λ i. b i ∷ []) n) ++ (32 ∷ b (suc n) ∷ []) =
      ap (λ (k : ℕ). spaced (tabulate (λ i. b i ∷ []) k)) (sym (add-one n)) ∙ next_field (λ i. b i ∷ []) n
      ∙ ap (λ (k : ℕ). spaced (tabulate (λ i. b i ∷ []) n) ++ (32 ∷ b k ∷ [])) (add-one n) in
      rw all
      (case (eqb i (suc n))
      (λ e.
      let is : i ≡ suc n = eqb-true i (suc n) e in
      let at : 2 * i - 1 ≡ length (spaced (tabulate (λ i. b i ∷ []) n)) + 1 = omega (arith, bytes_length n) in
      rw (at, is) (get_or-append-add (spaced (tabulate (λ i. b i ∷ []) n)) (32 ∷ b (suc n) ∷ []) 1 0))
      (λ e.
      get_or-append (spaced (tabulate (λ i. b i ∷ []) n)) (32 ∷ b (suc n) ∷ []) 0 (2 * i - 1) (omega (tests, bytes_length n))
      ∙ field_at n i low (omega tests)))

sup_fits : (b : Base) → base_index b < 256 → length (sup_text b) ≤ 4
sup_fits base.FallBack h = omega arith
sup_fits (base.Lease i) h = omega (arith, digits_few 2 i (omega arith))
sup_fits (base.Cancel i) h = omega (arith, digits_few 2 i (omega arith))
sup_fits (base.Abort i) h = omega (arith, digits_few 2 i (omega arith))

marked_fits : (b i : ℕ) (lost : Bool) → i < 256 → length (b ∷ decimal i ++ mark lost) ≤ 5
marked_fits b i true h = omega (arith, length-append (decimal i) (mark true), digits_few 2 i (omega arith))
marked_fits b i false h = omega (arith, length-append (decimal i) (mark false), digits_few 2 i (omega arith))

none_fits : (lost : Bool) → length (down_text down.none lost) ≤ 5
none_fits true = omega arith
none_fits false = omega arith

down_fits : (l : Option Down) (lost : Bool) → down_index l < 256 → length (down_text l lost) ≤ 5
down_fits down.none lost h = none_fits lost
down_fits (down.LeaseReq i) lost h = marked_fits 81 i lost h
down_fits (down.Grant i) lost h = marked_fits 71 i lost h
down_fits (down.Cancel i) lost h = marked_fits 67 i lost h
down_fits (down.Abort i) lost h = marked_fits 65 i lost h

pub line_fits : LineFits
line_fits t n y l lost small few based sent =
    let number = digits_few 19 t (omega arith) in
    let sup = sup_fits y.base based in
    let letter = down_fits l lost sent in
    let places = bytes_length (λ i. place_sign (device y i).place) n in
    rw (line_in_order t n y l lost)
    (simp length-append (omega arith))

pub header_fits : HeaderFits
header_fits n few =
    let title : (i : ℕ) → i ≤ n → length (100 ∷ decimal i) ≡ 2 = λ i h. rw (one_digit i (omega arith)) in
    let titles = fields_length (λ i. 100 ∷ decimal i) 2 n title in
    rw (header_in_order n) (simp length-append (omega arith))

-- The byte of device i.
shown :
    (t n : ℕ) (y : Yard) (l : Option Down) (lost : Bool) (i : ℕ) → 1 ≤ i → i ≤ n
    → get_or (line_text t n y l lost) (column_of t y i) 0 ≡ place_sign (device y i).place
shown t n y l lost i low high =
    let b : ℕ → ℕ = λ i. place_sign (device y i).place in
    let rest : List ℕ = 32 ∷ down_text l lost ++ (10 ∷ []) in
    let at : column_of t y i ≡ length (decimal t) + suc (length (sup_text y.base) + (2 * i - 1)) = omega arith in
    rw (line_in_order t n y l lost, at)
    (get_or-append-add (decimal t) _ (suc (length (sup_text y.base) + (2 * i - 1))) 0
    ∙ get_or-append-add (sup_text y.base) _ (2 * i - 1) 0
    ∙ get_or-append (spaced (tabulate (λ i. b i ∷ []) n)) rest 0 (2 * i - 1) (omega (arith, bytes_length b n))
    ∙ field_at b n i low high)

-- 'R' and 'X' are the places in which a device is engaged.
engaged_byte_lem : (pl : Place) → ((place_sign pl ≡ 82) ⊎ (place_sign pl ≡ 88)) ↔ (engaged pl ≡ true)
unfolding engaged
engaged_byte_lem place.FallBack = (λ h. absurd (⊎_elim (λ e. omega arith) (λ e. omega arith) h), λ e. absurd (false≢true e))
engaged_byte_lem place.Requesting = (λ h. absurd (⊎_elim (λ e. omega arith) (λ e. omega arith) h), λ e. absurd (false≢true e))
engaged_byte_lem place.Entering = (λ h. absurd (⊎_elim (λ e. omega arith) (λ e. omega arith) h), λ e. absurd (false≢true e))
engaged_byte_lem place.Running = (λ h. refl, λ e. inl refl)
engaged_byte_lem place.Exiting1 = (λ h. refl, λ e. inr refl)
engaged_byte_lem place.Exiting2 = (λ h. absurd (⊎_elim (λ e. omega arith) (λ e. omega arith) h), λ e. absurd (false≢true e))

pub engaged_shown : EngagedShown
unfolding tick_line
engaged_shown p y roll first k i low high =
    let z : Yard = after p y roll (suc k) in
    rw (shown (first + k + 1) p.N z _ _ i low high, byte_at p z i low high) (engaged_byte_lem (device z i).place)

pub listing_splits : ListingSplits
unfolding lines_text tick_line after
listing_splits p y roll first a zero = ap (lines_text p y roll first) (add-zero a) ∙ sym (append-nil _)
listing_splits p y roll first a (suc b) =
    let number : first + (a + b) + 1 ≡ first + a + b + 1 = omega arith in
    rw (add-suc a b, listing_splits p y roll first a b, after_splits p y roll a b, record_later roll a b, number)
    (append_assoc (lines_text p y roll first a) _ _)

pub no_letter_no_mark : NoLetterNoMark
unfolding line_text
no_letter_no_mark t n y lost = refl
