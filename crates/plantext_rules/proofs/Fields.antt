-- A reader that comes through the fields of a line, and to its end.
use Rattle.std.proofs.Common.{ℕ, ◌+◌, ◌-◌, ◌^◌, ◌<◌, arith, ◌≡◌, refl, ◌∙◌, ap, true, false, ◌∷◌, length, ne_eqb, eq-eqb, le-leb}
use Rattle.rules.specs.declared.Plan.{Plan}
use Rattle.text_rules.specs.Decimal.{decimal}
use Rattle.plantext_rules.specs.declared.Stand.{Stand}
use Rattle.plantext_rules.specs.declared.Stand.TheVariants as stand
use Rattle.plantext_rules.specs.declared.Reader.{Reader}
use Rattle.plantext_rules.specs.Text.{field_text}
use Rattle.plantext_rules.specs.Reading.{is_blank, letter_of, owned, field_ends, field_starts, two_bytes_of, with_number, reads, read_on}
use Rattle.plantext_rules.proofs.Numbers.{in_number, Begins, number_read}

abbrev pub reader : Stand → ℕ → ℕ → ℕ → ℕ → ℕ → Plan → Reader
reader s line device field digits value p = record {
  cursor = record { stand = s; line = line; device = device; field = field; digits = digits; value = value };
  plan = p;
}

module _ (line device field k v : ℕ) (p : Plan) where
  -- The plan with the number that has just been read.
  abbrev pub kept : Plan
  kept = with_number device field (two_bytes_of v) p

  pub after_letter : Begins line device field p (reader stand.Wait line device field k v p)
  unfolding reads
  after_letter d small =
      rw (
        ne_eqb (48 + d) 32 (λ e. omega (arith, e)),
        ne_eqb (48 + d) 9 (λ e. omega (arith, e)),
        le-leb 48 (48 + d) (omega arith),
        le-leb (48 + d) 57 (omega arith),
      )
      (ap (λ (w : ℕ). in_number line device field p 1 w) {x = 48 + d - 48} {y = d} (omega arith))

  gap_read :
      owned (reader stand.Number line device field k v p).cursor ≡ true
      → reads (in_number line device field p k v) 32 ≡ reader stand.Gap line device (field + 1) k v kept
  unfolding reads field_ends
  gap_read own = rw own

  letter_read :
      (letter : ℕ) → is_blank letter ≡ false → (field ≡ 0 → ⊥) → letter_of device field ≡ letter
      → reads (reader stand.Gap line device field k v p) letter ≡ reader stand.Name line device field k v p
  unfolding reads field_starts
  letter_read letter dark some is = rw (dark, ne_eqb field 0 some, is, eq-eqb letter letter refl)

  name_read : reads (reader stand.Name line device field k v p) 32 ≡ reader stand.Wait line device field k v p
  unfolding reads
  name_read = refl

pub field_read :
    (line device field k v : ℕ) (p : Plan) (letter n : ℕ) → is_blank letter ≡ false
    → owned (reader stand.Number line device field k v p).cursor ≡ true → letter_of device (field + 1) ≡ letter → n < 10 ^ 5
    → read_on (in_number line device field p k v) (field_text letter n)
    ≡ in_number line device (field + 1) (kept line device field k v p) (length (decimal n)) n
unfolding read_on
field_read line device field k v p letter n dark own is low =
    let q = kept line device field k v p in
    ap (λ (r : Reader). read_on r (letter ∷ 32 ∷ decimal n)) (gap_read line device field k v p own)
    ∙ ap (λ (r : Reader). read_on r (32 ∷ decimal n))
    (letter_read line device (field + 1) k v q letter dark (λ e. omega (arith, e)) is)
    ∙ ap (λ (r : Reader). read_on r (decimal n)) (name_read line device (field + 1) k v q)
    ∙ number_read line device (field + 1) q (reader stand.Wait line device (field + 1) k v q)
    (after_letter line device (field + 1) k v q) n low
