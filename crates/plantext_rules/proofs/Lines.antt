-- A reader that comes through the yard's line and a device's.
use Rattle.std.proofs.Common.{ℕ, ◌+◌, ◌^◌, ◌≤◌, ◌<◌, arith, ◌≡◌, refl, ◌∙◌, ap, true, false, List, [], ◌∷◌, ◌++◌, eqb, length}
use native.Mathlib.Nat.{min-eq_left}
use Rattle.rules.specs.declared.Plan.{Plan}
use Rattle.planfile_rules.specs.File.{empty_plan}
use Rattle.text_rules.specs.Decimal.{decimal}
use Rattle.plantext_rules.specs.declared.Stand.TheVariants as stand
use Rattle.plantext_rules.specs.declared.Reader.{Reader}
use Rattle.plantext_rules.specs.Text.{field_text, together, line_feed, yard_text}
use Rattle.plantext_rules.specs.Reading.{letter_of, first_field, complete, owned, line_ends, field_ends, field_starts, line_starts, with_number, with_yard_number, with_device_number, reads, read_on, from_start}
use Rattle.plantext_rules.proofs.Numbers.{read_append, in_number, number_read}
use Rattle.plantext_rules.proofs.Fields.{reader, kept, after_letter, field_read}

-- A text, and another behind it.
pub and_then :
    {s t : Reader} (r : Reader) (a b : List ℕ) → read_on r a ≡ s → read_on s b ≡ t → read_on r (a ++ b) ≡ t
and_then r a b first second = read_append a b r ∙ ap (λ (x : Reader). read_on x b) first ∙ second

pub line_end :
    (line device field k v : ℕ) (p : Plan) → owned (in_number line device field p k v).cursor ≡ true
    → eqb (field + 1) (first_field device) ≡ false → complete p.N (in_number line device (field + 1) p k v).cursor ≡ true
    → read_on (in_number line device field p k v) (10 ∷ [])
    ≡ reader stand.LineStart (line + 1) (device + 1) 0 0 0 (kept line device field k v p)
unfolding read_on reads field_ends line_ends
line_end line device field k v p own some all = rw (own, some, all)

pub digits_few_of : (n : ℕ) → n ≤ 65535 → n < 10 ^ 5
digits_few_of n h = omega (arith, h)

module _ (p : Plan) (n_small : p.N ≤ 65535) (w_small : p.W ≤ 65535) (b_small : p.B ≤ 65535) (q_small : p.Q ≤ 65535) where
  -- The plan of the yard's line alone.
  abbrev pub yard_only : Plan
  yard_only = record { N = p.N; W = p.W; B = p.B; Q = p.Q; slots = empty_plan.slots }

  abbrev first : Plan
  first = kept 1 0 1 (length (decimal p.N)) p.N empty_plan

  abbrev second : Plan
  second = kept 1 0 2 (length (decimal p.W)) p.W first

  abbrev third : Plan
  third = kept 1 0 3 (length (decimal p.B)) p.B second

  all_four : kept 1 0 4 (length (decimal p.Q)) p.Q third ≡ yard_only
  unfolding with_number with_yard_number with_device_number
  all_four = rw (min-eq_left n_small, min-eq_left w_small, min-eq_left b_small, min-eq_left q_small)

  abbrev end : List ℕ
  end = together (field_text 81 p.Q ∷ line_feed ∷ [])

  start_read : read_on from_start (78 ∷ 32 ∷ decimal p.N) ≡ in_number 1 0 1 empty_plan (length (decimal p.N)) p.N
  unfolding read_on reads line_starts field_starts letter_of
  start_read =
      number_read 1 0 1 empty_plan (reader stand.Wait 1 0 1 0 0 empty_plan) (after_letter 1 0 1 0 0 empty_plan) p.N
      (digits_few_of p.N n_small)

  end_read :
      read_on (in_number 1 0 3 second (length (decimal p.B)) p.B) end ≡ reader stand.LineStart 2 1 0 0 0 yard_only
  unfolding letter_of complete
  end_read =
      and_then (in_number 1 0 3 second (length (decimal p.B)) p.B) (field_text 81 p.Q) (10 ∷ [])
      (field_read 1 0 3 (length (decimal p.B)) p.B second 81 p.Q refl refl refl (digits_few_of p.Q q_small))
      (line_end 1 0 4 (length (decimal p.Q)) p.Q third refl refl refl
      ∙ ap (reader stand.LineStart 2 1 0 0 0) all_four)

  pub yard_read : read_on from_start (yard_text p) ≡ reader stand.LineStart 2 1 0 0 0 yard_only
  unfolding yard_text letter_of
  yard_read =
      and_then from_start (78 ∷ 32 ∷ decimal p.N) (field_text 87 p.W ++ (field_text 66 p.B ++ end)) start_read
      (and_then (in_number 1 0 1 empty_plan (length (decimal p.N)) p.N) (field_text 87 p.W) (field_text 66 p.B ++ end)
      (field_read 1 0 1 (length (decimal p.N)) p.N empty_plan 87 p.W refl refl refl (digits_few_of p.W w_small))
      (and_then (in_number 1 0 2 first (length (decimal p.W)) p.W) (field_text 66 p.B) end
      (field_read 1 0 2 (length (decimal p.W)) p.W first 66 p.B refl refl refl (digits_few_of p.B b_small))
      end_read))
