-- A reader that comes through a device's line.
use Rattle.std.proofs.Common.{ℕ, suc, ◌+◌, ◌-◌, ◌≤◌, ◌<◌, min, arith, ◌≡◌, refl, ◌∙◌, ap, true, false, List, [], ◌∷◌, eqb, length, get_or, set, get_or-set_same, set-set, ne_eqb, eq-eqb, le-leb}
use native.Mathlib.Nat.{min-eq_left}
use Rattle.rules.specs.declared.Plan.{Plan}
use Rattle.rules.specs.declared.Slot.{Slot}
use Rattle.rules.specs.Plan.{empty_slot}
use Rattle.text_rules.specs.Decimal.{decimal}
use Rattle.plantext_rules.specs.declared.Stand.TheVariants as stand
use Rattle.plantext_rules.specs.declared.Reader.{Reader}
use Rattle.plantext_rules.specs.Text.{field_text, together, line_feed}
use Rattle.plantext_rules.specs.Reading.{is_blank, letter_of, complete, owned, field_starts, line_starts, two_bytes_of, with_time, with_number, with_yard_number, with_device_number, reads, read_on}
use Rattle.plantext_rules.proofs.Numbers.{in_number, Begins, number_read}
use Rattle.plantext_rules.proofs.Fields.{reader, field_read}
use Rattle.plantext_rules.proofs.Lines.{and_then, line_end, digits_few_of}

-- Device k + 1 of a plan whose slot for it is still empty.
module _ (line k : ℕ) (q : Plan) (there : k < length q.slots) (wanted : k + 1 ≤ q.N) where
  abbrev pub with_slot : Slot → Plan
  with_slot s = record { N = q.N; W = q.W; B = q.B; Q = q.Q; slots = set q.slots k s }

  time_kept : (field t : ℕ) (s : Slot) → with_number (suc k) field t (with_slot s) ≡ with_slot (with_time field t s)
  unfolding with_number with_yard_number with_device_number
  time_kept field t s =
      rw (get_or-set_same q.slots k s empty_slot there, set-set q.slots k s (with_time field t s))

  no_zero : eqb (suc k) 0 ≡ false
  no_zero = ne_eqb (suc k) 0 (λ e. omega (arith, e))

  starts : Begins line (suc k) 0 q (reader stand.LineStart line (suc k) 0 0 0 q)
  unfolding reads line_starts field_starts
  starts d small =
      rw (
        ne_eqb (48 + d) 35 (λ e. omega (arith, e)),
        ne_eqb (48 + d) 10 (λ e. omega (arith, e)),
        ne_eqb (48 + d) 13 (λ e. omega (arith, e)),
        no_zero,
        le-leb (suc k) q.N (omega (arith, wanted)),
        le-leb 48 (48 + d) (omega arith),
        le-leb (48 + d) 57 (omega arith),
      )
      (ap (λ (w : ℕ). in_number line (suc k) 0 q 1 w) {x = 48 + d - 48} {y = d} (omega arith))

  device_letter : (f letter : ℕ) → get_or (256 ∷ 70 ∷ 69 ∷ 82 ∷ 88 ∷ 71 ∷ 83 ∷ []) f 256 ≡ letter → letter_of (suc k) f ≡ letter
  unfolding letter_of
  device_letter f letter is = rw no_zero is

  -- Behind field f comes the next field, with letter and number.
  field_after :
      (f v letter n : ℕ) (s : Slot) → is_blank letter ≡ false
      → owned (in_number line (suc k) f (with_slot s) (length (decimal v)) v).cursor ≡ true → letter_of (suc k) (f + 1) ≡ letter
      → v ≤ 65535 → n ≤ 65535
      → read_on (in_number line (suc k) f (with_slot s) (length (decimal v)) v) (field_text letter n)
      ≡ in_number line (suc k) (f + 1) (with_slot (with_time f v s)) (length (decimal n)) n
  field_after f v letter n s dark own is v_small n_small =
      field_read line (suc k) f (length (decimal v)) v (with_slot s) letter n dark own is (digits_few_of n n_small)
      ∙ ap (λ (p : Plan). in_number line (suc k) (f + 1) p (length (decimal n)) n)
      (time_kept f (min v 65535) s ∙ ap (λ (t : ℕ). with_slot (with_time f t s)) (min-eq_left v_small))

  module _ (empty : get_or q.slots k empty_slot ≡ empty_slot) (few : suc k ≤ 65535) where
    -- Its own number says nothing about its times.
    own_kept : with_number (suc k) 0 (two_bytes_of (suc k)) q ≡ with_slot empty_slot
    unfolding with_number with_yard_number with_device_number with_time
    own_kept = ap (λ (s : Slot). with_slot (with_time 0 (two_bytes_of (suc k)) s)) empty

    module _ (F E R X : ℕ) (f_small : F ≤ 65535) (e_small : E ≤ 65535) (r_small : R ≤ 65535) (x_small : X ≤ 65535) where
      abbrev three_times : Slot
      three_times = record { F = F; E = E; R = R; X = 0; G = 0; S = 0 }

      -- Its own number and the times F, E, R, X.
      pub four_read :
          (more : List (List ℕ)) (t : Reader)
          → read_on (in_number line (suc k) 4 (with_slot three_times) (length (decimal X)) X) (together more) ≡ t
          → read_on (reader stand.LineStart line (suc k) 0 0 0 q)
          (together (decimal (suc k) ∷ field_text 70 F ∷ field_text 69 E ∷ field_text 82 R ∷ field_text 88 X ∷ more))
          ≡ t
      unfolding with_time
      four_read more t then =
          let one = with_time 1 F empty_slot in
          let two = with_time 2 E one in
          and_then (reader stand.LineStart line (suc k) 0 0 0 q) (decimal (suc k)) _
          (number_read line (suc k) 0 q (reader stand.LineStart line (suc k) 0 0 0 q) starts (suc k) (digits_few_of (suc k) few))
          (and_then (in_number line (suc k) 0 q (length (decimal (suc k))) (suc k)) (field_text 70 F) _
          (field_read line (suc k) 0 (length (decimal (suc k))) (suc k) q 70 F refl (eq-eqb (suc k) (suc k) refl)
          (device_letter 1 70 refl) (digits_few_of F f_small)
          ∙ ap (λ (p : Plan). in_number line (suc k) 1 p (length (decimal F)) F) own_kept)
          (and_then (in_number line (suc k) 1 (with_slot empty_slot) (length (decimal F)) F) (field_text 69 E) _
          (field_after 1 F 69 E empty_slot refl refl (device_letter 2 69 refl) f_small e_small)
          (and_then (in_number line (suc k) 2 (with_slot one) (length (decimal E)) E) (field_text 82 R) _
          (field_after 2 E 82 R one refl refl (device_letter 3 82 refl) e_small r_small)
          (and_then (in_number line (suc k) 3 (with_slot two) (length (decimal R)) R) (field_text 88 X) (together more)
          (field_after 3 R 88 X two refl refl (device_letter 4 88 refl) r_small x_small) then))))

      line_over :
          (f v : ℕ) (s : Slot) → eqb f 0 ≡ false → eqb (f + 1) 0 ≡ false → v ≤ 65535
          → complete q.N (in_number line (suc k) (f + 1) (with_slot s) (length (decimal v)) v).cursor ≡ true
          → read_on (in_number line (suc k) f (with_slot s) (length (decimal v)) v) (together (line_feed ∷ []))
          ≡ reader stand.LineStart (line + 1) (suc k + 1) 0 0 0 (with_slot (with_time f v s))
      line_over f v s some more v_small all =
          line_end line (suc k) f (length (decimal v)) v (with_slot s) (rw some) (rw no_zero more) all
          ∙ ap (reader stand.LineStart (line + 1) (suc k + 1) 0 0 0)
          (time_kept f (min v 65535) s ∙ ap (λ (t : ℕ). with_slot (with_time f t s)) (min-eq_left v_small))

      -- The last device's line.
      pub last_read :
          suc k ≡ q.N
          → read_on (reader stand.LineStart line (suc k) 0 0 0 q)
          (together (decimal (suc k) ∷ field_text 70 F ∷ field_text 69 E ∷ field_text 82 R ∷ field_text 88 X ∷ line_feed ∷ []))
          ≡ reader stand.LineStart (line + 1) (suc k + 1) 0 0 0 (with_slot (record { F = F; E = E; R = R; X = X; G = 0; S = 0 }))
      unfolding with_time complete
      last_read last =
          four_read (line_feed ∷ []) _ (line_over 4 X three_times refl refl x_small (rw (no_zero, eq-eqb (suc k) q.N last)))

      -- Another device's line.
      pub pair_read :
          (G S : ℕ) → G ≤ 65535 → S ≤ 65535
          → read_on (reader stand.LineStart line (suc k) 0 0 0 q)
          (together
          (decimal (suc k) ∷ field_text 70 F ∷ field_text 69 E ∷ field_text 82 R ∷ field_text 88 X ∷ field_text 71 G ∷ field_text 83 S
          ∷ line_feed ∷ []))
          ≡ reader stand.LineStart (line + 1) (suc k + 1) 0 0 0 (with_slot (record { F = F; E = E; R = R; X = X; G = G; S = S }))
      unfolding with_time complete
      pair_read G S g_small s_small =
          let four = with_time 4 X three_times in
          let five = with_time 5 G four in
          four_read (field_text 71 G ∷ field_text 83 S ∷ line_feed ∷ []) _
          (and_then (in_number line (suc k) 4 (with_slot three_times) (length (decimal X)) X) (field_text 71 G) _
          (field_after 4 X 71 G three_times refl refl (device_letter 5 71 refl) x_small g_small)
          (and_then (in_number line (suc k) 5 (with_slot four) (length (decimal G)) G) (field_text 83 S) _
          (field_after 5 G 83 S four refl refl (device_letter 6 83 refl) g_small s_small)
          (line_over 6 S five refl refl s_small (rw no_zero))))
