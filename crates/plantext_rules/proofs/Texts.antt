-- The text of an accepted plan is read back as that plan.
use Rattle.std.proofs.Common.{ℕ, zero, suc, ◌+◌, ◌≤◌, ◌<◌, arith, ◌≡◌, refl, sym, ◌∙◌, ap, List, leb, eqb, length, get_or, ne_eqb, eqb-true, leb-false}
use borrow.Author.Tests.{lt-leb}
use Rattle.laws.specs.Lists.{swept, joined}
use Rattle.laws.proofs.Lists.{tabulate_same, tabulate_back, swept_length, swept_none, swept_rest, swept_next}
use Rattle.laws.proofs.Tests.{case, tests}
use Rattle.rules.specs.declared.Plan.{Plan}
use Rattle.rules.specs.declared.Slot.{Slot}
use Rattle.rules.specs.Plan.{empty_slot, slot}
use Rattle.rules.specs.Theorems.{Accepts, Time}
use Rattle.rules.proofs.Plans.Accepted.{accepted_exactly}
use Rattle.planfile_rules.specs.File.{empty_plan}
use Rattle.plantext_rules.specs.declared.Stand.TheVariants as stand
use Rattle.plantext_rules.specs.declared.Reader.{Reader}
use Rattle.plantext_rules.specs.Text.{device_text, plan_text}
use Rattle.plantext_rules.specs.Reading.{read_on, from_start, text_ends, lines_verdict, text_answer}
use Rattle.plantext_rules.specs.Theorems.{TextBack}
use Rattle.plantext_rules.proofs.Fields.{reader}
use Rattle.plantext_rules.proofs.Lines.{and_then, yard_read}
use Rattle.plantext_rules.proofs.Devices.{with_slot, last_read, pair_read}

module _ (p : Plan) (a : Accepts p) where
  -- The plan when the lines of n devices have been read.
  abbrev part : ℕ → Plan
  part n = record { N = p.N; W = p.W; B = p.B; Q = p.Q; slots = swept (slot p) (λ i. empty_slot) n 8 }

  small : {t : ℕ} → Time t → t ≤ 65535
  small time = omega (arith, time.high)

  abbrev before : ℕ → Reader
  before n = reader stand.LineStart (n + 2) (suc n) 0 0 0 (part n)

  module _ (k : ℕ) (high : k + 1 ≤ p.N) where
    there : k < length (part k).slots
    there = omega (arith, swept_length (slot p) (λ i. empty_slot) 8 k, a.devices.1)

    empty : get_or (part k).slots k empty_slot ≡ empty_slot
    empty = swept_rest (slot p) (λ i. empty_slot) 8 k k empty_slot (omega arith) (omega (arith, a.devices.1))

    -- The device's slot is then the plan's.
    next_part : (x : Slot) → x ≡ slot p (suc k) → with_slot (k + 2) k (part k) there high x ≡ part (suc k)
    next_part x is =
        ap (λ (xs : List Slot). record { N = p.N; W = p.W; B = p.B; Q = p.Q; slots = xs })
        (swept_next (slot p) (λ i. empty_slot) 8 k x empty_slot (omega (arith, a.devices.1))
        (is ∙ ap (slot p) {x = suc k} {y = k + 1} (omega arith)))
        ∙ ap part {x = k + 1} {y = suc k} (omega arith)

    next_before :
        (x : Slot) → x ≡ slot p (suc k)
        → reader stand.LineStart (k + 2 + 1) (suc k + 1) 0 0 0 (with_slot (k + 2) k (part k) there high x) ≡ before (suc k)
    next_before x is =
        ap (reader stand.LineStart (k + 2 + 1) (suc k + 1) 0 0 0) (next_part x is)
        ∙ ap (λ (l : ℕ). reader stand.LineStart l (suc k + 1) 0 0 0 (part (suc k))) {x = k + 2 + 1} {y = suc k + 2} (omega arith)
        ∙ ap (λ (d : ℕ). reader stand.LineStart (suc k + 2) d 0 0 0 (part (suc k))) {x = suc k + 1} {y = suc (suc k)} (omega arith)

    few : suc k ≤ 65535
    few = omega (arith, a.devices.1)

    device_read : read_on (before k) (device_text p (suc k)) ≡ before (suc k)
    unfolding device_text
    device_read =
        let s = slot p (suc k) in
        let times = a.device_times (suc k) (omega arith) (omega arith) in
        case (eqb (suc k) p.N)
        (λ q.
        let last : suc k ≡ p.N = eqb-true (suc k) p.N q in
        let none : s ≡ record { F = s.F; E = s.E; R = s.R; X = s.X; G = 0; S = 0 } =
        ap (λ (g : ℕ). record { F = s.F; E = s.E; R = s.R; X = s.X; G = g; S = s.S })
        (ap (λ (i : ℕ). (slot p i).G) last ∙ a.last_spacing.0)
        ∙ ap (λ (x : ℕ). record { F = s.F; E = s.E; R = s.R; X = s.X; G = 0; S = x })
        (ap (λ (i : ℕ). (slot p i).S) last ∙ a.last_spacing.1) in
        rw q
        (last_read (k + 2) k (part k) there high empty few s.F s.E s.R s.X (small times.0) (small times.1)
        (small times.2) (small times.3) last
        ∙ next_before (record { F = s.F; E = s.E; R = s.R; X = s.X; G = 0; S = 0 }) (sym none)))
        (λ q.
        let pair = a.pair_times (suc k) (omega arith) (omega (tests, q)) in
        rw q
        (pair_read (k + 2) k (part k) there high empty few s.F s.E s.R s.X (small times.0) (small times.1)
        (small times.2) (small times.3) s.G s.S (small pair.0) (small pair.1)
        ∙ next_before s refl))

  devices_read : (n : ℕ) → n ≤ p.N → read_on (before 0) (joined (device_text p) n) ≡ before n
  unfolding joined read_on
  devices_read zero high = refl
  devices_read (suc n) high =
      and_then (before 0) (joined (device_text p) n) (device_text p (suc n)) (devices_read n (omega arith))
      (device_read n (omega arith))

  module _ (eight : length p.slots ≡ 8) where
    whole : part p.N ≡ p
    unfolding slot
    whole =
        ap (λ (xs : List Slot). record { N = p.N; W = p.W; B = p.B; Q = p.Q; slots = xs })
        (tabulate_same _ (slot p) 8
        (λ i low high.
        case (leb i p.N) (λ q. rw q) (λ q. rw q (sym (a.unused i (leb-false i p.N q) high))))
        ∙ tabulate_back p.slots empty_slot 8 eight)

    plan_read : read_on from_start (plan_text p) ≡ reader stand.LineStart (p.N + 2) (suc p.N) 0 0 0 p
    unfolding plan_text empty_plan
    plan_read =
        and_then from_start _ (joined (device_text p) p.N)
        (yard_read p (omega (arith, a.devices.1)) (small a.yard_times.0) (small a.yard_times.1) (small a.yard_times.2)
        ∙ ap (λ (xs : List Slot). reader stand.LineStart 2 1 0 0 0 (record { N = p.N; W = p.W; B = p.B; Q = p.Q; slots = xs }))
        (sym (swept_none (slot p) (λ i. empty_slot) 8)))
        (devices_read p.N (omega arith) ∙ ap (reader stand.LineStart (p.N + 2) (suc p.N) 0 0 0) whole)

pub text_back : TextBack
unfolding text_answer text_ends lines_verdict
text_back p eight accepted =
    rw (
      plan_read p ((accepted_exactly p).0 accepted) eight,
      ne_eqb (suc p.N) 0 (λ e. omega (arith, e)),
      lt-leb (suc p.N) p.N (omega arith),
      accepted,
    )
