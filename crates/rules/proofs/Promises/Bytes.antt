-- Promises 1 to 3 hold of the bytes that a run leaves in its buffer: each byte shows who is engaged at its tick.
use Rattle.std.proofs.Common.{ℕ, zero, suc, ◌+◌, ◌-◌, ◌≤◌, arith, ◌≡◌, refl, sym, ◌∙◌, ap, Bool, List, [], ◌∷◌, ◌++◌, get_or, le-leb}
use mathlib.Core.Bool.{and-true}
use lib.ListN.{get_or-append}
use Rattle.laws.specs.Tests.{all_of}
use Rattle.laws.specs.Lists.{tabulate}
use Rattle.laws.proofs.Tests.{fails}
use Rattle.laws.proofs.Lists.{tabulate_at}
use Rattle.rules.specs.declared.Plan.{Plan}
use Rattle.rules.specs.Yard.{fresh_yard}
use Rattle.rules.specs.Run.{after, engaged_byte, engaged_bytes}
use Rattle.rules.specs.Theorems.{Accepts}
use Rattle.rules.specs.Promises.{yard_after, place_at, engaged_at, Kept, shown, BytesKept}
use Rattle.rules.proofs.Plans.Accepted.{accepted_exactly}
use Rattle.rules.proofs.Runs.Formed.{bytes_length}
use Rattle.rules.proofs.Runs.Engaged.{byte_at}
use Rattle.rules.proofs.Promises.Stays.Stay.{engaged_active}
use Rattle.rules.proofs.Promises.Safe.Always.{fresh_idle}
use Rattle.rules.proofs.Promises.Spacing.{stays_and_spacing}

-- What is promised of one history holds of every other that shows the same devices engaged, as far as it goes.
module _ (p : Plan) (H K : ℕ → ℕ → Bool) (n : ℕ) (alike : (i t : ℕ) → 1 ≤ i → i ≤ p.N → t ≤ n → H i t ≡ K i t) where
  alike_kept : Kept p K n → Kept p H n
  alike_kept k =
      record {
        stays =
            λ i t low high far all.
            k.stays i t low high far (λ j h. sym (alike i (t + j) low high (omega arith)) ∙ all j h);
        before =
            λ i t j low few far is near.
            let b = k.before i t j low few far (sym (alike (i + 1) t (omega arith) (omega arith) far) ∙ is) near in
            (b.0, alike i (t - j) low (omega arith) (omega arith) ∙ b.1);
        after =
            λ i t j low few is near far.
            alike i (t + j) low (omega arith) far
            ∙ k.after i t j low few (sym (alike (i + 1) t (omega arith) (omega arith) (omega arith)) ∙ is) near far;
      }

module _ (p : Plan) (roll rest : List ℕ) where
  abbrev byte : ℕ → ℕ
  byte t = engaged_byte p (yard_after p roll t)

  bytes_tabulated : (n : ℕ) → engaged_bytes p fresh_yard roll n ≡ tabulate byte n
  unfolding engaged_bytes tabulate
  bytes_tabulated zero = refl
  bytes_tabulated (suc n) = ap (λ (l : List ℕ). l ++ (byte (suc n) ∷ [])) (bytes_tabulated n)

  byte_shown : (n t : ℕ) → 1 ≤ t → t ≤ n → get_or (engaged_bytes p fresh_yard roll n ++ rest) (t - 1) 0 ≡ byte t
  byte_shown n t low high =
      get_or-append (engaged_bytes p fresh_yard roll n) rest 0 (t - 1) (omega (arith, bytes_length p fresh_yard roll n))
      ∙ rw (bytes_tabulated n) (tabulate_at byte n t 0 low high)

  shown_engaged :
      Accepts p → (n i t : ℕ) → 1 ≤ i → i ≤ p.N → t ≤ n
      → shown (engaged_bytes p fresh_yard roll n ++ rest) i t ≡ engaged_at p roll i t
  unfolding all_of after
  shown_engaged a n i zero low high far =
      sym (fails (λ e. fresh_idle p a i low high (engaged_active (place_at p roll i 0) e)))
  shown_engaged a n i (suc t) low high far =
      rw (le-leb 1 (suc t) (omega arith), byte_shown n (suc t) (omega arith) far, byte_at p (yard_after p roll (suc t)) i low high)
      (and-true (engaged_at p roll i (suc t)))

pub bytes_kept : BytesKept
bytes_kept p roll n rest e =
    alike_kept p (shown (engaged_bytes p fresh_yard roll n ++ rest)) (engaged_at p roll) n
    (shown_engaged p roll rest ((accepted_exactly p).0 e) n) (stays_and_spacing p roll n e)
