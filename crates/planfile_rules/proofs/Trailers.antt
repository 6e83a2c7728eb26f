-- A trailer is taken exactly when it meets 14 to 18.
use Rattle.std.proofs.Common.{ℕ, ◌+◌, ◌*◌, ◌≤◌, arith, ◌≡◌, refl, true, ◌&&◌, leb, ltb, eqb, ltb-false, leb-true, eqb-true, le-ltb, le-leb, eq-eqb}
use borrow.Author.Tests.{not-false}
use Rattle.laws.proofs.Tests.{and_hold, and_of, or_none, or_of}
use Rattle.rules.specs.Verdict.{Accepted}
use Rattle.rules.specs.Verdict.{first_refusal}
use Rattle.rules.proofs.Answers.{accepted_if, first_accepted}
use Rattle.planfile_rules.specs.declared.Trailer.{Trailer}
use Rattle.planfile_rules.specs.File.{devices_for, is_body_size, trailer_verdict, the_mark}
use Rattle.planfile_rules.specs.Theorems.{TrailerHolds, TrailerExactly}

pub devices_back : (n : ℕ) → devices_for (8 + 12 * n) ≡ n
unfolding devices_for
devices_back n = omega arith

pub body_size : (s : ℕ) → is_body_size s ≡ true → (2 ≤ devices_for s) × (devices_for s ≤ 8) × (s ≡ 8 + 12 * devices_for s)
unfolding is_body_size
body_size s e =
    let n : ℕ = devices_for s in
    let h = and_hold (leb 2 n && leb n 8) (eqb s (8 + 12 * n)) e in
    let l = and_hold (leb 2 n) (leb n 8) h.0 in
    (leb-true 2 n l.0, leb-true n 8 l.1, eqb-true s (8 + 12 * n) h.1)

is_body_size_lem : (n : ℕ) → 2 ≤ n → n ≤ 8 → is_body_size (8 + 12 * n) ≡ true
unfolding is_body_size
is_body_size_lem n low high =
    rw (devices_back n)
    (and_of (and_of (le-leb 2 n low) (le-leb n 8 high)) (eq-eqb (8 + 12 * n) (8 + 12 * n) refl))

module _ (len : ℕ) (t : Trailer) where
  pub trailer_holds : trailer_verdict len t ≡ Accepted → TrailerHolds len t
  unfolding trailer_verdict first_refusal
  trailer_holds e =
      let h14 = first_accepted _ _ e in
      let h15 = first_accepted _ _ h14.1 in
      let h16 = first_accepted _ _ h15.1 in
      let h17 = first_accepted _ _ h16.1 in
      let h18 = first_accepted _ _ h17.1 in
      let b = or_none (ltb len 42) (ltb 65536 len) (accepted_if _ 14 0 h14.0) in
      let s = body_size t.size (not-false _ (accepted_if _ 17 0 h17.0)) in
      let d = or_none (ltb t.back (t.size + 10)) (ltb len t.back) (accepted_if _ 18 0 h18.0) in
      record {
        bytes = (ltb-false len 42 b.0, ltb-false 65536 len b.1);
        mark = eqb-true t.mark the_mark (not-false _ (accepted_if _ 15 0 h15.0));
        version = eqb-true t.version 1 (not-false _ (accepted_if _ 16 0 h16.0));
        devices = (devices_for t.size, s.0, s.1, s.2);
        body = (ltb-false t.back (t.size + 10) d.0, ltb-false len t.back d.1);
      }

  is_taken : TrailerHolds len t → trailer_verdict len t ≡ Accepted
  unfolding trailer_verdict first_refusal
  is_taken h =
      let n : ℕ = h.devices.0 in
      let sized : is_body_size t.size ≡ true =
      rw h.devices.3 (is_body_size_lem n h.devices.1 h.devices.2) in
      rw (
        or_of (le-ltb len 42 h.bytes.0) (le-ltb 65536 len h.bytes.1),
        eq-eqb t.mark the_mark h.mark,
        eq-eqb t.version 1 h.version,
        sized,
        or_of (le-ltb t.back (t.size + 10) h.body.0) (le-ltb len t.back h.body.1),
      )

pub trailer_exactly : TrailerExactly
trailer_exactly len t = (trailer_holds len t, is_taken len t)
