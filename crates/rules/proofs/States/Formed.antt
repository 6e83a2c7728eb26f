-- A well-formed state, read as facts: what the tests of `well_formed` say, both ways.
use Rattle.std.proofs.Common.{Option, ℕ, zero, suc, ◌≤◌, ◌<◌, ◌≡◌, refl, sym, ◌∙◌, ap, true, leb, ltb, ltb-true, ltb-false, leb-true, leb-false, eqb-true, lt-ltb, le-ltb, le-leb, eq-eqb}
use mathlib.Core.Bool.{false≢true}
use borrow.Author.Tests.{lt-leb}
use Rattle.laws.proofs.Tests.{case, all_hold, all_of_lem, each_holds, each_of}
use Rattle.rules.specs.declared.Plan.{Plan}
use Rattle.rules.specs.declared.Base.{Base}
use Rattle.rules.specs.declared.Base.TheVariants as base
use Rattle.rules.specs.declared.Place.{Place}
use Rattle.rules.specs.declared.Place.TheVariants as place
use Rattle.rules.specs.declared.Letter.{Letter}
use Rattle.rules.specs.Letters as letter
use Rattle.rules.specs.declared.Device.{Device}
use Rattle.rules.specs.declared.Yard.{Yard}
use Rattle.rules.specs.Plan.{slot, LS, is_device}
use Rattle.rules.specs.Yard.{device, fresh_device, same_place, same_letter, index_formed, clock_formed, lease_formed, place_formed, letter_formed, is_fresh, device_formed, base_formed, well_formed}
use Rattle.rules.specs.Numbers.{place_number, letter_number}
use Rattle.rules.proofs.Plans.Table.{device_is, is_device_lem, pair_is, is_pair_lem}

-- Places and letters with the same number are the same.
place_of : ℕ → Place
place_of zero = place.FallBack
place_of (suc zero) = place.Requesting
place_of (suc (suc zero)) = place.Entering
place_of (suc (suc (suc zero))) = place.Running
place_of (suc (suc (suc (suc zero)))) = place.Exiting1
place_of (suc (suc (suc (suc (suc n))))) = place.Exiting2

place_back : (a : Place) → place_of (place_number a) ≡ a
unfolding place_of
place_back place.FallBack = refl
place_back place.Requesting = refl
place_back place.Entering = refl
place_back place.Running = refl
place_back place.Exiting1 = refl
place_back place.Exiting2 = refl

pub same_place_lem : (a b : Place) → same_place a b ≡ true → a ≡ b
same_place_lem a b e = sym (place_back a) ∙ ap place_of (eqb-true _ _ e) ∙ place_back b

letter_of : ℕ → Option Letter
letter_of zero = letter.none
letter_of (suc zero) = letter.Request
letter_of (suc (suc zero)) = letter.Cancel
letter_of (suc (suc (suc zero))) = letter.Approve
letter_of (suc (suc (suc (suc zero)))) = letter.Deny
letter_of (suc (suc (suc (suc (suc n))))) = letter.Exit

letter_back : (a : Option Letter) → letter_of (letter_number a) ≡ a
unfolding letter_of
letter_back letter.none = refl
letter_back letter.Request = refl
letter_back letter.Cancel = refl
letter_back letter.Approve = refl
letter_back letter.Deny = refl
letter_back letter.Exit = refl

pub same_letter_lem : (a b : Option Letter) → same_letter a b ≡ true → a ≡ b
same_letter_lem a b e = sym (letter_back a) ∙ ap letter_of (eqb-true _ _ e) ∙ letter_back b

-- The supervisor's index and clocks.
pub record Leased (p : Plan) (i lease : ℕ) : Type 0 where
  pub low : 1 ≤ i
  pub high : i ≤ p.N
  pub short : lease < LS p

abbrev pub Based : Plan → Base → ℕ → ℕ → Type 0
Based p base.FallBack c l = (c ≤ p.B) × (l ≡ 0)
Based p (base.Lease i) c l = Leased p i l × (i < p.N → c < p.W) × (p.N ≤ i → c ≡ 0)
Based p (base.Cancel i) c l = Leased p i l × (c ≡ 0)
Based p (base.Abort i) c l = Leased p i l × (c ≡ 0)

module _ (p : Plan) where
  leased : (i l : ℕ) → is_device p i ≡ true → ltb l (LS p) ≡ true → Leased p i l
  leased i l d s = let h = device_is p i d in record { low = h.0; high = h.1; short = ltb-true _ _ s }

  pub based_is : (b : Base) (c l : ℕ) → base_formed p b c l ≡ true → Based p b c l
  unfolding base_formed index_formed clock_formed lease_formed
  based_is base.FallBack c l e =
      let h = all_hold _ e in (leb-true _ _ h.1.0, eqb-true _ _ h.1.1.0)
  based_is (base.Lease i) c l e =
      let h = all_hold _ e in (
        leased i l h.0 h.1.1.0,
        λ few. ltb-true _ _ (rw (lt-ltb i p.N few) at h.1.0),
        λ last. eqb-true _ _ (rw (le-ltb i p.N last) at h.1.0),
      )
  based_is (base.Cancel i) c l e =
      let h = all_hold _ e in (leased i l h.0 h.1.1.0, eqb-true _ _ h.1.0)
  based_is (base.Abort i) c l e =
      let h = all_hold _ e in (leased i l h.0 h.1.1.0, eqb-true _ _ h.1.0)

  pub is_based : (b : Base) (c l : ℕ) → Based p b c l → base_formed p b c l ≡ true
  unfolding base_formed index_formed clock_formed lease_formed
  is_based base.FallBack c l h = all_of_lem _ (refl, (le-leb _ _ h.0, (eq-eqb _ _ h.1, tt)))
  is_based (base.Lease i) c l h =
      all_of_lem _ (
        is_device_lem p i h.0.low h.0.high,
        (
          case (ltb i p.N)
              (λ q. rw q (lt-ltb _ _ (h.1 (ltb-true _ _ q))))
              (λ q. rw q (eq-eqb _ _ (h.2 (ltb-false _ _ q)))),
          (lt-ltb _ _ h.0.short, tt),
        ),
      )
  is_based (base.Cancel i) c l h =
      all_of_lem _ (is_device_lem p i h.0.low h.0.high, (eq-eqb _ _ h.1, (lt-ltb _ _ h.0.short, tt)))
  is_based (base.Abort i) c l h =
      all_of_lem _ (is_device_lem p i h.0.low h.0.high, (eq-eqb _ _ h.1, (lt-ltb _ _ h.0.short, tt)))

-- A device's place and clock.
abbrev pub Placed : Plan → ℕ → Place → ℕ → Type 0
Placed p i place.FallBack c = c ≤ (slot p i).F
Placed p i place.Requesting c = (i ≡ p.N) × (c < p.Q)
Placed p i place.Entering c = c < (slot p i).E
Placed p i place.Running c = c < (slot p i).R
Placed p i place.Exiting1 c = c < (slot p i).X
Placed p i place.Exiting2 c = c < (slot p i).X

-- A device's letter.
abbrev pub Lettered : Plan → ℕ → Option Letter → Place → ℕ → Type 0
Lettered p i letter.none pl c = Unit
Lettered p i letter.Request pl c = ⊥
Lettered p i letter.Cancel pl c = ⊥
Lettered p i letter.Approve pl c = (1 ≤ i) × (i < p.N) × (pl ≡ place.Entering) × (c ≡ 0)
Lettered p i letter.Deny pl c = (1 ≤ i) × (i < p.N) × (pl ≡ place.FallBack) × (c ≡ 0)
Lettered p i letter.Exit pl c = ⊥

module _ (p : Plan) (i : ℕ) where
  pub placed_is : (pl : Place) (c : ℕ) → place_formed p i pl c ≡ true → Placed p i pl c
  unfolding place_formed
  placed_is place.FallBack c e = leb-true _ _ e
  placed_is place.Requesting c e = let h = all_hold _ e in (eqb-true _ _ h.0, ltb-true _ _ h.1.0)
  placed_is place.Entering c e = ltb-true _ _ e
  placed_is place.Running c e = ltb-true _ _ e
  placed_is place.Exiting1 c e = ltb-true _ _ e
  placed_is place.Exiting2 c e = ltb-true _ _ e

  pub is_placed : (pl : Place) (c : ℕ) → Placed p i pl c → place_formed p i pl c ≡ true
  unfolding place_formed
  is_placed place.FallBack c h = le-leb _ _ h
  is_placed place.Requesting c h = all_of_lem _ (eq-eqb _ _ h.0, (lt-ltb _ _ h.1, tt))
  is_placed place.Entering c h = lt-ltb _ _ h
  is_placed place.Running c h = lt-ltb _ _ h
  is_placed place.Exiting1 c h = lt-ltb _ _ h
  is_placed place.Exiting2 c h = lt-ltb _ _ h

  pub lettered_is : (l : Option Letter) (pl : Place) (c : ℕ) → letter_formed p i l pl c ≡ true → Lettered p i l pl c
  unfolding letter_formed
  lettered_is letter.none pl c e = tt
  lettered_is letter.Request pl c e = false≢true e
  lettered_is letter.Cancel pl c e = false≢true e
  lettered_is letter.Approve pl c e =
      let h = all_hold _ e in
      let d = pair_is p i h.0 in
      (d.0, d.1, same_place_lem pl place.Entering h.1.0, eqb-true _ _ h.1.1.0)
  lettered_is letter.Deny pl c e =
      let h = all_hold _ e in
      let d = pair_is p i h.0 in
      (d.0, d.1, same_place_lem pl place.FallBack h.1.0, eqb-true _ _ h.1.1.0)
  lettered_is letter.Exit pl c e = false≢true e

  pub is_lettered : (l : Option Letter) (pl : Place) (c : ℕ) → Lettered p i l pl c → letter_formed p i l pl c ≡ true
  unfolding letter_formed
  is_lettered letter.none pl c h = refl
  is_lettered letter.Request pl c h = absurd h
  is_lettered letter.Cancel pl c h = absurd h
  is_lettered letter.Approve pl c h =
      all_of_lem _ (is_pair_lem p i h.0 h.1, (rw h.2, (eq-eqb _ _ h.3, tt)))
  is_lettered letter.Deny pl c h = all_of_lem _ (is_pair_lem p i h.0 h.1, (rw h.2, (eq-eqb _ _ h.3, tt)))
  is_lettered letter.Exit pl c h = absurd h

-- A whole state.
pub record Formed (p : Plan) (y : Yard) : Type 0 where
  pub based : Based p y.base y.clock y.lease
  pub placed : (i : ℕ) → 1 ≤ i → i ≤ 8 → i ≤ p.N → Placed p i (device y i).place (device y i).clock
  pub lettered :
      (i : ℕ) → 1 ≤ i → i ≤ 8 → i ≤ p.N → Lettered p i (device y i).letter (device y i).place (device y i).clock
  pub unused : (i : ℕ) → 1 ≤ i → i ≤ 8 → p.N < i → device y i ≡ fresh_device

fresh_is : (d : Device) → is_fresh d ≡ true → d ≡ fresh_device
fresh_is d e =
    let h = all_hold _ e in
    let q : d.place ≡ place.FallBack = same_place_lem d.place place.FallBack h.0 in
    let c : d.clock ≡ 0 = eqb-true _ _ h.1.0 in
    let l : d.letter ≡ letter.none = same_letter_lem d.letter letter.none h.1.1.0 in
    λ j. record { place = q j; clock = c j; letter = l j }

module _ (p : Plan) (y : Yard) where
  pub formed_is : well_formed p y ≡ true → Formed p y
  unfolding well_formed device_formed
  formed_is e =
      let h = all_hold _ e in
      let d : (i : ℕ) → 1 ≤ i → i ≤ 8 → device_formed p i (device y i) ≡ true = each_holds _ 8 h.1.0 in
      record {
        based = based_is p y.base y.clock y.lease h.0;
        placed = λ i low high used. placed_is p i _ _ (used_parts i used (d i low high)).0;
        lettered = λ i low high used. lettered_is p i _ _ _ (used_parts i used (d i low high)).1.0;
        unused = λ i low high over. fresh_is _ (unused_part i over (d i low high));
      }
    where
      used_parts :
          (i : ℕ) → i ≤ p.N → device_formed p i (device y i) ≡ true
          → (place_formed p i (device y i).place (device y i).clock ≡ true)
          × ((letter_formed p i (device y i).letter (device y i).place (device y i).clock ≡ true) × Unit {0})
      used_parts i used e = all_hold _ (rw (le-leb i p.N used) at e)

      unused_part : (i : ℕ) → p.N < i → device_formed p i (device y i) ≡ true → is_fresh (device y i) ≡ true
      unused_part i over e = rw (lt-leb i p.N over) at e

  pub is_formed : Formed p y → well_formed p y ≡ true
  unfolding well_formed device_formed
  is_formed f =
      all_of_lem _ (is_based p y.base y.clock y.lease f.based, (each_of _ 8 formed, tt))
    where
      formed : (i : ℕ) → 1 ≤ i → i ≤ 8 → device_formed p i (device y i) ≡ true
      formed i low high =
          case (leb i p.N)
          (λ q.
          rw q
          (all_of_lem _ (
            is_placed p i _ _ (f.placed i low high (leb-true _ _ q)),
            (is_lettered p i _ _ _ (f.lettered i low high (leb-true _ _ q)), tt),
          )))
          (λ q. rw (q, f.unused i low high (leb-false _ _ q)) (all_of_lem _ (refl, (refl, (refl, tt)))))
