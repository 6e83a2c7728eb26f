-- Where a listing stands after k ticks of a roll that is not refused: at the start, one tick on, and at the end.
use Rattle.std.proofs.Common.{ℕ, ◌+◌, ◌-◌, ◌^◌, ◌≤◌, ◌<◌, arith, add-one, ◌≡◌, refl, sym, ◌∙◌, Bool, true, false, ◌&&◌, List, ltb, leb, eqb, length, length-append, ltb-true, le-ltb, lt-ltb, leb-true, leb-false, eqb-true}
use Rattle.laws.proofs.Tests.{and_hold, lowest_is, lowest_is_none, case, clash, tests}
use Rattle.laws.proofs.Writes.{at_front}
use Rattle.text_rules.specs.Laid.{Laid}
use Rattle.text_rules.proofs.Laying.{nothing, and_then, as_text, with_room}
use Rattle.rules.specs.declared.Plan.{Plan}
use Rattle.rules.specs.declared.Yard.{Yard}
use Rattle.rules.specs.declared.Record.{Record}
use Rattle.rules.specs.declared.TickAnswer.{TickAnswer}
use Rattle.rules.specs.Verdict.{Accepted}
use Rattle.rules.specs.Tick.{tick_answer}
use Rattle.rules.specs.Tick.Input.{down_lost}
use Rattle.rules.specs.Run.{records, record_at, after, roll_verdict}
use Rattle.listing_rules.specs.Text.{line_text}
use Rattle.listing_rules.specs.Listing.{tick_line, lines_text, line_room, full, ticks_listed, list_answer, list_buffer}
use Rattle.listing_rules.proofs.Rolls.{tick_fits, next_yard, next_line_lem}

-- The yard, the buffer and where its text ends; every line so far was begun with room for it.
pub record Standing (p : Plan) (y : Yard) (roll : List ℕ) (first : ℕ) (buffer : List ℕ) (yard : Yard) (k : ℕ) (out : List ℕ)
    (at : ℕ) : Type 0 where
  pub most : k ≤ records roll
  pub now : yard ≡ after p y roll k
  pub laid : Laid buffer 0 (lines_text p y roll first k) out at
  pub fits : length (lines_text p y roll first k) ≤ length buffer
  pub room : (j : ℕ) → j < k → full p y roll first (length buffer) j ≡ false

-- Another line is begun.
pub goes_on : (k n room at : ℕ) → (ltb k n && leb line_room (room - at)) ≡ true → (k < n) × (line_room ≤ room - at)
goes_on k n room at e = let h = and_hold _ _ e in (ltb-true k n h.0, leb-true line_room (room - at) h.1)

module _ (p : Plan) (y : Yard) (roll : List ℕ) (first : ℕ) (buffer : List ℕ) where
  pub start : Standing p y roll first buffer y 0 buffer 0
  unfolding after lines_text
  start =
      record {
        most = omega arith;
        now = refl;
        laid = nothing buffer 0;
        fits = omega arith;
        room = λ j h. absurd (omega arith);
      }

  module _ (accepted : roll_verdict p y roll ≡ Accepted) (n : ℕ) (n_is : n ≡ records roll)
      {yard : Yard} {k : ℕ} {out : List ℕ} {at : ℕ} (s : Standing p y roll first buffer yard k out at) where
    -- There is room for the next line, and for all before it.
    more_room :
        line_room ≤ length buffer - at → (j : ℕ) → j < k + 1 → full p y roll first (length buffer) j ≡ false
    more_room h j below =
        case (eqb j k)
        (λ e.
        let fits : length (lines_text p y roll first k) + line_room ≤ length buffer = omega (arith, s.laid.stands) in
        rw (eqb-true j k e) (le-ltb _ _ fits))
        (λ e. s.room j (omega tests))

    -- One tick on.
    pub next :
        (ltb k n && leb line_room (length buffer - at)) ≡ true
        → (r : Record) (a : TickAnswer) (f : ℕ) (lost : Bool) {x : List ℕ} {end : ℕ}
        → r ≡ record_at roll k → a ≡ tick_answer p yard r → f ≡ first → lost ≡ down_lost r → f + k + 1 < 2 ^ 64
        → Laid out at (line_text (f + k + 1) p.N a.yard a.down lost) x end
        → Standing p y roll first buffer a.yard (k + 1) x end
    unfolding lines_text
    next test r a f lost r_is a_is f_is lost_is small w =
        let go = goes_on k n (length buffer) at test in
        let in_roll : k < records roll = omega arith in
        let line = next_line_lem p y roll first accepted k in_roll yard r a s.now r_is a_is f lost f_is lost_is in
        let short = tick_fits p y roll first accepted k (rw f_is at small) in
        let lines = length-append (lines_text p y roll first k) (tick_line p y roll first k) in
        record {
          most = omega arith;
          now = next_yard p y roll first accepted k in_roll yard r a s.now r_is a_is;
          laid = as_text _ (and_then s.laid w) (rw (line, add-one k));
          fits = rw (add-one k, lines) (omega (arith, s.laid.stands));
          room = more_room go.1;
        }

    no_room :
        (a b : Bool) → a ≡ ltb k (records roll) → b ≡ leb line_room (length buffer - at) → (a && b) ≡ false
        → k < records roll → full p y roll first (length buffer) k ≡ true
    no_room true b a_is b_is e in_roll =
        let short : length buffer < length (lines_text p y roll first k) + line_room =
        omega (arith, s.laid.stands, leb-false line_room (length buffer - at) (sym b_is ∙ e)) in
        lt-ltb _ _ short
    no_room false b a_is b_is e in_roll = clash (lt-ltb _ _ in_roll) (sym a_is)

    -- At the end the ticks done are those of the definition.
    ticks_are : (ltb k n && leb line_room (length buffer - at)) ≡ false → ticks_listed p y roll first (length buffer) ≡ k
    unfolding ticks_listed
    ticks_are test =
        let stop = no_room (ltb k n) (leb line_room (length buffer - at)) (rw n_is) refl test in
        rw accepted
        (case (ltb k (records roll))
        (λ e. lowest_is (full p y roll first (length buffer)) (records roll) k (ltb-true _ _ e) (stop (ltb-true _ _ e)) s.room)
        (λ e.
        let all : k ≡ records roll = omega (tests, s.most) in
        lowest_is_none (full p y roll first (length buffer)) (records roll) (λ j h. s.room j (omega arith)) ∙ sym all))

    pub done :
        (ltb k n && leb line_room (length buffer - at)) ≡ false
        → (record { verdict = Accepted; yard = yard; ticks = k; length = at } ≡ list_answer p y roll first (length buffer))
        × (out ≡ list_buffer p y roll first buffer)
    unfolding list_answer list_buffer
    done test =
        let ticks = ticks_are test in
        let front = at_front (with_room s.laid (omega (arith, s.fits))) s.fits in
        (rw (ticks, accepted, s.now, front.0), rw (ticks, ← front.0) front.1)
