-- A plan written as a file: how long it is, what the writer answers and leaves, and that it is read back.
use Rattle.std.proofs.Common.{ℕ, ◌+◌, ◌-◌, ◌*◌, ◌≤◌, arith, ◌≡◌, refl, sym, ◌∙◌, ap, List, ◌++◌, length, take, drop, get_or, length-append, take_at, drop_at, get_or-append-add, get_or-drop, lt-ltb, le-ltb, ltb-false, eq-eqb}
use lib.Seq.{take-append_seam}
use Rattle.laws.specs.Written.{Written}
use Rattle.laws.proofs.Writes.{at_front}
use Rattle.numbers.specs.Bytes.{num16, num32, two_bytes, four_bytes}
use Rattle.numbers.proofs.Back.{two_back, four_back}
use Rattle.rules.specs.declared.Plan.{Plan}
use Rattle.rules.specs.Verdict.{Verdict}
use Rattle.rules.specs.Verdict.{Accepted, Refused}
use Rattle.rules.specs.Table.{plan_verdict}
use Rattle.rules.proofs.Answers.{accepted_if, first_accepted}
use Rattle.rules.proofs.Plans.Accepted.{accepted_exactly}
use Rattle.planfile_rules.specs.declared.Trailer.{Trailer}
use Rattle.planfile_rules.specs.File.{last_ten, trailer_in, trailer_of, body_at, plan_in, trailer_verdict, body_verdict, answer_of, read_answer}
use Rattle.planfile_rules.specs.Writing.{body_bytes, trailer_bytes, trailer_for, file_bytes, write_verdict, write_answer, write_buffer, ReadAs, WithoutNotes}
use Rattle.planfile_rules.specs.Theorems.{WriteExactly, WriteLeaves, WriteThenRead}
use Rattle.planfile_rules.proofs.Trailers.{devices_back, trailer_exactly}
use Rattle.planfile_rules.proofs.Bodies.{body_wide, plan_again}

trailer_wide : (t : Trailer) → length (trailer_bytes t) ≡ 10
unfolding trailer_bytes two_bytes four_bytes
trailer_wide t = refl

trailer_again : (t : Trailer) → trailer_in (trailer_bytes t) ≡ t
unfolding trailer_in trailer_bytes two_bytes four_bytes num16 num32
trailer_again t = rw (two_back t.size, two_back t.version, four_back t.back, two_back t.mark)

pub file_wide : (p : Plan) → length (file_bytes p) ≡ 18 + 12 * p.N
unfolding file_bytes
file_wide p =
    length-append (body_bytes p p.N) (trailer_bytes (trailer_for p.N))
    ∙ omega (arith, body_wide p p.N, trailer_wide (trailer_for p.N))

pub write_exactly : (p : Plan) (room : ℕ) → WriteExactly p room
unfolding write_verdict
write_exactly p room = record {
  long = file_wide p;
  first = λ k i e. rw e;
  short = λ e h. rw (e, lt-ltb room (18 + 12 * p.N) (omega (arith, file_wide p)));
  taken = λ e h. rw (e, le-ltb room (18 + 12 * p.N) (omega (arith, file_wide p)));
}

pub write_leaves : (p : Plan) (buffer : List ℕ) → WriteLeaves p buffer
unfolding write_answer write_buffer
write_leaves p buffer = record {
  refused = λ k i e. (rw e, rw e);
  front = λ e. rw e (take-append_seam (file_bytes p) (drop (length (file_bytes p)) buffer));
  past = λ e k h. rw e (stays (file_bytes p) k h);
}
  where
    stays : (text : List ℕ) (k : ℕ) → length text ≤ k → get_or (text ++ drop (length text) buffer) k 0 ≡ get_or buffer k 0
    stays text k h =
        let here : k ≡ length text + (k - length text) = omega arith in
        ap (λ (j : ℕ). get_or (text ++ drop (length text) buffer) j 0) here
        ∙ get_or-append-add text (drop (length text) buffer) (k - length text) 0
        ∙ get_or-drop (length text) buffer (k - length text) 0
        ∙ ap (λ (j : ℕ). get_or buffer j 0) (sym here)

-- What stands in a file that was written.
module _ (p : Plan) where
  last_ten_lem : last_ten (file_bytes p) ≡ trailer_bytes (trailer_for p.N)
  unfolding file_bytes
  last_ten_lem =
      drop_at (body_bytes p p.N) (trailer_bytes (trailer_for p.N)) (length (file_bytes p) - 10)
      (omega (arith, file_wide p, body_wide p p.N))

  the_trailer : trailer_of (file_bytes p) ≡ trailer_for p.N
  the_trailer = ap trailer_in last_ten_lem ∙ trailer_again (trailer_for p.N)

  the_body : body_at (trailer_for p.N) (file_bytes p) ≡ body_bytes p p.N
  unfolding file_bytes trailer_for
  the_body =
      let start : length (file_bytes p) - (8 + 12 * p.N + 10) ≡ 0 = omega (arith, file_wide p) in
      rw start (take_at (body_bytes p p.N) (trailer_bytes (trailer_for p.N)) (8 + 12 * p.N) (body_wide p p.N))

  pub no_notes : WithoutNotes (file_bytes p)
  unfolding file_bytes
  no_notes = rw (the_trailer, the_body, last_ten_lem) refl

  module _ (eight : length p.slots ≡ 8) (accepted : plan_verdict p ≡ Accepted) where
    again : plan_in p.N (body_bytes p p.N) ≡ p
    again = plan_again p p.N eight ((accepted_exactly p).0 accepted).unused

    trailer_taken : trailer_verdict (length (file_bytes p)) (trailer_for p.N) ≡ Accepted
    unfolding trailer_for
    trailer_taken =
        let devices = ((accepted_exactly p).0 accepted).devices in
        (trailer_exactly (length (file_bytes p)) (trailer_for p.N)).1
        (record {
          bytes = (omega (arith, file_wide p, devices), omega (arith, file_wide p, devices));
          mark = refl;
          version = refl;
          devices = (p.N, devices.0, devices.1, refl);
          body = (omega arith, omega (arith, file_wide p));
        })

    body_taken : body_verdict p.N (body_bytes p p.N) ≡ Accepted
    unfolding body_verdict plan_in
    body_taken =
        let named : num16 (body_bytes p p.N) 0 ≡ p.N = ap (λ (q : Plan). q.N) again in
        rw (again, eq-eqb (num16 (body_bytes p p.N) 0) p.N named, accepted)

    pub reads_back : ReadAs (file_bytes p) p
    unfolding read_answer answer_of trailer_for
    reads_back = rw (the_trailer, trailer_taken, devices_back p.N, the_body, body_taken, again)

pub write_then_read : WriteThenRead
write_then_read p eight accepted = (reads_back p eight accepted, no_notes p)

-- What the writer answers and leaves: v is the verdict on the plan and the buffer's length.
module _ (p : Plan) (buffer : List ℕ) (v : Verdict) (was_judged : v ≡ write_verdict p (length buffer)) where
  pub nothing_written :
      {k i : ℕ} → v ≡ Refused k i
      → (record { verdict = v; length = 0 } ≡ write_answer p (length buffer)) × (buffer ≡ write_buffer p buffer)
  unfolding write_answer write_buffer
  nothing_written e = rw (← was_judged) (rw e, rw e)

  module _ (taken : v ≡ Accepted) where
    plan_taken : plan_verdict p ≡ Accepted
    unfolding write_verdict
    plan_taken = (first_accepted _ _ (sym was_judged ∙ taken)).0

    pub has_room : 18 + 12 * p.N ≤ length buffer
    unfolding write_verdict
    has_room = ltb-false _ _ (accepted_if _ 20 0 (first_accepted (plan_verdict p) _ (sym was_judged ∙ taken)).1)

    pub few_devices : p.N ≤ 8
    few_devices = ((accepted_exactly p).0 plan_taken).devices.1

    -- All of the file has been written, at the front.
    pub all_written :
        length p.slots ≡ 8 → (x : List ℕ) (end : ℕ) → Written buffer 0 (file_bytes p) x end
        → (record { verdict = v; length = end } ≡ write_answer p (length buffer))
        × ((x ≡ write_buffer p buffer) × (v ≡ Accepted → ReadAs (take end x) p))
    unfolding write_answer write_buffer
    all_written eight x end w =
        let front = at_front w (omega (arith, has_room, file_wide p)) in
        let text : List ℕ = file_bytes p in
        let long : end ≡ length text = front.0 in
        let stands : x ≡ text ++ drop (length text) buffer = rw long at front.1 in
        rw (← was_judged, taken, long, stands, take-append_seam text (drop (length text) buffer))
        (refl, (refl, λ same. reads_back p eight plan_taken))
