-- What the loop over ticks knows before each, and one tick more.
use Rattle.std.proofs.Common.{Option, ℕ, ◌+◌, ◌<◌, arith, add-one, ◌≡◌, refl, ◌∙◌, true, List, ◌++◌, length, drop, set, length-set}
use Rattle.laws.proofs.Lists.{write_next, swept_length}
use Rattle.rules.specs.declared.Plan.{Plan}
use Rattle.rules.specs.declared.Yard.{Yard}
use Rattle.rules.specs.declared.Record.{Record}
use Rattle.rules.specs.declared.Down.{Down}
use Rattle.rules.specs.Downs as down
use Rattle.rules.specs.Verdict.{Accepted}
use Rattle.rules.specs.Table.{plan_verdict}
use Rattle.rules.specs.Yard.{device, well_formed}
use Rattle.rules.specs.Tick.{sent, tick}
use Rattle.rules.specs.Tick.Step1.{each_device}
use Rattle.rules.specs.Tick.Step4.{step4}
use Rattle.rules.specs.Run.{record_at, after, engaged_byte, engaged_bytes}
use Rattle.rules.proofs.Runs.Formed.{bytes_length, after_keeps_form}
use Rattle.yard.specs.Sent.{last_down}
use Rattle.yard.specs.Engaged.{byte_of}
use Rattle.yard.proofs.Ready.{Ready, ready}

module _ (p : Plan) (y : Yard) (roll buffer : List ℕ) (last : ℕ) where
  -- k ticks are done, and the initializer stands at `last`.
  pub record Rolled (k : ℕ) (now : Yard) (l : Option Down) (written : List ℕ) (byte : ℕ) : Type 0 where
    pub yard : now ≡ after p y roll k
    pub down : l ≡ last_down p y roll k
    pub bytes : written ≡ engaged_bytes p y roll k ++ drop k buffer
    pub room : length written ≡ length buffer
    pub eight : length now.devices ≡ 8
    pub byte_is : byte ≡ byte_of p.N now.devices
    pub ready : Ready p now
    pub initializer : last + 1 ≡ p.N

  module _ (taken : plan_verdict p ≡ Accepted) (formed : well_formed p y ≡ true) where
    ready_after : (k : ℕ) → Ready p (after p y roll k)
    ready_after k = ready p (after p y roll k) taken (after_keeps_form p y roll taken formed k)

    pub starts :
        (byte : ℕ) → length y.devices ≡ 8 → last + 1 ≡ p.N → byte ≡ byte_of (last + 1) y.devices
        → Rolled 0 y down.none buffer byte
    unfolding after last_down engaged_bytes
    starts byte eight initializer byte_is = record {
      yard = refl;
      down = refl;
      bytes = refl;
      room = refl;
      eight = eight;
      byte_is = rw initializer at byte_is;
      ready = ready p y taken formed;
      initializer = initializer;
    }

    pub rolls :
        (k : ℕ) (now next : Yard) (l m : Option Down) (written : List ℕ) (b byte : ℕ) (r : Record)
        → Rolled k now l written b → k < length buffer → r ≡ record_at roll k
        → next ≡ tick p now r → m ≡ (sent p now r).down → byte ≡ byte_of p.N next.devices
        → Rolled (k + 1) next m (set written k byte) byte
    unfolding after last_down engaged_bytes engaged_byte device tick step4 each_device
    rolls k now next l m written b byte r inv fits r_is next_is m_is byte_is =
        let yard : next ≡ after p y roll (k + 1) = next_is ∙ rw (inv.yard, r_is, add-one k) in
        record {
          yard = yard;
          down = m_is ∙ rw (inv.yard, r_is, add-one k);
          bytes =
              rw inv.bytes
              (write_next (engaged_bytes p y roll k) buffer k byte 0 (bytes_length p y roll k) (omega arith)
              ∙ rw (byte_is, yard, add-one k));
          room = length-set written k byte ∙ inv.room;
          eight = rw next_is (swept_length _ _ 8 p.N);
          byte_is = byte_is;
          ready = rw yard (ready_after (k + 1));
          initializer = inv.initializer;
        }
