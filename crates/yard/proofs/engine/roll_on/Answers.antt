use Rattle.std.proofs.Common.{Option, Some, ℕ, ◌+◌, ◌-◌, ◌≤◌, ◌<◌, arith, ◌≡◌, sym, ◌∙◌, ap, true, false, List, length, set, rules}
use Rattle.rules.specs.declared.BaseMove.{BaseMove}
use Rattle.rules.specs.declared.Device.{Device}
use Rattle.rules.specs.declared.Letter.{Letter}
use Rattle.rules.specs.declared.Plan.{Plan}
use Rattle.rules.specs.declared.Record.{Record}
use Rattle.rules.specs.declared.Terms.{Terms}
use Rattle.rules.specs.declared.Yard.{Yard}
use Rattle.rules.specs.Tick.Input.{down_lost}
use Rattle.pace.specs.Pace.{reached_by}
use Rattle.laws.specs.Bits.{bit}
use Rattle.rules.specs.Tick.Step4.{arrived}
use Rattle.yard.specs.Engaged.{device_at, byte_of}
use Rattle.yard.proofs.Sweeps.{slot_at, sweep, delivered_by, sweep_length}
use Rattle.yard.proofs.Ready.{ready}
use Rattle.yard.proofs.Pass.{Pass, Passed, Come, leaves, participant, without_command, initializer, turns, next_passed, rebits}
use Rattle.yard.proofs.Pass as pass
use Rattle.yard.proofs.Arrives.{unreached, reaches, arrival_byte}
use Rattle.yard.proofs.OneTick.{hearing, ticked, sends}
use Rattle.yard.proofs.Loop.{Rolled, rolls}
use Rattle.yard.proofs.Loop as loop
use Rattle.yard.proofs.engine.roll_on.Invariants.{yard_of, pass_of}
use Rattle.yard.proofs.engine.roll_on.Goals as goal
use Rattle.yard.proofs.engine.roll_on.Goals.{in-Some, in_default}

pub terms_of-t-requires : goal.terms_of-t-requires
terms_of-t-requires c =
    (ready c.args.p c.args.y c.requires.sound.0 c.requires.sound.1).few

pub engaged_byte-requires : goal.engaged_byte-requires
engaged_byte-requires c =
    let fit = ready c.args.p c.args.y c.requires.sound.0 c.requires.sound.1 in
    let names = ap (λ (t : Terms). t.N) c.terms_of-t.ensures in
    omega (arith, c.index_of-last.ensures, fit.some, fit.few, names)

pub loop-k-init : goal.loop-k-init
loop-k-init c =
    let a = c.args in
    let fit = ready a.p a.y c.requires.sound.0 c.requires.sound.1 in
    let names : c.terms_of-t.result.N ≡ a.p.N = ap (λ (t : Terms). t.N) c.terms_of-t.ensures in
    let all : c.index_of-last.result + 1 ≡ a.p.N = omega (arith, c.index_of-last.ensures, fit.some, names) in
    let eight : length a.y.devices ≡ 8 = search rules in
    loop.starts a.p a.y a.roll.now _ _ c.requires.sound.0 c.requires.sound.1 _
    eight all c.engaged_byte.ensures

pub loop-i-init : goal.loop-i-init
loop-i-init c =
    let inv = c.loop-k.invariant in
    let n = inv.initializer in
    pass.starts _ _ (omega (arith, n, inv.ready.few)) inv.eight inv.ready.clocks (inv.byte_is ∙ rw n)

pub turn-requires-clause-byte_fits : goal.turn-requires-clause-byte_fits
turn-requires-clause-byte_fits c = rebits c.loop-i.invariant

pub loop-i-preserved : goal.loop-i-preserved
loop-i-preserved c =
    let here = c.loop-i in
    let last : ℕ = c.index_of-last.result in
    let r : Record = c.record_at-r.result in
    let o : Pass = pass_of c.args.p r last c.own_index-own.result c.loop-k.devices in
    let inv : Passed o here.i here.devices here.noted.from_own here.noted.byte = here.invariant in
    let low : here.i < last = omega arith in
    let e = c.turn.ensures in
    let come = turns inv false 0 (participant o here.i low) (without_command o here.i low) c.row_of-row.ensures e.device e.heard e.from_own e.byte in
    next_passed inv low come.0

pub turn-from_last-requires-clause-byte_fits : goal.turn-from_last-requires-clause-byte_fits
turn-from_last-requires-clause-byte_fits c =
    let done : c.loop-i.i ≡ c.index_of-last.result = omega (arith, c.loop-i.invariant.within) in
    rw done at (rebits c.loop-i.invariant)

pub loop-k-preserved : goal.loop-k-preserved
loop-k-preserved c =
    let a = c.args in
    let p : Plan = a.p in
    let here = c.loop-i in
    let last : ℕ = c.index_of-last.result in
    let r : Record = c.record_at-r.result in
    let own : ℕ = c.own_index-own.result in
    let own_is = c.own_index-own.ensures in
    let y : Yard = yard_of c.loop-k.supervisor c.loop-k.devices in
    let o : Pass = pass_of p r last own c.loop-k.devices in
    let left : List Device = set here.devices last c.turn-from_last.new.d in
    let from_last : Option Letter = c.turn-from_last.result in
    let from_own : Option Letter = c.turn-from_last.new.noted.from_own in
    let byte : ℕ = c.turn-from_last.new.noted.byte in
    let m : BaseMove = c.supervise-supervisor.result in
    let fit = c.loop-k.invariant.ready in
    let n : last + 1 ≡ p.N = c.loop-k.invariant.initializer in
    let own_in : own ≤ last = omega (arith, own_is, n, fit.index, fit.some) in
    let done : here.i ≡ last = omega (arith, here.invariant.within) in
    let inv : Passed o last here.devices here.noted.from_own here.noted.byte = rw done at here.invariant in
    let e = c.turn-from_last.ensures in
    let turned = turns inv true r.command (initializer o) (initializer o) c.row_of-row.ensures e.device e.heard e.from_own e.byte in
    let come : Come o (last + 1) left from_own byte = turned.0 in
    let terms_are = c.terms_of-t.ensures in
    let m_is : m ≡ hearing p y r from_last from_own = c.supervise-supervisor.ensures ∙ rw terms_are in
    let eight : length left ≡ 8 = rw come.devices (sweep_length (leaves o) c.loop-k.devices (last + 1)) in
    let to_is : c.reached.result ≡ reached_by p.N (down_lost r) m.down = c.reached.ensures.device ∙ rw terms_are in
    let byte_left : byte ≡ byte_of p.N left = rw n at come.byte_is in
    let end : (c.match-reached.devices ≡ sweep p.N (delivered_by p.slots (down_lost r) r.willing m.down) left)
    × (byte ≡ byte_of p.N c.match-reached.devices) =
    elim c.match-reached.branch [
      | in-Some w ↦
          let at = w.index_of-at.ensures in
          let to : ℕ = w.in-Some.to in
          let for : Some to ≡ reached_by p.N (down_lost r) m.down = sym w.in-Some.is ∙ to_is in
          let in_t : (1 ≤ to) × (to ≤ c.terms_of-t.result.N) = rw w.in-Some.is at c.reached.ensures.in_the_yard in
          let in_n : to ≤ p.N = rw terms_are at in_t.1 in
          let x : Device = w.arrive.result in
          let x_is : x ≡ arrived (slot_at p.slots to) (bit r.willing (to - 1)) m.down to (device_at left to) =
          w.arrive.ensures ∙ rw at in
          rw (w.devices-is, at) (
            reaches p.slots (down_lost r) r.willing m.down p.N left eight to x for fit.few x_is,
            byte_left ∙ sym (arrival_byte p.N to left _ _ m.down x eight in_t.0 in_n fit.few x_is),
          )
      | in_default w ↦
          rw w.devices-is
          (unreached p.slots (down_lost r) r.willing m.down p.N left eight (sym w.in_default.is ∙ to_is), byte_left)
    ] in
    let yard = ticked p y r last own n own_is own_in left _ _ _ byte m come turned.1 m_is end.0 in
    let down = sends p y r last own n own_is own_in left _ _ _ byte m come turned.1 m_is end.0 in
    rolls p a.y a.roll.now _ last c.requires.sound.0 c.requires.sound.1 _ y _ _ _ _ _ byte r
    c.loop-k.invariant c.loop-k-test.true c.record_at-r.ensures yard down end.1
