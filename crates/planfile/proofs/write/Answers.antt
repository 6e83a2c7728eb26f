use Rattle.std.proofs.Common.{ℕ, ◌≡◌, List, length, arith}
use Rattle.laws.specs.Written.{Written}
use Rattle.laws.proofs.Writes.{as_text, and_then}
use Rattle.rules.specs.declared.Plan.{Plan}
use Rattle.rules.specs.Verdict.{Verdict, Accepted}
use Rattle.rules.proofs.Answers.{not_both}
use Rattle.planfile_rules.specs.Writing.{body_bytes, body_written, file_bytes, write_verdict}
use Rattle.planfile_rules.proofs.Written.{nothing_written, few_devices, has_room, all_written}
use Rattle.bodies.proofs.Rooms.{ends_soon, is_written}
use Rattle.planfile.proofs.write.Goals as goal

-- The body has been written whole.
module _ (p : Plan) (buffer : List ℕ) (v : Verdict) (said : v ≡ write_verdict p (length buffer)) (told : v ≡ Accepted) where
  whole_body : {n : ℕ} → n ≡ p.N → (x : List ℕ) (end : ℕ) → Written buffer 0 (body_written p n (length buffer)) x end → Written buffer 0 (body_bytes p p.N) x end
  whole_body e x end w =
      as_text _ (rw e at w) (is_written p.N (length buffer) (few_devices p buffer v said told) (omega (arith, has_room p buffer v said told)) p)

pub returns-in_default : goal.returns-in_default
returns-in_default c =
    let args = c.args in
    let told = c.in_default.is in
    let none = nothing_written args.p args.file.now _ c.write_verdict-v.ensures told in
    record { value = none.0; file_after = none.1; read_as = λ taken. not_both taken told }

pub overflow_cast-p : goal.overflow_cast-p
overflow_cast-p c =
    let args = c.args in
    omega (arith, few_devices args.p args.file.now _ c.write_verdict-v.ensures c.in-Ok.is)

pub overflow_add-result : goal.overflow_add-result
overflow_add-result c =
    omega (arith, ends_soon _ _ _ c.put_body-size.ensures.written)

pub returns : goal.returns
unfolding file_bytes
returns c =
    let args = c.args in
    let said = c.write_verdict-v.ensures in
    let told = c.in-Ok.is in
    let body = c.put_body-size.ensures in
    let whole = whole_body args.p args.file.now _ said told c.from-n.ensures _ _ body.written in
    let trailer = rw c.trailer_for.ensures at c.put_trailer.ensures in
    let all = all_written args.p args.file.now _ said told body.eight_slots _ _ (and_then whole trailer) in
    record { value = all.0; file_after = all.1.0; read_as = all.1.1 }
