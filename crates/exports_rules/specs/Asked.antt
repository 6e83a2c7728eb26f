-- Document 01's calls, asked of plans and yards that are lent as bytes: the answers before they cross.
use Rattle.std.specs.Prelude.{ℕ, ◌≡◌, Bool, not, ◌&&◌, List, eqb, length}
use Rattle.rules.specs.Verdict.{Verdict}
use Rattle.rules.specs.Verdict.{Accepted}
use Rattle.rules.specs.Downs as down
use Rattle.rules.specs.declared.Record.{Record}
use Rattle.rules.specs.declared.FreshAnswer.{FreshAnswer}
use Rattle.rules.specs.declared.TickAnswer.{TickAnswer}
use Rattle.rules.specs.declared.RunAnswer.{RunAnswer}
use Rattle.rules.specs.Verdict.{if_accepted, refused_if, first_of}
use Rattle.rules.specs.Table.{plan_verdict}
use Rattle.rules.specs.Yard.{fresh_yard, fresh_answer}
use Rattle.rules.specs.Tick.{tick_answer}
use Rattle.rules.specs.Run.{run_answer, run_buffer}
use Rattle.rules.specs.Promises.{Kept, shown}
use Rattle.planfile_rules.specs.declared.ReadAnswer.{ReadAnswer}
use Rattle.planfile_rules.specs.declared.WriteAnswer.{WriteAnswer}
use Rattle.planfile_rules.specs.File.{plan_size, whole_plan, read_answer}
use Rattle.planfile_rules.specs.Writing.{write_answer, write_buffer}
use Rattle.listing_rules.specs.declared.Listed.{Listed}
use Rattle.listing_rules.specs.Listing.{list_answer, list_buffer}
use Rattle.layout_rules.specs.Bytes.{yard_size}
use Rattle.layout_rules.specs.Reading.{yard_of}

-- 27 at 0: a plan of other than 104 bytes was lent, or a yard of other than 40. It is tried before all others.
unfoldable pub size_verdict : Bool → Verdict
size_verdict fits = refused_if (not fits) 27 0

abbrev pub fits_plan : ℕ → Bool
fits_plan room = eqb room plan_size

abbrev pub fits_yard : ℕ → Bool
fits_yard room = eqb room yard_size

abbrev pub sizes : List ℕ → List ℕ → Bool
sizes plan yard = fits_plan (length plan) && fits_yard (length yard)

unfoldable pub check_for : List ℕ → Verdict
check_for plan = first_of (size_verdict (fits_plan (length plan))) (plan_verdict (whole_plan plan))

-- `room` is the length of the yard that was lent.
unfoldable pub fresh_for : List ℕ → ℕ → FreshAnswer
fresh_for plan room =
    let size = size_verdict (fits_plan (length plan) && fits_yard room) in
    if_accepted size (fresh_answer (whole_plan plan)) (record { verdict = size; yard = fresh_yard })

unfoldable pub tick_for : List ℕ → List ℕ → Record → TickAnswer
tick_for plan yard r =
    let size = size_verdict (sizes plan yard) in
    if_accepted size
    (tick_answer (whole_plan plan) (yard_of yard) r)
    (record { verdict = size; yard = yard_of yard; down = down.none })

unfoldable pub run_for : List ℕ → List ℕ → List ℕ → ℕ → List ℕ → RunAnswer
run_for plan yard roll budget engaged =
    let size = size_verdict (sizes plan yard) in
    if_accepted size
    (run_answer (whole_plan plan) (yard_of yard) roll budget engaged)
    (record { verdict = size; yard = yard_of yard; ticks = 0 })

-- The engaged bytes afterwards.
unfoldable pub engaged_for : List ℕ → List ℕ → List ℕ → ℕ → List ℕ → List ℕ
engaged_for plan yard roll budget engaged =
    if_accepted (size_verdict (sizes plan yard)) (run_buffer (whole_plan plan) (yard_of yard) roll budget engaged) engaged

-- From a fresh yard under an accepted plan the engaged bytes keep promises 1 to 3 for the ticks done.
abbrev pub KeptBy : List ℕ → List ℕ → List ℕ → ℕ → Type 0
KeptBy plan yard engaged ticks =
    plan_verdict (whole_plan plan) ≡ Accepted → yard_of yard ≡ fresh_yard → Kept (whole_plan plan) (shown engaged) ticks

-- `room` is the length of the plan that was lent.
unfoldable pub read_for : List ℕ → ℕ → ReadAnswer
read_for file room =
    let size = size_verdict (fits_plan room) in
    if_accepted size (read_answer file) (record { verdict = size; plan = (read_answer file).plan })

-- `room` is the length of the buffer for the file.
unfoldable pub write_for : List ℕ → ℕ → WriteAnswer
write_for plan room =
    let size = size_verdict (fits_plan (length plan)) in
    if_accepted size (write_answer (whole_plan plan) room) (record { verdict = size; length = 0 })

-- The buffer for the file afterwards.
unfoldable pub file_for : List ℕ → List ℕ → List ℕ
file_for plan file = if_accepted (size_verdict (fits_plan (length plan))) (write_buffer (whole_plan plan) file) file

-- `room` is the length of the buffer for the text.
unfoldable pub list_for : List ℕ → List ℕ → List ℕ → ℕ → ℕ → Listed
list_for plan yard roll first room =
    let size = size_verdict (sizes plan yard) in
    if_accepted size
    (list_answer (whole_plan plan) (yard_of yard) roll first room)
    (record { verdict = size; yard = yard_of yard; ticks = 0; length = 0 })

-- The buffer for the text afterwards.
unfoldable pub text_for : List ℕ → List ℕ → List ℕ → ℕ → List ℕ → List ℕ
text_for plan yard roll first out =
    if_accepted (size_verdict (sizes plan yard)) (list_buffer (whole_plan plan) (yard_of yard) roll first out) out
