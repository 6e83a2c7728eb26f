-- Document 01, "Worked yards": the cases that it marks with a star, as one list of questions with the answers it prints.
use Rattle.std.specs.Prelude.{ℕ, zero, suc, ◌-◌, Bool, true, false, ◌&&◌, List, [], ◌∷◌, ◌++◌, replicate, Option}
use Rattle.laws.specs.Lists.{tabulate}
use Rattle.rules.specs.declared.Plan.{Plan}
use Rattle.rules.specs.declared.Slot.{Slot}
use Rattle.rules.specs.declared.Base.{Base}
use Rattle.rules.specs.declared.Base.TheVariants as base
use Rattle.rules.specs.declared.Place.{Place}
use Rattle.rules.specs.declared.Place.TheVariants as place
use Rattle.rules.specs.declared.Yard.{Yard}
use Rattle.rules.specs.declared.Down.{Down}
use Rattle.rules.specs.Downs as down
use Rattle.rules.specs.Verdict.{number_of, index_of}
use Rattle.rules.specs.Plan.{empty_slot}
use Rattle.rules.specs.Table.{plan_verdict}
use Rattle.rules.specs.Yard.{fresh_yard, device}
use Rattle.rules.specs.Tick.{sent}
use Rattle.rules.specs.Tick.Input.{down_lost}
use Rattle.rules.specs.Run.{record_at, after}

-- F, E, R, X, G, S of a device.
unfoldable pub times : ℕ → ℕ → ℕ → ℕ → ℕ → ℕ → Slot
times F E R X G S = record { F = F; E = E; R = R; X = X; G = G; S = S }

-- A plan of two devices: W, B, Q, device 1, device 2.
unfoldable pub two : ℕ → ℕ → ℕ → Slot → Slot → Plan
two W B Q one other = record { N = 2; W = W; B = B; Q = Q; slots = one ∷ other ∷ replicate 6 empty_slot }

-- Plan P.
unfoldable pub P : Plan
P = two 1 1 3 (times 1 1 7 2 1 1) (times 1 3 2 1 0 0)

-- The laser settings of document 000 in tenths.
unfoldable pub laser : Plan
laser = two 30 130 50 (times 1 30 350 60 30 15) (times 1 100 200 15 0 0)

-- k records 00 01 01 00, and the three rolls.
unfoldable pub quiet : ℕ → List ℕ
quiet zero = []
quiet (suc k) = 0x00 ∷ 0x01 ∷ 0x01 ∷ 0x00 ∷ quiet k

unfoldable pub nothing_lost : List ℕ
nothing_lost = 0x01 ∷ 0x01 ∷ 0x01 ∷ 0x00 ∷ quiet 9

unfoldable pub exit_lost : List ℕ
exit_lost = 0x01 ∷ 0x01 ∷ 0x01 ∷ 0x00 ∷ quiet 6 ++ 0x00 ∷ 0x01 ∷ 0x01 ∷ 0x02 ∷ quiet 3

unfoldable pub lease_req_lost : List ℕ
lease_req_lost = 0x01 ∷ 0x03 ∷ 0x01 ∷ 0x00 ∷ quiet 10

pub data Question : Type 0 where
  -- the verdict on a plan
  verdict_on : Plan → Question
  -- the line that is printed for a tick of a roll, by plan P from a fresh yard
  line_of : List ℕ → ℕ → Question
  -- where the supervisor then stands
  supervisor_at : List ℕ → ℕ → Question

pub data Answer : Type 0 where
  -- number and index; accepted is 0 at 0
  is : ℕ → ℕ → Answer
  -- supervisor, devices, down letter, and whether it is marked as lost
  shows : Base → List Place → Option Down → Bool → Answer
  stands : Base → Answer

abbrev pub is_sent : Option Down → Bool
is_sent down.none = false
is_sent (down.LeaseReq i) = true
is_sent (down.Grant i) = true
is_sent (down.Cancel i) = true
is_sent (down.Abort i) = true

-- The yard at the end of a tick of a roll, ticks counted from 1, and the line that is printed for it.
unfoldable pub yard_at : List ℕ → ℕ → Yard
yard_at roll t = after P fresh_yard roll t

unfoldable pub printed : List ℕ → ℕ → Answer
printed roll t =
    let r = record_at roll (t - 1) in
    let y = yard_at roll t in
    let l = (sent P (yard_at roll (t - 1)) r).down in
    shows y.base (tabulate (λ i. (device y i).place) P.N) l (is_sent l && down_lost r)

unfoldable pub answer : Question → Answer
answer (verdict_on p) = is (number_of (plan_verdict p)) (index_of (plan_verdict p))
answer (line_of roll t) = printed roll t
answer (supervisor_at roll t) = stands (yard_at roll t).base

pub record Case : Type 0 where
  pub question : Question
  pub says : Answer

abbrev pub case : Question → Answer → Case
case q a = record { question = q; says = a }

-- Accepted is 0 at 0. Each plan is P but for the number that document 01 names; the last has the paper's laser settings.
unfoldable pub plans : List Case
plans =
    case (verdict_on P) (is 0 0)
    ∷ case (verdict_on (two 1 1 3 (times 1 1 6 2 1 1) (times 1 3 2 1 0 0))) (is 8 1)
    ∷ case (verdict_on (two 1 1 3 (times 1 1 7 2 1 1) (times 1 2 2 1 0 0))) (is 7 1)
    ∷ case (verdict_on (two 1 1 3 (times 1 1 7 1 1 1) (times 1 3 2 1 0 0))) (is 9 1)
    ∷ case (verdict_on (two 1 1 1 (times 1 1 7 2 1 1) (times 1 3 2 1 0 0))) (is 5 0)
    ∷ case (verdict_on (two 1 1 10 (times 1 1 7 2 1 1) (times 1 3 2 1 0 0))) (is 5 0)
    ∷ case (verdict_on (two 1 1 9 (times 1 1 7 2 1 1) (times 1 3 2 1 0 0))) (is 0 0)
    ∷ case (verdict_on (two 1 1 3 (times 1 1 7 2 1 1) (times 1 3 2 5 0 0))) (is 6 2)
    ∷ case (verdict_on (two 1 1 3 (times 1 1 7 2 1 1) (times 1 3 2 4 0 0))) (is 8 1)
    ∷ case (verdict_on (two 5 1 3 (times 1 1 7 2 1 1) (times 1 3 2 1 0 0))) (is 4 0)
    ∷ case (verdict_on laser) (is 0 0)
    ∷ []

-- Plan P with nothing lost, every line.
unfoldable pub first_listing : List Case
first_listing =
    case (line_of nothing_lost 1) (shows (base.Lease 1) (place.Entering ∷ place.Requesting ∷ []) (down.LeaseReq 1) false)
    ∷ case (line_of nothing_lost 2) (shows (base.Lease 2) (place.Running ∷ place.Entering ∷ []) (down.Grant 2) false)
    ∷ case (line_of nothing_lost 3) (shows (base.Lease 2) (place.Running ∷ place.Entering ∷ []) down.none false)
    ∷ case (line_of nothing_lost 4) (shows (base.Lease 2) (place.Running ∷ place.Entering ∷ []) down.none false)
    ∷ case (line_of nothing_lost 5) (shows (base.Lease 2) (place.Running ∷ place.Running ∷ []) down.none false)
    ∷ case (line_of nothing_lost 6) (shows (base.Lease 2) (place.Running ∷ place.Running ∷ []) down.none false)
    ∷ case (line_of nothing_lost 7) (shows (base.Lease 2) (place.Running ∷ place.Exiting1 ∷ []) down.none false)
    ∷ case (line_of nothing_lost 8) (shows (base.Cancel 1) (place.Exiting1 ∷ place.FallBack ∷ []) (down.Cancel 1) false)
    ∷ case (line_of nothing_lost 9) (shows (base.Cancel 1) (place.Exiting1 ∷ place.FallBack ∷ []) down.none false)
    ∷ case (line_of nothing_lost 10) (shows base.FallBack (place.FallBack ∷ place.FallBack ∷ []) down.none false)
    ∷ []

-- Exit lost at tick 8, lines 8 to 11.
unfoldable pub second_listing : List Case
second_listing =
    case (line_of exit_lost 8) (shows (base.Lease 2) (place.Running ∷ place.FallBack ∷ []) down.none false)
    ∷ case (line_of exit_lost 9) (shows (base.Lease 2) (place.Exiting1 ∷ place.FallBack ∷ []) down.none false)
    ∷ case (line_of exit_lost 10) (shows (base.Lease 2) (place.Exiting1 ∷ place.FallBack ∷ []) down.none false)
    ∷ case (line_of exit_lost 11) (shows base.FallBack (place.FallBack ∷ place.FallBack ∷ []) down.none false)
    ∷ []

-- LeaseReq lost at tick 1, lines 1 to 4; Fall-Back at 11.
unfoldable pub third_listing : List Case
third_listing =
    case (line_of lease_req_lost 1) (shows (base.Lease 1) (place.FallBack ∷ place.Requesting ∷ []) (down.LeaseReq 1) true)
    ∷ case (line_of lease_req_lost 2) (shows (base.Cancel 1) (place.FallBack ∷ place.Requesting ∷ []) (down.Cancel 1) false)
    ∷ case (line_of lease_req_lost 3) (shows (base.Cancel 1) (place.FallBack ∷ place.Requesting ∷ []) down.none false)
    ∷ case (line_of lease_req_lost 4) (shows (base.Cancel 1) (place.FallBack ∷ place.FallBack ∷ []) down.none false)
    ∷ case (supervisor_at lease_req_lost 10) (stands (base.Cancel 1))
    ∷ case (supervisor_at lease_req_lost 11) (stands base.FallBack)
    ∷ []

unfoldable pub starred : List Case
starred = plans ++ first_listing ++ second_listing ++ third_listing
