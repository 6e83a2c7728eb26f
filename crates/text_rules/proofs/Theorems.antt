-- What a reader sees of a text that was laid: the bytes around it, and its own.
use Rattle.std.proofs.Common.{ℕ, zero, suc, ◌+◌, ◌≤◌, ◌<◌, arith, add-zero, add-suc, suc-add, ◌≡◌, refl, ◌∙◌, ap, ◌⊎◌, inl, inr, ⊎_elim, List, [], ◌∷◌, ◌++◌, append_assoc, length, get_or, set, take, drop, length-set, get_or-set_same, get_or-set_other, length-take-le, drop_at}
use lib.Seq.{sets, sets-eq, take-append_seam}
use Rattle.text_rules.specs.Theorems.{LengthStays, RestKept, InPlace, StandsWhole, PlainWrite, OneText}
use Rattle.text_rules.proofs.Laying.{length_kept, with_room, and_then}

sets_other : (t l : List ℕ) (at k : ℕ) → (k < at) ⊎ (at + length t ≤ k) → get_or (sets l at t) k 0 ≡ get_or l k 0
sets_other [] l at k h = refl
sets_other (b ∷ t) l at k h =
    sets_other t (set l at b) (suc at) k (⊎_elim (λ low. inl (omega arith)) (λ high. inr (omega arith)) h)
    ∙ get_or-set_other l at k b 0 (λ e. ⊎_elim (λ low. omega arith) (λ high. omega arith) h)

sets_at :
    (t l : List ℕ) (at k : ℕ) → k < length t → at + k < length l → get_or (sets l at t) (at + k) 0 ≡ get_or t k 0
sets_at [] l at k in_text in_l = absurd (omega arith)
sets_at (b ∷ t) l at zero in_text in_l =
    rw (add-zero at)
    (sets_other t (set l at b) (suc at) at (inl (omega arith)) ∙ get_or-set_same l at b 0 (omega arith))
sets_at (b ∷ t) l at (suc k) in_text in_l =
    rw (add-suc at k, ← (suc-add at k))
    (sets_at t (set l at b) (suc at) k (omega arith) (rw (length-set l at b) (omega arith)))

pub length_stays : LengthStays
length_stays l t x at end w = length_kept w

pub one_text : OneText
one_text l m x t u at mid end v w = and_then v w

pub rest_kept : RestKept
rest_kept l t x at end w k h = rw w.buffer (sets_other t l at k h)

pub in_place : InPlace
in_place l t x at end w k in_text in_l = rw w.buffer (sets_at t l at k in_text in_l)

pub stands_whole : StandsWhole
stands_whole l t x at end w h =
    let rest : List ℕ = drop (at + length t) l in
    let parts = w.buffer ∙ sets-eq t l at h ∙ append_assoc (take at l) t rest in
    let behind = ap (drop at) parts ∙ drop_at (take at l) (t ++ rest) at (length-take-le at l (omega arith)) in
    (rw behind (take-append_seam t rest), (with_room w h).stands)

pub plain_write : PlainWrite
plain_write l t x at end w h = with_room w h
