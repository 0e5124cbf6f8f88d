-- One block for each choose, one text for each choose, and one reply for each line, in order.
use Rattle.std.proofs.Common.{◌≡◌, ℕ, ◌+◌, List, [], ◌∷◌, ◌++◌, refl, arith, codes}
use Rattle.cf_tree.specs.RelTree.{rel_true}
use Rattle.cf_tree.specs.ChooseTree.{ChooseTree}
use Rattle.cf_answer.specs.Certificates.{OneForEach}
use Rattle.cf_answer.specs.Owed.{AllReplied, AllWritten}

-- a choose with that number
abbrev choose : ℕ → ChooseTree
choose n = record { number = n; names = []; scope = []; outputs = []; relation = rel_true }

abbrev two : List ChooseTree
two = choose 1 ∷ choose 2 ∷ []

-- what has the number of the choose
abbrev HasNumber : ChooseTree → ℕ → Type 0
HasNumber q n = q.number ≡ n

-- ---- blocks
one-for_each : OneForEach HasNumber two (1 ∷ 2 ∷ [])
one-for_each = (refl, (refl, tt))

none-for_none : OneForEach HasNumber [] []
none-for_none = tt

one-too_few : OneForEach HasNumber two (1 ∷ []) → ⊥
one-too_few h = h.1

one-too_many : OneForEach HasNumber two (1 ∷ 2 ∷ 3 ∷ []) → ⊥
one-too_many h = h.1.1

other-order : OneForEach HasNumber two (2 ∷ 1 ∷ []) → ⊥
other-order h = omega (arith, h.0)

-- ---- texts
abbrev IsText : ChooseTree → List ℕ → Type 0
IsText q text = text ≡ (48 + q.number) ∷ []

both-written : AllWritten IsText two (codes "12")
both-written = (codes "1", codes "2", refl, refl, (codes "2", [], refl, refl, refl))

more-behind : AllWritten IsText [] (codes "1") → ⊥
more-behind h = cc h

-- ---- replies
abbrev Same : List ℕ → List ℕ → Type 0
Same line reply = line ≡ reply

two-replies : AllReplied Same (codes "a" ∷ codes "" ∷ []) (codes "a\n\n")
two-replies = (codes "a", codes "\n", refl, refl, ([], [], refl, refl, refl))

no-line_feed : AllReplied Same (codes "a" ∷ []) (codes "a") → ⊥
no-line_feed h = no_end h.0 h.1 h.2
  where
    no_end : (reply more : List ℕ) → codes "a" ≡ reply ++ 10 ∷ more → ⊥
    no_end [] more e = cc
    no_end (b ∷ []) more e = cc
    no_end (b ∷ c ∷ reply) more e = cc
