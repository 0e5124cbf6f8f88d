-- What is handed back of a reply, worked out.
use Rattle.std.proofs.Common.{◌≡◌, ◌⊎◌, inl, inr, refl, ℕ, List, [], ◌∷◌, Some, None, Ok, Err}
use Rattle.cf_answer.specs.declared.answerer.Replier.{Replier}
use Rattle.cf_answer.specs.declared.status.Status.TheVariants.{NotLinear}
use Rattle.cf_c.specs.Lines.{ended_by, kept_by, IsHandedBack, LineEnded, replied, unreplied, closed, IsLineAnswered}
use Rattle.cf_c.specs.declared.opening.Opened.TheVariants.{Shut}
use Rattle.cf_c.specs.declared.words.Uncalled.TheVariants.{NoText}
use Rattle.cf_tree.specs.declared.memory.NoMemory.{NoMemory}

-- the reply and its line feed, and what was there behind
whole : IsHandedBack (Ok (50 ∷ 10 ∷ [])) (7 ∷ 8 ∷ 9 ∷ []) (50 ∷ 10 ∷ 9 ∷ []) 2 0
whole = (record { count = refl; bytes = refl }, refl)

-- as much as fits, and how much there is
part : IsHandedBack (Ok (50 ∷ 10 ∷ [])) (7 ∷ []) (50 ∷ []) 2 1
part = (record { count = refl; bytes = refl }, refl)

-- a buffer that is too small is told
part_told_as_whole : IsHandedBack (Ok (50 ∷ 10 ∷ [])) (7 ∷ []) (50 ∷ []) 2 0 → ⊥
part_told_as_whole h = cc

-- the size is that of the whole reply
fitting_told_as_size : IsHandedBack (Ok (50 ∷ 10 ∷ [])) (7 ∷ []) (50 ∷ []) 1 1 → ⊥
fitting_told_as_size h = cc

-- nothing, where memory ran out
lost : (e : NoMemory) → IsHandedBack (Err e) (7 ∷ []) (7 ∷ []) 0 12
lost e = (record { count = refl; bytes = refl }, refl)

lost_told_as_done : (e : NoMemory) → IsHandedBack (Err e) (7 ∷ []) (7 ∷ []) 0 0 → ⊥
lost_told_as_done e h = cc

-- a refusal has its status, and keeps nothing
shut_is_told : ended_by (Ok (Shut NotLinear)) ≡ Ok NotLinear
shut_is_told = refl

shut_keeps_nothing : kept_by (Ok (Shut NotLinear)) ≡ None
shut_keeps_nothing = refl

no_text_keeps_nothing : kept_by (Err NoText) ≡ None
no_text_keeps_nothing = refl

-- where nothing is kept, a line has no reply, which is told as words that are no command are
closed_is_told : (reply room : List ℕ) (number : ℕ) → LineEnded None [] reply room number → reply ≡ [] → (number ≡ 2) ⊎ (number ≡ 12)
closed_is_told reply room number (replied r kept is n) e = cc
closed_is_told reply room number (unreplied is n) e = inr n
closed_is_told reply room number (closed none is n) e = inl n

-- what is kept stays
kept_stays : (r : Replier) (line old new : List ℕ) (size number : ℕ) → IsLineAnswered (Some r) None line old new size number → ⊥
kept_stays r line old new size number h = let same = h.same in cc
