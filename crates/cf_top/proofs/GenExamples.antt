-- `gen` is done for each size, unless `out` failed or memory ran out: its source is accepted.
use Rattle.std.proofs.Common.{◌≡◌, ◌⊎◌, ◌∙◌, ap, inl, inr, refl, ℕ, ◌≤◌, []}
use Rattle.cf_words.specs.Commands.{gen}
use Rattle.cf_answer.specs.Outside.{Outside}
use Rattle.cf_answer.specs.Statuses.{status_of}
use Rattle.cf_answer.specs.declared.status.Status.{Status}
use Rattle.cf_answer.specs.declared.status.Status.TheVariants.{Done, File, Input, Output, NoMemory}
use Rattle.cf_answer.proofs.WorkloadAccepted.{gen_accepted}
use Rattle.cf_top.specs.Top.{IsJudged, IsOverfull, Completes}

-- what it writes has no limit
not-overfull : (n : ℕ) (status : Status) → IsJudged (gen n) [] status ⊎ (status ≡ NoMemory) ⊎ IsOverfull (gen n) [] status →
    (status ≡ Done) ⊎ (status ≡ NoMemory)
not-overfull n status (inl (text, answer, ok, is)) = inl (is ∙ ap status_of ok)
not-overfull n status (inr (inl memory)) = inr memory
not-overfull n status (inr (inr full)) = absurd full.past

gen-done : (n : ℕ) → 1 ≤ n → n ≤ 100 → (before : Outside) (status : Status) → Completes (gen n) before status → (status ≡ File → ⊥) → (status ≡ Input → ⊥) →
    (status ≡ Output → ⊥) → (status ≡ Done) ⊎ (status ≡ NoMemory)
gen-done n l h before status c file input output =
    not-overfull n status ((c [] refl file).done (gen_accepted n l h).accepted input output tt)
