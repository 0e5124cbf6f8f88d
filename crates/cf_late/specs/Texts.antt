-- The texts of what late programs come to.
use Rattle.std.specs.Prelude.{ℕ, List, [], ◌∷◌, codes, decimal}
use Rattle.std.specs.List.{concat}
use Rattle.cf_linear.specs.Reasons.{refusal_text}
use Rattle.cf_eval.specs.Texts.{outcome_text}
use Rattle.cf_late.specs.ChooseRun.{LateOutcome, comes_to, overflow, refused}

-- the reply to a line
abbrev pub late_text : LateOutcome → List ℕ
late_text (comes_to o) = outcome_text o
late_text overflow = codes "overflow"
late_text (refused n r) = concat (codes "choose " ∷ decimal n ∷ codes ": " ∷ refusal_text r ∷ [])
