-- The reply to a line.
use Rattle.std.specs.Prelude.{ℕ, ◌<◌, ◌≤◌, List, length, codes}
use Rattle.cf_num.specs.Limit.{limit}
use Rattle.cf_io.specs.Limits.{line_limit}
use Rattle.cf_tree.specs.declared.base.Base.{Base}
use Rattle.cf_tree.specs.Values.{Value}
use Rattle.cf_eval.specs.Spelling.{SpellsValues}
use Rattle.cf_late.specs.ChooseRun.{LateOutcome}
use Rattle.cf_answer.specs.Forms.{Wording}

-- What replies to a line that is to spell values of these bases, where at values the program comes to `comes_at`.
pub data IsReplyIn (w : Wording) (bases : List Base) (comes_at : List Value → LateOutcome) (line : List ℕ) : List ℕ → Type 0 where
  too_long : line_limit < length line → IsReplyIn w bases comes_at line (w.fault (codes "line too long"))
  bad_input : length line ≤ line_limit → ((vs : List Value) → SpellsValues limit bases line vs → ⊥) →
      IsReplyIn w bases comes_at line (w.fault (codes "bad input"))
  comes : (vs : List Value) → length line ≤ line_limit → SpellsValues limit bases line vs → IsReplyIn w bases comes_at line (w.told (comes_at vs))
