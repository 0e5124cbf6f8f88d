-- The reply to a line, told from the program of a source.
use Rattle.std.specs.Prelude.{◌≡◌, ℕ, ◌<◌, ◌≤◌, ℤ, pos, List, [], ◌∷◌, length, map, get_or, codes, Option, Some, None}
use Rattle.cf_num.specs.Limit.{limit}
use Rattle.cf_io.specs.Limits.{line_limit}
use Rattle.cf_tree.specs.declared.base.Base.{Base}
use Rattle.cf_tree.specs.Values.{Value, Outcome, values, number_of}
use Rattle.cf_program.specs.Checked.{TypedTree}
use Rattle.cf_tree.specs.Params.{bases_of}
use Rattle.cf_growth.specs.Overflowing.{picked, MayOverflow}
use Rattle.cf_build.specs.Built.{SourceAllows}
use Rattle.cf_build.specs.Runs.{lowered_bodies}
use Rattle.cf_eval.specs.Spelling.{SpellsValues}
use Rattle.cf_late.specs.ChooseRun.{LateOutcome, comes_to, overflow}
use Rattle.cf_answer.specs.Forms.{Wording, as_text}

-- the bases of the parameters of main
abbrev pub main_bases : TypedTree → List Base
main_bases typed = get_or (map (λ d. bases_of d.params) typed.defs) typed.main []

-- what main picks at these values; none is overflow
abbrev pub main_picks : TypedTree → List Value → Option Outcome
main_picks typed vs = picked (lowered_bodies typed.defs) typed.main vs

-- what a program comes to that picks so
abbrev pub picked_outcome : Option Outcome → LateOutcome
picked_outcome None = overflow
picked_outcome (Some o) = comes_to o

-- The reply to a line by a program that so many passes have rewritten: what main picks at the values that the line spells. It is overflow only where a near
-- path may overflow. Where what main picks overflows and there are passes, an allowed outcome may stand in its place.
pub data IsSourceReply (w : Wording) (typed : TypedTree) (passes : ℕ) (line : List ℕ) : List ℕ → Type 0 where
  too_long : line_limit < length line → IsSourceReply w typed passes line (w.fault (codes "line too long"))
  bad_input : length line ≤ line_limit → ((vs : List Value) → SpellsValues limit (main_bases typed) line vs → ⊥) →
      IsSourceReply w typed passes line (w.fault (codes "bad input"))
  picks : (vs : List Value) → length line ≤ line_limit → SpellsValues limit (main_bases typed) line vs →
      (main_picks typed vs ≡ None → MayOverflow (lowered_bodies typed.defs) typed.main vs) →
      IsSourceReply w typed passes line (w.told (picked_outcome (main_picks typed vs)))
  allows : (vs : List Value) (o : Outcome) → length line ≤ line_limit → SpellsValues limit (main_bases typed) line vs → main_picks typed vs ≡ None →
      1 ≤ passes → SourceAllows typed.defs typed.main vs o → IsSourceReply w typed passes line (w.told (comes_to o))

-- the number that an outcome is; overflow counts as 0, and so does an outcome that is no number
abbrev pub outcome_number : Option Outcome → ℤ
outcome_number (Some (values (v ∷ []))) = number_of v
outcome_number o = pos 0

-- what a reply adds to a sum
abbrev pub adds : (typed : TypedTree) (passes : ℕ) (line reply : List ℕ) → IsSourceReply as_text typed passes line reply → ℤ
adds typed passes line reply (picks vs short spelled near) = outcome_number (main_picks typed vs)
adds typed passes line reply (allows vs o short spelled none some allowed) = outcome_number (Some o)
adds typed passes line reply is = pos 0
