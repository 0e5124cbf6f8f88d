-- The replies to the lines of an input.
use Rattle.std.specs.Prelude.{◌≡◌, ℕ, ◌<◌, ◌≤◌, nat_le, List, [], ◌∷◌, ◌++◌, length, codes, if◌then◌else◌}
use Rattle.cf_io.specs.Lines.{lines}
use Rattle.cf_tree.specs.CodeView.{code_tree}
use Rattle.cf_tree.specs.Meaning.{means, peak}
use Rattle.cf_tree.specs.Values.{Value}
use Rattle.cf_tree.specs.declared.target.RawTarget.{RawTarget}
use Rattle.cf_eval.specs.Spelling.{SpellsValues}
use Rattle.cf_eval.specs.Texts.{outcome_text}

-- the text of what a target means, or overflow where a number met passes the limit
abbrev pub meaning_text : ℕ → RawTarget → List Value → List ℕ
meaning_text limit t vs = if nat_le (peak (code_tree t.code) vs) limit then outcome_text (means (code_tree t.code) vs) else codes "overflow"

-- the reply to a line
pub data IsReply (line_limit limit : ℕ) (t : RawTarget) (line : List ℕ) : List ℕ → Type 0 where
  too_long : line_limit < length line → IsReply line_limit limit t line (codes "line too long")
  bad_input : length line ≤ line_limit → ((vs : List Value) → ¬ SpellsValues limit t.params.items line vs) → IsReply line_limit limit t line (codes "bad input")
  meaning : (vs : List Value) → length line ≤ line_limit → SpellsValues limit t.params.items line vs → IsReply line_limit limit t line (meaning_text limit t vs)

-- the replies to lines, each with a line feed
abbrev pub AreReplies : ℕ → ℕ → RawTarget → List (List ℕ) → List ℕ → Type 0
AreReplies line_limit limit t [] out = out ≡ []
AreReplies line_limit limit t (line ∷ ls) out =
    (text : List ℕ) × (more : List ℕ) × (out ≡ text ++ 10 ∷ more) × IsReply line_limit limit t line text × AreReplies line_limit limit t ls more

-- the replies to all lines of an input
abbrev pub Replies : ℕ → ℕ → RawTarget → List ℕ → List ℕ → Type 0
Replies line_limit limit t input out = AreReplies line_limit limit t (lines input) out
