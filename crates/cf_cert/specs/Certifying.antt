-- When a block certifies a choose: its steps eliminate each case, and its target is the code that they make.
use Rattle.std.specs.Prelude.{◌≡◌, ℕ, ◌+◌, ◌==◌, Bool, true, false, List, [], ◌∷◌, length, map, Option, Some, None, Result, Ok, Err, if◌then◌else◌}
use Rattle.std.specs.List.{fold}
use Rattle.cf_tree.specs.ChooseTree.{ChooseTree}
use Rattle.cf_tree.specs.CodeTree.{arms_of, code_solve}
use Rattle.cf_tree.specs.DefView.{TargetTree}
use Rattle.cf_linear.specs.declared.refusal.Refusal.{Refusal}
use Rattle.cf_linear.specs.Systems.{System, Answer, no_answer, then_answer}
use Rattle.cf_linear.specs.Stages.{Limits, limits, first_count, times_bound}
use Rattle.cf_linear.specs.Layout.{Layout, layout_of}
use Rattle.cf_linear.specs.Cases.{negation_normal, first_systems, written_passes}
use Rattle.cf_linear.specs.Arm.{arm}
use Rattle.cf_choose.specs.Eliminations.{case_refusal}
use Rattle.cf_elim.specs.declared.act.Act.{Act}
use Rattle.cf_steps.specs.Blocks.{BlockTree}
use Rattle.cf_cert.specs.declared.verdict.Why.{Why}
use Rattle.cf_cert.specs.declared.verdict.Why.TheVariants.{Left, Refused}
use Rattle.cf_cert.specs.Applying.{apply}

-- ---- the steps of a case
-- what the steps make together, or the number of the first one that does not apply, and why
abbrev pub Followed : Type 0
Followed = Result Answer (ℕ × Why)

-- no unknown, equation or inequality is left
abbrev pub is_over : System → Bool
is_over m = length m.unknown + length m.equations + length m.inequalities == 0

abbrev pub after_first : Answer → Followed → Followed
after_first a (Ok b) = Ok (then_answer a b)
after_first a (Err f) = Err f

-- the steps from number i on, where the searches before them have n tuples
unfoldable pub follow : Limits → ℕ → ℕ → System → List Act → Followed
follow l i n m [] = (if is_over m then Ok (no_answer m) else Err (i, Left))
follow l i n m (act ∷ acts) = elim (apply l n m act) [
  | Err w ↦ Err (i, w)
  | Ok a ↦ after_first a (follow l (i + 1) (fold times_bound n a.bounds) a.system acts)
]

abbrev pub unless_refused : Option Refusal → Followed → Followed
unless_refused (Some r) f = Err (0, Refused r)
unless_refused None f = f

-- the steps of a case from its first system, whose counts stand for step 0
unfoldable pub eliminated : Limits → System → List Act → Followed
eliminated l m acts = unless_refused (first_count l m) (follow l 1 1 m acts)

-- ---- certificates
-- the layout of a choose
abbrev pub layout : ChooseTree → Layout
layout q = layout_of q.scope q.outputs q.relation

-- there is one list of steps for each system, which makes this answer
abbrev pub AreEliminated : Limits → List System → List (List Act) → List Answer → Type 0
AreEliminated l [] [] [] = Unit {0}
AreEliminated l [] [] (a ∷ answers) = ⊥
AreEliminated l [] (acts ∷ cases) answers = ⊥
AreEliminated l (m ∷ ms) [] answers = ⊥
AreEliminated l (m ∷ ms) (acts ∷ cases) [] = ⊥
AreEliminated l (m ∷ ms) (acts ∷ cases) (a ∷ answers) = (eliminated l m acts ≡ Ok a) × AreEliminated l ms cases answers

-- the target of a choose whose eliminations make these answers
abbrev pub target_with : ChooseTree → List Answer → TargetTree
target_with q answers = record { params = q.scope; results = q.outputs; code = code_solve q.number (arms_of (map (arm (layout q)) answers)) }

-- the block has the choose's number, no limit of sets, of cases or of written rows is passed, its steps eliminate each case, and its
-- target is the `solve` with the arms of what they make
pub record Certifies (q : ChooseTree) (b : BlockTree) : Type 0 where
  pub number : b.number ≡ q.number
  pub counts : case_refusal (layout q) q.relation ≡ None
  pub written : written_passes (layout q) (negation_normal true q.relation) ≡ false
  pub answers : List Answer
  pub cases : AreEliminated limits (first_systems (layout q) q.relation) b.cases answers
  pub target : b.target ≡ target_with q answers
