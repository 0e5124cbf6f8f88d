-- The branches of the chooses of a source, as `pre` and steps files name them.
use Rattle.std.specs.Prelude.{◌≡◌, ◌==◌, ℕ, suc, Bool, true, false, not, ◌&&◌, List, [], ◌∷◌, ◌++◌, map, drop, get_or, Option, Some, None, codes, if◌then◌else◌}
use Rattle.std.specs.Str.{bytes_eq}
use Rattle.cf_tree.specs.ChooseTree.{ChooseTree}
use Rattle.cf_tree.specs.Words.{truth_text}
use Rattle.cf_program.specs.Checked.{TypedTree}
use Rattle.cf_build.specs.Chooses.{all_chooses, by_number}
use Rattle.cf_form.specs.Branches.{Branch}
use Rattle.cf_form.specs.Told.{ToldChoose}
use Rattle.cf_steps.specs.Blocks.{BlockTree}
use Rattle.cf_steps.specs.declared.block.NamedTruth.{NamedTruth}
use Rattle.cf_cert.specs.Judging.{IsVerdict}
use Rattle.cf_cert.specs.declared.verdict.Verdict.{Verdict}
use Rattle.cf_cert.specs.declared.verdict.Verdict.TheVariants.{Rejected}
use Rattle.cf_cert.specs.declared.verdict.Why.TheVariants.{Blocks}
use Rattle.cf_answer.specs.Sources.{AreToldOf, IsTypedSource}

-- the branches of choose number n, `true` first; none where nothing is told of it
abbrev pub branches_of : List ToldChoose → ℕ → List Branch
branches_of [] n = []
branches_of (c ∷ told) n = if c.number == n then map (λ b. b.truths) c.branches else branches_of told n

-- the branches of choose number n that are still to come: all of them, where none is left of the number before
abbrev pub coming : List ToldChoose → List Branch → ℕ → List Branch
coming told [] n = branches_of told n
coming told (b ∷ bs) n = b ∷ bs

abbrev pub first_branch : List Branch → Branch
first_branch [] = []
first_branch (b ∷ bs) = b

-- chooses in the order of their numbers with their branches: those of one number are its branches in order
abbrev pub in_branches : List ToldChoose → List Branch → List ChooseTree → List (ChooseTree × Branch)
in_branches told bs [] = []
in_branches told bs (q ∷ qs) = (q, first_branch (coming told bs q.number)) ∷ in_branches told (drop 1 (coming told bs q.number)) qs

-- the chooses of the program of a text in their branches, in the order of their numbers
pub record AreBranched (text : List ℕ) (cs : List (ChooseTree × Branch)) : Type 0 where
  pub typed : TypedTree
  pub is : IsTypedSource text typed
  pub told : List ToldChoose
  pub tells : AreToldOf text told
  pub are : cs ≡ in_branches told [] (by_number (all_chooses typed.defs))

-- ---- by the names of the source
abbrev pub named : List (List ℕ) → ℕ × Bool → NamedTruth
named names t = record { name = get_or names t.0 []; value = t.1 }

-- the head of a block
abbrev pub head_of : ChooseTree × Branch → List NamedTruth
head_of c = map (named c.0.names) c.1

-- ` = ` and the value of a level in a branch, where it has one
abbrev pub value_behind : ℕ → Branch → List ℕ
value_behind x [] = []
value_behind x (t ∷ b) = if t.0 == x then codes " = " ++ truth_text t.1 else value_behind x b

-- the names of a scope from level x on, those of truth variables of the branch with their values
abbrev pub valued : ℕ → List (List ℕ) → Branch → List (List ℕ)
valued x [] b = []
valued x (name ∷ names) b = (name ++ value_behind x b) ∷ valued (suc x) names b

-- ---- heads of a steps file
abbrev pub same_truth : NamedTruth → NamedTruth → Bool
same_truth t u = bytes_eq t.name u.name && (if t.value then u.value else not u.value)

abbrev pub same_head : List NamedTruth → List NamedTruth → Bool
same_head [] [] = true
same_head [] (u ∷ us) = false
same_head (t ∷ ts) [] = false
same_head (t ∷ ts) (u ∷ us) = same_truth t u && same_head ts us

-- the number of the first choose whose block names another branch
abbrev pub wrong_head : List (ChooseTree × Branch) → List BlockTree → Option ℕ
wrong_head [] bs = None
wrong_head (c ∷ cs) [] = None
wrong_head (c ∷ cs) (b ∷ bs) = if same_head (head_of c) b.truths then wrong_head cs bs else Some c.0.number

-- the verdict on blocks where this choose, if any, is the first whose block names another branch: that block is a wrong one, before all that is wrong in steps
abbrev pub IsVerdictBeside : Option ℕ → List ChooseTree → List BlockTree → Verdict → Type 0
IsVerdictBeside (Some n) qs bs v = v ≡ Rejected n 0 0 Blocks
IsVerdictBeside None qs bs v = IsVerdict qs bs v

-- the verdict on blocks for chooses in their branches
abbrev pub IsVerdictIn : List (ChooseTree × Branch) → List BlockTree → Verdict → Type 0
IsVerdictIn cs bs v = IsVerdictBeside (wrong_head cs bs) (map (λ c. c.0) cs) bs v
