-- The code that makes problems of formulas.
use Rattle.std.proofs.Common.{◌≡◌, ℕ, List, [], ◌∷◌, ◌++◌, length, ◌∙◌, ap, refl}
use Rattle.cf_linear.specs.Rows.{Row}
use Rattle.cf_close.specs.declared.fact.FactKind.TheVariants.{Equation, Inequality}
use Rattle.cf_close.specs.Problems.{Conjunction, Problem}
use Rattle.cf_formula.specs.Formulas.{Formula, never, at_least, equal, both, either}
use Rattle.cf_read.specs.FormulaProblems.{Reading, Branches, no_facts, with_row, with_or, branched, begun, with_branches, with_formula, with_branch, asked, problem_of_formula, read_so, branches}

-- ---- what is said
pub never_said : (made : List Conjunction) (places : List ℕ) (c d : Conjunction) → places ≡ [] → d ≡ with_or places c →
    read_so made d ≡ with_formula never (read_so made c)
never_said made places c d e h = ap (read_so made) (h ∙ ap (λ ps. with_or ps c) e)

pub at_least_said : (made : List Conjunction) (row : Row) (c d : Conjunction) → d ≡ with_row Inequality row c →
    read_so made d ≡ with_formula (at_least row) (read_so made c)
at_least_said made row c d h = ap (read_so made) h

pub equal_said : (made : List Conjunction) (row : Row) (c d : Conjunction) → d ≡ with_row Equation row c →
    read_so made d ≡ with_formula (equal row) (read_so made c)
equal_said made row c d h = ap (read_so made) h

pub both_said : (f g : Formula) (r s t : Reading) → s ≡ with_formula f r → t ≡ with_formula g s → t ≡ with_formula (both f g) r
both_said f g r s t h k = k ∙ ap (with_formula g) h

pub either_said : (f g : Formula) (made middle last : List Conjunction) (none places all : List ℕ) (c d : Conjunction) → none ≡ [] →
    branches middle places ≡ with_branch f (branches made none) → branches last all ≡ with_branch g (branches middle places) → d ≡ with_or all c →
    read_so last d ≡ with_formula (either f g) (read_so made c)
either_said f g made middle last none places all c d e h k i =
    let two : branches last all ≡ with_branch g (with_branch f (branches made [])) =
    k ∙ ap (with_branch g) (h ∙ ap (λ ps. with_branch f (branches made ps)) e) in
    ap (read_so last) i ∙ ap (with_branches c) two

-- ---- branches
pub either_branched : (f g : Formula) (b d e : Branches) → d ≡ with_branch f b → e ≡ with_branch g d → e ≡ with_branch (either f g) b
either_branched f g b d e h k = k ∙ ap (with_branch g) h

pub one_branched : (f : Formula) (made later : List Conjunction) (c d : Conjunction) (places : List ℕ) (b : Branches) → c ≡ no_facts →
    read_so later d ≡ with_formula f (read_so made c) → b ≡ branched places (read_so later d) → b ≡ branched places (with_formula f (begun made))
one_branched f made later c d places b e h i = i ∙ ap (branched places) (h ∙ ap (λ x. with_formula f (read_so made x)) e)

pub branch_ended : (made later : List Conjunction) (places all : List ℕ) (n : ℕ) (c d : Conjunction) → n ≡ length made → all ≡ places ++ n ∷ [] → d ≡ c →
    later ≡ made ++ d ∷ [] → branches later all ≡ branched places (read_so made c)
branch_ended made later places all n c d e h i k = rw (k, h, e, i) refl

-- ---- the problem
pub problem_asked : (made later : List Conjunction) (n : ℕ) (c d : Conjunction) (p : Problem) → n ≡ length made → d ≡ c → later ≡ made ++ d ∷ [] →
    p ≡ record { conjunctions = later; root = n } → p ≡ asked (read_so made c)
problem_asked made later n c d p e i k h = rw (h, k, e, i) refl

pub problem_made : (f : Formula) (made later : List Conjunction) (c d : Conjunction) (p : Problem) → made ≡ [] → c ≡ no_facts →
    read_so later d ≡ with_formula f (read_so made c) → p ≡ asked (read_so later d) → p ≡ problem_of_formula f
problem_made f made later c d p e i h k =
    k ∙ ap asked (h ∙ ap (λ ms. with_formula f (read_so ms c)) e ∙ ap (λ x. with_formula f (read_so [] x)) i)
