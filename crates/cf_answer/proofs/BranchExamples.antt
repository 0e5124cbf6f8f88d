-- Worked examples of branches: of which branch a block tells, and what is told of a wrong one.
use Rattle.std.proofs.Common.{◌≡◌, refl, ℕ, Bool, true, false, List, [], ◌∷◌, map, Some, None, codes}
use Rattle.std.specs.Prelude.{pos}
use Rattle.cf_tree.specs.RelTree.{rel_true}
use Rattle.cf_tree.specs.ChooseTree.{ChooseTree}
use Rattle.cf_tree.specs.CodeTree.{code_lit}
use Rattle.cf_cert.specs.declared.verdict.Verdict.TheVariants.{Rejected}
use Rattle.cf_cert.specs.declared.verdict.Why.TheVariants.{Blocks}
use Rattle.cf_form.specs.Branches.{Branch}
use Rattle.cf_form.specs.Told.{ToldBranch, ToldChoose}
use Rattle.cf_steps.specs.Blocks.{BlockTree}
use Rattle.cf_steps.specs.declared.block.NamedTruth.{NamedTruth}
use Rattle.cf_answer.specs.Branches.{head_of, in_branches, valued, wrong_head, IsVerdictIn}

-- a choose in the scope p, a, q
abbrev choose : ℕ → ChooseTree
choose n = record { number = n; names = codes "p" ∷ codes "a" ∷ codes "q" ∷ []; scope = []; outputs = []; relation = rel_true }

abbrev told_branch : Branch → ToldBranch
told_branch b = record { truths = b; relation = rel_true; given = None }

abbrev told : ℕ → List Branch → ToldChoose
told n bs = record { number = n; outputs = []; hidden = 0; parameters = []; branches = map told_branch bs }

abbrev heads : List ToldChoose → List ChooseTree → List (List NamedTruth)
heads ts qs = map head_of (in_branches ts [] qs)

abbrev truth : List ℕ → Bool → NamedTruth
truth x b = record { name = x; value = b }

-- one truth variable
abbrev on_p : List Branch
on_p = ((0, true) ∷ []) ∷ ((0, false) ∷ []) ∷ []

one-truth : heads (told 1 on_p ∷ []) (choose 1 ∷ choose 1 ∷ []) ≡ (truth (codes "p") true ∷ []) ∷ (truth (codes "p") false ∷ []) ∷ []
one-truth = refl

-- two
abbrev on_both : List Branch
on_both = ((0, true) ∷ (2, true) ∷ []) ∷ ((0, true) ∷ (2, false) ∷ []) ∷ ((0, false) ∷ (2, true) ∷ []) ∷ ((0, false) ∷ (2, false) ∷ []) ∷ []

two-truths : heads (told 1 on_both ∷ []) (choose 1 ∷ choose 1 ∷ choose 1 ∷ choose 1 ∷ []) ≡
    (truth (codes "p") true ∷ truth (codes "q") true ∷ []) ∷ (truth (codes "p") true ∷ truth (codes "q") false ∷ []) ∷
    (truth (codes "p") false ∷ truth (codes "q") true ∷ []) ∷ (truth (codes "p") false ∷ truth (codes "q") false ∷ []) ∷ []
two-truths = refl

-- the chooses on the sides of an `if` of the source have numbers of their own, and one branch each
two-chooses : heads (told 1 ([] ∷ []) ∷ told 2 ([] ∷ []) ∷ []) (choose 1 ∷ choose 2 ∷ []) ≡ [] ∷ [] ∷ []
two-chooses = refl

-- one of them in branches, before one that is not
one-of_two : heads (told 1 on_p ∷ told 2 ([] ∷ []) ∷ []) (choose 1 ∷ choose 1 ∷ choose 2 ∷ []) ≡
    (truth (codes "p") true ∷ []) ∷ (truth (codes "p") false ∷ []) ∷ [] ∷ []
one-of_two = refl

-- the second in branches, and a match between, of which nothing is told
behind-a_match : heads (told 1 on_p ∷ told 3 on_p ∷ []) (choose 1 ∷ choose 1 ∷ choose 2 ∷ choose 3 ∷ choose 3 ∷ []) ≡
    (truth (codes "p") true ∷ []) ∷ (truth (codes "p") false ∷ []) ∷ [] ∷ (truth (codes "p") true ∷ []) ∷ (truth (codes "p") false ∷ []) ∷ []
behind-a_match = refl

-- in language 2 nothing is told
language-two : heads [] (choose 1 ∷ choose 2 ∷ []) ≡ [] ∷ [] ∷ []
language-two = refl

-- ---- the names that `pre` writes
valued-names : valued 0 (codes "p" ∷ codes "a" ∷ codes "q" ∷ []) ((0, true) ∷ (2, false) ∷ []) ≡ codes "p = true" ∷ codes "a" ∷ codes "q = false" ∷ []
valued-names = refl

plain-names : valued 0 (codes "p" ∷ codes "a" ∷ []) [] ≡ codes "p" ∷ codes "a" ∷ []
plain-names = refl

-- ---- heads of a steps file
abbrev block : List NamedTruth → BlockTree
block truths = record { number = 1; truths = truths; cases = []; target = record { params = []; results = []; code = code_lit (pos 0) } }

abbrev asked : List (ChooseTree × Branch)
asked = in_branches (told 1 on_p ∷ []) [] (choose 1 ∷ choose 1 ∷ [])

abbrev wrong : List NamedTruth → List NamedTruth → Type 0
wrong ts us = wrong_head asked (block ts ∷ block us ∷ []) ≡ Some 1

right-heads : wrong_head asked (block (truth (codes "p") true ∷ []) ∷ block (truth (codes "p") false ∷ []) ∷ []) ≡ None
right-heads = refl

-- the other value, another name, none, one too many
other-values : wrong (truth (codes "p") false ∷ []) (truth (codes "p") true ∷ [])
other-values = refl

other-name : wrong (truth (codes "q") true ∷ []) (truth (codes "p") false ∷ [])
other-name = refl

no-name : wrong [] (truth (codes "p") false ∷ [])
no-name = refl

second-wrong : wrong (truth (codes "p") true ∷ []) (truth (codes "p") false ∷ truth (codes "q") true ∷ [])
second-wrong = refl

-- too few blocks have no wrong head, which their verdict tells
too-few : wrong_head asked (block (truth (codes "p") true ∷ []) ∷ []) ≡ None
too-few = refl

-- a wrong head is a wrong block of the choose as a whole
told-wrong : IsVerdictIn asked (block [] ∷ []) (Rejected 1 0 0 Blocks)
told-wrong = refl
