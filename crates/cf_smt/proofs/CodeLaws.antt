-- How many codes there are.
use Rattle.std.proofs.Common.{◌≡◌, ◌∙◌, ℕ, suc, ◌+◌, ◌-◌, List, [], ◌∷◌, drop, length, refl, ap, arith}
use Rattle.cf_tree.specs.CodeTree.{count}
use Rattle.cf_tree.specs.CodeView.{code_trees}
use Rattle.cf_tree.specs.declared.code.Code.{Code}

count_trees : (cs : List Code) → count (code_trees cs) ≡ length cs
count_trees [] = refl
count_trees (c ∷ cs) = ap (λ n. 1 + n) (count_trees cs) ∙ one_more (length cs)
  where
    one_more : (n : ℕ) → 1 + n ≡ suc n
    one_more n = omega arith

pub count_behind : (cs : List Code) → count (code_trees (drop 1 cs)) ≡ length cs - 1
count_behind [] = refl
count_behind (c ∷ cs) = count_trees cs ∙ less (length cs)
  where
    less : (n : ℕ) → n ≡ suc n - 1
    less n = omega arith
