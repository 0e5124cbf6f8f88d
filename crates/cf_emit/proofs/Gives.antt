-- One give alone, and several as a tuple.
use Rattle.std.proofs.Common.{◌≡◌, ◌≢◌, ℕ, ◌++◌, List, [], ◌∷◌, length, codes, refl, ap, ◌∙◌, arith, append_assoc}
use Rattle.cf_tree.specs.declared.code.Code.{Code}
use Rattle.cf_tree.specs.CodeView.{code_tree, code_trees}
use Rattle.cf_emit.specs.Printed.{code_text, codes_text, gives_text, more_codes}

alone : (t : List ℕ) → t ≡ t ++ []
alone [] = refl
alone (x ∷ t) = ap (λ u. x ∷ u) (alone t)

joined : (a b m : List ℕ) → codes "(" ++ a ++ codes ", " ++ b ++ m ++ codes ")" ≡ codes "(" ++ (a ++ (codes ", " ++ b ++ m)) ++ codes ")"
joined a b m = simp append_assoc refl

pub gives_alone : (cs : List Code) → length cs ≡ 1 → gives_text (code_trees cs) ≡ [] ++ codes_text (codes ", ") (code_trees cs) ++ []
gives_alone [] h = absurd (omega (arith, h))
gives_alone (c ∷ []) h = alone (code_text (code_tree c)) ∙ alone (code_text (code_tree c) ++ [])
gives_alone (c ∷ d ∷ cs) h = absurd (omega (arith, h))

pub gives_several : (cs : List Code) → length cs ≢ 1 → gives_text (code_trees cs) ≡ codes "(" ++ codes_text (codes ", ") (code_trees cs) ++ codes ")"
gives_several [] h = refl
gives_several (c ∷ []) h = absurd (h refl)
gives_several (c ∷ d ∷ cs) h = joined (code_text (code_tree c)) (code_text (code_tree d)) (more_codes (codes ", ") (code_trees cs))
