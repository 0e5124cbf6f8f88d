-- Parameters one by one.
use Rattle.std.proofs.Common.{◌≡◌, ◌+◌, ℕ, suc, Bool, true, false, List, [], ◌∷◌, ◌++◌, if◌then◌else◌, refl, sym, subst, ◌∙◌, ap, arith}
use Rattle.cf_tree.specs.declared.raw.Param.{Param}
use Rattle.cf_tree.specs.ExprTree.{ExprTree}
use Rattle.cf_advice.specs.Unused.{stands, unused_from}

chosen : (b : Bool) (p : Param) (us : List Param) → (if b then [] else p ∷ []) ++ us ≡ (if b then us else p ∷ us)
chosen true p us = refl
chosen false p us = refl

-- one parameter, and those behind it
pub one_more : (x : ℕ) (p : Param) (ps : List Param) (body : ExprTree) →
    (if stands x body then [] else p ∷ []) ++ unused_from (x + 1) ps body ≡ unused_from x (p ∷ ps) body
one_more x p ps body =
    let e : x + 1 ≡ suc x = omega arith in
    ap (λ y. (if stands x body then [] else p ∷ []) ++ unused_from y ps body) e ∙ chosen (stands x body) p (unused_from (suc x) ps body)
