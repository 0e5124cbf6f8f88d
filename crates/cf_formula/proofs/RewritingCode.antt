-- What is made of two parts, and faults of one of them.
use Rattle.std.proofs.Common.{◌≡◌, [], ◌∷◌, Bool, true, false, ◌||◌, Result, refl, sym, subst}
use Rattle.cf_linear.specs.Parts.{IsRowFault}
use Rattle.cf_linear.specs.Rows.{Row}
use Rattle.cf_linear.specs.declared.refusal.RowFault.{RowFault}
use Rattle.cf_linear.specs.declared.refusal.RowFault.TheVariants.{Past, NoMemory}
use Rattle.cf_formula.specs.declared.formula.Formula.{Formula as DeclaredFormula}
use Rattle.cf_formula.specs.Answers.{FormulaAnswer}
use Rattle.cf_formula.specs.Formulas.{Formula, either}
use Rattle.cf_formula.specs.Members.{conj, disj}
use Rattle.cf_formula.specs.Rewriting.{rewritten, some_atom}

pub first_fault : (p q : Bool) (e : RowFault) → IsRowFault p e → IsRowFault (p || q) e
first_fault p q Past h = rw h refl
first_fault p q NoMemory h = tt

pub second_fault : (p q : Bool) (e : RowFault) → IsRowFault q e → IsRowFault (p || q) e
second_fault true q Past h = refl
second_fault false q Past h = h
second_fault p q NoMemory h = tt

no_fault : (p q : Bool) (e : RowFault) → p ≡ false → q ≡ false → IsRowFault false e → IsRowFault (p || q) e
no_fault p q e f g h = rw (f, g) h

pub both_made : (p q : Bool) (a b x y : Formula) (r : Result DeclaredFormula RowFault) → x ≡ a → p ≡ false → y ≡ b → q ≡ false →
    FormulaAnswer false (conj (x ∷ y ∷ [])) r → FormulaAnswer (p || q) (conj (a ∷ b ∷ [])) r
both_made p q a b x y r e f g h k = rw (f, h, ← e, ← g) k

pub either_made : (p q : Bool) (a b x y : Formula) (r : Result DeclaredFormula RowFault) → x ≡ a → p ≡ false → y ≡ b → q ≡ false →
    FormulaAnswer false (disj (x ∷ y ∷ [])) r → FormulaAnswer (p || q) (disj (a ∷ b ∷ [])) r
either_made p q a b x y r e f g h k = rw (f, h, ← e, ← g) k

pub either_rewritten : (p : Row → Bool) (low zero : Row → Formula) (t a b x y : Formula) (r : Result DeclaredFormula RowFault) → t ≡ either a b →
    x ≡ rewritten low zero a → some_atom p a ≡ false → y ≡ rewritten low zero b → some_atom p b ≡ false →
    FormulaAnswer false (disj (x ∷ y ∷ [])) r → FormulaAnswer (some_atom p t) (rewritten low zero t) r
either_rewritten p low zero t a b x y r i e f g h k =
    subst (λ s. FormulaAnswer (some_atom p s) (rewritten low zero s) r) (sym i)
    (either_made (some_atom p a) (some_atom p b) (rewritten low zero a) (rewritten low zero b) x y r e f g h k)
