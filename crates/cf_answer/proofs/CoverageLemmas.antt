-- Numbers in no class.
use Rattle.std.proofs.Common.{ℤ, suc, List, [], ◌∷◌, refl, arith}
use Rattle.std.specs.Prelude.{All, Any}
use Rattle.std.proofs.lemmas.List.Elements.{All-nil, All-cons}
use Rattle.cf_match.specs.declared.class.Class.{Class}
use Rattle.cf_match.specs.Classes.{IsIn}

some_first : (P : Class → Type 0) (c : Class) (cs : List Class) → P c → Any P (c ∷ cs)
some_first P c cs p = (0, c, omega arith, refl, p)

some_later : (P : Class → Type 0) (c : Class) (cs : List Class) → Any P cs → Any P (c ∷ cs)
some_later P c cs a = (suc a.0, a.1, let l = a.2 in omega arith, a.3, a.4)

all_fail : (P : Class → Type 0) (cs : List Class) → (Any P cs → ⊥) → All (λ c. P c → ⊥) cs
all_fail P [] h = All-nil (λ c. P c → ⊥)
all_fail P (c ∷ cs) h = All-cons (λ d. P d → ⊥) c cs (λ p. h (some_first P c cs p)) (all_fail P cs (λ a. h (some_later P c cs a)))

-- where not some class holds the number, each does not
pub none_holds : (z : ℤ) (classes : List Class) → (Any (λ c. IsIn c z) classes → ⊥) → All (λ c. IsIn c z → ⊥) classes
none_holds z classes h = all_fail (λ c. IsIn c z) classes h
