-- What the question whether classes hold every number says of numbers.
use Rattle.std.proofs.Common.{inl, inr, ◌≡◌, ◌⊎◌, ◌↔◌, ℕ, zero, suc, ℤ, pos, ◌<◌, ◌≤ℤ◌, ◌<ℤ◌, ◌-ℤ◌, ◌+ℤ◌, ◌*ℤ◌, true, List, [], ◌∷◌, ◌++◌, length, get_or, All, refl, sym, ap, ◌∙◌, subst, arith}
use Rattle.std.specs.Prelude.{Any}
use Rattle.std.specs.List.{fold}
use Rattle.std.proofs.lemmas.Int.{ints}
use Rattle.std.proofs.lemmas.List.Elements.{All-nil, All-cons, All-head, All-tail}
use Rattle.cf_num.specs.Limit.{IsWithin}
use Rattle.cf_tree.specs.declared.base.Base.{Base}
use Rattle.cf_tree.specs.declared.base.Base.TheVariants.{Int}
use Rattle.cf_tree.specs.Numbers.{quotient}
use Rattle.cf_tree.specs.Occurs.{rel_holds}
use Rattle.cf_tree.specs.Relation.{Holds, IsTyped, IsLinear}
use Rattle.cf_tree.specs.RelTree.{RelTree}
use Rattle.cf_tree.specs.Typing.{one}
use Rattle.cf_tree.specs.Values.{Value, number}
use Rattle.cf_cases.proofs.GuardLaws.{quotient_from_rows}
use Rattle.cf_choose.specs.Solved.{IsOutput}
use Rattle.cf_match.specs.declared.class.Class.{Class}
use Rattle.cf_match.specs.declared.class.Class.TheVariants.{Point, Residue}
use Rattle.cf_match.specs.Classes.{IsIn}
use Rattle.cf_warn.specs.Classes.{IsClass, AreClasses, in_class, or_in_class, in_some, covered}
use Rattle.cf_warn.specs.Questions.{parameters}
use Rattle.cf_warn.specs.Solutions.{AreAlways, AreMissing}

-- ---- one class
left_over : (z x r : ℤ) → z -ℤ x ≡ r → z -ℤ r ≡ x
left_over z x r e = omega (arith, ints)

within_rows : (z x g r : ℤ) → pos 0 ≤ℤ r → r <ℤ g → z -ℤ r ≡ x → (pos 0 ≤ℤ (z -ℤ x)) × (pos 0 ≤ℤ (x +ℤ (g -ℤ pos 1) -ℤ z)) × (z -ℤ x ≡ r)
within_rows z x g r l h e = (omega (arith, ints), omega (arith, ints), omega (arith, ints))

-- the test of a class holds where the number is in it
pub test_holds : (c : Class) (z : ℤ) (env : List Value) → IsClass c → Holds (in_class c) (number z ∷ env) ↔ IsIn c z
test_holds (Point c) z env is = ((λ h. h), λ h. h)
test_holds (Residue g r) z env is = (
  (λ h.
      let k = within_rows z (g *ℤ h.0) g r is.1 is.2 h.1 in
      ap (λ x. z -ℤ g *ℤ x) (sym (quotient_from_rows z g h.0 is.0.0 k.0 k.1)) ∙ k.2),
  λ h. (quotient z g, left_over z (g *ℤ quotient z g) r h),
)

-- ---- several classes
any_first : (P : Class → Type 0) (c : Class) (cs : List Class) → P c → Any P (c ∷ cs)
any_first P c cs p = (0, c, omega arith, refl, p)

any_later : (P : Class → Type 0) (c : Class) (cs : List Class) → Any P cs → Any P (c ∷ cs)
any_later P c cs a = (suc a.0, a.1, let l = a.2 in omega arith, a.3, a.4)

none_of : (P : Class → Type 0) (cs : List Class) → (Any P cs → ⊥) → All (λ c. P c → ⊥) cs
none_of P [] h = All-nil (λ c. P c → ⊥)
none_of P (c ∷ cs) h = All-cons (λ d. P d → ⊥) c cs (λ p. h (any_first P c cs p)) (none_of P cs (λ a. h (any_later P c cs a)))

module _ (z : ℤ) (env : List Value) where
  abbrev here : List Value
  here = number z ∷ env

  -- one of the tests holds, or what stands before them
  or_holds : (a : RelTree) (cs : List Class) → All IsClass cs → Holds (fold or_in_class a cs) here → Holds a here ⊎ Any (λ c. IsIn c z) cs
  or_holds a [] each h = inl h
  or_holds a (c ∷ cs) each h =
      elim (or_holds (or_in_class a c) cs (All-tail IsClass c cs each) h) [
        | inl k ↦ elim k [
          | inl l ↦ inl l
          | inr l ↦ inr (any_first (λ d. IsIn d z) c cs ((test_holds c z env (All-head IsClass c cs each)).0 l))
        ]
        | inr k ↦ inr (any_later (λ d. IsIn d z) c cs k)
      ]

  before_holds : (a : RelTree) (cs : List Class) → Holds a here → Holds (fold or_in_class a cs) here
  before_holds a [] h = h
  before_holds a (c ∷ cs) h = before_holds (or_in_class a c) cs (inl h)

  -- the converse for a list with a first class
  holds_later : (a : RelTree) (cs : List Class) → All IsClass cs → (k : ℕ) (d : Class) → k < length cs → IsIn (get_or cs k d) z →
      Holds (fold or_in_class a cs) here
  holds_later a [] each k d l i = absurd (omega arith)
  holds_later a (c ∷ cs) each zero d l i = before_holds (or_in_class a c) cs (inr ((test_holds c z env (All-head IsClass c cs each)).1 i))
  holds_later a (c ∷ cs) each (suc k) d l i = holds_later (or_in_class a c) cs (All-tail IsClass c cs each) k d (omega arith) i

  some_holds : (cs : List Class) → All IsClass cs → Holds (in_some cs) here → Any (λ c. IsIn c z) cs
  some_holds [] each h = absurd h
  some_holds (c ∷ cs) each h =
      elim (or_holds (in_class c) cs (All-tail IsClass c cs each) h) [
        | inl k ↦ any_first (λ d. IsIn d z) c cs ((test_holds c z env (All-head IsClass c cs each)).0 k)
        | inr k ↦ any_later (λ d. IsIn d z) c cs k
      ]

  holds_some : (cs : List Class) → All IsClass cs → (k : ℕ) (d : Class) → k < length cs → IsIn (get_or cs k d) z → Holds (in_some cs) here
  holds_some [] each k d l i = absurd (omega arith)
  holds_some (c ∷ cs) each zero d l i = before_holds (in_class c) cs ((test_holds c z env (All-head IsClass c cs each)).1 i)
  holds_some (c ∷ cs) each (suc k) d l i = holds_later (in_class c) cs (All-tail IsClass c cs each) k d (omega arith) i

-- ---- the question is one of a typed and linear choose
abbrev two : List Base
two = one Int ++ one Int

class_typed : (c : Class) → IsClass c → IsTyped two (in_class c)
class_typed (Point c) is = (refl, is)
class_typed (Residue g r) is = (is.0, (refl, remainder_within g r is.0.1 is.1 is.2))
  where
    remainder_within : (g r : ℤ) → IsWithin g → pos 0 ≤ℤ r → r <ℤ g → IsWithin r
    remainder_within g r w l h = omega (arith, ints)

or_typed : (a : RelTree) (cs : List Class) → IsTyped two a → All IsClass cs → IsTyped two (fold or_in_class a cs)
or_typed a [] t each = t
or_typed a (c ∷ cs) t each = or_typed (or_in_class a c) cs (t, class_typed c (All-head IsClass c cs each)) (All-tail IsClass c cs each)

some_typed : (cs : List Class) → All IsClass cs → IsTyped two (in_some cs)
some_typed [] each = tt
some_typed (c ∷ cs) each = or_typed (in_class c) cs (class_typed c (All-head IsClass c cs each)) (All-tail IsClass c cs each)

pub covered_typed : (cs : List Class) → All IsClass cs → IsTyped two (covered cs)
covered_typed cs each = ((refl, omega (arith, ints)), some_typed cs each)

class_linear : (c : Class) → IsLinear (in_class c)
class_linear (Point c) = (tt, tt)
class_linear (Residue g r) = (tt, tt)

or_linear : (a : RelTree) (cs : List Class) → IsLinear a → IsLinear (fold or_in_class a cs)
or_linear a [] l = l
or_linear a (c ∷ cs) l = or_linear (or_in_class a c) cs (l, class_linear c)

some_linear : (cs : List Class) → IsLinear (in_some cs)
some_linear [] = tt
some_linear (c ∷ cs) = or_linear (in_class c) cs (class_linear c)

pub covered_linear : (cs : List Class) → IsLinear (covered cs)
covered_linear cs = ((tt, tt), some_linear cs)

pub one_output : All IsOutput (one Int)
one_output = All-cons IsOutput Int [] tt (All-nil IsOutput)

-- ---- its one parameter is the number
class_level : (c : Class) → rel_holds 0 (in_class c) ≡ true
class_level (Point c) = refl
class_level (Residue g r) = refl

or_level : (a : RelTree) (cs : List Class) → rel_holds 0 a ≡ true → rel_holds 0 (fold or_in_class a cs) ≡ true
or_level a [] e = e
or_level a (c ∷ cs) e = or_level (or_in_class a c) cs (rw e refl)

some_level : (cs : List Class) → 0 < length cs → rel_holds 0 (covered cs) ≡ true
some_level [] l = absurd (omega arith)
some_level (c ∷ cs) l = or_level (in_class c) cs (class_level c)

pub one_parameter : (cs : List Class) → AreClasses cs → parameters (one Int) (covered cs) ≡ 0 ∷ []
one_parameter cs are = let l = are.some in rw (some_level cs (omega arith)) refl

-- ---- what the answer says of numbers
-- every number is in a class
pub every_number : (cs : List Class) → AreClasses cs → AreAlways (one Int) (one Int) (covered cs) → (z : ℤ) → Any (λ c. IsIn c z) cs
every_number cs are always z =
    let s = always (number z ∷ []) ((z, refl), tt) in
    some_holds z s.0 cs are.each s.1.1.1

-- no class holds a number for which the output is missing
pub no_class : (cs : List Class) → AreClasses cs → (z : ℤ) → AreMissing (one Int) (one Int) (covered cs) (number z ∷ []) → All (λ c. IsIn c z → ⊥) cs
no_class cs are z missing =
    none_of (λ c. IsIn c z) cs (λ a.
    missing.unsolved (number z ∷ []) (record { bases = ((z, refl), tt); same = rw (one_parameter cs are) refl }) (number (pos 0) ∷ []) (
      ((pos 0, refl), tt),
      (refl, holds_some z (number (pos 0) ∷ []) cs are.each a.0 a.1 a.2 (subst (λ c. IsIn c z) (sym a.3) a.4)),
    ))
