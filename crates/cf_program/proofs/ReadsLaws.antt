-- What is read as a part of a relation is well typed and linear, where so many of the outermost variables count as known.
use Rattle.std.proofs.Common.{◌≡◌, ℕ, Bool, true, false, ◌||◌, List, Option, Some, None, slice_get, refl, subst, arith}
use Rattle.std.proofs.lemmas.Bool.Decides.{nat_tests}
use Rattle.std.specs.Prelude.{IsTrue}
use Rattle.cf_tree.specs.declared.base.Base.{Base}
use Rattle.cf_tree.specs.declared.base.Base.TheVariants.{Int, Bool as Truth, Set}
use Rattle.cf_tree.specs.declared.base.Order.{Order}
use Rattle.cf_tree.specs.declared.base.Order.TheVariants.{Eq, Ne, Lt, Le, Gt, Ge}
use Rattle.cf_tree.specs.declared.base.Place.{Place}
use Rattle.cf_tree.specs.declared.raw.BinOp.{BinOp}
use Rattle.cf_tree.specs.declared.raw.BinOp.TheVariants.{Add, Sub, Mul, And, Or, Union, Inter, Diff, Subset, Implies, Compare}
use Rattle.cf_tree.specs.Relation.{is_fixed, IsLinearTerm, IsLinear, IsTypedSet, IsTypedTerm, IsTyped}
use Rattle.cf_tree.specs.RelTree.{SetTree, TermTree, term_lit, term_var, term_card, term_neg, term_add, term_sub, term_mul, term_div, term_mod, term_abs, RelTree, rel_true, rel_false, rel_compare, rel_same_set, rel_other_set, rel_subset, rel_divides, rel_and, rel_or, rel_not}
use Rattle.cf_program.specs.declared.linearity.Linearity.{Linearity}
use Rattle.cf_program.specs.declared.linearity.Linearity.TheVariants.{Plain, Late}
use Rattle.cf_program.specs.LateLinear.{is_fixed_below, IsLateLinearTerm, IsLateLinear, IsLinearBy, known_in}
use Rattle.cf_program.specs.Reading.{Reading, relation, term, set, not_linear, first_nonlinear, not_linear_at, on_relation, on_term, on_set, truth_reading, variable_reading, product_reading, sets_reading, compare_reading, binary_reading}
use Rattle.cf_program.specs.Walk.{result_of}
use Rattle.cf_tree.specs.Typing.{one}

-- where no variable counts as known, what is linear is so by the plain rule
fixed_is : (t : TermTree) → is_fixed_below 0 t ≡ is_fixed t
fixed_is (term_lit k) = refl
fixed_is (term_var x) = grind (arith, nat_tests)
fixed_is (term_card s) = refl
fixed_is (term_neg a) = fixed_is a
fixed_is (term_add a b) = rw (fixed_is a, fixed_is b) refl
fixed_is (term_sub a b) = rw (fixed_is a, fixed_is b) refl
fixed_is (term_mul a b) = rw (fixed_is a, fixed_is b) refl
fixed_is (term_div a k) = refl
fixed_is (term_mod a k) = refl
fixed_is (term_abs a) = fixed_is a

linear_term : (t : TermTree) → IsLateLinearTerm 0 t → IsLinearTerm t
linear_term (term_lit k) h = tt
linear_term (term_var x) h = tt
linear_term (term_card s) h = tt
linear_term (term_neg a) h = linear_term a h
linear_term (term_add a b) h = (linear_term a h.0, linear_term b h.1)
linear_term (term_sub a b) h = (linear_term a h.0, linear_term b h.1)
linear_term (term_mul a b) h =
    (linear_term a h.0, linear_term b h.1, subst (λ x. IsTrue (x || is_fixed b)) (fixed_is a) (subst (λ y. IsTrue (is_fixed_below 0 a || y)) (fixed_is b) h.2))
linear_term (term_div a k) h = linear_term a h
linear_term (term_mod a k) h = linear_term a h
linear_term (term_abs a) h = linear_term a h

linear_relation : (r : RelTree) → IsLateLinear 0 r → IsLinear r
linear_relation rel_true h = tt
linear_relation rel_false h = tt
linear_relation (rel_compare o a b) h = (linear_term a h.0, linear_term b h.1)
linear_relation (rel_same_set a b) h = tt
linear_relation (rel_other_set a b) h = tt
linear_relation (rel_subset a b) h = tt
linear_relation (rel_divides k t) h = linear_term t h
linear_relation (rel_and a b) h = (linear_relation a h.0, linear_relation b h.1)
linear_relation (rel_or a b) h = (linear_relation a h.0, linear_relation b h.1)
linear_relation (rel_not a) h = linear_relation a h

-- what is read in the relation of a choose behind n variables is linear there
pub linear_behind : (how : Linearity) (n : ℕ) (r : RelTree) → IsLateLinear (known_in how n) r → IsLinearBy how n r
linear_behind Plain n r h = linear_relation r h
linear_behind Late n r h = h

module _ (known : ℕ) where
  abbrev pub IsReadingOver : List Base → List Base → Reading → Type 0
  IsReadingOver scope bs (relation r) = (bs ≡ one Truth) × IsTyped scope r × IsLateLinear known r
  IsReadingOver scope bs (term t) = (bs ≡ one Int) × IsTypedTerm scope t × IsLateLinearTerm known t
  IsReadingOver scope bs (set s) = (bs ≡ one Set) × IsTypedSet scope s
  IsReadingOver scope bs (not_linear p) = Unit {0}

  pub bent_at_reads : (scope bs : List Base) (o : Option Place) (p : Place) → IsReadingOver scope bs (not_linear_at o p)
  bent_at_reads scope bs (Some q) p = tt
  bent_at_reads scope bs None p = tt

  pub on_relation_reads : (scope bs gs : List Base) (f : RelTree → Reading) (p : Place) (r : Reading) → IsReadingOver scope bs r →
      ((a : RelTree) → IsTyped scope a → IsLateLinear known a → IsReadingOver scope gs (f a)) → IsReadingOver scope gs (on_relation f p r)
  on_relation_reads scope bs gs f p (relation a) h k = k a h.1 h.2
  on_relation_reads scope bs gs f p (term t) h k = tt
  on_relation_reads scope bs gs f p (set s) h k = tt
  on_relation_reads scope bs gs f p (not_linear q) h k = tt

  pub on_term_reads : (scope bs gs : List Base) (f : TermTree → Reading) (p : Place) (r : Reading) → IsReadingOver scope bs r →
      ((a : TermTree) → IsTypedTerm scope a → IsLateLinearTerm known a → IsReadingOver scope gs (f a)) → IsReadingOver scope gs (on_term f p r)
  on_term_reads scope bs gs f p (relation a) h k = tt
  on_term_reads scope bs gs f p (term t) h k = k t h.1 h.2
  on_term_reads scope bs gs f p (set s) h k = tt
  on_term_reads scope bs gs f p (not_linear q) h k = tt

  pub on_set_reads : (scope bs gs : List Base) (f : SetTree → Reading) (p : Place) (r : Reading) → IsReadingOver scope bs r →
      ((a : SetTree) → IsTypedSet scope a → IsReadingOver scope gs (f a)) → IsReadingOver scope gs (on_set f p r)
  on_set_reads scope bs gs f p (relation a) h k = tt
  on_set_reads scope bs gs f p (term t) h k = tt
  on_set_reads scope bs gs f p (set s) h k = k s h.1
  on_set_reads scope bs gs f p (not_linear q) h k = tt

  pub truth_reads : (scope : List Base) (t : Bool) → IsReadingOver scope (one Truth) (truth_reading t)
  truth_reads scope true = (refl, tt, tt)
  truth_reads scope false = (refl, tt, tt)

  pub variable_reads : (scope : List Base) (p : Place) (b : Base) (x : ℕ) → slice_get scope x ≡ Some b → IsReadingOver scope (one b) (variable_reading p b x)
  variable_reads scope p Int x e = (refl, e, tt)
  variable_reads scope p Truth x e = tt
  variable_reads scope p Set x e = (refl, e)

  by_fixed : (scope : List Base) (p : Place) (a b : TermTree) (fixed : Bool) →
      (is_fixed_below known a || is_fixed_below known b) ≡ fixed → IsTypedTerm scope a → IsLateLinearTerm known a → IsTypedTerm scope b →
      IsLateLinearTerm known b → IsReadingOver scope (one Int)
      (product_reading known p a b)
  by_fixed scope p a b true e ta la tb lb = rw e (refl, (ta, tb), (la, lb, e))
  by_fixed scope p a b false e ta la tb lb = rw e tt

  pub sets_reads : (scope : List Base) (order : Order) (p : Place) (a b : SetTree) → IsTypedSet scope a → IsTypedSet scope b → IsReadingOver scope (one Truth)
      (sets_reading order p a b)
  sets_reads scope Eq p a b ta tb = (refl, (ta, tb), tt)
  sets_reads scope Ne p a b ta tb = (refl, (ta, tb), tt)
  sets_reads scope Lt p a b ta tb = tt
  sets_reads scope Le p a b ta tb = tt
  sets_reads scope Gt p a b ta tb = tt
  sets_reads scope Ge p a b ta tb = tt

  pub compare_reads : (scope bs cs : List Base) (order : Order) (p : Place)
      (left right : Reading) → IsReadingOver scope bs left → IsReadingOver scope cs right → IsReadingOver scope (one Truth) (compare_reading order p left right)
  compare_reads scope bs cs order p (relation r) right h k = bent_at_reads scope (one Truth) (first_nonlinear right) p
  compare_reads scope bs cs order p (term a) right h k = on_term_reads scope cs (one Truth) _ p right k (λ b tb lb. (refl, (h.1, tb), (h.2, lb)))
  compare_reads scope bs cs order p (set a) right h k = on_set_reads scope cs (one Truth) _ p right k (λ b tb. sets_reads scope order p a b h.1 tb)
  compare_reads scope bs cs order p (not_linear q) right h k = tt

  pub binary_reads : (scope bs cs : List Base) (op : BinOp) (p : Place) (left right : Reading) → IsReadingOver scope bs left → IsReadingOver scope cs right →
      IsReadingOver scope
      (one (result_of op)) (binary_reading known op p left right)
  binary_reads scope bs cs Add p left right h k = on_term_reads scope bs (one Int) _ p left h (λ a ta la. on_term_reads scope cs (one Int) _ p right k
      (λ b tb lb. (refl, (ta, tb), (la, lb))))
  binary_reads scope bs cs Sub p left right h k = on_term_reads scope bs (one Int) _ p left h (λ a ta la. on_term_reads scope cs (one Int) _ p right k
      (λ b tb lb. (refl, (ta, tb), (la, lb))))
  binary_reads scope bs cs Mul p left right h k = on_term_reads scope bs (one Int) _ p left h (λ a ta la. on_term_reads scope cs (one Int) _ p right k
      (λ b tb lb. by_fixed scope p a b (is_fixed_below known a || is_fixed_below known b) refl ta la tb lb))
  binary_reads scope bs cs And p left right h k = on_relation_reads scope bs (one Truth) _ p left h (λ a ta la. on_relation_reads scope cs
      (one Truth) _ p right k (λ b tb lb. (refl, (ta, tb), (la, lb))))
  binary_reads scope bs cs Or p left right h k = on_relation_reads scope bs (one Truth) _ p left h (λ a ta la. on_relation_reads scope cs
      (one Truth) _ p right k (λ b tb lb. (refl, (ta, tb), (la, lb))))
  binary_reads scope bs cs Union p left right h k = on_set_reads scope bs (one Set) _ p left h (λ a ta. on_set_reads scope cs (one Set) _ p right k (λ b tb.
      (refl, (ta, tb))))
  binary_reads scope bs cs Inter p left right h k = on_set_reads scope bs (one Set) _ p left h (λ a ta. on_set_reads scope cs (one Set) _ p right k (λ b tb.
      (refl, (ta, tb))))
  binary_reads scope bs cs Diff p left right h k = on_set_reads scope bs (one Set) _ p left h (λ a ta. on_set_reads scope cs (one Set) _ p right k (λ b tb.
      (refl, (ta, tb))))
  binary_reads scope bs cs Subset p left right h k = on_set_reads scope bs (one Truth) _ p left h (λ a ta. on_set_reads scope cs (one Truth) _ p right k
      (λ b tb. (refl, (ta, tb), tt)))
  binary_reads scope bs cs Implies p left right h k = bent_at_reads scope (one Truth) _ p
  binary_reads scope bs cs (Compare order) p left right h k = compare_reads scope bs cs order p left right h k
