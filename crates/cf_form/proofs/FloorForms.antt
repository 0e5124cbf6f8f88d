-- Floors of expressions, by those of their parts.
use Rattle.std.proofs.Common.{◌≡◌, ℕ, zero, suc, ◌+◌, ◌≤◌, ◌<◌, ℤ, pos, Bool, true, false, List, [], ◌∷◌, ◌++◌, length, map, get_or, sym, subst, arith}
use Rattle.std.specs.Prelude.{slice_index_or}
use Rattle.cf_tree.specs.declared.base.Base.{Base}
use Rattle.cf_tree.specs.declared.base.Base.TheVariants.{Int, Bool as OfTruth, Set}
use Rattle.cf_tree.specs.declared.base.Order.{Order}
use Rattle.cf_tree.specs.declared.base.Order.TheVariants.{Eq, Ne, Lt, Le, Gt, Ge}
use Rattle.cf_form.specs.declared.floor.Floor.{Floor}
use Rattle.cf_form.specs.declared.floor.Floor.TheVariants.{Number, Truth}
use Rattle.cf_tree.specs.declared.raw.BinOp.{BinOp}
use Rattle.cf_tree.specs.declared.raw.BinOp.TheVariants.{Add, Sub, Mul, And, Or, Implies, Compare}
use Rattle.cf_tree.specs.ExprTree.{ExprTree, expr_lit, expr_truth, expr_var, expr_neg, expr_not, expr_abs, expr_binary, expr_divides, expr_div, expr_mod, expr_if, expr_let}
use Rattle.cf_form.specs.Expansion.{Part, of_number, of_set, of_truth, number_in, truth_in, first_part, truth_part, variables_from, Calls, expanded, binary_part, if_part, if_parts}
use Rattle.cf_form.specs.Floor.{HasNumber, HasTruth, Stands, AreFloors, IsOne, HasFloor, HaveFloor, base_floor}
use Rattle.cf_form.specs.Wide.{wide_lit, wide_neg, wide_not, wide_abs, wide_div, wide_mod, wide_divides}
use Rattle.cf_form.proofs.FloorLaws.{lit_floor, var_floor, neg_floor, abs_floor, div_floor, mod_floor, divides_floor, add_floor, sub_floor, mul_floor, compare_floor, true_floor, false_floor, truth_floor, not_floor, and_floor, or_floor, implies_floor, same_floor, other_floor, if_floor}

-- what holds of each part with the floor holds of the parts that are one
pub one_by : (X : List Part → Type 0) (f : Floor) (ps : List Part) → IsOne f ps → ((p : Part) → Stands f p → X (p ∷ [])) → X ps
one_by X f [] h k = absurd h
one_by X f (p ∷ []) h k = k p h
one_by X f (p ∷ q ∷ ps) h k = absurd h

-- ---- parts
neg_part : (w : ℕ) (p : Part) → Stands (Number w) p → Stands (Number w) (of_number (wide_neg (number_in p)))
neg_part w (of_number t) h = neg_floor w t h
neg_part w (of_set s) h = absurd h
neg_part w (of_truth r) h = absurd h

abs_part : (w : ℕ) (p : Part) → Stands (Number w) p → Stands (Number w) (of_number (wide_abs (number_in p)))
abs_part w (of_number t) h = abs_floor w t h
abs_part w (of_set s) h = absurd h
abs_part w (of_truth r) h = absurd h

div_part : (k : ℤ) (w : ℕ) (p : Part) → Stands (Number w) p → Stands (Number w) (of_number (wide_div (number_in p) k))
div_part k w (of_number t) h = div_floor w t h k
div_part k w (of_set s) h = absurd h
div_part k w (of_truth r) h = absurd h

mod_part : (k : ℤ) (w : ℕ) (p : Part) → Stands (Number w) p → Stands (Number w) (of_number (wide_mod (number_in p) k))
mod_part k w (of_number t) h = mod_floor w t h k
mod_part k w (of_set s) h = absurd h
mod_part k w (of_truth r) h = absurd h

divides_part : (k : ℤ) (w : ℕ) (p : Part) → Stands (Number w) p → Stands (Truth w) (of_truth (wide_divides k (number_in p)))
divides_part k w (of_number t) h = divides_floor w t h k
divides_part k w (of_set s) h = absurd h
divides_part k w (of_truth r) h = absurd h

not_part : (w : ℕ) (p : Part) → Stands (Truth w) p → Stands (Truth w) (of_truth (wide_not (truth_in p)))
not_part w (of_number t) h = absurd h
not_part w (of_set s) h = absurd h
not_part w (of_truth r) h = not_floor w r h

-- ---- operations with two sides
-- of two parts that are numbers
numbers : (X : Part → Part → Type 0) (v w : ℕ) → ((s t : _) → HasNumber v s → HasNumber w t → X (of_number s) (of_number t)) → (p q : Part) →
    Stands (Number v) p → Stands (Number w) q → X p q
numbers X v w k (of_number s) (of_number t) h g = k s t h g
numbers X v w k (of_number s) (of_set t) h g = absurd g
numbers X v w k (of_number s) (of_truth t) h g = absurd g
numbers X v w k (of_set s) q h g = absurd h
numbers X v w k (of_truth s) q h g = absurd h

-- and of two that are relations
relations : (X : Part → Part → Type 0) (v w : ℕ) → ((s t : _) → HasTruth v s → HasTruth w t → X (of_truth s) (of_truth t)) → (p q : Part) →
    Stands (Truth v) p → Stands (Truth w) q → X p q
relations X v w k (of_truth s) (of_truth t) h g = k s t h g
relations X v w k (of_truth s) (of_set t) h g = absurd g
relations X v w k (of_truth s) (of_number t) h g = absurd g
relations X v w k (of_set s) q h g = absurd h
relations X v w k (of_number s) q h g = absurd h

module _ (n v w : ℕ) (l : n ≤ v + w) where
  pub added : HaveFloor Add (Number v) (Number w) (Number n)
  added = record { stands = numbers (λ p q. Stands (Number n) (binary_part Add p q)) v w (λ s t h g. add_floor n v w s t l h g) }

  pub taken : HaveFloor Sub (Number v) (Number w) (Number n)
  taken = record { stands = numbers (λ p q. Stands (Number n) (binary_part Sub p q)) v w (λ s t h g. sub_floor n v w s t l h g) }

  pub multiplied : HaveFloor Mul (Number v) (Number w) (Number n)
  multiplied = record { stands = numbers (λ p q. Stands (Number n) (binary_part Mul p q)) v w (λ s t h g. mul_floor n v w s t l h g) }

  pub compared : (o : Order) → HaveFloor (Compare o) (Number v) (Number w) (Truth n)
  compared o = record { stands = numbers (λ p q. Stands (Truth n) (binary_part (Compare o) p q)) v w (λ s t h g. compare_floor n v w s t l h g o) }

  pub both : HaveFloor And (Truth v) (Truth w) (Truth n)
  both = record { stands = relations (λ p q. Stands (Truth n) (binary_part And p q)) v w (λ s t h g. and_floor n v w s t l h g) }

  pub either : HaveFloor Or (Truth v) (Truth w) (Truth n)
  either = record { stands = relations (λ p q. Stands (Truth n) (binary_part Or p q)) v w (λ s t h g. or_floor n v w s t l h g) }

  pub implied : HaveFloor Implies (Truth v) (Truth w) (Truth n)
  implied = record { stands = relations (λ p q. Stands (Truth n) (binary_part Implies p q)) v w (λ s t h g. implies_floor n v w s t l h g) }

module _ (n v w : ℕ) (l : n ≤ v + w + v + w) where
  pub matched : (o : Order) → HaveFloor (Compare o) (Truth v) (Truth w) (Truth n)
  matched Eq = record { stands = relations (λ p q. Stands (Truth n) (binary_part (Compare Eq) p q)) v w (λ s t h g. same_floor n v w s t l h g) }
  matched Ne = record { stands = relations (λ p q. Stands (Truth n) (binary_part (Compare Ne) p q)) v w (λ s t h g. other_floor n v w s t l h g) }
  matched Lt = record { stands = relations (λ p q. Stands (Truth n) (binary_part (Compare Lt) p q)) v w (λ s t h g. same_floor n v w s t l h g) }
  matched Le = record { stands = relations (λ p q. Stands (Truth n) (binary_part (Compare Le) p q)) v w (λ s t h g. same_floor n v w s t l h g) }
  matched Gt = record { stands = relations (λ p q. Stands (Truth n) (binary_part (Compare Gt) p q)) v w (λ s t h g. same_floor n v w s t l h g) }
  matched Ge = record { stands = relations (λ p q. Stands (Truth n) (binary_part (Compare Ge) p q)) v w (λ s t h g. same_floor n v w s t l h g) }

-- ---- expressions
truth_stands : (t : Bool) → Stands (Truth 1) (truth_part t)
truth_stands true = true_floor
truth_stands false = false_floor

floors_joined : (fs : List Floor) (ps : List Part) (f : Floor) (p : Part) → AreFloors fs ps → Stands f p → AreFloors (fs ++ f ∷ []) (ps ++ p ∷ [])
floors_joined [] [] f p h g = (g, tt)
floors_joined [] (q ∷ ps) f p h g = absurd h
floors_joined (e ∷ fs) [] f p h g = absurd h
floors_joined (e ∷ fs) (q ∷ ps) f p h g = (h.0, floors_joined fs ps f p h.1 g)

floor_at : (fs : List Floor) (ps : List Part) (x : ℕ) (d : Floor) (e : Part) → AreFloors fs ps → x < length fs → Stands (get_or fs x d) (slice_index_or ps x e)
floor_at [] ps x d e h l = absurd (omega (arith, l))
floor_at (f ∷ fs) [] x d e h l = absurd h
floor_at (f ∷ fs) (p ∷ ps) zero d e h l = h.0
floor_at (f ∷ fs) (p ∷ ps) (suc x) d e h l = floor_at fs ps x d e h.1 (omega (arith, l))

module _ (calls : Calls) (env : List Floor) where
  pub lit_has : (k : ℤ) → HasFloor calls env (expr_lit k) (Number 1)
  lit_has k = record { stands = λ parts h. lit_floor k }

  pub truth_has : (t : Bool) → HasFloor calls env (expr_truth t) (Truth 1)
  truth_has t = record { stands = λ parts h. truth_stands t }

  pub var_has : (x : ℕ) (f : Floor) → x < length env → f ≡ get_or env x f → HasFloor calls env (expr_var x) f
  var_has x f l e = record {
    stands = λ parts h. subst (λ g. Stands g (slice_index_or parts x (of_number (wide_lit (pos 0))))) (sym e)
        (floor_at env parts x f (of_number (wide_lit (pos 0))) h l);
  }

  -- of an operand whose floor f is of a number
  module _ (f : Floor) (w : ℕ) (a : ExprTree) (h : HasFloor calls env a f) (e : f ≡ Number w) where
    number_by : (g : Floor) (to : List Part → List Part) → ((p : Part) → Stands (Number w) p → IsOne g (to (p ∷ []))) → (parts : List Part) →
        AreFloors env parts → IsOne g (to (expanded calls parts a))
    number_by g to law parts k =
        one_by (λ ps. IsOne g (to ps)) (Number w) (expanded calls parts a) (subst (λ x. IsOne x (expanded calls parts a)) e (h.stands parts k)) law

    pub neg_has : HasFloor calls env (expr_neg a) (Number w)
    neg_has = record { stands = number_by (Number w) (λ ps. of_number (wide_neg (number_in (first_part ps))) ∷ []) (neg_part w) }

    pub abs_has : HasFloor calls env (expr_abs a) (Number w)
    abs_has = record { stands = number_by (Number w) (λ ps. of_number (wide_abs (number_in (first_part ps))) ∷ []) (abs_part w) }

    pub div_has : (j : ℤ) → HasFloor calls env (expr_div a j) (Number w)
    div_has j = record { stands = number_by (Number w) (λ ps. of_number (wide_div (number_in (first_part ps)) j) ∷ []) (div_part j w) }

    pub mod_has : (j : ℤ) → HasFloor calls env (expr_mod a j) (Number w)
    mod_has j = record { stands = number_by (Number w) (λ ps. of_number (wide_mod (number_in (first_part ps)) j) ∷ []) (mod_part j w) }

    pub divides_has : (j : ℤ) → HasFloor calls env (expr_divides j a) (Truth w)
    divides_has j = record { stands = number_by (Truth w) (λ ps. of_truth (wide_divides j (number_in (first_part ps))) ∷ []) (divides_part j w) }

  pub not_has : (f : Floor) (w : ℕ) (a : ExprTree) → HasFloor calls env a f → f ≡ Truth w → HasFloor calls env (expr_not a) (Truth w)
  not_has f w a h e = record {
    stands = λ parts k. one_by (λ ps. IsOne (Truth w) (of_truth (wide_not (truth_in (first_part ps))) ∷ [])) (Truth w)
        (expanded calls parts a) (subst (λ x. IsOne x (expanded calls parts a)) e (h.stands parts k)) (not_part w);
  }

  pub binary_has : (op : BinOp) (a b : ExprTree) (f g n : Floor) → HasFloor calls env a f → HasFloor calls env b g → HaveFloor op f g n →
      HasFloor calls env (expr_binary op a b) n
  binary_has op a b f g n h k law = record {
    stands = λ parts s.
        one_by (λ ps. IsOne n (binary_part op (first_part ps) (first_part (expanded calls parts b)) ∷ [])) f (expanded calls parts a) (h.stands parts s)
        (λ p u. one_by (λ qs. IsOne n (binary_part op p (first_part qs) ∷ [])) g (expanded calls parts b) (k.stands parts s) (λ q v. law.stands p q u v));
  }

  pub let_has : (n : ℕ) (a b : ExprTree) (f g : Floor) (inner : List Floor) → HasFloor calls env a f → HasFloor calls inner b g → inner ≡ env ++ f ∷ [] →
      HasFloor calls env (expr_let n a b) g
  let_has n a b f g inner h m e = let k : HasFloor calls (env ++ f ∷ []) b g = subst (λ fs. HasFloor calls fs b g) e m in record {
    stands = λ parts s.
        one_by (λ ps. IsOne g (expanded calls (parts ++ ps) b)) f (expanded calls parts a) (h.stands parts s)
        (λ p u. k.stands (parts ++ p ∷ []) (floors_joined env parts f p s u));
  }

  pub if_has : (n u v w : ℕ) (f g i : Floor) (t a b : ExprTree) → HasFloor calls env t f → HasFloor calls env a g → HasFloor calls env b i → f ≡ Truth u →
      g ≡ Truth v → i ≡ Truth w → n ≤ u + v + u + w → HasFloor calls env (expr_if t a b) (Truth n)
  if_has n u v w f g i t a b h0 k0 m0 ef eg ei l =
      let h : HasFloor calls env t (Truth u) = subst (HasFloor calls env t) ef h0 in
      let k : HasFloor calls env a (Truth v) = subst (HasFloor calls env a) eg k0 in
      let m : HasFloor calls env b (Truth w) = subst (HasFloor calls env b) ei m0 in record {
        stands = λ parts s.
            one_by (λ ts. IsOne (Truth n) (if_parts (truth_in (first_part ts)) (expanded calls parts a) (expanded calls parts b))) (Truth u)
            (expanded calls parts t) (h.stands parts s)
            (λ c x. one_by (λ ps. IsOne (Truth n) (if_parts (truth_in c) ps (expanded calls parts b))) (Truth v) (expanded calls parts a) (k.stands parts s)
            (λ p y. one_by (λ qs. IsOne (Truth n) (if_parts (truth_in c) (p ∷ []) qs)) (Truth w) (expanded calls parts b) (m.stands parts s)
            (λ q z. if_stands c p q x y z)));
      }
    where
      if_stands : (c p q : Part) → Stands (Truth u) c → Stands (Truth v) p → Stands (Truth w) q → Stands (Truth n) (if_part (truth_in c) p q)
      if_stands (of_truth c) (of_truth p) (of_truth q) x y z = if_floor n u v w c p q l x y z
      if_stands (of_truth c) (of_truth p) (of_number q) x y z = absurd z
      if_stands (of_truth c) (of_truth p) (of_set q) x y z = absurd z
      if_stands (of_truth c) (of_number p) q x y z = absurd y
      if_stands (of_truth c) (of_set p) q x y z = absurd y
      if_stands (of_number c) p q x y z = absurd x
      if_stands (of_set c) p q x y z = absurd x

-- ---- variables
var_stands : (b : Base) (x : ℕ) → AreFloors (base_floor b ∷ []) (variables_from x (b ∷ []))
var_stands Int x = (var_floor x, tt)
var_stands OfTruth x = (truth_floor x, tt)
var_stands Set x = (tt, tt)

pub variables_stand : (x : ℕ) (bs : List Base) → AreFloors (map base_floor bs) (variables_from x bs)
variables_stand x [] = tt
variables_stand x (b ∷ bs) = ((var_stands b x).0, variables_stand (suc x) bs)
