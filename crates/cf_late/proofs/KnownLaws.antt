-- The relation of a choose whose scope is known: its solutions, its types and its products.
use Rattle.std.proofs.Common.{◌≡◌, ◌↔◌, ℕ, zero, suc, pos, List, [], ◌∷◌, ◌++◌, length, refl, sym, ap, inl, inr, ⊎_elim, arith}
use Rattle.std.specs.Prelude.{Bool, true, false, nat_lt, if◌then◌else◌}
use Rattle.std.proofs.lemmas.Bool.{ltb-true}
use Rattle.std.proofs.Math.ListN.{get_or-append}
use Rattle.cf_num.specs.Limit.{IsWithin}
use Rattle.cf_tree.specs.declared.base.Base.{Base}
use Rattle.cf_tree.specs.Relation.{val, Holds, is_fixed, IsLinearTerm, IsTypedTerm, IsTyped}
use Rattle.cf_tree.specs.RelTree.{TermTree, term_lit, term_var, term_card, term_neg, term_add, term_sub, term_mul, term_div, term_mod, term_abs, RelTree, rel_true, rel_false, rel_compare, rel_same_set, rel_other_set, rel_subset, rel_divides, rel_and, rel_or, rel_not}
use Rattle.cf_tree.specs.Values.{Value, number, number_of, value_at}
use Rattle.cf_tree.proofs.LeavesLaws.{set_itself}
use Rattle.cf_late.specs.At.{variable_known, term_known, rel_known}
use Rattle.cf_late.specs.Fitting.{AreFit}
use Rattle.cf_program.specs.LateLinear.{is_fixed_below, IsLateLinearTerm}
use Rattle.cf_late.specs.Laws.{KnowingKeepsSolutions, KnowingKeepsTypes, KnowingIsLinear}

-- a number of fit values, 0 where none stands
pub fit_at : (vs : List Value) (x : ℕ) → AreFit vs → IsWithin (number_of (value_at vs x))
fit_at [] x h = omega arith
fit_at (v ∷ vs) zero h = h.0
fit_at (v ∷ vs) (suc x) h = fit_at vs x h.1

-- ---- solutions
variable_val : (x : ℕ) (env xs : List Value) → val (variable_known (length env) x env) (env ++ xs) ≡ number_of (value_at (env ++ xs) x)
variable_val x env xs = by (nat_lt x (length env)) refl
  where
    by : (b : Bool) → nat_lt x (length env) ≡ b →
        val (if b then term_lit (number_of (value_at env x)) else term_var x) (env ++ xs) ≡ number_of (value_at (env ++ xs) x)
    by true e = ap number_of (sym (get_or-append env xs (number (pos 0)) x (ltb-true x (length env) e)))
    by false e = refl

known_val : (t : TermTree) (env xs : List Value) → val (term_known (length env) t env) (env ++ xs) ≡ val t (env ++ xs)
known_val (term_lit k) env xs = refl
known_val (term_var x) env xs = variable_val x env xs
known_val (term_card s) env xs = rw (set_itself s) refl
known_val (term_neg a) env xs = rw (known_val a env xs) refl
known_val (term_add a b) env xs = rw (known_val a env xs, known_val b env xs) refl
known_val (term_sub a b) env xs = rw (known_val a env xs, known_val b env xs) refl
known_val (term_mul a b) env xs = rw (known_val a env xs, known_val b env xs) refl
known_val (term_div a k) env xs = rw (known_val a env xs) refl
known_val (term_mod a k) env xs = rw (known_val a env xs) refl
known_val (term_abs a) env xs = rw (known_val a env xs) refl

known_holds : (rel : RelTree) (env xs : List Value) → Holds (rel_known (length env) rel env) (env ++ xs) ↔ Holds rel (env ++ xs)
known_holds rel_true env xs = ((λ h. h), λ h. h)
known_holds rel_false env xs = ((λ h. h), λ h. h)
known_holds (rel_compare o a b) env xs = rw (known_val a env xs, known_val b env xs) ((λ h. h), λ h. h)
known_holds (rel_same_set a b) env xs = rw (set_itself a, set_itself b) ((λ h. h), λ h. h)
known_holds (rel_other_set a b) env xs = rw (set_itself a, set_itself b) ((λ h. h), λ h. h)
known_holds (rel_subset a b) env xs = rw (set_itself a, set_itself b) ((λ h. h), λ h. h)
known_holds (rel_divides k t) env xs = rw (known_val t env xs) ((λ h. h), λ h. h)
known_holds (rel_and a b) env xs =
    let p = known_holds a env xs in
    let q = known_holds b env xs in
    ((λ h. (p.0 h.0, q.0 h.1)), λ h. (p.1 h.0, q.1 h.1))
known_holds (rel_or a b) env xs =
    let p = known_holds a env xs in
    let q = known_holds b env xs in
    ((λ h. ⊎_elim (λ x. inl (p.0 x)) (λ y. inr (q.0 y)) h), λ h. ⊎_elim (λ x. inl (p.1 x)) (λ y. inr (q.1 y)) h)
known_holds (rel_not a) env xs = let p = known_holds a env xs in ((λ h x. h (p.1 x)), λ h x. h (p.0 x))

pub knowing_keeps_solutions : KnowingKeepsSolutions
knowing_keeps_solutions outputs rel env xs =
    let p = known_holds rel env xs in
    ((λ s. (s.0, p.0 s.1)), λ s. (s.0, p.1 s.1))

-- ---- types
module _ (n : ℕ) (bases : List Base) (env : List Value) (fit : AreFit env) where
  variable_typed : (x : ℕ) (b : Bool) → IsTypedTerm bases (term_var x) → IsTypedTerm bases (if b then term_lit (number_of (value_at env x)) else term_var x)
  variable_typed x true h = fit_at env x fit
  variable_typed x false h = h

  term_typed : (t : TermTree) → IsTypedTerm bases t → IsTypedTerm bases (term_known n t env)
  term_typed (term_lit k) h = h
  term_typed (term_var x) h = variable_typed x (nat_lt x n) h
  term_typed (term_card s) h = rw (set_itself s) h
  term_typed (term_neg a) h = term_typed a h
  term_typed (term_add a b) h = (term_typed a h.0, term_typed b h.1)
  term_typed (term_sub a b) h = (term_typed a h.0, term_typed b h.1)
  term_typed (term_mul a b) h = (term_typed a h.0, term_typed b h.1)
  term_typed (term_div a k) h = (term_typed a h.0, h.1)
  term_typed (term_mod a k) h = (term_typed a h.0, h.1)
  term_typed (term_abs a) h = term_typed a h

  pub rel_typed : (rel : RelTree) → IsTyped bases rel → IsTyped bases (rel_known n rel env)
  rel_typed rel_true h = tt
  rel_typed rel_false h = tt
  rel_typed (rel_compare o a b) h = (term_typed a h.0, term_typed b h.1)
  rel_typed (rel_same_set a b) h = rw (set_itself a, set_itself b) h
  rel_typed (rel_other_set a b) h = rw (set_itself a, set_itself b) h
  rel_typed (rel_subset a b) h = rw (set_itself a, set_itself b) h
  rel_typed (rel_divides k t) h = (h.0, term_typed t h.1)
  rel_typed (rel_and a b) h = (rel_typed a h.0, rel_typed b h.1)
  rel_typed (rel_or a b) h = (rel_typed a h.0, rel_typed b h.1)
  rel_typed (rel_not a) h = rel_typed a h

pub knowing_keeps_types : KnowingKeepsTypes
knowing_keeps_types n bases rel env fit h = rel_typed n bases env fit rel h

-- ---- products
variable_fixed : (x : ℕ) (env : List Value) (b : Bool) → is_fixed (if b then term_lit (number_of (value_at env x)) else term_var x) ≡ b
variable_fixed x env true = refl
variable_fixed x env false = refl

known_fixed : (n : ℕ) (t : TermTree) (env : List Value) → is_fixed (term_known n t env) ≡ is_fixed_below n t
known_fixed n (term_lit k) env = refl
known_fixed n (term_var x) env = variable_fixed x env (nat_lt x n)
known_fixed n (term_card s) env = refl
known_fixed n (term_neg a) env = known_fixed n a env
known_fixed n (term_add a b) env = rw (known_fixed n a env, known_fixed n b env) refl
known_fixed n (term_sub a b) env = rw (known_fixed n a env, known_fixed n b env) refl
known_fixed n (term_mul a b) env = rw (known_fixed n a env, known_fixed n b env) refl
known_fixed n (term_div a k) env = refl
known_fixed n (term_mod a k) env = refl
known_fixed n (term_abs a) env = known_fixed n a env

term_linear : (n : ℕ) (t : TermTree) (env : List Value) → IsLateLinearTerm n t → IsLinearTerm (term_known n t env)
term_linear n (term_lit k) env h = tt
term_linear n (term_var x) env h = by (nat_lt x n)
  where
    by : (b : Bool) → IsLinearTerm (if b then term_lit (number_of (value_at env x)) else term_var x)
    by true = tt
    by false = tt
term_linear n (term_card s) env h = tt
term_linear n (term_neg a) env h = term_linear n a env h
term_linear n (term_add a b) env h = (term_linear n a env h.0, term_linear n b env h.1)
term_linear n (term_sub a b) env h = (term_linear n a env h.0, term_linear n b env h.1)
term_linear n (term_mul a b) env h =
    (term_linear n a env h.0, term_linear n b env h.1, rw (known_fixed n a env, known_fixed n b env) h.2)
term_linear n (term_div a k) env h = term_linear n a env h
term_linear n (term_mod a k) env h = term_linear n a env h
term_linear n (term_abs a) env h = term_linear n a env h

pub knowing_is_linear : KnowingIsLinear
knowing_is_linear n rel_true env h = tt
knowing_is_linear n rel_false env h = tt
knowing_is_linear n (rel_compare o a b) env h = (term_linear n a env h.0, term_linear n b env h.1)
knowing_is_linear n (rel_same_set a b) env h = tt
knowing_is_linear n (rel_other_set a b) env h = tt
knowing_is_linear n (rel_subset a b) env h = tt
knowing_is_linear n (rel_divides k t) env h = term_linear n t env h
knowing_is_linear n (rel_and a b) env h = (knowing_is_linear n a env h.0, knowing_is_linear n b env h.1)
knowing_is_linear n (rel_or a b) env h = (knowing_is_linear n a env h.0, knowing_is_linear n b env h.1)
knowing_is_linear n (rel_not a) env h = knowing_is_linear n a env h
