-- What joined bounds mean.
use Rattle.std.proofs.Common.{◌≡◌, ◌⊎◌, ℕ, zero, suc, ℤ, pos, negsuc, neg_ℤ, ◌+ℤ◌, Bool, true, false, List, Option, Some, None, refl, sym, subst, inl, inr, ◌∙◌, arith}
use Rattle.std.specs.Prelude.{◌↔◌, ◌-ℤ◌, ◌≤ℤ◌, ◌<ℤ◌, int_lt, int_le, if◌then◌else◌}
use Rattle.std.specs.Ordering.{int_eq}
use Rattle.std.proofs.lemmas.Int.{ints}
use Rattle.cf_tree.specs.declared.base.Order.{Order}
use Rattle.cf_tree.specs.declared.base.Order.TheVariants.{Eq, Ne, Lt, Le, Gt, Ge}
use Rattle.cf_tree.specs.Relation.{val, Holds}
use Rattle.cf_tree.specs.RelTree.{TermTree, term_lit, term_var, term_card, term_neg, term_add, term_sub, term_mul, term_div, term_mod, term_abs, RelTree, rel_true, rel_false, rel_compare, rel_same_set, rel_other_set, rel_subset, rel_divides, rel_and, rel_or, rel_not}
use Rattle.cf_tree.specs.Values.{Value}
use Rattle.cf_tree.proofs.SetLemmas.{eq_is, eq_differs, lt_is, lt_not}
use Rattle.cf_simple.specs.Lines.{same_term}
use Rattle.cf_simple.specs.Quotients.{literal}
use Rattle.cf_simple.specs.Bounds.{greater, lesser, Bound, no_bound, from, up_to, literal_of, from_of, up_to_of, bound_of, if_same, between, same_between, both_bounds, outside, same_outside, either_bound}
use Rattle.cf_simple.proofs.LineLaws.{literal_value}
use Rattle.cf_simple.proofs.SameLaws.{same_value}

-- what a bound means, and that of a relation is so
abbrev pub IsBound : Bound → List Value → Type 0 → Type 0
IsBound no_bound env P = Unit {0}
IsBound (from t c) env P = P ↔ (c ≤ℤ val t env)
IsBound (up_to t c) env P = P ↔ (val t env ≤ℤ c)

literal_is : (t : TermTree) (c : ℤ) (env : List Value) → literal_of t ≡ Some c → val t env ≡ c
literal_is (term_lit k) c env e = cc
literal_is (term_var x) c env e = absurd (cc)
literal_is (term_card s) c env e = absurd (cc)
literal_is (term_neg (term_lit k)) c env e = cc
literal_is (term_neg (term_var x)) c env e = absurd (cc)
literal_is (term_neg (term_card s)) c env e = absurd (cc)
literal_is (term_neg (term_neg a)) c env e = absurd (cc)
literal_is (term_neg (term_add a b)) c env e = absurd (cc)
literal_is (term_neg (term_sub a b)) c env e = absurd (cc)
literal_is (term_neg (term_mul a b)) c env e = absurd (cc)
literal_is (term_neg (term_div a k)) c env e = absurd (cc)
literal_is (term_neg (term_mod a k)) c env e = absurd (cc)
literal_is (term_neg (term_abs a)) c env e = absurd (cc)
literal_is (term_add a b) c env e = absurd (cc)
literal_is (term_sub a b) c env e = absurd (cc)
literal_is (term_mul a b) c env e = absurd (cc)
literal_is (term_div a k) c env e = absurd (cc)
literal_is (term_mod a k) c env e = absurd (cc)
literal_is (term_abs a) c env e = absurd (cc)

from_is : (t u : TermTree) (env : List Value) (o : Option ℤ) → ((c : ℤ) → o ≡ Some c → val u env ≡ c) → IsBound (from_of t o) env (val u env ≤ℤ val t env)
from_is t u env None h = tt
from_is t u env (Some c) h = rw (h c refl) (λ p. p, λ p. p)

up_to_is : (t u : TermTree) (env : List Value) (o : Option ℤ) → ((c : ℤ) → o ≡ Some c → val u env ≡ c) → IsBound (up_to_of t o) env (val t env ≤ℤ val u env)
up_to_is t u env None h = tt
up_to_is t u env (Some c) h = rw (h c refl) (λ p. p, λ p. p)

pub bound_is : (r : RelTree) (env : List Value) → IsBound (bound_of r) env (Holds r env)
bound_is rel_true env = tt
bound_is rel_false env = tt
bound_is (rel_compare Eq t u) env = tt
bound_is (rel_compare Ne t u) env = tt
bound_is (rel_compare Lt t u) env = tt
bound_is (rel_compare Le t u) env = up_to_is t u env (literal_of u) (λ c e. literal_is u c env e)
bound_is (rel_compare Gt t u) env = tt
bound_is (rel_compare Ge t u) env = from_is t u env (literal_of u) (λ c e. literal_is u c env e)
bound_is (rel_same_set a b) env = tt
bound_is (rel_other_set a b) env = tt
bound_is (rel_subset a b) env = tt
bound_is (rel_divides k t) env = tt
bound_is (rel_and a b) env = tt
bound_is (rel_or a b) env = tt
bound_is (rel_not a) env = tt

-- what is found means this
abbrev pub Means : Option RelTree → List Value → Type 0 → Type 0
Means None env P = Unit {0}
Means (Some r) env P = Holds r env ↔ P

same_means : (t u : TermTree) (r : Option RelTree) (env : List Value) (P : Type 0) → (val t env ≡ val u env → Means r env P) →
    Means (if same_term t u then r else None) env P
same_means t u r env P h = by (same_term t u) refl
  where
    by : (b : Bool) → same_term t u ≡ b → Means (if b then r else None) env P
    by true e = h (same_value t u env e)
    by false e = tt

-- ---- both
between_means : (t : TermTree) (c d : ℤ) (env : List Value) (P : Type 0) → P ↔ ((c ≤ℤ val t env) × (val t env ≤ℤ d)) → Means (between t c d) env P
between_means t c d env P h = by (int_lt d c) (int_eq c d) refl refl
  where
    by : (a b : Bool) → int_lt d c ≡ a → int_eq c d ≡ b →
        Means (if a then Some rel_false else (if b then Some (rel_compare Eq t (literal c)) else None)) env P
    by true b e f = let l = lt_is d c e in (λ p. absurd p, λ p. let k = h.0 p in let i = k.0 in let j = k.1 in absurd (omega (arith, ints, l, i, j)))
    by false true e f =
        let g = eq_is c d f in
        rw (literal_value c env)
        (λ p. h.1 (omega (arith, ints, p), omega (arith, ints, p, g)), λ p. let k = h.0 p in let i = k.0 in let j = k.1 in omega (arith, ints, g, i, j))
    by false false e f = tt

greater_most : (c d x : ℤ) → (greater c d ≤ℤ x) ↔ ((c ≤ℤ x) × (d ≤ℤ x))
greater_most c d x = by (int_lt c d) refl
  where
    by : (b : Bool) → int_lt c d ≡ b → ((if b then d else c) ≤ℤ x) ↔ ((c ≤ℤ x) × (d ≤ℤ x))
    by true e = let l = lt_is c d e in (λ h. (omega (arith, ints, h, l), h), λ h. h.1)
    by false e = let l = lt_not c d e in (λ h. (h, omega (arith, ints, h, l)), λ h. h.0)

lesser_least : (c d x : ℤ) → (x ≤ℤ lesser c d) ↔ ((x ≤ℤ c) × (x ≤ℤ d))
lesser_least c d x = by (int_lt c d) refl
  where
    by : (b : Bool) → int_lt c d ≡ b → (x ≤ℤ (if b then c else d)) ↔ ((x ≤ℤ c) × (x ≤ℤ d))
    by true e = let l = lt_is c d e in (λ h. (h, omega (arith, ints, h, l)), λ h. h.0)
    by false e = let l = lt_not c d e in (λ h. (omega (arith, ints, h, l), h), λ h. h.1)

lesser_some : (c d x : ℤ) → (lesser c d ≤ℤ x) ↔ ((c ≤ℤ x) ⊎ (d ≤ℤ x))
lesser_some c d x = by (int_lt c d) refl
  where
    by : (b : Bool) → int_lt c d ≡ b → ((if b then c else d) ≤ℤ x) ↔ ((c ≤ℤ x) ⊎ (d ≤ℤ x))
    by true e = let l = lt_is c d e in (λ h. inl h, λ h. elim h [ inl i ↦ i | inr i ↦ omega (arith, ints, i, l) ])
    by false e = let l = lt_not c d e in (λ h. inr h, λ h. elim h [ inl i ↦ omega (arith, ints, i, l) | inr i ↦ i ])

greater_some : (c d x : ℤ) → (x ≤ℤ greater c d) ↔ ((x ≤ℤ c) ⊎ (x ≤ℤ d))
greater_some c d x = by (int_lt c d) refl
  where
    by : (b : Bool) → int_lt c d ≡ b → (x ≤ℤ (if b then d else c)) ↔ ((x ≤ℤ c) ⊎ (x ≤ℤ d))
    by true e = let l = lt_is c d e in (λ h. inr h, λ h. elim h [ inl i ↦ omega (arith, ints, i, l) | inr i ↦ i ])
    by false e = let l = lt_not c d e in (λ h. inl h, λ h. elim h [ inl i ↦ i | inr i ↦ omega (arith, ints, i, l) ])

pub both_means : (a b : Bound) (env : List Value) (P Q : Type 0) → IsBound a env P → IsBound b env Q → Means (both_bounds a b) env (P × Q)
both_means (from t c) (from u d) env P Q h k =
    same_means t u (Some (rel_compare Ge t (literal (greater c d)))) env (P × Q)
    (λ e. let g = greater_most c d (val t env) in
    rw (literal_value (greater c d) env)
    (λ p. let q = g.0 p in (h.1 q.0, k.1 (subst (λ z. d ≤ℤ z) e q.1)), λ p. g.1 (h.0 p.0, subst (λ z. d ≤ℤ z) (sym e) (k.0 p.1))))
both_means (up_to t c) (up_to u d) env P Q h k =
    same_means t u (Some (rel_compare Le t (literal (lesser c d)))) env (P × Q)
    (λ e. let g = lesser_least c d (val t env) in
    rw (literal_value (lesser c d) env)
    (λ p. let q = g.0 p in (h.1 q.0, k.1 (subst (λ z. z ≤ℤ d) e q.1)), λ p. g.1 (h.0 p.0, subst (λ z. z ≤ℤ d) (sym e) (k.0 p.1))))
both_means (from t c) (up_to u d) env P Q h k =
    same_means t u (between t c d) env (P × Q)
    (λ e. between_means t c d env (P × Q)
    (λ p. (h.0 p.0, let j = k.0 p.1 in omega (arith, ints, j, e)), λ p. let j = p.1 in (h.1 p.0, k.1 (omega (arith, ints, j, e)))))
both_means (up_to t c) (from u d) env P Q h k =
    same_means t u (between t d c) env (P × Q)
    (λ e. between_means t d c env (P × Q)
    (λ p. (let j = k.0 p.1 in omega (arith, ints, j, e), h.0 p.0), λ p. let j = p.0 in (h.1 p.1, k.1 (omega (arith, ints, j, e)))))
both_means no_bound b env P Q h k = tt
both_means (from t c) no_bound env P Q h k = tt
both_means (up_to t c) no_bound env P Q h k = tt

-- ---- either
on_left : (x c : ℤ) → ((c ≤ℤ x) ⊎ (x <ℤ c))
on_left x c = by (int_lt x c) refl
  where
    by : (b : Bool) → int_lt x c ≡ b → (c ≤ℤ x) ⊎ (x <ℤ c)
    by true e = inr (lt_is x c e)
    by false e = inl (lt_not x c e)

outside_means : (t : TermTree) (c d : ℤ) (env : List Value) (P : Type 0) → P ↔ ((c ≤ℤ val t env) ⊎ (val t env ≤ℤ d)) → Means (outside t c d) env P
outside_means t c d env P h = by (int_le c (d +ℤ pos 1)) (int_eq c (d +ℤ pos 2)) refl refl
  where
    x : ℤ
    x = val t env

    low_enough : int_le c (d +ℤ pos 1) ≡ true → c ≤ℤ (d +ℤ pos 1)
    low_enough e = grind (arith, ints)

    by : (a b : Bool) → int_le c (d +ℤ pos 1) ≡ a → int_eq c (d +ℤ pos 2) ≡ b →
        Means (if a then Some rel_true else (if b then Some (rel_compare Ne t (literal (d +ℤ pos 1))) else None)) env P
    by true b e f =
        let l = low_enough e in
        (λ p. h.1 (elim (on_left x c) [ inl i ↦ inl i | inr i ↦ inr (omega (arith, ints, i, l)) ]), λ p. tt)
    by false true e f =
        let g = eq_is c (d +ℤ pos 2) f in
        rw (literal_value (d +ℤ pos 1) env) (
          λ p. h.1 (elim (on_left x c) [
            | inl i ↦ inl i
            | inr i ↦ elim (on_left d x) [ inl j ↦ inr j | inr j ↦ absurd (p (omega (arith, ints, i, j, g))) ]
          ]),
          λ p q. elim (h.0 p) [ inl i ↦ omega (arith, ints, i, q, g) | inr i ↦ omega (arith, ints, i, q) ],
        )
    by false false e f = tt

pub either_means : (a b : Bound) (env : List Value) (P Q : Type 0) → IsBound a env P → IsBound b env Q → Means (either_bound a b) env (P ⊎ Q)
either_means (from t c) (from u d) env P Q h k =
    same_means t u (Some (rel_compare Ge t (literal (lesser c d)))) env (P ⊎ Q)
    (λ e. let g = lesser_some c d (val t env) in
    rw (literal_value (lesser c d) env) (
      λ p. elim (g.0 p) [ inl i ↦ inl (h.1 i) | inr i ↦ inr (k.1 (subst (λ z. d ≤ℤ z) e i)) ],
      λ p. g.1 (elim p [ inl y ↦ inl (h.0 y) | inr y ↦ inr (subst (λ z. d ≤ℤ z) (sym e) (k.0 y)) ]),
    ))
either_means (up_to t c) (up_to u d) env P Q h k =
    same_means t u (Some (rel_compare Le t (literal (greater c d)))) env (P ⊎ Q)
    (λ e. let g = greater_some c d (val t env) in
    rw (literal_value (greater c d) env) (
      λ p. elim (g.0 p) [ inl i ↦ inl (h.1 i) | inr i ↦ inr (k.1 (subst (λ z. z ≤ℤ d) e i)) ],
      λ p. g.1 (elim p [ inl y ↦ inl (h.0 y) | inr y ↦ inr (subst (λ z. z ≤ℤ d) (sym e) (k.0 y)) ]),
    ))
either_means (from t c) (up_to u d) env P Q h k =
    same_means t u (outside t c d) env (P ⊎ Q)
    (λ e. outside_means t c d env (P ⊎ Q) (
      λ p. elim p [ inl y ↦ inl (h.0 y) | inr y ↦ inr (let i = k.0 y in omega (arith, ints, i, e)) ],
      λ p. elim p [ inl i ↦ inl (h.1 i) | inr i ↦ inr (k.1 (omega (arith, ints, i, e))) ],
    ))
either_means (up_to t c) (from u d) env P Q h k =
    same_means t u (outside t d c) env (P ⊎ Q)
    (λ e. outside_means t d c env (P ⊎ Q) (
      λ p. elim p [ inl y ↦ inr (h.0 y) | inr y ↦ inl (let i = k.0 y in omega (arith, ints, i, e)) ],
      λ p. elim p [ inl i ↦ inr (k.1 (omega (arith, ints, i, e))) | inr i ↦ inl (h.1 i) ],
    ))
either_means no_bound b env P Q h k = tt
either_means (from t c) no_bound env P Q h k = tt
either_means (up_to t c) no_bound env P Q h k = tt
