-- The columns of a comparison with few absolute values.
use Rattle.std.proofs.Common.{◌≡◌, ℕ, ◌+◌, ◌<◌, ◌≤◌, ◌==◌, ℤ, pos, negsuc, neg_ℤ, ◌*ℤ◌, List, [], ◌∷◌, ◌++◌, map, Bool, true, false, not, cond, Option, Some, None, refl, arith, subst, inl, inr}
use Rattle.std.specs.Prelude.{filter, int_lt, option_and_then}
use Rattle.std.proofs.lemmas.Bool.{cond_both, and_parts, eqb-true}
use Rattle.cf_tree.specs.declared.base.Order.{Order}
use Rattle.cf_tree.specs.declared.base.Order.TheVariants.{Eq, Ne, Lt, Le, Gt, Ge}
use Rattle.cf_tree.specs.Relation.{is_fixed}
use Rattle.cf_tree.specs.RelTree.{TermTree, term_lit, term_var, term_card, term_neg, term_add, term_sub, term_mul, term_div, term_mod, term_abs}
use Rattle.cf_linear.specs.Keep.{Over}
use Rattle.cf_linear.specs.Layout.{Layout, first_free}
use Rattle.cf_linear.specs.Rows.{Row, entry, comb, AreBelow}
use Rattle.cf_linear.specs.Written.{write, plus, first_sign, IsPlaced, abs_count, quotient_count, constant_row}
use Rattle.cf_linear.proofs.BoolLemmas.{on_bool}
use Rattle.cf_cases.proofs.BelowLaws.{positive_free, write-fits}
use Rattle.cf_formula.specs.Formulas.{Formula, EachAtom}
use Rattle.cf_formula.specs.Writing.{Flat, plain_row, is_plain, with_plain, flattened, with_abs, in_order, turned_parts, at_least_by, at_most_by, compared, no_flat, flat_difference}
use Rattle.cf_formula.proofs.OverLaws.{IsKind, ge-through, conj-through, disj-through}

-- what atoms are made of keeps P, and so do constants
module _ (P : Row → Type 0) (kind : IsKind P) (constants : (d : ℤ) → P (constant_row d)) where
  abbrev EachOver : List (ℤ × Row) → Type 0
  EachOver [] = Unit {0}
  EachOver ((k, s) ∷ parts) = P s × EachOver parts

  each-append : (xs ys : List (ℤ × Row)) → EachOver xs → EachOver ys → EachOver (xs ++ ys)
  each-append [] ys a b = b
  each-append ((k, s) ∷ xs) ys a b = (a.0, each-append xs ys a.1 b)

  each-filter : (p : ℤ × Row → Bool) (xs : List (ℤ × Row)) → EachOver xs → EachOver (filter p xs)
  each-filter p [] a = tt
  each-filter p ((k, s) ∷ xs) a = cond_both (p (k, s)) ((k, s) ∷ filter p xs) (filter p xs) EachOver (λ e. (a.0, each-filter p xs a.1))
      (λ e. each-filter p xs a.1)

  each-turned : (xs : List (ℤ × Row)) → EachOver xs → EachOver (map (λ (k, s). (neg_ℤ k, s)) xs)
  each-turned [] a = tt
  each-turned ((k, s) ∷ xs) a = (a.0, each-turned xs a.1)

  ordered-over : (xs : List (ℤ × Row)) → EachOver xs → EachOver (in_order xs)
  ordered-over xs a =
      each-append (filter (λ (k, s). not (int_lt (pos 0) k)) xs) (filter (λ (k, s). int_lt (pos 0) k) xs) (each-filter (λ (k, s). not (int_lt (pos 0) k)) xs a)
      (each-filter (λ (k, s). int_lt (pos 0) k) xs a)

  turned-over : (xs : List (ℤ × Row)) → EachOver xs → EachOver (turned_parts xs)
  turned-over xs a = ordered-over (map (λ (k, s). (neg_ℤ k, s)) (in_order xs)) (each-turned (in_order xs) (ordered-over xs a))

  with_abs-through : (r : Row) (parts : List (ℤ × Row)) → P r → EachOver parts → EachAtom P (with_abs r parts)
  with_abs-through r [] o a = ge-through P kind r o
  with_abs-through r ((k, s) ∷ parts) o a =
      let up = comb (pos 1) r k s in
      let down = comb (pos 1) r (neg_ℤ k) s in
      let i = with_abs-through up parts (kind.combined (pos 1) r k s o a.0) a.1 in
      let j = with_abs-through down parts (kind.combined (pos 1) r (neg_ℤ k) s o a.0) a.1 in
      cond_both (int_lt k (pos 0)) _ _ (EachAtom P)
      (λ e. conj-through P kind (with_abs up parts ∷ with_abs down parts ∷ []) (i, (j, tt)))
      (λ e. disj-through P kind (with_abs up parts ∷ with_abs down parts ∷ []) (i, (j, tt)))

  pub record FlatOver (f : Flat) : Type 0 where
    pub row : P f.row
    pub parts : EachOver f.parts

  plus-over : (r : Row) (d : ℤ) → P r → P (plus r d)
  plus-over r d o = kind.combined (pos 1) r (pos 1) (constant_row d) o (constants d)

  least-through : (d : ℤ) (f : Flat) → FlatOver f → EachAtom P (at_least_by d f)
  least-through d f o = with_abs-through (plus f.row (neg_ℤ d)) (in_order f.parts) (plus-over f.row (neg_ℤ d) o.row) (ordered-over f.parts o.parts)

  most-through : (d : ℤ) (f : Flat) → FlatOver f → EachAtom P (at_most_by d f)
  most-through d f o =
      let r = comb (negsuc 0) f.row (pos 0) [] in
      with_abs-through (plus r (neg_ℤ d)) (turned_parts f.parts) (plus-over r (neg_ℤ d) (kind.combined (negsuc 0) f.row (pos 0) [] o.row kind.nothing))
      (turned-over f.parts o.parts)

  over-through : (o : Order) (f : Flat) → FlatOver f → EachAtom P (compared o f)
  over-through Ge f a = least-through (pos 0) f a
  over-through Gt f a = least-through (pos 1) f a
  over-through Le f a = most-through (pos 0) f a
  over-through Lt f a = most-through (pos 1) f a
  over-through Eq f a =
      conj-through P kind (at_least_by (pos 0) f ∷ at_most_by (pos 0) f ∷ [])
      (least-through (pos 0) f a, (most-through (pos 0) f a, tt))
  over-through Ne f a =
      disj-through P kind (at_most_by (pos 1) f ∷ at_least_by (pos 1) f ∷ [])
      (most-through (pos 1) f a, (least-through (pos 1) f a, tt))

-- ---- the rows of forms
module _ (l : Layout) where
  -- a plain form takes no column for a quotient
  plain_next : (t : TermTree) (ss : List Bool) (q : ℕ) → quotient_count t ≡ 0 → (write l t ss q).next ≡ q
  plain_next (term_lit n) ss q e = refl
  plain_next (term_var x) ss q e = refl
  plain_next (term_card s) ss q e = refl
  plain_next (term_neg a) ss q e = plain_next a ss q e
  plain_next (term_add a b) ss q e =
      let w = write l a ss q in
      let i = plain_next a ss q (omega (arith, e)) in
      let j = plain_next b w.signs w.next (omega (arith, e)) in omega arith
  plain_next (term_sub a b) ss q e =
      let w = write l a ss q in
      let i = plain_next a ss q (omega (arith, e)) in
      let j = plain_next b w.signs w.next (omega (arith, e)) in omega arith
  plain_next (term_mul a b) ss q e =
      let w = write l a ss q in
      let i = plain_next a ss q (omega (arith, e)) in
      let j = plain_next b w.signs w.next (omega (arith, e)) in omega arith
  plain_next (term_div a k) ss q e = absurd (omega (arith, e))
  plain_next (term_mod a k) ss q e = absurd (omega (arith, e))
  plain_next (term_abs a) ss q e = signed (write l a ss q).signs (plain_next a ss q e)
    where
      signed : (ss' : List Bool) → (write l a ss q).next ≡ q → (write l (term_abs a) ss q).next ≡ q
      signed xs h = on_bool (first_sign (write l a ss q).signs) (λ t. rw t h) (λ t. rw t h)

  below_over : (n : ℕ) (r : Row) → AreBelow n r → Over (λ c. c < n) r
  below_over n [] b = tt
  below_over n ((c, k) ∷ r) b = (b.0, below_over n r b.1)

  pub plain-low : (t : TermTree) → IsPlaced l t → is_plain t ≡ true → Over (λ c. c < first_free l) (plain_row l t)
  plain-low t p e =
      let q = and_parts (abs_count t == 0) (quotient_count t == 0) e in
      let f = write-fits l t [] (first_free l) p (omega arith) in
      let n = plain_next t [] (first_free l) (eqb-true (quotient_count t) 0 q.1) in
      below_over (first_free l) (plain_row l t) (subst (λ m. AreBelow m (plain_row l t)) n f.row)

-- where each plain row is of the kind, so is the comparison
module _ (l : Layout) (P : Row → Type 0) (kind : IsKind P) (constants : (d : ℤ) → P (constant_row d))
    (plain : (t : TermTree) → IsPlaced l t → is_plain t ≡ true → P (plain_row l t)) where
  with_plain-kept : (t : TermTree) (k : ℤ) (f g : Flat) → IsPlaced l t → FlatOver P kind constants f → with_plain l t k f ≡ Some g → FlatOver P kind constants g
  with_plain-kept t k f g p o e =
      on_bool (is_plain t)
      (λ i.
      let h : Some (record { row = comb (pos 1) f.row k (plain_row l t); parts = f.parts }) ≡ Some g = rw i at e in
      let same : record { row = comb (pos 1) f.row k (plain_row l t); parts = f.parts } ≡ g = cc h in
      subst (λ (y : Flat). FlatOver P kind constants y) same
      (record { row = kind.combined (pos 1) f.row k (plain_row l t) o.row (plain t p i); parts = o.parts }))
      (λ i. let h : None ≡ Some g = rw i at e in cc h)

  then_so : {A B : Type 0} (f : A → Option B) (o : Option A) (y : B) → option_and_then f o ≡ Some y → (x : A) × (o ≡ Some x) × (f x ≡ Some y)
  then_so f None y e = cc e
  then_so f (Some x) y e = (x, refl, e)

  flat-kept : (t : TermTree) (k : ℤ) (f g : Flat) → IsPlaced l t → FlatOver P kind constants f → flattened l t k f ≡ Some g → FlatOver P kind constants g
  flat-kept (term_lit n) k f g p o e = with_plain-kept (term_lit n) k f g p o e
  flat-kept (term_var x) k f g p o e = with_plain-kept (term_var x) k f g p o e
  flat-kept (term_card s) k f g p o e = with_plain-kept (term_card s) k f g p o e
  flat-kept (term_neg a) k f g p o e = flat-kept a (neg_ℤ k) f g p o e
  flat-kept (term_add a b) k f g p o e =
      let h = then_so (flattened l b k) (flattened l a k f) g e in
      flat-kept b k h.0 g p.1 (flat-kept a k f h.0 p.0 o h.1) h.2
  flat-kept (term_sub a b) k f g p o e =
      let h = then_so (flattened l b (neg_ℤ k)) (flattened l a k f) g e in
      flat-kept b (neg_ℤ k) h.0 g p.1 (flat-kept a k f h.0 p.0 o h.1) h.2
  flat-kept (term_mul a b) k f g p o e =
      on_bool (is_fixed a)
      (λ i.
      on_bool (abs_count a == 0)
      (λ j. let h : flattened l b (k *ℤ entry (plain_row l a) 0) f ≡ Some g = rw (i, j) at e in flat-kept b (k *ℤ entry (plain_row l a) 0) f g p.1 o h)
      (λ j. let h : None ≡ Some g = rw (i, j) at e in cc h))
      (λ i.
      on_bool (abs_count b == 0)
      (λ j. let h : flattened l a (k *ℤ entry (plain_row l b) 0) f ≡ Some g = rw (i, j) at e in flat-kept a (k *ℤ entry (plain_row l b) 0) f g p.0 o h)
      (λ j. let h : None ≡ Some g = rw (i, j) at e in cc h))
  flat-kept (term_div a n) k f g p o e = with_plain-kept (term_div a n) k f g p o e
  flat-kept (term_mod a n) k f g p o e = with_plain-kept (term_mod a n) k f g p o e
  flat-kept (term_abs a) k f g p o e =
      on_bool (is_plain a)
      (λ i.
      let h : Some (record { row = f.row; parts = f.parts ++ ((k, plain_row l a) ∷ []) }) ≡ Some g = rw i at e in
      let same : record { row = f.row; parts = f.parts ++ ((k, plain_row l a) ∷ []) } ≡ g = cc h in
      subst (λ (y : Flat). FlatOver P kind constants y) same
      (record { row = o.row; parts = each-append P kind constants f.parts ((k, plain_row l a) ∷ []) o.parts (plain a p i, tt) }))
      (λ i. let h : None ≡ Some g = rw i at e in cc h)

  pub compared-through : (o : Order) (t u : TermTree) (f : Flat) → IsPlaced l t → IsPlaced l u → flat_difference l t u ≡ Some f →
      EachAtom P (compared o f)
  compared-through o t u f p q e =
      let two = option_and_then (flattened l u (negsuc 0)) (flattened l t (pos 1) no_flat) in
      let h : two ≡ Some f = from_if _ two f e in
      let s = then_so (flattened l u (negsuc 0)) (flattened l t (pos 1) no_flat) f h in
      over-through P kind constants o f
      (flat-kept u (negsuc 0) s.0 f q (flat-kept t (pos 1) no_flat s.0 p (record { row = kind.nothing; parts = tt }) s.1) s.2)
    where
      from_if : (b : Bool) (o : Option Flat) (f : Flat) → cond b o None ≡ Some f → o ≡ Some f
      from_if true o f e = e
      from_if false o f e = cc e
