-- A comparison with few absolute values as a formula without ways.
use Rattle.std.proofs.Common.{◌≡◌, ◌≢◌, ℕ, zero, suc, ◌+◌, ◌==◌, ℤ, pos, negsuc, neg_ℤ, ◌+ℤ◌, ◌-ℤ◌, ◌*ℤ◌, List, [], ◌∷◌, ◌++◌, map, Bool, true, false, not, cond, ◌&&◌, Option, Some, None, refl, sym, ◌∙◌, ap, arith, subst, ◌⊎◌, inl, inr, ⊎_elim, ◌↔◌, unsigned_abs}
use Rattle.std.specs.Prelude.{◌≤ℤ◌, ◌<ℤ◌, filter, int_lt, option_and_then}
use Rattle.std.proofs.lemmas.Int.{ints}
use Rattle.std.proofs.lemmas.Bool.{cond_both, and_parts, eqb-true}
use Rattle.cf_num.proofs.Ring.{ring}
use Rattle.cf_num.proofs.Orders.{mul-le_z, le_or_lt_z}
use Rattle.cf_tree.specs.declared.base.Order.{Order}
use Rattle.cf_tree.specs.declared.base.Order.TheVariants.{Eq, Ne, Lt, Le, Gt, Ge}
use Rattle.cf_tree.specs.Numbers.{absolute, Compares}
use Rattle.cf_tree.specs.Relation.{is_fixed, IsLinearTerm}
use Rattle.cf_tree.specs.RelTree.{TermTree, term_lit, term_var, term_card, term_neg, term_add, term_sub, term_mul, term_div, term_mod, term_abs}
use Rattle.cf_linear.specs.Layout.{Layout, first_free}
use Rattle.cf_linear.specs.Rows.{Row, Values, entry, value, comb}
use Rattle.cf_linear.specs.Written.{val_at, write, plus, GuardsHold, abs_count, quotient_count}
use Rattle.cf_linear.proofs.BoolLemmas.{on_bool}
use Rattle.cf_linear.proofs.RowLemmas.{value-comb}
use Rattle.cf_linear.proofs.WrittenLemmas.{IsConstant, constant-fixed, value-plus, other_side, write-value}
use Rattle.cf_cases.proofs.GuardLaws.{guards-join}
use Rattle.cf_formula.specs.Formulas.{Formula, Holds}
use Rattle.cf_formula.specs.Members.{conj, disj}
use Rattle.cf_formula.specs.Writing.{Flat, plain_row, is_plain, with_plain, flattened, with_abs, in_order, turned_parts, at_least_by, at_most_by, compared, no_flat, flat_difference}
use Rattle.cf_formula.proofs.AtomLaws.{lt_so, not_lt_so, ge-holds}
use Rattle.cf_formula.proofs.RewritingLaws.{conj_two, disj_two}

-- ---- forms without `abs`, `div` and `mod`
no_sum : (a b : ℕ) → a + b ≡ 0 → (a ≡ 0) × (b ≡ 0)
no_sum a b e = (omega (arith, e), omega (arith, e))

no_guards : (l : Layout) (v : Values) (t : TermTree) (ss : List Bool) (q : ℕ) → abs_count t ≡ 0 → quotient_count t ≡ 0 → GuardsHold v (write l t ss q).guards
no_guards l v (term_lit n) ss q a b = tt
no_guards l v (term_var x) ss q a b = tt
no_guards l v (term_card s) ss q a b = tt
no_guards l v (term_neg t) ss q a b = no_guards l v t ss q a b
no_guards l v (term_add t u) ss q a b =
    let x = no_sum (abs_count t) (abs_count u) a in
    let y = no_sum (quotient_count t) (quotient_count u) b in
    let w = write l t ss q in
    guards-join v w.guards (write l u w.signs w.next).guards (no_guards l v t ss q x.0 y.0) (no_guards l v u w.signs w.next x.1 y.1)
no_guards l v (term_sub t u) ss q a b =
    let x = no_sum (abs_count t) (abs_count u) a in
    let y = no_sum (quotient_count t) (quotient_count u) b in
    let w = write l t ss q in
    guards-join v w.guards (write l u w.signs w.next).guards (no_guards l v t ss q x.0 y.0) (no_guards l v u w.signs w.next x.1 y.1)
no_guards l v (term_mul t u) ss q a b =
    let x = no_sum (abs_count t) (abs_count u) a in
    let y = no_sum (quotient_count t) (quotient_count u) b in
    let w = write l t ss q in
    guards-join v w.guards (write l u w.signs w.next).guards (no_guards l v t ss q x.0 y.0) (no_guards l v u w.signs w.next x.1 y.1)
no_guards l v (term_div t k) ss q a b = absurd (omega (arith, b))
no_guards l v (term_mod t k) ss q a b = absurd (omega (arith, b))
no_guards l v (term_abs t) ss q a b = absurd (omega (arith, a))

-- ---- values
abbrev pub sum_parts : Values → List (ℤ × Row) → ℤ
sum_parts v [] = pos 0
sum_parts v ((k, s) ∷ parts) = k *ℤ absolute (value v s) +ℤ sum_parts v parts

abbrev pub flat_value : Values → Flat → ℤ
flat_value v f = value v f.row +ℤ sum_parts v f.parts

sum-append : (v : Values) (xs ys : List (ℤ × Row)) → sum_parts v (xs ++ ys) ≡ sum_parts v xs +ℤ sum_parts v ys
sum-append v [] ys = omega (arith, ints)
sum-append v ((k, s) ∷ xs) ys = rw (sum-append v xs ys) (omega (arith, ints))

sum-apart : (v : Values) (p : ℤ × Row → Bool) (xs : List (ℤ × Row)) → sum_parts v (filter (λ x. not (p x)) xs) +ℤ sum_parts v (filter p xs) ≡ sum_parts v xs
sum-apart v p [] = omega (arith, ints)
sum-apart v p ((k, s) ∷ xs) =
    let i = sum-apart v p xs in
    on_bool (p (k, s)) (λ e. rw e (omega (arith, ints))) (λ e. rw e (omega (arith, ints)))

ordered-sum : (v : Values) (xs : List (ℤ × Row)) → sum_parts v (in_order xs) ≡ sum_parts v xs
ordered-sum v xs =
    sum-append v (filter (λ (k, s). not (int_lt (pos 0) k)) xs) (filter (λ (k, s). int_lt (pos 0) k) xs) ∙ sum-apart v (λ (k, s). int_lt (pos 0) k) xs

negated-sum : (v : Values) (xs : List (ℤ × Row)) → sum_parts v (map (λ (k, s). (neg_ℤ k, s)) xs) ≡ neg_ℤ (sum_parts v xs)
negated-sum v [] = omega (arith, ints)
negated-sum v ((k, s) ∷ xs) = rw (negated-sum v xs) (turned k (absolute (value v s)) (sum_parts v xs))
  where
    turned : (k x z : ℤ) → neg_ℤ k *ℤ x +ℤ neg_ℤ z ≡ neg_ℤ (k *ℤ x +ℤ z)
    turned k x z = simp ring (omega (arith, ints))

turned-sum : (v : Values) (xs : List (ℤ × Row)) → sum_parts v (turned_parts xs) ≡ neg_ℤ (sum_parts v xs)
turned-sum v xs =
    ordered-sum v (map (λ (k, s). (neg_ℤ k, s)) (in_order xs)) ∙ (negated-sum v (in_order xs) ∙ ap neg_ℤ (ordered-sum v xs))

-- ---- absolute values
-- the greater of both signs
absolute_is : (x : ℤ) → ((absolute x ≡ x) × (pos 0 ≤ℤ x)) ⊎ ((absolute x ≡ neg_ℤ x) × (x <ℤ pos 0))
absolute_is x = ⊎_elim (λ p. inl (omega (arith, ints), p)) (λ n. inr (omega (arith, ints), n)) (le_or_lt_z (pos 0) x)

-- k times a number of at least 0
times_low : (k x : ℤ) → k <ℤ pos 0 → pos 0 ≤ℤ x → (k *ℤ x) ≤ℤ pos 0
times_low k x n p = let i = mul-le_z (neg_ℤ k) (pos 0) x (omega (arith, ints)) p in let j = simp ring at i in omega (arith, ints)

times_high : (k x : ℤ) → pos 0 ≤ℤ k → pos 0 ≤ℤ x → pos 0 ≤ℤ (k *ℤ x)
times_high k x n p = let i = mul-le_z k (pos 0) x n p in omega (arith, ints)

times_neg : (k x : ℤ) → k *ℤ neg_ℤ x ≡ neg_ℤ (k *ℤ x)
times_neg k x = simp ring (omega (arith, ints))

neg_times : (k x : ℤ) → neg_ℤ k *ℤ x ≡ neg_ℤ (k *ℤ x)
neg_times k x = simp ring (omega (arith, ints))

-- below 0 both signs are asked for, and else one of both
both_signs : (z k x : ℤ) → k <ℤ pos 0 → ((pos 0 ≤ℤ (z +ℤ k *ℤ x)) × (pos 0 ≤ℤ (z +ℤ neg_ℤ k *ℤ x))) ↔ (pos 0 ≤ℤ (z +ℤ k *ℤ absolute x))
both_signs z k x n =
    let e = neg_times k x in
    ⊎_elim
    (λ (a : (absolute x ≡ x) × (pos 0 ≤ℤ x)).
    let l = times_low k x n a.1 in
    rw (a.0, e) ((λ h. h.0), (λ h. (h, omega (arith, ints)))))
    (λ (a : (absolute x ≡ neg_ℤ x) × (x <ℤ pos 0)).
    let l = times_low k (neg_ℤ x) n (omega (arith, ints)) in
    let m = times_neg k x in
    rw (a.0, e, m) ((λ h. h.1), (λ h. (omega (arith, ints), h)))) (absolute_is x)

some_sign : (z k x : ℤ) → pos 0 ≤ℤ k → ((pos 0 ≤ℤ (z +ℤ k *ℤ x)) ⊎ (pos 0 ≤ℤ (z +ℤ neg_ℤ k *ℤ x))) ↔ (pos 0 ≤ℤ (z +ℤ k *ℤ absolute x))
some_sign z k x n =
    let e = neg_times k x in
    ⊎_elim
    (λ (a : (absolute x ≡ x) × (pos 0 ≤ℤ x)).
    let l = times_high k x n a.1 in
    rw (a.0, e) ((λ h. ⊎_elim (λ i. i) (λ i. omega (arith, ints)) h), (λ h. inl h)))
    (λ (a : (absolute x ≡ neg_ℤ x) × (x <ℤ pos 0)).
    let l = times_high k (neg_ℤ x) n (omega (arith, ints)) in
    let m = times_neg k x in
    rw (a.0, e, m) ((λ h. ⊎_elim (λ i. omega (arith, ints)) (λ i. i) h), (λ h. inr h))) (absolute_is x)

module _ (v : Values) (one : v 0 ≡ pos 1) where
  with_abs-holds : (r : Row) (parts : List (ℤ × Row)) → Holds v (with_abs r parts) ↔ (pos 0 ≤ℤ (value v r +ℤ sum_parts v parts))
  with_abs-holds r [] =
      let g = ge-holds v one r in ((λ h. let i = g.0 h in omega (arith, ints)), (λ h. g.1 (omega (arith, ints))))
  with_abs-holds r ((k, s) ∷ parts) =
      let up = comb (pos 1) r k s in
      let down = comb (pos 1) r (neg_ℤ k) s in
      let i = with_abs-holds up parts in
      let j = with_abs-holds down parts in
      let z = value v r +ℤ sum_parts v parts in
      let a : value v up +ℤ sum_parts v parts ≡ z +ℤ k *ℤ value v s = rw (value-comb v (pos 1) r k s) (omega (arith, ints)) in
      let b : value v down +ℤ sum_parts v parts ≡ z +ℤ neg_ℤ k *ℤ value v s = rw (value-comb v (pos 1) r (neg_ℤ k) s) (omega (arith, ints)) in
      let e : value v r +ℤ (k *ℤ absolute (value v s) +ℤ sum_parts v parts) ≡ z +ℤ k *ℤ absolute (value v s) = omega (arith, ints) in
      cond_both (int_lt k (pos 0)) _ _ (λ f. Holds v f ↔ (pos 0 ≤ℤ (value v r +ℤ (k *ℤ absolute (value v s) +ℤ sum_parts v parts))))
      (λ t.
      let c = conj_two v (with_abs up parts) (with_abs down parts) in
      let m = both_signs z k (value v s) (lt_so k (pos 0) t) in (
        (λ h. let q = c.0 h in subst (λ y. pos 0 ≤ℤ y) (sym e) (m.0 (subst (λ y. pos 0 ≤ℤ y) a (i.0 q.0), subst (λ y. pos 0 ≤ℤ y) b (j.0 q.1)))),
        (λ h.
            let q = m.1 (subst (λ y. pos 0 ≤ℤ y) e h) in
            c.1 (i.1 (subst (λ y. pos 0 ≤ℤ y) (sym a) q.0), j.1 (subst (λ y. pos 0 ≤ℤ y) (sym b) q.1))),
      ))
      (λ t.
      let c = disj_two v one (with_abs up parts) (with_abs down parts) in
      let m = some_sign z k (value v s) (not_lt_so k (pos 0) (rw t refl)) in (
        (λ h.
            subst (λ y. pos 0 ≤ℤ y) (sym e)
            (m.0 (⊎_elim (λ q. inl (subst (λ y. pos 0 ≤ℤ y) a (i.0 q))) (λ q. inr (subst (λ y. pos 0 ≤ℤ y) b (j.0 q))) (c.0 h)))),
        (λ h.
            c.1 (⊎_elim (λ q. inl (i.1 (subst (λ y. pos 0 ≤ℤ y) (sym a) q))) (λ q. inr (j.1 (subst (λ y. pos 0 ≤ℤ y) (sym b) q)))
            (m.1 (subst (λ y. pos 0 ≤ℤ y) e h)))),
      ))

  least_by : (d : ℤ) (f : Flat) → Holds v (at_least_by d f) ↔ (d ≤ℤ flat_value v f)
  least_by d f =
      let i = with_abs-holds (plus f.row (neg_ℤ d)) (in_order f.parts) in
      let e : value v (plus f.row (neg_ℤ d)) +ℤ sum_parts v (in_order f.parts) ≡ value v f.row +ℤ neg_ℤ d +ℤ sum_parts v f.parts =
      rw (value-plus v f.row (neg_ℤ d) one, ordered-sum v f.parts) refl in
      ((λ h. let k = subst (λ y. pos 0 ≤ℤ y) e (i.0 h) in omega (arith, ints)), (λ h. i.1 (subst (λ y. pos 0 ≤ℤ y) (sym e) (omega (arith, ints)))))

  most_by : (d : ℤ) (f : Flat) → Holds v (at_most_by d f) ↔ (d ≤ℤ neg_ℤ (flat_value v f))
  most_by d f =
      let r = comb (negsuc 0) f.row (pos 0) [] in
      let i = with_abs-holds (plus r (neg_ℤ d)) (turned_parts f.parts) in
      let n : value v r ≡ neg_ℤ (value v f.row) = value-comb v (negsuc 0) f.row (pos 0) [] ∙ omega (arith, ints) in
      let e : value v (plus r (neg_ℤ d)) +ℤ sum_parts v (turned_parts f.parts) ≡ neg_ℤ (value v f.row) +ℤ neg_ℤ d +ℤ neg_ℤ (sum_parts v f.parts) =
      rw (value-plus v r (neg_ℤ d) one, n, turned-sum v f.parts) refl in
      ((λ h. let k = subst (λ y. pos 0 ≤ℤ y) e (i.0 h) in omega (arith, ints)), (λ h. i.1 (subst (λ y. pos 0 ≤ℤ y) (sym e) (omega (arith, ints)))))

  -- the comparison of the flat form with 0
  compared-holds : (o : Order) (f : Flat) → Holds v (compared o f) ↔ Compares o (flat_value v f) (pos 0)
  compared-holds Ge f = let i = least_by (pos 0) f in ((λ h. i.0 h), (λ h. i.1 h))
  compared-holds Gt f = let i = least_by (pos 1) f in ((λ h. let k = i.0 h in omega (arith, ints)), (λ h. i.1 (omega (arith, ints))))
  compared-holds Le f = let i = most_by (pos 0) f in ((λ h. let k = i.0 h in omega (arith, ints)), (λ h. i.1 (omega (arith, ints))))
  compared-holds Lt f = let i = most_by (pos 1) f in ((λ h. let k = i.0 h in omega (arith, ints)), (λ h. i.1 (omega (arith, ints))))
  compared-holds Eq f =
      let c = conj_two v (at_least_by (pos 0) f) (at_most_by (pos 0) f) in
      let i = least_by (pos 0) f in
      let j = most_by (pos 0) f in (
        (λ h. let k = c.0 h in let a = i.0 k.0 in let b = j.0 k.1 in omega (arith, ints)),
        (λ h. c.1 (i.1 (omega (arith, ints)), j.1 (omega (arith, ints)))),
      )
  compared-holds Ne f =
      let c = disj_two v one (at_most_by (pos 1) f) (at_least_by (pos 1) f) in
      let i = least_by (pos 1) f in
      let j = most_by (pos 1) f in (
        (λ h. ⊎_elim (λ k. let a = j.0 k in λ e. omega (arith, ints)) (λ k. let a = i.0 k in λ e. omega (arith, ints)) (c.0 h)),
        (λ h.
            c.1 (⊎_elim (λ (k : pos 0 ≤ℤ flat_value v f). inr (i.1 (apart_above (flat_value v f) k h)))
            (λ (k : flat_value v f <ℤ pos 0). inl (j.1 (omega (arith, ints))))
            (le_or_lt_z (pos 0) (flat_value v f)))),
      )
    where
      apart_above : (z : ℤ) → pos 0 ≤ℤ z → z ≢ pos 0 → pos 1 ≤ℤ z
      apart_above z p n = omega (arith, ints)

-- ---- the flat form has the value of the number form
module _ (l : Layout) (v : Values) (one : v 0 ≡ pos 1) where
  plain-value : (t : TermTree) → IsLinearTerm t → is_plain t ≡ true → value v (plain_row l t) ≡ val_at l v t
  plain-value t p e =
      let q = and_parts (abs_count t == 0) (quotient_count t == 0) e in
      write-value l v one t [] (first_free l) p
      (no_guards l v t [] (first_free l) (eqb-true (abs_count t) 0 q.0) (eqb-true (quotient_count t) 0 q.1))

  with_plain-value : (t : TermTree) (k : ℤ) (f g : Flat) → IsLinearTerm t → with_plain l t k f ≡ Some g → flat_value v g ≡ flat_value v f +ℤ k *ℤ val_at l v t
  with_plain-value t k f g p e =
      on_bool (is_plain t)
      (λ i.
      let h : Some (record { row = comb (pos 1) f.row k (plain_row l t); parts = f.parts }) ≡ Some g = rw i at e in
      let same : record { row = comb (pos 1) f.row k (plain_row l t); parts = f.parts } ≡ g = cc h in
      let a = value-comb v (pos 1) f.row k (plain_row l t) in
      let b = plain-value t p i in
      subst (λ (y : Flat). flat_value v y ≡ flat_value v f +ℤ k *ℤ val_at l v t) same (rw (a, b) (omega (arith, ints))))
      (λ i. let h : None ≡ Some g = rw i at e in cc h)

  then_so : {A B : Type 0} (f : A → Option B) (o : Option A) (y : B) → option_and_then f o ≡ Some y → (x : A) × (o ≡ Some x) × (f x ≡ Some y)
  then_so f None y e = cc e
  then_so f (Some x) y e = (x, refl, e)

  fixed-value : (t : TermTree) → IsLinearTerm t → is_fixed t ≡ true → abs_count t ≡ 0 → entry (plain_row l t) 0 ≡ val_at l v t
  fixed-value t p f a =
      let c = constant-fixed l t [] (first_free l) f in
      let e = write-value l v one t [] (first_free l) p (no_guards l v t [] (first_free l) a (fixed_plain t f)) in
      let d : value v (plain_row l t) ≡ entry (plain_row l t) 0 = c.is v ∙ rw one (omega (arith, ints)) in
      sym d ∙ e
    where
      fixed_plain : (t : TermTree) → is_fixed t ≡ true → quotient_count t ≡ 0
      fixed_plain (term_lit n) e = refl
      fixed_plain (term_var x) e = refl
      fixed_plain (term_card s) e = refl
      fixed_plain (term_neg a) e = fixed_plain a e
      fixed_plain (term_add a b) e = let q = and_parts (is_fixed a) (is_fixed b) e in rw (fixed_plain a q.0, fixed_plain b q.1) refl
      fixed_plain (term_sub a b) e = let q = and_parts (is_fixed a) (is_fixed b) e in rw (fixed_plain a q.0, fixed_plain b q.1) refl
      fixed_plain (term_mul a b) e = let q = and_parts (is_fixed a) (is_fixed b) e in rw (fixed_plain a q.0, fixed_plain b q.1) refl
      fixed_plain (term_div a k) e = cc e
      fixed_plain (term_mod a k) e = cc e
      fixed_plain (term_abs a) e = fixed_plain a e

  pub flat-value : (t : TermTree) (k : ℤ) (f g : Flat) → IsLinearTerm t → flattened l t k f ≡ Some g → flat_value v g ≡ flat_value v f +ℤ k *ℤ val_at l v t
  flat-value (term_lit n) k f g p e = with_plain-value (term_lit n) k f g p e
  flat-value (term_var x) k f g p e = with_plain-value (term_var x) k f g p e
  flat-value (term_card s) k f g p e = with_plain-value (term_card s) k f g p e
  flat-value (term_neg a) k f g p e = flat-value a (neg_ℤ k) f g p e ∙ rw (neg_times k (val_at l v a), times_neg k (val_at l v a)) refl
  flat-value (term_add a b) k f g p e =
      let h = then_so (flattened l b k) (flattened l a k f) g e in
      let i = flat-value a k f h.0 p.0 h.1 in
      let j = flat-value b k h.0 g p.1 h.2 in
      j ∙ rw i (simp ring (omega (arith, ints)))
  flat-value (term_sub a b) k f g p e =
      let h = then_so (flattened l b (neg_ℤ k)) (flattened l a k f) g e in
      let i = flat-value a k f h.0 p.0 h.1 in
      let j = flat-value b (neg_ℤ k) h.0 g p.1 h.2 in
      j ∙ rw i (minus (flat_value v f) k (val_at l v a) (val_at l v b))
    where
      minus : (z k x y : ℤ) → z +ℤ k *ℤ x +ℤ neg_ℤ k *ℤ y ≡ z +ℤ k *ℤ (x -ℤ y)
      minus z k x y = simp ring (omega (arith, ints))
  flat-value (term_mul a b) k f g p e =
      on_bool (is_fixed a)
      (λ i.
      on_bool (abs_count a == 0)
      (λ j.
      let h : flattened l b (k *ℤ entry (plain_row l a) 0) f ≡ Some g = rw (i, j) at e in
      let x = fixed-value a p.0 i (eqb-true (abs_count a) 0 j) in
      flat-value b (k *ℤ entry (plain_row l a) 0) f g p.1 h ∙ rw x (left (flat_value v f) k (val_at l v a) (val_at l v b)))
      (λ j. let h : None ≡ Some g = rw (i, j) at e in cc h))
      (λ i.
      let fixed = other_side (is_fixed a) (is_fixed b) p.2 i in
      on_bool (abs_count b == 0)
      (λ j.
      let h : flattened l a (k *ℤ entry (plain_row l b) 0) f ≡ Some g = rw (i, j) at e in
      let x = fixed-value b p.1 fixed (eqb-true (abs_count b) 0 j) in
      flat-value a (k *ℤ entry (plain_row l b) 0) f g p.0 h ∙ rw x (right (flat_value v f) k (val_at l v a) (val_at l v b)))
      (λ j. let h : None ≡ Some g = rw (i, j) at e in cc h))
    where
      left : (z k x y : ℤ) → z +ℤ (k *ℤ x) *ℤ y ≡ z +ℤ k *ℤ (x *ℤ y)
      left z k x y = simp ring (omega (arith, ints))

      right : (z k x y : ℤ) → z +ℤ (k *ℤ y) *ℤ x ≡ z +ℤ k *ℤ (x *ℤ y)
      right z k x y = simp ring (omega (arith, ints))
  flat-value (term_div a n) k f g p e = with_plain-value (term_div a n) k f g p e
  flat-value (term_mod a n) k f g p e = with_plain-value (term_mod a n) k f g p e
  flat-value (term_abs a) k f g p e =
      on_bool (is_plain a)
      (λ i.
      let h : Some (record { row = f.row; parts = f.parts ++ ((k, plain_row l a) ∷ []) }) ≡ Some g = rw i at e in
      let same : record { row = f.row; parts = f.parts ++ ((k, plain_row l a) ∷ []) } ≡ g = cc h in
      subst (λ (y : Flat). flat_value v y ≡ flat_value v f +ℤ k *ℤ absolute (val_at l v a)) same
      (rw (sum-append v f.parts ((k, plain_row l a) ∷ []), plain-value a p i) (omega (arith, ints))))
      (λ i. let h : None ≡ Some g = rw i at e in cc h)

  pub difference-value : (t u : TermTree) (f : Flat) → IsLinearTerm t → IsLinearTerm u → flat_difference l t u ≡ Some f →
      flat_value v f ≡ val_at l v t -ℤ val_at l v u
  difference-value t u f p q e =
      let two = option_and_then (flattened l u (negsuc 0)) (flattened l t (pos 1) no_flat) in
      let h : two ≡ Some f = from_if _ two f e in
      let s = then_so (flattened l u (negsuc 0)) (flattened l t (pos 1) no_flat) f h in
      let i = flat-value t (pos 1) no_flat s.0 p s.1 in
      let j = flat-value u (negsuc 0) s.0 f q s.2 in
      j ∙ rw i (omega (arith, ints))
    where
      from_if : (b : Bool) (o : Option Flat) (f : Flat) → cond b o None ≡ Some f → o ≡ Some f
      from_if true o f e = e
      from_if false o f e = cc e

  pub flat-compares : (o : Order) (t u : TermTree) (f : Flat) → IsLinearTerm t → IsLinearTerm u → flat_difference l t u ≡ Some f →
      Holds v (compared o f) ↔ Compares o (val_at l v t) (val_at l v u)
  flat-compares o t u f p q e =
      let c = compared-holds v one o f in
      let d = difference-value t u f p q e in
      let m = moved o (flat_value v f) (val_at l v t) (val_at l v u) d in
      ((λ h. m.0 (c.0 h)), (λ h. c.1 (m.1 h)))
    where
      moved : (o : Order) (z x y : ℤ) → z ≡ x -ℤ y → Compares o z (pos 0) ↔ Compares o x y
      moved Eq z x y e = ((λ h. omega (arith, ints)), (λ h. omega (arith, ints)))
      moved Ne z x y e = ((λ h i. h (omega (arith, ints))), (λ h i. h (omega (arith, ints))))
      moved Lt z x y e = ((λ h. omega (arith, ints)), (λ h. omega (arith, ints)))
      moved Le z x y e = ((λ h. omega (arith, ints)), (λ h. omega (arith, ints)))
      moved Gt z x y e = ((λ h. omega (arith, ints)), (λ h. omega (arith, ints)))
      moved Ge z x y e = ((λ h. omega (arith, ints)), (λ h. omega (arith, ints)))
