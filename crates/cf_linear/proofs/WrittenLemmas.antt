-- A written row has the value of its form, wherever its guards hold.
use Rattle.std.proofs.Common.{◌≡◌, ℕ, ℤ, pos, negsuc, neg_ℤ, ◌+ℤ◌, ◌-ℤ◌, ◌*ℤ◌, [], ◌∷◌, ◌++◌, List, Bool, true, false, ◌||◌, refl, sym, ◌∙◌, ap, arith}
use Rattle.std.specs.Prelude.{◌≤ℤ◌, IsTrue}
use Rattle.std.proofs.lemmas.Int.{ints}
use Rattle.std.proofs.lemmas.Bool.{and_parts}
use Rattle.cf_num.proofs.Ring.{ring}
use Rattle.cf_tree.specs.Numbers.{quotient, absolute}
use Rattle.cf_tree.specs.RelTree.{TermTree, term_lit, term_var, term_card, term_neg, term_add, term_sub, term_mul, term_div, term_mod, term_abs}
use Rattle.cf_tree.specs.Relation.{is_fixed, IsLinearTerm}
use Rattle.cf_linear.specs.Rows.{Row, Values, entry, value, is_zero, put, comb}
use Rattle.cf_linear.specs.Layout.{Layout, number_column}
use Rattle.cf_linear.specs.Written.{val_at, GuardTree, sign_guard, quotient_guard, GuardsHold, constant_row, plus, write, WrittenTree, first_sign, signed_by, product_by}
use Rattle.cf_linear.proofs.BoolLemmas.{on_bool}
use Rattle.cf_linear.proofs.RowLemmas.{value-put, value-comb, entry-comb}
use Rattle.cf_linear.proofs.ValueLemmas.{one_z}

pub GuardsHold-append : (v : Values) (g h : List GuardTree) → GuardsHold v (g ++ h) → GuardsHold v g × GuardsHold v h
GuardsHold-append v [] h p = (tt, p)
GuardsHold-append v (x ∷ g) h p = let q = GuardsHold-append v g h p.1 in ((p.0, q.0), q.1)

-- a row of the constant alone
pub record IsConstant (r : Row) : Type 0 where
  pub is : (v : Values) → value v r ≡ entry r 0 *ℤ v 0

constant-comb : (a : ℤ) (r : Row) (b : ℤ) (s : Row) → IsConstant r → IsConstant s → IsConstant (comb a r b s)
constant-comb a r b s p q = record { is = λ v. value-comb v a r b s ∙ rw (p.is v, q.is v, entry-comb 0 a r b s) (simp ring (omega (arith, ints))) }

constant-none : IsConstant []
constant-none = record { is = λ v. omega (arith, ints) }

alone_at : (n x : ℤ) → n *ℤ x +ℤ pos 0 ≡ (n +ℤ pos 0) *ℤ x
alone_at n x = let e : n +ℤ pos 0 ≡ n = omega (arith, ints) in rw e (omega (arith, ints))

constant-row : (n : ℤ) → IsConstant (constant_row n)
constant-row n = on_bool (is_zero n) (λ e. rw e constant-none) (λ e. rw e (record { is = λ v. alone_at n (v 0) }))

constant-product : (b : Bool) (r s : Row) → IsConstant r → IsConstant s → IsConstant (product_by b r s)
constant-product true r s p q = constant-comb (entry r 0) s (pos 0) [] q constant-none
constant-product false r s p q = constant-comb (entry s 0) r (pos 0) [] p constant-none

constant-signed : (b : Bool) (w : WrittenTree) → IsConstant w.row → IsConstant (signed_by b w).row
constant-signed true w p = constant-comb (negsuc 0) w.row (pos 0) [] p constant-none
constant-signed false w p = p

pub constant-fixed : (l : Layout) (t : TermTree) (ss : List Bool) (q : ℕ) → is_fixed t ≡ true → IsConstant (write l t ss q).row
constant-fixed l (term_lit n) ss q e = constant-row n
constant-fixed l (term_var x) ss q e = cc
constant-fixed l (term_card s) ss q e = cc
constant-fixed l (term_neg a) ss q e = constant-comb (negsuc 0) (write l a ss q).row (pos 0) [] (constant-fixed l a ss q e) constant-none
constant-fixed l (term_add a b) ss q e =
    let p = and_parts (is_fixed a) (is_fixed b) e in
    let w = write l a ss q in
    constant-comb (pos 1) w.row (pos 1) (write l b w.signs w.next).row (constant-fixed l a ss q p.0) (constant-fixed l b w.signs w.next p.1)
constant-fixed l (term_sub a b) ss q e =
    let p = and_parts (is_fixed a) (is_fixed b) e in
    let w = write l a ss q in
    constant-comb (pos 1) w.row (negsuc 0) (write l b w.signs w.next).row (constant-fixed l a ss q p.0) (constant-fixed l b w.signs w.next p.1)
constant-fixed l (term_mul a b) ss q e =
    let p = and_parts (is_fixed a) (is_fixed b) e in
    let w = write l a ss q in
    let u = write l b w.signs w.next in
    constant-product (is_fixed a) w.row u.row (constant-fixed l a ss q p.0) (constant-fixed l b w.signs w.next p.1)
constant-fixed l (term_div a k) ss q e = cc
constant-fixed l (term_mod a k) ss q e = cc
constant-fixed l (term_abs a) ss q e = let w = write l a ss q in constant-signed (first_sign w.signs) w (constant-fixed l a ss q e)

pub value-times : (v : Values) (k : ℤ) (r : Row) → value v (comb k r (pos 0) []) ≡ k *ℤ value v r
value-times v k r = value-comb v k r (pos 0) [] ∙ omega (arith, ints)

pub value-plus : (v : Values) (r : Row) (n : ℤ) → v 0 ≡ pos 1 → value v (plus r n) ≡ value v r +ℤ n
value-plus v r n one = value-comb v (pos 1) r (pos 1) (constant_row n) ∙ rw (value-put v 0 n [], one) (omega (arith, ints))

minus_absolute : (z : ℤ) → pos 0 ≤ℤ (negsuc 0 *ℤ z +ℤ negsuc 0) → negsuc 0 *ℤ z ≡ absolute z
minus_absolute z h = omega (arith, ints)

plus_absolute : (z : ℤ) → pos 0 ≤ℤ z → z ≡ absolute z
plus_absolute z h = omega (arith, ints)

mul_one : (k : ℤ) → k *ℤ pos 1 ≡ k
mul_one k = omega (arith, ints)

mod_is : (z k q : ℤ) → pos 1 *ℤ z +ℤ neg_ℤ k *ℤ q ≡ z -ℤ k *ℤ q
mod_is z k q = simp ring (omega (arith, ints))

constant_is : (v : Values) → v 0 ≡ pos 1 → (r : Row) (x : ℤ) → IsConstant r → value v r ≡ x → entry r 0 ≡ x
constant_is v one r x p e = let c : value v r ≡ entry r 0 *ℤ pos 1 = rw one at (p.is v) in sym (mul_one (entry r 0)) ∙ sym c ∙ e

product-value : (v : Values) → v 0 ≡ pos 1 → (b : Bool) (r s : Row) (x y : ℤ) → value v r ≡ x → value v s ≡ y → (b ≡ true → IsConstant r) →
    (b ≡ false → IsConstant s) →
    value v (product_by b r s) ≡ x *ℤ y
product-value v one true r s x y e f p q = value-times v (entry r 0) s ∙ rw (constant_is v one r x (p refl) e, f) refl
product-value v one false r s x y e f p q = value-times v (entry s 0) r ∙ rw (constant_is v one s y (q refl) f, e) (omega (arith, ints))

signed-value : (v : Values) → v 0 ≡ pos 1 → (b : Bool) (w : WrittenTree) (z : ℤ) → (GuardsHold v w.guards → value v w.row ≡ z) →
    GuardsHold v (signed_by b w).guards →
    value v (signed_by b w).row ≡ absolute z
signed-value v one true w z e g =
    let h = GuardsHold-append v w.guards (sign_guard (plus (comb (negsuc 0) w.row (pos 0) []) (negsuc 0)) ∷ []) g in
    let x = e h.0 in
    let t = value-times v (negsuc 0) w.row in
    let m : pos 0 ≤ℤ (negsuc 0 *ℤ z +ℤ negsuc 0) = rw (value-plus v (comb (negsuc 0) w.row (pos 0) []) (negsuc 0) one, t, x) at h.1.0 in
    t ∙ rw x (minus_absolute z m)
signed-value v one false w z e g =
    let h = GuardsHold-append v w.guards (sign_guard w.row ∷ []) g in
    let x = e h.0 in
    let m : pos 0 ≤ℤ z = rw x at h.1.0 in
    x ∙ plus_absolute z m

pub other_side : (a b : Bool) → IsTrue (a || b) → a ≡ false → b ≡ true
other_side true b t e = cc
other_side false true t e = refl
other_side false false t e = cc

pub write-value : (l : Layout) (v : Values) → v 0 ≡ pos 1 → (t : TermTree) (ss : List Bool) (q : ℕ) → IsLinearTerm t → GuardsHold v (write l t ss q).guards →
    value v (write l t ss q).row ≡ val_at l v t
write-value l v one (term_lit n) ss q p g = value-put v 0 n [] ∙ rw one (omega (arith, ints))
write-value l v one (term_var x) ss q p g = value-put v (number_column l x) (pos 1) [] ∙ omega (arith, ints)
write-value l v one (term_card s) ss q p g = refl
write-value l v one (term_neg a) ss q p g = value-times v (negsuc 0) (write l a ss q).row ∙ rw (write-value l v one a ss q p g) (omega (arith, ints))
write-value l v one (term_add a b) ss q p g =
    let w = write l a ss q in
    let u = write l b w.signs w.next in
    let h = GuardsHold-append v w.guards u.guards g in
    value-comb v (pos 1) w.row (pos 1) u.row ∙ rw (write-value l v one a ss q p.0 h.0, write-value l v one b w.signs w.next p.1 h.1) (omega (arith, ints))
write-value l v one (term_sub a b) ss q p g =
    let w = write l a ss q in
    let u = write l b w.signs w.next in
    let h = GuardsHold-append v w.guards u.guards g in
    value-comb v (pos 1) w.row (negsuc 0) u.row ∙ rw (write-value l v one a ss q p.0 h.0, write-value l v one b w.signs w.next p.1 h.1) (omega (arith, ints))
write-value l v one (term_mul a b) ss q p g =
    let w = write l a ss q in
    let u = write l b w.signs w.next in
    let h = GuardsHold-append v w.guards u.guards g in
    product-value v one (is_fixed a) w.row u.row (val_at l v a) (val_at l v b) (write-value l v one a ss q p.0 h.0)
    (write-value l v one b w.signs w.next p.1 h.1)
    (λ e. constant-fixed l a ss q e) (λ e. constant-fixed l b w.signs w.next (other_side (is_fixed a) (is_fixed b) p.2 e))
write-value l v one (term_div a k) ss q p g =
    let w = write l a ss q in
    let h = GuardsHold-append v w.guards (quotient_guard w.next w.row k ∷ []) g in
    value-put v w.next (pos 1) [] ∙ one_z (v w.next) ∙ h.1.0 ∙ ap (λ z. quotient z k) (write-value l v one a ss q p h.0)
write-value l v one (term_mod a k) ss q p g =
    let w = write l a ss q in
    let h = GuardsHold-append v w.guards (quotient_guard w.next w.row k ∷ []) g in
    let x = write-value l v one a ss q p h.0 in
    let f : value v (put w.next (pos 1) []) ≡ quotient (val_at l v a) k = value-put v w.next (pos 1) [] ∙ one_z (v w.next) ∙ h.1.0 ∙ ap (λ z. quotient z k) x in
    value-comb v (pos 1) w.row (neg_ℤ k) (put w.next (pos 1) []) ∙ ap (λ z. pos 1 *ℤ z +ℤ neg_ℤ k *ℤ value v (put w.next (pos 1) [])) x ∙
    ap (λ y. pos 1 *ℤ val_at l v a +ℤ neg_ℤ k *ℤ y) f ∙ mod_is (val_at l v a) k (quotient (val_at l v a) k)
write-value l v one (term_abs a) ss q p g =
    let w = write l a ss q in
    signed-value v one (first_sign w.signs) w (val_at l v a) (λ h. write-value l v one a ss q p h) g
