-- The rows of a guard are at least 0 exactly where the guard holds.
use Rattle.std.proofs.Common.{◌≡◌, ℕ, ℤ, pos, negsuc, neg_ℤ, ◌+ℤ◌, ◌-ℤ◌, ◌*ℤ◌, List, [], ◌∷◌, ◌++◌, refl, sym, ◌∙◌, ap, arith}
use Rattle.std.specs.Prelude.{◌≤ℤ◌, ◌<ℤ◌, int_lt}
use Rattle.std.specs.Int.{int_div_euclid}
use Rattle.std.specs.List.{flat_map}
use Rattle.std.proofs.lemmas.Bool.{cond_both}
use Rattle.std.proofs.lemmas.Int.{ints}
use Rattle.cf_num.proofs.Ring.{neg-mul_z}
use Rattle.cf_num.proofs.DivisionLemmas.{int_div_euclid-bounds, int_div_euclid_once}
use Rattle.cf_tree.specs.Numbers.{quotient}
use Rattle.cf_tree.proofs.SetLemmas.{lt_not}
use Rattle.cf_linear.specs.Rows.{Row, Values, value, put, comb}
use Rattle.cf_linear.specs.Systems.{EachRow}
use Rattle.cf_linear.specs.Keep.{Same}
use Rattle.cf_linear.specs.Written.{GuardTree, sign_guard, quotient_guard, GuardHolds, GuardsHold, above_quotient, below_quotient, guard_rows}
use Rattle.cf_linear.proofs.RowLemmas.{value-put, value-comb}
use Rattle.cf_linear.proofs.WrittenLemmas.{value-plus}
use Rattle.cf_linear.proofs.KindLemmas.{EachRow-append, EachRow-split}
use Rattle.cf_cases.specs.Holding.{EachOf}
use Rattle.cf_cases.proofs.BelowLaws.{GuardFits, value-same}

pub quotient-is : (z k : ℤ) → pos 1 ≤ℤ k → quotient z k ≡ int_div_euclid z k
quotient-is z k p = cond_both (int_lt (pos 0) k) (int_div_euclid z k) (pos 0) (λ x. x ≡ int_div_euclid z k) (λ e. refl)
    (λ e. absurd (let l = lt_not (pos 0) k e in omega (arith, ints)))

-- ---- rows
pub value-column : (v : Values) (c : ℕ) → value v (put c (pos 1) []) ≡ v c
value-column v c = value-put v c (pos 1) [] ∙ omega (arith, ints)

above_is : (z x k c : ℤ) → x ≡ k *ℤ c → pos 1 *ℤ z +ℤ neg_ℤ x ≡ z -ℤ x
above_is z x k c e = omega (arith, ints)

pub value-above : (v : Values) (c : ℕ) (r : Row) (k : ℤ) → value v (above_quotient c r k) ≡ value v r -ℤ k *ℤ v c
value-above v c r k = value-comb v (pos 1) r (neg_ℤ k) (put c (pos 1) []) ∙
    rw (value-column v c, neg-mul_z k (v c)) (above_is (value v r) (k *ℤ v c) k (v c) refl)

below_is : (z x m : ℤ) → negsuc 0 *ℤ z +ℤ x +ℤ m ≡ x +ℤ m -ℤ z
below_is z x m = omega (arith, ints)

pub value-below : (v : Values) (c : ℕ) (r : Row) (k : ℤ) → v 0 ≡ pos 1 → value v (below_quotient c r k) ≡ k *ℤ v c +ℤ (k -ℤ pos 1) -ℤ value v r
value-below v c r k one =
    value-plus v (comb (negsuc 0) r k (put c (pos 1) [])) (k -ℤ pos 1) one ∙
    rw (value-comb v (negsuc 0) r k (put c (pos 1) []), value-column v c) (below_is (value v r) (k *ℤ v c) (k -ℤ pos 1))

-- ---- quotients
between : (z x k : ℤ) → pos 0 ≤ℤ (z -ℤ x) → pos 0 ≤ℤ (x +ℤ (k -ℤ pos 1) -ℤ z) → (x ≤ℤ z) × (z <ℤ (x +ℤ k))
between z x k h i = (omega (arith, ints), omega (arith, ints))

outside : (z x k : ℤ) → x ≤ℤ z → z <ℤ (x +ℤ k) → (pos 0 ≤ℤ (z -ℤ x)) × (pos 0 ≤ℤ (x +ℤ (k -ℤ pos 1) -ℤ z))
outside z x k h i = (omega (arith, ints), omega (arith, ints))

pub positive : (k : ℤ) → pos 1 ≤ℤ k → pos 0 <ℤ k
positive k h = omega (arith, ints)

pub quotient_from_rows : (z k c : ℤ) → pos 1 ≤ℤ k → pos 0 ≤ℤ (z -ℤ k *ℤ c) → pos 0 ≤ℤ (k *ℤ c +ℤ (k -ℤ pos 1) -ℤ z) → c ≡ quotient z k
quotient_from_rows z k c p h i = let b = between z (k *ℤ c) k h i in sym (quotient-is z k p ∙ int_div_euclid_once z k c (positive k p) b.0 b.1)

pub rows_from_quotient : (z k c : ℤ) → pos 1 ≤ℤ k → c ≡ quotient z k → (pos 0 ≤ℤ (z -ℤ k *ℤ c)) × (pos 0 ≤ℤ (k *ℤ c +ℤ (k -ℤ pos 1) -ℤ z))
rows_from_quotient z k c p e =
    let b = int_div_euclid-bounds z k (positive k p) in
    let f : c ≡ int_div_euclid z k = e ∙ quotient-is z k p in
    outside z (k *ℤ c) k (rw f b.0) (rw f b.1)

-- ---- guards
pub guard_from_rows : (v : Values) → v 0 ≡ pos 1 → (n : ℕ) (g : GuardTree) → GuardFits n g → EachRow (λ r. pos 0 ≤ℤ value v r) (guard_rows g) → GuardHolds v g
guard_from_rows v one n (sign_guard r) f p = p.0
guard_from_rows v one n (quotient_guard c r k) f p = quotient_from_rows (value v r) k (v c) f.2 (rw (value-above v c r k) at p.0)
    (rw (value-below v c r k one) at p.1.0)

pub rows_from_guard : (v : Values) → v 0 ≡ pos 1 → (n : ℕ) (g : GuardTree) → GuardFits n g → GuardHolds v g → EachRow (λ r. pos 0 ≤ℤ value v r) (guard_rows g)
rows_from_guard v one n (sign_guard r) f p = (p, tt)
rows_from_guard v one n (quotient_guard c r k) f p =
    let b = rows_from_quotient (value v r) k (v c) f.2 p in (rw (value-above v c r k) b.0, (rw (value-below v c r k one) b.1, tt))

pub guards_from_rows : (v : Values) → v 0 ≡ pos 1 → (n : ℕ) (gs : List GuardTree) → EachOf (GuardFits n) gs →
    EachRow (λ r. pos 0 ≤ℤ value v r) (flat_map guard_rows gs) → GuardsHold v gs
guards_from_rows v one n [] f p = tt
guards_from_rows v one n (g ∷ gs) f p =
    let q = EachRow-split (λ r. pos 0 ≤ℤ value v r) (guard_rows g) (flat_map guard_rows gs) p in
    (guard_from_rows v one n g f.0 q.0, guards_from_rows v one n gs f.1 q.1)

pub rows_from_guards : (v : Values) → v 0 ≡ pos 1 → (n : ℕ) (gs : List GuardTree) → EachOf (GuardFits n) gs → GuardsHold v gs →
    EachRow (λ r. pos 0 ≤ℤ value v r) (flat_map guard_rows gs)
rows_from_guards v one n [] f p = tt
rows_from_guards v one n (g ∷ gs) f p = EachRow-append (λ r. pos 0 ≤ℤ value v r) (guard_rows g) (flat_map guard_rows gs) (rows_from_guard v one n g f.0 p.0)
    (rows_from_guards v one n gs f.1 p.1)

pub guards-join : (v : Values) (gs hs : List GuardTree) → GuardsHold v gs → GuardsHold v hs → GuardsHold v (gs ++ hs)
guards-join v [] hs p q = q
guards-join v (g ∷ gs) hs p q = (p.0, guards-join v gs hs p.1 q)

guard-same : (n : ℕ) (v w : Values) → Same n v w → (g : GuardTree) → GuardFits n g → GuardHolds v g → GuardHolds w g
guard-same n v w s (sign_guard r) f p = rw (value-same n v w r s f) at p
guard-same n v w s (quotient_guard c r k) f p = sym (s c f.0) ∙ p ∙ ap (λ z. quotient z k) (value-same n v w r s f.1)

pub guards-same : (n : ℕ) (v w : Values) → Same n v w → (gs : List GuardTree) → EachOf (GuardFits n) gs → GuardsHold v gs → GuardsHold w gs
guards-same n v w s [] f p = tt
guards-same n v w s (g ∷ gs) f p = (guard-same n v w s g f.0 p.0, guards-same n v w s gs f.1 p.1)
