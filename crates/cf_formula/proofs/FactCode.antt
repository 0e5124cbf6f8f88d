-- What one row after the other says.
use Rattle.std.proofs.Common.{◌≡◌, ℕ, ◌+◌, ◌<◌, ◌≤◌, ℤ, pos, neg_ℤ, ◌+ℤ◌, List, ◌∷◌, true, false, not, ◌&&◌, ◌||◌, Option, Some, None, refl, sym, ◌∙◌, ap, arith, get_or, length, drop, drop-cons, add-one}
use Rattle.std.specs.Prelude.{int_lt}
use Rattle.std.specs.List.{list_any}
use Rattle.std.proofs.lemmas.Int.{ints}
use Rattle.std.proofs.lemmas.Bool.{cond_both}
use Rattle.std.proofs.Math.ListN.{drop_of_length-le}
use Rattle.cf_linear.specs.Arm.{negated}
use Rattle.cf_linear.specs.Rows.{Row, entry, same_row}
use Rattle.cf_linear.proofs.BoolLemmas.{on_bool}
use Rattle.cf_formula.specs.Atoms.{key}
use Rattle.cf_formula.specs.Facts.{lesser, best, is_at_most, sums_below, is_implied, is_excluded, settled_eq}
use Rattle.cf_formula.specs.Formulas.{Formula, always, never, at_least, equal, both, either}
use Rattle.cf_formula.specs.Rewriting.{some_atom}
use Rattle.cf_formula.proofs.AtomLaws.{lt_so, not_lt_so}
use Rattle.cf_formula.proofs.TestLemmas.{both_ways, or_so, or_left, or_right, lt_is, ge_is}

-- ---- the least constant
least_at_most : (c : ℤ) (o : Option ℤ) (k : ℤ) → is_at_most (lesser c o) k ≡ (not (int_lt k c) || is_at_most o k)
least_at_most c None k = on_bool (int_lt k c) (λ e. rw e refl) (λ e. rw e refl)
least_at_most c (Some d) k =
    let a = not (int_lt k c) in
    let b = not (int_lt k d) in
    cond_both (int_lt d c) d c (λ m. not (int_lt k m) ≡ (not (int_lt k c) || not (int_lt k d)))
    (λ e.
    let l = lt_so d c e in
    both_ways b (a || b) (or_right a b)
    (or_so a b (b ≡ true) (λ t. let i = not_lt_so k c t in let j = ge_is k d (omega (arith, ints)) in rw j refl) (λ t. t)))
    (λ e.
    let l = not_lt_so d c (rw e refl) in
    both_ways a (a || b) (or_left a b)
    (or_so a b (a ≡ true) (λ t. t) (λ t. let i = not_lt_so k d t in let j = ge_is k c (omega (arith, ints)) in rw j refl)))

least_below : (c : ℤ) (o : Option ℤ) (k : ℤ) → sums_below (lesser c o) k ≡ (int_lt (c +ℤ k) (pos 0) || sums_below o k)
least_below c None k = on_bool (int_lt (c +ℤ k) (pos 0)) (λ e. rw e refl) (λ e. rw e refl)
least_below c (Some d) k =
    let a = int_lt (c +ℤ k) (pos 0) in
    let b = int_lt (d +ℤ k) (pos 0) in
    cond_both (int_lt d c) d c (λ m. int_lt (m +ℤ k) (pos 0) ≡ (int_lt (c +ℤ k) (pos 0) || int_lt (d +ℤ k) (pos 0)))
    (λ e.
    let l = lt_so d c e in
    both_ways b (a || b) (or_right a b)
    (or_so a b (b ≡ true) (λ t. let i = lt_so (c +ℤ k) (pos 0) t in lt_is (d +ℤ k) (pos 0) (omega (arith, ints))) (λ t. t)))
    (λ e.
    let l = not_lt_so d c (rw e refl) in
    both_ways a (a || b) (or_left a b)
    (or_so a b (a ≡ true) (λ t. t) (λ t. let i = lt_so (d +ℤ k) (pos 0) t in lt_is (c +ℤ k) (pos 0) (omega (arith, ints)))))

best_at_most : (r : Row) (rows : List Row) (w : Row) (k : ℤ) →
    is_at_most (best (r ∷ rows) w) k ≡ ((same_row (key r) w && not (int_lt k (entry r 0))) || is_at_most (best rows w) k)
best_at_most r rows w k = on_bool (same_row (key r) w) (λ e. rw e (least_at_most (entry r 0) (best rows w) k)) (λ e. rw e refl)

best_below : (r : Row) (rows : List Row) (w : Row) (k : ℤ) →
    sums_below (best (r ∷ rows) w) k ≡ ((same_row (key r) w && int_lt (entry r 0 +ℤ k) (pos 0)) || sums_below (best rows w) k)
best_below r rows w k = on_bool (same_row (key r) w) (λ e. rw e (least_below (entry r 0) (best rows w) k)) (λ e. rw e refl)

-- ---- one row after the other
row_at : (rows : List Row) (i : ℕ) (b : Row) → i < length rows → b ≡ get_or rows i b → drop i rows ≡ b ∷ drop (i + 1) rows
row_at rows i b h e =
    let d : drop i rows ≡ get_or rows i b ∷ drop (i + 1) rows = rw (add-one, drop-cons rows i b) refl in
    d ∙ ap (λ (x : Row). x ∷ drop (i + 1) rows) (sym e)

pub implied_next : (rows : List Row) (r w : Row) (i : ℕ) (b : Row) → i < length rows → b ≡ get_or rows i b → w ≡ key r →
    is_implied (drop i rows) r ≡ ((same_row (key b) w && not (int_lt (entry r 0) (entry b 0))) || is_implied (drop (i + 1) rows) r)
implied_next rows r w i b h e f = rw (f, row_at rows i b h e) (best_at_most b (drop (i + 1) rows) (key r) (entry r 0))

pub implied_end : (rows : List Row) (r : Row) (i : ℕ) → length rows ≤ i → is_implied (drop i rows) r ≡ false
implied_end rows r i h = rw (drop_of_length-le rows h) refl

pub opposed_next : (rows : List Row) (r w : Row) (i : ℕ) (b : Row) → i < length rows → b ≡ get_or rows i b → w ≡ negated (key r) →
    is_excluded (drop i rows) r ≡ ((same_row (key b) w && int_lt (entry b 0 +ℤ entry r 0) (pos 0)) || is_excluded (drop (i + 1) rows) r)
opposed_next rows r w i b h e f = rw (f, row_at rows i b h e) (best_below b (drop (i + 1) rows) (negated (key r)) (entry r 0))

pub opposed_end : (rows : List Row) (r : Row) (i : ℕ) → length rows ≤ i → is_excluded (drop i rows) r ≡ false
opposed_end rows r i h = rw (drop_of_length-le rows h) refl

pub excluded_next : (all rows : List Row) (i : ℕ) (b : Row) → i < length rows → b ≡ get_or rows i b →
    list_any (is_excluded all) (drop i rows) ≡ (is_excluded all b || list_any (is_excluded all) (drop (i + 1) rows))
excluded_next all rows i b h e = ap (list_any (is_excluded all)) (row_at rows i b h e)

pub excluded_end : (all rows : List Row) (i : ℕ) → length rows ≤ i → list_any (is_excluded all) (drop i rows) ≡ false
excluded_end all rows i h = rw (drop_of_length-le rows h) refl

-- ---- an equation
pub settled_never : (rows : List Row) (r t : Row) → t ≡ negated r → (is_excluded rows r || is_excluded rows t) ≡ true → never ≡ settled_eq rows r
settled_never rows r t e h = let k : (is_excluded rows r || is_excluded rows (negated r)) ≡ true = rw (← e) h in rw k refl

pub settled_open : (rows : List Row) (r t : Row) → t ≡ negated r → is_excluded rows r ≡ false → is_excluded rows t ≡ false →
    (is_implied rows r && is_implied rows t) ≡ false → equal r ≡ settled_eq rows r
settled_open rows r t e f g h =
    let k : is_excluded rows (negated r) ≡ false = rw (← e) g in
    let l : (is_implied rows r && is_implied rows (negated r)) ≡ false = rw (← e) h in
    rw (f, k, l) refl

pub settled_always : (rows : List Row) (r t : Row) → t ≡ negated r → is_excluded rows r ≡ false → is_excluded rows t ≡ false →
    is_implied rows r ≡ true → is_implied rows t ≡ true → always ≡ settled_eq rows r
settled_always rows r t e f g h i =
    let k : is_excluded rows (negated r) ≡ false = rw (← e) g in
    let l : is_implied rows (negated r) ≡ true = rw (← e) i in
    rw (f, k, h, l) refl

-- ---- constants
pub sum_below : (a b : ℤ) → int_lt a (neg_ℤ b) ≡ int_lt (a +ℤ b) (pos 0)
sum_below a b =
    both_ways (int_lt a (neg_ℤ b)) (int_lt (a +ℤ b) (pos 0)) (λ e. let l = lt_so a (neg_ℤ b) e in lt_is (a +ℤ b) (pos 0) (omega (arith, ints)))
    (λ e. let l = lt_so (a +ℤ b) (pos 0) e in lt_is a (neg_ℤ b) (omega (arith, ints)))

-- ---- nothing passes the limit
pub never_passes : (f : Formula) → some_atom (λ (r : Row). false) f ≡ true → ⊥
never_passes always e = cc e
never_passes never e = cc e
never_passes (at_least r) e = cc e
never_passes (equal r) e = cc e
never_passes (both f g) e = on_bool (some_atom (λ (r : Row). false) f) (λ t. never_passes f t) (λ t. never_passes g (rw t at e))
never_passes (either f g) e = on_bool (some_atom (λ (r : Row). false) f) (λ t. never_passes f t) (λ t. never_passes g (rw t at e))
