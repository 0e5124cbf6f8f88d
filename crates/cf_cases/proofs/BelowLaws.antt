-- Rows whose columns are below a column.
use Rattle.std.proofs.Common.{◌≡◌, ℕ, zero, suc, ◌+◌, ◌-◌, ◌^◌, ◌<◌, ◌≤◌, ◌==◌, ℤ, pos, negsuc, neg_ℤ, ◌-ℤ◌, ◌+ℤ◌, ◌*ℤ◌, List, [], ◌∷◌, Bool, true, false}
use Rattle.std.proofs.Common.{◌||◌, length, map, filter, refl, arith}
use Rattle.std.specs.Prelude.{nat_lt, IsTrue, ◌≤ℤ◌}
use Rattle.std.specs.List.{range_with_len}
use Rattle.std.proofs.lemmas.Bool.{cond_both}
use Rattle.std.proofs.lemmas.Nat.{pow_pos}
use Rattle.cf_tree.specs.RelTree.{TermTree, term_lit, term_var, term_card, term_neg, term_add, term_sub, term_mul, term_div, term_mod, term_abs}
use Rattle.cf_tree.specs.Relation.{is_fixed}
use Rattle.cf_linear.specs.Rows.{Row, Values, entry, value, is_zero, put, add_at, comb, AreBelow}
use Rattle.cf_linear.specs.Keep.{Same}
use Rattle.cf_linear.specs.Layout.{Layout, set_count, has_level, place, covers, number_column, region_column, first_free, region_row}
use Rattle.cf_linear.specs.Written.{GuardTree, sign_guard, quotient_guard, constant_row, plus, above_quotient, below_quotient, WrittenTree, from_one}
use Rattle.cf_linear.specs.Written.{from_two, with_quotient, signed_by, first_sign, product_by, write, IsPlaced}
use Rattle.cf_linear.proofs.BoolLemmas.{on_bool}
use Rattle.cf_linear.proofs.Joining.{AreBelow-raise}
use Rattle.cf_linear.proofs.WritingLemmas.{write-next}
use Rattle.cf_linear.proofs.WrittenLemmas.{other_side}
use Rattle.cf_cases.specs.Holding.{EachOf}
use Rattle.cf_cases.proofs.Quantifiers.{each-append, each-imp}

-- ---- rows
pub below-put : (n c : ℕ) (k : ℤ) (r : Row) → c < n → AreBelow n r → AreBelow n (put c k r)
below-put n c k r h p = cond_both (is_zero k) r ((c, k) ∷ r) (λ x. AreBelow n x) (λ e. p) (λ e. (h, p))

pub below-add_at : (n c : ℕ) (k : ℤ) (r : Row) → c < n → AreBelow n r → AreBelow n (add_at c k r)
below-add_at n c k [] h p = below-put n c k [] h tt
below-add_at n c k ((d, m) ∷ r) h p =
    cond_both (nat_lt c d) _ _ (λ x. AreBelow n x)
    (λ e. below-put n c k ((d, m) ∷ r) h p)
    (λ e. cond_both (c == d) _ _ (λ x. AreBelow n x) (λ f. below-put n c (k +ℤ m) r h p.1) (λ f. (p.0, below-add_at n c k r h p.1)))

pub below-comb : (n : ℕ) (a : ℤ) (r : Row) (b : ℤ) (s : Row) → AreBelow n r → AreBelow n s → AreBelow n (comb a r b s)
below-comb n a [] b [] p q = tt
below-comb n a [] b ((d, m) ∷ s) p q = below-put n d (b *ℤ m) (comb a [] b s) q.0 (below-comb n a [] b s p q.1)
below-comb n a ((c, k) ∷ r) b s p q = below-add_at n c (a *ℤ k) (comb a r b s) p.0 (below-comb n a r b s p.1 q)

pub value-same : (n : ℕ) (v w : Values) (r : Row) → Same n v w → AreBelow n r → value v r ≡ value w r
value-same n v w [] h p = refl
value-same n v w ((c, k) ∷ r) h p = rw (h c p.0, value-same n v w r h p.1) refl

pub below-plus : (n : ℕ) (r : Row) (z : ℤ) → 0 < n → AreBelow n r → AreBelow n (plus r z)
below-plus n r z h p = below-comb n (pos 1) r (pos 1) (constant_row z) p (below-put n 0 z [] h tt)

pub below-above_quotient : (n c : ℕ) (r : Row) (k : ℤ) → c < n → AreBelow n r → AreBelow n (above_quotient c r k)
below-above_quotient n c r k h p = below-comb n (pos 1) r (neg_ℤ k) (put c (pos 1) []) p (below-put n c (pos 1) [] h tt)

pub below-below_quotient : (n c : ℕ) (r : Row) (k : ℤ) → c < n → AreBelow n r → AreBelow n (below_quotient c r k)
below-below_quotient n c r k h p = below-plus n (comb (negsuc 0) r k (put c (pos 1) [])) (k -ℤ pos 1) (omega arith)
    (below-comb n (negsuc 0) r k (put c (pos 1) []) p (below-put n c (pos 1) [] h tt))

-- entries 1 at the columns of the numbers that pass
pub below-ones : (n : ℕ) (f : ℕ → ℕ) (p : ℕ → Bool) (a k : ℕ) → ((m : ℕ) → a ≤ m → m < a + k → f m < n) →
    AreBelow n (map (λ m. (f m, pos 1)) (filter p (range_with_len a k)))
below-ones n f p a zero h = tt
below-ones n f p a (suc k) h =
    let rest = below-ones n f p (a + 1) k (λ m x y. h m (omega arith) (omega arith)) in
    cond_both (p a) (a ∷ filter p (range_with_len (a + 1) k)) (filter p (range_with_len (a + 1) k)) (λ x. AreBelow n (map (λ m. (f m, pos 1)) x))
    (λ e. (h a (omega arith) (omega arith), rest)) (λ e. rest)

-- ---- columns of a layout
has_place : (x : ℕ) (xs : List ℕ) → has_level xs x ≡ true → place x xs < length xs
has_place x [] h = absurd (cc)
has_place x (y ∷ ys) h = on_bool (y == x) (λ e. rw e (omega arith)) (λ e. let k : has_level ys x ≡ true = rw e at h in let i = has_place x ys k in
    rw e (omega arith))

pub positive_free : (l : Layout) → 0 < first_free l
positive_free l = omega (arith, pow_pos (length l.inputs), pow_pos (set_count l))

pub number-below : (l : Layout) (x : ℕ) → IsTrue (has_level l.numbers x || has_level l.out_numbers x) → number_column l x < first_free l
number-below l x h = on_bool (has_level l.numbers x)
    (λ e. let p = has_place x l.numbers e in rw e (omega (arith, pow_pos (length l.inputs), pow_pos (set_count l))))
    (λ e. let p = has_place x l.out_numbers (other_side (has_level l.numbers x) (has_level l.out_numbers x) h e) in
    rw e (omega (arith, pow_pos (length l.inputs), pow_pos (set_count l))))

pub region-below : (l : Layout) (m : ℕ) → 1 ≤ m → m < 1 + (2 ^ set_count l - 1) → region_column l m < first_free l
region-below l m h k = omega (arith, pow_pos (length l.inputs), pow_pos (set_count l))

pub below-region_row : (l : Layout) (p : ℕ → Bool) → AreBelow (first_free l) (region_row l p)
below-region_row l p = below-ones (first_free l) (region_column l) p 1 (2 ^ set_count l - 1) (λ m a b. region-below l m a b)

-- ---- written forms
-- the rows of a guard are below n, and its divisor is at least 1
abbrev pub GuardFits : ℕ → GuardTree → Type 0
GuardFits n (sign_guard r) = AreBelow n r
GuardFits n (quotient_guard c r k) = (c < n) × AreBelow n r × (pos 1 ≤ℤ k)

pub guard-raise : (m n : ℕ) → m ≤ n → (g : GuardTree) → GuardFits m g → GuardFits n g
guard-raise m n h (sign_guard r) p = AreBelow-raise m n r h p
guard-raise m n h (quotient_guard c r k) p = (omega (arith, p.0), AreBelow-raise m n r h p.1, p.2)

pub record Fitting (w : WrittenTree) : Type 0 where
  pub row : AreBelow w.next w.row
  pub guards : EachOf (GuardFits w.next) w.guards

fitting-one : (w : WrittenTree) (r : Row) → Fitting w → AreBelow w.next r → Fitting (from_one w r)
fitting-one w r f p = record { row = p; guards = f.guards }

fitting-two : (w u : WrittenTree) (r : Row) → Fitting w → Fitting u → w.next ≤ u.next → AreBelow u.next r → Fitting (from_two w u r)
fitting-two w u r f g h p = record {
  row = p;
  guards = each-append (GuardFits u.next) w.guards u.guards
      (each-imp (GuardFits w.next) (GuardFits u.next) (guard-raise w.next u.next h) w.guards f.guards) g.guards;
}

fitting-quotient : (w : WrittenTree) (k : ℤ) (r : Row) → Fitting w → pos 1 ≤ℤ k → AreBelow (w.next + 1) r → Fitting (with_quotient w k r)
fitting-quotient w k r f h p = record {
  row = p;
  guards = each-append (GuardFits (w.next + 1)) w.guards (quotient_guard w.next w.row k ∷ [])
      (each-imp (GuardFits w.next) (GuardFits (w.next + 1)) (guard-raise w.next (w.next + 1) (omega arith)) w.guards f.guards)
      ((omega arith, AreBelow-raise w.next (w.next + 1) w.row (omega arith) f.row, h), tt);
}

fitting-sign : (b : Bool) (w : WrittenTree) → Fitting w → 0 < w.next → Fitting (signed_by b w)
fitting-sign true w f h =
    let t = below-comb w.next (negsuc 0) w.row (pos 0) [] f.row tt in
    record {
      row = t;
      guards = each-append (GuardFits w.next) w.guards (sign_guard (plus (comb (negsuc 0) w.row (pos 0) []) (negsuc 0)) ∷ []) f.guards
          (below-plus w.next (comb (negsuc 0) w.row (pos 0) []) (negsuc 0) h t, tt);
    }
fitting-sign false w f h = record { row = f.row; guards = each-append (GuardFits w.next) w.guards (sign_guard w.row ∷ []) f.guards (f.row, tt) }

below-product : (n : ℕ) (b : Bool) (r s : Row) → AreBelow n r → AreBelow n s → AreBelow n (product_by b r s)
below-product n true r s p q = below-comb n (entry r 0) s (pos 0) [] q tt
below-product n false r s p q = below-comb n (entry s 0) r (pos 0) [] p tt

pub write-fits : (l : Layout) (t : TermTree) (ss : List Bool) (q : ℕ) → IsPlaced l t → first_free l ≤ q → Fitting (write l t ss q)
write-fits l (term_lit n) ss q p h = record { row = below-put q 0 n [] (let z = positive_free l in omega arith) tt; guards = tt }
write-fits l (term_var x) ss q p h = record { row = below-put q (number_column l x) (pos 1) [] (let z = number-below l x p in omega arith) tt; guards = tt }
write-fits l (term_card s) ss q p h = record {
  row = AreBelow-raise (first_free l) q (region_row l (covers l s)) h (below-region_row l (covers l s));
  guards = tt;
}
write-fits l (term_neg a) ss q p h =
    let w = write l a ss q in
    let f = write-fits l a ss q p h in
    fitting-one w (comb (negsuc 0) w.row (pos 0) []) f (below-comb w.next (negsuc 0) w.row (pos 0) [] f.row tt)
write-fits l (term_add a b) ss q p h =
    let w = write l a ss q in
    let u = write l b w.signs w.next in
    let i : w.next ≤ u.next = omega (arith, write-next l b w.signs w.next) in
    let f = write-fits l a ss q p.0 h in
    let g = write-fits l b w.signs w.next p.1 (omega (arith, write-next l a ss q)) in
    fitting-two w u (comb (pos 1) w.row (pos 1) u.row) f g i (below-comb u.next (pos 1) w.row (pos 1) u.row (AreBelow-raise w.next u.next w.row i f.row) g.row)
write-fits l (term_sub a b) ss q p h =
    let w = write l a ss q in
    let u = write l b w.signs w.next in
    let i : w.next ≤ u.next = omega (arith, write-next l b w.signs w.next) in
    let f = write-fits l a ss q p.0 h in
    let g = write-fits l b w.signs w.next p.1 (omega (arith, write-next l a ss q)) in
    fitting-two w u (comb (pos 1) w.row (negsuc 0) u.row) f g i (below-comb u.next (pos 1) w.row (negsuc 0) u.row
    (AreBelow-raise w.next u.next w.row i f.row) g.row)
write-fits l (term_mul a b) ss q p h =
    let w = write l a ss q in
    let u = write l b w.signs w.next in
    let i : w.next ≤ u.next = omega (arith, write-next l b w.signs w.next) in
    let f = write-fits l a ss q p.0 h in
    let g = write-fits l b w.signs w.next p.1 (omega (arith, write-next l a ss q)) in
    fitting-two w u (product_by (is_fixed a) w.row u.row) f g i (below-product u.next (is_fixed a) w.row u.row (AreBelow-raise w.next u.next w.row i f.row)
    g.row)
write-fits l (term_div a k) ss q p h =
    let w = write l a ss q in
    let f = write-fits l a ss q p.0 h in
    fitting-quotient w k (put w.next (pos 1) []) f p.1.0 (below-put (w.next + 1) w.next (pos 1) [] (omega arith) tt)
write-fits l (term_mod a k) ss q p h =
    let w = write l a ss q in
    let f = write-fits l a ss q p.0 h in
    fitting-quotient w k (above_quotient w.next w.row k) f p.1.0 (below-above_quotient (w.next + 1) w.next w.row k (omega arith)
    (AreBelow-raise w.next (w.next + 1) w.row (omega arith) f.row))
write-fits l (term_abs a) ss q p h =
    let w = write l a ss q in
    let z = positive_free l in
    fitting-sign (first_sign w.signs) w (write-fits l a ss q p h) (omega (arith, write-next l a ss q))
