-- Whether a row of an atom passes the limit does not depend on the columns of its quotients.
use Rattle.std.proofs.Common.{◌≡◌, ℕ, ◌+◌, ◌-◌, ◌<◌, ◌≤◌, ◌==◌, ℤ, pos, negsuc, neg_ℤ, ◌-ℤ◌, ◌+ℤ◌, ◌*ℤ◌, List, [], ◌∷◌, ◌++◌, Bool, true, false, ◌||◌, cond}
use Rattle.std.proofs.Common.{refl, sym, ◌∙◌, ap, subst, arith}
use Rattle.std.specs.Prelude.{nat_lt}
use Rattle.std.specs.List.{list_any}
use Rattle.std.proofs.lemmas.Bool.{lt-ltb, le-ltb, ltb-true, ltb-false, eq-eqb, ne_eqb, eqb-true, eqb-false}
use Rattle.cf_tree.specs.declared.base.Order.{Order}
use Rattle.cf_tree.specs.declared.base.Order.TheVariants.{Eq, Ne, Lt, Le, Gt, Ge}
use Rattle.cf_tree.specs.RelTree.{TermTree, term_lit, term_var, term_card, term_neg, term_add, term_sub, term_mul, term_div, term_mod, term_abs}
use Rattle.cf_tree.specs.Relation.{is_fixed}
use Rattle.cf_linear.specs.Rows.{Row, entry, is_zero, put, add_at, comb, AreBelow, passes, row_passes}
use Rattle.cf_linear.specs.Layout.{Layout, covers, first_free, number_column, region_row}
use Rattle.cf_linear.specs.Written.{constant_row, plus, above_quotient, below_quotient, WrittenTree, first_sign, other_signs, signed_by, product_by, write}
use Rattle.cf_linear.specs.Written.{IsPlaced}
use Rattle.cf_linear.specs.Cases.{atom_true, atom_false, atom_compare, atom_divides, atom_not_divides, atom_same, atom_other, atom_subset, atom_not_subset}
use Rattle.cf_linear.specs.Cases.{Signed, less, compare_zero, compare_nonneg, write_atom}
use Rattle.cf_linear.proofs.BoolLemmas.{on_bool}
use Rattle.cf_linear.proofs.WritingLemmas.{write-next}
use Rattle.cf_cases.specs.Holding.{SignedFits}
use Rattle.cf_cases.proofs.BelowLaws.{positive_free, number-below, below-put, below-region_row}

or_same : (a b c d : Bool) → c ≡ a → d ≡ b → (c || d) ≡ (a || b)
or_same a b c d e f = rw (e, f) refl

-- ---- rows whose columns are moved
module _ (f : ℕ → ℕ) (before : (c d : ℕ) → nat_lt (f c) (f d) ≡ nat_lt c d) (same : (c d : ℕ) → (f c == f d) ≡ (c == d)) (still : f 0 ≡ 0) where
  abbrev moved : Row → Row
  moved [] = []
  moved ((c, k) ∷ r) = (f c, k) ∷ moved r

  moved-put : (c : ℕ) (k : ℤ) (r : Row) → put (f c) k (moved r) ≡ moved (put c k r)
  moved-put c k r = on_bool (is_zero k) (λ e. rw e refl) (λ e. rw e refl)

  moved-add : (c : ℕ) (k : ℤ) (r : Row) → add_at (f c) k (moved r) ≡ moved (add_at c k r)
  moved-add c k [] = moved-put c k []
  moved-add c k ((d, m) ∷ r) = on_bool (nat_lt c d)
      (λ e. rw (before c d, e) (moved-put c k ((d, m) ∷ r)))
      (λ e. on_bool (c == d) (λ g. rw (before c d, e, same c d, g) (moved-put c (k +ℤ m) r))
      (λ g. rw (before c d, e, same c d, g) (ap (λ x. (f d, m) ∷ x) (moved-add c k r))))

  moved-comb : (a : ℤ) (r : Row) (b : ℤ) (s : Row) → comb a (moved r) b (moved s) ≡ moved (comb a r b s)
  moved-comb a [] b [] = refl
  moved-comb a [] b ((d, m) ∷ s) = rw (moved-comb a [] b s) (moved-put d (b *ℤ m) (comb a [] b s))
  moved-comb a ((c, k) ∷ r) b s = rw (moved-comb a r b s) (moved-add c (a *ℤ k) (comb a r b s))

  is_constant : (d : ℕ) → (f d == 0) ≡ (d == 0)
  is_constant d = ap (λ z. f d == z) (sym still) ∙ same d 0

  moved-entry : (r : Row) → entry (moved r) 0 ≡ entry r 0
  moved-entry [] = refl
  moved-entry ((d, k) ∷ r) = rw (is_constant d, moved-entry r) refl

  moved-passes : (r s : Row) → s ≡ moved r → row_passes s ≡ row_passes r
  moved-passes r s e = ap row_passes e ∙ go r
    where
      go : (r : Row) → row_passes (moved r) ≡ row_passes r
      go [] = refl
      go ((c, k) ∷ r) = ap (λ b. passes k || b) (go r)

  moved-constant : (n : ℤ) → constant_row n ≡ moved (constant_row n)
  moved-constant n = ap (λ c. put c n []) (sym still) ∙ moved-put 0 n []

  moved-plus : (r s : Row) (n : ℤ) → s ≡ moved r → plus s n ≡ moved (plus r n)
  moved-plus r s n e = ap (λ x. plus x n) e ∙ ap (λ x. comb (pos 1) (moved r) (pos 1) x) (moved-constant n) ∙ moved-comb (pos 1) r (pos 1) (constant_row n)

  moved-above : (c d : ℕ) (r s : Row) (k : ℤ) → d ≡ f c → s ≡ moved r → above_quotient d s k ≡ moved (above_quotient c r k)
  moved-above c d r s k e g = rw (e, g) (moved-comb (pos 1) r (neg_ℤ k) (put c (pos 1) []))

  moved-below : (c d : ℕ) (r s : Row) (k : ℤ) → d ≡ f c → s ≡ moved r → below_quotient d s k ≡ moved (below_quotient c r k)
  moved-below c d r s k e g = moved-plus (comb (negsuc 0) r k (put c (pos 1) [])) (comb (negsuc 0) s k (put d (pos 1) [])) (k -ℤ pos 1)
      (rw (e, g) (moved-comb (negsuc 0) r k (put c (pos 1) [])))

  moved-two : (a : ℤ) (r r' : Row) (b : ℤ) (s s' : Row) → r' ≡ moved r → s' ≡ moved s → comb a r' b s' ≡ moved (comb a r b s)
  moved-two a r r' b s s' e g = rw (e, g) (moved-comb a r b s)

  moved-turned : (r r' : Row) → r' ≡ moved r → comb (negsuc 0) r' (pos 0) [] ≡ moved (comb (negsuc 0) r (pos 0) [])
  moved-turned r r' e = moved-two (negsuc 0) r r' (pos 0) [] [] e refl

  moved-product : (b : Bool) (r r' s s' : Row) → r' ≡ moved r → s' ≡ moved s → product_by b r' s' ≡ moved (product_by b r s)
  moved-product true r r' s s' e g = rw (e, g, moved-entry r) (moved-comb (entry r 0) s (pos 0) [])
  moved-product false r r' s s' e g = rw (e, g, moved-entry s) (moved-comb (entry s 0) r (pos 0) [])

  -- ---- written forms
  module _ (l : Layout) (low : (c : ℕ) → c < first_free l → f c ≡ c) (high : (c : ℕ) → first_free l ≤ c → f (c + 1) ≡ f c + 1) where
    not_moved : (r : Row) → AreBelow (first_free l) r → r ≡ moved r
    not_moved [] b = refl
    not_moved ((c, k) ∷ r) b = rw (low c b.0, ← not_moved r b.1) refl

    -- the second written form is the first one with its columns moved
    record Moved (w u : WrittenTree) : Type 0 where
      row : u.row ≡ moved w.row
      next : u.next ≡ f w.next
      signs : u.signs ≡ w.signs
      passes : u.passes ≡ w.passes

    moved-sign : (b : Bool) (w u : WrittenTree) → Moved w u → Moved (signed_by b w) (signed_by b u)
    moved-sign true w u m =
        let t = moved-turned w.row u.row m.row in
        let p = moved-plus (comb (negsuc 0) w.row (pos 0) []) (comb (negsuc 0) u.row (pos 0) []) (negsuc 0) t in
        record { row = t; next = m.next; signs = ap other_signs m.signs; passes = or_same _ _ _ _ m.passes (moved-passes _ _ p) }
    moved-sign false w u m = record { row = m.row; next = m.next; signs = ap other_signs m.signs; passes = m.passes }

    moved-write : (t : TermTree) (ss ss' : List Bool) (p q : ℕ) → IsPlaced l t → first_free l ≤ p → ss' ≡ ss → q ≡ f p →
        Moved (write l t ss p) (write l t ss' q)
    moved-write (term_lit n) ss ss' p q h i e g = record { row = moved-constant n; next = g; signs = e; passes = refl }
    moved-write (term_var x) ss ss' p q h i e g =
        record {
          row = not_moved (put (number_column l x) (pos 1) []) (below-put (first_free l) (number_column l x) (pos 1) [] (number-below l x h) tt);
          next = g;
          signs = e;
          passes = refl;
        }
    moved-write (term_card s) ss ss' p q h i e g = record {
      row = not_moved (region_row l (covers l s)) (below-region_row l (covers l s));
      next = g;
      signs =
          e;
      passes = refl;
    }
    moved-write (term_neg a) ss ss' p q h i e g =
        let m = moved-write a ss ss' p q h i e g in
        let r = moved-turned (write l a ss p).row (write l a ss' q).row m.row in
        record { row = r; next = m.next; signs = m.signs; passes = or_same _ _ _ _ m.passes (moved-passes _ _ r) }
    moved-write (term_add a b) ss ss' p q h i e g =
        let w = write l a ss p in
        let w' = write l a ss' q in
        let m = moved-write a ss ss' p q h.0 i e g in
        let n = moved-write b w.signs w'.signs w.next w'.next h.1 (omega (arith, write-next l a ss p)) m.signs m.next in
        let r = moved-two (pos 1) w.row w'.row (pos 1) (write l b w.signs w.next).row (write l b w'.signs w'.next).row m.row n.row in
        record { row = r; next = n.next; signs = n.signs; passes = or_same _ _ _ _ (or_same _ _ _ _ m.passes n.passes) (moved-passes _ _ r) }
    moved-write (term_sub a b) ss ss' p q h i e g =
        let w = write l a ss p in
        let w' = write l a ss' q in
        let m = moved-write a ss ss' p q h.0 i e g in
        let n = moved-write b w.signs w'.signs w.next w'.next h.1 (omega (arith, write-next l a ss p)) m.signs m.next in
        let r = moved-two (pos 1) w.row w'.row (negsuc 0) (write l b w.signs w.next).row (write l b w'.signs w'.next).row m.row n.row in
        record { row = r; next = n.next; signs = n.signs; passes = or_same _ _ _ _ (or_same _ _ _ _ m.passes n.passes) (moved-passes _ _ r) }
    moved-write (term_mul a b) ss ss' p q h i e g =
        let w = write l a ss p in
        let w' = write l a ss' q in
        let m = moved-write a ss ss' p q h.0 i e g in
        let n = moved-write b w.signs w'.signs w.next w'.next h.1 (omega (arith, write-next l a ss p)) m.signs m.next in
        let r = moved-product (is_fixed a) w.row w'.row (write l b w.signs w.next).row (write l b w'.signs w'.next).row m.row n.row in
        record { row = r; next = n.next; signs = n.signs; passes = or_same _ _ _ _ (or_same _ _ _ _ m.passes n.passes) (moved-passes _ _ r) }
    moved-write (term_div a k) ss ss' p q h i e g =
        let w = write l a ss p in
        let w' = write l a ss' q in
        let m = moved-write a ss ss' p q h.0 i e g in
        let x = moved-above w.next w'.next w.row w'.row k m.next m.row in
        let y = moved-below w.next w'.next w.row w'.row k m.next m.row in
        record {
          row = rw m.next refl;
          next = rw m.next (sym (high w.next (omega (arith, write-next l a ss p))));
          signs = m.signs;
          passes = or_same _ _ _ _ (or_same _ _ _ _ m.passes (moved-passes _ _ x)) (moved-passes _ _ y);
        }
    moved-write (term_mod a k) ss ss' p q h i e g =
        let w = write l a ss p in
        let w' = write l a ss' q in
        let m = moved-write a ss ss' p q h.0 i e g in
        let x = moved-above w.next w'.next w.row w'.row k m.next m.row in
        let y = moved-below w.next w'.next w.row w'.row k m.next m.row in
        record {
          row = x;
          next = rw m.next (sym (high w.next (omega (arith, write-next l a ss p))));
          signs = m.signs;
          passes = or_same _ _ _ _ (or_same _ _ _ _ m.passes (moved-passes _ _ x)) (moved-passes _ _ y);
        }
    moved-write (term_abs a) ss ss' p q h i e g =
        let w = write l a ss p in
        let w' = write l a ss' q in
        let m = moved-write a ss ss' p q h i e g in
        subst (λ x. Moved (signed_by (first_sign w.signs) w) (signed_by (first_sign x) w')) (sym m.signs) (moved-sign (first_sign w.signs) w w' m)

    -- ---- atoms
    row_alone : (r s : Row) → s ≡ moved r → list_any row_passes (s ∷ []) ≡ list_any row_passes (r ∷ [])
    row_alone r s e = or_same _ _ _ _ (moved-passes r s e) refl

    moved-compare : (o : Order) (t t' u u' : Row) → t' ≡ moved t → u' ≡ moved u →
        list_any row_passes (compare_zero o t' u' ++ compare_nonneg o t' u') ≡ list_any row_passes (compare_zero o t u ++ compare_nonneg o t u)
    moved-compare Eq t t' u u' e g = row_alone (less t u) (less t' u') (moved-two (pos 1) t t' (negsuc 0) u u' e g)
    moved-compare Ne t t' u u' e g = refl
    moved-compare Lt t t' u u' e g = row_alone (plus (less u t) (negsuc 0)) (plus (less u' t') (negsuc 0))
        (moved-plus (less u t) (less u' t') (negsuc 0) (moved-two (pos 1) u u' (negsuc 0) t t' g e))
    moved-compare Le t t' u u' e g = row_alone (less u t) (less u' t') (moved-two (pos 1) u u' (negsuc 0) t t' g e)
    moved-compare Gt t t' u u' e g = row_alone (plus (less t u) (negsuc 0)) (plus (less t' u') (negsuc 0))
        (moved-plus (less t u) (less t' u') (negsuc 0) (moved-two (pos 1) t t' (negsuc 0) u u' e g))
    moved-compare Ge t t' u u' e g = row_alone (less t u) (less t' u') (moved-two (pos 1) t t' (negsuc 0) u u' e g)

    moved-atom : (s : Signed) (p q : ℕ) → SignedFits l s → first_free l ≤ p → q ≡ f p → (write_atom l s q).passes ≡ (write_atom l s p).passes
    unfolding write_atom
    moved-atom (atom_true, ss) p q h i g = refl
    moved-atom (atom_false, ss) p q h i g = refl
    moved-atom (atom_compare o a b, ss) p q h i g =
        let w = write l a ss p in
        let w' = write l a ss q in
        let m = moved-write a ss ss p q h.0.1.0 i refl g in
        let n = moved-write b w.signs w'.signs w.next w'.next h.0.2.0 (omega (arith, write-next l a ss p)) m.signs m.next in
        or_same _ _ _ _ (or_same _ _ _ _ m.passes n.passes) (moved-compare o w.row w'.row (write l b w.signs w.next).row (write l b w'.signs w'.next).row
        m.row n.row)
    moved-atom (atom_divides k t, ss) p q h i g =
        let w = write l t ss p in
        let w' = write l t ss q in
        let m = moved-write t ss ss p q h.0.1 i refl g in
        or_same _ _ _ _ m.passes (row_alone (above_quotient w.next w.row k) (above_quotient w'.next w'.row k)
        (moved-above w.next w'.next w.row w'.row k m.next m.row))
    moved-atom (atom_not_divides k t, ss) p q h i g =
        let w = write l t ss p in
        let w' = write l t ss q in
        let m = moved-write t ss ss p q h.0.1 i refl g in
        let x = moved-above w.next w'.next w.row w'.row k m.next m.row in
        let y = moved-below w.next w'.next w.row w'.row k m.next m.row in
        or_same _ _ _ _ m.passes
        (or_same _ _ _ _ (moved-passes _ _ (moved-plus (above_quotient w.next w.row k) (above_quotient w'.next w'.row k) (negsuc 0) x))
        (row_alone (below_quotient w.next w.row k) (below_quotient w'.next w'.row k) y))
    moved-atom (atom_same a b, ss) p q h i g = refl
    moved-atom (atom_other a b, ss) p q h i g = refl
    moved-atom (atom_subset a b, ss) p q h i g = refl
    moved-atom (atom_not_subset a b, ss) p q h i g = refl

-- ---- a move of the columns from n on
abbrev raised : ℕ → ℕ → ℕ → ℕ
raised n d c = cond (nat_lt c n) c (c + d)

raised-low : (n d c : ℕ) → c < n → raised n d c ≡ c
raised-low n d c h = rw (lt-ltb c n h) refl

raised-high : (n d c : ℕ) → n ≤ c → raised n d c ≡ c + d
raised-high n d c h = rw (le-ltb c n h) refl

both_lt : (a b x y : ℕ) → (a < b → x < y) → (b ≤ a → y ≤ x) → nat_lt x y ≡ nat_lt a b
both_lt a b x y h i = on_bool (nat_lt a b) (λ e. lt-ltb x y (h (ltb-true a b e)) ∙ sym e) (λ e. le-ltb x y (i (ltb-false a b e)) ∙ sym e)

both_eq : (a b x y : ℕ) → (a ≡ b → x ≡ y) → (x ≡ y → a ≡ b) → (x == y) ≡ (a == b)
both_eq a b x y h i = on_bool (a == b) (λ e. eq-eqb x y (h (eqb-true a b e)) ∙ sym e) (λ e. ne_eqb x y (λ g. eqb-false a b e (i g)) ∙ sym e)

raised-is : (n d c : ℕ) → (P : ℕ → Type 0) → (c < n → P c) → (n ≤ c → P (c + d)) → P (raised n d c)
raised-is n d c P h i = on_bool (nat_lt c n) (λ e. rw e (h (ltb-true c n e))) (λ e. rw e (i (ltb-false c n e)))

raised-before : (n d a b : ℕ) → nat_lt (raised n d a) (raised n d b) ≡ nat_lt a b
raised-before n d a b =
    raised-is n d a (λ x. nat_lt x (raised n d b) ≡ nat_lt a b)
    (λ h. raised-is n d b (λ y. nat_lt a y ≡ nat_lt a b) (λ i. refl) (λ i. both_lt a b a (b + d) (λ j. omega arith) (λ j. omega arith)))
    (λ h. raised-is n d b (λ y. nat_lt (a + d) y ≡ nat_lt a b) (λ i. both_lt a b (a + d) b (λ j. omega arith) (λ j. omega arith))
    (λ i. both_lt a b (a + d) (b + d) (λ j. omega arith) (λ j. omega arith)))

raised-same : (n d a b : ℕ) → (raised n d a == raised n d b) ≡ (a == b)
raised-same n d a b =
    raised-is n d a (λ x. (x == raised n d b) ≡ (a == b))
    (λ h. raised-is n d b (λ y. (a == y) ≡ (a == b)) (λ i. refl) (λ i. both_eq a b a (b + d) (λ j. omega arith) (λ j. omega arith)))
    (λ h. raised-is n d b (λ y. (a + d == y) ≡ (a == b)) (λ i. both_eq a b (a + d) b (λ j. omega arith) (λ j. omega arith))
    (λ i. both_eq a b (a + d) (b + d) (λ j. omega arith) (λ j. omega arith)))

raised-next : (n d c : ℕ) → n ≤ c → raised n d (c + 1) ≡ raised n d c + 1
raised-next n d c h = rw (raised-high n d (c + 1) (omega arith), raised-high n d c h) (omega arith)

-- whether a row of the atom passes the limit is the same from each free column on
pub passes-same : (l : Layout) (s : Signed) (q : ℕ) → SignedFits l s → first_free l ≤ q → (write_atom l s q).passes ≡ (write_atom l s (first_free l)).passes
passes-same l s q h i =
    let n = first_free l in
    let d = q - n in
    moved-atom (raised n d) (raised-before n d) (raised-same n d) (raised-low n d 0 (positive_free l)) l (raised-low n d) (raised-next n d) s n q h
    (omega arith) (let e : q ≡ n + d = omega arith in e ∙ sym (raised-high n d n (omega arith)))
