-- A formula where some rows are at least 0.
use Rattle.std.proofs.Common.{◌≡◌, ℤ, pos, ◌+ℤ◌, List, [], ◌∷◌, true, ◌&&◌, ◌||◌, Option, Some, None, ◌∙◌, ap, arith, subst, ◌↔◌}
use Rattle.std.specs.Prelude.{◌≤ℤ◌, ◌<ℤ◌, int_lt}
use Rattle.std.specs.List.{list_any}
use Rattle.std.specs.Option.{IfSome}
use Rattle.std.proofs.lemmas.Int.{ints}
use Rattle.std.proofs.lemmas.Bool.{cond_both, and_parts}
use Rattle.cf_linear.specs.Arm.{negated}
use Rattle.cf_linear.specs.Rows.{Row, Values, entry, value, same_row}
use Rattle.cf_linear.specs.Systems.{EachRow}
use Rattle.cf_linear.proofs.RowTests.{same_row-is}
use Rattle.cf_linear.proofs.KindLemmas.{IsNonneg}
use Rattle.cf_linear.proofs.BoolLemmas.{on_bool}
use Rattle.cf_formula.specs.Formulas.{Formula, always, never, at_least, equal, Holds}
use Rattle.cf_formula.specs.Atoms.{key}
use Rattle.cf_formula.specs.Facts.{lesser, best, is_at_most, sums_below, is_implied, is_excluded, is_contradictory, settled_ge, settled_eq, settled}
use Rattle.cf_formula.proofs.AtomLaws.{lt_so, not_lt_so, value-key, value-negated}
use Rattle.cf_formula.proofs.RewritingLaws.{rewritten-holds}

module _ (v : Values) (one : v 0 ≡ pos 1) where
  lesser-is : (P : ℤ → Type 0) (c : ℤ) (o : Option ℤ) → P c → IfSome o P → IfSome (lesser c o) P
  lesser-is P c None h k = h
  lesser-is P c (Some d) h k = cond_both (int_lt d c) d c P (λ e. k) (λ e. h)

  pub best-is : (k : Row) (rows : List Row) → EachRow (IsNonneg v) rows → IfSome (best rows k) (λ c. pos 0 ≤ℤ (value v k +ℤ c))
  best-is k [] h = tt
  best-is k (r ∷ rows) h =
      let P = λ (c : ℤ). pos 0 ≤ℤ (value v k +ℤ c) in
      cond_both (same_row (key r) k) (lesser (entry r 0) (best rows k)) (best rows k) (λ o. IfSome o P)
      (λ e.
      let i : value v r ≡ value v k +ℤ entry r 0 = value-key v one r ∙ ap (λ q. value v q +ℤ entry r 0) (same_row-is (key r) k e) in
      lesser-is P (entry r 0) (best rows k) (subst (λ y. pos 0 ≤ℤ y) i h.0) (best-is k rows h.1))
      (λ e. best-is k rows h.1)

  module _ (rows : List Row) (h : EachRow (IsNonneg v) rows) where
    pub implied-so : (r : Row) → is_implied rows r ≡ true → pos 0 ≤ℤ value v r
    implied-so r e = by (best rows (key r)) (best-is (key r) rows h) e
      where
        by : (o : Option ℤ) → IfSome o (λ c. pos 0 ≤ℤ (value v (key r) +ℤ c)) → is_at_most o (entry r 0) ≡ true → pos 0 ≤ℤ value v r
        by None b e = cc e
        by (Some c) b e = let i = not_lt_so (entry r 0) c e in let s = value-key v one r in omega (arith, ints)

    pub excluded-so : (r : Row) → is_excluded rows r ≡ true → value v r <ℤ pos 0
    excluded-so r e = by (best rows (negated (key r))) (best-is (negated (key r)) rows h) e
      where
        by : (o : Option ℤ) → IfSome o (λ c. pos 0 ≤ℤ (value v (negated (key r)) +ℤ c)) → sums_below o (entry r 0) ≡ true → value v r <ℤ pos 0
        by None b e = cc e
        by (Some c) b e = let i = lt_so (c +ℤ entry r 0) (pos 0) e in let s = value-key v one r in let t = value-negated v (key r) in omega (arith, ints)

    -- the law of `close`
    pub contradictory-so : is_contradictory rows ≡ true → ⊥
    contradictory-so e = some rows h e
      where
        some : (rs : List Row) → EachRow (IsNonneg v) rs → list_any (is_excluded rows) rs ≡ true → ⊥
        some [] k e = cc e
        some (r ∷ rs) k e =
            on_bool (is_excluded rows r) (λ i. let j = excluded-so r i in let l = k.0 in omega (arith, ints)) (λ i. some rs k.1 (rw i at e))

    ge-settled : (r : Row) → Holds v (settled_ge rows r) ↔ (pos 0 ≤ℤ value v r)
    ge-settled r =
        cond_both (is_implied rows r) _ _ (λ g. Holds v g ↔ (pos 0 ≤ℤ value v r)) (λ e. let i = implied-so r e in ((λ _. i), (λ _. tt)))
        (λ _. cond_both (is_excluded rows r) _ _ (λ g. Holds v g ↔ (pos 0 ≤ℤ value v r))
        (λ e. let i = excluded-so r e in ((λ h. absurd h), (λ h. omega (arith, ints)))) (λ _. ((λ h. h), (λ h. h))))

    eq-settled : (r : Row) → Holds v (settled_eq rows r) ↔ (value v r ≡ pos 0)
    eq-settled r =
        let t = value-negated v r in
        cond_both (is_excluded rows r || is_excluded rows (negated r)) _ _ (λ g. Holds v g ↔ (value v r ≡ pos 0))
        (λ e. (
          (λ h. absurd h),
          (λ h. on_bool (is_excluded rows r) (λ i. let j = excluded-so r i in omega (arith, ints))
              (λ i. let j = excluded-so (negated r) (rw i at e) in omega (arith, ints))),
        ))
        (λ _. cond_both (is_implied rows r && is_implied rows (negated r)) _ _ (λ g. Holds v g ↔ (value v r ≡ pos 0))
        (λ e.
        let p = and_parts (is_implied rows r) (is_implied rows (negated r)) e in
        let i = implied-so r p.0 in
        let j = implied-so (negated r) p.1 in
        ((λ _. omega (arith, ints)), (λ _. tt)))
        (λ _. ((λ h. h), (λ h. h))))

    -- the law of `simplify`
    pub settled-holds : (f : Formula) → Holds v (settled rows f) ↔ Holds v f
    settled-holds f = rewritten-holds v v one (settled_ge rows) (settled_eq rows) ge-settled eq-settled f
