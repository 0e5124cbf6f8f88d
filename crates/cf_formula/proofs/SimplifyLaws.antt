-- Pending formulas where facts hold, and conditions that hold nowhere.
use Rattle.std.proofs.Common.{◌≡◌, ℕ, zero, suc, pos, List, [], ◌∷◌, ◌++◌, Bool, true, false, ◌||◌, refl, sym, ◌∙◌, true≢false, arith, ◌↔◌}
use Rattle.std.specs.Prelude.{◌≤ℤ◌, map}
use Rattle.std.proofs.lemmas.Int.{ints}
use Rattle.std.proofs.lemmas.Bool.{cond_both}
use Rattle.cf_linear.specs.Arm.{negated}
use Rattle.cf_linear.specs.Rows.{Row, Values, value}
use Rattle.cf_linear.specs.Systems.{EachRow}
use Rattle.cf_linear.proofs.KindLemmas.{IsZero, IsNonneg, EachRow-append}
use Rattle.cf_formula.specs.Facts.{settled}
use Rattle.cf_formula.specs.Formulas.{Formula, Holds, EachFormula}
use Rattle.cf_formula.specs.Simplifying.{sure, add_while, without_pending, same_formulas, settled_all, settled_once, is_refuted, simplified_within, atoms_of_all, simplified}
use Rattle.cf_formula.specs.States.{Conditions, Model, killed, add}
use Rattle.cf_formula.proofs.AtomLaws.{value-negated}
use Rattle.cf_formula.proofs.FactLaws.{settled-holds, contradictory-so}
use Rattle.cf_formula.proofs.FormulaLemmas.{then_iff}
use Rattle.cf_formula.proofs.StateLaws.{add-holds}

-- up to the first that is never true: dead conditions hold nowhere, so no more is wanted
add_while-holds : (v : Values) (fs : List Formula) (c : Conditions) → Model (add_while fs c) v ↔ (EachFormula (Holds v) fs × Model c v)
add_while-holds v [] c = ((λ h. (tt, h)), (λ h. h.1))
add_while-holds v (f ∷ fs) c =
    let i = add-holds v f c in
    cond_both (add f c).dead (add f c) (add_while fs (add f c)) (λ d. Model d v ↔ (EachFormula (Holds v) (f ∷ fs) × Model c v))
    (λ e. ((λ h. absurd (true≢false (sym e ∙ h.alive))), (λ h. i.1 (h.0.0, h.1))))
    (λ e.
    let j = add_while-holds v fs (add f c) in
    ((λ h. let k = j.0 h in let l = i.0 k.1 in ((l.0, k.0), l.1)), (λ h. j.1 (h.0.1, i.1 (h.0.0, h.1)))))

module _ (v : Values) (one : v 0 ≡ pos 1) (facts : List Row) (h : EachRow (IsNonneg v) facts) where
  sure-nonneg : (c : Conditions) → EachRow (IsNonneg v) c.inequalities → EachRow (IsZero v) c.equations → EachRow (IsNonneg v) (facts ++ sure c)
  sure-nonneg c n z =
      EachRow-append (IsNonneg v) facts (sure c) h
      (EachRow-append (IsNonneg v) c.inequalities (c.equations ++ map negated c.equations) n
      (EachRow-append (IsNonneg v) c.equations (map negated c.equations) (straight c.equations z) (turned c.equations z)))
    where
      straight : (rows : List Row) → EachRow (IsZero v) rows → EachRow (IsNonneg v) rows
      straight [] z = tt
      straight (r ∷ rows) z = (let e = z.0 in omega (arith, ints), straight rows z.1)

      turned : (rows : List Row) → EachRow (IsZero v) rows → EachRow (IsNonneg v) (map negated rows)
      turned [] z = tt
      turned (r ∷ rows) z = (let e = z.0 in let t = value-negated v r in omega (arith, ints), turned rows z.1)

  -- the law of `close`
  pub refuted-so : (c : Conditions) → is_refuted facts c ≡ true → Model c v → ⊥
  refuted-so c e m = contradictory-so v one (facts ++ sure c) (sure-nonneg c m.nonneg m.zero) e

  once-holds : (c : Conditions) → Model (settled_once facts c) v ↔ Model c v
  once-holds c =
      let i = add_while-holds v (settled_all facts c) (without_pending c) in
      let each = λ (n : EachRow (IsNonneg v) c.inequalities). λ (z : EachRow (IsZero v) c.equations).
      all_settled (facts ++ sure c) (sure-nonneg c n z) c.pending in (
        (λ m.
            let k = i.0 m in
            record { alive = k.1.alive; zero = k.1.zero; nonneg = k.1.nonneg; pending = (each k.1.nonneg k.1.zero).0 k.0 }),
        (λ m. i.1 ((each m.nonneg m.zero).1 m.pending, record { alive = m.alive; zero = m.zero; nonneg = m.nonneg; pending = tt })),
      )
    where
      all_settled : (rows : List Row) → EachRow (IsNonneg v) rows → (fs : List Formula) →
          EachFormula (Holds v) (map (settled rows) fs) ↔ EachFormula (Holds v) fs
      all_settled rows h [] = ((λ k. k), (λ k. k))
      all_settled rows h (f ∷ fs) =
          let i = settled-holds v one rows h f in
          let j = all_settled rows h fs in
          ((λ k. (i.0 k.0, j.0 k.1)), (λ k. (i.1 k.0, j.1 k.1)))

  within-holds : (n : ℕ) (c : Conditions) → Model (simplified_within n facts c) v ↔ Model c v
  within-holds zero c = ((λ m. m), (λ m. m))
  within-holds (suc n) c =
      cond_both (is_refuted facts c) _ _ (λ d. Model d v ↔ Model c v)
      (λ e. ((λ m. absurd (true≢false m.alive)), (λ m. absurd (refuted-so c e m))))
      (λ _. cond_both ((settled_once facts c).dead || same_formulas (settled_all facts c) c.pending) _ _ (λ d. Model d v ↔ Model c v)
      (λ _. once-holds c) (λ _. then_iff (within-holds n (settled_once facts c)) (once-holds c)))

  -- the law of `simplify`
  pub simplified-holds : (c : Conditions) → Model (simplified facts c) v ↔ Model c v
  simplified-holds c = within-holds (suc (atoms_of_all c.pending)) c
