-- Conditions: one conjunct more, as one formula, and with other rows.
use Rattle.std.proofs.Common.{◌≡◌, pos, List, [], ◌∷◌, ◌++◌, Bool, true, false, cond, refl, sym, ◌∙◌, true≢false, subst, ◌↔◌}
use Rattle.std.specs.Prelude.{◌≤ℤ◌, map}
use Rattle.std.specs.List.{list_any}
use Rattle.std.proofs.lemmas.Bool.{cond_both}
use Rattle.cf_linear.specs.Rows.{Row, Values, value, same_row}
use Rattle.cf_linear.specs.Systems.{EachRow}
use Rattle.cf_linear.proofs.KindLemmas.{IsZero, IsNonneg, EachRow-append, EachRow-split}
use Rattle.cf_formula.specs.Atoms.{ge, eq}
use Rattle.cf_formula.specs.Formulas.{Formula, always, never, at_least, equal, both, either, Holds, EachFormula}
use Rattle.cf_formula.specs.Rewriting.{with_rows}
use Rattle.cf_formula.specs.States.{Conditions, Model, with_row, add, add_all, parts, whole, changed}
use Rattle.cf_formula.proofs.AtomLaws.{ge-holds, eq-holds}
use Rattle.cf_formula.proofs.FormulaLemmas.{EachFormula-append, then_iff}
use Rattle.cf_formula.proofs.MemberLaws.{all_of-holds}
use Rattle.cf_formula.proofs.RewritingLaws.{with_rows-holds}
use Rattle.cf_formula.proofs.RowLists.{seen_has}

-- ---- one more conjunct
EachFormula-last : (P : Formula → Type 0) (fs : List Formula) (f : Formula) → EachFormula P (fs ++ (f ∷ [])) ↔ (P f × EachFormula P fs)
EachFormula-last P [] f = ((λ h. h), (λ h. h))
EachFormula-last P (g ∷ fs) f =
    let i = EachFormula-last P fs f in
    ((λ h. let k = i.0 h.1 in (k.0, (h.0, k.1))), (λ h. (h.1.0, i.1 (h.0, h.1.1))))

pub with_row-each : (Q : Row → Type 0) (rows : List Row) (r : Row) → EachRow Q (with_row rows r) ↔ (Q r × EachRow Q rows)
with_row-each Q rows r =
    cond_both (list_any (same_row r) rows) rows (rows ++ (r ∷ [])) (λ ys. EachRow Q ys ↔ (Q r × EachRow Q rows))
    (λ e. ((λ h. (seen_has Q r rows h e, h)), (λ h. h.1)))
    (λ e. ((λ h. let s = EachRow-split Q rows (r ∷ []) h in (s.1.0, s.0)), (λ h. EachRow-append Q rows (r ∷ []) h.1 (h.0, tt))))

pub add-holds : (v : Values) (f : Formula) (c : Conditions) → Model (add f c) v ↔ (Holds v f × Model c v)
add-holds v always c = ((λ h. (tt, h)), (λ h. h.1))
add-holds v never c = ((λ h. absurd (true≢false h.alive)), (λ h. absurd h.0))
add-holds v (at_least r) c =
    let i = with_row-each (IsNonneg v) c.inequalities r in (
      (λ h. let k = i.0 h.nonneg in (k.0, record { alive = h.alive; zero = h.zero; nonneg = k.1; pending = h.pending })),
      (λ h. record { alive = h.1.alive; zero = h.1.zero; nonneg = i.1 (h.0, h.1.nonneg); pending = h.1.pending }),
    )
add-holds v (equal r) c =
    let i = with_row-each (IsZero v) c.equations r in (
      (λ h. let k = i.0 h.zero in (k.0, record { alive = h.alive; zero = k.1; nonneg = h.nonneg; pending = h.pending })),
      (λ h. record { alive = h.1.alive; zero = i.1 (h.0, h.1.zero); nonneg = h.1.nonneg; pending = h.1.pending }),
    )
add-holds v (both f g) c =
    let i = add-holds v f c in
    let j = add-holds v g (add f c) in
    ((λ h. let k = j.0 h in let l = i.0 k.1 in ((l.0, k.0), l.1)), (λ h. j.1 (h.0.1, i.1 (h.0.0, h.1))))
add-holds v (either f g) c =
    let i = EachFormula-last (Holds v) c.pending (either f g) in (
      (λ h. let k = i.0 h.pending in (k.0, record { alive = h.alive; zero = h.zero; nonneg = h.nonneg; pending = k.1 })),
      (λ h. record { alive = h.1.alive; zero = h.1.zero; nonneg = h.1.nonneg; pending = i.1 (h.0, h.1.pending) }),
    )

pub add_all-holds : (v : Values) (fs : List Formula) (c : Conditions) → Model (add_all fs c) v ↔ (EachFormula (Holds v) fs × Model c v)
add_all-holds v [] c = ((λ h. (tt, h)), (λ h. h.1))
add_all-holds v (f ∷ fs) c =
    let i = add-holds v f c in
    let j = add_all-holds v fs (add f c) in
    ((λ h. let k = j.0 h in let l = i.0 k.1 in ((l.0, k.0), l.1)), (λ h. j.1 (h.0.1, i.1 (h.0.0, h.1))))

-- ---- conditions are a formula
pub death-holds : (v : Values) (b : Bool) → EachFormula (Holds v) (cond b (never ∷ []) []) ↔ (b ≡ false)
death-holds v true = ((λ h. absurd h.0), (λ e. absurd (true≢false e)))
death-holds v false = ((λ h. refl), (λ e. tt))

equations-hold : (v : Values) (rows : List Row) → EachFormula (Holds v) (map equal rows) ↔ EachRow (IsZero v) rows
equations-hold v [] = ((λ h. h), (λ h. h))
equations-hold v (r ∷ rows) = let i = equations-hold v rows in ((λ h. (h.0, i.0 h.1)), (λ h. (h.0, i.1 h.1)))

inequalities-hold : (v : Values) (rows : List Row) → EachFormula (Holds v) (map at_least rows) ↔ EachRow (IsNonneg v) rows
inequalities-hold v [] = ((λ h. h), (λ h. h))
inequalities-hold v (r ∷ rows) = let i = inequalities-hold v rows in ((λ h. (h.0, i.0 h.1)), (λ h. (h.0, i.1 h.1)))

pub parts-hold : (v : Values) (c : Conditions) → EachFormula (Holds v) (parts c) ↔ Model c v
parts-hold v c =
    let low = map at_least c.inequalities in
    let a = EachFormula-append (Holds v) (cond c.dead (never ∷ []) []) (map equal c.equations ++ (low ++ c.pending)) in
    let b = EachFormula-append (Holds v) (map equal c.equations) (low ++ c.pending) in
    let d = EachFormula-append (Holds v) low c.pending in
    let i = death-holds v c.dead in
    let j = equations-hold v c.equations in
    let k = inequalities-hold v c.inequalities in (
      (λ h.
          let x = a.0 h in
          let y = b.0 x.1 in
          let z = d.0 y.1 in
          record { alive = i.0 x.0; zero = j.0 y.0; nonneg = k.0 z.0; pending = z.1 }),
      (λ h. a.1 (i.1 h.alive, b.1 (j.1 h.zero, d.1 (k.1 h.nonneg, h.pending)))),
    )

pub whole-holds : (v : Values) (c : Conditions) → Holds v (whole c) ↔ Model c v
whole-holds v c = then_iff (all_of-holds v (parts c)) (parts-hold v c)

-- ---- rows in the place of rows, that have at w the values of the old ones at v
module _ (v w : Values) (one : w 0 ≡ pos 1) (change : Row → Row) (same : (r : Row) → value w (change r) ≡ value v r) where
  each_eq : (rows : List Row) → EachFormula (Holds w) (map (λ r. eq (change r)) rows) ↔ EachRow (IsZero v) rows
  each_eq [] = ((λ h. h), (λ h. h))
  each_eq (r ∷ rows) =
      let e = same r in
      let i = eq-holds w one (change r) in
      let j = each_eq rows in
      ((λ h. (sym e ∙ i.0 h.0, j.0 h.1)), (λ h. (i.1 (e ∙ h.0), j.1 h.1)))

  each_ge : (rows : List Row) → EachFormula (Holds w) (map (λ r. ge (change r)) rows) ↔ EachRow (IsNonneg v) rows
  each_ge [] = ((λ h. h), (λ h. h))
  each_ge (r ∷ rows) =
      let e = same r in
      let i = ge-holds w one (change r) in
      let j = each_ge rows in
      ((λ h. (subst (λ y. pos 0 ≤ℤ y) e (i.0 h.0), j.0 h.1)), (λ h. (i.1 (subst (λ y. pos 0 ≤ℤ y) (sym e) h.0), j.1 h.1)))

  each_with_rows : (fs : List Formula) → EachFormula (Holds w) (map (with_rows change) fs) ↔ EachFormula (Holds v) fs
  each_with_rows [] = ((λ h. h), (λ h. h))
  each_with_rows (f ∷ fs) =
      let i = with_rows-holds v w one change same f in
      let j = each_with_rows fs in
      ((λ h. (i.0 h.0, j.0 h.1)), (λ h. (i.1 h.0, j.1 h.1)))

  pub changed-holds : (c : Conditions) → Model (changed change c) w ↔ Model c v
  changed-holds c =
      let equations = map (λ r. eq (change r)) c.equations in
      let inequalities = map (λ r. ge (change r)) c.inequalities in
      let pending = map (with_rows change) c.pending in
      let empty : Conditions = record { equations = []; inequalities = []; pending = []; dead = c.dead } in
      let o = add_all-holds w (equations ++ (inequalities ++ pending)) empty in
      let a = EachFormula-append (Holds w) equations (inequalities ++ pending) in
      let b = EachFormula-append (Holds w) inequalities pending in
      let i = each_eq c.equations in
      let j = each_ge c.inequalities in
      let k = each_with_rows c.pending in (
        (λ h.
            let x = o.0 h in
            let y = a.0 x.0 in
            let z = b.0 y.1 in
            record { alive = x.1.alive; zero = i.0 y.0; nonneg = j.0 z.0; pending = k.0 z.1 }),
        (λ h.
            o.1 (
              a.1 (i.1 h.zero, b.1 (j.1 h.nonneg, k.1 h.pending)),
              record { alive = h.alive; zero = tt; nonneg = tt; pending = tt },
            )),
      )
