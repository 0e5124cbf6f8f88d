-- Formulas with other atoms.
use Rattle.std.proofs.Common.{◌≡◌, ℕ, pos, [], ◌∷◌, sym, ◌∙◌, subst, ◌⊎◌, inl, inr, ⊎_elim, ◌↔◌}
use Rattle.std.specs.Prelude.{◌≤ℤ◌}
use Rattle.cf_linear.specs.Keep.{update}
use Rattle.cf_linear.specs.Rows.{Row, Values, value, subst_row}
use Rattle.cf_linear.proofs.ValueLemmas.{value-subst_row}
use Rattle.cf_formula.specs.Formulas.{Formula, always, never, at_least, equal, both, either, Holds}
use Rattle.cf_formula.specs.Atoms.{ge, eq}
use Rattle.cf_formula.specs.Members.{conj, disj}
use Rattle.cf_formula.specs.Rewriting.{rewritten, with_rows, substituted}
use Rattle.cf_formula.proofs.AtomLaws.{ge-holds, eq-holds}
use Rattle.cf_formula.proofs.FormulaLemmas.{then_iff}
use Rattle.cf_formula.proofs.MemberLaws.{conj-holds, disj-holds}

pub conj_two : (v : Values) (f g : Formula) → Holds v (conj (f ∷ g ∷ [])) ↔ (Holds v f × Holds v g)
conj_two v f g = let c = conj-holds v (f ∷ g ∷ []) in ((λ h. let k = c.0 h in (k.0, k.1.0)), (λ h. c.1 (h.0, (h.1, tt))))

pub disj_two : (v : Values) → v 0 ≡ pos 1 → (f g : Formula) → Holds v (disj (f ∷ g ∷ [])) ↔ (Holds v f ⊎ Holds v g)
disj_two v one f g =
    let d = disj-holds v one (f ∷ g ∷ []) in (
      (λ h. ⊎_elim (λ i. inl i) (λ s. ⊎_elim (λ i. inr i) (λ i. absurd i) s) (d.0 h)),
      (λ h. d.1 (⊎_elim (λ i. inl i) (λ i. inr (inl i)) h)),
    )

-- where each new atom holds at w as the old one does at v
module _ (v w : Values) (one : w 0 ≡ pos 1) (low zero : Row → Formula) (low-holds : (r : Row) → Holds w (low r) ↔ (pos 0 ≤ℤ value v r))
    (zero-holds : (r : Row) → Holds w (zero r) ↔ (value v r ≡ pos 0)) where
  pub rewritten-holds : (f : Formula) → Holds w (rewritten low zero f) ↔ Holds v f
  rewritten-holds always = ((λ h. h), (λ h. h))
  rewritten-holds never = ((λ h. h), (λ h. h))
  rewritten-holds (at_least r) = low-holds r
  rewritten-holds (equal r) = zero-holds r
  rewritten-holds (both f g) =
      let c = conj_two w (rewritten low zero f) (rewritten low zero g) in
      let i = rewritten-holds f in
      let j = rewritten-holds g in
      ((λ h. let k = c.0 h in (i.0 k.0, j.0 k.1)), (λ h. c.1 (i.1 h.0, j.1 h.1)))
  rewritten-holds (either f g) =
      let d = disj_two w one (rewritten low zero f) (rewritten low zero g) in
      let i = rewritten-holds f in
      let j = rewritten-holds g in
      ((λ h. ⊎_elim (λ k. inl (i.0 k)) (λ k. inr (j.0 k)) (d.0 h)), (λ h. d.1 (⊎_elim (λ k. inl (i.1 k)) (λ k. inr (j.1 k)) h)))

-- rows in the place of rows, that have at w the values of the old ones at v
pub with_rows-holds : (v w : Values) → w 0 ≡ pos 1 → (change : Row → Row) → ((r : Row) → value w (change r) ≡ value v r) → (f : Formula) →
    Holds w (with_rows change f) ↔ Holds v f
with_rows-holds v w one change same f =
    rewritten-holds v w one (λ r. ge (change r)) (λ r. eq (change r))
    (λ r.
    let e = same r in
    then_iff (ge-holds w one (change r)) ((λ h. subst (λ y. pos 0 ≤ℤ y) e h), (λ h. subst (λ y. pos 0 ≤ℤ y) (sym e) h)))
    (λ r. let e = same r in then_iff (eq-holds w one (change r)) ((λ h. sym e ∙ h), (λ h. e ∙ h))) f

pub substituted-holds : (v : Values) → v 0 ≡ pos 1 → (x : ℕ) (s : Row) (f : Formula) → Holds v (substituted x s f) ↔ Holds (update v x (value v s)) f
substituted-holds v one x s f = with_rows-holds (update v x (value v s)) v one (subst_row x s) (λ r. value-subst_row v x s r) f
