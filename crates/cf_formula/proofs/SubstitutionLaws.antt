-- A row in the place of an unknown.
use Rattle.std.proofs.Common.{◌≡◌, ◌≢◌, ℕ, ◌+◌, ◌<◌, pos, ◌-ℤ◌, ◌*ℤ◌, List, [], ◌∷◌, ◌==◌, sym, ◌∙◌, ap, arith, inl, inr, ⊎_elim}
use Rattle.std.specs.Prelude.{◌≤ℤ◌}
use Rattle.std.specs.Int.{int_div_euclid}
use Rattle.std.proofs.lemmas.Int.{ints}
use Rattle.std.proofs.lemmas.Bool.{cond_both, eqb-true}
use Rattle.cf_num.proofs.DivisionLemmas.{int_div_euclid-bounds}
use Rattle.cf_linear.specs.Keep.{In, Same, Within, update}
use Rattle.cf_linear.specs.Rows.{Row, Values, value, comb}
use Rattle.cf_linear.specs.Steps.{one_at, two_at}
use Rattle.cf_linear.specs.Systems.{row_how}
use Rattle.cf_linear.proofs.KindLemmas.{Below}
use Rattle.cf_linear.proofs.RowLemmas.{value-comb}
use Rattle.cf_linear.proofs.ValueLemmas.{value-same, update-at, update-same, update-other, one_z}
use Rattle.cf_formula.specs.Branches.{Branch, Grows, Leads}
use Rattle.cf_formula.specs.Formulas.{Formula, Holds, Throughout}
use Rattle.cf_formula.specs.Items.{Item, AllMet}
use Rattle.cf_formula.proofs.FormulaLemmas.{Holds-same}

-- values of new columns at which the row has the value of x
abbrev pub Finds : ℕ → ℕ → Row → List (ℕ × ℕ) → List Item → Values → Type 0
Finds n x s bounds items v = (w : Values) × Same n v w × Within w bounds × AllMet w items × (value w s ≡ v x)

-- x gives way to the row s, after the searches and the items
abbrev pub gone : List ℕ → List (ℕ × ℕ) → List Item → ℕ → Row → Formula → Branch
gone known bounds items x s g = record { known = known; bounds = bounds; items = items; formula = g; back = (x, row_how s) ∷ [] }

module _ (known : List ℕ) (Given : Values → Type 0) (x n : ℕ) (f : Formula) (t : Throughout (λ c. c < n) f) (constant : In 0 known)
    (apart_x : (c : ℕ) → In c known → c ≢ x) (below_n : (c : ℕ) → In c known → c < n) where
  -- g is f with the row s in the place of x
  pub gone_leads : (more : List ℕ) (s : Row) (bounds : List (ℕ × ℕ)) (items : List Item) (g : Formula) → Grows known (gone more bounds items x s g) →
      ((v : Values) → v 0 ≡ pos 1 → Holds (update v x (value v s)) f → Holds v g) →
      ((v : Values) → v 0 ≡ pos 1 → AllMet v items → Holds v g → Holds (update v x (value v s)) f) →
      ((v : Values) → v 0 ≡ pos 1 → Holds v f → Finds n x s bounds items v) → Leads known Given f (gone more bounds items x s g ∷ [])
  gone_leads more s bounds items g grows into out find = record {
    forth = λ v one given h.
        let q = find v one h in
        let w = q.0 in
        let same : Same n v (update w x (value w s)) = λ c l.
        cond_both (c == x) (value w s) (w c) (λ y. v c ≡ y) (λ e. ap v (eqb-true c x e) ∙ sym q.4) (λ e. q.1 c l) in
        let there : w 0 ≡ pos 1 = sym (q.1 0 (below_n 0 constant)) ∙ one in
        inl (w, (λ c i. q.1 c (below_n c i)), q.2, q.3, into w there (Holds-same n v (update w x (value w s)) same f t h));
    back = ((λ v one given w m h. (out v one m h, λ c i. sym (update-other v x c (value v s) (apart_x c i)))), tt);
    formed = (grows, tt);
  }

  -- x = w + row, w being the column n
  pub shift_leads : (row : Row) (g : Formula) → Below n row →
      ((v : Values) → v 0 ≡ pos 1 → Holds (update v x (value v (comb (pos 1) row (pos 1) (one_at n)))) f → Holds v g) →
      ((v : Values) → v 0 ≡ pos 1 → Holds v g → Holds (update v x (value v (comb (pos 1) row (pos 1) (one_at n)))) f) →
      Leads known Given f (gone known [] [] x (comb (pos 1) row (pos 1) (one_at n)) g ∷ [])
  shift_leads row g b into out =
      let s = comb (pos 1) row (pos 1) (one_at n) in
      gone_leads known s [] [] g (record { grows = λ c i. i; bounds_known = λ c i. absurd i; items_known = tt }) into (λ v one m h. out v one h) (λ v one h.
      let w = update v n (v x -ℤ value v row) in
      let same : Same n v w = update-same n v n (v x -ℤ value v row) (omega arith) in (
        w,
        same,
        tt,
        tt,
        value-comb w (pos 1) row (pos 1) (one_at n) ∙
            rw (← value-same n v w same row b, one_z (w n), update-at v n (v x -ℤ value v row)) (omega (arith, ints)),
      ))

  -- x = r + k * q, r being the search column n below k, and q the column n + 1
  pub residue_leads : (k : ℕ) (g : Formula) → 0 < k →
      ((v : Values) → v 0 ≡ pos 1 → Holds (update v x (value v (two_at (pos 1) n (pos k) (n + 1)))) f → Holds v g) →
      ((v : Values) → v 0 ≡ pos 1 → Holds v g → Holds (update v x (value v (two_at (pos 1) n (pos k) (n + 1)))) f) →
      Leads known Given f (gone (n ∷ known) ((n, k) ∷ []) [] x (two_at (pos 1) n (pos k) (n + 1)) g ∷ [])
  residue_leads k g p into out =
      let s = two_at (pos 1) n (pos k) (n + 1) in
      gone_leads (n ∷ known) s ((n, k) ∷ []) [] g
      (record { grows = λ c i. inr i; bounds_known = λ c i. ⊎_elim (λ j. inl j) (λ j. absurd j) i; items_known = tt }) into (λ v one m h. out v one h)
      (λ v one h.
      let d = int_div_euclid (v x) (pos k) in
      let r = v x -ℤ pos k *ℤ d in
      let u = update v n r in
      let w = update u (n + 1) d in
      let b = int_div_euclid-bounds (v x) (pos k) (omega (arith, ints)) in
      let b0 = b.0 in
      let b1 = b.1 in
      let at_n : w n ≡ r = update-other u (n + 1) n d (λ e. omega arith) ∙ update-at v n r in
      let same : Same n v w = λ c l. update-same n v n r (omega arith) c l ∙ update-same n u (n + 1) d (omega arith) c l in (
        w,
        same,
        (rw at_n (omega (arith, ints)), rw at_n (omega (arith, ints)), tt),
        tt,
        value-comb w (pos 1) (one_at n) (pos k) (one_at (n + 1)) ∙ rw (one_z (w n), one_z (w (n + 1)), at_n, update-at u (n + 1) d) (omega (arith, ints)),
      ))
