-- The values after the searches and the lets of an arm, whether its needs hold or not.
use Rattle.std.proofs.Common.{◌≡◌, ℕ, ℤ, pos, List, [], ◌∷◌, refl, sym, ◌∙◌, ap, arith, suc, subst, ◌⊎◌, inl, inr, ⊎_elim}
use Rattle.std.specs.Int.{int_div_euclid}
use Rattle.cf_tree.specs.Solving.{IsBelow}
use Rattle.cf_linear.specs.Rows.{Values, value}
use Rattle.cf_linear.specs.Systems.{System, Step, floor_of, need_nonneg, need_zero, need_divides, Answer}
use Rattle.cf_linear.specs.Keep.{In, Within, update}
use Rattle.cf_linear.specs.Solved.{search_columns, let_columns, Rising, StepsOver, Owes, after, after_steps, InBounds, set_tuple, SameKnown}
use Rattle.cf_linear.proofs.KindLemmas.{Rising-in}
use Rattle.cf_linear.proofs.SolvedLemmas.{after_steps-other, set_tuple-other, tuple_within, Within-agree}
use Rattle.cf_linear.proofs.ValueLemmas.{update-at, update-other}
use Rattle.cf_elim.proofs.SearchLaws.{bounds_of}
use Rattle.cf_choose.proofs.ColumnNames.{wholes}
use Rattle.cf_growth.specs.Growing.{LetsFit}
use Rattle.cf_growth.proofs.ThenLaws.{value_over}

lets_fit : (Q : ℕ → Type 0) (lo hi : ℕ) (s : Values) (ms : List Step) → Rising lo hi (let_columns ms) → ((c : ℕ) → Q c → In c (let_columns ms) → ⊥) →
    StepsOver Q ms → LetsFit (after_steps s ms) ms
lets_fit Q lo hi s [] ri fresh o = tt
lets_fit Q lo hi s (floor_of c r g ∷ ms) ri fresh o =
    let z = int_div_euclid (value s r) g in
    let s1 = update s c z in
    let w = after_steps s1 ms in
    let not_later : In c (let_columns ms) → ⊥ = λ i. let b = Rising-in (suc c) hi c (let_columns ms) ri.1 i in absurd (omega arith) in
    let at : w c ≡ z = after_steps-other s1 ms c not_later ∙ update-at s c z in
    let same : (d : ℕ) → Q d → w d ≡ s d = λ d q. after_steps-other s1 ms d (λ i. fresh d q (inr i)) ∙ update-other s c d z (λ e. fresh d q (inl e)) in (
      at ∙ ap (λ y. int_div_euclid y g) (sym (value_over Q s w same r o.0)),
      lets_fit (λ d. (d ≡ c) ⊎ Q d) (suc c) hi s1 ms ri.1
          (λ d q i. ⊎_elim (λ (e : d ≡ c). not_later (subst (λ y. In y (let_columns ms)) e i)) (λ k. fresh d k (inr i)) q) o.1,
    )
lets_fit Q lo hi s (need_nonneg r ∷ ms) ri fresh o = lets_fit Q lo hi s ms ri fresh o.1
lets_fit Q lo hi s (need_zero r ∷ ms) ri fresh o = lets_fit Q lo hi s ms ri fresh o.1
lets_fit Q lo hi s (need_divides g r ∷ ms) ri fresh o = lets_fit Q lo hi s ms ri fresh o.1

-- each search value is that of a search column
pub tuple_value : (lo hi : ℕ) (v : Values) (bs : List (ℕ × ℕ)) (ks : List ℕ) → Rising lo hi (search_columns bs) → IsBelow (bounds_of bs) ks → (k : ℕ) →
    In k ks →
    (c : ℕ) × In c (search_columns bs) × (set_tuple v bs (wholes ks) c ≡ pos k)
tuple_value lo hi v [] [] ri b k i = absurd i
tuple_value lo hi v [] (j ∷ ks) ri b k i = absurd b
tuple_value lo hi v ((c, n) ∷ bs) [] ri b k i = absurd b
tuple_value lo hi v ((c, n) ∷ bs) (j ∷ ks) ri b k (inl e) =
    let not_later : In c (search_columns bs) → ⊥ = λ i. let b = Rising-in (suc c) hi c (search_columns bs) ri.1 i in absurd (omega arith) in
    (c, inl refl, set_tuple-other (update v c (pos j)) bs (wholes ks) c not_later ∙ update-at v c (pos j) ∙ ap pos (sym e))
tuple_value lo hi v ((c, n) ∷ bs) (j ∷ ks) ri b k (inr i) =
    let r = tuple_value (suc c) hi (update v c (pos j)) bs ks ri.1 b.1 k i in
    (r.0, inr r.1, r.2)

-- ---- the tuple and then the lets
pub record AfterIs (m : System) (a : Answer) (v : Values) (ks : List ℤ) : Type 0 where
  pub within : Within (after a v ks) a.bounds
  pub lets : LetsFit (after a v ks) a.steps
  pub same : SameKnown m v (after a v ks)
  pub first : (c : ℕ) → In c m.known ⊎ In c (search_columns a.bounds) → after a v ks c ≡ set_tuple v a.bounds ks c

pub after_is : (m : System) (a : Answer) → Owes m a → (v : Values) (ks : List ℤ) → InBounds a.bounds ks → AfterIs m a v ks
after_is m a st v ks inb =
    let Q : ℕ → Type 0 = λ c. In c m.known ⊎ In c (search_columns a.bounds) in
    let s = set_tuple v a.bounds ks in
    let x = after_steps s a.steps in
    let fresh : (c : ℕ) → Q c → In c (let_columns a.steps) → ⊥ = λ c q i.
    ⊎_elim (λ k. let b = st.columns.below c k in let r = Rising-in m.next a.system.next c (let_columns a.steps) st.columns.lets_rise i in absurd (omega arith))
    (λ k. st.columns.apart c k i) q in
    let first : (c : ℕ) → Q c → x c ≡ s c = λ c q. after_steps-other s a.steps c (fresh c q) in
    record {
      within = Within-agree s x a.bounds (λ c i. sym (first c (inr i))) (tuple_within m.next a.system.next v a.bounds ks st.columns.bounds_rise inb);
      lets = lets_fit Q m.next a.system.next s a.steps st.columns.lets_rise fresh st.columns.over;
      same = λ c k. sym (first c (inl k) ∙ set_tuple-other v a.bounds ks c (λ i. let b = st.columns.below c k in
          let r = Rising-in m.next a.system.next c (search_columns a.bounds) st.columns.bounds_rise i in absurd (omega arith)));
      first = first;
    }
