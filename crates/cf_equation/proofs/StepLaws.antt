-- An equation step owes what the whole needs.
use Rattle.std.proofs.Common.{◌≡◌, ◌≢◌, ℕ, ◌<◌, ◌≤◌, ℤ, pos, negsuc, neg_ℤ, ◌+ℤ◌, List, [], ◌∷◌, Bool, true, false, not, ◌==◌, refl, sym, ◌∙◌, ap, arith, suc, subst, ◌⊎◌, inl, inr, ⊎_elim, length, slice_index_or, drop}
use Rattle.std.specs.Prelude.{filter}
use Rattle.std.proofs.lemmas.Int.{ints}
use Rattle.std.proofs.lemmas.Bool.{cond_both, ne_eqb}
use Rattle.cf_linear.specs.Rows.{Row, entry, without, Rises, is_zero}
use Rattle.cf_linear.specs.Systems.{System, Answer, EachRow, row_how}
use Rattle.cf_linear.specs.Steps.{present, merge, last, is_unit, is_positive}
use Rattle.cf_linear.specs.Keep.{In, Over, IsColumn, Formed, Reaches, Differ}
use Rattle.cf_linear.specs.Solved.{Owes}
use Rattle.cf_linear.proofs.BoolLemmas.{on_bool}
use Rattle.cf_linear.proofs.RowLemmas.{zero_from_is_zero}
use Rattle.cf_linear.proofs.Canonical.{entry-head}
use Rattle.cf_linear.proofs.CombLemmas.{Rises-comb}
use Rattle.cf_linear.proofs.KindLemmas.{Over-weaker, Over-comb, Over-both, Over-without, Rises-filter, In-append, In-left, In-right, In-filter, In-unfilter}
use Rattle.cf_linear.proofs.FormedLemmas.{kinds_from, low_from, still, one_kept, subst_over, subst_rise}
use Rattle.cf_equation.specs.Equations.{first_of, rest_of, equation_answer, first_present}
use Rattle.cf_equation.proofs.EndLaws.{unit_answer, divided_answer, unit_keeps, divided_keeps, unit_reaches, divided_reaches, unit_row, turned_row, turn, last-unit, last-divided}
use Rattle.cf_equation.proofs.MergeLaws.{merge_owes, merge_reaches, mix_formed, mix_differs}

-- the equation has no other unknown
abbrev pub OnlyUnknown : System → ℕ → Row → Type 0
OnlyUnknown m u e = Over (λ c. In c m.known ⊎ (c ≡ u)) e

-- ---- the last unknown
divided_owes : (m : System) (e : Row) (rest : List Row) (u : ℕ) → Formed m → m.equations ≡ e ∷ rest → In u m.unknown → entry e u ≢ pos 0 → OnlyUnknown m u e →
    Owes m (divided_answer m e rest u)
divided_owes m e rest u f eq i h alone =
    let r = without u e in
    let over : Over (λ c. In c m.known ⊎ In c []) r =
    Over-weaker (λ c. (In c m.known ⊎ (c ≡ u)) × (c ≢ u)) (λ c. In c m.known ⊎ In c []) (λ c q. ⊎_elim (λ k. inl k) (λ j. absurd (q.1 j)) q.0) r
    (Over-without (λ c. In c m.known ⊎ (c ≡ u)) u e alone) in
    record {
      keeps = divided_keeps m e rest u eq (low_from m f) (f.unknown_below u i) h;
      kept = one_kept m u (row_how (turned_row m.next u e)) (kinds_from m f) i;
      columns = record {
        constant = f.constant;
        below = f.below;
        grows = λ c k. In-left c m.known (m.next ∷ []) k;
        bound_known = λ c j. absurd j;
        let_known = λ c j. In-right c m.known (m.next ∷ []) j;
        only = λ c k. ⊎_elim (λ j. inr (inl j)) (λ j. inl j) (In-append c m.known (m.next ∷ []) k);
        over = (over, (over, tt));
        bounds_rise = omega arith;
        lets_rise = (omega arith, omega arith);
        apart = λ c j l. absurd j;
      };
    }

pub last_owes : (m : System) (e : Row) (rest : List Row) (u : ℕ) → Formed m → m.equations ≡ e ∷ rest → In u m.unknown → entry e u ≢ pos 0 → OnlyUnknown m u e →
    Owes m (last m e rest u)
last_owes m e rest u f eq i h alone =
    cond_both (is_unit (entry e u)) (pos 0) (pos 0) (λ _. Owes m (last m e rest u))
    (λ j. subst (λ a. Owes m a) (sym (last-unit m e rest u j))
    (still m (unit_answer m e rest u) (kinds_from m f) (unit_keeps m e rest u eq (low_from m f) j) refl (omega arith) refl refl
    (one_kept m u (row_how (unit_row u e)) (kinds_from m f) i)))
    (λ j. subst (λ a. Owes m a) (sym (last-divided m e rest u j)) (divided_owes m e rest u f eq i h alone))

last_reaches : (m : System) (e : Row) (rest : List Row) (u : ℕ) → Formed m → m.equations ≡ e ∷ rest → In u m.unknown → entry e u ≢ pos 0 →
    Reaches m (last m e rest u)
last_reaches m e rest u f eq i h =
    cond_both (is_unit (entry e u)) (pos 0) (pos 0) (λ _. Reaches m (last m e rest u))
    (λ j. subst (Reaches m) (sym (last-unit m e rest u j)) (unit_reaches m e rest u eq (low_from m f) j))
    (λ j. subst (Reaches m) (sym (last-divided m e rest u j)) (divided_reaches m e rest u eq (low_from m f) (f.unknown_below u i) h))

unit_formed : (m : System) (e : Row) (rest : List Row) (u : ℕ) → Formed m → m.equations ≡ e ∷ rest → OnlyUnknown m u e → Formed (unit_answer m e rest u).system
unit_formed m e rest u f eq alone =
    let s = unit_row u e in
    let n = (unit_answer m e rest u).system in
    let zo = subst (λ rows. EachRow (Over (IsColumn m)) rows) eq f.zero in
    let zr = subst (λ rows. EachRow (Rises 0) rows) eq f.zero_rise in
    let move : (c : ℕ) → IsColumn m c × (c ≢ u) → IsColumn n c = λ c q. ⊎_elim (λ k. inl k) (λ k. inr (In-filter c u m.unknown k q.1)) q.0 in
    let so : Over (IsColumn n) s = Over-comb (IsColumn n) (neg_ℤ (entry e u)) (without u e) (pos 0) []
    (Over-weaker (λ c. (In c m.known ⊎ (c ≡ u)) × (c ≢ u)) (IsColumn n) (λ c q. ⊎_elim (λ k. inl k) (λ k. absurd (q.1 k)) q.0) (without u e)
    (Over-without (λ c. In c m.known ⊎ (c ≡ u)) u e alone)) tt in
    let sr : Rises 0 s = Rises-comb 0 (neg_ℤ (entry e u)) (without u e) (pos 0) [] (Rises-filter 0 (λ (c, k). not (c == u)) e zr.0) tt in
    record {
      constant = f.constant;
      below = f.below;
      unknown_below = λ c i. f.unknown_below c (In-unfilter c u m.unknown i);
      apart = λ c k i. f.apart c k (In-unfilter c u m.unknown i);
      zero = subst_over (IsColumn m) (IsColumn n) u s move so rest zo.1;
      nonneg = subst_over (IsColumn m) (IsColumn n) u s move so m.inequalities f.nonneg;
      zero_rise = subst_rise u s sr rest zr.1;
      nonneg_rise = subst_rise u s sr m.inequalities f.nonneg_rise;
    }

minus_some : negsuc 0 ≢ pos 0
minus_some e = cc

plus_some : pos 1 ≢ pos 0
plus_some e = cc

turn_some : (c : ℤ) → turn c ≢ pos 0
turn_some c q = on_bool (is_positive c) (λ e. minus_some (rw e at q)) (λ e. plus_some (rw e at q))

divided_formed : (m : System) (e : Row) (rest : List Row) (u : ℕ) → Formed m → m.equations ≡ e ∷ rest → Formed (divided_answer m e rest u).system
divided_formed m e rest u f eq =
    let d = m.next in
    let s = turned_row d u e in
    let n = (divided_answer m e rest u).system in
    let zo = subst (λ rows. EachRow (Over (IsColumn m)) rows) eq f.zero in
    let zr = subst (λ rows. EachRow (Rises 0) rows) eq f.zero_rise in
    let move : (c : ℕ) → IsColumn m c × (c ≢ u) → IsColumn n c =
    λ c q. ⊎_elim (λ k. inl (In-left c m.known (d ∷ []) k)) (λ k. inr (In-filter c u m.unknown k q.1)) q.0 in
    let so : Over (IsColumn n) s = (inl (In-right d m.known (d ∷ []) (inl refl)), tt) in
    let sr : Rises 0 s = (omega arith, turn_some (entry e u), tt) in
    record {
      constant = In-left 0 m.known (d ∷ []) f.constant;
      below = λ c k. ⊎_elim (λ j. let b = f.below c j in omega arith) (λ j. ⊎_elim (λ (q : c ≡ d). omega arith) (λ q. absurd q) j)
          (In-append c m.known (d ∷ []) k);
      unknown_below = λ c i. let b = f.unknown_below c (In-unfilter c u m.unknown i) in omega arith;
      apart = λ c k i.
          let j = In-unfilter c u m.unknown i in
          let b = f.unknown_below c j in
          ⊎_elim (λ p. f.apart c p j) (λ p. ⊎_elim (λ (q : c ≡ d). absurd (omega arith)) (λ q. absurd q) p) (In-append c m.known (d ∷ []) k);
      zero = subst_over (IsColumn m) (IsColumn n) u s move so rest zo.1;
      nonneg = subst_over (IsColumn m) (IsColumn n) u s move so m.inequalities f.nonneg;
      zero_rise = subst_rise u s sr rest zr.1;
      nonneg_rise = subst_rise u s sr m.inequalities f.nonneg_rise;
    }

pub last_formed : (m : System) (e : Row) (rest : List Row) (u : ℕ) → Formed m → m.equations ≡ e ∷ rest → OnlyUnknown m u e → Formed (last m e rest u).system
last_formed m e rest u f eq alone =
    cond_both (is_unit (entry e u)) (pos 0) (pos 0) (λ _. Formed (last m e rest u).system)
    (λ j. subst (λ a. Formed a.system) (sym (last-unit m e rest u j)) (unit_formed m e rest u f eq alone))
    (λ j. subst (λ a. Formed a.system) (sym (last-divided m e rest u j)) (divided_formed m e rest u f eq))

pub Differ-filter : (p : ℕ → Bool) (us : List ℕ) → Differ us → Differ (filter p us)
Differ-filter p [] h = tt
Differ-filter p (c ∷ us) h = cond_both (p c) (c ∷ filter p us) (filter p us) (λ y. Differ y) (λ e. ((λ i. h.0 (In-any us i)), Differ-filter p us h.1))
    (λ e. Differ-filter p us h.1)
  where
    In-any : (ys : List ℕ) → In c (filter p ys) → In c ys
    In-any [] i = i
    In-any (d ∷ ys) i = cond_both (p d) (d ∷ filter p ys) (filter p ys) (λ y. In c y → In c (d ∷ ys)) (λ e k. ⊎_elim (λ q. inl q) (λ q. inr (In-any ys q)) k)
        (λ e k. inr (In-any ys k)) i

pub last_differs : (m : System) (e : Row) (rest : List Row) (u : ℕ) → Differ m.unknown → Differ (last m e rest u).system.unknown
unfolding last
last_differs m e rest u h = Differ-filter (λ w. not (w == u)) m.unknown h

-- ---- the unknowns that an equation has
pub In-present : (c : ℕ) (us : List ℕ) (e : Row) → In c (present us e) → In c us × (entry e c ≢ pos 0)
In-present c [] e = λ i. absurd i
In-present c (u ∷ us) e =
    cond_both (not (is_zero (entry e u))) (u ∷ present us e) (present us e) (λ y. In c y → In c (u ∷ us) × (entry e c ≢ pos 0))
    (λ t i. ⊎_elim (λ (q : c ≡ u). (inl q, λ z. some (entry e u) t (ap (λ (w : ℕ). entry e w) (sym q) ∙ z))) (λ q. let r = In-present c us e q in
    (inr r.0, r.1)) i)
    (λ t i. let r = In-present c us e i in (inr r.0, r.1))
  where
    some : (k : ℤ) → not (is_zero k) ≡ true → k ≡ pos 0 → ⊥
    some k t z = let q : not (is_zero (pos 0)) ≡ true = rw z at t in cc

present-in : (c : ℕ) (us : List ℕ) (e : Row) → In c us → entry e c ≢ pos 0 → In c (present us e)
present-in c [] e i h = absurd i
present-in c (u ∷ us) e i h =
    cond_both (not (is_zero (entry e u))) (u ∷ present us e) (present us e) (λ y. In c y)
    (λ t. ⊎_elim (λ q. inl q) (λ q. inr (present-in c us e q h)) i)
    (λ t. ⊎_elim (λ (q : c ≡ u). absurd (h (ap (λ (w : ℕ). entry e w) q ∙ none (entry e u) t))) (λ q. present-in c us e q h) i)
  where
    none : (k : ℤ) → not (is_zero k) ≡ false → k ≡ pos 0
    none k t = zero_from_is_zero k (double (is_zero k) t)
      where
        double : (b : Bool) → not b ≡ false → b ≡ true
        double true t = refl
        double false t = cc

-- the columns of a row are high, and their entries are not 0
all_high : (c : ℕ) (r : Row) → Rises c r → Over (λ x. c ≤ x) r
all_high c [] h = tt
all_high c ((d, k) ∷ r) h = (h.0, Over-weaker (λ x. suc d ≤ x) (λ x. c ≤ x) (λ x l. let m = h.0 in omega arith) r (all_high (suc d) r h.2))

all_some : (c : ℕ) (r : Row) → Rises c r → Over (λ x. entry r x ≢ pos 0) r
all_some c [] h = tt
all_some c ((d, k) ∷ r) h = (
  (λ e. h.1 (sym (entry-head c d k r h) ∙ e)),
  Over-both (λ x. suc d ≤ x) (λ x. entry r x ≢ pos 0) (λ x. entry ((d, k) ∷ r) x ≢ pos 0)
      (λ x l n e. let t : d == x ≡ false = ne_eqb d x (λ q. absurd (omega arith)) in n (plain (entry r x) (rw t at e))) r (all_high (suc d) r h.2)
      (all_some (suc d) r h.2),
)
  where
    plain : (z : ℤ) → pos 0 +ℤ z ≡ pos 0 → z ≡ pos 0
    plain z e = omega (arith, ints)

pub only_unknown : (m : System) (e : Row) (u : ℕ) → Over (IsColumn m) e → Rises 0 e → present m.unknown e ≡ u ∷ [] → OnlyUnknown m u e
only_unknown m e u o h p =
    Over-both (IsColumn m) (λ x. entry e x ≢ pos 0) (λ c. In c m.known ⊎ (c ≡ u))
    (λ c q n. ⊎_elim (λ k. inl k) (λ k. inr (⊎_elim (λ t. t) (λ t. absurd t) (subst (λ us. In c us) p (present-in c m.unknown e k n)))) q) e o (all_some 0 e h)

-- ---- the step
equations_are : (m : System) → 0 < length m.equations → m.equations ≡ first_of m ∷ rest_of m
equations_are m = by m.equations
  where
    by : (rows : List Row) → 0 < length rows → rows ≡ slice_index_or rows 0 [] ∷ drop 1 rows
    by [] h = absurd (omega arith)
    by (e ∷ rows) h = refl

pub merge_formed : (m : System) (e : Row) (u w : ℕ) → Formed m → In u m.unknown → In w m.unknown → u ≢ w → Formed (merge m e u w).system
unfolding merge
merge_formed m e u w f iu iw apart = mix_formed m u w _ _ _ _ f iu iw apart

pub merge_differs : (m : System) (e : Row) (u w : ℕ) → Formed m → Differ m.unknown → Differ (merge m e u w).system.unknown
unfolding merge
merge_differs m e u w f d = mix_differs m u w _ _ _ _ f d

-- what an equation step owes
pub record StepOwes (m : System) (a : Answer) : Type 0 where
  pub owes : Owes m a
  pub reaches : Reaches m a
  pub formed : Formed a.system
  pub differ : Differ a.system.unknown

pub step_owes : (m : System) → Formed m → Differ m.unknown → 0 < length m.equations → first_present m ≢ [] → StepOwes m (equation_answer m (first_present m))
step_owes m f d some h = by (first_present m) refl
  where
    by : (us : List ℕ) → first_present m ≡ us → StepOwes m (equation_answer m us)
    by [] p = absurd (h p)
    by (u ∷ []) p =
        let eq = equations_are m some in
        let is = In-present u m.unknown (first_of m) (subst (λ xs. In u xs) (sym p) (inl refl)) in
        let zo = subst (λ rows. EachRow (Over (IsColumn m)) rows) eq f.zero in
        let zr = subst (λ rows. EachRow (Rises 0) rows) eq f.zero_rise in
        let alone = only_unknown m (first_of m) u zo.0 zr.0 p in
        record {
          owes = last_owes m (first_of m) (rest_of m) u f eq is.0 is.1 alone;
          reaches = last_reaches m (first_of m) (rest_of m) u f eq is.0 is.1;
          formed = last_formed m (first_of m) (rest_of m) u f eq alone;
          differ = last_differs m (first_of m) (rest_of m) u d;
        }
    by (u ∷ w ∷ us) p =
        let iu = In-present u m.unknown (first_of m) (subst (λ xs. In u xs) (sym p) (inl refl)) in
        let iw = In-present w m.unknown (first_of m) (subst (λ xs. In w xs) (sym p) (inr (inl refl))) in
        let dp : Differ (u ∷ w ∷ us) = subst Differ p (Differ-filter _ m.unknown d) in
        let apart : u ≢ w = λ q. dp.0 (inl q) in
        record {
          owes = merge_owes m (first_of m) u w f iu.0 iw.0 iu.1 iw.1;
          reaches = merge_reaches m (first_of m) u w (low_from m f) (f.unknown_below u iu.0) (f.unknown_below w iw.0) iu.1 iw.1;
          formed = merge_formed m (first_of m) u w f iu.0 iw.0 apart;
          differ = merge_differs m (first_of m) u w f d;
        }
