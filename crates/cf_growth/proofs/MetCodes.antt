-- What is met in the codes of rows and of ways, over names of columns.
use Rattle.std.proofs.Common.{◌≡◌, ℕ, ◌≤◌, ◌<◌, ◌==◌, ℤ, pos, negsuc, neg_ℤ, ◌+ℤ◌, ◌*ℤ◌, List, [], ◌∷◌, inl, inr, length, map, Some, refl, sym, ap, arith, ◌∙◌, cond, subst}
use Rattle.std.specs.Prelude.{Option, None, false, unsigned_abs, ◌≤ℤ◌}
use Rattle.std.specs.Int.{int_div_euclid, int_max, int_min}
use Rattle.std.specs.Ordering.{int_eq}
use Rattle.std.proofs.lemmas.Int.{ints, clamps}
use Rattle.std.proofs.lemmas.Bool.{cond_both, eqb-true, eqb-false}
use Rattle.cf_num.proofs.DivisionLemmas.{int_div_euclid-one}
use Rattle.cf_tree.specs.CodeTree.{CodeTree, code_lit, code_var, code_mul, code_neg, code_div, codes_of}
use Rattle.cf_tree.specs.Meaning.{got, path, sum_path, best_path, chosen, choose_with}
use Rattle.cf_tree.specs.Values.{Value, number, value_at}
use Rattle.cf_tree.proofs.SetLemmas.{eq_is}
use Rattle.cf_linear.specs.Arm.{ColumnLevels, level_of, entry_code, row_code, negated, lower_code, upper_code, how_code}
use Rattle.cf_linear.specs.Keep.{In, Over, how_value}
use Rattle.cf_linear.specs.Systems.{How, row_how, greatest, least}
use Rattle.cf_linear.specs.Rows.{Row, Values, value}
use Rattle.cf_linear.proofs.BoolLemmas.{on_bool}
use Rattle.cf_linear.proofs.RowLemmas.{value-comb}
use Rattle.cf_linear.proofs.KindLemmas.{Over-comb}
use Rattle.cf_elim.specs.Returning.{PairsOver, HowOver, PairsDivide, HowDivides}
use Rattle.cf_cases.proofs.GuardLaws.{quotient-is}
use Rattle.cf_choose.proofs.RowCodes.{named, HasName, best_of, best_fold}
use Rattle.cf_growth.specs.Norms.{SumsWithin}
use Rattle.cf_growth.specs.Growing.{PairsWithin, HowWithin}
use Rattle.cf_growth.proofs.NormLaws.{quotient_bound}

-- the code gives z, which is at most n like all that is met on the way
pub record IsMet (n : ℕ) (c : CodeTree) (e : List Value) (z : ℤ) : Type 0 where
  pub gives : (path c e).gives ≡ got (number z ∷ [])
  pub peak : (path c e).peak ≤ n
  pub size : unsigned_abs z ≤ n

-- each named column has its value at its level
abbrev pub AreHeld : ColumnLevels → List Value → Values → Type 0
AreHeld names e v = (c : ℕ) → In c (named names) → (value_at e (level_of names c) ≡ number (v c)) × (level_of names c < length e)

pub lit_met : (n : ℕ) (k : ℤ) (e : List Value) → unsigned_abs k ≤ n → IsMet n (code_lit k) e k
lit_met n k e l = record { gives = refl; peak = l; size = l }

pub var_met : (n x : ℕ) (e : List Value) (z : ℤ) → value_at e x ≡ number z → unsigned_abs z ≤ n → IsMet n (code_var x) e z
var_met n x e z h l = record { gives = rw h refl; peak = rw h l; size = l }

mul_met : (n x : ℕ) (k : ℤ) (e : List Value) (z : ℤ) → value_at e x ≡ number z → unsigned_abs k ≤ n → unsigned_abs z ≤ n → unsigned_abs (k *ℤ z) ≤ n →
    IsMet n (code_mul (code_lit k) (code_var x)) e (k *ℤ z)
mul_met n x k e z h l m p = record { gives = rw h refl; peak = rw h (omega arith); size = p }

pub same_met : (n : ℕ) (c : CodeTree) (e : List Value) (y z : ℤ) → y ≡ z → IsMet n c e y → IsMet n c e z
same_met n c e y z q h = subst (λ x. IsMet n c e x) q h

neg_size : (z : ℤ) → unsigned_abs (neg_ℤ z) ≡ unsigned_abs z
neg_size z = omega (arith, ints)

neg_met : (n : ℕ) (c : CodeTree) (e : List Value) (z : ℤ) → IsMet n c e z → IsMet n (code_neg c) e (neg_ℤ z)
neg_met n c e z h =
    let p = h.peak in
    let s = h.size in
    let t = neg_size z in
    record { gives = rw h.gives refl; peak = rw h.gives (omega arith); size = omega arith }

pub div_met : (n : ℕ) (c : CodeTree) (g : ℤ) (e : List Value) (z : ℤ) → pos 1 ≤ℤ g → IsMet n c e z → IsMet n (code_div c g) e (int_div_euclid z g)
div_met n c g e z d h =
    let q = quotient-is z g d in
    let b = quotient_bound z g in
    let p = h.peak in
    let s = h.size in
    record { gives = rw (h.gives, q) refl; peak = rw (h.gives, q) (omega arith); size = omega arith }

-- ---- the best of several numbers
module _ (n : ℕ) (better : ℤ → ℤ → ℤ) (keeps : (x y : ℤ) → unsigned_abs x ≤ n → unsigned_abs y ≤ n → unsigned_abs (better x y) ≤ n) (f : Row × ℤ → CodeTree)
    (w : Row × ℤ → ℤ) (e : List Value) where
  abbrev pub AllMet : List (Row × ℤ) → Type 0
  AllMet [] = Unit {0}
  AllMet (b ∷ bs) = IsMet n (f b) e (w b) × AllMet bs

  chosen_within : (z : Option ℤ) (x : ℤ) → unsigned_abs (chosen z) ≤ n → unsigned_abs x ≤ n → unsigned_abs (choose_with better z x) ≤ n
  chosen_within None x h l = l
  chosen_within (Some z) x h l = keeps z x h l

  best_met : (bs : List (Row × ℤ)) (z : Option ℤ) → AllMet bs → unsigned_abs (chosen z) ≤ n →
      ((best_path better (codes_of (map f bs)) e z).gives ≡ got (number (best_of better z (map w bs)) ∷ [])) ×
      ((best_path better (codes_of (map f bs)) e z).peak ≤ n) × (unsigned_abs (best_of better z (map w bs)) ≤ n)
  best_met [] z a l = (refl, l, l)
  best_met (b ∷ bs) z a l =
      let g = a.0.gives in
      let p = a.0.peak in
      let r = best_met bs (Some (choose_with better z (w b))) a.1 (chosen_within z (w b) l a.0.size) in
      let q = r.1 in
      (rw g r.0, rw g (omega arith), r.2)

-- ---- over names
module _ (n : ℕ) (names : ColumnLevels) (e : List Value) (v : Values) (one : v 0 ≡ pos 1) (held : AreHeld names e v) where
  pub entry_met : (c : ℕ) (k : ℤ) → HasName names c → unsigned_abs (v c) ≤ n → unsigned_abs k ≤ n → unsigned_abs (k *ℤ v c) ≤ n →
      IsMet n (entry_code names (c, k)) e (k *ℤ v c)
  entry_met c k h a b d = on_bool (c == 0)
      (λ t. rw t (same_met n (code_lit k) e k (k *ℤ v c) (let s : v c ≡ pos 1 = ap v (eqb-true c 0 t) ∙ one in rw s (omega (arith, ints))) (lit_met n k e b)))
      (λ t. rw t (by_name (named_unless t h)))
    where
      named_unless : c == 0 ≡ false → HasName names c → In c (named names)
      named_unless t (inl z) = absurd (eqb-false c 0 t z)
      named_unless t (inr i) = i

      by_name : In c (named names) → IsMet n (cond (int_eq k (pos 1)) (code_var (level_of names c)) (code_mul (code_lit k) (code_var (level_of names c)))) e
          (k *ℤ v c)
      by_name i =
          let x = level_of names c in
          let q = (held c i).0 in
          cond_both (int_eq k (pos 1)) (code_var x) (code_mul (code_lit k) (code_var x)) (λ y. IsMet n y e (k *ℤ v c))
          (λ t. same_met n (code_var x) e (v c) (k *ℤ v c) (times_one (eq_is k (pos 1) t)) (var_met n x e (v c) q a))
          (λ _. mul_met n x k e (v c) q b a d)
        where
          times_one : k ≡ pos 1 → v c ≡ k *ℤ v c
          times_one s = rw s (omega (arith, ints))

  sums_met : (r : Row) (t : ℤ) → unsigned_abs t ≤ n → SumsWithin n v t r → Over (HasName names) r →
      ((sum_path (codes_of (map (entry_code names) r)) e t).gives ≡ got (number (t +ℤ value v r) ∷ [])) ×
      ((sum_path (codes_of (map (entry_code names) r)) e t).peak ≤ n) × (unsigned_abs (t +ℤ value v r) ≤ n)
  sums_met [] t l s o =
      let z : t ≡ t +ℤ pos 0 = omega (arith, ints) in
      (ap (λ x. got (number x ∷ [])) z, omega arith, subst (λ x. unsigned_abs x ≤ n) z l)
  sums_met ((c, k) ∷ r) t l s o =
      let h = entry_met c k o.0 s.0 s.1 s.2 in
      let g = h.gives in
      let p = h.peak in
      let u = s.3 in
      let again = sums_met r (t +ℤ k *ℤ v c) s.3 s.4 o.1 in
      let q = again.1 in
      let z : (t +ℤ k *ℤ v c) +ℤ value v r ≡ t +ℤ (k *ℤ v c +ℤ value v r) = omega (arith, ints) in
      (rw g (again.0 ∙ ap (λ x. got (number x ∷ [])) z), rw g (omega arith), subst (λ x. unsigned_abs x ≤ n) z again.2)

  pub row_met : (r : Row) → SumsWithin n v (pos 0) r → Over (HasName names) r → IsMet n (row_code names r) e (value v r)
  row_met [] s o = lit_met n (pos 0) e (omega arith)
  row_met ((c, k) ∷ []) s o =
      same_met n (entry_code names (c, k)) e (k *ℤ v c) (k *ℤ v c +ℤ pos 0) (omega (arith, ints)) (entry_met c k o.0 s.0 s.1 s.2)
  row_met ((c, k) ∷ p ∷ r) s o =
      let h = sums_met ((c, k) ∷ p ∷ r) (pos 0) (omega arith) s o in
      let z : pos 0 +ℤ value v ((c, k) ∷ p ∷ r) ≡ value v ((c, k) ∷ p ∷ r) = omega (arith, ints) in
      record { gives = h.0 ∙ ap (λ x. got (number x ∷ [])) z; peak = h.1; size = subst (λ x. unsigned_abs x ≤ n) z h.2 }

  -- ---- bounds
  over_one : (p z : ℤ) → p ≡ pos 1 → int_div_euclid z p ≡ z
  over_one p z i = rw i (int_div_euclid-one z)

  lower_met : (r : Row) (p : ℤ) → SumsWithin n v (pos 0) r → SumsWithin n v (pos 0) (negated r) → Over (HasName names) r → pos 1 ≤ℤ p →
      IsMet n (lower_code names (r, p)) e (neg_ℤ (int_div_euclid (value v r) p))
  lower_met r p s t o d =
      cond_both (int_eq p (pos 1)) (row_code names (negated r)) (code_neg (code_div (row_code names r) p))
      (λ y. IsMet n y e (neg_ℤ (int_div_euclid (value v r) p)))
      (λ i. same_met n (row_code names (negated r)) e (value v (negated r)) (neg_ℤ (int_div_euclid (value v r) p)) (turned_is (eq_is p (pos 1) i))
      (row_met (negated r) t (Over-comb (HasName names) (negsuc 0) r (pos 0) [] o tt)))
      (λ _. neg_met n (code_div (row_code names r) p) e (int_div_euclid (value v r) p) (div_met n (row_code names r) p e (value v r) d (row_met r s o)))
    where
      turned_is : p ≡ pos 1 → value v (negated r) ≡ neg_ℤ (int_div_euclid (value v r) p)
      turned_is i = rw (value-comb v (negsuc 0) r (pos 0) [], over_one p (value v r) i) (omega (arith, ints))

  upper_met : (r : Row) (p : ℤ) → SumsWithin n v (pos 0) r → Over (HasName names) r → pos 1 ≤ℤ p →
      IsMet n (upper_code names (r, p)) e (int_div_euclid (value v r) p)
  upper_met r p s o d =
      cond_both (int_eq p (pos 1)) (row_code names r) (code_div (row_code names r) p) (λ y. IsMet n y e (int_div_euclid (value v r) p))
      (λ i. same_met n (row_code names r) e (value v r) (int_div_euclid (value v r) p) (sym (over_one p (value v r) (eq_is p (pos 1) i))) (row_met r s o))
      (λ _. div_met n (row_code names r) p e (value v r) d (row_met r s o))

  max_within : (x y : ℤ) → unsigned_abs x ≤ n → unsigned_abs y ≤ n → unsigned_abs (int_max x y) ≤ n
  max_within x y h k = omega (arith, ints, clamps)

  min_within : (x y : ℤ) → unsigned_abs x ≤ n → unsigned_abs y ≤ n → unsigned_abs (int_min x y) ≤ n
  min_within x y h k = omega (arith, ints, clamps)

  abbrev low_value : Row × ℤ → ℤ
  low_value (r, p) = neg_ℤ (int_div_euclid (value v r) p)

  abbrev high_value : Row × ℤ → ℤ
  high_value (r, p) = int_div_euclid (value v r) p

  lows_met : (bs : List (Row × ℤ)) → PairsWithin n v bs → PairsOver (HasName names) bs → PairsDivide bs →
      AllMet n int_max max_within (lower_code names) low_value e bs
  lows_met [] s o d = tt
  lows_met ((r, p) ∷ bs) s o d = (lower_met r p s.0 s.1 o.0 d.0, lows_met bs s.2 o.1 d.1)

  highs_met : (bs : List (Row × ℤ)) → PairsWithin n v bs → PairsOver (HasName names) bs → PairsDivide bs →
      AllMet n int_min min_within (upper_code names) high_value e bs
  highs_met [] s o d = tt
  highs_met ((r, p) ∷ bs) s o d = (upper_met r p s.0 o.0 d.0, highs_met bs s.2 o.1 d.1)

  pub how_met : (w : How) → HowWithin n v w → HowOver (HasName names) w → HowDivides w → IsMet n (how_code names w) e (how_value v w)
  how_met (row_how r) s o d = row_met r s o
  how_met (greatest []) s o d = lit_met n (pos 0) e (omega arith)
  how_met (greatest ((r, p) ∷ [])) s o d = lower_met r p s.0 s.1 o.0 d.0
  how_met (greatest ((r, p) ∷ b ∷ bs)) s o d =
      let h = best_met n int_max max_within (lower_code names) low_value e ((r, p) ∷ b ∷ bs) None (lows_met ((r, p) ∷ b ∷ bs) s o d) (omega arith) in
      let q = best_fold int_max (low_value (r, p)) (map low_value (b ∷ bs)) in
      record { gives = h.0 ∙ ap (λ x. got (number x ∷ [])) q; peak = h.1; size = subst (λ x. unsigned_abs x ≤ n) q h.2 }
  how_met (least []) s o d = lit_met n (pos 0) e (omega arith)
  how_met (least ((r, p) ∷ [])) s o d = upper_met r p s.0 o.0 d.0
  how_met (least ((r, p) ∷ b ∷ bs)) s o d =
      let h = best_met n int_min min_within (upper_code names) high_value e ((r, p) ∷ b ∷ bs) None (highs_met ((r, p) ∷ b ∷ bs) s o d) (omega arith) in
      let q = best_fold int_min (high_value (r, p)) (map high_value (b ∷ bs)) in
      record { gives = h.0 ∙ ap (λ x. got (number x ∷ [])) q; peak = h.1; size = subst (λ x. unsigned_abs x ≤ n) q h.2 }
