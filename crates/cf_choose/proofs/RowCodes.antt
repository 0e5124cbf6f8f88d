-- What the codes of rows and of ways compute, over names of columns.
use Rattle.std.proofs.Common.{◌≡◌, ℕ, zero, suc, ◌≤◌, ◌^◌, ◌==◌, ℤ, pos, negsuc, neg_ℤ, ◌+ℤ◌, ◌*ℤ◌, List, [], ◌∷◌, ◌⊎◌, inl, inr, length, map, Some, refl}
use Rattle.std.proofs.Common.{sym, ap, arith, ◌∙◌, cond}
use Rattle.std.specs.Prelude.{slice_get, Option, None, false}
use Rattle.std.specs.Int.{int_div_euclid, int_max, int_min}
use Rattle.std.specs.List.{fold}
use Rattle.std.specs.Ordering.{int_eq}
use Rattle.std.proofs.lemmas.Option.{slice_get_within}
use Rattle.std.proofs.lemmas.Int.{ints}
use Rattle.std.proofs.lemmas.Bool.{cond_both, eqb-false}
use Rattle.cf_num.specs.Limit.{IsWithin}
use Rattle.cf_num.proofs.DivisionLemmas.{int_div_euclid-one}
use Rattle.cf_tree.specs.declared.base.Base.{Base}
use Rattle.cf_tree.specs.declared.base.Base.TheVariants.{Int, Bool as Truth, Set}
use Rattle.cf_tree.specs.CodeTree.{CodeTree, code_lit, code_var, code_mul, code_neg, code_div, code_max, code_min, codes_of, codes_depth, code_depth}
use Rattle.cf_tree.specs.Meaning.{got, path, sum_path, best_path, chosen, choose_with}
use Rattle.cf_tree.specs.Relation.{IsDivisor}
use Rattle.cf_tree.specs.Spelled.{IsSpelled, AreSpelled}
use Rattle.cf_tree.specs.Typing.{Meets, one, HasBases, AllHave, HasNoSolve, HaveNoSolve}
use Rattle.cf_tree.specs.Values.{Value, number, value_at, number_of, HaveBases}
use Rattle.cf_tree.proofs.SetLemmas.{eq_is}
use Rattle.cf_linear.specs.Arm.{ColumnLevels, level_of, entry_code, row_code, negated, lower_code, upper_code, how_code}
use Rattle.cf_linear.specs.Keep.{In, Over, how_value}
use Rattle.cf_linear.specs.Systems.{How, row_how, greatest, least}
use Rattle.cf_linear.specs.Rows.{Row, value, AreWithin, IsRow}
use Rattle.cf_linear.proofs.BoolLemmas.{on_bool}
use Rattle.cf_linear.proofs.RowLemmas.{value-comb}
use Rattle.cf_choose.specs.CaseArms.{seen, PairsWritten, HowWritten}
use Rattle.cf_elim.specs.Returning.{PairsOver, HowOver}
use Rattle.cf_choose.proofs.TurnedRows.{negated-over, negated-within}
use Rattle.cf_cases.proofs.GuardLaws.{quotient-is}

-- ---- names
abbrev pub named : ColumnLevels → List ℕ
named [] = []
named ((c, x) ∷ names) = c ∷ named names

-- a column with a value: the constant, or one that has a name
abbrev pub HasName : ColumnLevels → ℕ → Type 0
HasName names c = (c ≡ 0) ⊎ In c (named names)

-- the names are levels of numbers
abbrev pub AreNumbers : List Base → ColumnLevels → Type 0
AreNumbers bases [] = Unit {0}
AreNumbers bases ((c, x) ∷ names) = (slice_get bases x ≡ Some Int) × AreNumbers bases names

pub number_named : (bases : List Base) (names : ColumnLevels) (c : ℕ) → AreNumbers bases names → In c (named names) →
    slice_get bases (level_of names c) ≡ Some Int
number_named bases [] c n i = absurd i
number_named bases ((d, x) ∷ names) c n i =
    cond_both (d == c) x (level_of names c) (λ y. slice_get bases y ≡ Some Int) (λ _. n.0)
    (λ e. elim i as (λ _. slice_get bases (level_of names c) ≡ Some Int) [
      | inl s ↦ absurd (eqb-false d c e (sym s))
      | inr j ↦
          number_named bases names c n.1 j
    ])

-- a code of one number, without a solve, of a depth of at most d, and spelled where levels are numbers of 32 bits
pub record IsNumberCode (d : ℕ) (scope : List Base) (c : CodeTree) : Type 0 where
  pub typed : (asked : Option (List Base)) → Meets asked (one Int) → HasBases c scope asked (one Int)
  pub plain : HasNoSolve c
  pub spelled : length scope ≤ 2 ^ 32 → IsSpelled c
  pub shallow : code_depth c ≤ d

-- and the number that it is
pub record Computes (d : ℕ) (scope : List Base) (c : CodeTree) (w : List Value → ℤ) : Type 0 where
  pub code : IsNumberCode d scope c
  pub means : (e : List Value) → HaveBases scope e → (path c e).gives ≡ got (number (w e) ∷ [])

pub number_at : (scope : List Base) (e : List Value) (x : ℕ) → HaveBases scope e → slice_get scope x ≡ Some Int →
    value_at e x ≡ number (number_of (value_at e x))
number_at [] [] x h s = refl
number_at [] (v ∷ e) x h s = absurd h
number_at (b ∷ scope) [] x h s = absurd h
number_at (Int ∷ scope) (v ∷ e) zero h s = rw h.0.1 refl
number_at (Truth ∷ scope) (v ∷ e) zero h s = absurd (cc)
number_at (Set ∷ scope) (v ∷ e) zero h s = absurd (cc)
number_at (b ∷ scope) (v ∷ e) (suc x) h s = number_at scope e x h.1 s

-- ---- the best of several numbers
abbrev pub best_of : (ℤ → ℤ → ℤ) → Option ℤ → List ℤ → ℤ
best_of better z [] = chosen z
best_of better z (x ∷ xs) = best_of better (Some (choose_with better z x)) xs

pub best_fold : (better : ℤ → ℤ → ℤ) (z : ℤ) (xs : List ℤ) → best_of better (Some z) xs ≡ fold better z xs
best_fold better z [] = refl
best_fold better z (x ∷ xs) = best_fold better (better z x) xs

module _ (scope : List Base) where
  var_computes : (x : ℕ) → slice_get scope x ≡ Some Int → Computes 1 scope (code_var x) (λ e. number_of (value_at e x))
  var_computes x s = record {
    code = record {
      typed = λ asked m. (Int, s, (refl, m));
      plain = tt;
      spelled = λ few. let h = slice_get_within scope x Int s in omega arith;
      shallow = omega arith;
    };
    means = λ e h. rw (number_at scope e x h s) refl;
  }

  lit_computes : (k : ℤ) → IsWithin k → Computes 1 scope (code_lit k) (λ e. k)
  lit_computes k w = record { code = record { typed = λ asked m. (refl, m); plain = tt; spelled = λ _. w; shallow = omega arith }; means = λ e h. refl }

  mul_computes : (k : ℤ) (x : ℕ) → IsWithin k → slice_get scope x ≡ Some Int →
      Computes 2 scope (code_mul (code_lit k) (code_var x)) (λ e. k *ℤ number_of (value_at e x))
  mul_computes k x w s = record {
    code = record {
      typed = λ asked m. ((refl, refl), (Int, s, (refl, refl)), (refl, m));
      plain = (tt, tt);
      spelled = λ few. (w, let h = slice_get_within scope x Int s in omega arith);
      shallow = omega arith;
    };
    means = λ e h. rw (number_at scope e x h s) refl;
  }

  pub deeper : (d d' : ℕ) (c : CodeTree) (w w' : List Value → ℤ) → d ≤ d' → ((e : List Value) → w e ≡ w' e) → Computes d scope c w → Computes d' scope c w'
  deeper d d' c w w' l same h = record {
    code = record { typed = h.code.typed; plain = h.code.plain; spelled = h.code.spelled; shallow = let k = h.code.shallow in omega arith };
    means = λ e have. rw (← same e) (h.means e have);
  }

  times_one : (k z : ℤ) → k ≡ pos 1 → z ≡ k *ℤ z
  times_one k z e = rw e (omega (arith, ints))

  -- ---- lists of codes
  pub record AreNumberCodes (d : ℕ) (cs : List CodeTree) : Type 0 where
    pub typed : AllHave (codes_of cs) scope Int
    pub plain : HaveNoSolve (codes_of cs)
    pub spelled : length scope ≤ 2 ^ 32 → AreSpelled (codes_of cs)
    pub shallow : codes_depth (codes_of cs) ≤ d

  no_numbers : (d : ℕ) → AreNumberCodes d []
  no_numbers d = record { typed = tt; plain = tt; spelled = λ _. tt; shallow = omega arith }

  more_numbers : (d : ℕ) (c : CodeTree) (cs : List CodeTree) → IsNumberCode d scope c → AreNumberCodes d cs → AreNumberCodes d (c ∷ cs)
  more_numbers d c cs h k = record {
    typed = (h.typed (Some (one Int)) refl, k.typed);
    plain = (h.plain, k.plain);
    spelled = λ few. (h.spelled few, k.spelled few);
    shallow = let l = h.shallow in let m = k.shallow in omega arith;
  }

  module _ (names : ColumnLevels) (numbers : AreNumbers scope names) where
    variable_computes : (c : ℕ) (k : ℤ) → In c (named names) → IsWithin k →
        Computes 2 scope (cond (int_eq k (pos 1)) (code_var (level_of names c)) (code_mul (code_lit k) (code_var (level_of names c))))
        (λ e. k *ℤ number_of (value_at e (level_of names c)))
    variable_computes c k i w =
        let h = number_named scope names c numbers i in
        let x = level_of names c in
        cond_both (int_eq k (pos 1)) (code_var x) (code_mul (code_lit k) (code_var x)) (λ c. Computes 2 scope c (λ e. k *ℤ number_of (value_at e x)))
        (λ t. deeper 1 2 (code_var x) (λ e. number_of (value_at e x)) (λ e. k *ℤ number_of (value_at e x)) (omega arith)
        (λ e. times_one k (number_of (value_at e x)) (eq_is k (pos 1) t)) (var_computes x h))
        (λ t. mul_computes k x w h)

    named_unless : (c : ℕ) → HasName names c → c == 0 ≡ false → In c (named names)
    named_unless c (inl z) e = absurd (eqb-false c 0 e z)
    named_unless c (inr i) e = i

    entry_computes : (c : ℕ) (k : ℤ) → HasName names c → IsWithin k → Computes 2 scope (entry_code names (c, k)) (λ e. k *ℤ seen names e c)
    entry_computes c k h w = on_bool (c == 0)
        (λ e. rw e (deeper 1 2 (code_lit k) (λ e. k) (λ e. k *ℤ pos 1) (omega arith) (λ e. omega (arith, ints)) (lit_computes k w)))
        (λ e. rw e (variable_computes c k (named_unless c h e) w))

    entries_numbers : (r : Row) → Over (HasName names) r → AreWithin r → AreNumberCodes 2 (map (entry_code names) r)
    entries_numbers [] o w = no_numbers 2
    entries_numbers ((c, k) ∷ r) o w = more_numbers 2 (entry_code names (c, k)) (map (entry_code names) r) (entry_computes c k o.0 w.0).code
        (entries_numbers r o.1 w.1)

    sum_means : (r : Row) (e : List Value) (z : ℤ) → Over (HasName names) r → AreWithin r → HaveBases scope e →
        (sum_path (codes_of (map (entry_code names) r)) e z).gives ≡ got (number (z +ℤ value (seen names e) r) ∷ [])
    sum_means [] e z o w h = ap (λ x. got (number x ∷ [])) (omega (arith, ints))
    sum_means ((c, k) ∷ r) e z o w h =
        rw ((entry_computes c k o.0 w.0).means e h)
        (sum_means r e (z +ℤ k *ℤ seen names e c) o.1 w.1 h ∙ ap (λ x. got (number x ∷ [])) (omega (arith, ints)))

    pub row_computes : (r : Row) → Over (HasName names) r → AreWithin r → Computes 3 scope (row_code names r) (λ e. value (seen names e) r)
    row_computes [] o w = deeper 1 3 (code_lit (pos 0)) (λ e. pos 0) (λ e. pos 0) (omega arith) (λ e. refl) (lit_computes (pos 0) (omega arith))
    row_computes ((c, k) ∷ []) o w =
        deeper 2 3 (entry_code names (c, k)) (λ e. k *ℤ seen names e c) (λ e. k *ℤ seen names e c +ℤ pos 0) (omega arith) (λ e. omega (arith, ints))
        (entry_computes c k o.0 w.0)
    row_computes ((c, k) ∷ p ∷ r) o w =
        let cs = entries_numbers ((c, k) ∷ p ∷ r) o w in
        record {
          code = record {
            typed = λ asked m. (omega arith, cs.typed, (refl, m));
            plain = cs.plain;
            spelled = λ few. (omega arith, cs.spelled few);
            shallow = let s = cs.shallow in omega arith;
          };
          means = λ e h. sum_means ((c, k) ∷ p ∷ r) e (pos 0) o w h ∙ ap (λ x. got (number x ∷ [])) (omega (arith, ints));
        }

    pub div_computes : (r : Row) (g : ℤ) → Over (HasName names) r → AreWithin r → IsDivisor g →
        Computes 4 scope (code_div (row_code names r) g) (λ e. int_div_euclid (value (seen names e) r) g)
    div_computes r g o w d =
        let c = row_computes r o w in
        record {
          code = record {
            typed = λ asked m. (d.0, c.code.typed (Some (one Int)) refl, (refl, m));
            plain = c.code.plain;
            spelled = λ few. (d, c.code.spelled few);
            shallow = let s = c.code.shallow in omega arith;
          };
          means = λ e h. rw (c.means e h) (ap (λ x. got (number x ∷ [])) (quotient-is (value (seen names e) r) g d.0));
        }

    neg_div_computes : (r : Row) (g : ℤ) → Over (HasName names) r → AreWithin r → IsDivisor g →
        Computes 5 scope (code_neg (code_div (row_code names r) g)) (λ e. neg_ℤ (int_div_euclid (value (seen names e) r) g))
    neg_div_computes r g o w d =
        let c = div_computes r g o w d in
        record {
          code = record {
            typed = λ asked m. (c.code.typed (Some (one Int)) refl, (refl, m));
            plain = c.code.plain;
            spelled = c.code.spelled;
            shallow = let s = c.code.shallow in omega arith;
          };
          means = λ e h. rw (c.means e h) refl;
        }

    over_one : (z p : ℤ) → p ≡ pos 1 → int_div_euclid z p ≡ z
    over_one z p e = rw e (int_div_euclid-one z)

    turned_value : (e : List Value) (r : Row) (p : ℤ) → p ≡ pos 1 → value (seen names e) (negated r) ≡ neg_ℤ (int_div_euclid (value (seen names e) r) p)
    turned_value e r p h = rw (value-comb (seen names e) (negsuc 0) r (pos 0) [], over_one (value (seen names e) r) p h) (omega (arith, ints))

    lower_computes : (r : Row) (p : ℤ) → Over (HasName names) r → IsRow r → IsDivisor p →
        Computes 5 scope (lower_code names (r, p)) (λ e. neg_ℤ (int_div_euclid (value (seen names e) r) p))
    lower_computes r p o w d =
        cond_both (int_eq p (pos 1)) (row_code names (negated r)) (code_neg (code_div (row_code names r) p))
        (λ c. Computes 5 scope c (λ e. neg_ℤ (int_div_euclid (value (seen names e) r) p)))
        (λ t. deeper 3 5 (row_code names (negated r)) (λ e. value (seen names e) (negated r)) (λ e. neg_ℤ (int_div_euclid (value (seen names e) r) p))
        (omega arith) (λ e. turned_value e r p (eq_is p (pos 1) t))
        (row_computes (negated r) (negated-over (HasName names) r o) (negated-within r w)))
        (λ t. neg_div_computes r p o w.1 d)

    upper_computes : (r : Row) (p : ℤ) → Over (HasName names) r → IsRow r → IsDivisor p →
        Computes 5 scope (upper_code names (r, p)) (λ e. int_div_euclid (value (seen names e) r) p)
    upper_computes r p o w d =
        cond_both (int_eq p (pos 1)) (row_code names r) (code_div (row_code names r) p)
        (λ c. Computes 5 scope c (λ e. int_div_euclid (value (seen names e) r) p))
        (λ t. deeper 3 5 (row_code names r) (λ e. value (seen names e) r) (λ e. int_div_euclid (value (seen names e) r) p) (omega arith)
        (λ e. sym (over_one (value (seen names e) r) p (eq_is p (pos 1) t))) (row_computes r o w.1))
        (λ t. deeper 4 5 (code_div (row_code names r) p) (λ e. int_div_euclid (value (seen names e) r) p) (λ e. int_div_euclid (value (seen names e) r) p)
        (omega arith) (λ e. refl) (div_computes r p o w.1 d))

    module _ (f : Row × ℤ → CodeTree) (w : List Value → Row × ℤ → ℤ) (each : (r : Row) (p : ℤ) → Over (HasName names) r → IsRow r → IsDivisor p →
        Computes 5 scope (f (r, p)) (λ e. w e (r, p))) where
      pairs_numbers : (bs : List (Row × ℤ)) → PairsOver (HasName names) bs → PairsWritten bs → AreNumberCodes 5 (map f bs)
      pairs_numbers [] o s = no_numbers 5
      pairs_numbers ((r, p) ∷ bs) o s = more_numbers 5 (f (r, p)) (map f bs) (each r p o.0 s.0 s.1).code (pairs_numbers bs o.1 s.2)

      best_means : (better : ℤ → ℤ → ℤ) (e : List Value) → HaveBases scope e → (bs : List (Row × ℤ)) (z : Option ℤ) → PairsOver (HasName names) bs →
          PairsWritten bs →
          (best_path better (codes_of (map f bs)) e z).gives ≡ got (number (best_of better z (map (w e) bs)) ∷ [])
      best_means better e have [] z o s = refl
      best_means better e have ((r, p) ∷ bs) z o s = rw ((each r p o.0 s.0 s.1).means e have)
          (best_means better e have bs (Some (choose_with better z (w e (r, p)))) o.1 s.2)

      none_computes : Computes 6 scope (code_lit (pos 0)) (λ e. pos 0)
      none_computes = deeper 1 6 (code_lit (pos 0)) (λ e. pos 0) (λ e. pos 0) (omega arith) (λ e. refl) (lit_computes (pos 0) (omega arith))

      one_computes : (b : Row × ℤ) → PairsOver (HasName names) (b ∷ []) → PairsWritten (b ∷ []) → Computes 6 scope (f b) (λ e. w e b)
      one_computes (r, p) o s = deeper 5 6 (f (r, p)) (λ e. w e (r, p)) (λ e. w e (r, p)) (omega arith) (λ e. refl) (each r p o.0 s.0 s.1)

      max_computes : (b c : Row × ℤ) (bs : List (Row × ℤ)) → PairsOver (HasName names) (b ∷ c ∷ bs) → PairsWritten (b ∷ c ∷ bs) →
          Computes 6 scope (code_max (codes_of (map f (b ∷ c ∷ bs)))) (λ e. fold int_max (w e b) (map (w e) (c ∷ bs)))
      max_computes b c bs o s =
          let cs = pairs_numbers (b ∷ c ∷ bs) o s in
          record {
            code = record {
              typed = λ asked m. (omega arith, cs.typed, (refl, m));
              plain = cs.plain;
              spelled = λ few. (omega arith, cs.spelled few);
              shallow = let s = cs.shallow in omega arith;
            };
            means = λ e have. best_means int_max e have (b ∷ c ∷ bs) None o s ∙ ap (λ x. got (number x ∷ [])) (best_fold int_max (w e b) (map (w e) (c ∷ bs)));
          }

      min_computes : (b c : Row × ℤ) (bs : List (Row × ℤ)) → PairsOver (HasName names) (b ∷ c ∷ bs) → PairsWritten (b ∷ c ∷ bs) →
          Computes 6 scope (code_min (codes_of (map f (b ∷ c ∷ bs)))) (λ e. fold int_min (w e b) (map (w e) (c ∷ bs)))
      min_computes b c bs o s =
          let cs = pairs_numbers (b ∷ c ∷ bs) o s in
          record {
            code = record {
              typed = λ asked m. (omega arith, cs.typed, (refl, m));
              plain = cs.plain;
              spelled = λ few. (omega arith, cs.spelled few);
              shallow = let s = cs.shallow in omega arith;
            };
            means = λ e have. best_means int_min e have (b ∷ c ∷ bs) None o s ∙ ap (λ x. got (number x ∷ [])) (best_fold int_min (w e b) (map (w e) (c ∷ bs)));
          }

    abbrev low_value : List Value → Row × ℤ → ℤ
    low_value e (r, p) = neg_ℤ (int_div_euclid (value (seen names e) r) p)

    abbrev high_value : List Value → Row × ℤ → ℤ
    high_value e (r, p) = int_div_euclid (value (seen names e) r) p

    greatest_computes : (bs : List (Row × ℤ)) → PairsOver (HasName names) bs → PairsWritten bs →
        Computes 6 scope (how_code names (greatest bs)) (λ e. how_value (seen names e) (greatest bs))
    greatest_computes [] o s = none_computes (lower_code names) low_value lower_computes
    greatest_computes (b ∷ []) o s = one_computes (lower_code names) low_value lower_computes b o s
    greatest_computes (b ∷ c ∷ bs) o s = max_computes (lower_code names) low_value lower_computes b c bs o s

    least_computes : (bs : List (Row × ℤ)) → PairsOver (HasName names) bs → PairsWritten bs →
        Computes 6 scope (how_code names (least bs)) (λ e. how_value (seen names e) (least bs))
    least_computes [] o s = none_computes (upper_code names) high_value upper_computes
    least_computes (b ∷ []) o s = one_computes (upper_code names) high_value upper_computes b o s
    least_computes (b ∷ c ∷ bs) o s = min_computes (upper_code names) high_value upper_computes b c bs o s

    pub how_computes : (w : How) → HowOver (HasName names) w → HowWritten w → Computes 6 scope (how_code names w) (λ e. how_value (seen names e) w)
    how_computes (row_how r) o s = deeper 3 6 (row_code names r) (λ e. value (seen names e) r) (λ e. value (seen names e) r) (omega arith) (λ e. refl)
        (row_computes r o s.1)
    how_computes (greatest bs) o s = greatest_computes bs o s
    how_computes (least bs) o s = least_computes bs o s
