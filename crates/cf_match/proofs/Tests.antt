-- What the tests of a match's lowered form give.
use Rattle.std.proofs.Common.{◌≡◌, ◌↔◌, ℕ, zero, suc, ℤ, pos, Bool, true, false, ◌||◌, List, [], ◌∷◌, ◌++◌, map, refl, sym, ap, ◌∙◌, ⊎_elim, inl, inr}
use Rattle.std.specs.Bool.{MatchBool}
use Rattle.cf_tree.specs.declared.base.Base.TheVariants.{Int}
use Rattle.cf_tree.specs.declared.raw.BinOp.TheVariants.{Or}
use Rattle.cf_tree.specs.declared.raw.Param.{Param}
use Rattle.cf_tree.specs.Allowed.{Gives, Chosen, AllowedIn, AllowedArm, Fits}
use Rattle.cf_tree.specs.ExprTree.{ExprTree, expr_lit, expr_var, expr_mod, expr_binary, expr_if, expr_choose, match_arm, MatchArmTrees, no_match_arms, match_arm_more}
use Rattle.cf_tree.specs.Numbers.{remainder}
use Rattle.cf_tree.specs.Relation.{Sol}
use Rattle.cf_tree.specs.RelTree.{rel_false}
use Rattle.cf_tree.specs.Values.{Value, number, truth, Outcome, values, no_solution, value_at}
use Rattle.cf_program.specs.Lowered.{divisor, test_by, test, any_test, any_fits}
use Rattle.cf_match.proofs.Outcomes.{then_alone, iff_then}
use Rattle.cf_match.proofs.Patterns.{fits_by, fits, fits_some, fits_none}

-- whether any arm fits
abbrev pub fits_any : MatchArmTrees → ℤ → Bool
fits_any no_match_arms z = false
fits_any (match_arm_more (match_arm m factors k body) arms) z = fits factors k z || fits_any arms z

or_false : (b : Bool) → (b || false) ≡ b
or_false true = refl
or_false false = refl

or_assoc : (a b c : Bool) → ((a || b) || c) ≡ (a || (b || c))
or_assoc true b c = refl
or_assoc false b c = refl

or_by : (b t : Bool) (o : Outcome) (X : Type 0) → X ↔ Gives (truth t) o → MatchBool b (Gives (truth true) o) X ↔ Gives (truth (b || t)) o
or_by true t o X h = ((λ g. g), λ g. g)
or_by false t o X h = h

pub on_test : (a b : Bool) (X Y : Type 0) → a ≡ b → MatchBool a X Y ↔ MatchBool b X Y
on_test true true X Y e = ((λ x. x), λ x. x)
on_test true false X Y e = absurd (cc)
on_test false true X Y e = absurd (cc)
on_test false false X Y e = ((λ x. x), λ x. x)

either_way : {X X' Y Y' : Type 0} (b : Bool) → X ↔ X' → Y ↔ Y' → MatchBool b X Y ↔ MatchBool b X' Y'
either_way true f g = f
either_way false f g = g

pub none_chosen : (n : ℕ) (env : List Value) (o : Outcome) → Chosen n (Sol (Int ∷ []) rel_false env) o ↔ (o ≡ no_solution n)
none_chosen n env o = (forth o, back)
  where
    forth : (p : Outcome) → Chosen n (Sol (Int ∷ []) rel_false env) p → p ≡ no_solution n
    forth (values xs) h = absurd h.1
    forth (no_solution m) h = ap no_solution h.0

    back : o ≡ no_solution n → Chosen n (Sol (Int ∷ []) rel_false env) o
    back e = rw e (refl, λ xs s. s.1)

module _ (after : ℕ → List Value → Outcome → Type 0) (env : List Value) (x : ℕ) (z : ℤ) (at : value_at env x ≡ number z) where
  var_is : (o : Outcome) → AllowedIn after (expr_var x) env o ↔ Gives (number z) o
  var_is o = ((λ g. g ∙ ap (λ v. values (v ∷ [])) at), λ g. g ∙ ap (λ v. values (v ∷ [])) (sym at))

  lit_is : (k : ℤ) (o : Outcome) → AllowedIn after (expr_lit k) env o ↔ Gives (number k) o
  lit_is k o = ((λ g. g), λ g. g)

  mod_is : (d : ℤ) (o : Outcome) → AllowedIn after (expr_mod (expr_var x) d) env o ↔ Gives (number (remainder z d)) o
  mod_is d o = then_alone (number z) o var_is

  pub test_by_is : (d : ℕ) (k : ℤ) (o : Outcome) → AllowedIn after (test_by x d k) env o ↔ Gives (truth (fits_by d k z)) o
  test_by_is zero k o = iff_then (then_alone (number z) o var_is) (then_alone (number k) o (lit_is k))
  test_by_is (suc d) k o =
      iff_then (then_alone (number (remainder z (pos (suc d)))) o (mod_is (pos (suc d))))
      (then_alone (number (remainder k (pos (suc d)))) o (lit_is (remainder k (pos (suc d)))))

  pub test_is : (factors : List ℤ) (k : ℤ) (o : Outcome) → AllowedIn after (test x factors k) env o ↔ Gives (truth (fits factors k z)) o
  test_is factors k o = test_by_is (divisor factors) k o

  or_is : (a b : ExprTree) (s t : Bool) → ((o : Outcome) → AllowedIn after a env o ↔ Gives (truth s) o) → ((o : Outcome) →
      AllowedIn after b env o ↔ Gives (truth t) o) →
      (o : Outcome) → AllowedIn after (expr_binary Or a b) env o ↔ Gives (truth (s || t)) o
  or_is a b s t f g o = iff_then (then_alone (truth s) o f) (or_by s t o (AllowedIn after b env o) (g o))

  any_test_is : (arms : MatchArmTrees) (before : ExprTree) (b : Bool) → ((o : Outcome) → AllowedIn after before env o ↔ Gives (truth b) o) →
      (o : Outcome) → AllowedIn after (any_test x before arms) env o ↔ Gives (truth (b || fits_any arms z)) o
  any_test_is no_match_arms before b h o = rw (or_false b) (h o)
  any_test_is (match_arm_more (match_arm m factors k body) arms) before b h o =
      rw (← (or_assoc b (fits factors k z) (fits_any arms z)))
      (any_test_is arms (expr_binary Or before (test x factors k)) (b || fits factors k z) (or_is before (test x factors k) b (fits factors k z) h (test_is
      factors k)) o)

  pub any_fits_is : (arms : MatchArmTrees) (o : Outcome) → AllowedIn after (any_fits x arms) env o ↔ Gives (truth (fits_any arms z)) o
  any_fits_is no_match_arms o = ((λ g. g), λ g. g)
  any_fits_is (match_arm_more (match_arm m factors k body) arms) o = any_test_is arms (test x factors k) (fits factors k z) (test_is factors k) o

  -- the value where an arm fits it, and else no solution
  pub fitting_is : (n : ℕ) (scope : List Param) (arms : MatchArmTrees) (b : Bool) → fits_any arms z ≡ b → (o : Outcome) →
      AllowedIn after (expr_if (any_fits x arms) (expr_var x) (expr_choose n scope (Int ∷ []) rel_false)) env o
      ↔ MatchBool b (Gives (number z) o) (o ≡ no_solution n)
  fitting_is n scope arms b e o =
      iff_then (then_alone (truth (fits_any arms z)) o (any_fits_is arms))
      (iff_then (either_way (fits_any arms z) (var_is o) (none_chosen n env o)) (on_test (fits_any arms z) b _ _ e))

  -- the one part where the pattern fits, and else the other
  pub if_fits : (factors : List ℤ) (k : ℤ) (body rest : ExprTree) (b : Bool) → fits factors k z ≡ b → (o : Outcome) →
      AllowedIn after (expr_if (test x factors k) body rest) env o ↔ MatchBool b (AllowedIn after body env o) (AllowedIn after rest env o)
  if_fits factors k body rest b e o = iff_then (then_alone (truth (fits factors k z)) o (test_is factors k)) (on_test (fits factors k z) b _ _ e)

-- ---- arms
pub first_fits : (calls : ℕ → List Value → Outcome →
    Type 0) (n m : ℕ) (factors : List ℤ) (k : ℤ) (body : ExprTree) (arms : MatchArmTrees) (z : ℤ) (env : List Value) (o : Outcome) →
    fits factors k z ≡ true → AllowedArm calls n (match_arm_more (match_arm m factors k body) arms) z env o ↔
    ((is : List ℤ) × Fits factors k z is × AllowedIn calls body (env ++ map number is) o)
first_fits calls n m factors k body arms z env o e =
    let found = fits_some factors k z e in
    ((λ h. ⊎_elim (λ s. s) (λ s. absurd (s.0 found.0 found.1)) h), λ s. inl s)

pub first_misses : (calls : ℕ → List Value → Outcome →
    Type 0) (n m : ℕ) (factors : List ℤ) (k : ℤ) (body : ExprTree) (arms : MatchArmTrees) (z : ℤ) (env : List Value) (o : Outcome) →
    fits factors k z ≡ false → AllowedArm calls n (match_arm_more (match_arm m factors k body) arms) z env o ↔ AllowedArm calls n arms z env o
first_misses calls n m factors k body arms z env o e =
    ((λ h. ⊎_elim (λ s. absurd (fits_none factors k z e s.0 s.1)) (λ s. s.1) h), λ r. inr (fits_none factors k z e, r))

neither : (a b : Bool) → (a || b) ≡ false → (a ≡ false) × (b ≡ false)
neither true b e = absurd (cc)
neither false b e = (refl, e)

pub none_fits : (calls : ℕ → List Value → Outcome → Type 0) (n : ℕ) (arms : MatchArmTrees) (z : ℤ) (env : List Value) (o : Outcome) →
    fits_any arms z ≡ false → AllowedArm calls n arms z env o ↔ (o ≡ no_solution n)
none_fits calls n no_match_arms z env o e = ((λ g. g), λ g. g)
none_fits calls n (match_arm_more (match_arm m factors k body) arms) z env o e =
    let p = neither (fits factors k z) (fits_any arms z) e in
    iff_then (first_misses calls n m factors k body arms z env o p.0) (none_fits calls n arms z env o p.1)
