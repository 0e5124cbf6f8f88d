-- A match and its lowered form allow the same outcomes.
use Rattle.std.proofs.Common.{◌≡◌, ◌↔◌, ℕ, suc, ℤ, Bool, true, false, ◌||◌, List, [], ◌∷◌, ◌++◌, length, map, refl, sym, ◌∙◌, subst}
use Rattle.std.specs.Bool.{MatchBool}
use Rattle.cf_tree.specs.declared.base.Base.{Base}
use Rattle.cf_tree.specs.declared.base.Base.TheVariants.{Int}
use Rattle.cf_tree.specs.declared.raw.Param.{Param}
use Rattle.cf_tree.specs.Allowed.{AllowedThen, goes_on, ends_at, Gives, AllowedIn, AllowedArm}
use Rattle.cf_tree.specs.ExprTree.{ExprTree, expr_if, expr_var, expr_choose, match_arm, MatchArmTrees, no_match_arms, match_arm_more}
use Rattle.cf_tree.specs.RelTree.{rel_false}
use Rattle.cf_tree.specs.Values.{Value, number, number_of, first_of, Outcome, values, no_solution, value_at}
use Rattle.cf_program.specs.Lowered.{test, any_fits, with_variables, unless_last}
use Rattle.cf_match.proofs.Outcomes.{Keeps, Agree, through, none_keeps, no_values, number_alone, values_once}
use Rattle.cf_match.proofs.Patterns.{fits, fits_some}
use Rattle.cf_match.proofs.Tests.{fits_any, fitting_is, if_fits, first_fits, first_misses, none_fits}
use Rattle.cf_match.proofs.Variables.{value_at-end, with_agrees}

same : {X : Type 0} → X ↔ X
same = ((λ x. x), λ x. x)

module _ (calls after : ℕ → List Value → Outcome → Type 0) (bs : List Base) (n : ℕ) where
  -- ---- the arms, of which one fits
  module _ (env : List Value) (x : ℕ) (z : ℤ) (at : value_at env x ≡ number z) (level : length env ≡ suc x) (scope : List Param) (o : Outcome) where
    last_agrees : (m : ℕ) (factors : List ℤ) (k : ℤ) (body low : ExprTree) (arms : MatchArmTrees) → fits factors k z ≡ true →
        ((is : List ℤ) → length is ≡ length factors →
        Agree bs o (AllowedIn calls body (env ++ map number is) o) (AllowedIn after low (env ++ map number is) o)) →
        Agree bs o (AllowedArm calls n (match_arm_more (match_arm m factors k body) arms) z env o) (AllowedIn after (with_variables m x scope factors k
        low) env o)
    last_agrees m factors k body low arms e ih =
        through (first_fits calls n m factors k body arms z env o e)
        (with_agrees calls after bs env x z at level body low k o m scope factors ih (fits_some factors k z e)) same

    pub arm_agrees : (m : ℕ) (factors : List ℤ) (k : ℤ) (body low : ExprTree) (arms : MatchArmTrees) (rest : ExprTree) (b : Bool) → fits factors k z ≡ b →
        (b || fits_any arms z) ≡ true →
        ((is : List ℤ) → length is ≡ length factors →
        Agree bs o (AllowedIn calls body (env ++ map number is) o) (AllowedIn after low (env ++ map number is) o)) →
        (fits_any arms z ≡ true → Agree bs o (AllowedArm calls n arms z env o) (AllowedIn after rest env o)) →
        Agree bs o (AllowedArm calls n (match_arm_more (match_arm m factors k body) arms) z env o)
        (AllowedIn after (unless_last (test x factors k) (with_variables m x scope factors k low) arms rest) env o)
    arm_agrees m factors k body low no_match_arms rest true e any ih more = last_agrees m factors k body low no_match_arms e ih
    arm_agrees m factors k body low no_match_arms rest false e any ih more = absurd (cc)
    arm_agrees m factors k body low (match_arm_more arm arms) rest true e any ih more =
        through same (last_agrees m factors k body low (match_arm_more arm arms) e ih)
        (if_fits after env x z at factors k (with_variables m x scope factors k low) rest true e o)
    arm_agrees m factors k body low (match_arm_more arm arms) rest false e any ih more =
        through (first_misses calls n m factors k body (match_arm_more arm arms) z env o e) (more any)
        (if_fits after env x z at factors k (with_variables m x scope factors k low) rest false e o)

  -- ---- the whole match
  module _ (a low picks : ExprTree) (arms : MatchArmTrees) (env : List Value) (x : ℕ) (scope : List Param) (level : x ≡ length env)
      (of_agrees : (p : Outcome) → Agree (Int ∷ []) p (AllowedIn calls a env p) (AllowedIn after low env p))
      (o : Outcome)
      (arms_agree : (z : ℤ) → fits_any arms z ≡ true →
      Agree bs o (AllowedArm calls n arms z (env ++ number z ∷ []) o) (AllowedIn after picks (env ++ number z ∷ []) o)) where
    abbrev Before : Type 0
    Before = AllowedThen (AllowedIn calls a env) (λ xs. AllowedArm calls n arms (number_of (first_of xs)) (env ++ xs)) o

    abbrev Bound : Outcome → Type 0
    Bound = AllowedThen (AllowedIn after low env) (λ ys. AllowedIn after (expr_if (any_fits x arms) (expr_var x) (expr_choose n scope (Int ∷ [])
        rel_false)) (env ++ ys))

    abbrev After : Type 0
    After = AllowedThen Bound (λ xs. AllowedIn after picks (env ++ xs)) o

    bound_is : (z : ℤ) (b : Bool) → fits_any arms z ≡ b → (p : Outcome) →
        AllowedIn after (expr_if (any_fits x arms) (expr_var x) (expr_choose n scope (Int ∷ []) rel_false)) (env ++ number z ∷ []) p
        ↔ MatchBool b (Gives (number z) p) (p ≡ no_solution n)
    bound_is z b e p = fitting_is after (env ++ number z ∷ []) x z (value_at-end env (number z) x level) n scope arms b e p

    forth_by : (z : ℤ) (b : Bool) → fits_any arms z ≡ b → AllowedIn calls a env (values (number z ∷ [])) →
        AllowedArm calls n arms z (env ++ number z ∷ []) o → After
    forth_by z true e p r =
        goes_on (number z ∷ []) (goes_on (number z ∷ []) ((of_agrees (values (number z ∷ []))).forth p) ((bound_is z true e (values (number z ∷ []))).1
        refl)) ((arms_agree z e).forth r)
    forth_by z false e p r =
        ends_at n (goes_on (number z ∷ []) ((of_agrees (values (number z ∷ []))).forth p) ((bound_is z false e (no_solution n)).1 refl))
        ((none_fits calls n arms z (env ++ number z ∷ []) o e).0 r)

    keeps_by : (z : ℤ) (b : Bool) → fits_any arms z ≡ b → AllowedArm calls n arms z (env ++ number z ∷ []) o → Keeps bs o
    keeps_by z true e r = (arms_agree z e).keeps r
    keeps_by z false e r = none_keeps bs n o ((none_fits calls n arms z (env ++ number z ∷ []) o e).0 r)

    forth : Before → After
    forth (goes_on xs p r) =
        let q = number_alone xs ((of_agrees (values xs)).keeps p) in
        forth_by q.0 (fits_any arms q.0) refl (subst (λ ys. AllowedIn calls a env (values ys)) q.1 p)
        (subst (λ ys. AllowedArm calls n arms (number_of (first_of ys)) (env ++ ys) o) q.1 r)
    forth (ends_at m p e) = ends_at m (ends_at m ((of_agrees (no_solution m)).forth p) refl) e

    keeps : Before → Keeps bs o
    keeps (goes_on xs p r) =
        let q = number_alone xs ((of_agrees (values xs)).keeps p) in
        keeps_by q.0 (fits_any arms q.0) refl (subst (λ ys. AllowedArm calls n arms (number_of (first_of ys)) (env ++ ys) o) q.1 r)
    keeps (ends_at m p e) = none_keeps bs m o e

    abbrev Bounds : ℤ → Outcome → Type 0
    Bounds z p = AllowedIn after (expr_if (any_fits x arms) (expr_var x) (expr_choose n scope (Int ∷ []) rel_false)) (env ++ number z ∷ []) p

    on_values : (z : ℤ) (b : Bool) → fits_any arms z ≡ b → (xs : List Value) → AllowedIn calls a env (values (number z ∷ [])) → Bounds z (values xs) →
        AllowedIn after picks (env ++ xs) o → Before
    on_values z true e xs p s r =
        let alone : xs ≡ number z ∷ [] = values_once xs (number z ∷ []) ((bound_is z true e (values xs)).0 s) in
        goes_on (number z ∷ []) p ((arms_agree z e).back (subst (λ ys. AllowedIn after picks (env ++ ys) o) alone r))
    on_values z false e xs p s r = absurd (no_values n xs (sym ((bound_is z false e (values xs)).0 s)))

    on_none : (z : ℤ) (b : Bool) → fits_any arms z ≡ b → (m : ℕ) → AllowedIn calls a env (values (number z ∷ [])) → Bounds z (no_solution m) →
        o ≡ no_solution m → Before
    on_none z true e m p s g = absurd (no_values m (number z ∷ []) ((bound_is z true e (no_solution m)).0 s))
    on_none z false e m p s g =
        goes_on (number z ∷ []) p ((none_fits calls n arms z (env ++ number z ∷ []) o e).1 (g ∙ (bound_is z false e (no_solution m)).0 s))

    back_values : (xs : List Value) → Bound (values xs) → AllowedIn after picks (env ++ xs) o → Before
    back_values xs (goes_on ys q s) r =
        let p = (of_agrees (values ys)).back q in
        let t = number_alone ys ((of_agrees (values ys)).keeps p) in
        on_values t.0 (fits_any arms t.0) refl xs (subst (λ ws. AllowedIn calls a env (values ws)) t.1 p)
        (subst (λ ws. AllowedIn after (expr_if (any_fits x arms) (expr_var x) (expr_choose n scope (Int ∷ []) rel_false)) (env ++ ws) (values xs)) t.1 s) r
    back_values xs (ends_at m q e) r = absurd (no_values m xs (sym e))

    back_none : (m : ℕ) → Bound (no_solution m) → o ≡ no_solution m → Before
    back_none m (goes_on ys q s) g =
        let p = (of_agrees (values ys)).back q in
        let t = number_alone ys ((of_agrees (values ys)).keeps p) in
        on_none t.0 (fits_any arms t.0) refl m (subst (λ ws. AllowedIn calls a env (values ws)) t.1 p)
        (subst (λ ws. AllowedIn after (expr_if (any_fits x arms) (expr_var x) (expr_choose n scope (Int ∷ []) rel_false)) (env ++ ws) (no_solution m)) t.1 s) g
    back_none m (ends_at j q e) g = ends_at j ((of_agrees (no_solution j)).back q) (g ∙ e)

    back : After → Before
    back (goes_on xs s r) = back_values xs s r
    back (ends_at m s e) = back_none m s e

    pub match_agrees : Agree bs o Before After
    match_agrees = record { forth = forth; back = back; keeps = keeps }
