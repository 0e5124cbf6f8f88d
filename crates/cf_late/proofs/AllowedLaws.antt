-- What a late program comes to is what its source allows.
use Rattle.std.proofs.Common.{◌≡◌, ℕ, zero, suc, ◌-◌, ◌==◌, ℤ, pos, List, [], ◌∷◌, ◌++◌, length, map, reverse, refl, sym, subst, inl, inr, arith, length-append, MatchBool}
use Rattle.std.specs.Prelude.{Bool, true, false, not, neg_ℤ, nat_le, unsigned_abs, Option, Some, None, if◌then◌else◌}
use Rattle.std.proofs.lemmas.Bool.{leb-true}
use Rattle.std.proofs.lemmas.List.{length-map}
use Rattle.std.proofs.lemmas.List.Elements.{All-head, All-tail}
use Rattle.cf_num.specs.Limit.{limit}
use Rattle.cf_tree.specs.declared.base.Base.{Base}
use Rattle.cf_tree.specs.declared.base.Base.TheVariants.{Int, Bool as Truth, Set}
use Rattle.cf_tree.specs.declared.raw.BinOp.{BinOp}
use Rattle.cf_tree.specs.declared.raw.BinOp.TheVariants.{Add, Sub, Mul, And, Or, Union, Inter, Diff, Subset, Implies, Compare}
use Rattle.cf_tree.specs.declared.raw.Param.{Param}
use Rattle.cf_tree.specs.Allowed.{AllowedThen, goes_on, ends_at, Gives, Chosen, operation, AllowedRight, Calling, Fits, AllowedIn, AllowedAll, AllowedArm, AllowedCall}
use Rattle.cf_tree.specs.Params.{bases_of}
use Rattle.cf_tree.specs.DefView.{DefTree}
use Rattle.cf_tree.specs.ExprTree.{ExprTree, expr_lit, expr_truth, expr_var, expr_set_of, expr_tuple, expr_neg, expr_not, expr_abs, expr_binary, expr_chain, expr_min, expr_max, expr_divides, expr_div, expr_mod, expr_card, expr_if, expr_call, expr_let, expr_choose, expr_choose_where, expr_match, ExprTrees, no_exprs, expr_more, match_arm, MatchArmTrees, no_match_arms, match_arm_more}
use Rattle.cf_tree.specs.Relation.{Sol, Holds}
use Rattle.cf_tree.specs.Numbers.{quotient, remainder, is_multiple, absolute}
use Rattle.cf_tree.specs.RelTree.{RelTree}
use Rattle.cf_tree.specs.Sets.{set_of}
use Rattle.cf_tree.specs.Values.{Value, number, truth, elements, Outcome, values, no_solution, number_of, truth_of, elements_of, value_at, first_of, HaveBases}
use Rattle.cf_tree.proofs.RisingLemmas.{rising_set_of, rising_union, rising_filter}
use Rattle.cf_program.specs.Lowered.{divisor}
use Rattle.cf_program.specs.NoForm.{HasNoForm, HaveNoForm, ArmsHaveNoForm}
use Rattle.cf_program.specs.TypedProgram.{AreSides, ExprHasBasesBy, AllHaveBy, PartsHaveBy, ArmsHaveBy, Takes, AreTypedDefsBy}
use Rattle.cf_program.specs.LateLinear.{IsLateLinear}
use Rattle.cf_program.specs.Walk.{side_of, result_of}
use Rattle.cf_match.specs.Classes.{class_by, class_of}
use Rattle.cf_match.specs.Laws.{bodies}
use Rattle.cf_match.proofs.Outcomes.{value_has, have_append, length_have, keeps_number, keeps_truth, keeps_value, set_is_rising, number_alone}
use Rattle.cf_match.proofs.Patterns.{fits_by, fits, fits_some, fits_none}
use Rattle.cf_match.proofs.Variables.{ints_of, ints_are, ints_have, holds_is, value_at-end}
use Rattle.cf_match.proofs.LoweredLaws.{one_behind}
use Rattle.cf_match.proofs.ProgramLaws.{IsFormed, AreFormed, turned_formed, takes_at, bodies_turned, one_test}
use Rattle.cf_late.specs.ChooseRun.{LateOutcome, comes_to, overflow, refused, gives, late_choose}
use Rattle.cf_late.specs.Fitting.{AreFit}
use Rattle.cf_late.specs.LateChoose.{IsLateChoose}
use Rattle.cf_late.proofs.ChooseLaws.{choose_allowed, choose_fit}
use Rattle.cf_late.proofs.KnownLaws.{fit_at}
use Rattle.cf_late.specs.LateRun.{then_late, ordinary, late_right, is_in, pattern_relation, late_variables, late_in, late_all, late_arms, late_call}
use Rattle.cf_late.specs.ProgramLaw.{LateRunsAreAllowed}
use Rattle.cf_late.proofs.RunnableLaws.{EndsWithInt, ends_with_int, pattern_choose, outputs_too}
use Rattle.cf_late.proofs.ValuesLaws.{fit_append}

-- values have these bases, are within the limit and allowed; a want of a solution is allowed
abbrev pub Fine : List Base → (Outcome → Type 0) → LateOutcome → Type 0
Fine bs P (comes_to (values vs)) = P (values vs) × HaveBases bs vs × AreFit vs
Fine bs P (comes_to (no_solution n)) = P (no_solution n)
Fine bs P overflow = Unit {0}
Fine bs P (refused n r) = Unit {0}

fine_map : (bs : List Base) (P Q : Outcome → Type 0) (r : LateOutcome) → ((o : Outcome) → P o → Q o) → Fine bs P r → Fine bs Q r
fine_map bs P Q (comes_to (values vs)) f h = (f (values vs) h.0, h.1, h.2)
fine_map bs P Q (comes_to (no_solution n)) f h = f (no_solution n) h
fine_map bs P Q overflow f h = tt
fine_map bs P Q (refused n r) f h = tt

fine_as : (P : Outcome → Type 0) (r : LateOutcome) (bs cs : List Base) → bs ≡ cs → Fine bs P r → Fine cs P r
fine_as P r bs cs e h = subst (λ ds. Fine ds P r) e h

then_fine : (P : Outcome → Type 0) (Q : List Value → Outcome → Type 0) (bs cs : List Base) (r : LateOutcome) (go : List Value → LateOutcome) → Fine bs P r →
    ((vs : List Value) → HaveBases bs vs → AreFit vs → Fine cs (Q vs) (go vs)) → Fine cs (AllowedThen P Q) (then_late r go)
then_fine P Q bs cs (comes_to (values vs)) go h k = fine_map cs (Q vs) (AllowedThen P Q) (go vs) (λ o q. goes_on vs h.0 q) (k vs h.1 h.2)
then_fine P Q bs cs (comes_to (no_solution n)) go h k = ends_at n h refl
then_fine P Q bs cs overflow go h k = tt
then_fine P Q bs cs (refused n r) go h k = tt

on_truth : (b : Bool) (bs : List Base) (P Q : Outcome → Type 0) (r s : LateOutcome) → Fine bs P r → Fine bs Q s →
    Fine bs (λ o. MatchBool b (P o) (Q o)) (if b then r else s)
on_truth true bs P Q r s h k = fine_map bs P (λ o. MatchBool true (P o) (Q o)) r (λ o x. x) h
on_truth false bs P Q r s h k = fine_map bs Q (λ o. MatchBool false (P o) (Q o)) s (λ o x. x) k

-- ---- one value
truth_fine : (b : Bool) → Fine (Truth ∷ []) (Gives (truth b)) (gives (truth b ∷ []))
truth_fine b = (refl, ((b, refl), tt), (omega arith, tt))

-- the value of an operation, which has this base
value_fine : (d : Base) (v : Value) → HaveBases (d ∷ []) (v ∷ []) → Fine (d ∷ []) (Gives v) (ordinary v)
value_fine d (number z) h = by (nat_le (unsigned_abs z) limit) refl
  where
    by : (b : Bool) → nat_le (unsigned_abs z) limit ≡ b → Fine (d ∷ []) (Gives (number z)) (if b then gives (number z ∷ []) else overflow)
    by true e = (refl, h, (leb-true (unsigned_abs z) limit e, tt))
    by false e = tt
value_fine d (truth b) h = (refl, h, (omega arith, tt))
value_fine d (elements zs) h = (refl, h, (omega arith, tt))

-- the value of a form over one part
one_fine : (P : Outcome → Type 0) (bs cs : List Base) (r : LateOutcome) (f : Value → Value) (d : Base) → Fine bs P r → d ∷ [] ≡ cs →
    ((v : Value) → HaveBases (d ∷ []) (f v ∷ [])) → Fine cs (AllowedThen P (λ xs. Gives (f (first_of xs)))) (then_late r (λ xs. ordinary (f (first_of xs))))
one_fine P bs cs r f d h e k =
    then_fine P (λ xs. Gives (f (first_of xs))) bs cs r (λ xs. ordinary (f (first_of xs))) h (λ xs hx fx.
    subst (λ ds. Fine ds (Gives (f (first_of xs))) (ordinary (f (first_of xs)))) e (value_fine d (f (first_of xs)) (k (first_of xs))))

-- ---- operations with two sides
module _ (P R : Outcome → Type 0) (p r : LateOutcome) where
  strict_fine : (op : BinOp) (bs cs : List Base) (d : Base) → Fine bs P p → Fine cs R r →
      ((xs ys : List Value) → HaveBases bs xs → HaveBases cs ys → HaveBases (d ∷ []) (operation op (first_of xs) (first_of ys) ∷ [])) →
      Fine (d ∷ []) (AllowedThen P (λ xs. AllowedThen R (λ ys. Gives (operation op (first_of xs) (first_of ys)))))
      (then_late p (λ xs. then_late r (λ ys. ordinary (operation op (first_of xs) (first_of ys)))))
  strict_fine op bs cs d hp hr k =
      then_fine P (λ xs. AllowedThen R (λ ys. Gives (operation op (first_of xs) (first_of ys)))) bs (d ∷ []) p
      (λ xs. then_late r (λ ys. ordinary (operation op (first_of xs) (first_of ys)))) hp (λ xs hx fx.
      then_fine R (λ ys. Gives (operation op (first_of xs) (first_of ys))) cs (d ∷ []) r (λ ys. ordinary (operation op (first_of xs) (first_of ys))) hr
      (λ ys hy fy.
      value_fine d (operation op (first_of xs) (first_of ys)) (k xs ys hx hy)))

  binary_fine : (op : BinOp) (A B : Base → Type 0) → ((c : Base) → A c → Fine (c ∷ []) P p) → ((c : Base) → B c → Fine (c ∷ []) R r) →
      AreSides (side_of op) A B →
      Fine (result_of op ∷ []) (AllowedThen P (λ xs. AllowedRight op (first_of xs) R)) (then_late p (λ xs. late_right op (first_of xs) r))
  binary_fine Add A B f g h = strict_fine Add (Int ∷ []) (Int ∷ []) Int (f Int h.0) (g Int h.1) (λ xs ys hx hy. ((_, refl), tt))
  binary_fine Sub A B f g h = strict_fine Sub (Int ∷ []) (Int ∷ []) Int (f Int h.0) (g Int h.1) (λ xs ys hx hy. ((_, refl), tt))
  binary_fine Mul A B f g h = strict_fine Mul (Int ∷ []) (Int ∷ []) Int (f Int h.0) (g Int h.1) (λ xs ys hx hy. ((_, refl), tt))
  binary_fine And A B f g h =
      then_fine P (λ xs. AllowedRight And (first_of xs) R) (Truth ∷ []) (Truth ∷ []) p (λ xs. late_right And (first_of xs) r) (f Truth h.0) (λ xs hx fx.
      on_truth (truth_of (first_of xs)) (Truth ∷ []) R (Gives (truth false)) r (gives (truth false ∷ [])) (g Truth h.1) (truth_fine false))
  binary_fine Or A B f g h =
      then_fine P (λ xs. AllowedRight Or (first_of xs) R) (Truth ∷ []) (Truth ∷ []) p (λ xs. late_right Or (first_of xs) r) (f Truth h.0) (λ xs hx fx.
      on_truth (truth_of (first_of xs)) (Truth ∷ []) (Gives (truth true)) R (gives (truth true ∷ [])) r (truth_fine true) (g Truth h.1))
  binary_fine Union A B f g h =
      strict_fine Union (Set ∷ []) (Set ∷ []) Set (f Set h.0) (g Set h.1)
      (λ xs ys hx hy. ((_, refl, rising_union (elements_of (first_of xs)) (elements_of (first_of ys)) (set_is_rising ys hy)), tt))
  binary_fine Inter A B f g h =
      strict_fine Inter (Set ∷ []) (Set ∷ []) Set (f Set h.0) (g Set h.1)
      (λ xs ys hx hy. ((_, refl, rising_filter _ (elements_of (first_of xs)) (set_is_rising xs hx)), tt))
  binary_fine Diff A B f g h =
      strict_fine Diff (Set ∷ []) (Set ∷ []) Set (f Set h.0) (g Set h.1)
      (λ xs ys hx hy. ((_, refl, rising_filter _ (elements_of (first_of xs)) (set_is_rising xs hx)), tt))
  binary_fine Subset A B f g h = strict_fine Subset (Set ∷ []) (Set ∷ []) Truth (f Set h.0) (g Set h.1) (λ xs ys hx hy. ((_, refl), tt))
  binary_fine Implies A B f g h =
      then_fine P (λ xs. AllowedRight Implies (first_of xs) R) (Truth ∷ []) (Truth ∷ []) p (λ xs. late_right Implies (first_of xs) r) (f Truth h.0) (λ xs hx fx.
      on_truth (truth_of (first_of xs)) (Truth ∷ []) R (Gives (truth true)) r (gives (truth true ∷ [])) (g Truth h.1) (truth_fine true))
  binary_fine (Compare order) A B f g h =
      let s = sides_have (side_of (Compare order)) A B h in
      strict_fine (Compare order) (s.0 ∷ []) (s.0 ∷ []) Truth (f s.0 s.1) (g s.0 s.2) (λ xs ys hx hy. ((_, refl), tt))
    where
      sides_have : (b : Option Base) (L K : Base → Type 0) → AreSides b L K → (c : Base) × L c × K c
      sides_have (Some c) L K h = (c, h.0, h.1)
      sides_have None L K h = h

-- ---- chooses
chosen_fine : (n : ℕ) (scope outputs : List Base) (rel : RelTree) (env : List Value) → IsLateChoose scope outputs rel → HaveBases scope env → AreFit env →
    Fine outputs (Chosen n (Sol outputs rel env)) (late_choose n scope outputs rel env)
chosen_fine n scope outputs rel env late have fit = by (late_choose n scope outputs rel env) refl
  where
    by : (r : LateOutcome) → late_choose n scope outputs rel env ≡ r → Fine outputs (Chosen n (Sol outputs rel env)) r
    by (comes_to (values vs)) e =
        let c = choose_allowed scope outputs rel env late fit n have (values vs) e in
        (c, c.0, choose_fit n scope outputs rel env vs e)
    by (comes_to (no_solution m)) e = choose_allowed scope outputs rel env late fit n have (no_solution m) e
    by overflow e = tt
    by (refused m r) e = tt

-- ---- matches
is_in-fits : (d : ℕ) (k z : ℤ) → is_in (class_by d k) z ≡ fits_by d k z
is_in-fits zero k z = refl
is_in-fits (suc d) k z = refl

-- the values of an arm's variables make its pattern the matched number
module _ (calls : ℕ → List Value → LateOutcome) (allows : Calling) (bs : List Base) (env : List Value) (x : ℕ) (z : ℤ) (at : value_at env x ≡ number z)
    (level : length env ≡ suc x) (k : ℤ) (body : ExprTree) where
  abbrev Fitting : List ℤ → Outcome → Type 0
  Fitting factors o = (is : List ℤ) × Fits factors k z is × AllowedIn allows body (env ++ map number is) o

  picked_fine : (m : ℕ) (factors : List ℤ) (r : LateOutcome) → ((is : List ℤ) × Fits factors k z is) →
      Fine (ints_of factors) (Chosen m (Sol (ints_of factors) (pattern_relation x factors k) env)) r →
      ((is : List ℤ) → length is ≡ length factors → AreFit (map number is) →
      Fine bs (AllowedIn allows body (env ++ map number is)) (late_in calls body (env ++ map number is))) →
      Fine bs (Fitting factors) (then_late r (λ xs. late_in calls body (env ++ xs)))
  picked_fine m factors (comes_to (values xs)) found c ih =
      let t = ints_are factors xs c.1 in
      let holds = subst (λ ys. Holds (pattern_relation x factors k) (env ++ ys)) t.2 c.0.1 in
      let fit = subst AreFit t.2 c.2 in
      let fits_is = (holds_is env x z factors k t.0 at level t.1).0 holds in
      let rest = fine_map bs (AllowedIn allows body (env ++ map number t.0)) (Fitting factors) (late_in calls body (env ++ map number t.0))
      (λ o a. (t.0, (t.1, fits_is), a)) (ih t.0 t.1 fit) in
      subst (λ ys. Fine bs (Fitting factors) (late_in calls body (env ++ ys))) (sym t.2) rest
  picked_fine m factors (comes_to (no_solution j)) found c ih =
      absurd (c.1 (map number found.0) (ints_have factors found.0 found.1.0, (holds_is env x z factors k found.0 at level found.1.0).1 found.1.1))
  picked_fine m factors overflow found c ih = tt
  picked_fine m factors (refused j r) found c ih = tt

  variables_fine : (m : ℕ) (scope : List Base) (factors : List ℤ) → x ≡ length scope - 1 → ((is : List ℤ) × Fits factors k z is) →
      IsLateChoose scope (ints_of factors) (pattern_relation (length scope - 1) factors k) → HaveBases scope env → AreFit env →
      ((is : List ℤ) → length is ≡ length factors → AreFit (map number is) →
      Fine bs (AllowedIn allows body (env ++ map number is)) (late_in calls body (env ++ map number is))) →
      Fine bs (Fitting factors) (then_late (late_variables m scope factors k env) (λ xs. late_in calls body (env ++ xs)))
  variables_fine m scope [] e found late have fit ih =
      fine_map bs (AllowedIn allows body (env ++ [])) (Fitting []) (late_in calls body (env ++ [])) (λ o a. ([], (refl, none found), a)) (ih [] refl tt)
    where
      none : ((is : List ℤ) × Fits [] k z is) → z ≡ k
      none s = s.1.1
  variables_fine m scope (f ∷ fs) e found late have fit ih =
      picked_fine m (f ∷ fs) (late_variables m scope (f ∷ fs) k env) found
      (subst (λ y. Fine (ints_of (f ∷ fs)) (Chosen m (Sol (ints_of (f ∷ fs)) (pattern_relation y (f ∷ fs) k) env)) (late_variables m scope (f ∷ fs) k env))
      (sym e)
      (chosen_fine m scope (ints_of (f ∷ fs)) (pattern_relation (length scope - 1) (f ∷ fs) k) env late have fit)) ih

last_level : (scope : List Base) (env : List Value) → HaveBases scope env → length env ≡ length (scope ++ Int ∷ []) - 1
last_level scope env have = let same = length-append scope (Int ∷ []) in let k = length_have scope env have in omega arith

-- ---- expressions
parts_have : (takes : ℕ → List Base → List Base → Type 0) (es : ExprTrees) (scope : List Base) (b : Base) → AllHaveBy IsLateLinear takes es scope b →
    (bs : List Base) × PartsHaveBy IsLateLinear takes es scope bs
parts_have takes no_exprs scope b h = ([], refl)
parts_have takes (expr_more e es) scope b h = let rest = parts_have takes es scope b h.1 in (b ∷ rest.0, (b, rest.0, refl, h.0, rest.1))

module _ (takes : ℕ → List Base → List Base → Type 0) (calls : ℕ → List Value → LateOutcome) (allows : Calling)
    (calls_fine : (f : ℕ) (ps rs : List Base) → takes f ps rs → (xs : List Value) → HaveBases ps xs → AreFit xs → Fine rs (allows f xs) (calls f xs)) where
  -- the arms behind the matched number
  match_fine : (n : ℕ) (params : List Param) (arms : MatchArmTrees) (scope bs : List Base) (env : List Value) → bases_of params ≡ scope ++ Int ∷ [] →
      HaveBases scope env → AreFit env →
      ((z : ℤ) → HaveBases (scope ++ Int ∷ []) (env ++ number z ∷ []) → AreFit (env ++ number z ∷ []) →
      Fine bs (AllowedArm allows n arms z (env ++ number z ∷ [])) (late_arms calls n (scope ++ Int ∷ []) arms z (env ++ number z ∷ []))) →
      (xs : List Value) → HaveBases (Int ∷ []) xs → AreFit xs →
      Fine bs (AllowedArm allows n arms (number_of (first_of xs)) (env ++ xs)) (late_arms calls n (bases_of params) arms (number_of (first_of xs)) (env ++ xs))
  match_fine n params arms scope bs env e v w each xs hx fx =
      let s = number_alone xs hx in
      let z = s.0 in
      subst (λ ys. Fine bs (AllowedArm allows n arms (number_of (first_of ys)) (env ++ ys))
      (late_arms calls n (bases_of params) arms (number_of (first_of ys)) (env ++ ys))) (sym s.1)
      (subst (λ cs. Fine bs (AllowedArm allows n arms z (env ++ number z ∷ [])) (late_arms calls n cs arms z (env ++ number z ∷ []))) (sym e)
      (each z (have_append scope (Int ∷ []) env (number z ∷ []) v ((z, refl), tt)) (fit_append env (number z ∷ []) w (subst AreFit s.1 fx))))

  -- an arm whose test holds, or the rest
  arm_fine : (n m : ℕ) (factors : List ℤ) (k : ℤ) (body : ExprTree) (arms : MatchArmTrees) (scope bs : List Base) (env : List Value) (x : ℕ) (z : ℤ)
      (at : value_at env x ≡ number z) (level : length env ≡ suc x) (b : Bool) → fits factors k z ≡ b →
      (fits factors k z ≡ true → Fine bs (Fitting calls allows bs env x z at level k body factors)
      (then_late (late_variables m scope factors k env) (λ xs. late_in calls body (env ++ xs)))) →
      Fine bs (AllowedArm allows n arms z env) (late_arms calls n scope arms z env) →
      Fine bs (AllowedArm allows n (match_arm_more (match_arm m factors k body) arms) z env)
      (if b then then_late (late_variables m scope factors k env) (λ xs. late_in calls body (env ++ xs)) else late_arms calls n scope arms z env)
  arm_fine n m factors k body arms scope bs env x z at level true t first rest =
      fine_map bs (Fitting calls allows bs env x z at level k body factors) (AllowedArm allows n (match_arm_more (match_arm m factors k body) arms) z env)
      (then_late (late_variables m scope factors k env) (λ xs. late_in calls body (env ++ xs))) (λ o s. inl s) (first t)
  arm_fine n m factors k body arms scope bs env x z at level false t first rest =
      fine_map bs (AllowedArm allows n arms z env) (AllowedArm allows n (match_arm_more (match_arm m factors k body) arms) z env)
      (late_arms calls n scope arms z env)
      (λ o a. inr (fits_none factors k z t, a)) rest

  mutual
    pub late_fine : (e : ExprTree) (scope bs : List Base) → HasNoForm e → ExprHasBasesBy IsLateLinear takes e scope bs → (env : List Value) →
        HaveBases scope env →
        AreFit env →
        Fine bs (AllowedIn allows e env) (late_in calls e env)
    late_fine (expr_lit k) scope bs p h env v w = (refl, keeps_number bs k h.1, (h.0, tt))
    late_fine (expr_truth t) scope bs p h env v w = (refl, keeps_truth bs t h, (omega arith, tt))
    late_fine (expr_var x) scope bs p h env v w = (refl, keeps_value bs h.0 (value_at env x) h.2 (value_has scope env x h.0 v h.1), (fit_at env x w, tt))
    late_fine (expr_set_of es) scope bs p h env v w =
        let parts = parts_have takes es scope Int h.0 in
        then_fine (AllowedAll allows es env) (λ xs. Gives (elements (set_of (map number_of xs)))) parts.0 bs (late_all calls es env)
        (λ xs. gives (elements (set_of (map number_of xs)) ∷ [])) (all_fine es scope parts.0 p parts.1 env v w) (λ xs hx fx.
        (refl, keeps_value bs Set (elements (set_of (map number_of xs))) h.1 (_, refl, rising_set_of (map number_of xs)), (omega arith, tt)))
    late_fine (expr_tuple es) scope bs p h env v w = all_fine es scope bs p h.1 env v w
    late_fine (expr_neg a) scope bs p h env v w =
        one_fine (AllowedIn allows a env) (Int ∷ []) bs (late_in calls a env) (λ x. number (neg_ℤ (number_of x))) Int
        (late_fine a scope (Int ∷ []) p h.0 env v w)
        (sym h.1) (λ x. ((_, refl), tt))
    late_fine (expr_not a) scope bs p h env v w =
        one_fine (AllowedIn allows a env) (Truth ∷ []) bs (late_in calls a env) (λ x. truth (not (truth_of x))) Truth
        (late_fine a scope (Truth ∷ []) p h.0 env v w) (sym h.1) (λ x. ((_, refl), tt))
    late_fine (expr_abs a) scope bs p h env v w =
        one_fine (AllowedIn allows a env) (Int ∷ []) bs (late_in calls a env) (λ x. number (absolute (number_of x))) Int
        (late_fine a scope (Int ∷ []) p h.0 env v w) (sym h.1) (λ x. ((_, refl), tt))
    late_fine (expr_binary op a b) scope bs p h env v w =
        fine_as (AllowedThen (AllowedIn allows a env) (λ xs. AllowedRight op (first_of xs) (AllowedIn allows b env)))
        (then_late (late_in calls a env) (λ xs. late_right op (first_of xs) (late_in calls b env))) (result_of op ∷ []) bs (sym h.1)
        (binary_fine (AllowedIn allows a env) (AllowedIn allows b env) (late_in calls a env) (late_in calls b env) op
        (λ c. ExprHasBasesBy IsLateLinear takes a scope (c ∷ [])) (λ c. ExprHasBasesBy IsLateLinear takes b scope (c ∷ []))
        (λ c t. late_fine a scope (c ∷ []) p.1 t env v w) (λ c t. late_fine b scope (c ∷ []) p.2 t env v w) h.0)
    late_fine (expr_chain orders es) scope bs p h env v w = absurd p
    late_fine (expr_min es) scope bs p h env v w = absurd p
    late_fine (expr_max es) scope bs p h env v w = absurd p
    late_fine (expr_divides k a) scope bs p h env v w =
        one_fine (AllowedIn allows a env) (Int ∷ []) bs (late_in calls a env) (λ x. truth (is_multiple k (number_of x))) Truth
        (late_fine a scope (Int ∷ []) p h.1 env v w) (sym h.2) (λ x. ((_, refl), tt))
    late_fine (expr_div a k) scope bs p h env v w =
        one_fine (AllowedIn allows a env) (Int ∷ []) bs (late_in calls a env) (λ x. number (quotient (number_of x) k)) Int
        (late_fine a scope (Int ∷ []) p h.1 env v w) (sym h.2) (λ x. ((_, refl), tt))
    late_fine (expr_mod a k) scope bs p h env v w =
        one_fine (AllowedIn allows a env) (Int ∷ []) bs (late_in calls a env) (λ x. number (remainder (number_of x) k)) Int
        (late_fine a scope (Int ∷ []) p h.1 env v w) (sym h.2) (λ x. ((_, refl), tt))
    late_fine (expr_card a) scope bs p h env v w =
        one_fine (AllowedIn allows a env) (Set ∷ []) bs (late_in calls a env) (λ x. number (pos (length (elements_of x)))) Int
        (late_fine a scope (Set ∷ []) p h.0 env v w) (sym h.1) (λ x. ((_, refl), tt))
    late_fine (expr_if t a b) scope bs p h env v w =
        then_fine (AllowedIn allows t env) (λ xs o. MatchBool (truth_of (first_of xs)) (AllowedIn allows a env o) (AllowedIn allows b env o)) (Truth ∷ []) bs
        (late_in calls t env) (λ xs. if truth_of (first_of xs) then late_in calls a env else late_in calls b env)
        (late_fine t scope (Truth ∷ []) p.0 h.0 env v w)
        (λ xs hx fx.
        on_truth (truth_of (first_of xs)) bs (AllowedIn allows a env) (AllowedIn allows b env) (late_in calls a env) (late_in calls b env)
        (late_fine a scope bs p.1 h.1 env v w) (late_fine b scope bs p.2 h.2 env v w))
    late_fine (expr_call f es) scope bs p h env v w =
        then_fine (AllowedAll allows es env) (allows f) h.0 bs (late_all calls es env) (calls f) (all_fine es scope h.0 p h.2 env v w)
        (λ xs hx fx. calls_fine f h.0 bs h.1 xs hx fx)
    late_fine (expr_let m a b) scope bs p h env v w =
        then_fine (AllowedIn allows a env) (λ xs. AllowedIn allows b (env ++ xs)) h.0 bs (late_in calls a env) (λ xs. late_in calls b (env ++ xs))
        (late_fine a scope h.0 p.0 h.1 env v w)
        (λ xs hx fx. late_fine b (scope ++ h.0) bs p.1 h.4 (env ++ xs) (have_append scope h.0 env xs v hx) (fit_append env xs w fx))
    late_fine (expr_choose m params outputs rel) scope bs p h env v w =
        fine_as (Chosen m (Sol outputs rel env)) (late_choose m (bases_of params) outputs rel env) outputs bs (sym h.5)
        (subst (λ cs. Fine outputs (Chosen m (Sol outputs rel env)) (late_choose m cs outputs rel env)) (sym h.0)
        (chosen_fine m scope outputs rel env (record { typed = h.3; linear = h.4; are_outputs = outputs_too outputs h.2 }) v w))
    late_fine (expr_choose_where m params outputs hidden given rel aim) scope bs p h env v w = absurd p
    late_fine (expr_match n params a arms) scope bs p h env v w =
        then_fine (AllowedIn allows a env) (λ xs. AllowedArm allows n arms (number_of (first_of xs)) (env ++ xs)) (Int ∷ []) bs (late_in calls a env)
        (λ xs. late_arms calls n (bases_of params) arms (number_of (first_of xs)) (env ++ xs)) (late_fine a scope (Int ∷ []) p.0 h.1 env v w)
        (match_fine n params arms scope bs env h.0 v w (λ z have fit.
        arms_fine n arms (scope ++ Int ∷ []) bs p.1 h.3 (env ++ number z ∷ []) have fit (length env) z (value_at-end env (number z) (length env) refl)
        (one_behind env (number z) (length env) refl) (last_level scope env v) (ends_with_int scope)))

    all_fine : (es : ExprTrees) (scope bs : List Base) → HaveNoForm es → PartsHaveBy IsLateLinear takes es scope bs → (env : List Value) →
        HaveBases scope env → AreFit env →
        Fine bs (AllowedAll allows es env) (late_all calls es env)
    all_fine no_exprs scope bs p h env v w = (refl, rw h tt, tt)
    all_fine (expr_more e es) scope bs p h env v w =
        then_fine (AllowedIn allows e env) (λ xs. AllowedThen (AllowedAll allows es env) (λ ys o. o ≡ values (xs ++ ys))) (h.0 ∷ []) bs (late_in calls e env)
        (λ xs. then_late (late_all calls es env) (λ ys. gives (xs ++ ys))) (late_fine e scope (h.0 ∷ []) p.0 h.3 env v w) (λ xs hx fx.
        then_fine (AllowedAll allows es env) (λ ys o. o ≡ values (xs ++ ys)) h.1 bs (late_all calls es env) (λ ys. gives (xs ++ ys))
        (all_fine es scope h.1 p.1 h.4 env v w) (λ ys hy fy.
        (refl, subst (λ cs. HaveBases cs (xs ++ ys)) (sym h.2) (have_append (h.0 ∷ []) h.1 xs ys hx hy), fit_append xs ys fx fy)))

    arms_fine : (n : ℕ) (arms : MatchArmTrees) (scope bs : List Base) → ArmsHaveNoForm arms → ArmsHaveBy IsLateLinear takes arms scope bs →
        (env : List Value) → HaveBases scope env →
        AreFit env →
        (x : ℕ) (z : ℤ) → value_at env x ≡ number z → length env ≡ suc x → x ≡ length scope - 1 → EndsWithInt scope →
        Fine bs (AllowedArm allows n arms z env) (late_arms calls n scope arms z env)
    arms_fine n no_match_arms scope bs p h env v w x z at level e last = refl
    arms_fine n (match_arm_more (match_arm m factors k body) arms) scope bs p h env v w x z at level e last =
        arm_fine n m factors k body arms scope bs env x z at level (is_in (class_of factors k) z) (sym (is_in-fits (divisor factors) k z))
        (λ t. variables_fine calls allows bs env x z at level k body m scope factors e (fits_some factors k z t)
        (pattern_choose scope factors k last h.1 h.2) v w
        (λ is l f. late_fine body (scope ++ ints_of factors) bs p.0 h.3 (env ++ map number is)
        (have_append scope (ints_of factors) env (map number is) v (ints_have factors is l))
        (fit_append env (map number is) w f)))
        (arms_fine n arms scope bs p.1 h.4 env v w x z at level e last)

-- ---- functions
fine_either : (rs : List Base) (P Q : Outcome → Type 0) (r s : LateOutcome) (a c b : Bool) → a ≡ b → c ≡ b →
    MatchBool b (Fine rs P r) (Fine rs Q s) → Fine rs (λ o. MatchBool a (P o) (Q o)) (if c then r else s)
fine_either rs P Q r s a c true e g h = rw (e, g) h
fine_either rs P Q r s a c false e g h = rw (e, g) h

call_by : (d : DefTree) (earlier : List DefTree) (f : ℕ) (ps rs : List Base) (xs : List Value) (b : Bool) → (f == length earlier) ≡ b →
    MatchBool b ((ps ≡ bases_of d.params) × (rs ≡ d.results)) (Takes earlier f ps rs) →
    (ps ≡ bases_of d.params → Fine d.results (AllowedIn (AllowedCall (bodies earlier)) d.body xs) (late_in (late_call (bodies earlier)) d.body xs)) →
    (Takes earlier f ps rs → Fine rs (AllowedCall (bodies earlier) f xs) (late_call (bodies earlier) f xs)) →
    Fine rs (AllowedCall (bodies (d ∷ earlier)) f xs) (late_call (bodies (d ∷ earlier)) f xs)
call_by d earlier f ps rs xs true e g new old =
    let t = one_test f (length earlier) (length (bodies earlier)) true (sym (length-map earlier (λ c. c.body))) e in
    fine_either rs (AllowedIn (AllowedCall (bodies earlier)) d.body xs) (AllowedCall (bodies earlier) f xs) (late_in (late_call (bodies earlier)) d.body xs)
    (late_call (bodies earlier) f xs) (f == length (bodies earlier)) (f == length (bodies earlier)) true t t
    (fine_as (AllowedIn (AllowedCall (bodies earlier)) d.body xs) (late_in (late_call (bodies earlier)) d.body xs) d.results rs (sym g.1) (new g.0))
call_by d earlier f ps rs xs false e g new old =
    let t = one_test f (length earlier) (length (bodies earlier)) false (sym (length-map earlier (λ c. c.body))) e in
    fine_either rs (AllowedIn (AllowedCall (bodies earlier)) d.body xs) (AllowedCall (bodies earlier) f xs) (late_in (late_call (bodies earlier)) d.body xs)
    (late_call (bodies earlier) f xs) (f == length (bodies earlier)) (f == length (bodies earlier)) false t t (old g)

calls_fine : (earlier : List DefTree) → AreTypedDefsBy IsLateLinear earlier → AreFormed earlier → (f : ℕ) (ps rs : List Base) → Takes earlier f ps rs →
    (xs : List Value) →
    HaveBases ps xs → AreFit xs → Fine rs (AllowedCall (bodies earlier) f xs) (late_call (bodies earlier) f xs)
calls_fine [] t p f ps rs h xs v w = absurd h
calls_fine (d ∷ earlier) t p f ps rs h xs v w =
    call_by d earlier f ps rs xs (f == length earlier) refl h
    (λ e. late_fine (Takes earlier) (late_call (bodies earlier)) (AllowedCall (bodies earlier)) (calls_fine earlier t.1 (All-tail IsFormed d earlier p)) d.body
    (bases_of d.params) d.results (All-head IsFormed d earlier p) t.0.1 xs
    (subst (λ qs. HaveBases qs xs) e v) w)
    (λ g. calls_fine earlier t.1 (All-tail IsFormed d earlier p) f ps rs g xs v w)

fine_allowed : (bs : List Base) (P : Outcome → Type 0) (r : LateOutcome) (o : Outcome) → Fine bs P r → r ≡ comes_to o → P o
fine_allowed bs P (comes_to (values vs)) o h e = let same : o ≡ values vs = cc in rw same h.0
fine_allowed bs P (comes_to (no_solution n)) o h e = let same : o ≡ no_solution n = cc in rw same h
fine_allowed bs P overflow o h e = absurd (cc)
fine_allowed bs P (refused n r) o h e = absurd (cc)

pub late_runs_are_allowed : LateRunsAreAllowed
late_runs_are_allowed defs main t env v w o e =
    let d = v.0 in
    let f = calls_fine (reverse defs) t.typed (turned_formed defs t.formed) main (bases_of d.params) d.results (takes_at defs main d v.1) env v.2 w in
    let turned = bodies_turned defs in
    subst (λ es. AllowedCall es main env o) turned
    (fine_allowed d.results (AllowedCall (bodies (reverse defs)) main env) (late_call (bodies (reverse defs)) main env) o f
    (subst (λ es. late_call es main env ≡ comes_to o) (sym turned) e))
