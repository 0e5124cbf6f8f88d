-- An expression and its lowered form allow the same outcomes.
use Rattle.std.proofs.Common.{◌≡◌, ℕ, suc, ◌-◌, ℤ, true, false, List, [], ◌∷◌, ◌++◌, length, map, Option, Some, None, refl, sym, ap, subst, arith, length-append}
use Rattle.std.proofs.lemmas.List.{length-map}
use Rattle.cf_tree.specs.declared.base.Base.{Base}
use Rattle.cf_tree.specs.declared.base.Base.TheVariants.{Int, Bool as Truth, Set}
use Rattle.cf_tree.specs.declared.raw.BinOp.{BinOp}
use Rattle.cf_tree.specs.declared.raw.BinOp.TheVariants.{Add, Sub, Mul, And, Or, Union, Inter, Diff, Subset, Implies, Compare}
use Rattle.cf_tree.specs.declared.raw.Param.{Param}
use Rattle.cf_tree.specs.Allowed.{AllowedThen, AllowedRight, AllowedIn, AllowedAll, AllowedArm, Gives, operation}
use Rattle.cf_tree.specs.ExprTree.{ExprTree, expr_lit, expr_truth, expr_var, expr_set_of, expr_tuple, expr_neg, expr_not, expr_abs, expr_binary, expr_chain, expr_min, expr_max, expr_divides, expr_div, expr_mod, expr_card, expr_if, expr_call, expr_let, expr_choose, expr_choose_where, expr_match, ExprTrees, no_exprs, expr_more, match_arm, MatchArmTrees, no_match_arms, match_arm_more}
use Rattle.cf_tree.specs.Sets.{set_of}
use Rattle.cf_tree.specs.Values.{Value, number, truth, elements, number_of, truth_of, elements_of, first_of, Outcome, value_at, HaveBases}
use Rattle.cf_tree.proofs.RisingLemmas.{rising_set_of, rising_union, rising_filter}
use Rattle.cf_program.specs.Lowered.{lowered, all_lowered, picked}
use Rattle.cf_program.specs.NoForm.{HasNoForm, HaveNoForm, ArmsHaveNoForm}
use Rattle.cf_tree.specs.Params.{bases_of}
use Rattle.cf_program.specs.TypedProgram.{AreSides}
use Rattle.cf_program.proofs.PlainTypes.{ExprHasBases, AllHave, PartsHave, ArmsHave}
use Rattle.cf_program.specs.Walk.{side_of, result_of}
use Rattle.cf_match.proofs.Matches.{arm_agrees, match_agrees}
use Rattle.cf_match.proofs.Outcomes.{Agree, alike, as_bases, gives_keeps, gives, then_agree, match_agree, keeps_number, keeps_truth, keeps_value, value_has, have_append, length_have, set_is_rising, chosen_keeps}
use Rattle.cf_match.proofs.Patterns.{fits}
use Rattle.cf_match.proofs.Tests.{fits_any}
use Rattle.cf_match.proofs.Variables.{ints_of, ints_have, value_at-end}

-- ---- operations with two sides
module _ (P P' R R' : Outcome → Type 0) (o : Outcome) where
  strict_agrees : (op : BinOp) (bs cs : List Base) (d : Base) → ((p : Outcome) → Agree bs p (P p) (P' p)) → ((p : Outcome) → Agree cs p (R p) (R' p)) →
      ((xs ys : List Value) → HaveBases bs xs → HaveBases cs ys → HaveBases (d ∷ []) (operation op (first_of xs) (first_of ys) ∷ [])) →
      Agree (d ∷ []) o (AllowedThen P (λ xs. AllowedThen R (λ ys. Gives (operation op (first_of xs) (first_of ys)))) o)
      (AllowedThen P' (λ xs. AllowedThen R' (λ ys. Gives (operation op (first_of xs) (first_of ys)))) o)
  strict_agrees op bs cs d p q k =
      then_agree bs (d ∷ []) o p (λ xs hx. then_agree cs (d ∷ []) o q (λ ys hy. gives (d ∷ []) (operation op (first_of xs) (first_of ys)) o (k xs ys hx hy)))

  binary_agrees : (op : BinOp) (A B : Base → Type 0) → ((c : Base) → A c → (p : Outcome) → Agree (c ∷ []) p (P p) (P' p)) →
      ((c : Base) → B c → (p : Outcome) → Agree (c ∷ []) p (R p) (R' p)) → AreSides (side_of op) A B →
      Agree (result_of op ∷ []) o (AllowedThen P (λ xs. AllowedRight op (first_of xs) R) o) (AllowedThen P' (λ xs. AllowedRight op (first_of xs) R') o)
  binary_agrees Add A B p q h = strict_agrees Add (Int ∷ []) (Int ∷ []) Int (p Int h.0) (q Int h.1) (λ xs ys hx hy. ((_, refl), tt))
  binary_agrees Sub A B p q h = strict_agrees Sub (Int ∷ []) (Int ∷ []) Int (p Int h.0) (q Int h.1) (λ xs ys hx hy. ((_, refl), tt))
  binary_agrees Mul A B p q h = strict_agrees Mul (Int ∷ []) (Int ∷ []) Int (p Int h.0) (q Int h.1) (λ xs ys hx hy. ((_, refl), tt))
  binary_agrees And A B p q h =
      then_agree (Truth ∷ []) (Truth ∷ []) o (p Truth h.0) (λ xs hx.
      match_agree (truth_of (first_of xs)) (q Truth h.1 o) (gives (Truth ∷ []) (truth false) o ((false, refl), tt)))
  binary_agrees Or A B p q h =
      then_agree (Truth ∷ []) (Truth ∷ []) o (p Truth h.0) (λ xs hx.
      match_agree (truth_of (first_of xs)) (gives (Truth ∷ []) (truth true) o ((true, refl), tt)) (q Truth h.1 o))
  binary_agrees Union A B p q h =
      strict_agrees Union (Set ∷ []) (Set ∷ []) Set (p Set h.0) (q Set h.1)
      (λ xs ys hx hy. ((_, refl, rising_union (elements_of (first_of xs)) (elements_of (first_of ys)) (set_is_rising ys hy)), tt))
  binary_agrees Inter A B p q h =
      strict_agrees Inter (Set ∷ []) (Set ∷ []) Set (p Set h.0) (q Set h.1)
      (λ xs ys hx hy. ((_, refl, rising_filter _ (elements_of (first_of xs)) (set_is_rising xs hx)), tt))
  binary_agrees Diff A B p q h =
      strict_agrees Diff (Set ∷ []) (Set ∷ []) Set (p Set h.0) (q Set h.1)
      (λ xs ys hx hy. ((_, refl, rising_filter _ (elements_of (first_of xs)) (set_is_rising xs hx)), tt))
  binary_agrees Subset A B p q h = strict_agrees Subset (Set ∷ []) (Set ∷ []) Truth (p Set h.0) (q Set h.1) (λ xs ys hx hy. ((_, refl), tt))
  binary_agrees Implies A B p q h =
      then_agree (Truth ∷ []) (Truth ∷ []) o (p Truth h.0) (λ xs hx.
      match_agree (truth_of (first_of xs)) (q Truth h.1 o) (gives (Truth ∷ []) (truth true) o ((true, refl), tt)))
  binary_agrees (Compare order) A B p q h =
      let s = sides_have (side_of (Compare order)) A B h in
      strict_agrees (Compare order) (s.0 ∷ []) (s.0 ∷ []) Truth (p s.0 s.1) (q s.0 s.2) (λ xs ys hx hy. ((_, refl), tt))
    where
      sides_have : (b : Option Base) (L K : Base → Type 0) → AreSides b L K → (c : Base) × L c × K c
      sides_have (Some c) L K h = (c, h.0, h.1)
      sides_have None L K h = h

parts_have : (takes : ℕ → List Base → List Base → Type 0) (es : ExprTrees) (scope : List Base) (b : Base) → AllHave takes es scope b →
    (bs : List Base) × PartsHave takes es scope bs
parts_have takes no_exprs scope b h = ([], refl)
parts_have takes (expr_more e es) scope b h = let rest = parts_have takes es scope b h.1 in (b ∷ rest.0, (b, rest.0, refl, h.0, rest.1))

pub end_level : (params : List Param) (scope : List Base) (env : List Value) → bases_of params ≡ scope ++ Int ∷ [] → HaveBases scope env →
    length params - 1 ≡ length env
end_level params scope env e h =
    let counted = length-map params (λ p. p.base) in
    let same : length (bases_of params) ≡ length (scope ++ Int ∷ []) = ap length e in
    omega (arith, counted, same, length-append scope (Int ∷ []), length_have scope env h)

pub one_behind : (env : List Value) (v : Value) (x : ℕ) → x ≡ length env → length (env ++ v ∷ []) ≡ suc x
one_behind env v x e = omega (arith, e, length-append env (v ∷ []))

module _ (takes : ℕ → List Base → List Base → Type 0) (calls after : ℕ → List Value → Outcome → Type 0)
    (calls_agree : (f : ℕ) (ps rs : List Base) → takes f ps rs → (xs : List Value) → HaveBases ps xs → (o : Outcome) →
    Agree rs o (calls f xs o) (after f xs o)) where
  mutual
    pub agrees : (e : ExprTree) (scope bs : List Base) → HasNoForm e → ExprHasBases takes e scope bs → (env : List Value) → HaveBases scope env →
        (o : Outcome) →
        Agree bs o (AllowedIn calls e env o) (AllowedIn after (lowered e) env o)
    agrees (expr_lit k) scope bs q h env v o = gives bs (number k) o (keeps_number bs k h.1)
    agrees (expr_truth t) scope bs q h env v o = gives bs (truth t) o (keeps_truth bs t h)
    agrees (expr_var x) scope bs q h env v o = gives bs (value_at env x) o (keeps_value bs h.0 (value_at env x) h.2 (value_has scope env x h.0 v h.1))
    agrees (expr_set_of es) scope bs q h env v o =
        let parts = parts_have takes es scope Int h.0 in
        then_agree parts.0 bs o (agrees_all es scope parts.0 q parts.1 env v) (λ xs hx.
        gives bs (elements (set_of (map number_of xs))) o (keeps_value bs Set (elements (set_of (map number_of xs))) h.1 (
          _,
          refl,
          rising_set_of (map
              number_of xs),
        )))
    agrees (expr_tuple es) scope bs q h env v o = agrees_all es scope bs q h.1 env v o
    agrees (expr_neg a) scope bs q h env v o =
        then_agree (Int ∷ []) bs o (agrees a scope (Int ∷ []) q h.0 env v) (λ xs hx. gives bs (number _) o (keeps_number bs _ h.1))
    agrees (expr_not a) scope bs q h env v o =
        then_agree (Truth ∷ []) bs o (agrees a scope (Truth ∷ []) q h.0 env v) (λ xs hx. gives bs (truth _) o (keeps_truth bs _ h.1))
    agrees (expr_abs a) scope bs q h env v o =
        then_agree (Int ∷ []) bs o (agrees a scope (Int ∷ []) q h.0 env v) (λ xs hx. gives bs (number _) o (keeps_number bs _ h.1))
    agrees (expr_binary op a b) scope bs q h env v o =
        as_bases (result_of op ∷ []) bs (sym h.1)
        (binary_agrees (AllowedIn calls a env) (AllowedIn after (lowered a) env) (AllowedIn calls b env) (AllowedIn after (lowered b) env) o op
        (λ c. ExprHasBases takes a scope (c ∷ [])) (λ c. ExprHasBases takes b scope (c ∷ []))
        (λ c t p. agrees a scope (c ∷ []) q.1 t env v p) (λ c t p. agrees b scope (c ∷ []) q.2 t env v p) h.0)
    agrees (expr_chain orders es) scope bs q h env v o = absurd q
    agrees (expr_min es) scope bs q h env v o = absurd q
    agrees (expr_max es) scope bs q h env v o = absurd q
    agrees (expr_divides k a) scope bs q h env v o =
        then_agree (Int ∷ []) bs o (agrees a scope (Int ∷ []) q h.1 env v) (λ xs hx. gives bs (truth _) o (keeps_truth bs _ h.2))
    agrees (expr_div a k) scope bs q h env v o =
        then_agree (Int ∷ []) bs o (agrees a scope (Int ∷ []) q h.1 env v) (λ xs hx. gives bs (number _) o (keeps_number bs _ h.2))
    agrees (expr_mod a k) scope bs q h env v o =
        then_agree (Int ∷ []) bs o (agrees a scope (Int ∷ []) q h.1 env v) (λ xs hx. gives bs (number _) o (keeps_number bs _ h.2))
    agrees (expr_card a) scope bs q h env v o =
        then_agree (Set ∷ []) bs o (agrees a scope (Set ∷ []) q h.0 env v) (λ xs hx. gives bs (number _) o (keeps_number bs _ h.1))
    agrees (expr_if t a b) scope bs q h env v o =
        then_agree (Truth ∷ []) bs o (agrees t scope (Truth ∷ []) q.0 h.0 env v) (λ xs hx.
        match_agree (truth_of (first_of xs)) (agrees a scope bs q.1 h.1 env v o) (agrees b scope bs q.2 h.2 env v o))
    agrees (expr_call f es) scope bs q h env v o =
        then_agree h.0 bs o (agrees_all es scope h.0 q h.2 env v) (λ xs hx. calls_agree f h.0 bs h.1 xs hx o)
    agrees (expr_let m a b) scope bs q h env v o =
        then_agree h.0 bs o (agrees a scope h.0 q.0 h.1 env v) (λ xs hx. agrees b (scope ++ h.0) bs q.1 h.4 (env ++ xs) (have_append scope h.0 env xs v hx) o)
    agrees (expr_choose m params outputs rel) scope bs q h env v o = alike (chosen_keeps m bs outputs rel env o h.5)
    agrees (expr_choose_where m params outputs hidden given rel aim) scope bs q h env v o = absurd q
    agrees (expr_match n params a arms) scope bs q h env v o =
        let level = end_level params scope env h.0 v in
        match_agrees calls after bs n a (lowered a) (picked (length params - 1) params arms) arms env (length params - 1) params level
        (agrees a scope (Int ∷ []) q.0 h.1 env v) o (λ z any.
        agrees_arms n arms (scope ++ Int ∷ []) bs q.1 h.3 (env ++ number z ∷ []) (have_append scope (Int ∷ []) env (number z ∷ []) v ((z, refl), tt))
        (length params - 1) z (value_at-end env (number z) (length params - 1) level) (one_behind env (number z) (length params - 1) level) params any o)

    agrees_all : (es : ExprTrees) (scope bs : List Base) → HaveNoForm es → PartsHave takes es scope bs → (env : List Value) → HaveBases scope env →
        (o : Outcome) →
        Agree bs o (AllowedAll calls es env o) (AllowedAll after (all_lowered es) env o)
    agrees_all no_exprs scope bs q h env v o = alike (gives_keeps bs [] o (rw h tt))
    agrees_all (expr_more e es) scope bs q h env v o =
        then_agree (h.0 ∷ []) bs o (agrees e scope (h.0 ∷ []) q.0 h.3 env v) (λ xs hx.
        then_agree h.1 bs o (agrees_all es scope h.1 q.1 h.4 env v) (λ ys hy.
        alike (gives_keeps bs (xs ++ ys) o (subst (λ cs. HaveBases cs (xs ++ ys)) (sym h.2) (have_append (h.0 ∷ []) h.1 xs ys hx hy)))))

    agrees_arms : (n : ℕ) (arms : MatchArmTrees) (scope bs : List Base) → ArmsHaveNoForm arms → ArmsHave takes arms scope bs → (env : List Value) →
        HaveBases scope env →
        (x : ℕ) (z : ℤ) →
        value_at env x ≡ number z → length env ≡ suc x → (params : List Param) → fits_any arms z ≡ true → (o : Outcome) →
        Agree bs o (AllowedArm calls n arms z env o) (AllowedIn after (picked x params arms) env o)
    agrees_arms n no_match_arms scope bs q h env v x z at level params any o = absurd (cc)
    agrees_arms n (match_arm_more (match_arm m factors k body) arms) scope bs q h env v x z at level params any o =
        arm_agrees calls after bs n env x z at level params o m factors k body (lowered body) arms (picked x params arms) (fits factors k z) refl any
        (λ is e. agrees body (scope ++ ints_of factors) bs q.0 h.3 (env ++ map number is) (have_append scope (ints_of factors) env (map number is) v (ints_have
        factors is e)) o)
        (λ more. agrees_arms n arms scope bs q.1 h.4 env v x z at level params more o)
