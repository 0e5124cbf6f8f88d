-- An expression and what it is formed to allow the same outcomes, where its chooses do.
use Rattle.std.proofs.Common.{◌≡◌, ℕ, suc, ◌+◌, ◌≤◌, ℤ, Bool, true, false, not, Option, Some, None, List, [], ◌∷◌, ◌++◌, length, map, inl, inr, refl, sym, ap, ◌∙◌, subst, arith, length-append}
use Rattle.std.specs.Bool.{MatchBool}
use Rattle.std.specs.Int.{int_max, int_min}
use Rattle.std.specs.List.{AllByRecursion}
use Rattle.std.proofs.lemmas.List.{length-map}
use Rattle.cf_tree.specs.declared.base.Base.{Base}
use Rattle.cf_tree.specs.declared.base.Base.TheVariants.{Int, Bool as Truth, Set}
use Rattle.cf_tree.specs.declared.base.Order.{Order}
use Rattle.cf_tree.specs.declared.base.Order.TheVariants.{Le, Ge}
use Rattle.cf_tree.specs.declared.raw.BinOp.{BinOp}
use Rattle.cf_tree.specs.declared.raw.BinOp.TheVariants.{Add, Sub, Mul, And, Or, Union, Inter, Diff, Subset, Implies, Compare}
use Rattle.cf_tree.specs.Allowed.{AllowedThen, goes_on, ends_at, AllowedRight, AllowedIn, AllowedAll, AllowedArm, Gives, operation, chained, best_of, Calling}
use Rattle.cf_tree.specs.ExprTree.{ExprTree, expr_lit, expr_truth, expr_var, expr_set_of, expr_tuple, expr_neg, expr_not, expr_abs, expr_binary, expr_chain, expr_min, expr_max, expr_divides, expr_div, expr_mod, expr_card, expr_if, expr_call, expr_let, expr_choose, expr_choose_where, expr_match, ExprTrees, no_exprs, expr_more, match_arm, MatchArmTrees, no_match_arms, match_arm_more}
use Rattle.cf_tree.specs.OneOutcome.{AllowsOnly}
use Rattle.cf_tree.specs.Sets.{set_of}
use Rattle.cf_tree.specs.Values.{Value, number, truth, elements, number_of, truth_of, elements_of, first_of, Outcome, values, no_solution, value_at, HaveBases}
use Rattle.cf_tree.proofs.RisingLemmas.{rising_set_of, rising_union, rising_filter}
use Rattle.cf_program.specs.TypedProgram.{LinearBehind, AreSides, AreSeveral, ExprHasBasesBy, AllHaveBy, PartsHaveBy, ArmsHaveBy}
use Rattle.cf_program.specs.Walk.{side_of, result_of}
use Rattle.cf_form.specs.Expansion.{Calls}
use Rattle.cf_form.specs.Formed.{binary_formed, formed, all_formed, arms_formed, how_many, chain_body, best_body}
use Rattle.cf_form.specs.SourceChooses.{SourceChoose, chooses_in, chooses_in_all, chooses_in_arms}
use Rattle.cf_form.proofs.Lists.{rec_left, rec_right}
use Rattle.cf_form.proofs.Ordinary.{read_behind, Is, chain_is, Takes, takes_least, takes_greatest, best_is}
use Rattle.cf_form.proofs.Outcomes.{Agree, alike, as_bases, gives_keeps, none_keeps, gives, then_agree, match_agree, keeps_number, keeps_truth, keeps_value, value_has, have_append, length_have, set_is_rising, chosen_keeps, Keeps}

-- ---- operations with two sides
module _ (P P' R R' : Outcome → Type 0) (o : Outcome) where
  strict_agrees : (op : BinOp) (bs cs : List Base) (d : Base) → ((p : Outcome) → Agree bs p (P p) (P' p)) → ((p : Outcome) → Agree cs p (R p) (R' p)) →
      ((xs ys : List Value) → HaveBases bs xs → HaveBases cs ys → HaveBases (d ∷ []) (operation op (first_of xs) (first_of ys) ∷ [])) →
      Agree (d ∷ []) o (AllowedThen P (λ xs. AllowedThen R (λ ys. Gives (operation op (first_of xs) (first_of ys)))) o)
      (AllowedThen P' (λ xs. AllowedThen R' (λ ys. Gives (operation op (first_of xs) (first_of ys)))) o)
  strict_agrees op bs cs d p q k =
      then_agree bs (d ∷ []) o p (λ xs hx. then_agree cs (d ∷ []) o q (λ ys hy. gives (d ∷ []) (operation op (first_of xs) (first_of ys)) o (k xs ys hx hy)))

pub sides_have : (b : Option Base) (L K : Base → Type 0) → AreSides b L K → (c : Base) × L c × K c
sides_have (Some c) L K h = (c, h.0, h.1)
sides_have None L K h = h

-- `p ==> q` and `!p || q`
module _ (P P' R R' : Outcome → Type 0) (o : Outcome) (p : (o : Outcome) → Agree (Truth ∷ []) o (P o) (P' o))
    (q : (o : Outcome) → Agree (Truth ∷ []) o (R o) (R' o)) where
  abbrev Implied : Type 0
  Implied = AllowedThen P (λ xs. AllowedRight Implies (first_of xs) R) o

  abbrev Denied : Outcome → Type 0
  Denied = AllowedThen P' (λ xs. Gives (truth (not (truth_of (first_of xs)))))

  abbrev Either : Type 0
  Either = AllowedThen Denied (λ xs. AllowedRight Or (first_of xs) R') o

  right_forth : (t : Bool) → MatchBool t (R o) (Gives (truth true) o) → MatchBool (not t) (Gives (truth true) o) (R' o)
  right_forth true r = (q o).forth r
  right_forth false r = r

  right_back : (t : Bool) → MatchBool (not t) (Gives (truth true) o) (R' o) → MatchBool t (R o) (Gives (truth true) o)
  right_back true r = (q o).back r
  right_back false r = r

  right_keeps : (t : Bool) → MatchBool t (R o) (Gives (truth true) o) → Keeps (Truth ∷ []) o
  right_keeps true r = (q o).keeps r
  right_keeps false r = gives_keeps (Truth ∷ []) (truth true ∷ []) o ((true, refl), tt) r

  implied_forth : Implied → Either
  implied_forth (goes_on xs a r) =
      goes_on (truth (not (truth_of (first_of xs))) ∷ []) (goes_on xs ((p (values xs)).forth a) refl) (right_forth (truth_of (first_of xs)) r)
  implied_forth (ends_at n a e) = ends_at n (ends_at n ((p (no_solution n)).forth a) refl) e

  values_same : (xs ys : List Value) → values xs ≡ values ys → xs ≡ ys
  values_same xs ys e = cc

  no_values : (n : ℕ) (xs : List Value) → no_solution n ≡ values xs → ⊥
  no_values n xs e = cc

  none_same : (n m : ℕ) → no_solution n ≡ no_solution m → n ≡ m
  none_same n m e = cc

  back_on : (ys : List Value) → Denied (values ys) → AllowedRight Or (first_of ys) R' o → Implied
  back_on ys (goes_on xs a e) r =
      goes_on xs ((p (values xs)).back a) (right_back (truth_of (first_of xs))
      (subst (λ zs. AllowedRight Or (first_of zs) R' o) (values_same ys (truth (not (truth_of (first_of xs))) ∷ []) e) r))
  back_on ys (ends_at n a e) r = absurd (no_values n ys (sym e))

  back_end : (n : ℕ) → Denied (no_solution n) → o ≡ no_solution n → Implied
  back_end n (goes_on xs a e) g = absurd (no_values n (truth (not (truth_of (first_of xs))) ∷ []) e)
  back_end n (ends_at m a e) g = ends_at m ((p (no_solution m)).back a) (g ∙ e)

  implied_back : Either → Implied
  implied_back (goes_on ys a r) = back_on ys a r
  implied_back (ends_at n a e) = back_end n a e

  implied_keeps : Implied → Keeps (Truth ∷ []) o
  implied_keeps (goes_on xs a r) = right_keeps (truth_of (first_of xs)) r
  implied_keeps (ends_at n a e) = none_keeps (Truth ∷ []) n o e

  pub implied_agrees : Agree (Truth ∷ []) o Implied Either
  implied_agrees = record { forth = implied_forth; back = implied_back; keeps = implied_keeps }

-- ---- what gives one value alone
only_agrees : (bs : List Base) (v : Value) (o : Outcome) (F : Outcome → Type 0) → HaveBases bs (v ∷ []) → AllowsOnly F (v ∷ []) →
    Agree bs o (Gives v o) (F o)
only_agrees bs v o F h a = record { forth = λ e. subst F (sym e) a.0; back = λ f. a.1 o f; keeps = gives_keeps bs (v ∷ []) o h }

-- numbers alone
pub are_numbers : (A : Type 0) (ks : List A) (xs : List Value) → HaveBases (map (λ _. Int) ks) xs → xs ≡ map number (map number_of xs)
are_numbers A [] [] h = refl
are_numbers A [] (x ∷ xs) h = absurd h
are_numbers A (k ∷ ks) [] h = absurd h
are_numbers A (k ∷ ks) (x ∷ xs) h =
    let first : x ≡ number (number_of x) = rw h.0.1 refl in
    let rest = are_numbers A ks xs h.1 in cc

pub parts_have : (linear : LinearBehind) (takes : ℕ → List Base → List Base → Type 0) (es : ExprTrees) (scope : List Base) →
    AllHaveBy linear takes es scope Int →
    (ts : List (Unit {0})) × (length ts ≡ how_many es) × PartsHaveBy linear takes es scope (map (λ _. Int) ts)
parts_have linear takes no_exprs scope h = ([], refl, refl)
parts_have linear takes (expr_more e es) scope h =
    let rest = parts_have linear takes es scope h.1 in
    (tt ∷ rest.0, ap suc rest.1, (Int, map (λ _. Int) rest.0, refl, h.0, rest.2))

pub numbers_have : (factors numbers : List ℤ) → length numbers ≡ length factors → HaveBases (map (λ _. Int) factors) (map number numbers)
numbers_have [] [] e = tt
numbers_have [] (z ∷ zs) e = absurd (omega (arith, e))
numbers_have (f ∷ factors) [] e = absurd (omega (arith, e))
numbers_have (f ∷ factors) (z ∷ zs) e = ((z, refl), numbers_have factors zs (omega (arith, e)))

pub several_have : (es : ExprTrees) → AreSeveral es → 2 ≤ how_many es
several_have no_exprs h = absurd h
several_have (expr_more e no_exprs) h = absurd h
several_have (expr_more e (expr_more f es)) h = omega arith

-- the choose as an expression
abbrev pub choose_expr : SourceChoose → ExprTree
choose_expr q = expr_choose_where q.number q.scope q.outputs q.hidden q.given q.relation q.aim

module _ (linear : LinearBehind) (takes : ℕ → List Base → List Base → Type 0) (calls after : Calling) (expand : Calls)
    (calls_agree : (f : ℕ) (ps rs : List Base) → takes f ps rs → (xs : List Value) → HaveBases ps xs → (o : Outcome) →
    Agree rs o (calls f xs o) (after f xs o))
    (good : SourceChoose → Type 0)
    (choose_agrees : (q : SourceChoose) → good q → (s : ℕ) (scope bs : List Base) → ExprHasBasesBy linear takes (choose_expr q) scope bs →
    (env : List Value) → HaveBases scope env → (o : Outcome) →
    Agree bs o (AllowedIn calls (choose_expr q) env o) (AllowedIn after (formed expand s (choose_expr q)) env o)) where
  arm_agrees : (bs : List Base) (n m : ℕ) (factors : List ℤ) (k z : ℤ) (body new : ExprTree) (arms news : MatchArmTrees) (env : List Value) (o : Outcome) →
      ((numbers : List ℤ) → length numbers ≡ length factors →
      Agree bs o (AllowedIn calls body (env ++ map number numbers) o) (AllowedIn after new (env ++ map number numbers) o)) →
      Agree bs o (AllowedArm calls n arms z env o) (AllowedArm after n news z env o) →
      Agree bs o (AllowedArm calls n (match_arm_more (match_arm m factors k body) arms) z env o)
      (AllowedArm after n (match_arm_more (match_arm m factors k new) news) z env o)
  arm_agrees bs n m factors k z body new arms news env o a rest = record { forth = forth; back = back; keeps = keeps }
    where
      forth : AllowedArm calls n (match_arm_more (match_arm m factors k body) arms) z env o →
          AllowedArm after n (match_arm_more (match_arm m factors k new) news) z env o
      forth (inl x) = inl (x.0, x.1, (a x.0 x.1.0).forth x.2)
      forth (inr x) = inr (x.0, rest.forth x.1)

      back : AllowedArm after n (match_arm_more (match_arm m factors k new) news) z env o →
          AllowedArm calls n (match_arm_more (match_arm m factors k body) arms) z env o
      back (inl x) = inl (x.0, x.1, (a x.0 x.1.0).back x.2)
      back (inr x) = inr (x.0, rest.back x.1)

      keeps : AllowedArm calls n (match_arm_more (match_arm m factors k body) arms) z env o → Keeps bs o
      keeps (inl x) = (a x.0 x.1.0).keeps x.2
      keeps (inr x) = rest.keeps x.1

  binary_agrees : (op : BinOp) (a b new old : ExprTree) (env : List Value) (o : Outcome) (A B : Base → Type 0) →
      ((c : Base) → A c → (p : Outcome) → Agree (c ∷ []) p (AllowedIn calls a env p) (AllowedIn after new env p)) →
      ((c : Base) → B c → (p : Outcome) → Agree (c ∷ []) p (AllowedIn calls b env p) (AllowedIn after old env p)) → AreSides (side_of op) A B →
      Agree (result_of op ∷ []) o (AllowedIn calls (expr_binary op a b) env o) (AllowedIn after (binary_formed op new old) env o)
  binary_agrees Add a b new old env o A B p q h =
      strict_agrees _ _ _ _ o Add (Int ∷ []) (Int ∷ []) Int (p Int h.0) (q Int h.1) (λ xs ys hx hy. ((_, refl), tt))
  binary_agrees Sub a b new old env o A B p q h =
      strict_agrees _ _ _ _ o Sub (Int ∷ []) (Int ∷ []) Int (p Int h.0) (q Int h.1) (λ xs ys hx hy. ((_, refl), tt))
  binary_agrees Mul a b new old env o A B p q h =
      strict_agrees _ _ _ _ o Mul (Int ∷ []) (Int ∷ []) Int (p Int h.0) (q Int h.1) (λ xs ys hx hy. ((_, refl), tt))
  binary_agrees And a b new old env o A B p q h =
      then_agree (Truth ∷ []) (Truth ∷ []) o (p Truth h.0) (λ xs hx.
      match_agree (truth_of (first_of xs)) (q Truth h.1 o) (gives (Truth ∷ []) (truth false) o ((false, refl), tt)))
  binary_agrees Or a b new old env o A B p q h =
      then_agree (Truth ∷ []) (Truth ∷ []) o (p Truth h.0) (λ xs hx.
      match_agree (truth_of (first_of xs)) (gives (Truth ∷ []) (truth true) o ((true, refl), tt)) (q Truth h.1 o))
  binary_agrees Implies a b new old env o A B p q h = implied_agrees _ _ _ _ o (p Truth h.0) (q Truth h.1)
  binary_agrees Union a b new old env o A B p q h =
      strict_agrees _ _ _ _ o Union (Set ∷ []) (Set ∷ []) Set (p Set h.0) (q Set h.1)
      (λ xs ys hx hy. ((_, refl, rising_union (elements_of (first_of xs)) (elements_of (first_of ys)) (set_is_rising ys hy)), tt))
  binary_agrees Inter a b new old env o A B p q h =
      strict_agrees _ _ _ _ o Inter (Set ∷ []) (Set ∷ []) Set (p Set h.0) (q Set h.1)
      (λ xs ys hx hy. ((_, refl, rising_filter _ (elements_of (first_of xs)) (set_is_rising xs hx)), tt))
  binary_agrees Diff a b new old env o A B p q h =
      strict_agrees _ _ _ _ o Diff (Set ∷ []) (Set ∷ []) Set (p Set h.0) (q Set h.1)
      (λ xs ys hx hy. ((_, refl, rising_filter _ (elements_of (first_of xs)) (set_is_rising xs hx)), tt))
  binary_agrees Subset a b new old env o A B p q h =
      strict_agrees _ _ _ _ o Subset (Set ∷ []) (Set ∷ []) Truth (p Set h.0) (q Set h.1) (λ xs ys hx hy. ((_, refl), tt))
  binary_agrees (Compare order) a b new old env o A B p q h =
      let s = sides_have (side_of (Compare order)) A B h in
      strict_agrees _ _ _ _ o (Compare order) (s.0 ∷ []) (s.0 ∷ []) Truth (p s.0 s.1) (q s.0 s.2) (λ xs ys hx hy. ((_, refl), tt))

  -- the parts bound, and then one value of them
  bound_agrees : (es news : ExprTrees) (k : ℕ) (body : ExprTree) (env : List Value) (o : Outcome) (parts bs : List Base) (f : List Value → Value) →
      ((p : Outcome) → Agree parts p (AllowedAll calls es env p) (AllowedAll after news env p)) →
      ((xs : List Value) → HaveBases parts xs → Is after (env ++ xs) body (f xs)) → ((xs : List Value) → HaveBases bs (f xs ∷ [])) →
      Agree bs o (AllowedThen (AllowedAll calls es env) (λ xs. Gives (f xs)) o) (AllowedIn after (expr_let k (expr_tuple news) body) env o)
  bound_agrees es news k body env o parts bs f a is h =
      then_agree parts bs o a (λ xs hx. only_agrees bs (f xs) o (AllowedIn after body (env ++ xs)) (h xs) (is xs hx))

  behind : (env : List Value) (vs : List Base) (xs : List Value) (s n : ℕ) → s ≡ length env → HaveBases vs xs → n ≡ length vs → s + n ≡ length (env ++ xs)
  behind env vs xs s n e h k = omega (arith, e, k, length-append env xs, length_have vs xs h)

  one_behind : (env xs : List Value) (s : ℕ) → s ≡ length env → HaveBases (Int ∷ []) xs → suc s ≡ length (env ++ xs)
  one_behind env xs s e h = omega (arith, e, length-append env xs, length_have (Int ∷ []) xs h)

  best_agrees : (order : Order) (better : ℤ → ℤ → ℤ) → Takes order better → (es news : ExprTrees) (s : ℕ) (scope bs : List Base) → AreSeveral es →
      AllHaveBy linear takes es scope Int → bs ≡ Int ∷ [] → (env : List Value) → s ≡ length env → (o : Outcome) →
      ((parts : List Base) → PartsHaveBy linear takes es scope parts → (p : Outcome) →
      Agree parts p (AllowedAll calls es env p) (AllowedAll after news env p)) →
      Agree bs o (AllowedThen (AllowedAll calls es env) (λ xs. Gives (number (best_of better (map number_of xs)))) o)
      (AllowedIn after (expr_let (how_many es) (expr_tuple news) (best_body order s (how_many es))) env o)
  best_agrees order better t es news s scope bs m h one env e o a =
      let parts = parts_have linear takes es scope h in
      bound_agrees es news (how_many es) (best_body order s (how_many es)) env o (map (λ _. Int) parts.0) bs
      (λ xs. number (best_of better (map number_of xs))) (a (map (λ _. Int) parts.0) parts.2)
      (λ xs hx.
      let are = are_numbers (Unit {0}) parts.0 xs hx in
      let counted = length_have (map (λ _. Int) parts.0) xs hx in
      let several = several_have es m in
      subst (λ ys. Is after (env ++ ys) (best_body order s (how_many es)) (number (best_of better (map number_of xs)))) (sym are)
      (best_is after order better t env (map number_of xs) s (how_many es)
      (omega (arith, counted, several, parts.1, length-map xs number_of, length-map parts.0 (λ _. Int)))
      (omega (arith, counted, parts.1, length-map xs number_of, length-map parts.0 (λ _. Int))) e))
      (λ xs. keeps_number bs _ one)

  mutual
    pub agrees : (e : ExprTree) (s : ℕ) (scope bs : List Base) → ExprHasBasesBy linear takes e scope bs → AllByRecursion good (chooses_in e) → (env : List Value) →
        HaveBases scope env → s ≡ length env → (o : Outcome) → Agree bs o (AllowedIn calls e env o) (AllowedIn after (formed expand s e) env o)
    agrees (expr_lit k) s scope bs h g env v l o = gives bs (number k) o (keeps_number bs k h.1)
    agrees (expr_truth t) s scope bs h g env v l o = gives bs (truth t) o (keeps_truth bs t h)
    agrees (expr_var x) s scope bs h g env v l o = gives bs (value_at env x) o (keeps_value bs h.0 (value_at env x) h.2 (value_has scope env x h.0 v h.1))
    agrees (expr_set_of es) s scope bs h g env v l o =
        let parts = parts_have linear takes es scope h.0 in
        then_agree (map (λ _. Int) parts.0) bs o (agrees_all es s scope (map (λ _. Int) parts.0) parts.2 g env v l) (λ xs hx.
        gives bs (elements (set_of (map number_of xs))) o
        (keeps_value bs Set (elements (set_of (map number_of xs))) h.1 (_, refl, rising_set_of (map number_of xs))))
    agrees (expr_tuple es) s scope bs h g env v l o = agrees_all es s scope bs h.1 g env v l o
    agrees (expr_neg a) s scope bs h g env v l o =
        then_agree (Int ∷ []) bs o (agrees a s scope (Int ∷ []) h.0 g env v l) (λ xs hx. gives bs (number _) o (keeps_number bs _ h.1))
    agrees (expr_not a) s scope bs h g env v l o =
        then_agree (Truth ∷ []) bs o (agrees a s scope (Truth ∷ []) h.0 g env v l) (λ xs hx. gives bs (truth _) o (keeps_truth bs _ h.1))
    agrees (expr_abs a) s scope bs h g env v l o =
        then_agree (Int ∷ []) bs o (agrees a s scope (Int ∷ []) h.0 g env v l) (λ xs hx. gives bs (number _) o (keeps_number bs _ h.1))
    agrees (expr_binary op a b) s scope bs h g env v l o =
        as_bases (result_of op ∷ []) bs (sym h.1)
        (binary_agrees op a b (formed expand s a) (formed expand s b) env o
        (λ c. ExprHasBasesBy linear takes a scope (c ∷ [])) (λ c. ExprHasBasesBy linear takes b scope (c ∷ []))
        (λ c t p. agrees a s scope (c ∷ []) t (rec_left good (chooses_in a) (chooses_in b) g) env v l p)
        (λ c t p. agrees b s scope (c ∷ []) t (rec_right good (chooses_in a) (chooses_in b) g) env v l p) h.0)
    agrees (expr_chain orders es) s scope bs h g env v l o =
        bound_agrees es (all_formed expand s es) (how_many es) (chain_body s orders) env o (Int ∷ map (λ _. Int) orders) bs (λ xs. truth (chained orders xs))
        (agrees_all es s scope (Int ∷ map (λ _. Int) orders) h.1 g env v l)
        (λ xs hx.
        rw l (chain_is after (env ++ xs) orders (length env) xs (read_behind env xs)
        (omega (arith, length_have (Int ∷ map (λ _. Int) orders) xs hx, length-map orders (λ _. Int)))))
        (λ xs. keeps_truth bs _ h.2)
    agrees (expr_min es) s scope bs h g env v l o =
        best_agrees Le int_min takes_least es (all_formed expand s es) s scope bs h.0 h.1 h.2 env l o (λ parts t p. agrees_all es s scope parts t g env v l p)
    agrees (expr_max es) s scope bs h g env v l o =
        best_agrees Ge int_max takes_greatest es (all_formed expand s es) s scope bs h.0 h.1 h.2 env l o
        (λ parts t p. agrees_all es s scope parts t g env v l p)
    agrees (expr_divides k a) s scope bs h g env v l o =
        then_agree (Int ∷ []) bs o (agrees a s scope (Int ∷ []) h.1 g env v l) (λ xs hx. gives bs (truth _) o (keeps_truth bs _ h.2))
    agrees (expr_div a k) s scope bs h g env v l o =
        then_agree (Int ∷ []) bs o (agrees a s scope (Int ∷ []) h.1 g env v l) (λ xs hx. gives bs (number _) o (keeps_number bs _ h.2))
    agrees (expr_mod a k) s scope bs h g env v l o =
        then_agree (Int ∷ []) bs o (agrees a s scope (Int ∷ []) h.1 g env v l) (λ xs hx. gives bs (number _) o (keeps_number bs _ h.2))
    agrees (expr_card a) s scope bs h g env v l o =
        then_agree (Set ∷ []) bs o (agrees a s scope (Set ∷ []) h.0 g env v l) (λ xs hx. gives bs (number _) o (keeps_number bs _ h.1))
    agrees (expr_if t a b) s scope bs h g env v l o =
        let first = rec_left good (chooses_in t ++ chooses_in a) (chooses_in b) g in
        then_agree (Truth ∷ []) bs o (agrees t s scope (Truth ∷ []) h.0 (rec_left good (chooses_in t) (chooses_in a) first) env v l) (λ xs hx.
        match_agree (truth_of (first_of xs)) (agrees a s scope bs h.1 (rec_right good (chooses_in t) (chooses_in a) first) env v l o)
        (agrees b s scope bs h.2 (rec_right good (chooses_in t ++ chooses_in a) (chooses_in b) g) env v l o))
    agrees (expr_call f es) s scope bs h g env v l o =
        then_agree h.0 bs o (agrees_all es s scope h.0 h.2 g env v l) (λ xs hx. calls_agree f h.0 bs h.1 xs hx o)
    agrees (expr_let m a b) s scope bs h g env v l o =
        then_agree h.0 bs o (agrees a s scope h.0 h.1 (rec_left good (chooses_in a) (chooses_in b) g) env v l) (λ xs hx.
        agrees b (s + m) (scope ++ h.0) bs h.4 (rec_right good (chooses_in a) (chooses_in b) g) (env ++ xs) (have_append scope h.0 env xs v hx)
        (behind env h.0 xs s m l hx h.2) o)
    agrees (expr_choose m params outputs rel) s scope bs h g env v l o = alike (chosen_keeps m bs outputs rel env o h.5)
    agrees (expr_choose_where n params outputs hidden given rel aim) s scope bs h g env v l o =
        choose_agrees (record { number = n; scope = params; outputs = outputs; hidden = hidden; given = given; relation = rel; aim = aim }) g.0 s scope bs h env v
        o
    agrees (expr_match n params a arms) s scope bs h g env v l o =
        then_agree (Int ∷ []) bs o (agrees a s scope (Int ∷ []) h.1 (rec_left good (chooses_in a) (chooses_in_arms arms) g) env v l) (λ xs hx.
        agrees_arms n arms (suc s) (scope ++ Int ∷ []) bs h.3 (rec_right good (chooses_in a) (chooses_in_arms arms) g) (number_of (first_of xs)) (env ++ xs)
        (have_append scope (Int ∷ []) env xs v hx) (one_behind env xs s l hx) o)

    agrees_all : (es : ExprTrees) (s : ℕ) (scope bs : List Base) → PartsHaveBy linear takes es scope bs → AllByRecursion good (chooses_in_all es) →
        (env : List Value) → HaveBases scope env → s ≡ length env → (o : Outcome) →
        Agree bs o (AllowedAll calls es env o) (AllowedAll after (all_formed expand s es) env o)
    agrees_all no_exprs s scope bs h g env v l o = alike (gives_keeps bs [] o (rw h tt))
    agrees_all (expr_more e es) s scope bs h g env v l o =
        then_agree (h.0 ∷ []) bs o (agrees e s scope (h.0 ∷ []) h.3 (rec_left good (chooses_in e) (chooses_in_all es) g) env v l) (λ xs hx.
        then_agree h.1 bs o (agrees_all es s scope h.1 h.4 (rec_right good (chooses_in e) (chooses_in_all es) g) env v l) (λ ys hy.
        alike (gives_keeps bs (xs ++ ys) o (subst (λ cs. HaveBases cs (xs ++ ys)) (sym h.2) (have_append (h.0 ∷ []) h.1 xs ys hx hy)))))

    agrees_arms : (n : ℕ) (arms : MatchArmTrees) (s : ℕ) (scope bs : List Base) → ArmsHaveBy linear takes arms scope bs → AllByRecursion good (chooses_in_arms arms) →
        (z : ℤ) (env : List Value) → HaveBases scope env → s ≡ length env → (o : Outcome) →
        Agree bs o (AllowedArm calls n arms z env o) (AllowedArm after n (arms_formed expand s arms) z env o)
    agrees_arms n no_match_arms s scope bs h g z env v l o = alike (none_keeps bs n o)
    agrees_arms n (match_arm_more (match_arm m factors k body) arms) s scope bs h g z env v l o =
        arm_agrees bs n m factors k z body (formed expand (s + length factors) body) arms (arms_formed expand s arms) env o
        (λ zs e.
        let hz = numbers_have factors zs e in
        agrees body (s + length factors) (scope ++ map (λ _. Int) factors) bs h.3 (rec_left good (chooses_in body) (chooses_in_arms arms) g)
        (env ++ map number zs) (have_append scope (map (λ _. Int) factors) env (map number zs) v hz)
        (behind env (map (λ _. Int) factors) (map number zs) s (length factors) l hz (sym (length-map factors (λ _. Int)))) o)
        (agrees_arms n arms s scope bs h.4 (rec_right good (chooses_in body) (chooses_in_arms arms) g) z env v l o)
