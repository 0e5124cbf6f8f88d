-- The code of an expression has an outcome that the expression allows.
use Rattle.std.proofs.Common.{◌≡◌, ℕ, ℤ, pos, ◌+◌, ◌+ℤ◌, Bool, true, false, ◌||◌, Option, Some, None, List, [], ◌∷◌, ◌++◌, length, map, Contains, refl, sym, ap, ◌∙◌, arith, length-append}
use Rattle.std.proofs.lemmas.List.{append_assoc, append-nil}
use Rattle.std.proofs.lemmas.List.Elements.{Contains-append_left, Contains-append_right}
use Rattle.cf_tree.specs.declared.base.Base.{Base}
use Rattle.cf_tree.specs.declared.base.Base.TheVariants.{Int, Bool as Truth, Set}
use Rattle.cf_tree.specs.declared.raw.BinOp.{BinOp}
use Rattle.cf_tree.specs.declared.raw.BinOp.TheVariants.{Add, Sub, Mul, And, Or, Union, Inter, Diff, Subset, Implies, Compare}
use Rattle.cf_tree.specs.Allowed.{AllowedThen, goes_on, Gives, Chosen, operation, AllowedRight, AllowedIn, AllowedAll}
use Rattle.cf_tree.specs.declared.base.Order.{Order}
use Rattle.cf_tree.specs.CodeTree.{CodeTree, code_var, code_neg, code_max, CodeTrees, no_codes, code_more}
use Rattle.cf_tree.specs.Numbers.{absolute}
use Rattle.std.specs.Ordering.{int_eq}
use Rattle.cf_tree.specs.ExprTree.{ExprTree, expr_lit, expr_truth, expr_var, expr_set_of, expr_tuple, expr_neg, expr_not, expr_abs, expr_binary, expr_chain, expr_min, expr_max, expr_divides, expr_div, expr_mod, expr_card, expr_if, expr_call, expr_let, expr_choose, expr_choose_where, expr_match, ExprTrees, no_exprs, expr_more}
use Rattle.cf_tree.specs.Meaning.{Got, got, none_at, then_gives, path, all_path, set_path, set_in, truth_in, gives_truth, means, outcome_of}
use Rattle.cf_tree.specs.Relation.{Sol}
use Rattle.cf_tree.specs.Sets.{IsRising, has, set_of, set_put}
use Rattle.cf_tree.specs.Values.{Value, number, truth, elements, Outcome, values, number_of, value_at, first_of, HaveBases}
use Rattle.cf_tree.proofs.RisingLemmas.{rising_ext, rising_put, rising_set_of, rising_union, rising_filter}
use Rattle.cf_tree.proofs.SetLemmas.{has-put, has-set_of}
use Rattle.cf_tree.proofs.SolvingLemmas.{solve_chosen}
use Rattle.cf_choose.proofs.ArmBuilderLemmas.{length_have, value_at-end}
use Rattle.cf_tree.specs.Params.{bases_of, names_of}
use Rattle.cf_program.specs.TypedProgram.{AreSides}
use Rattle.cf_program.proofs.PlainTypes.{ExprHasBases, AllHave, PartsHave}
use Rattle.cf_program.specs.Walk.{side_of, result_of}
use Rattle.cf_build.specs.Codes.{two, binary_code, joined_code, call_code, code_of, codes_of_all}
use Rattle.cf_tree.specs.ChooseTree.{ChooseTree}
use Rattle.cf_build.specs.Chooses.{chooses_in, chooses_in_all, choose_arms}
use Rattle.cf_shift.specs.Shifted.{shifted}
use Rattle.cf_build.specs.Solves.{IsSolveOf}
use Rattle.cf_build.proofs.Plain.{IsPlain, ArePlain}
use Rattle.cf_shift.proofs.ShiftedPaths.{shifted_means}
use Rattle.cf_build.proofs.Values.{Keeps, then_fine, more_fine, then_same, then_weaker, keeps_same, if_fine, value_means, keeps_number, keeps_truth, keeps_value, value_has, have_append, set_is_rising, number_alone, chosen_keeps, from_zero, greater_is_absolute}

-- the numbers of a list put into a set, the first of them first
abbrev pub put_all : List ℤ → List ℤ → List ℤ
put_all [] done = done
put_all (x ∷ xs) done = put_all xs (set_put x done)

put_all_rises : (xs done : List ℤ) → IsRising done → IsRising (put_all xs done)
put_all_rises [] done h = h
put_all_rises (x ∷ xs) done h = put_all_rises xs (set_put x done) (rising_put x done h)

put_all_has : (xs done : List ℤ) (z : ℤ) → has (put_all xs done) z ≡ (has xs z || has done z)
put_all_has [] done z = refl
put_all_has (x ∷ xs) done z = put_all_has xs (set_put x done) z ∙ rw (has-put x done z) (or_turned (has xs z) (int_eq x z) (has done z))
  where
    or_turned : (a b c : Bool) → (a || (b || c)) ≡ ((b || a) || c)
    or_turned true true c = refl
    or_turned true false c = refl
    or_turned false true c = refl
    or_turned false false c = refl

pub put_all_is : (xs : List ℤ) → put_all xs [] ≡ set_of xs
put_all_is xs =
    rising_ext _ _ (put_all_rises xs [] tt) (rising_set_of xs) (λ z. put_all_has xs [] z ∙ or_false (has xs z) ∙ sym (has-set_of xs z))
  where
    or_false : (a : Bool) → (a || false) ≡ a
    or_false true = refl
    or_false false = refl

-- each side of an operation has one base
pub sides_have : (o : Option Base) (L R : Base → Type 0) → AreSides o L R → (c : Base) × L c × R c
sides_have (Some c) L R h = (c, h.0, h.1)
sides_have None L R h = h

-- an operation whose sides are both evaluated
strict_fine : {P R : Outcome → Type 0} (Q : Value → Value → Value) (bs cs ds : List Base) (g h : Got (List Value)) →
    P (outcome_of g) × Keeps bs (outcome_of g) → R (outcome_of h) × Keeps cs (outcome_of h) →
    ((xs ys : List Value) → HaveBases bs xs → HaveBases cs ys → HaveBases ds (Q (first_of xs) (first_of ys) ∷ [])) →
    AllowedThen P (λ xs. AllowedThen R (λ ys. Gives (Q (first_of xs) (first_of ys))))
    (outcome_of (then_gives g (λ xs. then_gives h (λ ys. got (Q (first_of xs) (first_of ys) ∷ [])))))
    × Keeps ds (outcome_of (then_gives g (λ xs. then_gives h (λ ys. got (Q (first_of xs) (first_of ys) ∷ [])))))
strict_fine {R = R} Q bs cs ds g h p q k =
    then_fine bs ds g _ p (λ xs hx. then_fine {P = R} cs ds h _ q (λ ys hy. (refl, k xs ys hx hy)))

abbrev pub Fine : (Outcome → Type 0) → List Base → CodeTree → List Value → Type 0
Fine P bs c env = P (means c env) × Keeps bs (means c env)

sum_gives : (a b : CodeTree) (env : List Value) →
    (path (binary_code Add a b) env).gives ≡ then_gives (path a env).gives
    (λ xs. then_gives (path b env).gives (λ ys. got (number (number_of (first_of xs) +ℤ number_of (first_of ys)) ∷ [])))
sum_gives a b env = by (path a env).gives (path b env).gives
  where
    by : (g h : Got (List Value)) → then_gives g (λ xs. then_gives h (λ ys. got (number (pos 0 +ℤ number_of (first_of xs) +ℤ number_of (first_of ys)) ∷ [])))
        ≡ then_gives g (λ xs. then_gives h (λ ys. got (number (number_of (first_of xs) +ℤ number_of (first_of ys)) ∷ [])))
    by (got xs) (got ys) = ap (λ z. got (number z ∷ [])) (from_zero (number_of (first_of xs)) (number_of (first_of ys)))
    by (got xs) (none_at n) = refl
    by (none_at n) h = refl

module _ (P R : Outcome → Type 0) (a b : CodeTree) (env : List Value) where
  abbrev Sides : BinOp → Outcome → Type 0
  Sides op = AllowedThen P (λ xs. AllowedRight op (first_of xs) R)

  sum_fine : (c d : Base) → Fine P (c ∷ []) a env → Fine R (d ∷ []) b env → Fine (Sides Add) (Int ∷ []) (binary_code Add a b) env
  sum_fine c d p q =
      rw (sum_gives a b env)
      (strict_fine (operation Add) (c ∷ []) (d ∷ []) (Int ∷ []) (path a env).gives (path b env).gives p q (λ xs ys hx hy. ((_, refl), tt)))

  difference_fine : (c d : Base) → Fine P (c ∷ []) a env → Fine R (d ∷ []) b env → Fine (Sides Sub) (Int ∷ []) (binary_code Sub a b) env
  difference_fine c d p q = strict_fine (operation Sub) (c ∷ []) (d ∷ []) (Int ∷ []) (path a env).gives (path b env).gives p q (λ xs ys hx hy. ((_, refl), tt))

  product_fine : (c d : Base) → Fine P (c ∷ []) a env → Fine R (d ∷ []) b env → Fine (Sides Mul) (Int ∷ []) (binary_code Mul a b) env
  product_fine c d p q = strict_fine (operation Mul) (c ∷ []) (d ∷ []) (Int ∷ []) (path a env).gives (path b env).gives p q (λ xs ys hx hy. ((_, refl), tt))

  and_fine : Fine P (Truth ∷ []) a env → Fine R (Truth ∷ []) b env → Fine (Sides And) (Truth ∷ []) (binary_code And a b) env
  and_fine p q =
      then_fine (Truth ∷ []) (Truth ∷ []) (path a env).gives _ p (λ xs hx.
      if_fine (truth_in xs) R (Gives (truth false)) (Truth ∷ []) (path b env) (gives_truth false) q (refl, ((false, refl), tt)))

  or_fine : Fine P (Truth ∷ []) a env → Fine R (Truth ∷ []) b env → Fine (Sides Or) (Truth ∷ []) (binary_code Or a b) env
  or_fine p q =
      then_fine (Truth ∷ []) (Truth ∷ []) (path a env).gives _ p (λ xs hx.
      if_fine (truth_in xs) (Gives (truth true)) R (Truth ∷ []) (gives_truth true) (path b env) (refl, ((true, refl), tt)) q)

  implies_fine : Fine P (Truth ∷ []) a env → Fine R (Truth ∷ []) b env → Fine (Sides Implies) (Truth ∷ []) (binary_code Implies a b) env
  implies_fine p q =
      then_fine (Truth ∷ []) (Truth ∷ []) (path a env).gives _ p (λ xs hx.
      if_fine (truth_in xs) R (Gives (truth true)) (Truth ∷ []) (path b env) (gives_truth true) q (refl, ((true, refl), tt)))

  union_fine : Fine P (Set ∷ []) a env → Fine R (Set ∷ []) b env → Fine (Sides Union) (Set ∷ []) (binary_code Union a b) env
  union_fine p q =
      strict_fine (operation Union) (Set ∷ []) (Set ∷ []) (Set ∷ []) (path a env).gives (path b env).gives p q
      (λ xs ys hx hy. ((_, refl, rising_union (set_in xs) (set_in ys) (set_is_rising ys hy)), tt))

  inter_fine : Fine P (Set ∷ []) a env → Fine R (Set ∷ []) b env → Fine (Sides Inter) (Set ∷ []) (binary_code Inter a b) env
  inter_fine p q =
      strict_fine (operation Inter) (Set ∷ []) (Set ∷ []) (Set ∷ []) (path a env).gives (path b env).gives p q
      (λ xs ys hx hy. ((_, refl, rising_filter _ (set_in xs) (set_is_rising xs hx)), tt))

  diff_fine : Fine P (Set ∷ []) a env → Fine R (Set ∷ []) b env → Fine (Sides Diff) (Set ∷ []) (binary_code Diff a b) env
  diff_fine p q =
      strict_fine (operation Diff) (Set ∷ []) (Set ∷ []) (Set ∷ []) (path a env).gives (path b env).gives p q
      (λ xs ys hx hy. ((_, refl, rising_filter _ (set_in xs) (set_is_rising xs hx)), tt))

  subset_fine : (c d : Base) → Fine P (c ∷ []) a env → Fine R (d ∷ []) b env → Fine (Sides Subset) (Truth ∷ []) (binary_code Subset a b) env
  subset_fine c d p q = strict_fine (operation Subset) (c ∷ []) (d ∷ []) (Truth ∷ []) (path a env).gives (path b env).gives p q (λ xs ys hx hy. ((_, refl), tt))

  compare_fine : (o : Order) (c d : Base) → Fine P (c ∷ []) a env → Fine R (d ∷ []) b env →
      Fine (Sides (Compare o)) (Truth ∷ []) (binary_code (Compare o) a b) env
  compare_fine o c d p q = strict_fine (operation (Compare o)) (c ∷ []) (d ∷ []) (Truth ∷ []) (path a env).gives (path b env).gives p q
      (λ xs ys hx hy. ((_, refl), tt))

  binary_fine : (op : BinOp) (A B : Base → Type 0) → ((c : Base) → A c → Fine P (c ∷ []) a env) → ((c : Base) → B c → Fine R (c ∷ []) b env) →
      AreSides (side_of op) A B →
      Fine (Sides op) (result_of op ∷ []) (binary_code op a b) env
  binary_fine Add A B p q h = sum_fine Int Int (p Int h.0) (q Int h.1)
  binary_fine Sub A B p q h = difference_fine Int Int (p Int h.0) (q Int h.1)
  binary_fine Mul A B p q h = product_fine Int Int (p Int h.0) (q Int h.1)
  binary_fine And A B p q h = and_fine (p Truth h.0) (q Truth h.1)
  binary_fine Or A B p q h = or_fine (p Truth h.0) (q Truth h.1)
  binary_fine Union A B p q h = union_fine (p Set h.0) (q Set h.1)
  binary_fine Inter A B p q h = inter_fine (p Set h.0) (q Set h.1)
  binary_fine Diff A B p q h = diff_fine (p Set h.0) (q Set h.1)
  binary_fine Subset A B p q h = subset_fine Set Set (p Set h.0) (q Set h.1)
  binary_fine Implies A B p q h = implies_fine (p Truth h.0) (q Truth h.1)
  binary_fine (Compare o) A B p q h = let s = sides_have (side_of (Compare o)) A B h in compare_fine o s.0 s.0 (p s.0 s.1) (q s.0 s.2)

-- an operation with one part
unary_fine : {P : Outcome → Type 0} {Q : List Value → Value} (bs cs : List Base) (g : Got (List Value)) → P (outcome_of g) × Keeps bs (outcome_of g) →
    ((xs : List Value) → HaveBases cs (Q xs ∷ [])) →
    AllowedThen P (λ xs. Gives (Q xs)) (outcome_of (then_gives g (λ xs. got (Q xs ∷ [])))) × Keeps cs (outcome_of (then_gives g (λ xs. got (Q xs ∷ []))))
unary_fine bs cs g p k = then_fine bs cs g _ p (λ xs hx. (refl, k xs))

-- the greater of a number and its negative, which is bound
absolute_gives : (env : List Value) (n : ℕ) (z : ℤ) → n ≡ length env →
    (path (code_max (two (code_var n) (code_neg (code_var n)))) (env ++ number z ∷ [])).gives ≡ got (number (absolute z) ∷ [])
absolute_gives env n z e = rw (value_at-end env (number z) n e) (ap (λ w. got (number w ∷ [])) (greater_is_absolute z))

-- one code alone, or a tuple, gives what the codes give
pub joined_gives : (c : CodeTree) (cs : CodeTrees) (env : List Value) →
    (path (joined_code (code_more c cs)) env).gives ≡ (all_path (code_more c cs) env []).gives
joined_gives c no_codes env = by (path c env).gives
  where
    by : (g : Got (List Value)) → g ≡ then_gives g (λ xs. got ([] ++ xs))
    by (got xs) = refl
    by (none_at n) = refl
joined_gives c (code_more d cs) env = refl

module _ (calls : ℕ → CodeTree) (solves : ChooseTree → CodeTree) (takes : ℕ → List Base → List Base → Type 0) (allows : ℕ → List Value → Outcome → Type 0)
    (calls_fine : (f : ℕ) (ps rs : List Base) → takes f ps rs → (xs : List Value) → HaveBases ps xs → Fine (allows f xs) rs (calls f) xs) where
  abbrev Solved : List ChooseTree → Type 0
  Solved qs = (q : ChooseTree) → Contains qs q → IsSolveOf q (solves q)

  choose_fine : (q : ChooseTree) (env : List Value) → HaveBases q.scope env → IsSolveOf q (solves q) →
      Fine (Chosen q.number (Sol q.outputs q.relation env)) q.outputs (solves q) env
  choose_fine q env h s =
      let chosen : Chosen q.number (Sol q.outputs q.relation env) (means (solves q) env) =
      rw s.code (solve_chosen q.number q.scope q.outputs q.relation (choose_arms q) s.solved.solves s.solved.typed env h) in
      (chosen, chosen_keeps q.number q.outputs q.relation env (means (solves q) env) chosen)

  call_means : (n : ℕ) (c : CodeTree) (env xs : List Value) → n ≡ length env → means (shifted n c) (env ++ xs) ≡ means c xs
  call_means n c env xs e = ap (λ k. means (shifted k c) (env ++ xs)) e ∙ shifted_means env xs c

  call_means_none : (n : ℕ) (c : CodeTree) (env : List Value) → n ≡ length env → means (shifted n c) env ≡ means c []
  call_means_none n c env e = ap (λ v. means (shifted n c) v) (sym (append-nil env)) ∙ call_means n c env [] e

  -- the values of arguments and then the called body
  call_fine : (f : ℕ) (es : ExprTrees) (ps rs : List Base) (env : List Value) (n : ℕ) → n ≡ length env → takes f ps rs →
      AllowedAll allows es env (outcome_of (all_path (codes_of_all calls solves n es) env []).gives) ×
      Keeps ps (outcome_of (all_path (codes_of_all calls solves n es) env []).gives) →
      Fine (AllowedThen (AllowedAll allows es env) (allows f)) rs (call_code n (codes_of_all calls solves n es) (shifted n (calls f))) env
  call_fine f no_exprs ps rs env n e t r =
      let b = calls_fine f ps rs t [] r.1 in
      rw (call_means_none n (calls f) env e) (goes_on [] refl b.0, b.1)
  call_fine f (expr_more a es) ps rs env n e t r =
      then_fine ps rs (path (joined_code (codes_of_all calls solves n (expr_more a es))) env).gives _
      (rw (joined_gives (code_of calls solves n a) (codes_of_all calls solves n es) env) r)
      (λ xs hx. rw (call_means n (calls f) env xs e) (calls_fine f ps rs t xs hx))

  mutual
    pub fine : (e : ExprTree) → IsPlain e → Solved (chooses_in e) → (scope bs : List Base) → ExprHasBases takes e scope bs → (env : List Value) →
        HaveBases scope env → (n : ℕ) → n ≡ length scope →
        Fine (AllowedIn allows e env) bs (code_of calls solves n e) env
    fine (expr_lit z) p s scope bs h env k n e = (refl, keeps_number bs z h.1)
    fine (expr_truth t) p s scope bs h env k n e = (refl, keeps_truth bs t h)
    fine (expr_var x) p s scope bs h env k n e =
        rw (value_means (value_at env x)) (refl, keeps_value bs h.0 (value_at env x) h.2 (value_has scope env x h.0 k h.1))
    fine (expr_set_of es) p s scope bs h env k n e =
        let r = set_fine es p s scope h.0 env k n e [] tt in (
          then_weaker _ r.0 (λ ys g. g ∙ ap (λ zs. values (elements zs ∷ [])) (put_all_is (map number_of ys))),
          keeps_same (Set ∷ []) bs _ (sym h.1) r.1,
        )
    fine (expr_tuple es) p s scope bs h env k n e = let r = all_fine es p s scope bs h.1 env k n e [] [] tt in (then_same (AllowedAll allows es env) _ r.0, r.1)
    fine (expr_neg a) p s scope bs h env k n e =
        unary_fine (Int ∷ []) bs (path (code_of calls solves n a) env).gives (fine a p s scope (Int ∷ []) h.0 env k n e) (λ xs. keeps_number bs _ h.1)
    fine (expr_not a) p s scope bs h env k n e =
        unary_fine (Truth ∷ []) bs (path (code_of calls solves n a) env).gives (fine a p s scope (Truth ∷ []) h.0 env k n e) (λ xs. keeps_truth bs _ h.1)
    fine (expr_abs a) p s scope bs h env k n e =
        then_fine (Int ∷ []) bs (path (code_of calls solves n a) env).gives _ (fine a p s scope (Int ∷ []) h.0 env k n e) (λ xs hx.
        let z = number_alone xs hx in
        rw (z.1, absolute_gives env n z.0 (e ∙ sym (length_have scope env k))) (refl, keeps_number bs (absolute z.0) h.1))
    fine (expr_binary op a b) p s scope bs h env k n e =
        let r =
        binary_fine (AllowedIn allows a env) (AllowedIn allows b env) (code_of calls solves n a) (code_of calls solves n b) env op
        (λ c. ExprHasBases takes a scope (c ∷ [])) (λ c. ExprHasBases takes b scope (c ∷ []))
        (λ c t. fine a (p.0.0, p.1.1) (λ q m. s q (Contains-append_left (chooses_in a) (chooses_in b) q m)) scope (c ∷ []) t env k n e)
        (λ c t. fine b (p.0.1, p.1.2) (λ q m. s q (Contains-append_right (chooses_in a) (chooses_in b) q m)) scope (c ∷ []) t env k n e) h.0 in
        (r.0, keeps_same (result_of op ∷ []) bs _ (sym h.1) r.1)
    fine (expr_chain orders es) p s scope bs h env k n e = absurd p.1
    fine (expr_min es) p s scope bs h env k n e = absurd p.1
    fine (expr_max es) p s scope bs h env k n e = absurd p.1
    fine (expr_divides m a) p s scope bs h env k n e =
        unary_fine (Int ∷ []) bs (path (code_of calls solves n a) env).gives (fine a p s scope (Int ∷ []) h.1 env k n e) (λ xs. keeps_truth bs _ h.2)
    fine (expr_div a m) p s scope bs h env k n e =
        unary_fine (Int ∷ []) bs (path (code_of calls solves n a) env).gives (fine a p s scope (Int ∷ []) h.1 env k n e) (λ xs. keeps_number bs _ h.2)
    fine (expr_mod a m) p s scope bs h env k n e =
        unary_fine (Int ∷ []) bs (path (code_of calls solves n a) env).gives (fine a p s scope (Int ∷ []) h.1 env k n e) (λ xs. keeps_number bs _ h.2)
    fine (expr_card a) p s scope bs h env k n e =
        unary_fine (Set ∷ []) bs (path (code_of calls solves n a) env).gives (fine a p s scope (Set ∷ []) h.0 env k n e) (λ xs. keeps_number bs _ h.1)
    fine (expr_if t a b) p s scope bs h env k n e =
        then_fine (Truth ∷ []) bs (path (code_of calls solves n t) env).gives _
        (fine t (p.0.0, p.1.0) (λ q m. s q
        (Contains-append_left (chooses_in t ++ chooses_in a) (chooses_in b) q (Contains-append_left (chooses_in t) (chooses_in a) q m)))
        scope (Truth ∷ []) h.0 env k n e) (λ xs hx.
        if_fine (truth_in xs) (AllowedIn allows a env) (AllowedIn allows b env) bs (path (code_of calls solves n a) env) (path (code_of calls solves n b) env)
        (fine a (p.0.1, p.1.1) (λ q m. s q (Contains-append_left (chooses_in t ++ chooses_in a) (chooses_in b) q
        (Contains-append_right (chooses_in t) (chooses_in a) q m)))
        scope bs h.1 env k n e)
        (fine b (p.0.2, p.1.2) (λ q m. s q (Contains-append_right (chooses_in t ++ chooses_in a) (chooses_in b) q m)) scope bs h.2 env k n e))
    fine (expr_call f es) p s scope bs h env k n e =
        call_fine f es h.0 bs env n (e ∙ sym (length_have scope env k)) h.1 (let r = all_fine es p s scope h.0 h.2 env k n e [] [] tt in
        (then_same (AllowedAll allows es env) _ r.0, r.1))
    fine (expr_let m a b) p s scope bs h env k n e =
        then_fine h.0 bs (path (code_of calls solves n a) env).gives _
        (fine a (p.0.0, p.1.0) (λ q c. s q (Contains-append_left (chooses_in a) (chooses_in b) q c)) scope h.0 h.1 env k n e) (λ xs hx.
        fine b (p.0.1, p.1.1) (λ q c. s q (Contains-append_right (chooses_in a) (chooses_in b) q c)) (scope ++ h.0) bs h.4 (env ++ xs)
        (have_append scope h.0 env xs k hx)
        (n + m) (omega (arith, e, h.2, length-append scope h.0)))
    fine (expr_choose m params outputs rel) p s scope bs h env k n e =
        let q : ChooseTree = record { number = m; names = names_of params; scope = bases_of params; outputs = outputs; relation = rel } in
        let r = choose_fine q env (rw h.0 k) (s q (0, omega arith, refl)) in
        (r.0, keeps_same outputs bs _ (sym h.5) r.1)
    fine (expr_choose_where m params outputs hidden given rel aim) p s scope bs h env k n e = absurd p.1
    fine (expr_match m params a arms) p s scope bs h env k n e = absurd p.0

    -- the values behind those that are done
    pub all_fine : (es : ExprTrees) → ArePlain es → Solved (chooses_in_all es) → (scope bs : List Base) → PartsHave takes es scope bs → (env : List Value) →
        HaveBases scope env → (n : ℕ) → n ≡ length scope →
        (ds : List Base) (done : List Value) → HaveBases ds done →
        AllowedThen (AllowedAll allows es env) (λ ys o. o ≡ values (done ++ ys)) (outcome_of (all_path (codes_of_all calls solves n es) env done).gives)
        × Keeps (ds ++ bs) (outcome_of (all_path (codes_of_all calls solves n es) env done).gives)
    all_fine no_exprs p s scope bs h env k n e ds done d = (goes_on [] refl (ap values (sym (append-nil done))), rw (h, append-nil ds) d)
    all_fine (expr_more a es) p s scope bs h env k n e ds done d =
        more_fine (h.0 ∷ []) (ds ++ bs) (path (code_of calls solves n a) env).gives _
        (fine a (p.0.0, p.1.0) (λ q c. s q (Contains-append_left (chooses_in a) (chooses_in_all es) q c)) scope (h.0 ∷ []) h.3 env k n e) (λ xs hx.
        let r = all_fine es (p.0.1, p.1.1) (λ q c. s q (Contains-append_right (chooses_in a) (chooses_in_all es) q c)) scope h.1 h.4 env k n e (ds ++ h.0 ∷ [])
        (done ++ xs)
        (have_append ds (h.0 ∷ []) done xs d hx) in (
          then_weaker _ r.0 (λ ys g. g ∙ ap values (append_assoc done xs ys)),
          keeps_same (ds ++ h.0 ∷ [] ++ h.1) (ds ++ bs) _ (append_assoc ds (h.0 ∷ []) h.1 ∙ ap (λ cs. ds ++ cs) (sym h.2)) r.1,
        ))

    -- the numbers put into those that are done
    set_fine : (es : ExprTrees) → ArePlain es → Solved (chooses_in_all es) → (scope : List Base) → AllHave takes es scope Int → (env : List Value) →
        HaveBases scope env → (n : ℕ) → n ≡ length scope →
        (done : List ℤ) → IsRising done →
        AllowedThen (AllowedAll allows es env) (λ ys. Gives (elements (put_all (map number_of ys) done)))
        (outcome_of (set_path (codes_of_all calls solves n es) env done).gives)
        × Keeps (Set ∷ []) (outcome_of (set_path (codes_of_all calls solves n es) env done).gives)
    set_fine no_exprs p s scope h env k n e done d = (goes_on [] refl refl, ((done, refl, d), tt))
    set_fine (expr_more a es) p s scope h env k n e done d =
        more_fine (Int ∷ []) (Set ∷ []) (path (code_of calls solves n a) env).gives _
        (fine a (p.0.0, p.1.0) (λ q c. s q (Contains-append_left (chooses_in a) (chooses_in_all es) q c)) scope (Int ∷ []) h.0 env k n e) (λ xs hx.
        let z = number_alone xs hx in
        rw z.1 (set_fine es (p.0.1, p.1.1) (λ q c. s q (Contains-append_right (chooses_in a) (chooses_in_all es) q c)) scope h.1 env k n e (set_put z.0 done)
        (rising_put z.0 done d)))
