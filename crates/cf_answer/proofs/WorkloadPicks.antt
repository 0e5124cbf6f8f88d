-- What the program of a workload picks: the sum of quotients and remainders, at each of its inputs.
use Rattle.std.proofs.Common.{inl, inr, ◌≡◌, ℕ, zero, suc, ◌+◌, ◌-◌, ◌*◌, ◌^◌, ◌<◌, ◌≤◌, ℤ, pos, ◌+ℤ◌, ◌-ℤ◌, ◌*ℤ◌, ◌≤ℤ◌, ◌<ℤ◌, Bool, true, false, List, [], ◌∷◌, ◌++◌, length, map, reverse, get_or, All, Option, Some, None, refl, sym, ap, ap₂, ◌∙◌, subst, arith, ◌&&◌}
use Rattle.std.specs.Prelude.{◌==◌, unsigned_abs, nat_le, max, if◌then◌else◌}
use Rattle.std.specs.List.{list_all, range_with_len}
use Rattle.std.proofs.Math.Nat.{mul-le-mul_right}
use Rattle.std.proofs.lemmas.Bool.{eq-eqb, eqb-true, cases_lt}
use Rattle.std.proofs.lemmas.Bool.Decides.{nat_tests}
use Rattle.std.proofs.lemmas.Int.{ints}
use Rattle.std.proofs.lemmas.List.{reverse-append, get_or-reverse, length-reverse, map-append}
use Rattle.std.proofs.lemmas.List.Elements.{All-head, All-tail}
use Rattle.std.proofs.lemmas.List.Sorted.{IsPermutation-reverse, All-permutation}
use Rattle.cf_num.specs.Divisors.{gcd_by, factors_by}
use Rattle.cf_num.specs.Limit.{limit}
use Rattle.cf_num.specs.Parts.{parts_of}
use Rattle.cf_tree.specs.declared.base.Base.TheVariants.{Int}
use Rattle.cf_tree.specs.declared.raw.BinOp.TheVariants.{Add}
use Rattle.cf_tree.specs.CodeTree.{code_solve, arms_of}
use Rattle.cf_tree.specs.DefView.{DefTree}
use Rattle.cf_tree.specs.ExprTree.{ExprTree, expr_var, expr_binary}
use Rattle.cf_tree.specs.Meaning.{means, peak}
use Rattle.cf_tree.specs.Numbers.{quotient, remainder}
use Rattle.cf_tree.specs.Relation.{Sol, IsTyped, IsLinear}
use Rattle.cf_tree.specs.Typing.{one}
use Rattle.cf_tree.specs.Values.{Value, number, Outcome, values, no_solution, HaveBases}
use Rattle.cf_tree.proofs.SetLemmas.{on_bool}
use Rattle.cf_linear.specs.declared.refusal.Refusal.{Refusal}
use Rattle.cf_linear.specs.Steps.{clean, mix, factors_of, merge, merge_passes, merge_factor, last, pick, searched, dropped, searched_by, bound, bound_passes, bound_factor}
use Rattle.cf_linear.specs.Stages.{run, run_for, clean_stage, equation_stage, bound_stage, unknown_stage, row_stage, stage}
use Rattle.cf_linear.specs.Cases.{disjuncts, case_count, system_of_case, first_systems, write_atom, written_passes}
use Rattle.cf_linear.specs.Arm.{arm}
use Rattle.cf_linear.specs.Chooses.{arms, first_refused, refusal_by, limit as first_limit, growth, growth_of_case}
use Rattle.cf_linear.specs.Layout.{layout_of}
use Rattle.cf_cases.proofs.GuardLaws.{quotient-is, quotient_from_rows, rows_from_quotient}
use Rattle.cf_choose.specs.Laws.{IsUnrefused}
use Rattle.cf_choose.specs.Solved.{IsOutput}
use Rattle.cf_choose.proofs.DefinedArms.{unrefused_solve, unrefused_typed}
use Rattle.cf_growth.specs.Overflowing.{NearChosen, then_picked, picked_choose, picked_in, picked_call, picked}
use Rattle.cf_growth.specs.Reaching.{parameters_size}
use Rattle.cf_growth.proofs.FineLaws.{chooses_are_fine}
use Rattle.cf_growth.proofs.NormLaws.{quotient_bound}
use Rattle.cf_program.specs.Lowered.{lowered}
use Rattle.cf_build.specs.Runs.{lowered_bodies}
use Rattle.cf_gen.specs.Workload.{total, function_gives}
use Rattle.cf_answer.proofs.WorkloadShapes.{function_rel, IsFunction, AreFunctions, call_of, calls_of, IsWorkload}
use Rattle.std.proofs.lemmas.List.Elements.{All-nil, All-cons}

-- ---- the choose of a function
apart : (a x r c : ℤ) → a ≡ x +ℤ r → pos 0 ≤ℤ r → r <ℤ c → (pos 0 ≤ℤ (a -ℤ x)) × (pos 0 ≤ℤ (x +ℤ (c -ℤ pos 1) -ℤ a)) × (r ≡ a -ℤ x)
apart a x r c e l h = (omega (arith, ints), omega (arith, ints), omega (arith, ints))

back : (a x c : ℤ) → (pos 0 ≤ℤ (a -ℤ x)) × (pos 0 ≤ℤ (x +ℤ (c -ℤ pos 1) -ℤ a)) → (a ≡ x +ℤ (a -ℤ x)) × (pos 0 ≤ℤ (a -ℤ x)) × ((a -ℤ x) <ℤ c)
back a x c h = let l = h.0 in let k = h.1 in (omega (arith, ints), omega (arith, ints), omega (arith, ints))

positive : (c : ℕ) → 1 ≤ c → pos 1 ≤ℤ pos c
positive c h = omega (arith, ints)

module _ (a : ℤ) (c : ℕ) (some : 1 ≤ c) where
  abbrev pub here : List Value
  here = number a ∷ []

  abbrev pub found : List Value
  found = number (quotient a (pos c)) ∷ number (remainder a (pos c)) ∷ []

  -- the quotient and the remainder solve it
  solves : Sol (Int ∷ Int ∷ []) (function_rel c) here found
  solves =
      let b = back a (pos c *ℤ quotient a (pos c)) (pos c) (rows_from_quotient a (pos c) (quotient a (pos c)) (positive c some) refl) in
      (((quotient a (pos c), refl), ((remainder a (pos c), refl), tt)), ((b.0, b.1), b.2))

  -- and no other numbers do
  only_numbers : (q r : ℤ) → a ≡ pos c *ℤ q +ℤ r → pos 0 ≤ℤ r → r <ℤ pos c → (q ≡ quotient a (pos c)) × (r ≡ remainder a (pos c))
  only_numbers q r e l h =
      let p = apart a (pos c *ℤ q) r (pos c) e l h in
      let s = quotient_from_rows a (pos c) q (positive c some) p.0 p.1 in
      (s, p.2 ∙ ap (λ x. a -ℤ pos c *ℤ x) s)

  two_numbers : (xs : List Value) → HaveBases (Int ∷ Int ∷ []) xs → (q : ℤ) × (r : ℤ) × (xs ≡ number q ∷ number r ∷ [])
  two_numbers [] h = absurd h
  two_numbers (x ∷ []) h = absurd h.1
  two_numbers (x ∷ y ∷ []) h = (h.0.0, h.1.0.0, ap₂ (λ v w. v ∷ w ∷ []) h.0.1 h.1.0.1)
  two_numbers (x ∷ y ∷ z ∷ xs) h = absurd h.1.1

  same_values : (q r : ℤ) → Sol (Int ∷ Int ∷ []) (function_rel c) here (number q ∷ number r ∷ []) → number q ∷ number r ∷ [] ≡ found
  same_values q r s = let k = only_numbers q r s.1.0.0 s.1.0.1 s.1.1 in ap₂ (λ x y. number x ∷ number y ∷ []) k.0 k.1

  solution : (xs : List Value) → Sol (Int ∷ Int ∷ []) (function_rel c) here xs → xs ≡ found
  solution xs s =
      let t = two_numbers xs s.0 in
      t.2 ∙ same_values t.0 t.1 (subst (Sol (Int ∷ Int ∷ []) (function_rel c) here) t.2 s)

  found_only : (n : ℕ) (o : Outcome) → NearChosen n (one Int) (Int ∷ Int ∷ []) (function_rel c) here o → o ≡ values found
  found_only n (values xs) s = ap (λ vs. values vs) (solution xs s.0)
  found_only n (no_solution m) s = absurd (s.1 found solves)

-- ---- the elimination by each coefficient from 2 to 99
abbrev is_free : Option Refusal → Bool
is_free None = true
is_free (Some r) = false

abbrev is_fine : ℕ → Bool
is_fine c = is_free (first_limit (one Int) (Int ∷ Int ∷ []) (function_rel c)) && nat_le (growth (one Int) (Int ∷ Int ∷ []) (function_rel c)) 20000

all_fine : list_all is_fine (range_with_len 2 98) ≡ true
unfolding arms arm first_systems disjuncts system_of_case write_atom run run_for stage clean_stage equation_stage bound_stage unknown_stage row_stage clean mix
    factors_of merge merge_passes merge_factor last pick searched dropped searched_by bound bound_passes bound_factor gcd_by factors_by parts_of first_limit
    refusal_by case_count written_passes first_refused growth growth_of_case
all_fine = refl

both_true : (x y : Bool) → (x && y) ≡ true → (x ≡ true) × (y ≡ true)
both_true true y h = (refl, h)
both_true false y h = absurd (cc)

each_fine : (k n : ℕ) → list_all is_fine (range_with_len k n) ≡ true → (c : ℕ) → k ≤ c → c < k + n → is_fine c ≡ true
each_fine k zero h c l u = absurd (omega arith)
each_fine k (suc n) h c l u =
    let b = both_true (is_fine k) (list_all is_fine (range_with_len (k + 1) n)) h in
    on_bool (k == c)
    (λ t. subst (λ i. is_fine i ≡ true) (eqb-true k c t) b.0)
    (λ t. each_fine (k + 1) n b.1 c (past k c l t) (omega arith))
  where
    past : (k c : ℕ) → k ≤ c → (k == c) ≡ false → k + 1 ≤ c
    past k c l t = grind (arith, nat_tests)

none_free : (o : Option Refusal) → is_free o ≡ true → o ≡ None
none_free None h = refl
none_free (Some r) h = absurd (cc)

at_most : (n m : ℕ) → nat_le n m ≡ true → n ≤ m
at_most n m h = grind (arith, nat_tests)

is_at_most : (n m : ℕ) → n ≤ m → nat_le n m ≡ true
is_at_most n m h = grind (arith, nat_tests)

abbrev pub IsCoefficient : ℕ → Type 0
IsCoefficient c = (2 ≤ c) × (c ≤ 99)

abbrev pub pair : ExprTree
pair = expr_binary Add (expr_var 1) (expr_var 2)

-- it passes no limit
pub coefficient_within : (c : ℕ) → IsCoefficient c → first_limit (one Int) (Int ∷ Int ∷ []) (function_rel c) ≡ None
coefficient_within c is =
    let l = is.0 in
    let h = is.1 in
    none_free (first_limit (one Int) (Int ∷ Int ∷ []) (function_rel c))
    (both_true (is_free (first_limit (one Int) (Int ∷ Int ∷ []) (function_rel c))) (nat_le (growth (one Int) (Int ∷ Int ∷ []) (function_rel c)) 20000)
    (each_fine 2 98 all_fine c l (omega arith))).0

-- a product of a growth and a size
product_small : (g m k : ℕ) → g ≤ 20000 → k ≤ 16385 → m ≤ g * k → m ≤ limit
product_small g m k h l e = let s = mul-le-mul_right k h in omega arith

module _ (a : ℤ) (near : unsigned_abs a ≤ 16384) (c : ℕ) (is : IsCoefficient c) where
  some : 1 ≤ c
  some = let l = is.0 in omega arith

  fine : is_fine c ≡ true
  fine = let l = is.0 in let h = is.1 in each_fine 2 98 all_fine c l (omega arith)

  parts : (is_free (first_limit (one Int) (Int ∷ Int ∷ []) (function_rel c)) ≡ true) × (nat_le (growth (one Int) (Int ∷ Int ∷ []) (function_rel c)) 20000
      ≡ true)
  parts = both_true (is_free (first_limit (one Int) (Int ∷ Int ∷ []) (function_rel c))) (nat_le (growth (one Int) (Int ∷ Int ∷ []) (function_rel c)) 20000) fine

  typed : IsTyped (one Int ++ Int ∷ Int ∷ []) (function_rel c)
  typed =
      let within : c ≤ 2 ^ 127 - 1 = let h = is.1 in omega arith in
      (((refl, ((within, refl), refl)), (omega arith, refl)), (refl, within))

  linear : IsLinear (function_rel c)
  linear = (((tt, ((tt, tt, refl), tt)), (tt, tt)), (tt, tt))

  unrefused : IsUnrefused (one Int) (Int ∷ Int ∷ []) (function_rel c)
  unrefused = record {
    typed = typed;
    linear = linear;
    are_outputs = All-cons IsOutput Int (Int ∷ []) tt (All-cons IsOutput Int [] tt (All-nil IsOutput));
    within = coefficient_within c is;
  }

  size_is : parameters_size (layout_of (one Int) (Int ∷ Int ∷ []) (function_rel c)) (here a c some) ≡ max (unsigned_abs a) 0
  size_is = refl

  -- the choose
  choose_picks : (n : ℕ) → picked_choose n (one Int) (Int ∷ Int ∷ []) (function_rel c) (here a c some) ≡ Some (values (found a c some))
  choose_picks n =
      let arms_ = arms_of (arms (one Int) (Int ∷ Int ∷ []) (function_rel c)) in
      let f = chooses_are_fine n (one Int) (Int ∷ Int ∷ []) (function_rel c) typed linear unrefused.within
      (unrefused_solve (one Int) (Int ∷ Int ∷ []) (function_rel c) unrefused).1
      (unrefused_typed (one Int) (Int ∷ Int ∷ []) (function_rel c) unrefused) (here a c some) ((a, refl), tt) in
      let m : peak (code_solve n arms_) (here a c some) ≤ limit =
      product_small (growth (one Int) (Int ∷ Int ∷ []) (function_rel c)) (peak (code_solve n arms_) (here a c some)) (1 + max (unsigned_abs a) 0)
      (at_most (growth (one Int) (Int ∷ Int ∷ []) (function_rel c)) 20000 parts.1) (omega arith) f.0 in
      let t = is_at_most (peak (code_solve n arms_) (here a c some)) limit m in
      subst (λ b. (if b then Some (means (code_solve n arms_) (here a c some)) else None) ≡ Some (values (found a c some))) (sym t)
      (ap (λ o. Some o) (found_only a c some n (means (code_solve n arms_) (here a c some)) f.1))

  quotient_near : unsigned_abs (quotient a (pos c)) ≤ 16384
  quotient_near =
      subst (λ z. unsigned_abs z ≤ 16384) (sym (quotient-is a (pos c) (positive c some)))
      (let b = quotient_bound a (pos c) in omega arith)

  remainder_near : (pos 0 ≤ℤ remainder a (pos c)) × (remainder a (pos c) <ℤ pos c)
  remainder_near =
      let b = back a (pos c *ℤ quotient a (pos c)) (pos c) (rows_from_quotient a (pos c) (quotient a (pos c)) (positive c some) refl) in (b.1, b.2)

  gives_near : unsigned_abs (function_gives a c) ≤ 16483
  gives_near = let q = quotient_near in let l = remainder_near.0 in let r = remainder_near.1 in let h = is.1 in omega (arith, ints)

  pair_picks : (calls : ℕ → List Value → Option Outcome) → picked_in calls pair (number a ∷ found a c some) ≡ Some (values (number (function_gives a c) ∷ []))
  pair_picks calls =
      let s = gives_near in
      subst (λ b. (if b then Some (values (number (function_gives a c) ∷ [])) else None) ≡ Some (values (number (function_gives a c) ∷ [])))
      (sym (is_at_most (unsigned_abs (function_gives a c)) limit (omega arith))) refl

  -- a function
  function_picks : (calls : ℕ → List Value → Option Outcome) (body : ExprTree) → IsFunction c body → picked_in calls body (number a ∷ [])
      ≡ Some (values (number (function_gives a c) ∷ []))
  function_picks calls body shape =
      ap (λ e. picked_in calls e (number a ∷ [])) shape.3
      ∙ ap (λ bs. then_picked (picked_choose shape.0 bs (Int ∷ Int ∷ []) (function_rel c) (number a ∷ [])) (λ xs. picked_in calls pair (number a ∷ xs))) shape.2
      ∙ ap (λ o. then_picked o (λ xs. picked_in calls pair (number a ∷ xs))) (choose_picks shape.0)
      ∙ pair_picks calls

-- ---- calls
-- the sum of what functions 0 to m give
abbrev sum_to : (ℕ → ℤ) → ℕ → ℤ
sum_to g zero = g 0
sum_to g (suc m) = sum_to g m +ℤ g (suc m)

module _ (a : ℤ) (calls : ℕ → List Value → Option Outcome) (g : ℕ → ℤ) where
  abbrev Gives : ℕ → Type 0
  Gives i = calls i (number a ∷ []) ≡ Some (values (number (g i) ∷ []))

  call_picks : (i : ℕ) → Gives i → picked_in calls (call_of i) (number a ∷ []) ≡ Some (values (number (g i) ∷ []))
  call_picks i h = h

  sum_near : (m : ℕ) → ((i : ℕ) → i ≤ m → unsigned_abs (g i) ≤ 16483) → unsigned_abs (sum_to g m) ≤ 16483 * (m + 1)
  sum_near zero h = let k = h 0 (omega arith) in omega arith
  sum_near (suc m) h =
      let k = sum_near m (λ i l. h i (omega arith)) in
      let n = h (suc m) (omega arith) in
      omega (arith, ints)

  sum_picks : (e f : ExprTree) (x y : ℤ) → picked_in calls e (number a ∷ []) ≡ Some (values (number x ∷ [])) → picked_in calls f (number a ∷ [])
      ≡ Some (values (number y ∷ [])) →
      unsigned_abs (x +ℤ y) ≤ limit → picked_in calls (expr_binary Add e f) (number a ∷ []) ≡ Some (values (number (x +ℤ y) ∷ []))
  sum_picks e f x y h k l = rw (h, k, is_at_most (unsigned_abs (x +ℤ y)) limit l) refl

  calls_pick : (m : ℕ) → m ≤ 1000 → ((i : ℕ) → i ≤ m → Gives i) → ((i : ℕ) → i ≤ m → unsigned_abs (g i) ≤ 16483) →
      picked_in calls (calls_of m) (number a ∷ []) ≡ Some (values (number (sum_to g m) ∷ []))
  calls_pick zero low each near = call_picks 0 (each 0 (omega arith))
  calls_pick (suc m) low each near =
      let s = sum_near (suc m) near in
      sum_picks (calls_of m) (call_of (suc m)) (sum_to g m) (g (suc m)) (calls_pick m (omega arith) (λ i l. each i (omega arith)) (λ i l. near i (omega arith)))
      (call_picks (suc m) (each (suc m) (omega arith))) (omega arith)

-- ---- functions that stand last first
pub same_length : (cs : List ℕ) (es : List ExprTree) → AreFunctions cs es → length es ≡ length cs
same_length [] [] h = refl
same_length [] (e ∷ es) h = absurd h
same_length (c ∷ cs) [] h = absurd h
same_length (c ∷ cs) (e ∷ es) h = ap suc (same_length cs es h.1)

pub later_value : (k : ℕ) (ks : List ℕ) (i : ℕ) → i < length ks → get_or (k ∷ ks) (length (k ∷ ks) - 1 - i) 0 ≡ get_or ks (length ks - 1 - i) 0
later_value k ks i l = let s : length (k ∷ ks) - 1 - i ≡ suc (length ks - 1 - i) = omega arith in ap (λ j. get_or (k ∷ ks) j 0) s

pub first_value : (k : ℕ) (ks : List ℕ) (i : ℕ) → i ≡ length ks → get_or (k ∷ ks) (length (k ∷ ks) - 1 - i) 0 ≡ k
first_value k ks i e = let s : length (k ∷ ks) - 1 - i ≡ 0 = omega arith in ap (λ j. get_or (k ∷ ks) j 0) s

pub below : (i n m : ℕ) → i < suc n → m ≡ n → (i == m) ≡ false → i < n
below i n m l e t = elim (cases_lt i n) [
  | inl k ↦ k
  | inr k ↦ let s : i ≡ m = omega arith in let u : (i == m) ≡ true = eq-eqb i m s in absurd (cc)
]

called_picks : (a : ℤ) → unsigned_abs a ≤ 16384 → (ks : List ℕ) (ds : List ExprTree) → All IsCoefficient ks → AreFunctions ks ds → (i : ℕ) → i < length ks →
    picked_call ds i (number a ∷ []) ≡ Some (values (number (function_gives a (get_or ks (length ks - 1 - i) 0)) ∷ []))
called_picks a near [] ds some are i l = absurd (omega arith)
called_picks a near (k ∷ ks) [] some are i l = absurd are
called_picks a near (k ∷ ks) (d ∷ ds) some are i l =
    let n = same_length ks ds are.1 in
    on_bool (i == length ds)
    (λ t.
    let e = eqb-true i (length ds) t in
    rw t (function_picks a near k (All-head IsCoefficient k ks some) (picked_call ds) d are.0
    ∙ ap (λ c. Some (values (number (function_gives a c) ∷ []))) (sym (first_value k ks i (omega arith)))))
    (λ t.
    let under : i < length ks = below i (length ks) (length ds) l n t in
    rw t (called_picks a near ks ds (All-tail IsCoefficient k ks some) are.1 i under
    ∙ ap (λ c. Some (values (number (function_gives a c) ∷ []))) (sym (later_value k ks i under))))

coefficient_at : (cs : List ℕ) → All IsCoefficient cs → (i : ℕ) → i < length cs → IsCoefficient (get_or cs i 0)
coefficient_at cs some i l = some i 0 l

-- ---- the order of the functions
pub all_turned : (P : ℕ → Type 0) (ks : List ℕ) → All P ks → All P (reverse ks)
all_turned P ks k = All-permutation P ks (reverse ks) (IsPermutation-reverse ks) k

functions_append : (cs ks : List ℕ) (es ds : List ExprTree) → AreFunctions cs es → AreFunctions ks ds → AreFunctions (cs ++ ks) (es ++ ds)
functions_append [] ks [] ds h k = k
functions_append [] ks (e ∷ es) ds h k = absurd h
functions_append (c ∷ cs) ks [] ds h k = absurd h
functions_append (c ∷ cs) ks (e ∷ es) ds h k = (h.0, functions_append cs ks es ds h.1 k)

pub functions_turned : (cs : List ℕ) (es : List ExprTree) → AreFunctions cs es → AreFunctions (reverse cs) (reverse es)
functions_turned [] [] h = tt
functions_turned [] (e ∷ es) h = absurd h
functions_turned (c ∷ cs) [] h = absurd h
functions_turned (c ∷ cs) (e ∷ es) h =
    rw (reverse-append (c ∷ []) cs, reverse-append (e ∷ []) es) (functions_append (reverse cs) (c ∷ []) (reverse es) (e ∷ []) (functions_turned cs es h.1)
    (h.0, tt))

pub turned_value : (cs : List ℕ) (i : ℕ) → i < length cs → get_or (reverse cs) (length (reverse cs) - 1 - i) 0 ≡ get_or cs i 0
turned_value cs i l =
    let n = length-reverse cs in
    let k : length (reverse cs) - 1 - i < length cs = omega arith in
    let s : length cs - 1 - (length (reverse cs) - 1 - i) ≡ i = omega arith in
    get_or-reverse cs (length (reverse cs) - 1 - i) 0 k ∙ ap (λ j. get_or cs j 0) s

-- ---- the sum
regroup : (x y z w : ℤ) → x ≡ y +ℤ z → x +ℤ w ≡ y +ℤ (z +ℤ w)
regroup x y z w e = omega (arith, ints)

sum_first : (g : ℕ → ℤ) (m : ℕ) → sum_to g (suc m) ≡ g 0 +ℤ sum_to (λ i. g (suc i)) m
sum_first g zero = refl
sum_first g (suc m) = regroup (sum_to g (suc m)) (g 0) (sum_to (λ i. g (suc i)) m) (g (suc (suc m))) (sum_first g m)

pub sum_is_total : (f : ℕ → ℤ) (c : ℕ) (cs : List ℕ) → sum_to (λ i. f (get_or (c ∷ cs) i 0)) (length cs) ≡ total (map f (c ∷ cs))
sum_is_total f c [] = omega (arith, ints)
sum_is_total f c (d ∷ cs) = sum_first (λ i. f (get_or (c ∷ d ∷ cs) i 0)) (length cs) ∙ ap (λ z. f c +ℤ z) (sum_is_total f d cs)

-- ---- lowered bodies
function_lowered : (c : ℕ) (e : ExprTree) → IsFunction c e → lowered e ≡ e
function_lowered c e is = ap lowered is.3 ∙ sym is.3

functions_lowered : (cs : List ℕ) (es : List ExprTree) → AreFunctions cs es → map lowered es ≡ es
functions_lowered [] [] h = refl
functions_lowered [] (e ∷ es) h = absurd h
functions_lowered (c ∷ cs) [] h = absurd h
functions_lowered (c ∷ cs) (e ∷ es) h = ap₂ (λ x xs. x ∷ xs) (function_lowered c e h.0) (functions_lowered cs es h.1)

calls_lowered : (m : ℕ) → lowered (calls_of m) ≡ calls_of m
calls_lowered zero = refl
calls_lowered (suc m) = ap (λ e. expr_binary Add e (call_of (suc m))) (calls_lowered m)

twice : (defs : List DefTree) → lowered_bodies defs ≡ map lowered (map (λ d. d.body) defs)
twice [] = refl
twice (d ∷ defs) = ap (λ es. lowered d.body ∷ es) (twice defs)

bodies_lowered : (cs : List ℕ) (bodies : List ExprTree) (main : ℕ) → IsWorkload cs bodies main → map lowered bodies ≡ bodies
bodies_lowered cs bodies main is =
    ap (map lowered) is.2 ∙ map-append lowered is.0 (calls_of (length cs - 1) ∷ [])
    ∙ ap₂ (λ xs x. xs ++ x ∷ []) (functions_lowered cs is.0 is.1) (calls_lowered (length cs - 1)) ∙ sym is.2

-- ---- main
module _ (c : ℕ) (cs : List ℕ) (bodies : List ExprTree) (main : ℕ) (a : ℤ) (near : unsigned_abs a ≤ 16384) (some : All IsCoefficient (c ∷ cs))
    (is : IsWorkload (c ∷ cs) bodies main)
    (few : length cs ≤ 1000) where
  abbrev earlier : ℕ → List Value → Option Outcome
  earlier = picked_call (reverse is.0)

  abbrev gives : ℕ → ℤ
  gives i = function_gives a (get_or (c ∷ cs) i 0)

  turned : reverse bodies ≡ calls_of (length cs) ∷ reverse is.0
  turned =
      let n : length (c ∷ cs) - 1 ≡ length cs = omega arith in
      ap reverse is.2 ∙ ap (λ m. reverse (is.0 ++ calls_of m ∷ [])) n ∙ reverse-append is.0 (calls_of (length cs) ∷ [])

  many : length (reverse is.0) ≡ main
  many = length-reverse is.0 ∙ same_length (c ∷ cs) is.0 is.1 ∙ sym is.3

  each : (i : ℕ) → i ≤ length cs → earlier i (number a ∷ []) ≡ Some (values (number (gives i) ∷ []))
  each i k =
      let n = length-reverse (c ∷ cs) in
      called_picks a near (reverse (c ∷ cs)) (reverse is.0) (all_turned IsCoefficient (c ∷ cs) some) (functions_turned (c ∷ cs) is.0 is.1) i (omega arith)
      ∙ ap (λ d. Some (values (number (function_gives a d) ∷ []))) (turned_value (c ∷ cs) i (omega arith))

  each_near : (i : ℕ) → i ≤ length cs → unsigned_abs (gives i) ≤ 16483
  each_near i k = gives_near a near (get_or (c ∷ cs) i 0) (coefficient_at (c ∷ cs) some i (omega arith))

  main_picks_sum : picked bodies main (number a ∷ []) ≡ Some (values (number (total (map (function_gives a) (c ∷ cs))) ∷ []))
  main_picks_sum =
      ap (λ es. picked_call es main (number a ∷ [])) turned
      ∙ ap (λ b. if b then picked_in earlier (calls_of (length cs)) (number a ∷ []) else earlier main (number a ∷ []))
      (eq-eqb main (length (reverse is.0)) (sym many))
      ∙ calls_pick a earlier gives (length cs) few each each_near
      ∙ ap (λ z. Some (values (number z ∷ []))) (sum_is_total (function_gives a) c cs)

pub workload_picks : (cs : List ℕ) (defs : List DefTree) (main : ℕ) (a : ℤ) → 1 ≤ length cs → length cs ≤ 1000 → unsigned_abs a ≤ 16384 → All IsCoefficient cs →
    IsWorkload cs (map (λ d. d.body) defs) main → picked (lowered_bodies defs) main (number a ∷ [])
    ≡ Some (values (number (total (map (function_gives a) cs)) ∷ []))
workload_picks [] defs main a l few near some is = absurd (omega arith)
workload_picks (c ∷ cs) defs main a l few near some is =
    ap (λ es. picked es main (number a ∷ [])) (twice defs ∙ bodies_lowered (c ∷ cs) (map (λ d. d.body) defs) main is)
    ∙ main_picks_sum c cs (map (λ d. d.body) defs) main a near some is (omega arith)
