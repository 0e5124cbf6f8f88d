-- What a source picks is on a near path, and where it is overflow, a near path may overflow.
use Rattle.std.proofs.Common.{◌≡◌, ℕ, ◌<◌, ◌≤◌, ◌==◌, pos, neg_ℤ, List, [], ◌∷◌, ◌++◌, ◌⊎◌, inl, inr, ⊎_elim, length, map, Bool, true, false, not, Option, Some, None, refl, sym, subst, arith}
use Rattle.std.specs.Prelude.{unsigned_abs, nat_le, MatchBool, reverse, if◌then◌else◌}
use Rattle.std.proofs.lemmas.Bool.{leb-false}
use Rattle.cf_num.specs.Limit.{limit}
use Rattle.cf_tree.specs.declared.raw.BinOp.{BinOp}
use Rattle.cf_tree.specs.declared.raw.BinOp.TheVariants.{Add, Sub, Mul, And, Or, Union, Inter, Diff, Subset, Implies, Compare}
use Rattle.cf_tree.specs.Allowed.{AllowedThen, goes_on, ends_at, Gives, AllowedRight, operation, Calling}
use Rattle.cf_tree.specs.Params.{bases_of}
use Rattle.cf_tree.specs.CodeTree.{code_solve, arms_of}
use Rattle.cf_tree.specs.ExprTree.{ExprTree, expr_lit, expr_truth, expr_var, expr_set_of, expr_tuple, expr_neg, expr_not, expr_abs, expr_binary, expr_chain, expr_min, expr_max, expr_divides, expr_div, expr_mod, expr_card, expr_if, expr_call, expr_let, expr_choose, expr_choose_where, expr_match, ExprTrees, no_exprs, expr_more}
use Rattle.cf_tree.specs.Meaning.{means, peak}
use Rattle.cf_tree.specs.Numbers.{quotient, remainder, is_multiple, absolute}
use Rattle.cf_tree.specs.Sets.{set_of}
use Rattle.cf_tree.specs.Values.{Value, number, truth, elements, Outcome, values, no_solution, number_of, truth_of, elements_of, value_at, first_of}
use Rattle.cf_linear.specs.Chooses.{arms}
use Rattle.cf_linear.proofs.BoolLemmas.{on_bool}
use Rattle.cf_growth.specs.Overflowing.{NearIn, NearAll, NearCall, Passes, RightPasses, Over, OverIn, OverAll, OverCall, then_picked, ordinary, picked_right, picked_in, picked_all, picked_call, IsFineIn, AreFineIn, IsFineCall, IsFinePick, PicksAreNear}

pub none_some : (o : Outcome) → None ≡ Some o → ⊥
none_some o e = cc

pub some_none : (o : Outcome) → Some o ≡ None → ⊥
some_none o e = cc

pub same_outcome : (o p : Outcome) → Some o ≡ Some p → p ≡ o
same_outcome o p e = cc

-- what is given at once
given : (o : Outcome) (N : Outcome → Type 0) (O : Type 0) → N o → IsFinePick (Some o) N O
given o N O h = record { overflows = λ e. absurd (some_none o e); picks = λ p e. subst N (sym (same_outcome o p e)) h }

-- one after another
then_near : (p : Option Outcome) (N : Outcome → Type 0) (O : Type 0) (go : List Value → Option Outcome) (M : List Value → Outcome → Type 0)
    (L : List Value → Type 0) → IsFinePick p N O →
    ((xs : List Value) → p ≡ Some (values xs) → IsFinePick (go xs) (M xs) (L xs)) →
    IsFinePick (then_picked p go) (AllowedThen N M) (O ⊎ ((xs : List Value) × N (values xs) × L xs))
then_near None N O go M L h k = record { overflows = λ e. inl (h.overflows refl); picks = λ o e. absurd (none_some o e) }
then_near (Some (values vs)) N O go M L h k =
    let g = k vs refl in
    let n = h.picks (values vs) refl in
    record { overflows = λ e. inr (vs, n, g.overflows e); picks = λ o e. goes_on vs n (g.picks o e) }
then_near (Some (no_solution n)) N O go M L h k =
    record { overflows = λ e. absurd (some_none (no_solution n) e); picks = λ o e. ends_at n (h.picks (no_solution n) refl) (same_outcome (no_solution n) o e) }

weaker : (p : Option Outcome) (N : Outcome → Type 0) (O L : Type 0) → (O → L) → IsFinePick p N O → IsFinePick p N L
weaker p N O L f h = record { overflows = λ e. f (h.overflows e); picks = h.picks }

-- where what follows never overflows
then_given : (p : Option Outcome) (N : Outcome → Type 0) (O : Type 0) (go : List Value → Outcome) (M : List Value → Outcome → Type 0) → IsFinePick p N O →
    ((xs : List Value) → p ≡ Some (values xs) → M xs (go xs)) → IsFinePick (then_picked p (λ xs. Some (go xs))) (AllowedThen N M) O
then_given p N O go M h k =
    weaker (then_picked p (λ xs. Some (go xs))) (AllowedThen N M) (O ⊎ ((xs : List Value) × N (values xs) × ⊥)) O (λ s. ⊎_elim (λ o. o) (λ q. absurd q.2) s)
    (then_near p N O (λ xs. Some (go xs)) M (λ _. ⊥) h (λ xs e. given (go xs) (M xs) ⊥ (k xs e)))

ordinary_near : (v : Value) → IsFinePick (ordinary v) (Gives v) (Passes v)
ordinary_near (number z) = on_bool (nat_le (unsigned_abs z) limit)
    (λ t. rw t (given (values (number z ∷ [])) (Gives (number z)) (Passes (number z)) refl))
    (λ t. rw t (record { overflows = λ e. leb-false (unsigned_abs z) limit t; picks = λ o e. absurd (none_some o e) }))
ordinary_near (truth b) = given (values (truth b ∷ [])) (Gives (truth b)) (Passes (truth b)) refl
ordinary_near (elements zs) = given (values (elements zs ∷ [])) (Gives (elements zs)) (Passes (elements zs)) refl

-- an operation's value
then_ordinary : (p : Option Outcome) (N : Outcome → Type 0) (O : Type 0) (f : List Value → Value) → IsFinePick p N O →
    IsFinePick (then_picked p (λ xs. ordinary (f xs))) (AllowedThen N (λ xs. Gives (f xs))) (O ⊎ ((xs : List Value) × N (values xs) × Passes (f xs)))
then_ordinary p N O f h = then_near p N O (λ xs. ordinary (f xs)) (λ xs. Gives (f xs)) (λ xs. Passes (f xs)) h (λ xs e. ordinary_near (f xs))

-- one of two
either : (b : Bool) (p q : Option Outcome) (N M : Outcome → Type 0) (O L : Type 0) → IsFinePick p N O → IsFinePick q M L →
    IsFinePick (if b then p else q) (λ o. MatchBool b (N o) (M o)) (MatchBool b O L)
either true p q N M O L h k = record { overflows = h.overflows; picks = h.picks }
either false p q N M O L h k = record { overflows = k.overflows; picks = k.picks }

module _ (v : Value) (p : Option Outcome) (N : Outcome → Type 0) (O : Type 0) (h : IsFinePick p N O) where
  strict : (op : BinOp) → IsFinePick (then_picked p (λ ys. ordinary (operation op v (first_of ys))))
      (AllowedThen N (λ ys. Gives (operation op v (first_of ys)))) (O ⊎ ((ys : List Value) × N (values ys) × Passes (operation op v (first_of ys))))
  strict op = then_ordinary p N O (λ ys. operation op v (first_of ys)) h

  right_near : (op : BinOp) → IsFinePick (picked_right op v p) (AllowedRight op v N) (RightPasses op v N O)
  right_near Add = strict Add
  right_near Sub = strict Sub
  right_near Mul = strict Mul
  right_near And = either (truth_of v) p (Some (values (truth false ∷ []))) N (Gives (truth false)) O ⊥ h
      (given (values (truth false ∷ [])) (Gives (truth false)) ⊥ refl)
  right_near Or = either (truth_of v) (Some (values (truth true ∷ []))) p (Gives (truth true)) N ⊥ O
      (given (values (truth true ∷ [])) (Gives (truth true)) ⊥ refl) h
  right_near Union = strict Union
  right_near Inter = strict Inter
  right_near Diff = strict Diff
  right_near Subset = strict Subset
  right_near Implies = either (truth_of v) p (Some (values (truth true ∷ []))) N (Gives (truth true)) O ⊥ h
      (given (values (truth true ∷ [])) (Gives (truth true)) ⊥ refl)
  right_near (Compare order) = strict (Compare order)

pub above : (a b c : ℕ) → a < b → b ≤ c → a < c
above a b c h k = omega arith

module _ (calls : ℕ → List Value → Option Outcome) (near : Calling) (over fine : Over)
    (each : (f : ℕ) (xs : List Value) → fine f xs → IsFinePick (calls f xs) (near f xs) (over f xs)) where
  mutual
    pick_near : (e : ExprTree) (env : List Value) → IsFineIn calls fine e env → IsFinePick (picked_in calls e env) (NearIn near e env) (OverIn near over e env)
    pick_near (expr_lit k) env h = given (values (number k ∷ [])) (Gives (number k)) ⊥ refl
    pick_near (expr_truth t) env h = given (values (truth t ∷ [])) (Gives (truth t)) ⊥ refl
    pick_near (expr_var x) env h = given (values (value_at env x ∷ [])) (Gives (value_at env x)) ⊥ refl
    pick_near (expr_set_of es) env h =
        then_given (picked_all calls es env) (NearAll near es env) (OverAll near over es env) (λ xs. values (elements (set_of (map number_of xs)) ∷ []))
        (λ xs. Gives (elements (set_of (map number_of xs)))) (picks_near es env h) (λ xs e. refl)
    pick_near (expr_tuple es) env h = picks_near es env h
    pick_near (expr_neg a) env h = then_ordinary (picked_in calls a env) (NearIn near a env) (OverIn near over a env)
        (λ xs. number (neg_ℤ (number_of (first_of xs)))) (pick_near a env h)
    pick_near (expr_not a) env h =
        then_given (picked_in calls a env) (NearIn near a env) (OverIn near over a env) (λ xs. values (truth (not (truth_of (first_of xs))) ∷ []))
        (λ xs. Gives (truth (not (truth_of (first_of xs))))) (pick_near a env h) (λ xs e. refl)
    pick_near (expr_abs a) env h = then_ordinary (picked_in calls a env) (NearIn near a env) (OverIn near over a env)
        (λ xs. number (absolute (number_of (first_of xs)))) (pick_near a env h)
    pick_near (expr_binary op a b) env h =
        then_near (picked_in calls a env) (NearIn near a env) (OverIn near over a env) (λ xs. picked_right op (first_of xs) (picked_in calls b env))
        (λ xs. AllowedRight op (first_of xs) (NearIn near b env))
        (λ xs. RightPasses op (first_of xs) (NearIn near b env) (OverIn near over b env)) (pick_near a env h.0)
        (λ xs e. right_near (first_of xs) (picked_in calls b env) (NearIn near b env) (OverIn near over b env) (pick_near b env h.1) op)
    pick_near (expr_chain orders es) env h = absurd h
    pick_near (expr_min es) env h = absurd h
    pick_near (expr_max es) env h = absurd h
    pick_near (expr_divides k a) env h =
        then_given (picked_in calls a env) (NearIn near a env) (OverIn near over a env) (λ xs. values (truth (is_multiple k (number_of (first_of xs))) ∷ []))
        (λ xs. Gives (truth (is_multiple k (number_of (first_of xs))))) (pick_near a env h) (λ xs e. refl)
    pick_near (expr_div a k) env h = then_ordinary (picked_in calls a env) (NearIn near a env) (OverIn near over a env)
        (λ xs. number (quotient (number_of (first_of xs)) k)) (pick_near a env h)
    pick_near (expr_mod a k) env h = then_ordinary (picked_in calls a env) (NearIn near a env) (OverIn near over a env)
        (λ xs. number (remainder (number_of (first_of xs)) k)) (pick_near a env h)
    pick_near (expr_card a) env h = then_ordinary (picked_in calls a env) (NearIn near a env) (OverIn near over a env)
        (λ xs. number (pos (length (elements_of (first_of xs))))) (pick_near a env h)
    pick_near (expr_if t a b) env h =
        then_near (picked_in calls t env) (NearIn near t env) (OverIn near over t env)
        (λ xs. if truth_of (first_of xs) then picked_in calls a env else picked_in calls b env)
        (λ xs p. MatchBool (truth_of (first_of xs)) (NearIn near a env p) (NearIn near b env p))
        (λ xs. MatchBool (truth_of (first_of xs)) (OverIn near over a env) (OverIn near over b env)) (pick_near t env h.0)
        (λ xs e. either (truth_of (first_of xs)) (picked_in calls a env) (picked_in calls b env) (NearIn near a env) (NearIn near b env)
        (OverIn near over a env) (OverIn near over b env) (pick_near a env h.1) (pick_near b env h.2))
    pick_near (expr_call f es) env h =
        then_near (picked_all calls es env) (NearAll near es env) (OverAll near over es env) (calls f) (near f) (over f) (picks_near es env h.0)
        (λ xs e. each f xs (h.1 xs e))
    pick_near (expr_let n a b) env h =
        then_near (picked_in calls a env) (NearIn near a env) (OverIn near over a env) (λ xs. picked_in calls b (env ++ xs)) (λ xs. NearIn near b (env ++ xs))
        (λ xs. OverIn near over b (env ++ xs)) (pick_near a env h.0)
        (λ xs e. pick_near b (env ++ xs) (h.1 xs e))
    pick_near (expr_choose n scope outputs rel) env h =
        let code = code_solve n (arms_of (arms (bases_of scope) outputs rel)) in
        on_bool (nat_le (peak code env) limit)
        (λ t. rw t (given (means code env) (NearIn near (expr_choose n scope outputs rel) env) (OverIn near over (expr_choose n scope outputs rel) env) h.1))
        (λ t. rw t (record { overflows = λ e. above limit (peak code env) _ (leb-false (peak code env) limit t) h.0; picks = λ o e. absurd (none_some o e) }))
    pick_near (expr_choose_where n scope outputs hidden given rel aim) env h = absurd h
    pick_near (expr_match n scope a arms) env h = absurd h

    picks_near : (es : ExprTrees) (env : List Value) → AreFineIn calls fine es env →
        IsFinePick (picked_all calls es env) (NearAll near es env) (OverAll near over es env)
    picks_near no_exprs env h = given (values []) (λ o. o ≡ values []) ⊥ refl
    picks_near (expr_more e es) env h =
        then_near (picked_in calls e env) (NearIn near e env) (OverIn near over e env)
        (λ xs. then_picked (picked_all calls es env) (λ ys. Some (values (xs ++ ys))))
        (λ xs. AllowedThen (NearAll near es env) (λ ys p. p ≡ values (xs ++ ys))) (λ xs. OverAll near over es env) (pick_near e env h.0)
        (λ xs q. then_given (picked_all calls es env) (NearAll near es env) (OverAll near over es env) (λ ys. values (xs ++ ys)) (λ ys p. p ≡ values (xs ++ ys))
        (picks_near es env h.1) (λ ys r. refl))

call_near : (bodies : List ExprTree) (f : ℕ) (xs : List Value) → IsFineCall bodies f xs →
    IsFinePick (picked_call bodies f xs) (NearCall bodies f xs) (OverCall bodies f xs)
call_near [] f xs h = absurd h
call_near (body ∷ earlier) f xs h = by (f == length earlier)
    (λ k. pick_near (picked_call earlier) (NearCall earlier) (OverCall earlier) (IsFineCall earlier) (call_near earlier) body xs k) (call_near earlier f xs) h
  where
    by : (b : Bool) →
        (IsFineIn (picked_call earlier) (IsFineCall earlier) body xs →
        IsFinePick (picked_in (picked_call earlier) body xs) (NearIn (NearCall earlier) body xs) (OverIn (NearCall earlier) (OverCall earlier) body xs)) →
        (IsFineCall earlier f xs → IsFinePick (picked_call earlier f xs) (NearCall earlier f xs) (OverCall earlier f xs)) →
        MatchBool b (IsFineIn (picked_call earlier) (IsFineCall earlier) body xs) (IsFineCall earlier f xs) →
        IsFinePick (if b then picked_in (picked_call earlier) body xs else picked_call earlier f xs)
        (λ o. MatchBool b (NearIn (NearCall earlier) body xs o) (NearCall earlier f xs o))
        (MatchBool b (OverIn (NearCall earlier) (OverCall earlier) body xs) (OverCall earlier f xs))
    by true p q h = let r = p h in record { overflows = r.overflows; picks = r.picks }
    by false p q h = let r = q h in record { overflows = r.overflows; picks = r.picks }

pub picks_are_near : PicksAreNear
picks_are_near bodies main env h = call_near (reverse bodies) main env h
