-- Where nothing is chosen, one outcome is allowed, which is values.
use Rattle.std.specs.Prelude.{ℕ, ◌≡◌, Bool, true, false, ◌==◌, List, [], ◌∷◌, ◌++◌, length, reverse, MatchBool}
use Rattle.std.proofs.Common.{refl, subst}
use Rattle.cf_tree.specs.declared.raw.BinOp.{BinOp}
use Rattle.cf_tree.specs.declared.raw.BinOp.TheVariants.{Add, Sub, Mul, And, Or, Union, Inter, Diff, Subset, Implies, Compare}
use Rattle.cf_tree.specs.Allowed.{AllowedThen, goes_on, ends_at, AllowedRight, Choosing, Calling, AllowedBy, AllAllowedBy, CallAllowedBy, AllChosen}
use Rattle.cf_tree.specs.ExprTree.{ExprTree, expr_lit, expr_truth, expr_var, expr_set_of, expr_tuple, expr_neg, expr_not, expr_abs, expr_binary, expr_chain, expr_min, expr_max, expr_divides, expr_div, expr_mod, expr_card, expr_if, expr_call, expr_let, expr_choose, expr_choose_where, expr_match, ExprTrees, no_exprs, expr_more}
use Rattle.cf_tree.specs.OneOutcome.{AllowsOnly, AllowsOne, ChoosesNothingBy, ChooseNothingBy, CallChoosesNothing, ChoosesNothingAllowsOne}
use Rattle.cf_tree.specs.Values.{Value, Outcome, values, no_solution, first_of, truth_of}

then_same : {first : Outcome → Type 0} {go : List Value → Outcome → Type 0} (vs ws : List Value) → AllowsOnly first vs → AllowsOnly (go vs) ws
    → (o : Outcome) → AllowedThen first go o → o ≡ values ws
then_same {first} {go} vs ws p q o (goes_on us e s) =
    let found : values us ≡ values vs = p.1 (values us) e in
    let same : us ≡ vs = cc in
    q.1 o (subst (λ k. go k o) same s)
then_same {first} {go} vs ws p q o (ends_at n e h) = let found : no_solution n ≡ values vs = p.1 (no_solution n) e in cc

pub then_only : {first : Outcome → Type 0} {go : List Value → Outcome → Type 0} (vs ws : List Value) → AllowsOnly first vs → AllowsOnly (go vs) ws
    → AllowsOnly (AllowedThen first go) ws
then_only {first} {go} vs ws p q = (goes_on vs p.0 q.0, λ o s. then_same {first = first} {go = go} vs ws p q o s)

then_one : {first : Outcome → Type 0} {go : List Value → Outcome → Type 0} → AllowsOne first → ((vs : List Value) → AllowsOne (go vs))
    → AllowsOne (AllowedThen first go)
then_one {first} {go} p q = ((q p.0).0, then_only {first = first} {go = go} p.0 (q p.0).0 p.1 (q p.0).1)

either_one : {A B : Outcome → Type 0} (t : Bool) → AllowsOne A → AllowsOne B → AllowsOne (λ o. MatchBool t (A o) (B o))
either_one true p q = p
either_one false p q = q

right_one : (op : BinOp) (v : Value) {right : Outcome → Type 0} → AllowsOne right → AllowsOne (AllowedRight op v right)
right_one And v p = either_one (truth_of v) p (_, (refl, λ o s. s))
right_one Or v p = either_one (truth_of v) (_, (refl, λ o s. s)) p
right_one Implies v p = either_one (truth_of v) p (_, (refl, λ o s. s))
right_one Add v p = then_one p (λ ys. (_, (refl, λ o s. s)))
right_one Sub v p = then_one p (λ ys. (_, (refl, λ o s. s)))
right_one Mul v p = then_one p (λ ys. (_, (refl, λ o s. s)))
right_one Union v p = then_one p (λ ys. (_, (refl, λ o s. s)))
right_one Inter v p = then_one p (λ ys. (_, (refl, λ o s. s)))
right_one Diff v p = then_one p (λ ys. (_, (refl, λ o s. s)))
right_one Subset v p = then_one p (λ ys. (_, (refl, λ o s. s)))
right_one (Compare order) v p = then_one p (λ ys. (_, (refl, λ o s. s)))

-- functions of which some, by `good`, allow one outcome each
abbrev AreOne : Calling → (ℕ → Type 0) → Type 0
AreOne calls good = (f : ℕ) → good f → (xs : List Value) → AllowsOne (calls f xs)

mutual
  pub one_by : (chooses : Choosing) (calls : Calling) (good : ℕ → Type 0) → AreOne calls good → (e : ExprTree) → ChoosesNothingBy good e
      → (env : List Value) → AllowsOne (AllowedBy chooses calls e env)
  one_by chooses calls good c (expr_lit k) h env = (_, (refl, λ o s. s))
  one_by chooses calls good c (expr_truth t) h env = (_, (refl, λ o s. s))
  one_by chooses calls good c (expr_var x) h env = (_, (refl, λ o s. s))
  one_by chooses calls good c (expr_set_of es) h env = then_one (all_by chooses calls good c es h env) (λ xs. (_, (refl, λ o s. s)))
  one_by chooses calls good c (expr_tuple es) h env = all_by chooses calls good c es h env
  one_by chooses calls good c (expr_neg a) h env = then_one (one_by chooses calls good c a h env) (λ xs. (_, (refl, λ o s. s)))
  one_by chooses calls good c (expr_not a) h env = then_one (one_by chooses calls good c a h env) (λ xs. (_, (refl, λ o s. s)))
  one_by chooses calls good c (expr_abs a) h env = then_one (one_by chooses calls good c a h env) (λ xs. (_, (refl, λ o s. s)))
  one_by chooses calls good c (expr_binary op a b) h env =
      then_one (one_by chooses calls good c a h.0 env) (λ xs. right_one op (first_of xs) (one_by chooses calls good c b h.1 env))
  one_by chooses calls good c (expr_chain orders es) h env = then_one (all_by chooses calls good c es h env) (λ xs. (_, (refl, λ o s. s)))
  one_by chooses calls good c (expr_min es) h env = then_one (all_by chooses calls good c es h env) (λ xs. (_, (refl, λ o s. s)))
  one_by chooses calls good c (expr_max es) h env = then_one (all_by chooses calls good c es h env) (λ xs. (_, (refl, λ o s. s)))
  one_by chooses calls good c (expr_divides k a) h env = then_one (one_by chooses calls good c a h env) (λ xs. (_, (refl, λ o s. s)))
  one_by chooses calls good c (expr_div a k) h env = then_one (one_by chooses calls good c a h env) (λ xs. (_, (refl, λ o s. s)))
  one_by chooses calls good c (expr_mod a k) h env = then_one (one_by chooses calls good c a h env) (λ xs. (_, (refl, λ o s. s)))
  one_by chooses calls good c (expr_card a) h env = then_one (one_by chooses calls good c a h env) (λ xs. (_, (refl, λ o s. s)))
  one_by chooses calls good c (expr_if t a b) h env =
      then_one (one_by chooses calls good c t h.0 env)
      (λ xs. either_one (truth_of (first_of xs)) (one_by chooses calls good c a h.1 env) (one_by chooses calls good c b h.2 env))
  one_by chooses calls good c (expr_call f es) h env = then_one (all_by chooses calls good c es h.1 env) (c f h.0)
  one_by chooses calls good c (expr_let n a b) h env =
      then_one (one_by chooses calls good c a h.0 env) (λ xs. one_by chooses calls good c b h.1 (env ++ xs))
  one_by chooses calls good c (expr_choose n scope outputs rel) h env = absurd h
  one_by chooses calls good c (expr_choose_where n scope outputs hidden given rel aim) h env = absurd h
  one_by chooses calls good c (expr_match n scope a arms) h env = absurd h

  pub all_by : (chooses : Choosing) (calls : Calling) (good : ℕ → Type 0) → AreOne calls good → (es : ExprTrees) → ChooseNothingBy good es
      → (env : List Value) → AllowsOne (AllAllowedBy chooses calls es env)
  all_by chooses calls good c no_exprs h env = ([], (refl, λ o s. s))
  all_by chooses calls good c (expr_more e es) h env =
      then_one (one_by chooses calls good c e h.0 env) (λ xs. then_one (all_by chooses calls good c es h.1 env) (λ ys. (xs ++ ys, (refl, λ o s. s))))

call_by : {P Q : Type 0} {A B : Outcome → Type 0} (t : Bool) → (P → AllowsOne A) → (Q → AllowsOne B) → MatchBool t P Q
    → AllowsOne (λ o. MatchBool t (A o) (B o))
call_by true a b h = a h
call_by false a b h = b h

pub call_one : (chooses : Choosing) (bodies : List ExprTree) → AreOne (CallAllowedBy chooses bodies) (CallChoosesNothing bodies)
call_one chooses [] f h xs = absurd h
call_one chooses (body ∷ earlier) f h xs =
    call_by (f == length earlier)
    (λ g. one_by chooses (CallAllowedBy chooses earlier) (CallChoosesNothing earlier) (call_one chooses earlier) body g xs)
    (λ g. call_one chooses earlier f g xs)
    h

pub chooses_nothing_allows_one : ChoosesNothingAllowsOne
chooses_nothing_allows_one bodies e h env =
    one_by AllChosen (CallAllowedBy AllChosen (reverse bodies)) (CallChoosesNothing (reverse bodies)) (call_one AllChosen (reverse bodies)) e h env
