-- Worked examples that hold down what chains, `min`, `max`, `==>` and a choose whose relation is an expression allow.
use Rattle.std.specs.Prelude.{ℕ, ℤ, pos, negsuc, ◌-ℤ◌, ◌+ℤ◌, ◌*ℤ◌, neg_ℤ, ◌<ℤ◌, ◌≤ℤ◌, int_lt, ◌≡◌, ◌⊎◌, Bool, true, false, not, ◌&&◌, ◌||◌, List, [], ◌∷◌, ◌++◌, map}
use Rattle.std.specs.Ordering.{int_eq}
use Rattle.std.proofs.Common.{refl, inl, inr, sym, subst, arith}
use Rattle.std.proofs.lemmas.Int.{ints}
use Rattle.cf_tree.specs.declared.base.Base.TheVariants.{Int, Bool as Truth}
use Rattle.cf_tree.specs.declared.base.Order.{Order}
use Rattle.cf_tree.specs.declared.base.Order.TheVariants.{Eq, Ne, Lt, Le, Gt, Ge}
use Rattle.cf_tree.specs.declared.raw.BinOp.TheVariants.{Add, Mul, And, Or, Implies, Compare}
use Rattle.cf_tree.specs.Allowed.{Calling, AllowedIn, AllowedAll, AllowedCall, Allowed, goes_on, ends_at, chained, IsBefore}
use Rattle.cf_tree.specs.ExprTree.{ExprTree, expr_lit, expr_truth, expr_var, expr_tuple, expr_neg, expr_binary, expr_chain, expr_min, expr_max, expr_divides, expr_call, expr_choose, expr_choose_where, ExprTrees, no_exprs, expr_more, exprs_of, holds_always, holds_where, at_any, at_least, at_greatest}
use Rattle.cf_tree.specs.Numbers.{is_multiple}
use Rattle.cf_tree.specs.OneOutcome.{AllowsOnly, ChoosesNothing}
use Rattle.cf_tree.specs.RelTree.{rel_false}
use Rattle.cf_tree.specs.Values.{Value, number, truth, Outcome, values, no_solution, compared, HaveBases}
use Rattle.cf_tree.proofs.BaseLemmas.{both}
use Rattle.cf_tree.proofs.OneOutcomeLemmas.{then_only}
use Rattle.cf_tree.proofs.SetLemmas.{eq_is, eq_same, lt_is, lt_not}

abbrev num : ℤ → Value
num z = number z

abbrev var : ℕ → ExprTree
var x = expr_var x

abbrev lit : ℕ → ExprTree
lit k = expr_lit (pos k)

-- choose number n without solutions
abbrev nothing : ℕ → ExprTree
nothing n = expr_choose n [] (Int ∷ []) rel_false

nothing-ends : (n : ℕ) (env : List Value) → Allowed [] (nothing n) env (no_solution n)
nothing-ends n env = (refl, λ xs s. s.1)

-- an expression allows this one value and nothing else
abbrev Is : Calling → ExprTree → List Value → Value → Type 0
Is calls e env v = AllowsOnly (AllowedIn calls e env) (v ∷ [])

abbrev Are : Calling → ExprTrees → List Value → List Value → Type 0
Are calls es env vs = AllowsOnly (AllowedAll calls es env) vs

more_are : (calls : Calling) (env : List Value) (e : ExprTree) (es : ExprTrees) (v : Value) (vs : List Value) → Is calls e env v → Are calls es env vs
    → Are calls (expr_more e es) env (v ∷ vs)
more_are calls env e es v vs p q = then_only (v ∷ []) (v ∷ vs) p (then_only vs (v ∷ vs) q (refl, λ o s. s))

compare_is : (calls : Calling) (env : List Value) (a b : ExprTree) (order : Order) (v w : Value) → Is calls a env v → Is calls b env w
    → Is calls (expr_binary (Compare order) a b) env (truth (compared order v w))
compare_is calls env a b order v w p q =
    then_only (v ∷ []) (truth (compared order v w) ∷ []) p (then_only (w ∷ []) (truth (compared order v w) ∷ []) q (refl, λ o s. s))

add_is : (calls : Calling) (env : List Value) (a b : ExprTree) (x y : ℤ) → Is calls a env (num x) → Is calls b env (num y)
    → Is calls (expr_binary Add a b) env (num (x +ℤ y))
add_is calls env a b x y p q = then_only (num x ∷ []) (num (x +ℤ y) ∷ []) p (then_only (num y ∷ []) (num (x +ℤ y) ∷ []) q (refl, λ o s. s))

mul_is : (calls : Calling) (env : List Value) (a b : ExprTree) (x y : ℤ) → Is calls a env (num x) → Is calls b env (num y)
    → Is calls (expr_binary Mul a b) env (num (x *ℤ y))
mul_is calls env a b x y p q = then_only (num x ∷ []) (num (x *ℤ y) ∷ []) p (then_only (num y ∷ []) (num (x *ℤ y) ∷ []) q (refl, λ o s. s))

and_is : (calls : Calling) (env : List Value) (a b : ExprTree) (s t : Bool) → Is calls a env (truth s) → Is calls b env (truth t)
    → Is calls (expr_binary And a b) env (truth (s && t))
and_is calls env a b true t p q = then_only (truth true ∷ []) (truth t ∷ []) p q
and_is calls env a b false t p q = then_only (truth false ∷ []) (truth false ∷ []) p (refl, λ o s. s)

or_is : (calls : Calling) (env : List Value) (a b : ExprTree) (s t : Bool) → Is calls a env (truth s) → Is calls b env (truth t)
    → Is calls (expr_binary Or a b) env (truth (s || t))
or_is calls env a b true t p q = then_only (truth true ∷ []) (truth true ∷ []) p (refl, λ o s. s)
or_is calls env a b false t p q = then_only (truth false ∷ []) (truth t ∷ []) p q

-- a chain of three parts
chain_is : (calls : Calling) (env : List Value) (a b c : ExprTree) (orders : List Order) (u v w : Value) → Is calls a env u → Is calls b env v
    → Is calls c env w → Is calls (expr_chain orders (exprs_of (a ∷ b ∷ c ∷ []))) env (truth (chained orders (u ∷ v ∷ w ∷ [])))
chain_is calls env a b c orders u v w p q r =
    then_only (u ∷ v ∷ w ∷ []) (truth (chained orders (u ∷ v ∷ w ∷ [])) ∷ [])
    (more_are calls env a (exprs_of (b ∷ c ∷ [])) u (v ∷ w ∷ []) p
    (more_are calls env b (exprs_of (c ∷ [])) v (w ∷ []) q (more_are calls env c no_exprs w [] r (refl, λ o s. s))))
    (refl, λ o s. s)

abbrev no_calls : Calling
no_calls = AllowedCall []

abbrev three : ℤ → ℤ → ℤ → List Value
three x y z = num x ∷ num y ∷ num z ∷ []

-- a chain of a, b and c
abbrev chain : List Order → ExprTree
chain orders = expr_chain orders (exprs_of (var 0 ∷ var 1 ∷ var 2 ∷ []))

chain_of : (orders : List Order) (x y z : ℤ) → Is no_calls (chain orders) (three x y z) (truth (chained orders (three x y z)))
chain_of orders x y z =
    chain_is no_calls (three x y z) (var 0) (var 1) (var 2) orders (num x) (num y) (num z) (refl, λ o s. s) (refl, λ o s. s) (refl, λ o s. s)

-- `a < b < c`: each two that stand side by side
chain-up : (Is no_calls (chain (Lt ∷ Lt ∷ [])) (three (pos 1) (pos 2) (pos 3)) (truth true))
    × (Is no_calls (chain (Lt ∷ Lt ∷ [])) (three (pos 1) (pos 3) (pos 2)) (truth false))
    × (Is no_calls (chain (Lt ∷ Lt ∷ [])) (three (pos 2) (pos 2) (pos 3)) (truth false))
    × (Is no_calls (chain (Lt ∷ Lt ∷ [])) (three (negsuc 0) (pos 0) (pos 1)) (truth true))
chain-up = (
  chain_of (Lt ∷ Lt ∷ []) (pos 1) (pos 2) (pos 3),
  chain_of (Lt ∷ Lt ∷ []) (pos 1) (pos 3) (pos 2),
  chain_of (Lt ∷ Lt ∷ []) (pos 2) (pos 2) (pos 3),
  chain_of (Lt ∷ Lt ∷ []) (negsuc 0) (pos 0) (pos 1),
)

-- `a >= b > c`: each order between its own parts
chain-down : (Is no_calls (chain (Ge ∷ Gt ∷ [])) (three (pos 3) (pos 3) (pos 1)) (truth true))
    × (Is no_calls (chain (Ge ∷ Gt ∷ [])) (three (pos 3) (pos 2) (pos 2)) (truth false))
    × (Is no_calls (chain (Ge ∷ Gt ∷ [])) (three (pos 1) (pos 2) (pos 0)) (truth false))
chain-down = (
  chain_of (Ge ∷ Gt ∷ []) (pos 3) (pos 3) (pos 1),
  chain_of (Ge ∷ Gt ∷ []) (pos 3) (pos 2) (pos 2),
  chain_of (Ge ∷ Gt ∷ []) (pos 1) (pos 2) (pos 0),
)

chain-only_one : Allowed [] (chain (Lt ∷ Lt ∷ [])) (three (pos 1) (pos 3) (pos 2)) (values (truth true ∷ [])) → ⊥
chain-only_one s =
    let e : values (truth true ∷ []) ≡ values (truth false ∷ []) = chain-up.1.1 (values (truth true ∷ [])) s in
    cc

-- `5 < 1 < ..`: all parts are evaluated, also where an earlier link fails, and the first without a solution ends the whole
chain-ends : (Allowed [] (expr_chain (Lt ∷ Lt ∷ []) (exprs_of (lit 5 ∷ lit 1 ∷ nothing 2 ∷ []))) [] (no_solution 2))
    × (Allowed [] (expr_chain (Lt ∷ Lt ∷ []) (exprs_of (nothing 1 ∷ lit 1 ∷ nothing 2 ∷ []))) [] (no_solution 1))
chain-ends = (
  ends_at 2
      (goes_on (num (pos 5) ∷ []) refl (ends_at 2 (goes_on (num (pos 1) ∷ []) refl (ends_at 2 (ends_at 2 (nothing-ends 2 []) refl) refl)) refl))
      refl,
  ends_at 1 (ends_at 1 (nothing-ends 1 []) refl) refl,
)

chain-ends_at_first : Allowed [] (expr_chain (Lt ∷ Lt ∷ []) (exprs_of (nothing 1 ∷ lit 1 ∷ nothing 2 ∷ []))) [] (no_solution 2) → ⊥
chain-ends_at_first (goes_on vs e s) = cc
chain-ends_at_first (ends_at n (goes_on vs e s) o) = e.1
chain-ends_at_first (ends_at n (ends_at m e p) o) = let at : m ≡ 1 = e.0 in cc

-- the least and the greatest of three
parts_are : (x y z : ℤ) → Are no_calls (exprs_of (var 0 ∷ var 1 ∷ var 2 ∷ [])) (three x y z) (three x y z)
parts_are x y z =
    more_are no_calls (three x y z) (var 0) (exprs_of (var 1 ∷ var 2 ∷ [])) (num x) (num y ∷ num z ∷ []) (refl, λ o s. s)
    (more_are no_calls (three x y z) (var 1) (exprs_of (var 2 ∷ [])) (num y) (num z ∷ []) (refl, λ o s. s)
    (more_are no_calls (three x y z) (var 2) no_exprs (num z) [] (refl, λ o s. s) (refl, λ o s. s)))

abbrev least_of_three : ExprTree
least_of_three = expr_min (exprs_of (var 0 ∷ var 1 ∷ var 2 ∷ []))

abbrev greatest_of_three : ExprTree
greatest_of_three = expr_max (exprs_of (var 0 ∷ var 1 ∷ var 2 ∷ []))

min-of : (Is no_calls least_of_three (three (pos 1) (pos 2) (pos 3)) (num (pos 1))) × (Is no_calls least_of_three (three (pos 3) (pos 2) (pos 1)) (num (pos 1)))
    × (Is no_calls least_of_three (three (negsuc 0) (negsuc 2) (pos 0)) (num (negsuc 2)))
min-of = (
  then_only (three (pos 1) (pos 2) (pos 3)) (num (pos 1) ∷ []) (parts_are (pos 1) (pos 2) (pos 3)) (refl, λ o s. s),
  then_only (three (pos 3) (pos 2) (pos 1)) (num (pos 1) ∷ []) (parts_are (pos 3) (pos 2) (pos 1)) (refl, λ o s. s),
  then_only (three (negsuc 0) (negsuc 2) (pos 0)) (num (negsuc 2) ∷ []) (parts_are (negsuc 0) (negsuc 2) (pos 0)) (refl, λ o s. s),
)

max-of : (Is no_calls greatest_of_three (three (pos 1) (pos 2) (pos 3)) (num (pos 3)))
    × (Is no_calls greatest_of_three (three (pos 2) (pos 3) (pos 1)) (num (pos 3)))
    × (Is no_calls greatest_of_three (three (negsuc 4) (negsuc 2) (negsuc 3)) (num (negsuc 2)))
max-of = (
  then_only (three (pos 1) (pos 2) (pos 3)) (num (pos 3) ∷ []) (parts_are (pos 1) (pos 2) (pos 3)) (refl, λ o s. s),
  then_only (three (pos 2) (pos 3) (pos 1)) (num (pos 3) ∷ []) (parts_are (pos 2) (pos 3) (pos 1)) (refl, λ o s. s),
  then_only (three (negsuc 4) (negsuc 2) (negsuc 3)) (num (negsuc 2) ∷ []) (parts_are (negsuc 4) (negsuc 2) (negsuc 3)) (refl, λ o s. s),
)

min-ends : (Allowed [] (expr_min (exprs_of (lit 5 ∷ nothing 2 ∷ []))) [] (no_solution 2))
    × (Allowed [] (expr_max (exprs_of (nothing 1 ∷ nothing 2 ∷ []))) [] (no_solution 1))
min-ends = (
  ends_at 2 (goes_on (num (pos 5) ∷ []) refl (ends_at 2 (ends_at 2 (nothing-ends 2 []) refl) refl)) refl,
  ends_at 1 (ends_at 1 (nothing-ends 1 []) refl) refl,
)

-- `p ==> q`: q is evaluated only where p is true
abbrev implies : ExprTree → ExprTree → ExprTree
implies p q = expr_binary Implies p q

implies-of : (Is no_calls (implies (expr_truth true) (var 0)) (truth true ∷ []) (truth true))
    × (Is no_calls (implies (expr_truth true) (var 0)) (truth false ∷ []) (truth false))
    × (Is no_calls (implies (expr_truth false) (nothing 1)) [] (truth true))
implies-of = (
  then_only (truth true ∷ []) (truth true ∷ []) (refl, λ o s. s) (refl, λ o s. s),
  then_only (truth true ∷ []) (truth false ∷ []) (refl, λ o s. s) (refl, λ o s. s),
  then_only (truth false ∷ []) (truth true ∷ []) (refl, λ o s. s) (refl, λ o s. s),
)

implies-ends : (Allowed [] (implies (expr_truth true) (nothing 2)) [] (no_solution 2)) × (Allowed [] (implies (nothing 1) (nothing 2)) [] (no_solution 1))
implies-ends = (goes_on (truth true ∷ []) refl (nothing-ends 2 []), ends_at 1 (nothing-ends 1 []) refl)

-- what a relation that is true says of numbers
true_so : {allowed : Outcome → Type 0} (t : Bool) → AllowsOnly allowed (truth t ∷ []) → allowed (values (truth true ∷ [])) → t ≡ true
true_so {allowed} t p s = let e : values (truth true ∷ []) ≡ values (truth t ∷ []) = p.1 (values (truth true ∷ [])) s in cc

not_so : (b : Bool) → not b ≡ true → b ≡ false
not_so true e = cc
not_so false e = refl

at_most : (x y : ℤ) → compared Le (num x) (num y) ≡ true → x ≤ℤ y
at_most x y e = lt_not y x (not_so (int_lt y x) e)

is_at_most : (x y : ℤ) → x ≤ℤ y → compared Le (num x) (num y) ≡ true
is_at_most x y h = by (int_lt y x) (lt_is y x)
  where
    by : (b : Bool) → (b ≡ true → y <ℤ x) → not b ≡ true
    by true less = absurd (omega (arith, ints, less refl))
    by false less = refl

-- the outputs of a choose of one number, and of one number and a hidden one
one_number : (P : List Value → Type 0) → ((z : ℤ) → P (num z ∷ [])) → (xs : List Value) → HaveBases (Int ∷ []) xs → P xs
one_number P f [] h = absurd h
one_number P f (v ∷ []) h = subst (λ u. P (u ∷ [])) (sym h.0.1) (f h.0.0)
one_number P f (v ∷ w ∷ vs) h = absurd h.1

none_hidden : (P : List Value → Type 0) → P [] → (ks : List Value) → HaveBases [] ks → P ks
none_hidden P p [] h = p
none_hidden P p (v ∷ vs) h = absurd h

-- the numbers of an objective
numbers_are : (zs : List ℤ) (z : ℤ) → values (map number zs) ≡ values (num z ∷ []) → zs ≡ z ∷ []
numbers_are [] z e = cc
numbers_are (w ∷ []) z e = let same : w ≡ z = cc in cc
numbers_are (w ∷ u ∷ zs) z e = cc

less : (zs : List ℤ) (z k : ℤ) → values (map number zs) ≡ values (num z ∷ []) → IsBefore zs (k ∷ []) → z <ℤ k
less zs z k e b = by (subst (λ us. IsBefore us (k ∷ [])) (numbers_are zs z e) b)
  where
    by : IsBefore (z ∷ []) (k ∷ []) → z <ℤ k
    by (inl h) = h
    by (inr h) = absurd h.1

-- `choose (x: int) given a == b where a <= x <= b`
abbrev between : ExprTree
between = expr_chain (Le ∷ Le ∷ []) (exprs_of (var 0 ∷ var 2 ∷ var 1 ∷ []))

abbrev given_same : ExprTree
given_same = expr_choose_where 1 [] (Int ∷ []) [] (holds_where (expr_binary (Compare Eq) (var 0) (var 1))) between at_any

between_is : (a b z : ℤ) → Is no_calls between (num a ∷ num b ∷ num z ∷ []) (truth (compared Le (num a) (num z) && (compared Le (num z) (num b) && true)))
between_is a b z =
    chain_is no_calls (num a ∷ num b ∷ num z ∷ []) (var 0) (var 2) (var 1) (Le ∷ Le ∷ []) (num a) (num z) (num b) (refl, λ o s. s) (refl, λ o s. s)
    (refl, λ o s. s)

same_is : (a b : ℤ) → Is no_calls (expr_binary (Compare Eq) (var 0) (var 1)) (num a ∷ num b ∷ []) (truth (int_eq a b))
same_is a b = compare_is no_calls (num a ∷ num b ∷ []) (var 0) (var 1) Eq (num a) (num b) (refl, λ o s. s) (refl, λ o s. s)

given-allows : Allowed [] given_same (num (pos 1) ∷ num (pos 1) ∷ []) (values (num (pos 1) ∷ []))
given-allows = ([], (((pos 1, refl), tt), tt, (same_is (pos 1) (pos 1)).0, (between_is (pos 1) (pos 1) (pos 1)).0), tt)

given-allows_no_2 : Allowed [] given_same (num (pos 1) ∷ num (pos 1) ∷ []) (values (num (pos 2) ∷ [])) → ⊥
given-allows_no_2 (ks, s, aim) =
    none_hidden (λ ks. Allowed [] between (num (pos 1) ∷ num (pos 1) ∷ num (pos 2) ∷ ks) (values (truth true ∷ [])) → ⊥)
    (λ h. let e : false ≡ true = true_so false (between_is (pos 1) (pos 1) (pos 2)) h in cc) ks s.1 s.3

-- where it is not given that a == b, there is no solution, though 2 is between 1 and 3
given-fails : Allowed [] given_same (num (pos 1) ∷ num (pos 3) ∷ []) (no_solution 1)
given-fails = (refl, λ xs s. let e : false ≡ true = true_so false (same_is (pos 1) (pos 3)) s.1.2 in cc)

given-fails_for_2 : Allowed [] given_same (num (pos 1) ∷ num (pos 3) ∷ []) (values (num (pos 2) ∷ [])) → ⊥
given-fails_for_2 (ks, s, aim) = let e : false ≡ true = true_so false (same_is (pos 1) (pos 3)) s.2 in cc

-- `choose (p: bool) where p != q`
abbrev other : ExprTree
other = expr_choose_where 1 [] (Truth ∷ []) [] holds_always (expr_binary (Compare Ne) (var 1) (var 0)) at_any

other_is : (q p : Bool) → Is no_calls (expr_binary (Compare Ne) (var 1) (var 0)) (truth q ∷ truth p ∷ []) (truth (compared Ne (truth p) (truth q)))
other_is q p = compare_is no_calls (truth q ∷ truth p ∷ []) (var 1) (var 0) Ne (truth p) (truth q) (refl, λ o s. s) (refl, λ o s. s)

other-allows : Allowed [] other (truth true ∷ []) (values (truth false ∷ []))
other-allows = ([], (((false, refl), tt), tt, tt, (other_is true false).0), tt)

other-allows_no_true : Allowed [] other (truth true ∷ []) (values (truth true ∷ [])) → ⊥
other-allows_no_true (ks, s, aim) =
    none_hidden (λ ks. Allowed [] (expr_binary (Compare Ne) (var 1) (var 0)) (truth true ∷ truth true ∷ ks) (values (truth true ∷ [])) → ⊥)
    (λ h. let e : false ≡ true = true_so false (other_is true true) h in cc) ks s.1 s.3

-- `choose (x: int; k: int) where x == 2 * k && a <= x <= a + 1`, without the upper bound: an even number of at least a
abbrev even_from : ExprTree
even_from = expr_binary And (expr_binary (Compare Eq) (var 1) (expr_binary Mul (lit 2) (var 2))) (expr_binary (Compare Le) (var 0) (var 1))

abbrev halved : ExprTree
halved = expr_choose_where 1 [] (Int ∷ []) (Int ∷ []) holds_always even_from at_any

even_is : (a x k : ℤ) → Is no_calls even_from (num a ∷ num x ∷ num k ∷ []) (truth (int_eq x (pos 2 *ℤ k) && compared Le (num a) (num x)))
even_is a x k =
    and_is no_calls (num a ∷ num x ∷ num k ∷ []) (expr_binary (Compare Eq) (var 1) (expr_binary Mul (lit 2) (var 2))) (expr_binary (Compare Le) (var 0) (var 1))
    (int_eq x (pos 2 *ℤ k)) (compared Le (num a) (num x))
    (compare_is no_calls (num a ∷ num x ∷ num k ∷ []) (var 1) (expr_binary Mul (lit 2) (var 2)) Eq (num x) (num (pos 2 *ℤ k)) (refl, λ o s. s)
    (mul_is no_calls (num a ∷ num x ∷ num k ∷ []) (lit 2) (var 2) (pos 2) k (refl, λ o s. s) (refl, λ o s. s)))
    (compare_is no_calls (num a ∷ num x ∷ num k ∷ []) (var 0) (var 1) Le (num a) (num x) (refl, λ o s. s) (refl, λ o s. s))

hidden-allows : Allowed [] halved (num (pos 1) ∷ []) (values (num (pos 2) ∷ []))
hidden-allows = (num (pos 1) ∷ [], (((pos 2, refl), tt), ((pos 1, refl), tt), tt, (even_is (pos 1) (pos 2) (pos 1)).0), tt)

-- 3 is 2 * k for no k, and the hidden output is not given out
hidden-allows_no_3 : Allowed [] halved (num (pos 1) ∷ []) (values (num (pos 3) ∷ [])) → ⊥
hidden-allows_no_3 (ks, s, aim) =
    one_number (λ ks. Allowed [] even_from (num (pos 1) ∷ num (pos 3) ∷ ks) (values (truth true ∷ [])) → ⊥)
    (λ k h.
    let e : (int_eq (pos 3) (pos 2 *ℤ k) && compared Le (num (pos 1)) (num (pos 3))) ≡ true = true_so _ (even_is (pos 1) (pos 3) k) h in
    let f : pos 3 ≡ pos 2 *ℤ k = eq_is (pos 3) (pos 2 *ℤ k) (both _ _ e).0 in
    omega (arith, ints, f))
    ks s.1 s.3

hidden-allows_no_pair : Allowed [] halved (num (pos 1) ∷ []) (values (num (pos 2) ∷ num (pos 1) ∷ [])) → ⊥
hidden-allows_no_pair (ks, s, aim) = s.0.1

-- a hidden output is a value of its base: `choose (x: int; k: int) where k != k + 0` has no solution
abbrev unlike_itself : ExprTree
unlike_itself = expr_binary (Compare Ne) (var 1) (expr_binary Add (var 1) (lit 0))

unlike_is : (x k : ℤ) → Is no_calls unlike_itself (num x ∷ num k ∷ []) (truth (not (int_eq k (k +ℤ pos 0))))
unlike_is x k =
    compare_is no_calls (num x ∷ num k ∷ []) (var 1) (expr_binary Add (var 1) (lit 0)) Ne (num k) (num (k +ℤ pos 0)) (refl, λ o s. s)
    (add_is no_calls (num x ∷ num k ∷ []) (var 1) (lit 0) k (pos 0) (refl, λ o s. s) (refl, λ o s. s))

hidden-has_base : Allowed [] (expr_choose_where 1 [] (Int ∷ []) (Int ∷ []) holds_always unlike_itself at_any) [] (no_solution 1)
hidden-has_base = (
  refl,
  λ xs s.
      one_number (λ xs. Allowed [] unlike_itself (xs ++ s.0) (values (truth true ∷ [])) → ⊥)
      (λ x. one_number (λ ks. Allowed [] unlike_itself (num x ∷ ks) (values (truth true ∷ [])) → ⊥)
      (λ k h.
      let e : int_eq k (k +ℤ pos 0) ≡ false = not_so _ (true_so _ (unlike_is x k) h) in
      let f : int_eq k (k +ℤ pos 0) ≡ true = eq_same k (k +ℤ pos 0) (omega (arith, ints)) in
      cc)
      s.0 s.1.1)
      xs s.1.0 s.1.3,
)

-- `choose (x: int) where a <= x && (x == 3 || x == 7) minimise x`
abbrev is_var_1 : ℕ → ExprTree
is_var_1 k = expr_binary (Compare Eq) (var 1) (lit k)

abbrev three_or_other : ExprTree
three_or_other = expr_binary Or (is_var_1 3) (is_var_1 7)

abbrev three_or_seven : ExprTree
three_or_seven = expr_binary And (expr_binary (Compare Le) (var 0) (var 1)) three_or_other

abbrev least : ExprTree
least = expr_choose_where 1 [] (Int ∷ []) [] holds_always three_or_seven (at_least (var 1))

either_is : (a z : ℤ) → Is no_calls three_or_seven (num a ∷ num z ∷ []) (truth (compared Le (num a) (num z) && (int_eq z (pos 3) || int_eq z (pos 7))))
either_is a z =
    and_is no_calls (num a ∷ num z ∷ []) (expr_binary (Compare Le) (var 0) (var 1)) three_or_other (compared Le (num a) (num z))
    (int_eq z (pos 3) || int_eq z (pos 7))
    (compare_is no_calls (num a ∷ num z ∷ []) (var 0) (var 1) Le (num a) (num z) (refl, λ o s. s) (refl, λ o s. s))
    (or_is no_calls (num a ∷ num z ∷ []) (is_var_1 3) (is_var_1 7) (int_eq z (pos 3)) (int_eq z (pos 7))
    (compare_is no_calls (num a ∷ num z ∷ []) (var 1) (lit 3) Eq (num z) (num (pos 3)) (refl, λ o s. s) (refl, λ o s. s))
    (compare_is no_calls (num a ∷ num z ∷ []) (var 1) (lit 7) Eq (num z) (num (pos 7)) (refl, λ o s. s) (refl, λ o s. s)))

either_so : (s t : Bool) → (s || t) ≡ true → (s ≡ true) ⊎ (t ≡ true)
either_so true t e = inl refl
either_so false t e = inr e

-- the relation says so of each solution
three_or_seven_so : (a z : ℤ) → Allowed [] three_or_seven (num a ∷ num z ∷ []) (values (truth true ∷ [])) → (a ≤ℤ z) × ((z ≡ pos 3) ⊎ (z ≡ pos 7))
three_or_seven_so a z h =
    let e : (compared Le (num a) (num z) && (int_eq z (pos 3) || int_eq z (pos 7))) ≡ true = true_so _ (either_is a z) h in
    (at_most a z (both _ _ e).0, by (either_so _ _ (both _ _ e).1))
  where
    by : ((int_eq z (pos 3) ≡ true) ⊎ (int_eq z (pos 7) ≡ true)) → (z ≡ pos 3) ⊎ (z ≡ pos 7)
    by (inl f) = inl (eq_is z (pos 3) f)
    by (inr f) = inr (eq_is z (pos 7) f)

least_no_less : (ys ls : List Value) (ws : List ℤ) → HaveBases (Int ∷ []) ys → HaveBases [] ls
    → Allowed [] three_or_seven (num (pos 0) ∷ (ys ++ ls)) (values (truth true ∷ [])) → Allowed [] (var 1) (num (pos 0) ∷ (ys ++ ls)) (values (map number ws))
    → IsBefore ws (pos 3 ∷ []) → ⊥
least_no_less ys ls ws h g =
    one_number
    (λ ys. Allowed [] three_or_seven (num (pos 0) ∷ (ys ++ ls)) (values (truth true ∷ [])) → Allowed [] (var 1) (num (pos 0) ∷ (ys ++ ls)) (values
    (map number ws)) → IsBefore ws (pos 3 ∷ []) → ⊥)
    (λ z. none_hidden
    (λ ls. Allowed [] three_or_seven (num (pos 0) ∷ num z ∷ ls) (values (truth true ∷ [])) → Allowed [] (var 1) (num (pos 0) ∷ num z ∷ ls) (values
    (map number ws)) → IsBefore ws (pos 3 ∷ []) → ⊥)
    (λ s o b. no_less z (three_or_seven_so (pos 0) z s).1 (less ws z (pos 3) o b)) ls g)
    ys h
  where
    no_less : (z : ℤ) → ((z ≡ pos 3) ⊎ (z ≡ pos 7)) → z <ℤ pos 3 → ⊥
    no_less z (inl e) b = omega (arith, ints, e, b)
    no_less z (inr e) b = omega (arith, ints, e, b)

least-allows : Allowed [] least (num (pos 0) ∷ []) (values (num (pos 3) ∷ []))
least-allows = (
  [],
  (((pos 3, refl), tt), tt, tt, (either_is (pos 0) (pos 3)).0),
  (pos 3 ∷ [], refl, λ ys ls ws s o b. least_no_less ys ls ws s.0 s.1 s.3 o b),
)

-- 7 solves too, and is not least
least-allows_no_7 : Allowed [] least (num (pos 0) ∷ []) (values (num (pos 7) ∷ [])) → ⊥
least-allows_no_7 (ks, s, (zs, o, best)) =
    let e : zs ≡ pos 7 ∷ [] = numbers_are zs (pos 7) o in
    subst (λ us. IsBefore (pos 3 ∷ []) us → ⊥) e (best (num (pos 3) ∷ []) [] (pos 3 ∷ []) (((pos 3, refl), tt), tt, tt, (either_is (pos 0) (pos 3)).0) refl)
    (inl (omega (arith, ints)))

least-exists : Allowed [] least (num (pos 0) ∷ []) (no_solution 1) → ⊥
least-exists s = s.1 (num (pos 3) ∷ []) least-allows

-- at 4 it is 7, and at 8 nothing solves
least-of_nothing : Allowed [] least (num (pos 8) ∷ []) (no_solution 1)
least-of_nothing = (
  refl,
  λ xs s.
      one_number (λ xs. Allowed [] three_or_seven (num (pos 8) ∷ (xs ++ s.0)) (values (truth true ∷ [])) → ⊥)
      (λ z. none_hidden (λ ks. Allowed [] three_or_seven (num (pos 8) ∷ num z ∷ ks) (values (truth true ∷ [])) → ⊥)
      (λ h. none_past z (three_or_seven_so (pos 8) z h)) s.0 s.1.1)
      xs s.1.0 s.1.3,
)
  where
    none_past : (z : ℤ) → (pos 8 ≤ℤ z) × ((z ≡ pos 3) ⊎ (z ≡ pos 7)) → ⊥
    none_past z (h, inl e) = omega (arith, ints, h, e)
    none_past z (h, inr e) = omega (arith, ints, h, e)

-- `choose (x: int) where x <= a minimise x`: each solution has a better one, so there is none
abbrev unbounded : ExprTree
unbounded = expr_choose_where 1 [] (Int ∷ []) [] holds_always (expr_binary (Compare Le) (var 1) (var 0)) (at_least (var 1))

below_is : (a z : ℤ) → Is no_calls (expr_binary (Compare Le) (var 1) (var 0)) (num a ∷ num z ∷ []) (truth (compared Le (num z) (num a)))
below_is a z = compare_is no_calls (num a ∷ num z ∷ []) (var 1) (var 0) Le (num z) (num a) (refl, λ o s. s) (refl, λ o s. s)

below : (a z : ℤ) → z ≤ℤ a → Allowed [] (expr_binary (Compare Le) (var 1) (var 0)) (num a ∷ num z ∷ []) (values (truth true ∷ []))
below a z h =
    subst (λ t. Allowed [] (expr_binary (Compare Le) (var 1) (var 0)) (num a ∷ num z ∷ []) (values (truth t ∷ []))) (is_at_most z a h) (below_is a z).0

unbounded-allows_none : Allowed [] unbounded (num (pos 0) ∷ []) (no_solution 1)
unbounded-allows_none = (
  refl,
  λ xs s.
      one_number
      (λ xs. Allowed [] (expr_binary (Compare Le) (var 1) (var 0)) (num (pos 0) ∷ (xs ++ s.0)) (values (truth true ∷ []))
      → Allowed [] (var 1) (num (pos 0) ∷ (xs ++ s.0)) (values (map number s.2.0)) → ⊥)
      (λ z. none_hidden
      (λ ks. Allowed [] (expr_binary (Compare Le) (var 1) (var 0)) (num (pos 0) ∷ num z ∷ ks) (values (truth true ∷ []))
      → Allowed [] (var 1) (num (pos 0) ∷ num z ∷ ks) (values (map number s.2.0)) → ⊥)
      (λ h o.
      let at : z ≤ℤ pos 0 = at_most z (pos 0) (true_so _ (below_is (pos 0) z) h) in
      let e : s.2.0 ≡ z ∷ [] = numbers_are s.2.0 z o in
      subst (λ us. IsBefore ((z -ℤ pos 1) ∷ []) us → ⊥) e
      (s.2.2 (num (z -ℤ pos 1) ∷ []) [] ((z -ℤ pos 1) ∷ [])
      (((z -ℤ pos 1, refl), tt), tt, tt, below (pos 0) (z -ℤ pos 1) (omega (arith, ints, at))) refl)
      (inl (omega (arith, ints))))
      s.0 s.1.1)
      xs s.1.0 s.1.3 s.2.1,
)

-- `choose (x: int) where x <= a maximise x`: at 1 it is 1, and 0 is not greatest
abbrev greatest : ExprTree
greatest = expr_choose_where 1 [] (Int ∷ []) [] holds_always (expr_binary (Compare Le) (var 1) (var 0)) (at_greatest (var 1))

greatest-allows_no_0 : Allowed [] greatest (num (pos 1) ∷ []) (values (num (pos 0) ∷ [])) → ⊥
greatest-allows_no_0 (ks, s, (zs, o, best)) =
    let e : zs ≡ pos 0 ∷ [] = numbers_are zs (pos 0) o in
    subst (λ us. IsBefore (negsuc 0 ∷ []) (map neg_ℤ us) → ⊥) e
    (best (num (pos 1) ∷ []) [] (pos 1 ∷ []) (((pos 1, refl), tt), tt, tt, (below_is (pos 1) (pos 1)).0) refl)
    (inl (omega (arith, ints)))

greatest-allows : Allowed [] greatest (num (pos 1) ∷ []) (values (num (pos 1) ∷ []))
greatest-allows = (
  [],
  (((pos 1, refl), tt), tt, tt, (below_is (pos 1) (pos 1)).0),
  (
    pos 1 ∷ [],
    refl,
    λ ys ls ws s o b.
        one_number
        (λ ys. Allowed [] (expr_binary (Compare Le) (var 1) (var 0)) (num (pos 1) ∷ (ys ++ ls)) (values (truth true ∷ []))
        → Allowed [] (var 1) (num (pos 1) ∷ (ys ++ ls)) (values (map number ws)) → ⊥)
        (λ z. none_hidden
        (λ ls. Allowed [] (expr_binary (Compare Le) (var 1) (var 0)) (num (pos 1) ∷ num z ∷ ls) (values (truth true ∷ []))
        → Allowed [] (var 1) (num (pos 1) ∷ num z ∷ ls) (values (map number ws)) → ⊥)
        (λ h o.
        let at : z ≤ℤ pos 1 = at_most z (pos 1) (true_so _ (below_is (pos 1) z) h) in
        more z at (subst (λ us. IsBefore (map neg_ℤ us) (negsuc 0 ∷ [])) (numbers_are ws z o) b))
        ls s.1)
        ys s.0 s.3 o,
  ),
)
  where
    more : (z : ℤ) → z ≤ℤ pos 1 → IsBefore (neg_ℤ z ∷ []) (negsuc 0 ∷ []) → ⊥
    more z at (inl h) = omega (arith, ints, at, h)
    more z at (inr h) = h.1

-- each of several least solutions is allowed
abbrev ties : ExprTree
ties = expr_choose_where 1 [] (Int ∷ []) [] holds_always three_or_seven (at_least (lit 0))

ties-allows : (Allowed [] ties (num (pos 0) ∷ []) (values (num (pos 3) ∷ []))) × (Allowed [] ties (num (pos 0) ∷ []) (values (num (pos 7) ∷ [])))
ties-allows = (
  ([], (((pos 3, refl), tt), tt, tt, (either_is (pos 0) (pos 3)).0), (pos 0 ∷ [], refl, λ ys ls ws s o b. omega (arith, ints, less ws (pos 0) (pos 0) o b))),
  ([], (((pos 7, refl), tt), tt, tt, (either_is (pos 0) (pos 7)).0), (pos 0 ∷ [], refl, λ ys ls ws s o b. omega (arith, ints, less ws (pos 0) (pos 0) o b))),
)

-- `choose (x: int; k: int) where x + k == a && 0 <= k <= 1 minimise k`: least over all outputs, the hidden ones too
abbrev near : ExprTree
near = expr_binary And (expr_binary (Compare Eq) (expr_binary Add (var 1) (var 2)) (var 0)) (expr_chain (Le ∷ Le ∷ []) (exprs_of
    (lit 0 ∷ var 2 ∷ lit 1 ∷ [])))

abbrev nearest : ExprTree
nearest = expr_choose_where 1 [] (Int ∷ []) (Int ∷ []) holds_always near (at_least (var 2))

near_is : (a x k : ℤ) → Is no_calls near (num a ∷ num x ∷ num k ∷ []) (truth (int_eq (x +ℤ k) a && (compared Le (num (pos 0)) (num k) && (compared Le (num k)
    (num (pos 1)) && true))))
near_is a x k =
    and_is no_calls (num a ∷ num x ∷ num k ∷ []) (expr_binary (Compare Eq) (expr_binary Add (var 1) (var 2)) (var 0))
    (expr_chain (Le ∷ Le ∷ []) (exprs_of (lit 0 ∷ var 2 ∷ lit 1 ∷ []))) (int_eq (x +ℤ k) a)
    (compared Le (num (pos 0)) (num k) && (compared Le (num k) (num (pos 1)) && true))
    (compare_is no_calls (num a ∷ num x ∷ num k ∷ []) (expr_binary Add (var 1) (var 2)) (var 0) Eq (num (x +ℤ k)) (num a)
    (add_is no_calls (num a ∷ num x ∷ num k ∷ []) (var 1) (var 2) x k (refl, λ o s. s) (refl, λ o s. s)) (refl, λ o s. s))
    (chain_is no_calls (num a ∷ num x ∷ num k ∷ []) (lit 0) (var 2) (lit 1) (Le ∷ Le ∷ []) (num (pos 0)) (num k) (num (pos 1)) (refl, λ o s. s) (refl, λ o s. s)
    (refl, λ o s. s))

near_so : (a x k : ℤ) → Allowed [] near (num a ∷ num x ∷ num k ∷ []) (values (truth true ∷ [])) → (x +ℤ k ≡ a) × (pos 0 ≤ℤ k)
near_so a x k h =
    let e : (int_eq (x +ℤ k) a && (compared Le (num (pos 0)) (num k) && (compared Le (num k) (num (pos 1)) && true))) ≡ true = true_so _ (near_is a x k) h in
    (eq_is (x +ℤ k) a (both _ _ e).0, at_most (pos 0) k (both _ _ (both _ _ e).1).0)

nearest-allows : Allowed [] nearest (num (pos 5) ∷ []) (values (num (pos 5) ∷ []))
nearest-allows = (
  num (pos 0) ∷ [],
  (((pos 5, refl), tt), ((pos 0, refl), tt), tt, (near_is (pos 5) (pos 5) (pos 0)).0),
  (
    pos 0 ∷ [],
    refl,
    λ ys ls ws s o b.
        one_number
        (λ ys. Allowed [] near (num (pos 5) ∷ (ys ++ ls)) (values (truth true ∷ []))
        → Allowed [] (var 2) (num (pos 5) ∷ (ys ++ ls)) (values (map number ws)) → ⊥)
        (λ z. one_number
        (λ ls. Allowed [] near (num (pos 5) ∷ num z ∷ ls) (values (truth true ∷ []))
        → Allowed [] (var 2) (num (pos 5) ∷ num z ∷ ls) (values (map number ws)) → ⊥)
        (λ k h o. omega (arith, ints, (near_so (pos 5) z k h).1, less ws k (pos 0) o b))
        ls s.1)
        ys s.0 s.3 o,
  ),
)

-- 4 needs k = 1, and is not given out as the least for itself
nearest-allows_no_4 : Allowed [] nearest (num (pos 5) ∷ []) (values (num (pos 4) ∷ [])) → ⊥
nearest-allows_no_4 (ks, s, (zs, o, best)) =
    one_number
    (λ ks. Allowed [] near (num (pos 5) ∷ num (pos 4) ∷ ks) (values (truth true ∷ []))
    → Allowed [] (var 2) (num (pos 5) ∷ num (pos 4) ∷ ks) (values (map number zs)) → ⊥)
    (λ k h o.
    let e : zs ≡ k ∷ [] = numbers_are zs k o in
    subst (λ us. IsBefore (pos 0 ∷ []) us → ⊥) e
    (best (num (pos 5) ∷ []) (num (pos 0) ∷ []) (pos 0 ∷ []) (((pos 5, refl), tt), ((pos 0, refl), tt), tt, (near_is (pos 5) (pos 5) (pos 0)).0) refl)
    (inl (omega (arith, ints, (near_so (pos 5) (pos 4) k h).0))))
    ks s.1 s.3 o

-- `choose (x: int, y: int) where 0 <= x <= 3 && 0 <= y <= 3 && x + y <= a minimise (-x, y)`: the first number that differs decides
abbrev from_0_to_3 : ℕ → ExprTree
from_0_to_3 x = expr_chain (Le ∷ Le ∷ []) (exprs_of (lit 0 ∷ var x ∷ lit 3 ∷ []))

abbrev sum_fits : ExprTree
sum_fits = expr_binary (Compare Le) (expr_binary Add (var 1) (var 2)) (var 0)

abbrev in_box : ExprTree
in_box = expr_binary And (from_0_to_3 1) (expr_binary And (from_0_to_3 2) sum_fits)

abbrev objective : ExprTrees
objective = exprs_of (expr_neg (var 1) ∷ var 2 ∷ [])

abbrev mixed : ExprTree
mixed = expr_choose_where 1 [] (Int ∷ Int ∷ []) [] holds_always in_box (at_least (expr_tuple objective))

abbrev within_3 : ℤ → Bool
within_3 z = compared Le (num (pos 0)) (num z) && (compared Le (num z) (num (pos 3)) && true)

abbrev at : ℤ → ℤ → ℤ → List Value
at a x y = num a ∷ num x ∷ num y ∷ []

box_is : (a x y : ℤ) → Is no_calls in_box (at a x y) (truth (within_3 x && (within_3 y && compared Le (num (x +ℤ y)) (num a))))
box_is a x y =
    and_is no_calls (at a x y) (from_0_to_3 1) (expr_binary And (from_0_to_3 2) sum_fits) (within_3 x) (within_3 y && compared Le (num (x +ℤ y)) (num a))
    (chain_is no_calls (at a x y) (lit 0) (var 1) (lit 3) (Le ∷ Le ∷ []) (num (pos 0)) (num x) (num (pos 3)) (refl, λ o s. s) (refl, λ o s. s)
    (refl, λ o s. s))
    (and_is no_calls (at a x y) (from_0_to_3 2) sum_fits (within_3 y) (compared Le (num (x +ℤ y)) (num a))
    (chain_is no_calls (at a x y) (lit 0) (var 2) (lit 3) (Le ∷ Le ∷ []) (num (pos 0)) (num y) (num (pos 3)) (refl, λ o s. s) (refl, λ o s. s)
    (refl, λ o s. s))
    (compare_is no_calls (at a x y) (expr_binary Add (var 1) (var 2)) (var 0) Le (num (x +ℤ y)) (num a)
    (add_is no_calls (at a x y) (var 1) (var 2) x y (refl, λ o s. s) (refl, λ o s. s)) (refl, λ o s. s)))

box_so : (a x y : ℤ) → Allowed [] in_box (at a x y) (values (truth true ∷ [])) → (x ≤ℤ pos 3) × (pos 0 ≤ℤ y)
box_so a x y h =
    let e : (within_3 x && (within_3 y && compared Le (num (x +ℤ y)) (num a))) ≡ true = true_so _ (box_is a x y) h in
    (at_most x (pos 3) (both _ _ (both _ _ (both _ _ e).0).1).0, at_most (pos 0) y (both _ _ (both _ _ (both _ _ e).1).0).0)

pair_are : (a x y : ℤ) → Are no_calls objective (at a x y) (num (neg_ℤ x) ∷ num y ∷ [])
pair_are a x y =
    more_are no_calls (at a x y) (expr_neg (var 1)) (exprs_of (var 2 ∷ [])) (num (neg_ℤ x)) (num y ∷ [])
    (then_only (num x ∷ []) (num (neg_ℤ x) ∷ []) (refl, λ o s. s) (refl, λ o s. s))
    (more_are no_calls (at a x y) (var 2) no_exprs (num y) [] (refl, λ o s. s) (refl, λ o s. s))

pair_so : (zs : List ℤ) (z w : ℤ) → values (map number zs) ≡ values (num z ∷ num w ∷ []) → zs ≡ z ∷ w ∷ []
pair_so [] z w e = cc
pair_so (u ∷ []) z w e = cc
pair_so (u ∷ v ∷ []) z w e = let first : u ≡ z = cc in let second : v ≡ w = cc in cc
pair_so (u ∷ v ∷ t ∷ zs) z w e = cc

two_numbers : (P : List Value → Type 0) → ((x y : ℤ) → P (num x ∷ num y ∷ [])) → (xs : List Value) → HaveBases (Int ∷ Int ∷ []) xs → P xs
two_numbers P f [] h = absurd h
two_numbers P f (v ∷ []) h = absurd h.1
two_numbers P f (v ∷ w ∷ []) h =
    subst (λ u. P (u ∷ w ∷ [])) (sym h.0.1) (subst (λ u. P (num h.0.0 ∷ u ∷ [])) (sym h.1.0.1) (f h.0.0 h.1.0.0))
two_numbers P f (v ∷ w ∷ u ∷ vs) h = absurd h.1.1

mixed-allows : Allowed [] mixed (num (pos 5) ∷ []) (values (num (pos 3) ∷ num (pos 0) ∷ []))
mixed-allows = (
  [],
  (((pos 3, refl), ((pos 0, refl), tt)), tt, tt, (box_is (pos 5) (pos 3) (pos 0)).0),
  (
    negsuc 2 ∷ pos 0 ∷ [],
    (pair_are (pos 5) (pos 3) (pos 0)).0,
    λ ys ls ws s o b.
        two_numbers
        (λ ys. Allowed [] in_box (num (pos 5) ∷ (ys ++ ls)) (values (truth true ∷ []))
        → Allowed [] (expr_tuple objective) (num (pos 5) ∷ (ys ++ ls)) (values (map number ws)) → ⊥)
        (λ x y. none_hidden
        (λ ls. Allowed [] in_box (num (pos 5) ∷ num x ∷ num y ∷ ls) (values (truth true ∷ []))
        → Allowed [] (expr_tuple objective) (num (pos 5) ∷ num x ∷ num y ∷ ls) (values (map number ws)) → ⊥)
        (λ h o.
        let e : values (map number ws) ≡ values (num (neg_ℤ x) ∷ num y ∷ []) = (pair_are (pos 5) x y).1 (values (map number ws)) o in
        no_better x y (box_so (pos 5) x y h) (subst (λ us. IsBefore us (negsuc 2 ∷ pos 0 ∷ [])) (pair_so ws (neg_ℤ x) y e) b))
        ls s.1)
        ys s.0 s.3 o,
  ),
)
  where
    no_better : (x y : ℤ) → (x ≤ℤ pos 3) × (pos 0 ≤ℤ y) → IsBefore (neg_ℤ x ∷ y ∷ []) (negsuc 2 ∷ pos 0 ∷ []) → ⊥
    no_better x y (p, q) (inl h) = omega (arith, ints, p, h)
    no_better x y (p, q) (inr (e, inl h)) = omega (arith, ints, q, h)
    no_better x y (p, q) (inr (e, inr h)) = h.1

-- the second number is worse, and in (2, 0) the first
mixed-best : (x y : ℤ) → IsBefore (negsuc 2 ∷ pos 0 ∷ []) (neg_ℤ x ∷ y ∷ []) → Allowed [] mixed (num (pos 5) ∷ []) (values (num x ∷ num y ∷ [])) → ⊥
mixed-best x y better (ks, s, (zs, o, best)) =
    none_hidden (λ ks. Allowed [] (expr_tuple objective) (num (pos 5) ∷ num x ∷ num y ∷ ks) (values (map number zs)) → ⊥)
    (λ o.
    let e : values (map number zs) ≡ values (num (neg_ℤ x) ∷ num y ∷ []) = (pair_are (pos 5) x y).1 (values (map number zs)) o in
    subst (λ us. IsBefore (negsuc 2 ∷ pos 0 ∷ []) us → ⊥) (pair_so zs (neg_ℤ x) y e)
    (best (num (pos 3) ∷ num (pos 0) ∷ []) [] (negsuc 2 ∷ pos 0 ∷ [])
    (((pos 3, refl), ((pos 0, refl), tt)), tt, tt, (box_is (pos 5) (pos 3) (pos 0)).0) (pair_are (pos 5) (pos 3) (pos 0)).0)
    better)
    ks s.1 o

mixed-allows_no_3_1 : Allowed [] mixed (num (pos 5) ∷ []) (values (num (pos 3) ∷ num (pos 1) ∷ [])) → ⊥
mixed-allows_no_3_1 = mixed-best (pos 3) (pos 1) (inr (refl, inl (omega (arith, ints))))

mixed-allows_no_2_0 : Allowed [] mixed (num (pos 5) ∷ []) (values (num (pos 2) ∷ num (pos 0) ∷ [])) → ⊥
mixed-allows_no_2_0 = mixed-best (pos 2) (pos 0) (inl (omega (arith, ints)))

-- `choose (x: int) given even(a) where 2 * x == a`, with a function of the program
abbrev even : ExprTree
even = expr_divides (pos 2) (var 0)

abbrev given_even : ExprTree
given_even =
    expr_choose_where 1 [] (Int ∷ []) [] (holds_where (expr_call 0 (exprs_of (var 0 ∷ []))))
    (expr_binary (Compare Eq) (expr_binary Mul (lit 2) (var 1)) (var 0)) at_any

call_is : (a : ℤ) → Is (AllowedCall (even ∷ [])) (expr_call 0 (exprs_of (var 0 ∷ []))) (num a ∷ []) (truth (is_multiple (pos 2) a))
call_is a =
    then_only (num a ∷ []) (truth (is_multiple (pos 2) a) ∷ [])
    (more_are (AllowedCall (even ∷ [])) (num a ∷ []) (var 0) no_exprs (num a) [] (refl, λ o s. s) (refl, λ o s. s))
    (then_only (num a ∷ []) (truth (is_multiple (pos 2) a) ∷ []) (refl, λ o s. s) (refl, λ o s. s))

given_even-allows : Allowed (even ∷ []) given_even (num (pos 4) ∷ []) (values (num (pos 2) ∷ []))
given_even-allows = (
  [],
  (
    ((pos 2, refl), tt),
    tt,
    (call_is (pos 4)).0,
    goes_on (num (pos 4) ∷ []) (goes_on (num (pos 2) ∷ []) refl (goes_on (num (pos 2) ∷ []) refl refl)) (goes_on (num (pos 4) ∷ []) refl refl),
  ),
  tt,
)

given_even-fails : Allowed (even ∷ []) given_even (num (pos 3) ∷ []) (no_solution 1)
given_even-fails = (refl, λ xs s. let e : false ≡ true = true_so false (call_is (pos 3)) s.1.2 in cc)

-- where nothing is chosen, also in the functions that are called
chooses-nothing : (ChoosesNothing (even ∷ []) (expr_call 0 (exprs_of (var 0 ∷ [])))) × (ChoosesNothing [] (nothing 1) → ⊥)
    × (ChoosesNothing (nothing 1 ∷ []) (expr_call 0 (exprs_of [])) → ⊥) × (ChoosesNothing [] given_even → ⊥)
chooses-nothing = ((tt, (tt, tt)), λ s. s, λ s. s.0, λ s. s)
