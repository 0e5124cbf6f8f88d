-- The source of a workload as a tree, whatever the places in it are, and the same with levels in the place of names.
use Rattle.std.specs.Prelude.{ℕ, zero, suc, ◌+◌, ◌-◌, ◌≡◌, pos, List, [], ◌∷◌, ◌++◌, length, codes, decimal}
use Rattle.cf_tree.specs.declared.base.Base.TheVariants.{Int}
use Rattle.cf_tree.specs.declared.base.Order.TheVariants.{Eq, Le, Lt}
use Rattle.cf_tree.specs.declared.base.Place.{Place}
use Rattle.cf_tree.specs.declared.raw.BinOp.{BinOp}
use Rattle.cf_tree.specs.declared.raw.BinOp.TheVariants.{Add, Mul, And, Compare}
use Rattle.cf_tree.specs.declared.raw.Param.{Param}
use Rattle.cf_tree.specs.Params.{bases_of}
use Rattle.cf_tree.specs.DefView.{RawDefTree}
use Rattle.cf_tree.specs.ExprTree.{ExprTree, expr_var, expr_binary, expr_call, expr_let, expr_choose, no_exprs, expr_more}
use Rattle.cf_tree.specs.RawTree.{RawTree, raw_lit, raw_name, raw_binary, raw_call, raw_let, raw_choose, no_given, no_aim, no_raws, raw_more}
use Rattle.cf_tree.specs.RelTree.{RelTree, term_lit, term_var, term_add, term_mul, rel_compare, rel_and}

abbrev pub Shape : Type 1
Shape = RawTree → Type 0

abbrev pub IsName : List ℕ → Shape
IsName x t = (p : Place) × (t ≡ raw_name p x)

abbrev pub IsLit : ℕ → Shape
IsLit k t = (p : Place) × (t ≡ raw_lit p (pos k))

abbrev pub IsBoth : BinOp → Shape → Shape → Shape
IsBoth op A B t = (p : Place) × (a : RawTree) × (b : RawTree) × A a × B b × (t ≡ raw_binary p op a b)

abbrev pub number_at : Place → List ℕ → Param
number_at p x = record { place = p; name = x; base = Int }

-- a == c * q + r && 0 <= r && r < c
abbrev pub IsEqual : ℕ → Shape
IsEqual c = IsBoth (Compare Eq) (IsName (codes "a")) (IsBoth Add (IsBoth Mul (IsLit c) (IsName (codes "q"))) (IsName (codes "r")))

abbrev pub IsRelation : ℕ → Shape
IsRelation c =
    IsBoth And (IsBoth And (IsEqual c) (IsBoth (Compare Le) (IsLit 0) (IsName (codes "r")))) (IsBoth (Compare Lt) (IsName (codes "r")) (IsLit c))

-- choose (q: int, r: int) where the relation
abbrev pub IsChoose : ℕ → Shape
IsChoose c t =
    (p : Place) × (q : Place) × (r : Place) × (e : RawTree) × IsRelation c e
    × (t ≡ raw_choose p (number_at q (codes "q") ∷ number_at r (codes "r") ∷ []) [] no_given e no_aim)

-- let (q, r) = the choose in q + r
abbrev pub IsBody : ℕ → Shape
IsBody c t =
    (p : Place) × (q : Place) × (r : Place) × (e : RawTree) × (f : RawTree) × IsChoose c e × IsBoth Add (IsName (codes "q")) (IsName (codes "r")) f
    × (t ≡ raw_let p (codes "q" ∷ codes "r" ∷ []) (q ∷ r ∷ []) e f)

abbrev pub function_name : ℕ → List ℕ
function_name i = codes "f" ++ decimal i

abbrev pub IsCall : ℕ → Shape
IsCall i t = (p : Place) × (q : Place) × (t ≡ raw_call p (function_name i) (raw_more (raw_name q (codes "a")) no_raws))

-- the calls of function 1 and of m more, added from the left
abbrev pub AreCalls : ℕ → Shape
AreCalls zero = IsCall 1
AreCalls (suc m) = IsBoth Add (AreCalls m) (IsCall (m + 2))

-- a function of one number a that gives a number
abbrev pub IsDef : List ℕ → Shape → RawDefTree → Type 0
IsDef x A d = (p : Place) × (a : Place) × (t : RawTree) × A t × (d ≡ record {
  place = p;
  name = x;
  params = number_at a (codes "a") ∷ [];
  results =
      Int ∷ [];
  body = t;
})

-- functions with these coefficients, the first of which has number i, and main, which calls the first function and m more
abbrev pub AreDefs : ℕ → ℕ → List ℕ → List RawDefTree → Type 0
AreDefs m i cs [] = ⊥
AreDefs m i [] (d ∷ ds) = IsDef (codes "main") (AreCalls m) d × (ds ≡ [])
AreDefs m i (c ∷ cs) (d ∷ ds) = IsDef (function_name i) (IsBody c) d × AreDefs m (i + 1) cs ds

-- ---- with levels in the place of names
-- a == c * q + r && 0 <= r && r < c, where a, q and r have the levels 0, 1 and 2
abbrev pub function_rel : ℕ → RelTree
function_rel c =
    rel_and (rel_and (rel_compare Eq (term_var 0) (term_add (term_mul (term_lit (pos c)) (term_var 1)) (term_var 2)))
    (rel_compare Le (term_lit (pos 0)) (term_var 2)))
    (rel_compare Lt (term_var 2) (term_lit (pos c)))

-- let (q, r) = the choose of that relation in q + r, whatever number and names the choose has
abbrev pub IsFunction : ℕ → ExprTree → Type 0
IsFunction c body =
    (n : ℕ) × (scope : List Param) × (bases_of scope ≡ Int ∷ [])
    × (body ≡ expr_let 2 (expr_choose n scope (Int ∷ Int ∷ []) (function_rel c)) (expr_binary Add (expr_var 1) (expr_var 2)))

-- functions with these coefficients
abbrev pub AreFunctions : List ℕ → List ExprTree → Type 0
AreFunctions [] [] = Unit {0}
AreFunctions [] (e ∷ es) = ⊥
AreFunctions (c ∷ cs) [] = ⊥
AreFunctions (c ∷ cs) (e ∷ es) = IsFunction c e × AreFunctions cs es

abbrev pub call_of : ℕ → ExprTree
call_of i = expr_call i (expr_more (expr_var 0) no_exprs)

-- the calls of the functions up to number m, added from the left
abbrev pub calls_of : ℕ → ExprTree
calls_of zero = call_of 0
calls_of (suc m) = expr_binary Add (calls_of m) (call_of (suc m))

-- functions with these coefficients, and behind them main, which adds their calls
abbrev pub IsWorkload : List ℕ → List ExprTree → ℕ → Type 0
IsWorkload cs bodies main = (functions : List ExprTree) × AreFunctions cs functions × (bodies ≡ functions ++ calls_of (length cs - 1) ∷ []) × (main ≡ length cs)
