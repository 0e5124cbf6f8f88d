-- Worked examples of what the values in a relation hold, and of the first form that is not linear.
use Rattle.std.specs.Prelude.{ℕ, pos, Bool, true, false, ◌≡◌, List, [], ◌∷◌, ◌++◌, map, codes, refl}
use Rattle.cf_tree.specs.declared.base.Base.TheVariants.{Int, Bool as Truth}
use Rattle.cf_tree.specs.declared.base.Order.TheVariants.{Eq, Lt}
use Rattle.cf_tree.specs.declared.raw.BinOp.{BinOp}
use Rattle.cf_tree.specs.declared.raw.BinOp.TheVariants.{Add, Sub, Mul, And, Or, Union, Inter, Diff, Subset, Implies, Compare}
use Rattle.cf_tree.specs.DefView.{RawDefTree}
use Rattle.cf_tree.specs.RawTree.{RawTree, raw_lit, raw_truth, raw_name, raw_set_of, raw_group, raw_tuple, raw_neg, raw_not, raw_abs, raw_binary, raw_chain, raw_min, raw_max, raw_divides, raw_div, raw_mod, raw_card, raw_call, raw_if, raw_let, raw_choose, raw_match, raws_of, raw_arms_of, number_lit, no_given, no_aim}
use Rattle.cf_program.specs.Linear.{Held, is_constant, is_known, is_unknown, Found, linear, bends, Holder, in_choose, found_in, a_choose, a_match, a_set_literal, a_product_with_inputs, a_product_of_unknowns, a_call}
use Rattle.cf_program.proofs.RuleExamples.{on, param}

-- one value that is known, and one that is not
abbrev vs : List Holder
vs = record { name = codes "k"; held = is_known } ∷ record { name = codes "u"; held = is_unknown } ∷ []

abbrev three : RawTree
three = raw_lit (on 1 1) (pos 3)

abbrev k : RawTree
k = raw_name (on 1 2) (codes "k")

abbrev u : RawTree
u = raw_name (on 1 3) (codes "u")

-- u * u at 1:4
abbrev square : RawTree
square = raw_binary (on 1 4) Mul u u

abbrev plain : RawTree → Found
plain = found_in false [] vs

abbrev late : RawTree → Found
late = found_in true [] vs

abbrev one : Held → Found
one h = linear (h ∷ [])

abbrev bent : Found
bent = bends (on 1 4) a_product_of_unknowns

leaves : map plain (three ∷ raw_truth (on 1 5) true ∷ k ∷ u ∷ raw_name (on 1 5) (codes "n") ∷ raw_set_of (on 1 5) (raws_of []) ∷ []) ≡
    one is_constant ∷ one is_constant ∷ one is_known ∷ one is_unknown ∷ one is_constant ∷ one is_constant ∷ []
leaves = refl

last_of_a_name : found_in false [] (vs ++ record { name = codes "k"; held = is_unknown } ∷ []) k ≡ one is_unknown
last_of_a_name = refl

in_a_choose : in_choose (param (on 1 1) (codes "k") Int ∷ []) (param (on 1 2) (codes "u") Truth ∷ []) ≡ vs
in_a_choose = refl

-- ---- what its part holds, or unknown
abbrev of_one : RawTree → List RawTree
of_one a =
    raw_group (on 1 5) a ∷ raw_neg (on 1 5) a ∷ raw_not (on 1 5) a ∷ raw_abs (on 1 5) a ∷ raw_divides (on 1 5) (number_lit (pos 2)) a ∷ []

abbrev new_of_one : RawTree → List RawTree
new_of_one a = raw_div (on 1 5) a (number_lit (pos 2)) ∷ raw_mod (on 1 5) a (number_lit (pos 2)) ∷ raw_card (on 1 5) a ∷ []

parts_held : map plain (of_one k) ≡ one is_known ∷ one is_known ∷ one is_known ∷ one is_known ∷ one is_known ∷ []
parts_held = refl

parts_new : map plain (new_of_one three) ≡ one is_unknown ∷ one is_unknown ∷ one is_unknown ∷ []
parts_new = refl

parts_bend : map plain (of_one square ++ new_of_one square) ≡ bent ∷ bent ∷ bent ∷ bent ∷ bent ∷ bent ∷ bent ∷ bent ∷ []
parts_bend = refl

-- ---- parts in a row
abbrev of_row : List RawTree → List RawTree
of_row es = raw_chain (on 1 5) (Lt ∷ []) (on 1 6 ∷ []) (raws_of es) ∷ raw_min (on 1 5) (raws_of es) ∷ raw_max (on 1 5) (raws_of es) ∷ []

rows_held : map plain (of_row (three ∷ k ∷ []) ++ of_row (three ∷ u ∷ k ∷ [])) ≡
    one is_known ∷ one is_known ∷ one is_known ∷ one is_unknown ∷ one is_unknown ∷ one is_unknown ∷ []
rows_held = refl

rows_bend : map plain (of_row (k ∷ square ∷ raw_set_of (on 1 9) (raws_of (k ∷ [])) ∷ [])) ≡ bent ∷ bent ∷ bent ∷ []
rows_bend = refl

tuples : map plain (raw_tuple (on 1 5) (raws_of (three ∷ u ∷ k ∷ [])) ∷ raw_tuple (on 1 5) (raws_of (three ∷ square ∷ [])) ∷ []) ≡
    linear (is_constant ∷ is_unknown ∷ is_known ∷ []) ∷ bent ∷ []
tuples = refl

sets : map plain (raw_set_of (on 1 5) (raws_of (three ∷ [])) ∷ raw_set_of (on 1 5) (raws_of (three ∷ square ∷ [])) ∷ []) ≡
    bends (on 1 5) a_set_literal ∷ bent ∷ []
sets = refl

-- ---- operations
abbrev op : BinOp → RawTree → RawTree → RawTree
op o a b = raw_binary (on 1 5) o a b

abbrev others : List BinOp
others = Add ∷ Sub ∷ And ∷ Or ∷ Union ∷ Inter ∷ Diff ∷ Subset ∷ Implies ∷ Compare Eq ∷ Compare Lt ∷ []

sides_hold : map (λ o. plain (op o three k)) others ++ map (λ o. plain (op o u k)) others ++ map (λ o. plain (op o three three)) others ≡
    map (λ o. one is_known) others ++ map (λ o. one is_unknown) others ++ map (λ o. one is_constant) others
sides_hold = refl

sides_bend : plain (op Add square (op Mul k k)) ≡ bent
sides_bend = refl

right_bends : plain (op Add u square) ≡ bent
right_bends = refl

abbrev products : List RawTree
products =
    op Mul three three ∷ op Mul three k ∷ op Mul three u ∷ op Mul k three ∷ op Mul k k ∷ op Mul k u ∷ op Mul u three ∷ op Mul u k ∷ op Mul u u ∷ []

abbrev with_inputs : Found
with_inputs = bends (on 1 5) a_product_with_inputs

plain_products : map plain products ≡
    one is_constant ∷ one is_known ∷ one is_unknown ∷ one is_known ∷ with_inputs ∷ with_inputs ∷ one is_unknown ∷ with_inputs
    ∷ bends (on 1 5) a_product_of_unknowns ∷ []
plain_products = refl

late_products : map late products ≡
    one is_constant ∷ one is_known ∷ one is_unknown ∷ one is_known ∷ one is_known ∷ one is_unknown ∷ one is_unknown ∷ one is_unknown
    ∷ bends (on 1 5) a_product_of_unknowns ∷ []
late_products = refl

-- ---- branches and lets
abbrev pair : RawTree → RawTree → RawTree
pair a b = raw_tuple (on 1 6) (raws_of (a ∷ b ∷ []))

branches : plain (raw_if (on 1 5) u (pair three k) (pair k three)) ≡ linear (is_known ∷ is_known ∷ [])
branches = refl

branches_bend : map plain (raw_if (on 1 5) square k k ∷ raw_if (on 1 5) k square k ∷ raw_if (on 1 5) k k square ∷ []) ≡ bent ∷ bent ∷ bent ∷ []
branches_bend = refl

lets : plain (raw_let (on 1 5) (codes "a" ∷ codes "b" ∷ []) (on 1 6 ∷ on 1 7 ∷ []) (pair three u)
    (pair (raw_name (on 1 8) (codes "b")) (raw_name (on 1 9) (codes "a")))) ≡ linear (is_unknown ∷ is_constant ∷ [])
lets = refl

hiding_let : plain (raw_let (on 1 5) (codes "u" ∷ []) (on 1 6 ∷ []) three square) ≡ one is_constant
hiding_let = refl

let_bends : plain (raw_let (on 1 5) (codes "a" ∷ []) (on 1 6 ∷ []) square three) ≡ bent
let_bends = refl

-- ---- a choose and a match, whatever stands in them
chooses : map plain (raw_choose (on 1 5) [] [] no_given square no_aim ∷ raw_match (on 1 5) square (raw_arms_of []) ∷ []) ≡
    bends (on 1 5) a_choose ∷ bends (on 1 5) a_match ∷ []
chooses = refl

-- ---- calls of the functions before, the last first: f, which calls g, and two of the name g
abbrev def : List ℕ → RawTree → RawDefTree
def f body = record { place = on 1 1; name = f; params = param (on 1 1) (codes "x") Int ∷ []; results = Int ∷ []; body = body }

abbrev x : RawTree
x = raw_name (on 2 1) (codes "x")

abbrev call : List ℕ → RawTree → RawTree
call f a = raw_call (on 3 1) f (raws_of (a ∷ []))

abbrev functions : List RawDefTree
functions = def (codes "f") (raw_call (on 2 2) (codes "g") (raws_of (x ∷ []))) ∷ def (codes "g") (raw_binary (on 2 3) Mul x x) ∷ def (codes "g") x ∷ []

abbrev behind : RawTree → Found
behind = found_in false functions vs

calls : map behind (call (codes "g") three ∷ call (codes "g") u ∷ call (codes "f") u ∷ call (codes "f") k ∷ call (codes "f") square ∷ call (codes "h") u ∷ []) ≡
    one is_constant ∷ bends (on 3 1) (a_call (codes "g") a_product_of_unknowns)
    ∷ bends (on 3 1) (a_call (codes "f") (a_call (codes "g") a_product_of_unknowns))
    ∷ bends (on 3 1) (a_call (codes "f") (a_call (codes "g") a_product_with_inputs)) ∷ bent ∷ linear [] ∷ []
calls = refl

-- a function sees those before it alone, and no variable of the caller
itself : map (found_in false (def (codes "g") (call (codes "g") x) ∷ def (codes "g") u ∷ []) vs) (call (codes "g") k ∷ []) ≡ one is_constant ∷ []
itself = refl
