-- Worked examples: which codes are expressions, how deep a plain one may be, and blocks that evaluate one that is not plain.
use Rattle.std.specs.Prelude.{◌≡◌, ℕ, zero, suc, pos, Bool, true, false, ◌&&◌, ◌||◌, List, [], ◌∷◌, refl}
use Rattle.cf_tree.specs.declared.base.Order.TheVariants.{Ge}
use Rattle.cf_tree.specs.CodeTree.{CodeTree, code_lit, code_truth, code_var, code_set_of, code_tuple, code_sum, code_sub, code_mul, code_neg, code_div, code_mod, code_min, code_max, code_compare, code_divides, code_and, code_or, code_not, code_union, code_inter, code_diff, code_subset, code_card, code_slice, code_fresh, code_if, code_let, code_solve, codes_of, arms_of}
use Rattle.cf_stmt.specs.Blocks.{Block, give, none, leave, bind, part, join, test, arm}
use Rattle.cf_stmt.specs.Expressions.{is_expression, is_plain, gives_plain, EvaluatesPlain}

abbrev v : CodeTree
v = code_var 0

-- each form over this code, at each of its places
abbrev forms : CodeTree → List CodeTree
forms c =
    code_set_of (codes_of (v ∷ c ∷ [])) ∷ code_set_of (codes_of (c ∷ v ∷ [])) ∷ code_sum (codes_of (v ∷ c ∷ [])) ∷ code_min (codes_of (c ∷ []))
    ∷ code_max (codes_of (c ∷ [])) ∷ code_union (codes_of (c ∷ [])) ∷ code_inter (codes_of (c ∷ [])) ∷ code_neg c ∷ code_div c (pos 2)
    ∷ code_mod c (pos 2) ∷ code_divides (pos 2) c ∷ code_not c ∷ code_card c ∷ code_sub c v ∷ code_sub v c ∷ code_mul c v ∷ code_mul v c
    ∷ code_compare Ge c v ∷ code_compare Ge v c ∷ code_and c v ∷ code_and v c ∷ code_or c v ∷ code_or v c ∷ code_diff c v ∷ code_diff v c
    ∷ code_subset c v ∷ code_subset v c ∷ code_fresh c v ∷ code_fresh v c ∷ code_slice c v v ∷ code_slice v c v ∷ code_slice v v c
    ∷ code_if c v v ∷ code_if v c v ∷ code_if v v c ∷ []

abbrev all_are : List CodeTree → Bool
all_are [] = true
all_are (c ∷ cs) = is_expression c && all_are cs

abbrev some_is : List CodeTree → Bool
some_is [] = false
some_is (c ∷ cs) = is_expression c || some_is cs

over_leaves : all_are (code_lit (pos 1) ∷ code_truth true ∷ v ∷ forms v) ≡ true
over_leaves = refl

over_a_let : some_is (code_let 1 1 v v ∷ forms (code_let 1 1 v v)) ≡ false
over_a_let = refl

others : some_is (code_solve 1 (arms_of []) ∷ code_tuple (codes_of (v ∷ [])) ∷ []) ≡ false
others = refl

abbrev deep : ℕ → CodeTree
deep zero = v
deep (suc n) = code_neg (deep n)

as_deep_as_may_be : is_plain (deep 29) ≡ true
as_deep_as_may_be = refl

too_deep : is_plain (deep 30) ≡ false
too_deep = refl

a_plain_let : is_plain (code_let 1 1 v v) ≡ false
a_plain_let = refl

tuple_of_deep : gives_plain (code_tuple (codes_of (v ∷ deep 29 ∷ []))) ≡ true
tuple_of_deep = refl

tuple_too_deep : gives_plain (code_tuple (codes_of (v ∷ deep 30 ∷ []))) ≡ false
tuple_too_deep = refl

gives_deep : gives_plain (deep 30) ≡ false
gives_deep = refl

-- ---- blocks
abbrev good : Block
good = give (deep 29)

abbrev bad : Block
bad = give (deep 30)

not_true : false ≡ true → ⊥
not_true e = cc

all_good : EvaluatesPlain (bind (part good (join good good)) (arm (3 ∷ []) (test good good leave) (none 1)))
all_good = ((refl, (refl, refl)), ((refl, refl, tt), tt))

bad_bind : EvaluatesPlain (bind bad good) → ⊥
bad_bind h = not_true h.0

bad_behind_bind : EvaluatesPlain (bind good bad) → ⊥
bad_behind_bind h = not_true h.1

bad_part : EvaluatesPlain (part bad good) → ⊥
bad_part h = not_true h.0

bad_behind_part : EvaluatesPlain (part good bad) → ⊥
bad_behind_part h = not_true h.1

bad_join : EvaluatesPlain (join bad good) → ⊥
bad_join h = not_true h.0

bad_behind_join : EvaluatesPlain (join good bad) → ⊥
bad_behind_join h = not_true h.1

bad_test : EvaluatesPlain (test bad good good) → ⊥
bad_test h = not_true h.0

bad_yes : EvaluatesPlain (test good bad good) → ⊥
bad_yes h = not_true h.1

bad_no : EvaluatesPlain (test good good bad) → ⊥
bad_no h = not_true h.2

bad_arm : EvaluatesPlain (arm [] bad good) → ⊥
bad_arm h = not_true h.0

bad_behind_arm : EvaluatesPlain (arm [] good bad) → ⊥
bad_behind_arm h = not_true h.1
