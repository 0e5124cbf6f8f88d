-- Numbers, relations and codes as terms of SMT-LIB.
use Rattle.std.specs.Prelude.{ℕ, suc, ℤ, pos, int_lt, unsigned_abs, ◌-◌, List, [], ◌++◌, length, decimal, codes, slice_index_or, if◌then◌else◌}
use Rattle.cf_tree.specs.declared.base.Order.{Order}
use Rattle.cf_tree.specs.declared.base.Order.TheVariants.{Eq, Ne, Lt, Le, Gt, Ge}
use Rattle.cf_tree.specs.Words.{truth_text}
use Rattle.cf_tree.specs.RelTree.{TermTree, term_lit, term_var, term_card, term_neg, term_add, term_sub, term_mul, term_div, term_mod, term_abs, RelTree, rel_true, rel_false, rel_compare, rel_same_set, rel_other_set, rel_subset, rel_divides, rel_and, rel_or, rel_not}
use Rattle.cf_tree.specs.CodeTree.{CodeTree, code_lit, code_truth, code_var, code_set_of, code_tuple, code_sum, code_sub, code_mul, code_neg, code_div, code_mod, code_min, code_max, code_compare, code_divides, code_and, code_or, code_not, code_union, code_inter, code_diff, code_subset, code_card, code_slice, code_fresh, code_if, code_let, code_solve, CodeTrees, no_codes, code_more, count}
use Rattle.cf_print.specs.Pieces.{repeated}

-- a numeral has no sign
abbrev pub number_text : ℤ → List ℕ
number_text k = if int_lt k (pos 0) then codes "(- " ++ decimal (unsigned_abs k) ++ codes ")" else decimal (unsigned_abs k)

-- the k-th let of an arm: n1., n2., ..
abbrev pub let_name : ℕ → List ℕ
let_name k = codes "n" ++ decimal (suc k) ++ codes "."

-- the name of a variable by its level; what stands behind those that have one are lets
abbrev pub name_of : List (List ℕ) → ℕ → List ℕ
name_of names x = slice_index_or names x (let_name (x - length names))

abbrev pub order_word : Order → List ℕ
order_word Eq = codes "(= "
order_word Ne = codes "(distinct "
order_word Lt = codes "(< "
order_word Le = codes "(<= "
order_word Gt = codes "(> "
order_word Ge = codes "(>= "

-- a word with its parenthesis, before one term or two
abbrev pub on_one : List ℕ → List ℕ → List ℕ
on_one word a = word ++ a ++ codes ")"

abbrev pub on_two : List ℕ → List ℕ → List ℕ → List ℕ
on_two word a b = word ++ a ++ codes " " ++ b ++ codes ")"

-- whether a number divides a term
abbrev pub divides_text : ℤ → List ℕ → List ℕ
divides_text k a = codes "(= (mod " ++ a ++ codes " " ++ number_text k ++ codes ") 0)"

-- the words of the lesser and the greater of two terms
unfoldable pub least_word : List ℕ
least_word = codes "(least. "

unfoldable pub greatest_word : List ℕ
greatest_word = codes "(greatest. "

-- a number form of a relation; how many elements a set has is no form here
abbrev pub term_text : List (List ℕ) → TermTree → List ℕ
term_text names (term_lit k) = number_text k
term_text names (term_var x) = name_of names x
term_text names (term_card s) = []
term_text names (term_neg a) = on_one (codes "(- ") (term_text names a)
term_text names (term_add a b) = on_two (codes "(+ ") (term_text names a) (term_text names b)
term_text names (term_sub a b) = on_two (codes "(- ") (term_text names a) (term_text names b)
term_text names (term_mul a b) = on_two (codes "(* ") (term_text names a) (term_text names b)
term_text names (term_div a k) = on_two (codes "(div ") (term_text names a) (number_text k)
term_text names (term_mod a k) = on_two (codes "(mod ") (term_text names a) (number_text k)
term_text names (term_abs a) = on_one (codes "(abs ") (term_text names a)

-- a relation without sets
abbrev pub rel_text : List (List ℕ) → RelTree → List ℕ
rel_text names rel_true = codes "true"
rel_text names rel_false = codes "false"
rel_text names (rel_compare o a b) = on_two (order_word o) (term_text names a) (term_text names b)
rel_text names (rel_same_set a b) = []
rel_text names (rel_other_set a b) = []
rel_text names (rel_subset a b) = []
rel_text names (rel_divides k a) = divides_text k (term_text names a)
rel_text names (rel_and a b) = on_two (codes "(and ") (rel_text names a) (rel_text names b)
rel_text names (rel_or a b) = on_two (codes "(or ") (rel_text names a) (rel_text names b)
rel_text names (rel_not a) = on_one (codes "(not ") (rel_text names a)

-- a code without sets: the least and the greatest of several are taken two at a time
abbrev mutual
  pub code_text : List (List ℕ) → CodeTree → List ℕ
  code_text names (code_lit k) = number_text k
  code_text names (code_truth t) = truth_text t
  code_text names (code_var x) = name_of names x
  code_text names (code_set_of cs) = []
  code_text names (code_tuple cs) = []
  code_text names (code_sum cs) = codes "(+" ++ parts_text names cs ++ codes ")"
  code_text names (code_sub a b) = on_two (codes "(- ") (code_text names a) (code_text names b)
  code_text names (code_mul a b) = on_two (codes "(* ") (code_text names a) (code_text names b)
  code_text names (code_neg a) = on_one (codes "(- ") (code_text names a)
  code_text names (code_div a k) = on_two (codes "(div ") (code_text names a) (number_text k)
  code_text names (code_mod a k) = on_two (codes "(mod ") (code_text names a) (number_text k)
  code_text names (code_min cs) = paired_text names least_word cs
  code_text names (code_max cs) = paired_text names greatest_word cs
  code_text names (code_compare o a b) = on_two (order_word o) (code_text names a) (code_text names b)
  code_text names (code_divides k a) = divides_text k (code_text names a)
  code_text names (code_and a b) = on_two (codes "(and ") (code_text names a) (code_text names b)
  code_text names (code_or a b) = on_two (codes "(or ") (code_text names a) (code_text names b)
  code_text names (code_not a) = on_one (codes "(not ") (code_text names a)
  code_text names (code_union cs) = []
  code_text names (code_inter cs) = []
  code_text names (code_diff a b) = []
  code_text names (code_subset a b) = []
  code_text names (code_card a) = []
  code_text names (code_slice a b c) = []
  code_text names (code_fresh a b) = []
  code_text names (code_if t a b) = codes "(ite " ++ code_text names t ++ codes " " ++ code_text names a ++ codes " " ++ code_text names b ++ codes ")"
  code_text names (code_let first n a b) =
      codes "(let ((" ++ name_of names first ++ codes " " ++ code_text names a ++ codes ")) " ++ code_text names b ++ codes ")"
  code_text names (code_solve n arms) = []

  -- codes with a space before each
  pub parts_text : List (List ℕ) → CodeTrees → List ℕ
  parts_text names no_codes = []
  parts_text names (code_more c cs) = codes " " ++ code_text names c ++ parts_text names cs

  -- a word on the first two codes, then on that and the third, and so on
  pub paired_text : List (List ℕ) → List ℕ → CodeTrees → List ℕ
  paired_text names word no_codes = []
  paired_text names word (code_more c cs) = repeated (count cs) word ++ code_text names c ++ paired_behind names cs

  pub paired_behind : List (List ℕ) → CodeTrees → List ℕ
  paired_behind names no_codes = []
  paired_behind names (code_more c cs) = codes " " ++ code_text names c ++ codes ")" ++ paired_behind names cs
