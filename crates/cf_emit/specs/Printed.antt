-- The printed form of a target.
use Rattle.std.specs.Prelude.{ℕ, zero, suc, List, [], ◌∷◌, ◌++◌, map, codes, decimal}
use Rattle.std.specs.Fmt.{signed_decimal}
use Rattle.cf_tree.specs.Words.{truth_text}
use Rattle.cf_tree.specs.declared.base.Base.{Base}
use Rattle.cf_tree.specs.declared.base.Base.TheVariants.{Int, Bool as Truth, Set}
use Rattle.cf_tree.specs.declared.base.Edition.{Edition}
use Rattle.cf_tree.specs.declared.base.Edition.TheVariants.{Two, Three}
use Rattle.cf_tree.specs.declared.base.Order.{Order}
use Rattle.cf_tree.specs.declared.base.Order.TheVariants.{Eq, Ne, Lt, Le, Gt, Ge}
use Rattle.cf_tree.specs.declared.target.RawTarget.{RawTarget}
use Rattle.cf_tree.specs.CodeTree.{CodeTree, code_lit, code_truth, code_var, code_set_of, code_tuple, code_sum, code_sub, code_mul, code_neg, code_div, code_mod, code_min, code_max, code_compare, code_divides, code_and, code_or, code_not, code_union, code_inter, code_diff, code_subset, code_card, code_slice, code_fresh, code_if, code_let, code_solve, CodeTrees, no_codes, code_more, ItemTree, let_item, need_item, ItemTrees, no_items, item_more, ArmTree, arm_of, ArmTrees, no_arms, arm_more}
use Rattle.cf_tree.specs.CodeView.{code_tree}

-- a line feed
abbrev pub line_end : List ℕ
line_end = 10 ∷ []

abbrev pub base_text : Base → List ℕ
base_text Int = codes "int"
base_text Truth = codes "bool"
base_text Set = codes "set"

-- the sign of an order, with a space on each side
abbrev pub order_text : Order → List ℕ
order_text Eq = codes " == "
order_text Ne = codes " != "
order_text Lt = codes " < "
order_text Le = codes " <= "
order_text Gt = codes " > "
order_text Ge = codes " >= "

-- a variable is a v and its level
abbrev pub variable_text : ℕ → List ℕ
variable_text x = codes "v" ++ decimal x

-- n more variables from level x on, a comma and a space before each
abbrev pub more_variables : ℕ → ℕ → List ℕ
more_variables x zero = []
more_variables x (suc n) = codes ", " ++ variable_text x ++ more_variables (suc x) n

-- the n variables of a let, from level x on: one alone, and several as a tuple
abbrev pub variables_text : ℕ → ℕ → List ℕ
variables_text x zero = codes "()"
variables_text x (suc zero) = variable_text x
variables_text x (suc (suc n)) = codes "(" ++ variable_text x ++ more_variables (suc x) (suc n) ++ codes ")"

-- texts with a comma and a space between each two
abbrev pub more_texts : List (List ℕ) → List ℕ
more_texts [] = []
more_texts (t ∷ ts) = codes ", " ++ t ++ more_texts ts

abbrev pub listed : List (List ℕ) → List ℕ
listed [] = []
listed (t ∷ ts) = t ++ more_texts ts

-- one base alone, and several as a tuple
abbrev pub results_text : List Base → List ℕ
results_text [] = codes "()"
results_text (b ∷ []) = base_text b
results_text (b ∷ c ∷ bs) = codes "(" ++ listed (map base_text (b ∷ c ∷ bs)) ++ codes ")"

abbrev mutual
  pub code_text : CodeTree → List ℕ
  code_text (code_lit k) = signed_decimal k
  code_text (code_truth t) = truth_text t
  code_text (code_var x) = variable_text x
  code_text (code_set_of cs) = codes "{" ++ codes_text (codes ", ") cs ++ codes "}"
  code_text (code_tuple cs) = codes "(" ++ codes_text (codes ", ") cs ++ codes ")"
  code_text (code_sum cs) = codes "(" ++ codes_text (codes " + ") cs ++ codes ")"
  code_text (code_sub a b) = codes "(" ++ code_text a ++ codes " - " ++ code_text b ++ codes ")"
  code_text (code_mul a b) = codes "(" ++ code_text a ++ codes " * " ++ code_text b ++ codes ")"
  code_text (code_neg a) = codes "neg(" ++ code_text a ++ codes ")"
  code_text (code_div a k) = codes "div(" ++ code_text a ++ codes ", " ++ signed_decimal k ++ codes ")"
  code_text (code_mod a k) = codes "mod(" ++ code_text a ++ codes ", " ++ signed_decimal k ++ codes ")"
  code_text (code_min cs) = codes "min(" ++ codes_text (codes ", ") cs ++ codes ")"
  code_text (code_max cs) = codes "max(" ++ codes_text (codes ", ") cs ++ codes ")"
  code_text (code_compare o a b) = codes "(" ++ code_text a ++ order_text o ++ code_text b ++ codes ")"
  code_text (code_divides k a) = codes "(" ++ signed_decimal k ++ codes " divides " ++ code_text a ++ codes ")"
  code_text (code_and a b) = codes "(" ++ code_text a ++ codes " && " ++ code_text b ++ codes ")"
  code_text (code_or a b) = codes "(" ++ code_text a ++ codes " || " ++ code_text b ++ codes ")"
  code_text (code_not a) = codes "not(" ++ code_text a ++ codes ")"
  code_text (code_union cs) = codes "(" ++ codes_text (codes " union ") cs ++ codes ")"
  code_text (code_inter cs) = codes "(" ++ codes_text (codes " inter ") cs ++ codes ")"
  code_text (code_diff a b) = codes "(" ++ code_text a ++ codes " diff " ++ code_text b ++ codes ")"
  code_text (code_subset a b) = codes "(" ++ code_text a ++ codes " subset " ++ code_text b ++ codes ")"
  code_text (code_card a) = codes "card(" ++ code_text a ++ codes ")"
  code_text (code_slice a b c) = codes "slice(" ++ code_text a ++ codes ", " ++ code_text b ++ codes ", " ++ code_text c ++ codes ")"
  code_text (code_fresh a b) = codes "fresh(" ++ code_text a ++ codes ", " ++ code_text b ++ codes ")"
  code_text (code_if t a b) = codes "(if " ++ code_text t ++ codes " then " ++ code_text a ++ codes " else " ++ code_text b ++ codes ")"
  code_text (code_let first n a b) = codes "(let " ++ variables_text first n ++ codes " = " ++ code_text a ++ codes " in " ++ code_text b ++ codes ")"
  code_text (code_solve n arms) = codes "solve " ++ decimal n ++ codes " {" ++ line_end ++ arms_text arms ++ codes "}"

  -- codes with a separator between each two
  pub codes_text : List ℕ → CodeTrees → List ℕ
  codes_text separator no_codes = []
  codes_text separator (code_more c cs) = code_text c ++ more_codes separator cs

  -- codes with the separator before each
  pub more_codes : List ℕ → CodeTrees → List ℕ
  more_codes separator no_codes = []
  more_codes separator (code_more c cs) = separator ++ code_text c ++ more_codes separator cs

  -- each let and each need has a line
  pub items_text : ItemTrees → List ℕ
  items_text no_items = []
  items_text (item_more i is) = item_text i ++ items_text is

  pub item_text : ItemTree → List ℕ
  item_text (let_item c) = codes "let " ++ code_text c ++ codes ";" ++ line_end
  item_text (need_item c) = codes "need " ++ code_text c ++ codes ";" ++ line_end

  -- one give alone, and several as a tuple
  pub gives_text : CodeTrees → List ℕ
  gives_text no_codes = codes "()"
  gives_text (code_more c no_codes) = code_text c
  gives_text (code_more c (code_more d cs)) = codes "(" ++ code_text c ++ codes ", " ++ code_text d ++ more_codes (codes ", ") cs ++ codes ")"

  pub arm_text : ArmTree → List ℕ
  arm_text (arm_of bounds is gs) =
      codes "arm [" ++ listed (map decimal bounds) ++ codes "] {" ++ line_end ++ items_text is ++ codes "give " ++ gives_text gs ++ line_end ++ codes "}" ++
      line_end

  pub arms_text : ArmTrees → List ℕ
  arms_text no_arms = []
  arms_text (arm_more a arms) = arm_text a ++ arms_text arms

abbrev pub header_text : Edition → List ℕ
header_text Two = codes "comfusy 2"
header_text Three = codes "comfusy 3"

-- a header line, and a line that may go on in the arms of solves
abbrev pub target_text : Edition → RawTarget → List ℕ
target_text edition t =
    header_text edition ++ line_end ++ codes "main (" ++ listed (map base_text t.params.items) ++ codes "): " ++ results_text t.results.items ++ codes " = "
    ++ code_text (code_tree t.code) ++ line_end

-- ---- preconditions: an arm gives nothing
abbrev pub pre_arm_text : ArmTree → List ℕ
pre_arm_text (arm_of bounds is gs) = codes "arm [" ++ listed (map decimal bounds) ++ codes "] {" ++ line_end ++ items_text is ++ codes "}" ++ line_end

abbrev pub pre_arms_text : ArmTrees → List ℕ
pre_arms_text no_arms = []
pre_arms_text (arm_more a arms) = pre_arm_text a ++ pre_arms_text arms

-- the precondition of choose number n, with the names of all variables in scope, by level
abbrev pub pre_text : ℕ → List (List ℕ) → ArmTrees → List ℕ
pre_text n names arms = codes "pre " ++ decimal n ++ codes " (" ++ listed names ++ codes ") {" ++ line_end ++ pre_arms_text arms ++ codes "}" ++ line_end
