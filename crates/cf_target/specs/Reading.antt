-- Reading codes from left to right.
use Rattle.std.specs.Prelude.{ℕ, zero, suc, ◌+◌, ◌-◌, ℤ, pos, negsuc, neg_ℤ, int_le, nat_le, nat_eq, ◌&&◌, ◌||◌, Bool, List, [], ◌∷◌, length, map, Option, Some, None, Err, codes, if◌then◌else◌}
use Rattle.std.specs.Str.{bytes_eq}
use Rattle.cf_lex.specs.declared.token.TokenKind.{TokenKind}
use Rattle.cf_lex.specs.declared.token.TokenKind.TheVariants.{Literal, Word, Sign}
use Rattle.cf_tree.specs.declared.base.Place.{Place}
use Rattle.cf_tree.specs.declared.raw.BinOp.{BinOp}
use Rattle.cf_tree.specs.declared.raw.BinOp.TheVariants as ops
use Rattle.cf_tree.specs.CodeTree.{CodeTree, code_lit, code_truth, code_var, code_set_of, code_tuple, code_sum, code_sub, code_mul, code_neg, code_div, code_mod, code_min, code_max, code_compare, code_divides, code_and, code_or, code_not, code_union, code_inter, code_diff, code_subset, code_card, code_slice, code_fresh, code_if, code_let, code_solve, ItemTree, let_item, need_item, ArmTree, arm_of, codes_of, items_of, arms_of, code_depth}
use Rattle.cf_tree.specs.CodeView.{code_tree}
use Rattle.cf_reader.specs.Readers.{Reader, Test, is, a_literal, pure, refuse, must, ◌>>=◌, first, deep, others_of, several_of, snoc}
use Rattle.cf_reader.specs.Kinds.{a_truth}
use Rattle.cf_reader.specs.Operations.{op_of}
use Rattle.cf_tree.specs.declared.base.Edition.TheVariants.{Two as language_2}
use Rattle.cf_target.specs.declared.form.Unary.{Unary}
use Rattle.cf_target.specs.declared.form.Unary.TheVariants.{Neg, Not, Card}
use Rattle.cf_target.specs.declared.form.Division.{Division}
use Rattle.cf_target.specs.declared.form.Division.TheVariants.{Div, Mod}
use Rattle.cf_target.specs.declared.form.Extreme.{Extreme}
use Rattle.cf_target.specs.declared.form.Extreme.TheVariants.{Min, Max}
use Rattle.cf_target.specs.declared.form.Step.{Step}
use Rattle.cf_target.specs.declared.form.Step.TheVariants.{Let, Need}
use Rattle.cf_target.specs.declared.form.Many.{Many}
use Rattle.cf_target.specs.declared.form.Many.TheVariants.{Sum, Union, Inter}
use Rattle.cf_target.specs.declared.form.Two.{Two}
use Rattle.cf_target.specs.declared.form.Two.TheVariants.{Sub, Mul, And, Or, Diff, Subset, Compare}
use Rattle.cf_target.specs.declared.form.Operation.{Operation}
use Rattle.cf_target.specs.declared.form.Operation.TheVariants as operations
use Rattle.cf_target.specs.declared.inside.Inside.{Inside}
use Rattle.cf_target.specs.declared.inside.Inside.TheVariants as inside
use Rattle.cf_target.specs.Levels.{last_level, level_of}

-- the words of forms, and the trees of forms

abbrev pub a_unary : Test Unary
a_unary t = elim t.kind [
  | Word x ↦ if bytes_eq x (codes "neg") then Some Neg else if bytes_eq x (codes "not") then Some Not else if bytes_eq x (codes "card") then Some Card else None
  | Literal n ↦ None
  | Sign x ↦ None
]

abbrev pub unary_tree : Unary → CodeTree → CodeTree
unary_tree Neg c = code_neg c
unary_tree Not c = code_not c
unary_tree Card c = code_card c

abbrev pub a_division : Test Division
a_division t = elim t.kind [
  | Word x ↦ if bytes_eq x (codes "div") then Some Div else if bytes_eq x (codes "mod") then Some Mod else None
  | Literal n ↦ None
  | Sign x ↦ None
]

abbrev pub division_tree : Division → CodeTree → ℤ → CodeTree
division_tree Div c k = code_div c k
division_tree Mod c k = code_mod c k

abbrev pub an_extreme : Test Extreme
an_extreme t = elim t.kind [
  | Word x ↦ if bytes_eq x (codes "min") then Some Min else if bytes_eq x (codes "max") then Some Max else None
  | Literal n ↦ None
  | Sign x ↦ None
]

abbrev pub extreme_tree : Extreme → List CodeTree → CodeTree
extreme_tree Min cs = code_min (codes_of cs)
extreme_tree Max cs = code_max (codes_of cs)

abbrev pub a_step : Test Step
a_step t = elim t.kind [
  | Word x ↦ if bytes_eq x (codes "let") then Some Let else if bytes_eq x (codes "need") then Some Need else None
  | Literal n ↦ None
  | Sign x ↦ None
]

abbrev pub step_tree : Step → CodeTree → ItemTree
step_tree Let c = let_item c
step_tree Need c = need_item c

-- which operations have two or more parts, and which have two
abbrev pub operation_of : BinOp → Operation
operation_of ops.Add = operations.Many Sum
operation_of ops.Union = operations.Many Union
operation_of ops.Inter = operations.Many Inter
operation_of ops.Sub = operations.Two Sub
operation_of ops.Mul = operations.Two Mul
operation_of ops.And = operations.Two And
operation_of ops.Or = operations.Two Or
operation_of ops.Diff = operations.Two Diff
operation_of ops.Subset = operations.Two Subset
-- which language 2 does not have
operation_of ops.Implies = operations.Two Or
operation_of (ops.Compare order) = operations.Two (Compare order)

abbrev pub many_kind : Many → TokenKind
many_kind Sum = Sign (codes "+")
many_kind Union = Word (codes "union")
many_kind Inter = Word (codes "inter")

abbrev pub many_tree : Many → List CodeTree → CodeTree
many_tree Sum cs = code_sum (codes_of cs)
many_tree Union cs = code_union (codes_of cs)
many_tree Inter cs = code_inter (codes_of cs)

abbrev pub two_tree : Two → CodeTree → CodeTree → CodeTree
two_tree Sub c d = code_sub c d
two_tree Mul c d = code_mul c d
two_tree And c d = code_and c d
two_tree Or c d = code_or c d
two_tree Diff c d = code_diff c d
two_tree Subset c d = code_subset c d
two_tree (Compare order) c d = code_compare order c d

-- numbers and variables

abbrev pub numeral_of : ℤ → Option ℕ
numeral_of (pos n) = if nat_le 1 n && nat_le n last_level then Some n else None
numeral_of (negsuc n) = None

-- a literal other than 0 in 32 bits
abbrev pub a_numeral : Test ℕ
a_numeral t = elim t.kind [ Literal k ↦ numeral_of k | Word x ↦ None | Sign x ↦ None ]

abbrev pub a_variable : Test ℕ
a_variable t = elim t.kind [ Word x ↦ level_of x | Literal k ↦ None | Sign x ↦ None ]

abbrev pub if_before_last : Option ℕ → Option ℕ
if_before_last None = None
if_before_last (Some x) = if nat_le (x + 1) last_level then Some x else None

-- a variable, behind which there is a further level
abbrev pub an_early_variable : Test ℕ
an_early_variable t = if_before_last (a_variable t)

abbrev pub if_same : ℕ → Option ℕ → Option ℕ
if_same y None = None
if_same y (Some x) = if nat_eq x y then Some x else None

-- the variable of this level
abbrev pub the_variable : ℕ → Test ℕ
the_variable y t = if_same y (a_variable t)

-- a comma behind a variable, where there is a further level
abbrev pub comma_after : ℕ → Test Place
comma_after last t = if nat_le (last + 1) last_level then is (Sign (codes ",")) t else None

-- { "," variable } ")", behind this variable; gives the last one
unfoldable pub variables_of : ℕ → ℕ → Reader ℕ
variables_of zero last = λ ts. Err 0
variables_of (suc fuel) last =
    first (comma_after last) (λ p. must (the_variable (last + 1)) >>= λ x. variables_of fuel x) (must (is (Sign (codes ")"))) >>= λ p. pure last)

unfoldable pub all_variables : ℕ → Reader ℕ
all_variables last ts = variables_of (length ts) last ts

-- the first variable of a let, and how many there are
unfoldable pub vars_of : Reader (ℕ × ℕ)
vars_of =
    first (is (Sign (codes "("))) (λ p. do
      x ← must an_early_variable
      _ ← must (is (Sign (codes ",")))
      y ← must (the_variable (x + 1))
      last ← all_variables y
      pure (x, last - x + 1))
    (must a_variable >>= λ x. pure (x, 1))

-- [ literal { "," literal } ] "]"
unfoldable pub bounds_of : Reader (List ℕ)
bounds_of = first (is (Sign (codes "]"))) (λ p. pure []) (several_of snoc (must a_numeral) (Sign (codes ",")) (Sign (codes "]")) [])

-- codes over readers of their parts

-- code { "," code } close
unfoldable pub list_of : Reader CodeTree → TokenKind → Reader (List CodeTree)
list_of part close = several_of snoc part (Sign (codes ",")) close []

-- [ code { "," code } ] "}"
unfoldable pub elements_of : Reader CodeTree → Reader (List CodeTree)
elements_of part = first (is (Sign (codes "}"))) (λ p. pure []) (list_of part (Sign (codes "}")))

-- "(" code ")"
unfoldable pub one_of : Reader CodeTree → Reader CodeTree
one_of part = do
  _ ← must (is (Sign (codes "(")))
  c ← part
  _ ← must (is (Sign (codes ")")))
  pure c

-- "(" code "," literal ")"
unfoldable pub divided_of : Reader CodeTree → Reader (CodeTree × ℤ)
divided_of part = do
  _ ← must (is (Sign (codes "(")))
  c ← part
  _ ← must (is (Sign (codes ",")))
  k ← must (a_literal (pos 1))
  _ ← must (is (Sign (codes ")")))
  pure (c, k.1)

-- "(" code { "," code } ")"
unfoldable pub listed_of : Reader CodeTree → Reader (List CodeTree)
listed_of part = must (is (Sign (codes "("))) >>= λ p. list_of part (Sign (codes ")"))

-- behind the word slice
unfoldable pub slice_of : Reader CodeTree → Reader CodeTree
slice_of part = do
  _ ← must (is (Sign (codes "(")))
  c ← part
  _ ← must (is (Sign (codes ",")))
  d ← part
  _ ← must (is (Sign (codes ",")))
  e ← part
  _ ← must (is (Sign (codes ")")))
  pure (code_slice c d e)

-- behind the word fresh
unfoldable pub fresh_of : Reader CodeTree → Reader CodeTree
fresh_of part = do
  _ ← must (is (Sign (codes "(")))
  c ← part
  _ ← must (is (Sign (codes ",")))
  d ← part
  _ ← must (is (Sign (codes ")")))
  pure (code_fresh c d)

-- behind "(" and the word if
unfoldable pub if_of : Reader CodeTree → Reader CodeTree
if_of part = do
  t ← part
  _ ← must (is (Word (codes "then")))
  c ← part
  _ ← must (is (Word (codes "else")))
  d ← part
  _ ← must (is (Sign (codes ")")))
  pure (code_if t c d)

-- behind "(" and the word let
unfoldable pub let_of : Reader CodeTree → Reader CodeTree
let_of part = do
  xs ← vars_of
  _ ← must (is (Sign (codes "=")))
  c ← part
  _ ← must (is (Word (codes "in")))
  d ← part
  _ ← must (is (Sign (codes ")")))
  pure (code_let xs.0 xs.1 c d)

-- behind the first part and the operation
unfoldable pub operated_of : Reader CodeTree → CodeTree → Operation → Reader CodeTree
operated_of part c (operations.Two two) = part >>= λ d. must (is (Sign (codes ")"))) >>= λ p. pure (two_tree two c d)
operated_of part c (operations.Many many) = several_of snoc part (many_kind many) (Sign (codes ")")) (c ∷ []) >>= λ cs. pure (many_tree many cs)

-- what stands in parentheses: two codes or more with commas, or one code
pub data InsideTree : Type 0 where
  several : List CodeTree → InsideTree
  single : CodeTree → InsideTree

-- an operation, if there may be one
abbrev pub an_operation : Bool → Test BinOp
an_operation may t = if may then op_of language_2 t.kind else None

-- a literal that stands alone
abbrev pub lone_literal : CodeTree → Option ℤ
lone_literal (code_lit k) = Some k
lone_literal (code_truth t) = None
lone_literal (code_var x) = None
lone_literal (code_set_of cs) = None
lone_literal (code_tuple cs) = None
lone_literal (code_sum cs) = None
lone_literal (code_sub c d) = None
lone_literal (code_mul c d) = None
lone_literal (code_neg c) = None
lone_literal (code_div c k) = None
lone_literal (code_mod c k) = None
lone_literal (code_min cs) = None
lone_literal (code_max cs) = None
lone_literal (code_compare o c d) = None
lone_literal (code_divides k c) = None
lone_literal (code_and c d) = None
lone_literal (code_or c d) = None
lone_literal (code_not c) = None
lone_literal (code_union cs) = None
lone_literal (code_inter cs) = None
lone_literal (code_diff c d) = None
lone_literal (code_subset c d) = None
lone_literal (code_card c) = None
lone_literal (code_slice c d e) = None
lone_literal (code_fresh c d) = None
lone_literal (code_if t c d) = None
lone_literal (code_let x n c d) = None
lone_literal (code_solve n arms) = None

abbrev pub divisor_of : ℕ → Option ℤ → Option Place → Option ℤ
divisor_of n None q = None
divisor_of n (Some k) None = None
divisor_of n (Some k) (Some q) = if int_le (pos 1) k then (if nat_le 1 n then Some k else None) else None

-- the word divides, behind a literal of at least 1
unfoldable pub divides_by : ℕ → CodeTree → Test ℤ
divides_by n c t = divisor_of n (lone_literal c) (is (Word (codes "divides")) t)

-- behind "(" and the first part: first and part read the parts with commas, and those of an operation, and may says whether there may be one
unfoldable pub behind_of : Reader CodeTree → Reader CodeTree → ℕ → Bool → CodeTree → Reader InsideTree
behind_of first_part part n may c =
    first (is (Sign (codes ","))) (λ p. several_of snoc first_part (Sign (codes ",")) (Sign (codes ")")) (c ∷ []) >>= λ cs. pure (several cs)) (
    first (an_operation may) (λ op. operated_of part c (operation_of op) >>= λ d. pure (single d)) (
    first (divides_by n c) (λ k. part >>= λ d. must (is (Sign (codes ")"))) >>= λ p. pure (single (code_divides k d))) (
    refuse)))

-- behind "(": first_part reads codes of depth at most m, and part those of depth at most n
unfoldable pub inside_of : Reader CodeTree → Reader CodeTree → ℕ → ℕ → Reader InsideTree
inside_of first_part part m n =
    deep n (is (Word (codes "if"))) (λ p. if_of part >>= λ c. pure (single c)) (
    deep n (is (Word (codes "let"))) (λ p. let_of part >>= λ c. pure (single c)) (
    first_part >>= λ c. behind_of first_part part n (nat_eq m n || nat_le (code_depth c) n) c))

-- what the program read in parentheses, as a plain tree
abbrev pub inside_tree : Inside → InsideTree
inside_tree (inside.Several cs) = several (map code_tree cs.items)
inside_tree (inside.Single c) = single (code_tree c)

abbrev pub whole : InsideTree → CodeTree
whole (several cs) = code_tuple (codes_of cs)
whole (single c) = c

abbrev pub all_given : InsideTree → List CodeTree
all_given (several cs) = cs
all_given (single c) = c ∷ []

-- behind the word of an item
unfoldable pub item_of : Reader CodeTree → Step → Reader ItemTree
item_of part s = part >>= λ c. must (is (Sign (codes ";"))) >>= λ p. pure (step_tree s c)

-- { item } "give", behind the items read before
unfoldable pub steps_of : Reader CodeTree → ℕ → List ItemTree → Reader (List ItemTree)
steps_of part zero done = λ ts. Err 0
steps_of part (suc fuel) done =
    first a_step (λ s. item_of part s >>= λ i. steps_of part fuel (snoc done i)) (must (is (Word (codes "give"))) >>= λ p. pure done)

unfoldable pub all_steps : Reader CodeTree → Reader (List ItemTree)
all_steps part ts = steps_of part (length ts) [] ts

-- behind the word give: part reads codes of depth at most n, and less those of one less
unfoldable pub gives_of : Reader CodeTree → Reader CodeTree → ℕ → Reader (List CodeTree)
gives_of part less n =
    first (is (Sign (codes "("))) (λ p. inside_of part less n (n - 1) >>= λ x. pure (all_given x)) (part >>= λ c. pure (c ∷ []))

-- behind the word arm
unfoldable pub arm_from : Reader CodeTree → Reader CodeTree → ℕ → Reader ArmTree
arm_from part less n = do
  _ ← must (is (Sign (codes "[")))
  bounds ← bounds_of
  _ ← must (is (Sign (codes "{")))
  steps ← all_steps part
  gives ← gives_of part less n
  _ ← must (is (Sign (codes "}")))
  pure (arm_of bounds (items_of steps) (codes_of gives))

-- { arm } "}"
unfoldable pub all_arms : Reader CodeTree → Reader CodeTree → ℕ → Reader (List ArmTree)
all_arms part less zero = must (is (Sign (codes "}"))) >>= λ p. pure []
all_arms part less (suc n) = others_of snoc (arm_from part less (suc n)) (Word (codes "arm")) (Sign (codes "}")) []

-- behind the word solve
unfoldable pub solve_of : Reader CodeTree → Reader CodeTree → ℕ → Reader CodeTree
solve_of part less n = do
  number ← must a_numeral
  _ ← must (is (Sign (codes "{")))
  arms ← all_arms part less n
  pure (code_solve number (arms_of arms))

-- the forms that have parts
unfoldable pub forms_of : Reader CodeTree → Reader CodeTree
forms_of part =
    first a_unary (λ u. one_of part >>= λ c. pure (unary_tree u c)) (
    first a_division (λ d. divided_of part >>= λ x. pure (division_tree d x.0 x.1)) (
    first an_extreme (λ e. listed_of part >>= λ cs. pure (extreme_tree e cs)) (
    first (is (Word (codes "slice"))) (λ p. slice_of part) (
    first (is (Word (codes "fresh"))) (λ p. fresh_of part) (
    refuse)))))

-- what is read where parts may have depth n, if any depth
unfoldable pub unless_zero : {A : Type 0} → ℕ → Reader A → Reader A
unless_zero n r ts = elim n [ zero ↦ Err (length ts) | suc m ↦ r ts ]

unfoldable pub word_of : Reader CodeTree → Reader CodeTree → ℕ → Reader CodeTree
word_of part less n = first (is (Word (codes "solve"))) (λ p. solve_of part less n) (unless_zero n (forms_of part))

-- behind a minus
unfoldable pub negative_of : Reader CodeTree
negative_of = must (a_literal (pos 1)) >>= λ k. pure (code_lit (neg_ℤ k.1))

-- a code whose parts have depth at most n
unfoldable pub step : Reader CodeTree → Reader CodeTree → ℕ → Reader CodeTree
step part less n =
    first (a_literal (pos 0)) (λ k. pure (code_lit k.1)) (
    first (is (Sign (codes "-"))) (λ p. negative_of) (
    first a_truth (λ t. pure (code_truth t.1)) (
    first a_variable (λ x. pure (code_var x)) (
    first (is (Sign (codes "{"))) (λ p. elements_of part >>= λ cs. pure (code_set_of (codes_of cs))) (
    deep n (is (Sign (codes "("))) (λ p. inside_of part part n n >>= λ x. pure (whole x)) (
    word_of part less n))))))

-- a code of depth at most n
unfoldable pub read : ℕ → Reader CodeTree
read zero = refuse
read (suc zero) = step refuse refuse 0
read (suc (suc n)) = step (read (suc n)) (read n) (suc n)
