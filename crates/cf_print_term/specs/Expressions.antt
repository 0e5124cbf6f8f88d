-- The term of an expression, by the table of a language.
use Rattle.std.specs.Prelude.{ℕ, ℤ, pos, int_lt, unsigned_abs, nat_lt, ◌/◌, ◌%◌, Bool, true, false, List, [], ◌∷◌, ◌++◌, ◌&&◌, ◌||◌, not, option_map, Option, Some, None, slice_index_or, decimal, codes, if◌then◌else◌}
use Rattle.std.specs.List.{concat}
use Rattle.cf_tree.specs.declared.base.Base.{Base}
use Rattle.cf_tree.specs.declared.base.Base.TheVariants.{Int, Bool as Truth, Set}
use Rattle.cf_tree.specs.declared.base.Order.{Order}
use Rattle.cf_tree.specs.declared.base.Order.TheVariants.{Eq, Ne, Lt, Le, Gt, Ge}
use Rattle.cf_tree.specs.CodeTree.{CodeTree, code_lit, code_truth, code_var, code_set_of, code_tuple, code_sum, code_sub, code_mul, code_neg, code_div, code_mod, code_min, code_max, code_compare, code_divides, code_and, code_or, code_not, code_union, code_inter, code_diff, code_subset, code_card, code_slice, code_fresh, code_if, code_let, code_solve, CodeTrees, no_codes, code_more}
use Rattle.cf_range.specs.Ranges.{minus_passes, times_passes}
use Rattle.cf_range.specs.CodeRanges.{may_pass, range_of}
use Rattle.cf_range.specs.declared.range.Range.{Range}
use Rattle.cf_print_term.specs.Terms.{Term, Terms, word, before, between, call, choice, no_terms, term_more}
use Rattle.cf_print_term.specs.Marks.{mark_text}
use Rattle.cf_print_term.specs.declared.table.Sign.{Sign}
use Rattle.cf_print_term.specs.declared.table.Choice.{Choice}
use Rattle.cf_print_term.specs.declared.table.Call.{Call}
use Rattle.cf_print_term.specs.declared.table.Form.{Form}
use Rattle.cf_print_term.specs.declared.table.Form.TheVariants.{Signed, Fitted, Called, Nested}
use Rattle.cf_print_term.specs.declared.table.Checked.{Checked}
use Rattle.cf_print_term.specs.declared.table.Divided.{Divided}
use Rattle.cf_print_term.specs.declared.table.Orders.{Orders}
use Rattle.cf_print_term.specs.declared.table.Numerals.{Numerals}
use Rattle.cf_print_term.specs.declared.table.Numerals.TheVariants.{Plain, Halved, Big, Suffixed}
use Rattle.cf_print_term.specs.declared.table.Table.{Table}
use Rattle.cf_print_term.specs.declared.numeral.TheConstants.{INT_END, LONG_END, MAX, HALF}

-- what is known of the variables, by level
pub record Sight : Type 0 where
  pub names : List (List ℕ)
  pub bases : List Base
  pub ranges : List Range

abbrev pub base_of : List Base → CodeTree → Base
base_of bs (code_var x) = slice_index_or bs x Int
base_of bs (code_truth t) = Truth
base_of bs (code_compare o a b) = Truth
base_of bs (code_divides k a) = Truth
base_of bs (code_and a b) = Truth
base_of bs (code_or a b) = Truth
base_of bs (code_not a) = Truth
base_of bs (code_subset a b) = Truth
base_of bs (code_set_of cs) = Set
base_of bs (code_union cs) = Set
base_of bs (code_inter cs) = Set
base_of bs (code_diff a b) = Set
base_of bs (code_slice a b c) = Set
base_of bs (code_fresh a b) = Set
base_of bs (code_if t a b) = base_of bs a
base_of bs c = Int

-- ---- numerals

-- a number of C past `long long`, in two halves of 64 bits
abbrev pub both_halves : List ℕ → List ℕ → List ℕ
both_halves high low = concat (codes "from_halves(" ∷ high ∷ codes ", " ∷ low ∷ codes "ULL)" ∷ [])

abbrev pub halves : ℕ → List ℕ
halves n = both_halves (decimal (n / HALF)) (decimal (n % HALF))

-- a number that is not negative
abbrev pub numeral : Numerals → ℕ → List ℕ
numeral Plain n = decimal n
numeral Big n = decimal n ++ codes "n"
numeral Suffixed n = if nat_lt n INT_END then decimal n else decimal n ++ codes "_i128"
numeral Halved n =
    if nat_lt n INT_END then decimal n
    else if nat_lt n LONG_END then decimal n ++ codes "LL"
    else if nat_lt n MAX then halves n
    else codes "MAX"

-- a number without its sign
abbrev pub digits : Table → ℤ → Term
digits t k = word (numeral t.numerals (unsigned_abs k))

abbrev pub literal : Table → ℤ → Term
literal t k = if int_lt k (pos 0) then before t.minus (digits t k) else digits t k

-- ---- operations

abbrev pub two : Term → Term → Terms
two a b = term_more a (term_more b no_terms)

abbrev pub applied : Form → Term → Term → Term
applied (Signed s) a b = between s a b
applied (Fitted c s) a b = call c (term_more (between s a b) no_terms)
applied (Called c) a b = call c (two a b)
applied (Nested c) a b = call c (two a b)

-- an operation on more parts, behind what the first give
abbrev pub applied_on : Form → Term → Terms → Term
applied_on f a no_terms = a
applied_on f a (term_more b bs) = applied_on f (applied f a b) bs

-- an operation on one part or more
abbrev pub applied_all : Form → Terms → Term
applied_all f no_terms = word []
applied_all f (term_more a no_terms) = a
applied_all (Called c) (term_more a (term_more b bs)) = call c (term_more a (term_more b bs))
applied_all f (term_more a (term_more b bs)) = applied_on f (applied f a b) bs

abbrev pub set_term : Table → Terms → Term
set_term t no_terms = word (mark_text t.sets.empty)
set_term t (term_more a ts) = call t.sets.of (term_more a ts)

-- checked where a number may be past the limit
abbrev pub form_of : Checked → Bool → Form
form_of o passes = if passes then o.checked else o.free

-- of a number that may be below 0 by one form, of another by the other; where numerals are typed a numeral is no such number
abbrev pub division : Divided → Bool → Form
division o is_natural = if is_natural then o.natural else o.down

abbrev pub sign_of : Orders → Order → Sign
sign_of o Eq = o.eq
sign_of o Ne = o.ne
sign_of o Lt = o.lt
sign_of o Le = o.le
sign_of o Gt = o.gt
sign_of o Ge = o.ge

abbrev pub opposite : Order → Order
opposite Eq = Ne
opposite Ne = Eq
opposite Lt = Ge
opposite Le = Gt
opposite Gt = Le
opposite Ge = Lt

abbrev pub comparison : Table → Base → Order → Term → Term → Term
comparison t Set Eq a b = applied t.sets.same a b
comparison t Set o a b = applied t.sets.other a b
comparison t base o a b = between (sign_of t.orders o) a b

-- whether a number is divided by k, or is not
abbrev pub divided_term : Table → Order → ℤ → Term → Term
divided_term t o k a = between (sign_of t.orders o) (between t.rest a (literal t k)) (literal t (pos 0))

-- what is not so: its opposite, or a sign before it
abbrev pub denied : Table → Option Term → Term → Term
denied t (Some x) a = x
denied t None a = before t.not a

abbrev pub choice_term : Choice → Term → Term → Term → Term
choice_term k test a b = if k.test_first then choice k test a b else choice k a test b

-- what stands around a term, where something does
abbrev pub around : Option Call → Term → Term
around None a = a
around (Some c) a = call c (term_more a no_terms)

-- a variable of a base where a value of its own is to be given: sets are lent, and so are copied
abbrev pub copied : Table → Base → Term → Term
copied t Set a = around t.sets.copy a
copied t Int a = a
copied t Truth a = a

abbrev pub owned : Table → Sight → CodeTree → Term → Term
owned t w (code_var x) a = copied t (slice_index_or w.bases x Int) a
owned t w c a = a

-- the one or the other of two codes, whose terms these are
abbrev pub conditional : Table → Sight → CodeTree → CodeTree → Term → Term → Term → Term
conditional t w a b test x y = around t.around_choice (choice_term t.choice test (owned t w a x) (owned t w b y))

abbrev pub opposites : Sign → Option Term → Option Term → Option Term
opposites s None b = None
opposites s (Some a) None = None
opposites s (Some a) (Some b) = Some (between s a b)

-- ---- expressions

-- an expression of numerals alone, which a typed language takes for a small number
abbrev mutual
  pub is_small : CodeTree → Bool
  is_small (code_lit k) = true
  is_small (code_neg a) = is_small a
  is_small (code_div a k) = is_small a
  is_small (code_mod a k) = is_small a
  is_small (code_sum cs) = is_one_small cs
  is_small (code_min cs) = is_one_small cs
  is_small (code_max cs) = is_one_small cs
  is_small (code_if t a b) = is_small a && is_small b
  is_small c = false

  -- parts that are printed as a numeral: none, or one that is such an expression
  pub is_one_small : CodeTrees → Bool
  is_one_small no_codes = true
  is_one_small (code_more c no_codes) = is_small c
  is_one_small (code_more c (code_more d cs)) = false

abbrev pub both_small : Table → CodeTree → CodeTree → Bool
both_small t a b = t.is_typed && (is_small a && is_small b)

abbrev pub is_natural : Table → Sight → CodeTree → Bool
is_natural t w c = not (int_lt (range_of w.ranges c).low (pos 0)) && not (t.is_typed && is_small c)

-- a numeral below 0
abbrev pub below_zero : CodeTree → Option ℤ
below_zero (code_lit k) = if int_lt k (pos 0) then Some k else None
below_zero c = None

abbrev pub product : Table → Sight → CodeTree → CodeTree → Term → Term → Term
product t w a b x y = applied (form_of t.product (times_passes (range_of w.ranges a) (range_of w.ranges b) || both_small t a b)) x y

abbrev pub difference : Table → Sight → CodeTree → CodeTree → Term → Term → Term
difference t w a b x y = applied (form_of t.difference (minus_passes (range_of w.ranges a) (range_of w.ranges b) || both_small t a b)) x y

-- one more part of a sum, or what is taken off in its place
abbrev pub one_more : Table → Bool → Term → Option Term → Term → Term
one_more t passes so_far (Some less) x = applied (form_of t.difference passes) so_far less
one_more t passes so_far None x = applied (form_of t.sum passes) so_far x

-- two parts: the second first where something is taken off for the first alone
abbrev pub first_two : Table → Bool → Option Term → Term → Option Term → Term → Term
first_two t passes less x (Some lesser) y = applied (form_of t.difference passes) x lesser
first_two t passes (Some less) x None y = applied (form_of t.difference passes) y less
first_two t passes None x None y = applied (form_of t.sum passes) x y

abbrev mutual
  pub term_of : Table → Sight → CodeTree → Term
  term_of t w (code_lit k) = literal t k
  term_of t w (code_truth true) = word (mark_text t.yes)
  term_of t w (code_truth false) = word (mark_text t.no)
  term_of t w (code_var x) = word (slice_index_or w.names x [])
  term_of t w (code_set_of cs) = set_term t (terms_of t w cs)
  term_of t w (code_sum cs) = sum_of t w (may_pass w.ranges (code_sum cs)) (terms_of t w cs) cs
  term_of t w (code_sub a b) = difference t w a b (term_of t w a) (term_of t w b)
  term_of t w (code_mul a b) = product t w a b (term_of t w a) (term_of t w b)
  term_of t w (code_neg a) = before t.minus (term_of t w a)
  term_of t w (code_div a k) = applied (division t.quotient (is_natural t w a)) (term_of t w a) (literal t k)
  term_of t w (code_mod a k) = applied (division t.remainder (is_natural t w a)) (term_of t w a) (literal t k)
  term_of t w (code_min cs) = applied_all t.least (terms_of t w cs)
  term_of t w (code_max cs) = applied_all t.greatest (terms_of t w cs)
  term_of t w (code_compare o a b) = comparison t (base_of w.bases a) o (term_of t w a) (term_of t w b)
  term_of t w (code_divides k a) = divided_term t Eq k (term_of t w a)
  term_of t w (code_and a b) = between t.and (term_of t w a) (term_of t w b)
  term_of t w (code_or a b) = between t.or (term_of t w a) (term_of t w b)
  term_of t w (code_not a) = denied t (opposite_of t w a) (term_of t w a)
  term_of t w (code_union cs) = applied_all t.sets.union (terms_of t w cs)
  term_of t w (code_inter cs) = applied_all t.sets.inter (terms_of t w cs)
  term_of t w (code_diff a b) = applied t.sets.diff (term_of t w a) (term_of t w b)
  term_of t w (code_subset a b) = applied t.sets.subset (term_of t w a) (term_of t w b)
  term_of t w (code_card a) = call t.sets.card (term_more (term_of t w a) no_terms)
  term_of t w (code_slice a b c) = call t.sets.slice (term_more (term_of t w a) (two (term_of t w b) (term_of t w c)))
  term_of t w (code_fresh a b) = call t.sets.fresh (two (term_of t w a) (term_of t w b))
  term_of t w (code_if test a b) = conditional t w a b (term_of t w test) (term_of t w a) (term_of t w b)
  -- these are no expressions
  term_of t w (code_tuple cs) = word []
  term_of t w (code_let first n a b) = word []
  term_of t w (code_solve n arms) = word []

  pub terms_of : Table → Sight → CodeTrees → Terms
  terms_of t w no_codes = no_terms
  terms_of t w (code_more c cs) = term_more (term_of t w c) (terms_of t w cs)

  -- the opposite of a condition, where it has one that needs no sign before it
  pub opposite_of : Table → Sight → CodeTree → Option Term
  opposite_of t w (code_compare o a b) = Some (comparison t (base_of w.bases a) (opposite o) (term_of t w a) (term_of t w b))
  opposite_of t w (code_divides k a) = Some (divided_term t Ne k (term_of t w a))
  opposite_of t w (code_not a) = Some (term_of t w a)
  opposite_of t w (code_and a b) = opposites t.or (opposite_of t w a) (opposite_of t w b)
  opposite_of t w (code_or a b) = opposites t.and (opposite_of t w a) (opposite_of t w b)
  opposite_of t w c = None

  -- what is taken off where a part of a sum is below 0, as far as the part shows it
  pub below_of : Table → Sight → CodeTree → Option Term
  below_of t w (code_lit k) = if int_lt k (pos 0) then Some (digits t k) else None
  below_of t w (code_neg a) = Some (term_of t w a)
  below_of t w (code_mul a b) = option_map (λ k. product t w a b (digits t k) (term_of t w b)) (below_zero a)
  below_of t w c = None

  -- a sum; one of three parts or more is a call on all where a number on the way may be past the limit
  pub sum_of : Table → Sight → Bool → Terms → CodeTrees → Term
  sum_of t w passes all no_codes = literal t (pos 0)
  sum_of t w passes all (code_more a no_codes) = term_of t w a
  sum_of t w passes all (code_more a (code_more b no_codes)) =
      first_two t (passes || both_small t a b) (below_of t w a) (term_of t w a) (below_of t w b) (term_of t w b)
  sum_of t w passes all (code_more a (code_more b (code_more c cs))) =
      if passes then call t.sum_of all
      else sum_behind t w (first_two t (both_small t a b) (below_of t w a) (term_of t w a) (below_of t w b) (term_of t w b)) (code_more c cs)

  -- a sum that has come to a term, and all other parts
  pub sum_behind : Table → Sight → Term → CodeTrees → Term
  sum_behind t w so_far no_codes = so_far
  sum_behind t w so_far (code_more c cs) = sum_behind t w (one_more t false so_far (below_of t w c) (term_of t w c)) cs
