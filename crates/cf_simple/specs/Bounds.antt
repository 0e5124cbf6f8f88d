-- Bounds of one number form, joined.
use Rattle.std.specs.Prelude.{ℤ, pos, ◌+ℤ◌, ◌-ℤ◌, neg_ℤ, int_lt, int_le, Bool, true, false, ◌&&◌, ◌||◌, Option, Some, None, if◌then◌else◌}
use Rattle.std.specs.Ordering.{int_eq}
use Rattle.cf_tree.specs.declared.base.Order.{Order}
use Rattle.cf_tree.specs.declared.base.Order.TheVariants.{Eq, Ne, Lt, Le, Gt, Ge}
use Rattle.cf_tree.specs.RelTree.{TermTree, term_lit, term_neg, RelTree, rel_true, rel_false, rel_compare, rel_and, rel_or}
use Rattle.cf_simple.specs.Lines.{same_term}
use Rattle.cf_simple.specs.Quotients.{literal}

-- a form is at least a number, or at most one
pub data Bound : Type 0 where
  no_bound : Bound
  from : TermTree → ℤ → Bound
  up_to : TermTree → ℤ → Bound

abbrev pub greater : ℤ → ℤ → ℤ
greater c d = if int_lt c d then d else c

abbrev pub lesser : ℤ → ℤ → ℤ
lesser c d = if int_lt c d then c else d

abbrev pub literal_of : TermTree → Option ℤ
literal_of (term_lit k) = Some k
literal_of (term_neg (term_lit k)) = Some (neg_ℤ k)
literal_of t = None

abbrev pub from_of : TermTree → Option ℤ → Bound
from_of t None = no_bound
from_of t (Some c) = from t c

abbrev pub up_to_of : TermTree → Option ℤ → Bound
up_to_of t None = no_bound
up_to_of t (Some c) = up_to t c

abbrev pub bound_of : RelTree → Bound
bound_of (rel_compare Ge t u) = from_of t (literal_of u)
bound_of (rel_compare Le t u) = up_to_of t (literal_of u)
bound_of r = no_bound

abbrev pub if_same : TermTree → TermTree → RelTree → Option RelTree
if_same t u r = if same_term t u then Some r else None

-- ---- both bounds in one: the nearer of two, one number, or none at all
abbrev pub between : TermTree → ℤ → ℤ → Option RelTree
between t c d = if int_lt d c then Some rel_false else (if int_eq c d then Some (rel_compare Eq t (literal c)) else None)

abbrev pub same_between : TermTree → TermTree → ℤ → ℤ → Option RelTree
same_between t u c d = if same_term t u then between t c d else None

abbrev pub both_bounds : Bound → Bound → Option RelTree
both_bounds (from t c) (from u d) = if_same t u (rel_compare Ge t (literal (greater c d)))
both_bounds (up_to t c) (up_to u d) = if_same t u (rel_compare Le t (literal (lesser c d)))
both_bounds (from t c) (up_to u d) = same_between t u c d
both_bounds (up_to t c) (from u d) = same_between t u d c
both_bounds no_bound b = None
both_bounds (from t c) no_bound = None
both_bounds (up_to t c) no_bound = None

-- ---- one bound or the other in one: the farther of two, all numbers, or all but one
abbrev pub outside : TermTree → ℤ → ℤ → Option RelTree
outside t c d =
    if int_le c (d +ℤ pos 1) then Some rel_true else (if int_eq c (d +ℤ pos 2) then Some (rel_compare Ne t (literal (d +ℤ pos 1))) else None)

abbrev pub same_outside : TermTree → TermTree → ℤ → ℤ → Option RelTree
same_outside t u c d = if same_term t u then outside t c d else None

abbrev pub either_bound : Bound → Bound → Option RelTree
either_bound (from t c) (from u d) = if_same t u (rel_compare Ge t (literal (lesser c d)))
either_bound (up_to t c) (up_to u d) = if_same t u (rel_compare Le t (literal (greater c d)))
either_bound (from t c) (up_to u d) = same_outside t u c d
either_bound (up_to t c) (from u d) = same_outside t u d c
either_bound no_bound b = None
either_bound (from t c) no_bound = None
either_bound (up_to t c) no_bound = None
