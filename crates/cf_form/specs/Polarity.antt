-- Polarity: the relation of language 2 that a wide relation stands for, and the one that its negation does; the alternatives of number forms and set forms.
use Rattle.std.specs.Prelude.{ℕ, pos, Bool, true, false, ◌&&◌, Option, Some, None, if◌then◌else◌, List, [], ◌∷◌, ◌++◌}
use Rattle.cf_tree.specs.declared.base.Order.TheVariants.{Lt, Le, Gt, Ge}
use Rattle.cf_tree.specs.RelTree.{SetTree, empty_set, set_var, union_of, inter_of, diff_of, TermTree, term_lit, term_var, term_card, term_neg, term_add, term_sub, term_mul, term_div, term_mod, term_abs, RelTree, rel_true, rel_false, rel_compare, rel_same_set, rel_other_set, rel_subset, rel_divides, rel_and, rel_or, rel_not}
use Rattle.cf_form.specs.Alternatives.{all_of, some_of, Guarded, alone, over_one, over_two, behind, best_of, some_atom, links}
use Rattle.cf_form.specs.Wide.{WideTerm, wide_lit, wide_var, wide_card, wide_neg, wide_add, wide_sub, wide_mul, wide_div, wide_mod, wide_abs, wide_if, wide_min, wide_max, WideTerms, no_wides, wide_more, WideSet, wide_empty, wide_set, wide_union, wide_inter, wide_diff, wide_if_set, WideRel, wide_true, wide_false, wide_truth, wide_compare, wide_same_set, wide_other_set, wide_subset, wide_divides, wide_not, wide_and, wide_or, wide_implies, wide_same, wide_other, wide_if_truth, wide_chain, is_plain}

-- the value that a branch gives a truth variable of the scope, by its level; an output has none
abbrev pub Truths : Type 0
Truths = ℕ → Option Bool

-- a truth variable: its value in the branch, or whether the number of an output is at least 1
abbrev pub truth_holds : Option Bool → ℕ → RelTree
truth_holds (Some true) x = rel_true
truth_holds (Some false) x = rel_false
truth_holds None x = rel_compare Ge (term_var x) (term_lit (pos 1))

abbrev pub truth_fails : Option Bool → ℕ → RelTree
truth_fails (Some true) x = rel_false
truth_fails (Some false) x = rel_true
truth_fails None x = rel_not (rel_compare Ge (term_var x) (term_lit (pos 1)))

-- the negation of a relation without new forms as it stands, and of any other one by its parts
abbrev pub not_or : Bool → RelTree → RelTree → RelTree
not_or plain holds by_parts = if plain then rel_not holds else by_parts

-- the first two together, or the last two
abbrev pub two_ways : RelTree → RelTree → RelTree → RelTree → RelTree
two_ways a b c d = rel_or (rel_and a b) (rel_and c d)

-- as it stands
abbrev pub itself : RelTree → RelTree
itself r = r

abbrev mutual
  pub set_alternatives : Truths → WideSet → List (Guarded SetTree)
  set_alternatives truths wide_empty = alone empty_set
  set_alternatives truths (wide_set x) = alone (set_var x)
  set_alternatives truths (wide_union a b) = over_two union_of (set_alternatives truths a) (set_alternatives truths b)
  set_alternatives truths (wide_inter a b) = over_two inter_of (set_alternatives truths a) (set_alternatives truths b)
  set_alternatives truths (wide_diff a b) = over_two diff_of (set_alternatives truths a) (set_alternatives truths b)
  set_alternatives truths (wide_if_set c a b) =
      behind (holding truths c) (set_alternatives truths a) ++ behind (failing truths c) (set_alternatives truths b)

  pub alternatives : Truths → WideTerm → List (Guarded TermTree)
  alternatives truths (wide_lit k) = alone (term_lit k)
  alternatives truths (wide_var x) = alone (term_var x)
  alternatives truths (wide_card s) = over_one term_card (set_alternatives truths s)
  alternatives truths (wide_neg a) = over_one term_neg (alternatives truths a)
  alternatives truths (wide_add a b) = over_two term_add (alternatives truths a) (alternatives truths b)
  alternatives truths (wide_sub a b) = over_two term_sub (alternatives truths a) (alternatives truths b)
  alternatives truths (wide_mul a b) = over_two term_mul (alternatives truths a) (alternatives truths b)
  alternatives truths (wide_div a k) = over_one (λ t. term_div t k) (alternatives truths a)
  alternatives truths (wide_mod a k) = over_one (λ t. term_mod t k) (alternatives truths a)
  alternatives truths (wide_abs a) = over_one term_abs (alternatives truths a)
  alternatives truths (wide_if c a b) = behind (holding truths c) (alternatives truths a) ++ behind (failing truths c) (alternatives truths b)
  alternatives truths (wide_min ts) = best_of Le Gt (all_alternatives truths ts)
  alternatives truths (wide_max ts) = best_of Ge Lt (all_alternatives truths ts)

  pub all_alternatives : Truths → WideTerms → List (List (Guarded TermTree))
  all_alternatives truths no_wides = []
  all_alternatives truths (wide_more t ts) = alternatives truths t ∷ all_alternatives truths ts

  -- a relation of language 2 for the wide relation
  pub holding : Truths → WideRel → RelTree
  holding truths wide_true = rel_true
  holding truths wide_false = rel_false
  holding truths (wide_truth x) = truth_holds (truths x) x
  holding truths (wide_compare o a b) = some_atom itself (over_two (rel_compare o) (alternatives truths a) (alternatives truths b))
  holding truths (wide_same_set a b) = some_atom itself (over_two rel_same_set (set_alternatives truths a) (set_alternatives truths b))
  holding truths (wide_other_set a b) = some_atom itself (over_two rel_other_set (set_alternatives truths a) (set_alternatives truths b))
  holding truths (wide_subset a b) = some_atom itself (over_two rel_subset (set_alternatives truths a) (set_alternatives truths b))
  holding truths (wide_divides k t) = some_atom itself (over_one (rel_divides k) (alternatives truths t))
  holding truths (wide_not p) = failing truths p
  holding truths (wide_and p q) = rel_and (holding truths p) (holding truths q)
  holding truths (wide_or p q) = rel_or (holding truths p) (holding truths q)
  holding truths (wide_implies p q) = rel_or (failing truths p) (holding truths q)
  holding truths (wide_same p q) = two_ways (holding truths p) (holding truths q) (failing truths p) (failing truths q)
  holding truths (wide_other p q) = two_ways (holding truths p) (failing truths q) (failing truths p) (holding truths q)
  holding truths (wide_if_truth c p q) = two_ways (holding truths c) (holding truths p) (failing truths c) (holding truths q)
  holding truths (wide_chain orders ts) = all_of (links itself orders (all_alternatives truths ts))

  -- one for its negation
  pub failing : Truths → WideRel → RelTree
  failing truths wide_true = rel_not rel_true
  failing truths wide_false = rel_not rel_false
  failing truths (wide_truth x) = truth_fails (truths x) x
  failing truths (wide_compare o a b) = some_atom rel_not (over_two (rel_compare o) (alternatives truths a) (alternatives truths b))
  failing truths (wide_same_set a b) = some_atom rel_not (over_two rel_same_set (set_alternatives truths a) (set_alternatives truths b))
  failing truths (wide_other_set a b) = some_atom rel_not (over_two rel_other_set (set_alternatives truths a) (set_alternatives truths b))
  failing truths (wide_subset a b) = some_atom rel_not (over_two rel_subset (set_alternatives truths a) (set_alternatives truths b))
  failing truths (wide_divides k t) = some_atom rel_not (over_one (rel_divides k) (alternatives truths t))
  failing truths (wide_not p) = not_or (is_plain p) (failing truths p) (holding truths p)
  failing truths (wide_and p q) =
      not_or (is_plain p && is_plain q) (rel_and (holding truths p) (holding truths q)) (rel_or (failing truths p) (failing truths q))
  failing truths (wide_or p q) =
      not_or (is_plain p && is_plain q) (rel_or (holding truths p) (holding truths q)) (rel_and (failing truths p) (failing truths q))
  failing truths (wide_implies p q) = rel_and (holding truths p) (failing truths q)
  failing truths (wide_same p q) = two_ways (holding truths p) (failing truths q) (failing truths p) (holding truths q)
  failing truths (wide_other p q) = two_ways (holding truths p) (holding truths q) (failing truths p) (failing truths q)
  failing truths (wide_if_truth c p q) = two_ways (holding truths c) (failing truths p) (failing truths c) (failing truths q)
  failing truths (wide_chain orders ts) = some_of (links rel_not orders (all_alternatives truths ts))
