-- What an expression stands for over what its parts stand for.
use Rattle.std.specs.Prelude.{ℕ, ℤ, ◌+◌, false, List, ◌++◌, map, Option, Result, Ok, Err}
use Rattle.cf_tree.specs.declared.base.Base.{Base}
use Rattle.cf_tree.specs.declared.base.Base.TheVariants.{Int, Bool as Truth, Set}
use Rattle.cf_tree.specs.declared.base.Place.{Place}
use Rattle.cf_tree.specs.declared.base.Sense.{Sense}
use Rattle.cf_tree.specs.declared.base.Sense.TheVariants.{Least, Greatest}
use Rattle.cf_tree.specs.declared.base.Edition.TheVariants.{Three}
use Rattle.cf_tree.specs.ExprTree.{ExprTree, ExprTrees, holds_where, expr_neg, expr_not, expr_abs, expr_divides, expr_div, expr_mod, expr_card, expr_min, expr_max}
use Rattle.cf_tree.specs.declared.raw.Param.{Param}
use Rattle.cf_tree.specs.RawTree.{RawTree, raw_set_of, raw_min, raw_max, raw_neg, raw_not, raw_abs, raw_divides, raw_div, raw_mod, raw_card, raw_call, raw_choose, RawArmTree, raw_arm}
use Rattle.cf_tree.specs.RelTree.{term_card, term_neg, term_div, term_mod, term_abs, rel_divides, rel_not}
use Rattle.cf_program.specs.declared.fault.TypeFault.{TypeFault}
use Rattle.cf_program.specs.declared.fault.TypeFault.TheVariants.{Mismatch, NoMemory}
use Rattle.cf_program.specs.Linear.{found_in, all_hold, is_known, in_choose}
use Rattle.cf_program.specs.Reading.{Reading, relation, term, on_relation, on_term, on_set, first_nonlinear, not_linear_at}
use Rattle.cf_program.specs.Then.{◌>>=◌}
use Rattle.cf_program.specs.Names.{repeated}
use Rattle.cf_program.specs.Walk.{where_kept, where_linear, where_none_repeated, where_no_fault, output_fault, is_one, are_numbers, takes_inputs, aim_expr, choose_where_form, Context, Form, Forms, Arms, GivenForm, AimForm, Pattern, unary_form, set_form, extreme_form, tuple_form, call_form, taken, constant_fault, sum_with, variables_of, after_arm, with_arm, pattern_in, walk, walk_given, walk_aim}

-- the base that a form over one part asks of it
abbrev pub asked : RawTree → Base
asked (raw_not p a) = Truth
asked (raw_card p a) = Set
asked _ = Int

-- the base of a form over one part
abbrev pub given : RawTree → Base
given (raw_not p a) = Truth
given (raw_divides p k a) = Truth
given _ = Int

-- the tree of a form over one part; any other form is its part
abbrev pub tree_over : RawTree → ExprTree → ExprTree
tree_over (raw_neg p a) = expr_neg
tree_over (raw_not p a) = expr_not
tree_over (raw_abs p a) = expr_abs
tree_over (raw_card p a) = expr_card
tree_over _ = λ e. e

-- the reading of a form over one part; any other form is not linear
abbrev pub reading_over : RawTree → Place → Reading → Reading
reading_over (raw_neg p a) = on_term (λ t. term (term_neg t))
reading_over (raw_not p a) = on_relation (λ r. relation (rel_not r))
reading_over (raw_abs p a) = on_term (λ t. term (term_abs t))
reading_over (raw_card p a) = on_set (λ s. term (term_card s))
reading_over _ = λ p r. not_linear_at (first_nonlinear r) p

-- a form at p over one part
abbrev pub over_one : Place → RawTree → Form → Result Form TypeFault
over_one p raw = unary_form p (asked raw) (given raw) (tree_over raw) (reading_over raw)

-- the tree of a form over one part and a number; any other form is its part
abbrev pub tree_with : RawTree → ℤ → ExprTree → ExprTree
tree_with (raw_divides p j a) k = expr_divides k
tree_with (raw_div p a j) k = λ e. expr_div e k
tree_with (raw_mod p a j) k = λ e. expr_mod e k
tree_with _ k = λ e. e

-- the reading of a form over one part and a number; any other form is not linear
abbrev pub reading_with : RawTree → ℤ → Place → Reading → Reading
reading_with (raw_divides p j a) k = on_term (λ t. relation (rel_divides k t))
reading_with (raw_div p a j) k = on_term (λ t. term (term_div t k))
reading_with (raw_mod p a j) k = on_term (λ t. term (term_mod t k))
reading_with _ k = λ p r. not_linear_at (first_nonlinear r) p

-- a form at p over one part and a number
abbrev pub over_number : Place → RawTree → ℤ → Form → Result Form TypeFault
over_number p raw k = unary_form p Int (given raw) (tree_with raw k) (reading_with raw k)

-- the tree of the least or the greatest of several
abbrev pub extreme_of : Sense → ExprTrees → ExprTree
extreme_of Least = expr_min
extreme_of Greatest = expr_max

-- a form at p with parts in a row: a set, the least or the greatest, a call, or else a tuple
abbrev pub over_row : Context → Place → RawTree → Forms → Result Form TypeFault
over_row context p (raw_set_of q es) fs = set_form p fs
over_row context p (raw_min q es) fs = extreme_form p (extreme_of Least) fs
over_row context p (raw_max q es) fs = extreme_form p (extreme_of Greatest) fs
over_row context p (raw_call q x es) fs = call_form p (context.calls x) fs
over_row context p _ fs = tuple_form p fs

-- a pattern with this constant
abbrev pub summed_to : Pattern → ℤ → Pattern
summed_to m k = record { summands = m.summands; constants = m.constants; constant = k }

-- a pattern whose first token is at `start`, where its names differ, and its constants make one with k within the limit
abbrev pub summed : Context → Option Place → ℤ → Pattern → Result Pattern TypeFault
summed context start k m =
    where_none_repeated (repeated (taken context) (map (λ x. x.name) m.summands) (map (λ x. x.place) m.summands)) (
    where_no_fault (constant_fault start m.constants k) (
    Ok (summed_to m (sum_with k m.constants))))

-- all outputs of a choose of edition 3 at once, where each has a new name
abbrev pub outputs_checked : Context → List Param → Result (List Param) TypeFault
outputs_checked context outputs = where_no_fault (output_fault Three (taken context) outputs) (Ok outputs)

-- a relation at p that was walked, where it is a truth value and linear
abbrev pub related : Context → List Param → List Param → Place → RawTree → Form → Result Form TypeFault
related context scope outputs p r f =
    where_kept (is_one Truth f.bases) (Mismatch p) (
    where_linear (found_in (takes_inputs context.how) context.earlier (in_choose scope outputs) r) (Ok f))

-- what is given at p, which was walked
abbrev pub given_form : Context → List Param → Place → RawTree → Form → Result GivenForm TypeFault
given_form context scope p a f =
    where_kept (is_one Truth f.bases) (Mismatch p) (
    where_linear (found_in false context.earlier (all_hold is_known scope) a) (Ok (record { tree = holds_where f.tree; next = f.next })))

-- an objective at p that was walked
abbrev pub aim_form : Context → List Param → List Param → Place → Sense → RawTree → Form → Result AimForm TypeFault
aim_form context scope outputs p sense a f =
    where_kept (are_numbers f.bases) (Mismatch p) (
    where_linear (found_in (takes_inputs context.how) context.earlier (in_choose scope outputs) a) (Ok (record { tree = aim_expr sense f.tree; next = f.next })))

-- choose number n of edition 3, part by part; any other form has none
abbrev pub walk_choose_where : Context → List Param → ℕ → RawTree → Result Form TypeFault
walk_choose_where context scope n (raw_choose p outputs hidden given r aim) =
    outputs_checked context (outputs ++ hidden) >>= λ all.
    walk_given context scope (n + 1) given >>= λ g.
    walk context (scope ++ all) g.next r >>= related context scope all p r >>= λ f.
    walk_aim context scope all f.next aim >>= choose_where_form p n scope outputs hidden g.tree f.tree
walk_choose_where context scope n _ = Err NoMemory

-- an arm behind those before
abbrev pub walk_arm : Context → List Param → Arms → RawArmTree → Result Arms TypeFault
walk_arm context scope before (raw_arm parts k body) =
    pattern_in context scope parts k >>= λ m.
    walk context (scope ++ variables_of m.summands) (after_arm before.next m.summands) body >>= λ f.
    Ok (with_arm before m f)
