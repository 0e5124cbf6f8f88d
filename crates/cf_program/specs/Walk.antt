-- The walk through an expression in the order of its text: what it stands for, or the first rule that is broken.
--
-- Parts come before the whole, from left to right. Where one form breaks several rules at once, the first test below that fails decides.
-- Both editions are walked alike; they differ in a choose, in which outputs it may have, and in that only edition 3 has constants.
use Rattle.std.specs.Prelude.{ℕ, ℤ, pos, neg_ℤ, ◌+ℤ◌, int_le, ◌+◌, Bool, true, false, ◌&&◌, ◌==◌, List, [], ◌∷◌, ◌++◌, length, map, codes, Option, Some, None, Result, Ok, Err, if◌then◌else◌}
use Rattle.cf_tree.specs.declared.base.Base.{Base}
use Rattle.cf_tree.specs.declared.base.Base.TheVariants.{Int, Bool as Truth, Set}
use Rattle.cf_tree.specs.declared.base.Order.TheVariants.{Eq, Ne, Lt, Le, Gt, Ge}
use Rattle.cf_tree.specs.declared.base.Place.{Place}
use Rattle.cf_tree.specs.declared.raw.BinOp.{BinOp}
use Rattle.cf_tree.specs.declared.raw.BinOp.TheVariants.{Add, Sub, Mul, And, Or, Union, Inter, Diff, Subset, Implies, Compare}
use Rattle.cf_tree.specs.declared.raw.Param.{Param}
use Rattle.cf_tree.specs.declared.base.Order.{Order}
use Rattle.cf_tree.specs.declared.base.Sense.{Sense}
use Rattle.cf_tree.specs.declared.base.Sense.TheVariants.{Least, Greatest}
use Rattle.cf_tree.specs.DefView.{RawDefTree}
use Rattle.cf_tree.specs.Bases.{same_base, same_bases}
use Rattle.cf_tree.specs.Typing.{one}
use Rattle.cf_tree.specs.ExprTree.{ExprTree, expr_lit, expr_truth, expr_var, expr_set_of, expr_tuple, expr_neg, expr_not, expr_abs, expr_binary, expr_divides, expr_div, expr_mod, expr_card, expr_if, expr_call, expr_let, expr_choose, expr_choose_where, expr_chain, expr_min, expr_max, expr_match, ExprTrees, exprs_of, MatchArmTree, match_arm, match_arms_of, GivenExpr, holds_always, holds_where, AimExpr, at_any, at_least, at_greatest}
use Rattle.cf_tree.specs.RawTree.{RawTree, raw_lit, raw_truth, raw_name, raw_set_of, raw_group, raw_tuple, raw_neg, raw_not, raw_abs, raw_binary, raw_divides, raw_div, raw_mod, raw_card, raw_call, raw_if, raw_let, raw_choose, raw_chain, raw_min, raw_max, raw_match, RawTrees, no_raws, raw_more, raw_arm, RawArmTrees, no_raw_arms, raw_arm_more, NumberTree, number_lit, number_name, PartTree, GivenTree, no_given, given_that, AimTree, no_aim, aim_at}
use Rattle.cf_tree.specs.RelTree.{term_lit, term_card, term_neg, term_div, term_mod, term_abs, empty_set, RelTree, rel_divides, rel_not}
use Rattle.cf_program.specs.declared.fault.TypeFault.{TypeFault}
use Rattle.cf_program.specs.declared.fault.TypeFault.TheVariants.{UnknownName, DuplicateName, WrongCount, Mismatch, NotConstant, ConstantBelow, ConstantPast, CallsLater, NotLinear}
use Rattle.cf_program.specs.declared.linearity.Linearity.{Linearity}
use Rattle.cf_program.specs.declared.variable.Variable.{Variable}
use Rattle.cf_tree.specs.declared.base.Edition.{Edition}
use Rattle.cf_tree.specs.declared.base.Edition.TheVariants.{Two, Three}
use Rattle.cf_program.specs.declared.linearity.Linearity.TheVariants.{Plain, Late}
use Rattle.cf_program.specs.Constants.{Constant, constant_of, constant_names, is_within}
use Rattle.cf_program.specs.LateLinear.{known_in}
use Rattle.cf_program.specs.Linear.{Found, linear as linear_with, bends, all_hold, in_choose, is_known, found_in}
use Rattle.cf_program.specs.Names.{variable_of, Callee, is_among, repeated}
use Rattle.cf_tree.specs.Params.{bases_of}
use Rattle.cf_program.specs.Then.{◌>>=◌}
use Rattle.cf_program.specs.Reading.{Reading, relation, term, set, not_linear, first_nonlinear, earlier_nonlinear, not_linear_at, on_relation, on_term, on_set, truth_reading, variable_reading, binary_reading}

-- goes on where a rule is kept
abbrev pub where_kept : {A : Type 0} → Bool → TypeFault → Result A TypeFault → Result A TypeFault
where_kept true fault go = go
where_kept false fault go = Err fault

abbrev pub where_no_fault : {A : Type 0} → Option TypeFault → Result A TypeFault → Result A TypeFault
where_no_fault (Some fault) go = Err fault
where_no_fault None go = go

-- goes on where an expression is linear
abbrev pub where_linear : {A : Type 0} → Found → Result A TypeFault → Result A TypeFault
where_linear (linear_with hs) go = go
where_linear (bends p c) go = Err (NotLinear p)

-- what each edition says
abbrev pub by_edition : {A : Type 0} → Edition → A → A → A
by_edition Two two three = two
by_edition Three two three = three

-- goes on where no name is repeated
abbrev pub where_none_repeated : {A : Type 0} → Option Place → Result A TypeFault → Result A TypeFault
where_none_repeated (Some p) go = Err (DuplicateName p)
where_none_repeated None go = go

-- an expression: the bases of its parts, its tree with levels, what it is as a part of a relation, and the next number of a choose
pub record Form : Type 0 where
  pub bases : List Base
  pub tree : ExprTree
  pub reading : Reading
  pub next : ℕ

abbrev pub form : List Base → ExprTree → Reading → ℕ → Result Form TypeFault
form bases tree reading next = Ok (record { bases = bases; tree = tree; reading = reading; next = next })

-- expressions in a row: the bases of each, their trees, where the first form stands that is not linear, and the next number
pub record Forms : Type 0 where
  pub bases : List (List Base)
  pub trees : List ExprTree
  pub first_nonlinear : Option Place
  pub next : ℕ

abbrev pub no_forms : ℕ → Forms
no_forms n = record { bases = []; trees = []; first_nonlinear = None; next = n }

abbrev pub with_form : Forms → Form → Forms
with_form es f =
    record {
      bases = es.bases ++ f.bases ∷ [];
      trees = es.trees ++ f.tree ∷ [];
      first_nonlinear = earlier_nonlinear es.first_nonlinear (first_nonlinear f.reading);
      next = f.next;
    }

-- the arms of a match: the bases of each body, their trees, where the first form stands that is not linear, and the next number
pub record Arms : Type 0 where
  pub bases : List (List Base)
  pub trees : List MatchArmTree
  pub first_nonlinear : Option Place
  pub next : ℕ

abbrev pub no_arms : ℕ → Arms
no_arms n = record { bases = []; trees = []; first_nonlinear = None; next = n }

abbrev pub is_one : Base → List Base → Bool
is_one b bs = same_bases bs (one b)

-- whether each of several expressions has this one base
abbrev pub all_are : Base → List (List Base) → Bool
all_are b [] = true
all_are b (bs ∷ more) = is_one b bs && all_are b more

-- whether each has one base
abbrev pub all_are_single : List (List Base) → Bool
all_are_single [] = true
all_are_single (bs ∷ more) = (length bs == 1) && all_are_single more

-- whether each has the one base that is asked of it
abbrev pub are_asked : List (List Base) → List Base → Bool
are_asked [] [] = true
are_asked [] (b ∷ asked) = false
are_asked (bs ∷ more) [] = false
are_asked (bs ∷ more) (b ∷ asked) = is_one b bs && are_asked more asked

-- whether each has these bases
abbrev pub all_have : List Base → List (List Base) → Bool
all_have bs [] = true
all_have bs (cs ∷ more) = same_bases cs bs && all_have bs more

abbrev pub all_same : List (List Base) → Bool
all_same [] = true
all_same (bs ∷ more) = all_have bs more

abbrev pub joined : List (List Base) → List Base
joined [] = []
joined (bs ∷ more) = bs ++ joined more

abbrev pub first_of : List (List Base) → List Base
first_of [] = []
first_of (bs ∷ more) = bs

-- the one base that an operation asks of both sides; == and != ask that both have the same one base
abbrev pub side_of : BinOp → Option Base
side_of Add = Some Int
side_of Sub = Some Int
side_of Mul = Some Int
side_of And = Some Truth
side_of Or = Some Truth
side_of Union = Some Set
side_of Inter = Some Set
side_of Diff = Some Set
side_of Subset = Some Set
side_of Implies = Some Truth
side_of (Compare Eq) = None
side_of (Compare Ne) = None
side_of (Compare Lt) = Some Int
side_of (Compare Le) = Some Int
side_of (Compare Gt) = Some Int
side_of (Compare Ge) = Some Int

abbrev pub sides_fit : Option Base → List Base → List Base → Bool
sides_fit (Some b) left right = is_one b left && is_one b right
sides_fit None left right = (length left == 1) && same_bases left right

-- the base of an operation
abbrev pub result_of : BinOp → Base
result_of Add = Int
result_of Sub = Int
result_of Mul = Int
result_of And = Truth
result_of Or = Truth
result_of Union = Set
result_of Inter = Set
result_of Diff = Set
result_of Subset = Truth
result_of Implies = Truth
result_of (Compare order) = Truth

abbrev pub variable_form : Place → ℕ → Option Variable → Result Form TypeFault
variable_form p n None = Err (UnknownName p)
variable_form p n (Some v) = form (one v.base) (expr_var v.level) (variable_reading p v.base v.level) n

-- a name as an expression: that of a variable, and else that of a constant
abbrev pub name_form : Place → ℕ → Option Variable → Option ℤ → Result Form TypeFault
name_form p n (Some v) c = variable_form p n (Some v)
name_form p n None (Some k) = form (one Int) (expr_lit k) (term (term_lit k)) n
name_form p n None None = variable_form p n None

-- a form at p over one part
abbrev pub unary_form : Place → Base → Base → (ExprTree → ExprTree) → (Place → Reading → Reading) → Form → Result Form TypeFault
unary_form p asked given tree reading a =
    where_kept (is_one asked a.bases) (Mismatch p) (form (one given) (tree a.tree) (reading p a.reading) a.next)

-- an operation where so many of the outermost variables count as known
abbrev pub binary_form : ℕ → Place → BinOp → Form → Form → Result Form TypeFault
binary_form known p op a b =
    where_kept (sides_fit (side_of op) a.bases b.bases) (Mismatch p) (
    form (one (result_of op)) (expr_binary op a.tree b.tree) (binary_reading known op p a.reading b.reading) b.next)

-- only the set form without elements is linear
abbrev pub set_reading : Place → Option Place → List ExprTree → Reading
set_reading p first [] = set empty_set
set_reading p first (e ∷ es) = not_linear_at first p

abbrev pub set_form : Place → Forms → Result Form TypeFault
set_form p es = where_kept (all_are Int es.bases) (Mismatch p)
    (form (one Set) (expr_set_of (exprs_of es.trees)) (set_reading p es.first_nonlinear es.trees) es.next)

-- the least or the greatest of several numbers
abbrev pub extreme_form : Place → (ExprTrees → ExprTree) → Forms → Result Form TypeFault
extreme_form p tree es = where_kept (all_are Int es.bases) (Mismatch p)
    (form (one Int) (tree (exprs_of es.trees)) (not_linear_at es.first_nonlinear p) es.next)

-- the place of the first order with a side that is no number
abbrev pub odd_link : List (List Base) → List Place → Option TypeFault
odd_link [] places = None
odd_link (a ∷ []) places = None
odd_link (a ∷ b ∷ bs) [] = None
odd_link (a ∷ b ∷ bs) (p ∷ places) = if is_one Int a && is_one Int b then odd_link (b ∷ bs) places else Some (Mismatch p)

abbrev pub chain_form : Place → List Order → List Place → Forms → Result Form TypeFault
chain_form p orders places es = where_no_fault (odd_link es.bases places)
    (form (one Truth) (expr_chain orders (exprs_of es.trees)) (not_linear_at es.first_nonlinear p) es.next)

abbrev pub tuple_form : Place → Forms → Result Form TypeFault
tuple_form p es = where_kept (all_are_single es.bases) (Mismatch p)
    (form (joined es.bases) (expr_tuple (exprs_of es.trees)) (not_linear_at es.first_nonlinear p) es.next)

abbrev pub call_form : Place → Option Callee → Forms → Result Form TypeFault
call_form p None es = Err (UnknownName p)
call_form p (Some f) es =
    where_kept (length es.bases == length f.params) (WrongCount p) (
    where_kept (are_asked es.bases f.params) (Mismatch p) (
    where_kept f.is_earlier (CallsLater p) (
    form f.results (expr_call f.number (exprs_of es.trees)) (not_linear_at es.first_nonlinear p) es.next)))

abbrev pub if_form : Place → Form → Form → Form → Result Form TypeFault
if_form p t a b =
    where_kept (is_one Truth t.bases && same_bases a.bases b.bases) (Mismatch p) (
    form a.bases (expr_if t.tree a.tree b.tree)
    (not_linear_at (earlier_nonlinear (first_nonlinear t.reading) (earlier_nonlinear (first_nonlinear a.reading) (first_nonlinear b.reading))) p) b.next)

-- the variables that a let binds to parts of these bases
abbrev pub bound : List (List ℕ) → List Place → List Base → List Param
bound [] places bases = []
bound (x ∷ xs) [] bases = []
bound (x ∷ xs) (p ∷ places) [] = []
bound (x ∷ xs) (p ∷ places) (b ∷ bases) = record { place = p; name = x; base = b } ∷ bound xs places bases

abbrev pub let_form : Place → ℕ → Form → Form → Result Form TypeFault
let_form p count a b = form b.bases (expr_let count a.tree b.tree) (not_linear_at (earlier_nonlinear (first_nonlinear a.reading) (first_nonlinear b.reading)) p)
    b.next

abbrev pub is_output : Base → Bool
is_output Int = true
is_output Truth = false
is_output Set = true

-- edition 3 has truth values as outputs too
abbrev pub may_be_output : Edition → Base → Bool
may_be_output edition b = by_edition edition (is_output b) true

-- what is wrong with the outputs of a choose, from left to right, behind the names `before`: each has a new name, and a base that the edition allows
abbrev pub output_fault : Edition → List (List ℕ) → List Param → Option TypeFault
output_fault edition before [] = None
output_fault edition before (o ∷ os) =
    if is_among before o.name then Some (DuplicateName o.place)
    else if may_be_output edition o.base then output_fault edition (before ++ o.name ∷ []) os
    else Some (Mismatch o.place)

-- the relation that is read, where it is linear
abbrev pub linear : Place → Reading → Result RelTree TypeFault
linear p (relation rel) = Ok rel
linear p (term t) = Err (NotLinear p)
linear p (set s) = Err (NotLinear p)
linear p (not_linear q) = Err (NotLinear q)

-- choose number n at p: its relation is a truth value, and linear
abbrev pub choose_form : Place → ℕ → List Param → List Param → Form → Result Form TypeFault
choose_form p n scope outputs r =
    where_kept (is_one Truth r.bases) (Mismatch p) (
    linear p r.reading >>= λ rel. form (bases_of outputs) (expr_choose n scope (bases_of outputs) rel) (not_linear p) r.next)

-- a choose at p as a part of the relation around it: `inner` is what its own relation is as a part of that one
abbrev pub choose_part : Place → Form → Form → Result Form TypeFault
choose_part p chosen inner = form chosen.bases chosen.tree (not_linear_at (first_nonlinear inner.reading) p) chosen.next

-- the value that is matched, as a variable
abbrev pub matched : Place → Param
matched p = record { place = p; name = codes "match"; base = Int }

-- what is given of the scope, and the objective of a choose, each with its tree and the next number
pub record GivenForm : Type 0 where
  pub tree : GivenExpr
  pub next : ℕ

pub record AimForm : Type 0 where
  pub tree : AimExpr
  pub next : ℕ

abbrev pub aim_expr : Sense → ExprTree → AimExpr
aim_expr Least e = at_least e
aim_expr Greatest e = at_greatest e

-- whether a value is one number or several
abbrev pub are_numbers : List Base → Bool
are_numbers [] = true
are_numbers (b ∷ bs) = same_base b Int && are_numbers bs

-- choose number n of edition 3 at p; as a part of a relation around it, it is not linear
abbrev pub choose_where_form : Place → ℕ → List Param → List Param → List Param → GivenExpr → ExprTree → AimForm → Result Form TypeFault
choose_where_form p n scope outputs hidden given rel aim =
    form (bases_of outputs) (expr_choose_where n scope (bases_of outputs) (bases_of hidden) given rel aim.tree) (not_linear p) aim.next

-- a variable of a pattern with its factor
pub record Summand : Type 0 where
  pub place : Place
  pub factor : ℤ
  pub name : List ℕ

-- a pattern: its variables, the constants of its names, each with its sign, and its constant
pub record Pattern : Type 0 where
  pub summands : List Summand
  pub constants : List ℤ
  pub constant : ℤ

abbrev pub signed : Bool → ℤ → ℤ
signed true k = neg_ℤ k
signed false k = k

abbrev pub with_summand : Pattern → Place → ℤ → List ℕ → Pattern
with_summand m p f x = record { summands = m.summands ++ record { place = p; factor = f; name = x } ∷ []; constants = m.constants; constant = m.constant }

abbrev pub with_constant : Pattern → ℤ → Pattern
with_constant m k = record { summands = m.summands; constants = m.constants ++ k ∷ []; constant = m.constant }

-- a name without a factor: a constant where it is the name of one, and else a new variable
abbrev pub with_name : Pattern → PartTree → Option ℤ → Pattern
with_name m x (Some k) = with_constant m (signed x.is_negative k)
with_name m x None = with_summand m x.place (signed x.is_negative (pos 1)) x.name

abbrev pub first_start : List PartTree → Option Place
first_start [] = None
first_start (x ∷ xs) = Some x.start

abbrev pub sum_with : ℤ → List ℤ → ℤ
sum_with k [] = k
sum_with k (c ∷ cs) = sum_with (k +ℤ c) cs

-- the sum of the constants of a pattern, where it is within the limit
abbrev pub constant_fault : Option Place → List ℤ → ℤ → Option TypeFault
constant_fault start [] k = None
constant_fault None (c ∷ cs) k = None
constant_fault (Some p) (c ∷ cs) k = if is_within (sum_with k (c ∷ cs)) then None else Some (ConstantPast p)

-- the variables of a pattern
abbrev pub variables_of : List Summand → List Param
variables_of parts = map (λ x. record { place = x.place; name = x.name; base = Int }) parts

-- the number of an arm: the next one where it has variables, and else 0
abbrev pub arm_number : ℕ → List Summand → ℕ
arm_number n [] = 0
arm_number n (x ∷ parts) = n

abbrev pub after_arm : ℕ → List Summand → ℕ
after_arm n [] = n
after_arm n (x ∷ parts) = n + 1

abbrev pub with_arm : Arms → Pattern → Form → Arms
with_arm arms m f =
    record {
      bases = arms.bases ++ f.bases ∷ [];
      trees = arms.trees ++ match_arm (arm_number arms.next m.summands) (map (λ x. x.factor) m.summands) m.constant f.tree ∷ [];
      first_nonlinear = earlier_nonlinear arms.first_nonlinear (first_nonlinear f.reading);
      next = f.next;
    }

-- match number n at p: a number is matched, and all bodies have the same bases
abbrev pub match_form : Place → ℕ → List Param → Form → Arms → Result Form TypeFault
match_form p n scope a arms =
    where_kept (is_one Int a.bases && all_same arms.bases) (Mismatch p) (
    form (first_of arms.bases) (expr_match n scope a.tree (match_arms_of arms.trees))
    (not_linear_at (earlier_nonlinear (first_nonlinear a.reading) arms.first_nonlinear) p) arms.next)

-- Where an expression stands: the edition, what the name of a function stands for, the constants before, the functions before, of which the last stands
-- first, which relations are linear, and how many of the outermost variables count as known.
pub record Context : Type 0 where
  pub edition : Edition
  pub calls : List ℕ → Option Callee
  pub constants : List Constant
  pub earlier : List RawDefTree
  pub how : Linearity
  pub known : ℕ

-- in the body of a function or in the expression of a constant, where no variable counts as known
abbrev pub behind : Edition → Linearity → (List ℕ → Option Callee) → List Constant → List RawDefTree → Context
behind edition how calls constants earlier =
    record { edition = edition; calls = calls; constants = constants; earlier = earlier; how = how; known = 0 }

-- in the relation of a choose behind n variables
abbrev pub in_relation : Context → ℕ → Context
in_relation context n =
    record {
      edition = context.edition;
      calls = context.calls;
      constants = context.constants;
      earlier = context.earlier;
      how = context.how;
      known = known_in context.how n;
    }

-- the names that no binder may take
abbrev pub taken : Context → List (List ℕ)
taken context = constant_names context.constants

-- whether a product with inputs may stand in a relation
abbrev pub takes_inputs : Linearity → Bool
takes_inputs Plain = false
takes_inputs Late = true

-- the name of a number: that of a constant
abbrev pub named_number : Place → Option ℤ → Option Variable → Result ℤ TypeFault
named_number p (Some k) v = Ok k
named_number p None (Some v) = Err (NotConstant p)
named_number p None None = Err (UnknownName p)

-- the factor of a part of a pattern
abbrev pub factor_in : Context → List Param → NumberTree → Result ℤ TypeFault
factor_in context scope (number_lit k) = Ok k
factor_in context scope (number_name p x) = named_number p (constant_of context.constants x) (variable_of scope x)

-- the divisor of a div, mod or divides
abbrev pub divisor_in : Context → List Param → NumberTree → Result ℤ TypeFault
divisor_in context scope (number_lit k) = Ok k
divisor_in context scope (number_name p x) =
    named_number p (constant_of context.constants x) (variable_of scope x) >>= λ k. where_kept (int_le (pos 1) k) (ConstantBelow p) (Ok k)

-- a part of a pattern behind those before
abbrev pub with_part : Context → List Param → Pattern → PartTree → Option NumberTree → Result Pattern TypeFault
with_part context scope m x None = Ok (with_name m x (constant_of context.constants x.name))
with_part context scope m x (Some k) = factor_in context scope k >>= λ f. Ok (with_summand m x.place (signed x.is_negative f) x.name)

abbrev pub with_parts : Context → List Param → Pattern → List PartTree → Result Pattern TypeFault
with_parts context scope m [] = Ok m
with_parts context scope m (x ∷ xs) = with_part context scope m x x.factor >>= λ more. with_parts context scope more xs

-- the pattern of these parts and this literal: the factors are constants, the names differ, and the sum of the constants is within the limit
abbrev pub pattern_in : Context → List Param → List PartTree → ℤ → Result Pattern TypeFault
pattern_in context scope parts k =
    with_parts context scope (record { summands = []; constants = []; constant = k }) parts >>= λ m.
    where_none_repeated (repeated (taken context) (map (λ x. x.name) m.summands) (map (λ x. x.place) m.summands)) (
    where_no_fault (constant_fault (first_start parts) m.constants k) (
    Ok (record { summands = m.summands; constants = m.constants; constant = sum_with k m.constants })))

abbrev mutual
  -- `scope` holds the variables by level, and n is the next number of a choose. The relation of a choose is read for the choose, and as a part of the one
  -- around it.
  pub walk : Context → List Param → ℕ → RawTree → Result Form TypeFault
  walk context scope n (raw_lit p k) = form (one Int) (expr_lit k) (term (term_lit k)) n
  walk context scope n (raw_truth p t) = form (one Truth) (expr_truth t) (truth_reading t) n
  walk context scope n (raw_name p x) = name_form p n (variable_of scope x) (constant_of context.constants x)
  walk context scope n (raw_set_of p es) = walk_all context scope (no_forms n) es >>= set_form p
  walk context scope n (raw_group p a) = walk context scope n a
  walk context scope n (raw_tuple p es) = walk_all context scope (no_forms n) es >>= tuple_form p
  walk context scope n (raw_neg p a) = walk context scope n a >>= unary_form p Int Int expr_neg (on_term (λ t. term (term_neg t)))
  walk context scope n (raw_not p a) = walk context scope n a >>= unary_form p Truth Truth expr_not (on_relation (λ r. relation (rel_not r)))
  walk context scope n (raw_abs p a) = walk context scope n a >>= unary_form p Int Int expr_abs (on_term (λ t. term (term_abs t)))
  walk context scope n (raw_binary p op a b) = walk context scope n a >>= λ f. walk context scope f.next b >>= binary_form context.known p op f
  walk context scope n (raw_chain p orders places es) = walk_all context scope (no_forms n) es >>= chain_form p orders places
  walk context scope n (raw_min p es) = walk_all context scope (no_forms n) es >>= extreme_form p expr_min
  walk context scope n (raw_max p es) = walk_all context scope (no_forms n) es >>= extreme_form p expr_max
  walk context scope n (raw_divides p j a) =
      divisor_in context scope j >>= λ k.
      walk context scope n a >>= unary_form p Int Truth (expr_divides k) (on_term (λ t. relation (rel_divides k t)))
  walk context scope n (raw_div p a j) =
      walk context scope n a >>= λ f.
      divisor_in context scope j >>= λ k. unary_form p Int Int (λ e. expr_div e k) (on_term (λ t. term (term_div t k))) f
  walk context scope n (raw_mod p a j) =
      walk context scope n a >>= λ f.
      divisor_in context scope j >>= λ k. unary_form p Int Int (λ e. expr_mod e k) (on_term (λ t. term (term_mod t k))) f
  walk context scope n (raw_card p a) = walk context scope n a >>= unary_form p Set Int expr_card (on_set (λ s. term (term_card s)))
  walk context scope n (raw_call p x es) = walk_all context scope (no_forms n) es >>= call_form p (context.calls x)
  walk context scope n (raw_if p t a b) =
      walk context scope n t >>= λ f. walk context scope f.next a >>= λ g. walk context scope g.next b >>= if_form p f g
  walk context scope n (raw_let p xs places a b) =
      walk context scope n a >>= λ f.
      where_none_repeated (repeated (taken context) xs places) (
      where_kept (length xs == length f.bases) (WrongCount p) (
      walk context (scope ++ bound xs places f.bases) f.next b >>= let_form p (length xs) f))
  walk context scope n (raw_choose p outputs hidden given r aim) =
      by_edition context.edition (
      where_no_fault (output_fault Two (taken context) outputs) (
      walk (in_relation context (length scope)) (scope ++ outputs) (n + 1) r >>= choose_form p n scope outputs >>= λ f.
      walk context (scope ++ outputs) (n + 1) r >>= choose_part p f)) (
      where_no_fault (output_fault Three (taken context) (outputs ++ hidden)) (
      walk_given context scope (n + 1) given >>= λ g.
      walk context (scope ++ (outputs ++ hidden)) g.next r >>= λ f.
      where_kept (is_one Truth f.bases) (Mismatch p) (
      where_linear (found_in (takes_inputs context.how) context.earlier (in_choose scope (outputs ++ hidden)) r) (
      walk_aim context scope (outputs ++ hidden) f.next aim >>= choose_where_form p n scope outputs hidden g.tree f.tree))))
  walk context scope n (raw_match p a arms) =
      walk context scope (n + 1) a >>= λ f. walk_arms context (scope ++ matched p ∷ []) (no_arms f.next) arms >>= match_form p n (scope ++ matched p ∷ []) f

  -- what is given is a truth value over the scope, and linear, whether or not products with inputs may stand in the relation
  pub walk_given : Context → List Param → ℕ → GivenTree → Result GivenForm TypeFault
  walk_given context scope n no_given = Ok (record { tree = holds_always; next = n })
  walk_given context scope n (given_that p a) =
      walk context scope n a >>= λ f.
      where_kept (is_one Truth f.bases) (Mismatch p) (
      where_linear (found_in false context.earlier (all_hold is_known scope) a) (
      Ok (record { tree = holds_where f.tree; next = f.next })))

  -- an objective is one number or several over the scope and all outputs, and linear
  pub walk_aim : Context → List Param → List Param → ℕ → AimTree → Result AimForm TypeFault
  walk_aim context scope outputs n no_aim = Ok (record { tree = at_any; next = n })
  walk_aim context scope outputs n (aim_at p sense a) =
      walk context (scope ++ outputs) n a >>= λ f.
      where_kept (are_numbers f.bases) (Mismatch p) (
      where_linear (found_in (takes_inputs context.how) context.earlier (in_choose scope outputs) a) (
      Ok (record { tree = aim_expr sense f.tree; next = f.next })))

  -- behind the expressions that stand before
  pub walk_all : Context → List Param → Forms → RawTrees → Result Forms TypeFault
  walk_all context scope before no_raws = Ok before
  walk_all context scope before (raw_more e es) =
      walk context scope before.next e >>= λ f. walk_all context scope (with_form before f) es

  -- behind the arms that stand before
  pub walk_arms : Context → List Param → Arms → RawArmTrees → Result Arms TypeFault
  walk_arms context scope before no_raw_arms = Ok before
  walk_arms context scope before (raw_arm_more (raw_arm parts k body) arms) =
      pattern_in context scope parts k >>= λ m.
      walk context (scope ++ variables_of m.summands) (after_arm before.next m.summands) body >>= λ f.
      walk_arms context scope (with_arm before m f) arms
