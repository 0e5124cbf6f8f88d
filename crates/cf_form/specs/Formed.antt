-- The formed body of a function: a body of edition 3 with the forms of language 2 alone, but for matches, and for a choose that is to be least, which stays.
use Rattle.std.specs.Prelude.{ℕ, zero, suc, ◌+◌, ◌-◌, pos, Bool, true, false, Option, Some, None, if◌then◌else◌, List, [], ◌∷◌, ◌++◌, length, map, reverse}
use Rattle.cf_tree.specs.declared.base.Base.{Base}
use Rattle.cf_tree.specs.declared.base.Base.TheVariants.{Int, Bool as Truth, Set}
use Rattle.cf_tree.specs.declared.base.Order.{Order}
use Rattle.cf_tree.specs.declared.base.Order.TheVariants.{Le, Ge}
use Rattle.cf_tree.specs.declared.raw.BinOp.{BinOp}
use Rattle.cf_tree.specs.declared.raw.BinOp.TheVariants.{And, Or, Implies, Compare}
use Rattle.cf_tree.specs.DefView.{DefTree}
use Rattle.cf_tree.specs.ExprTree.{ExprTree, expr_lit, expr_truth, expr_var, expr_set_of, expr_tuple, expr_neg, expr_not, expr_abs, expr_binary, expr_divides, expr_div, expr_mod, expr_card, expr_if, expr_call, expr_let, expr_choose, expr_match, expr_chain, expr_min, expr_max, expr_choose_where, ExprTrees, no_exprs, expr_more, exprs_of, match_arm, MatchArmTrees, no_match_arms, match_arm_more, GivenExpr, holds_always, holds_where, AimExpr, at_any, at_least, at_greatest}
use Rattle.cf_tree.specs.Params.{bases_of}
use Rattle.cf_form.specs.Alternatives.{halves}
use Rattle.cf_form.specs.Branches.{WideChoose, Branch, branched, relation_at, all_outputs}
use Rattle.cf_form.specs.Expansion.{Part, number_in, truth_in, first_part, variables_from, Calls, expanded, call_expanded}
use Rattle.cf_form.specs.SourceChooses.{SourceChoose}
use Rattle.cf_form.specs.Wide.{WideTerm, wide_neg, WideRel, wide_and}

-- ---- chains, least and greatest
-- the comparisons of neighbours, the first of which has level x
abbrev pub comparisons : ℕ → List Order → List ExprTree
comparisons x [] = []
comparisons x (o ∷ orders) = expr_binary (Compare o) (expr_var x) (expr_var (suc x)) ∷ comparisons (suc x) orders

-- whether neighbours among the variables from level s on compare so
abbrev pub chain_body : ℕ → List Order → ExprTree
chain_body s orders = halves (expr_binary And) (expr_truth true) (comparisons s orders)

abbrev pub pick : Order → ℕ → ℕ → ExprTree
pick o x y = expr_if (expr_binary (Compare o) (expr_var x) (expr_var y)) (expr_var x) (expr_var y)

-- the least or greatest of variable x, of the one of level y, and of `more` behind that; each but the last is bound, from level z on
abbrev pub picked_from : Order → ℕ → ℕ → ℕ → ℕ → ExprTree
picked_from o x y z zero = pick o x y
picked_from o x y z (suc more) = expr_let 1 (pick o x y) (picked_from o z (suc y) (suc z) more)

-- of k variables from level s on, of which there are at least two
abbrev pub best_body : Order → ℕ → ℕ → ExprTree
best_body o s k = picked_from o s (suc s) (s + k) (k - 2)

abbrev pub how_many : ExprTrees → ℕ
how_many no_exprs = 0
how_many (expr_more e es) = suc (how_many es)

-- ---- a choose
abbrev pub given_of : Calls → List Part → GivenExpr → Option WideRel
given_of calls env holds_always = None
given_of calls env (holds_where p) = Some (truth_in (first_part (expanded calls env p)))

abbrev pub with_given : Option WideRel → WideRel → WideRel
with_given None r = r
with_given (Some p) r = wide_and p r

abbrev pub aims_of : Calls → List Part → AimExpr → List WideTerm
aims_of calls env at_any = []
aims_of calls env (at_least e) = map number_in (expanded calls env e)
aims_of calls env (at_greatest e) = map (λ p. wide_neg (number_in p)) (expanded calls env e)

abbrev pub wide_choose : Calls → SourceChoose → WideChoose
wide_choose calls q =
    let env = variables_from 0 (bases_of q.scope ++ q.outputs ++ q.hidden) in
    let condition = given_of calls (variables_from 0 (bases_of q.scope)) q.given in
    record {
      number = q.number;
      scope = q.scope;
      outputs = q.outputs;
      hidden = q.hidden;
      given = condition;
      relation = with_given condition (truth_in (first_part (expanded calls env q.relation)));
      aims = aims_of calls env q.aim;
    }

abbrev pub as_number : Base → Base
as_number Int = Int
as_number Truth = Int
as_number Set = Set

-- the choose of each branch, where the truth variables of these levels have no value yet
abbrev pub branching : WideChoose → List ℕ → Branch → ExprTree
branching q [] branch = expr_choose q.number q.scope (map as_number (all_outputs q)) (relation_at q branch)
branching q (x ∷ xs) branch = expr_if (expr_var x) (branching q xs (branch ++ (x, true) ∷ [])) (branching q xs (branch ++ (x, false) ∷ []))

-- an output as it is given out
abbrev pub given_out : Base → ℕ → ExprTree
given_out Int x = expr_var x
given_out Truth x = expr_binary (Compare Ge) (expr_var x) (expr_lit (pos 1))
given_out Set x = expr_var x

abbrev pub all_given_out : ℕ → List Base → List ExprTree
all_given_out x [] = []
all_given_out x (b ∷ bs) = given_out b x ∷ all_given_out (suc x) bs

-- one, or several as a tuple
abbrev pub one_or_tuple : List ExprTree → ExprTree
one_or_tuple [] = expr_tuple no_exprs
one_or_tuple (e ∷ []) = e
one_or_tuple (e ∷ f ∷ es) = expr_tuple (exprs_of (e ∷ f ∷ es))

abbrev pub has_truths : List Base → Bool
has_truths [] = false
has_truths (Int ∷ bs) = has_truths bs
has_truths (Truth ∷ bs) = true
has_truths (Set ∷ bs) = has_truths bs

-- whether all outputs are given out as they are
abbrev pub are_as_chosen : List Base → List Base → Bool
are_as_chosen outputs [] = if has_truths outputs then false else true
are_as_chosen outputs (b ∷ hidden) = false

abbrev pub choose_form : WideChoose → ExprTree
choose_form q =
    let chosen = branching q (branched q) [] in
    if are_as_chosen q.outputs q.hidden then chosen
    else expr_let (length (all_outputs q)) chosen (one_or_tuple (all_given_out (length q.scope) q.outputs))

-- one that is to be least is not formed
abbrev pub choose_or_itself : AimExpr → ExprTree → ExprTree → ExprTree
choose_or_itself at_any form e = form
choose_or_itself (at_least a) form e = e
choose_or_itself (at_greatest a) form e = e

-- ---- expressions
-- `p ==> q` as `!p || q`
abbrev pub binary_formed : BinOp → ExprTree → ExprTree → ExprTree
binary_formed Implies p q = expr_binary Or (expr_not p) q
binary_formed op p q = expr_binary op p q

abbrev mutual
  -- an expression behind s variables, where `calls` expands the calls of the functions before
  pub formed : Calls → ℕ → ExprTree → ExprTree
  formed calls s (expr_lit k) = expr_lit k
  formed calls s (expr_truth t) = expr_truth t
  formed calls s (expr_var x) = expr_var x
  formed calls s (expr_set_of es) = expr_set_of (all_formed calls s es)
  formed calls s (expr_tuple es) = expr_tuple (all_formed calls s es)
  formed calls s (expr_neg a) = expr_neg (formed calls s a)
  formed calls s (expr_not a) = expr_not (formed calls s a)
  formed calls s (expr_abs a) = expr_abs (formed calls s a)
  formed calls s (expr_binary op a b) = binary_formed op (formed calls s a) (formed calls s b)
  formed calls s (expr_divides k a) = expr_divides k (formed calls s a)
  formed calls s (expr_div a k) = expr_div (formed calls s a) k
  formed calls s (expr_mod a k) = expr_mod (formed calls s a) k
  formed calls s (expr_card a) = expr_card (formed calls s a)
  formed calls s (expr_if t a b) = expr_if (formed calls s t) (formed calls s a) (formed calls s b)
  formed calls s (expr_call f es) = expr_call f (all_formed calls s es)
  formed calls s (expr_let n a b) = expr_let n (formed calls s a) (formed calls (s + n) b)
  formed calls s (expr_choose n scope outputs rel) = expr_choose n scope outputs rel
  formed calls s (expr_match n scope a arms) = expr_match n scope (formed calls s a) (arms_formed calls (suc s) arms)
  formed calls s (expr_chain orders es) = expr_let (how_many es) (expr_tuple (all_formed calls s es)) (chain_body s orders)
  formed calls s (expr_min es) = expr_let (how_many es) (expr_tuple (all_formed calls s es)) (best_body Le s (how_many es))
  formed calls s (expr_max es) = expr_let (how_many es) (expr_tuple (all_formed calls s es)) (best_body Ge s (how_many es))
  formed calls s (expr_choose_where n scope outputs hidden given rel aim) =
      choose_or_itself aim
      (choose_form (
      wide_choose calls (record { number = n; scope = scope; outputs = outputs; hidden = hidden; given = given; relation = rel; aim = aim })))
      (expr_choose_where n scope outputs hidden given rel aim)

  pub all_formed : Calls → ℕ → ExprTrees → ExprTrees
  all_formed calls s no_exprs = no_exprs
  all_formed calls s (expr_more e es) = expr_more (formed calls s e) (all_formed calls s es)

  -- the bodies of arms, behind the value that is matched and the variables of the pattern
  pub arms_formed : Calls → ℕ → MatchArmTrees → MatchArmTrees
  arms_formed calls s no_match_arms = no_match_arms
  arms_formed calls s (match_arm_more (match_arm m factors k body) arms) =
      match_arm_more (match_arm m factors k (formed calls (s + length factors) body)) (arms_formed calls s arms)

-- ---- functions
-- a function behind those before it, which are as in the source
abbrev pub formed_def : List DefTree → DefTree → DefTree
formed_def before d =
    record {
      name = d.name;
      params = d.params;
      results = d.results;
      body = formed (call_expanded (reverse (map (λ f. f.body) before))) (length d.params) d.body;
    }

abbrev pub formed_behind : List DefTree → List DefTree → List DefTree
formed_behind before [] = []
formed_behind before (d ∷ ds) = formed_def before d ∷ formed_behind (before ++ d ∷ []) ds

abbrev pub formed_defs : List DefTree → List DefTree
formed_defs ds = formed_behind [] ds
