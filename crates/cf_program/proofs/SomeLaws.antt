-- Every expression gives a value.
use Rattle.std.proofs.Common.{◌≡◌, ℕ, ◌+◌, ◌≤◌, Bool, true, false, ◌==◌, List, [], ◌∷◌, ◌++◌, length, MatchBool, ap, arith}
use Rattle.cf_tree.specs.declared.base.Base.{Base}
use Rattle.cf_tree.specs.DefView.{DefTree}
use Rattle.cf_tree.specs.ExprTree.{ExprTree, expr_lit, expr_truth, expr_var, expr_set_of, expr_tuple, expr_neg, expr_not, expr_abs, expr_binary, expr_chain, expr_min, expr_max, expr_divides, expr_div, expr_mod, expr_card, expr_if, expr_call, expr_let, expr_choose, expr_choose_where, expr_match, match_arm, MatchArmTrees, no_match_arms, match_arm_more}
use Rattle.cf_tree.specs.Params.{bases_of}
use Rattle.cf_tree.specs.Typing.{one}
use Rattle.cf_program.specs.TypedProgram.{LinearBehind, ExprHasBasesBy, HasArms, ArmsHaveBy, Takes, AreTypedDefsBy}

-- a function has results
abbrev pub GiveSome : (ℕ → List Base → List Base → Type 0) → Type 0
GiveSome takes = (f : ℕ) (params results : List Base) → takes f params results → 1 ≤ length results

is_some_one : (b : Base) (bs : List Base) → bs ≡ one b → 1 ≤ length bs
is_some_one b bs e = omega (arith, ap length e)

is_some_list : (bs cs : List Base) → bs ≡ cs → 1 ≤ length cs → 1 ≤ length bs
is_some_list bs cs e h = omega (arith, ap length e, h)

module _ (linear : LinearBehind) (takes : ℕ → List Base → List Base → Type 0) (some : GiveSome takes) where
  mutual
    pub has_some : (e : ExprTree) (scope bs : List Base) → ExprHasBasesBy linear takes e scope bs → 1 ≤ length bs
    has_some (expr_lit k) scope bs h = is_some_one _ bs h.1
    has_some (expr_truth t) scope bs h = is_some_one _ bs h
    has_some (expr_var x) scope bs h = is_some_one _ bs h.2
    has_some (expr_set_of es) scope bs h = is_some_one _ bs h.1
    has_some (expr_tuple es) scope bs h = omega (arith, h.0)
    has_some (expr_neg a) scope bs h = is_some_one _ bs h.1
    has_some (expr_not a) scope bs h = is_some_one _ bs h.1
    has_some (expr_abs a) scope bs h = is_some_one _ bs h.1
    has_some (expr_binary op a b) scope bs h = is_some_one _ bs h.1
    has_some (expr_chain orders es) scope bs h = is_some_one _ bs h.2
    has_some (expr_min es) scope bs h = is_some_one _ bs h.2
    has_some (expr_max es) scope bs h = is_some_one _ bs h.2
    has_some (expr_divides k a) scope bs h = is_some_one _ bs h.2
    has_some (expr_div a k) scope bs h = is_some_one _ bs h.2
    has_some (expr_mod a k) scope bs h = is_some_one _ bs h.2
    has_some (expr_card a) scope bs h = is_some_one _ bs h.1
    has_some (expr_if t a b) scope bs h = has_some a scope bs h.1
    has_some (expr_call f es) scope bs h = some f h.0 bs h.1
    has_some (expr_let n a b) scope bs h = has_some b (scope ++ h.0) bs h.4
    has_some (expr_choose n params outputs rel) scope bs h = is_some_list bs outputs h.5 h.1
    has_some (expr_choose_where n params outputs hidden given rel aim) scope bs h = is_some_list bs outputs h.5 h.1
    has_some (expr_match n params a arms) scope bs h = arms_have_some arms (scope ++ one _) bs h.2 h.3

    arms_have_some : (arms : MatchArmTrees) (scope bs : List Base) → HasArms arms → ArmsHaveBy linear takes arms scope bs → 1 ≤ length bs
    arms_have_some no_match_arms scope bs h k = absurd h
    arms_have_some (match_arm_more (match_arm m factors k body) arms) scope bs h g = has_some body _ bs g.3

pub takes_some : (linear : LinearBehind) (ds : List DefTree) → AreTypedDefsBy linear ds → GiveSome (Takes ds)
takes_some linear [] h f params results t = absurd t
takes_some linear (d ∷ earlier) h f params results t = by (f == length earlier) (takes_some linear earlier h.1 f params results) t
  where
    by : (b : Bool) → (Takes earlier f params results → 1 ≤ length results) → MatchBool b ((params ≡ bases_of d.params) × (results ≡ d.results))
        (Takes earlier f params results) → 1 ≤ length results
    by true rest t = is_some_list results d.results t.1 h.0.0
    by false rest t = rest t
