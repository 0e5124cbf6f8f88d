-- The classes of the matches of a typed program.
use Rattle.std.proofs.Common.{ℕ, zero, suc, ◌≤◌, ◌<◌, ◌%◌, ◌^◌, ◌-◌, ℤ, pos, ◌+ℤ◌, ◌-ℤ◌, ◌*ℤ◌, ◌≤ℤ◌, ◌<ℤ◌, Option, Some, None, List, [], ◌∷◌, ◌++◌, length, reverse, All, refl, arith}
use Rattle.std.specs.Prelude.{unsigned_abs}
use Rattle.std.proofs.Math.Nat.{mod-lt}
use Rattle.std.proofs.lemmas.Int.{ints}
use Rattle.std.proofs.lemmas.List.Elements.{All-nil, All-cons, All-head, All-tail, All-append}
use Rattle.std.proofs.lemmas.List.Sorted.{IsPermutation-reverse, IsPermutation-sym, All-permutation}
use Rattle.cf_num.specs.Divisors.{gcd_by}
use Rattle.cf_num.specs.Limit.{IsWithin}
use Rattle.cf_tree.specs.declared.base.Base.{Base}
use Rattle.cf_tree.specs.declared.base.Base.TheVariants.{Int}
use Rattle.cf_tree.specs.DefView.{DefTree}
use Rattle.cf_tree.specs.ExprTree.{ExprTree, expr_lit, expr_truth, expr_var, expr_set_of, expr_tuple, expr_neg, expr_not, expr_abs, expr_binary, expr_chain, expr_min, expr_max, expr_divides, expr_div, expr_mod, expr_card, expr_if, expr_call, expr_let, expr_choose, expr_choose_where, expr_match, ExprTrees, no_exprs, expr_more, match_arm, MatchArmTrees, no_match_arms, match_arm_more}
use Rattle.cf_tree.specs.Numbers.{quotient}
use Rattle.cf_cases.proofs.GuardLaws.{rows_from_quotient}
use Rattle.cf_program.specs.Lowered.{divisor}
use Rattle.cf_tree.specs.Params.{bases_of}
use Rattle.cf_program.specs.TypedProgram.{HasArms, AreSides, Takes}
use Rattle.cf_program.proofs.PlainTypes.{ExprHasBases, AllHave, PartsHave, ArmsHave, AreTypedDefs}
use Rattle.cf_program.specs.Walk.{side_of}
use Rattle.cf_match.specs.Classes.{class_by, class_of}
use Rattle.cf_match.specs.Matches.{MatchTree, classes_of, numbers_of, matches, matches_all, matches_arms, all_matches}
use Rattle.cf_warn.specs.Classes.{IsClass, AreClasses, MatchesHaveClasses}

-- ---- the class of a pattern
gcd_small : (n a b m : ℕ) → a ≤ m → b ≤ m → gcd_by n a b ≤ m
unfolding gcd_by
gcd_small zero a b m h k = h
gcd_small (suc n) a zero m h k = h
gcd_small (suc n) a (suc b) m h k = let p : 0 < suc b = omega arith in let l = mod-lt a p in gcd_small n (suc b) (a % suc b) m k (omega arith)

divisor_small : (factors : List ℤ) → All IsWithin factors → divisor factors ≤ 2 ^ 127 - 1
divisor_small [] w = omega arith
divisor_small (f ∷ factors) w =
    gcd_small (divisor factors) (unsigned_abs f) (divisor factors) (2 ^ 127 - 1) (All-head IsWithin f factors w)
    (divisor_small factors (All-tail IsWithin f factors w))

remainder_bounds : (z x g : ℤ) → (pos 0 ≤ℤ (z -ℤ x)) × (pos 0 ≤ℤ (x +ℤ (g -ℤ pos 1) -ℤ z)) → (pos 0 ≤ℤ (z -ℤ x)) × ((z -ℤ x) <ℤ g)
remainder_bounds z x g h = let a = h.0 in let b = h.1 in (omega (arith, ints), omega (arith, ints))

by_divisor : (d : ℕ) (k : ℤ) → d ≤ 2 ^ 127 - 1 → IsWithin k → IsClass (class_by d k)
by_divisor zero k l w = w
by_divisor (suc d) k l w =
    let g = pos (suc d) in
    let one : pos 1 ≤ℤ g = omega (arith, ints) in
    let b = remainder_bounds k (g *ℤ quotient k g) g (rows_from_quotient k g (quotient k g) one refl) in
    ((one, l), b.0, b.1)

class_is : (factors : List ℤ) (k : ℤ) → All IsWithin factors → IsWithin k → IsClass (class_of factors k)
class_is factors k w l = by_divisor (divisor factors) k (divisor_small factors w) l

-- ---- the matches of an expression
abbrev HasClasses : MatchTree → Type 0
HasClasses m = AreClasses m.classes

sides : (o : Option Base) (left right : Base → Type 0) → AreSides o left right → (b : Base) × left b × right b
sides (Some b) left right h = (b, h.0, h.1)
sides None left right h = h

module _ (takes : ℕ → List Base → List Base → Type 0) where
  arms_classes : (arms : MatchArmTrees) (scope bs : List Base) → ArmsHave takes arms scope bs → All IsClass (classes_of arms)
  arms_classes no_match_arms scope bs h = All-nil IsClass
  arms_classes (match_arm_more (match_arm m factors k body) arms) scope bs h =
      All-cons IsClass (class_of factors k) (classes_of arms) (class_is factors k h.1 h.2) (arms_classes arms scope bs h.4)

  some_arms : (arms : MatchArmTrees) → HasArms arms → 1 ≤ length (classes_of arms)
  some_arms no_match_arms h = absurd h
  some_arms (match_arm_more (match_arm m factors k body) arms) h = omega arith

  mutual
    have : (e : ExprTree) (scope bs : List Base) → ExprHasBases takes e scope bs → All HasClasses (matches e)
    have (expr_lit k) scope bs h = All-nil HasClasses
    have (expr_truth t) scope bs h = All-nil HasClasses
    have (expr_var x) scope bs h = All-nil HasClasses
    have (expr_set_of es) scope bs h = all_have es scope Int h.0
    have (expr_tuple es) scope bs h = parts_have es scope bs h.1
    have (expr_neg a) scope bs h = have a scope _ h.0
    have (expr_not a) scope bs h = have a scope _ h.0
    have (expr_abs a) scope bs h = have a scope _ h.0
    have (expr_binary op a b) scope bs h =
        let t = sides (side_of op) (λ c. ExprHasBases takes a scope (c ∷ [])) (λ c. ExprHasBases takes b scope (c ∷ [])) h.0 in
        All-append HasClasses (matches a) (matches b) (have a scope (t.0 ∷ []) t.1) (have b scope (t.0 ∷ []) t.2)
    have (expr_chain orders es) scope bs h = parts_have es scope _ h.1
    have (expr_min es) scope bs h = all_have es scope Int h.1
    have (expr_max es) scope bs h = all_have es scope Int h.1
    have (expr_divides k a) scope bs h = have a scope _ h.1
    have (expr_div a k) scope bs h = have a scope _ h.1
    have (expr_mod a k) scope bs h = have a scope _ h.1
    have (expr_card a) scope bs h = have a scope _ h.0
    have (expr_if t a b) scope bs h =
        All-append HasClasses (matches t ++ matches a) (matches b)
        (All-append HasClasses (matches t) (matches a) (have t scope _ h.0) (have a scope _ h.1)) (have b scope _ h.2)
    have (expr_call f es) scope bs h = parts_have es scope h.0 h.2
    have (expr_let n a b) scope bs h = All-append HasClasses (matches a) (matches b) (have a scope h.0 h.1) (have b (scope ++ h.0) bs h.4)
    have (expr_choose n params outputs rel) scope bs h = All-nil HasClasses
    have (expr_choose_where n params outputs hidden given rel aim) scope bs h = All-nil HasClasses
    have (expr_match n params a arms) scope bs h =
        All-cons HasClasses (record { number = n; arms = numbers_of arms; classes = classes_of arms }) (matches a ++ matches_arms arms)
        (record { some = some_arms arms h.2; each = arms_classes arms (scope ++ Int ∷ []) bs h.3 })
        (All-append HasClasses (matches a) (matches_arms arms) (have a scope _ h.1) (arms_have arms (scope ++ Int ∷ []) bs h.3))

    all_have : (es : ExprTrees) (scope : List Base) (b : Base) → AllHave takes es scope b → All HasClasses (matches_all es)
    all_have no_exprs scope b h = All-nil HasClasses
    all_have (expr_more a es) scope b h = All-append HasClasses (matches a) (matches_all es) (have a scope _ h.0) (all_have es scope b h.1)

    parts_have : (es : ExprTrees) (scope bs : List Base) → PartsHave takes es scope bs → All HasClasses (matches_all es)
    parts_have no_exprs scope bs h = All-nil HasClasses
    parts_have (expr_more a es) scope bs h = All-append HasClasses (matches a) (matches_all es) (have a scope _ h.3) (parts_have es scope h.1 h.4)

    arms_have : (arms : MatchArmTrees) (scope bs : List Base) → ArmsHave takes arms scope bs → All HasClasses (matches_arms arms)
    arms_have no_match_arms scope bs h = All-nil HasClasses
    arms_have (match_arm_more (match_arm m factors k body) arms) scope bs h =
        All-append HasClasses (matches body) (matches_arms arms) (have body _ bs h.3) (arms_have arms scope bs h.4)

-- ---- the matches of a program
abbrev HasAll : DefTree → Type 0
HasAll d = All HasClasses (matches d.body)

defs_have : (ds : List DefTree) → AreTypedDefs ds → All HasAll ds
defs_have [] t = All-nil HasAll
defs_have (d ∷ ds) t = All-cons HasAll d ds (have (Takes ds) d.body (bases_of d.params) d.results t.0.1) (defs_have ds t.1)

all_of : (ds : List DefTree) → All HasAll ds → All HasClasses (all_matches ds)
all_of [] h = All-nil HasClasses
all_of (d ∷ ds) h = All-append HasClasses (matches d.body) (all_matches ds) (All-head HasAll d ds h) (all_of ds (All-tail HasAll d ds h))

pub matches_have_classes : MatchesHaveClasses
matches_have_classes defs main t =
    let turned = IsPermutation-sym defs (reverse defs) (IsPermutation-reverse defs) in
    all_of defs (All-permutation HasAll (reverse defs) defs turned (defs_have (reverse defs) t.typed))
