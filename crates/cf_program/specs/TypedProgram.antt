-- What every program keeps in which no rule is broken, as a fact about its functions with levels.
use Rattle.std.specs.Prelude.{ℕ, ℤ, ◌≤◌, ◌≡◌, ◌==◌, List, [], ◌∷◌, ◌++◌, length, map, reverse, slice_get, codes, Option, Some, None, All, MatchBool}
use Rattle.cf_num.specs.Limit.{IsWithin}
use Rattle.cf_tree.specs.declared.base.Base.{Base}
use Rattle.cf_tree.specs.declared.base.Base.TheVariants.{Int, Bool as Truth, Set}
use Rattle.cf_tree.specs.DefView.{DefTree}
use Rattle.cf_tree.specs.ExprTree.{ExprTree, expr_lit, expr_truth, expr_var, expr_set_of, expr_tuple, expr_neg, expr_not, expr_abs, expr_binary, expr_chain, expr_min, expr_max, expr_divides, expr_div, expr_mod, expr_card, expr_if, expr_call, expr_let, expr_choose, expr_choose_where, expr_match, ExprTrees, no_exprs, expr_more, match_arm, MatchArmTrees, no_match_arms, match_arm_more, GivenExpr, holds_always, holds_where, AimExpr, at_any, at_least, at_greatest}
use Rattle.cf_tree.specs.Relation.{IsDivisor, IsTyped}
use Rattle.cf_tree.specs.RelTree.{RelTree}
use Rattle.cf_program.specs.declared.linearity.Linearity.TheVariants.{Plain}
use Rattle.cf_program.specs.DistinctNames.{AreDistinct}
use Rattle.cf_program.specs.LateLinear.{IsLateLinear, IsLinearBy}
use Rattle.cf_tree.specs.Params.{bases_of, names_of}
use Rattle.cf_program.specs.NoForm.{HasNoForm}
use Rattle.cf_program.specs.Size.{weights, depths}
use Rattle.cf_program.specs.Walk.{side_of, result_of}
use Rattle.cf_tree.specs.Typing.{one}

-- both sides have the base that is asked, or where none is asked, one and the same
abbrev pub AreSides : Option Base → (Base → Type 0) → (Base → Type 0) → Type 0
AreSides (Some b) left right = left b × right b
AreSides None left right = (b : Base) × left b × right b

abbrev pub IsOutput : Base → Type 0
IsOutput Int = Unit {0}
IsOutput Truth = ⊥
IsOutput Set = Unit {0}

-- the number of an arm is 0 where it has no variables, and else at least 1
abbrev pub IsArmNumber : ℕ → List ℤ → Type 0
IsArmNumber m [] = m ≡ 0
IsArmNumber m (f ∷ factors) = 1 ≤ m

abbrev pub HasArms : MatchArmTrees → Type 0
HasArms no_match_arms = ⊥
HasArms (match_arm_more arm arms) = Unit {0}

-- two or more
abbrev pub AreSeveral : ExprTrees → Type 0
AreSeveral no_exprs = ⊥
AreSeveral (expr_more e no_exprs) = ⊥
AreSeveral (expr_more e (expr_more f es)) = Unit {0}

-- each is a number
abbrev pub AreNumbers : List Base → Type 0
AreNumbers bs = All (λ b. b ≡ Int) bs

-- which relations are linear, behind so many variables in scope
abbrev pub LinearBehind : Type 1
LinearBehind = ℕ → RelTree → Type 0

abbrev mutual
  -- an expression has these bases, where `calls` says which bases a function takes and gives, and the scope has the bases of the variables by level
  -- (that the parts of an `expr_choose_where` are linear is no part of it: it depends on the bodies of the functions that they call)
  pub ExprHasBasesBy : LinearBehind → (ℕ → List Base → List Base → Type 0) → ExprTree → List Base → List Base → Type 0
  ExprHasBasesBy linear calls (expr_lit k) scope bs = IsWithin k × (bs ≡ one Int)
  ExprHasBasesBy linear calls (expr_truth t) scope bs = bs ≡ one Truth
  ExprHasBasesBy linear calls (expr_var x) scope bs = (b : Base) × (slice_get scope x ≡ Some b) × (bs ≡ one b)
  ExprHasBasesBy linear calls (expr_set_of es) scope bs = AllHaveBy linear calls es scope Int × (bs ≡ one Set)
  ExprHasBasesBy linear calls (expr_tuple es) scope bs = (2 ≤ length bs) × PartsHaveBy linear calls es scope bs
  ExprHasBasesBy linear calls (expr_neg a) scope bs = ExprHasBasesBy linear calls a scope (one Int) × (bs ≡ one Int)
  ExprHasBasesBy linear calls (expr_not a) scope bs = ExprHasBasesBy linear calls a scope (one Truth) × (bs ≡ one Truth)
  ExprHasBasesBy linear calls (expr_abs a) scope bs = ExprHasBasesBy linear calls a scope (one Int) × (bs ≡ one Int)
  ExprHasBasesBy linear calls (expr_binary op a b) scope bs =
      AreSides (side_of op) (λ c. ExprHasBasesBy linear calls a scope (one c)) (λ c. ExprHasBasesBy linear calls b scope (one c)) × (bs ≡ one (result_of op))
  ExprHasBasesBy linear calls (expr_chain orders es) scope bs =
      (2 ≤ length orders) × PartsHaveBy linear calls es scope (Int ∷ map (λ _. Int) orders) × (bs ≡ one Truth)
  ExprHasBasesBy linear calls (expr_min es) scope bs = AreSeveral es × AllHaveBy linear calls es scope Int × (bs ≡ one Int)
  ExprHasBasesBy linear calls (expr_max es) scope bs = AreSeveral es × AllHaveBy linear calls es scope Int × (bs ≡ one Int)
  ExprHasBasesBy linear calls (expr_divides k a) scope bs = IsDivisor k × ExprHasBasesBy linear calls a scope (one Int) × (bs ≡ one Truth)
  ExprHasBasesBy linear calls (expr_div a k) scope bs = IsDivisor k × ExprHasBasesBy linear calls a scope (one Int) × (bs ≡ one Int)
  ExprHasBasesBy linear calls (expr_mod a k) scope bs = IsDivisor k × ExprHasBasesBy linear calls a scope (one Int) × (bs ≡ one Int)
  ExprHasBasesBy linear calls (expr_card a) scope bs = ExprHasBasesBy linear calls a scope (one Set) × (bs ≡ one Int)
  ExprHasBasesBy linear calls (expr_if t a b) scope bs =
      ExprHasBasesBy linear calls t scope (one Truth) × ExprHasBasesBy linear calls a scope bs × ExprHasBasesBy linear calls b scope bs
  ExprHasBasesBy linear calls (expr_call f es) scope bs = (params : List Base) × calls f params bs × PartsHaveBy linear calls es scope params
  ExprHasBasesBy linear calls (expr_let n a b) scope bs =
      (vs : List Base) × ExprHasBasesBy linear calls a scope vs × (n ≡ length vs) × (1 ≤ n) × ExprHasBasesBy linear calls b (scope ++ vs) bs
  ExprHasBasesBy linear calls (expr_choose n params outputs rel) scope bs =
      (bases_of params ≡ scope) × (1 ≤ length outputs) × All IsOutput outputs × IsTyped (scope ++ outputs) rel × linear (length scope) rel × (bs ≡ outputs)
  ExprHasBasesBy linear calls (expr_choose_where n params outputs hidden given rel aim) scope bs =
      (bases_of params ≡ scope) × (1 ≤ length outputs) × GivenIsTypedBy linear calls given scope
      × ExprHasBasesBy linear calls rel (scope ++ outputs ++ hidden) (one Truth) × AimIsTypedBy linear calls aim (scope ++ outputs ++ hidden) × (bs ≡ outputs)
  ExprHasBasesBy linear calls (expr_match n params a arms) scope bs =
      (bases_of params ≡ scope ++ one Int) × ExprHasBasesBy linear calls a scope (one Int) × HasArms arms × ArmsHaveBy linear calls arms (scope ++ one Int) bs

  -- all have this one base
  pub AllHaveBy : LinearBehind → (ℕ → List Base → List Base → Type 0) → ExprTrees → List Base → Base → Type 0
  AllHaveBy linear calls no_exprs scope b = Unit {0}
  AllHaveBy linear calls (expr_more e es) scope b = ExprHasBasesBy linear calls e scope (one b) × AllHaveBy linear calls es scope b

  -- they have one base each, in order
  pub PartsHaveBy : LinearBehind → (ℕ → List Base → List Base → Type 0) → ExprTrees → List Base → List Base → Type 0
  PartsHaveBy linear calls no_exprs scope bs = bs ≡ []
  PartsHaveBy linear calls (expr_more e es) scope bs =
      (b : Base) × (rest : List Base) × (bs ≡ b ∷ rest) × ExprHasBasesBy linear calls e scope (one b) × PartsHaveBy linear calls es scope rest

  -- the bodies of all arms have these bases, each with the variables of its pattern, which are numbers
  pub ArmsHaveBy : LinearBehind → (ℕ → List Base → List Base → Type 0) → MatchArmTrees → List Base → List Base → Type 0
  ArmsHaveBy linear calls no_match_arms scope bs = Unit {0}
  ArmsHaveBy linear calls (match_arm_more (match_arm m factors k body) arms) scope bs =
      IsArmNumber m factors × All IsWithin factors × IsWithin k × ExprHasBasesBy linear calls body (scope ++ map (λ _. Int) factors) bs
      × ArmsHaveBy linear calls arms scope bs

  -- what is given is a truth value over the scope of the choose
  pub GivenIsTypedBy : LinearBehind → (ℕ → List Base → List Base → Type 0) → GivenExpr → List Base → Type 0
  GivenIsTypedBy linear calls holds_always scope = Unit {0}
  GivenIsTypedBy linear calls (holds_where p) scope = ExprHasBasesBy linear calls p scope (one Truth)

  -- an objective is one number or several
  pub AimIsTypedBy : LinearBehind → (ℕ → List Base → List Base → Type 0) → AimExpr → List Base → Type 0
  AimIsTypedBy linear calls at_any scope = Unit {0}
  AimIsTypedBy linear calls (at_least e) scope = (bs : List Base) × (1 ≤ length bs) × AreNumbers bs × ExprHasBasesBy linear calls e scope bs
  AimIsTypedBy linear calls (at_greatest e) scope = (bs : List Base) × (1 ≤ length bs) × AreNumbers bs × ExprHasBasesBy linear calls e scope bs

-- an arm has a number of its own where it has variables
abbrev pub arm_numbers : ℕ → List ℤ → List ℕ
arm_numbers m [] = []
arm_numbers m (f ∷ factors) = m ∷ []

-- the numbers of the chooses, of the matches and of their arms with variables
abbrev mutual
  pub numbers : ExprTree → List ℕ
  numbers (expr_lit k) = []
  numbers (expr_truth t) = []
  numbers (expr_var x) = []
  numbers (expr_set_of es) = numbers_all es
  numbers (expr_tuple es) = numbers_all es
  numbers (expr_neg a) = numbers a
  numbers (expr_not a) = numbers a
  numbers (expr_abs a) = numbers a
  numbers (expr_binary op a b) = numbers a ++ numbers b
  numbers (expr_chain orders es) = numbers_all es
  numbers (expr_min es) = numbers_all es
  numbers (expr_max es) = numbers_all es
  numbers (expr_divides k a) = numbers a
  numbers (expr_div a k) = numbers a
  numbers (expr_mod a k) = numbers a
  numbers (expr_card a) = numbers a
  numbers (expr_if t a b) = numbers t ++ numbers a ++ numbers b
  numbers (expr_call f es) = numbers_all es
  numbers (expr_let n a b) = numbers a ++ numbers b
  numbers (expr_choose n params outputs rel) = n ∷ []
  numbers (expr_choose_where n params outputs hidden given rel aim) = n ∷ numbers_given given ++ numbers rel ++ numbers_aim aim
  numbers (expr_match n params a arms) = n ∷ numbers a ++ numbers_arms arms

  pub numbers_all : ExprTrees → List ℕ
  numbers_all no_exprs = []
  numbers_all (expr_more e es) = numbers e ++ numbers_all es

  pub numbers_arms : MatchArmTrees → List ℕ
  numbers_arms no_match_arms = []
  numbers_arms (match_arm_more (match_arm m factors k body) arms) = arm_numbers m factors ++ numbers body ++ numbers_arms arms

  pub numbers_given : GivenExpr → List ℕ
  numbers_given holds_always = []
  numbers_given (holds_where p) = numbers p

  pub numbers_aim : AimExpr → List ℕ
  numbers_aim at_any = []
  numbers_aim (at_least e) = numbers e
  numbers_aim (at_greatest e) = numbers e

abbrev pub all_numbers : List DefTree → List ℕ
all_numbers [] = []
all_numbers (d ∷ ds) = numbers d.body ++ all_numbers ds

-- function number f takes and gives these bases, where the functions stand last first
abbrev pub Takes : List DefTree → ℕ → List Base → List Base → Type 0
Takes [] f params results = ⊥
Takes (d ∷ earlier) f params results =
    MatchBool (f == length earlier) ((params ≡ bases_of d.params) × (results ≡ d.results)) (Takes earlier f params results)

-- a function whose body has its results, and calls only these earlier functions
abbrev pub IsTypedDefBy : LinearBehind → List DefTree → DefTree → Type 0
IsTypedDefBy linear earlier d = (1 ≤ length d.results) × ExprHasBasesBy linear (Takes earlier) d.body (bases_of d.params) d.results

-- functions that stand last first
abbrev pub AreTypedDefsBy : LinearBehind → List DefTree → Type 0
AreTypedDefsBy linear [] = Unit {0}
AreTypedDefsBy linear (d ∷ earlier) = IsTypedDefBy linear earlier d × AreTypedDefsBy linear earlier

-- functions in the order of the text, with the number of `main`; several chooses may have one number, as the branches of one choose of edition 3 do
pub record IsProgramBy (linear : LinearBehind) (defs : List DefTree) (main : ℕ) : Type 0 where
  pub typed : AreTypedDefsBy linear (reverse defs)
  pub functions : AreDistinct (map (λ d. d.name) defs)
  pub params : All (λ d. AreDistinct (names_of d.params)) defs
  pub has_main : (d : DefTree) × (slice_get defs main ≡ Some d) × (d.name ≡ codes "main")
  pub positive : All (λ n. 1 ≤ n) (all_numbers defs)
  pub formed : All (λ d. HasNoForm d.body) defs
  pub light : All (λ n. n ≤ 1000000) (weights defs)
  pub shallow : All (λ n. n ≤ 200) (depths defs)

abbrev pub IsTypedProgram : List DefTree → ℕ → Type 0
IsTypedProgram = IsProgramBy (IsLinearBy Plain)

-- the same where relations are linear once the numbers in their scopes are known
abbrev pub IsLateProgram : List DefTree → ℕ → Type 0
IsLateProgram = IsProgramBy IsLateLinear
