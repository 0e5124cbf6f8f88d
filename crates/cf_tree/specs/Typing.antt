-- When target code is well typed.
--
-- A code is typed under the bases of the variables bound outside it, by level, at a place that may ask for bases.
use Rattle.std.specs.Prelude.{ℕ, pos, ◌≤◌, ◌≤ℤ◌, ◌≡◌, List, [], ◌∷◌, ◌++◌, length, map, slice_get, Option, Some, None, All}
use Rattle.cf_tree.specs.declared.base.Base.{Base}
use Rattle.cf_tree.specs.declared.base.Base.TheVariants.{Int, Bool, Set}
use Rattle.cf_tree.specs.declared.base.Order.{Order}
use Rattle.cf_tree.specs.declared.base.Order.TheVariants.{Eq, Ne, Lt, Le, Gt, Ge}
use Rattle.cf_tree.specs.declared.target.RawTarget.{RawTarget}
use Rattle.cf_tree.specs.CodeTree.{CodeTree, code_lit, code_truth, code_var, code_set_of, code_tuple, code_sum, code_sub, code_mul, code_neg, code_div, code_mod, code_min, code_max, code_compare, code_divides, code_and, code_or, code_not, code_union, code_inter, code_diff, code_subset, code_card, code_slice, code_fresh, code_if, code_let, code_solve, CodeTrees, no_codes, code_more, ItemTree, let_item, need_item, ItemTrees, no_items, item_more, arm_of, ArmTrees, no_arms, arm_more, count}
use Rattle.cf_tree.specs.CodeView.{code_tree}
use Rattle.cf_tree.specs.Meaning.{count_below}

-- the bases are those that the place asks, if it asks any
abbrev pub Meets : Option (List Base) → List Base → Type 0
Meets None bs = Unit {0}
Meets (Some asked) bs = asked ≡ bs

-- the bases are this one, and the place takes it
abbrev pub IsOne : Base → Option (List Base) → List Base → Type 0
IsOne b asked bs = (bs ≡ b ∷ []) × Meets asked bs

abbrev pub one : Base → List Base
one b = b ∷ []

-- a part of an operation, which asks for one base
abbrev pub ask : Base → Option (List Base)
ask b = Some (b ∷ [])

-- what a place that asks bases asks of a part that has one of them
abbrev pub share : Option (List Base) → Base → Option (List Base)
share None b = None
share (Some asked) b = ask b

-- what a side of a comparison is asked: == and != ask nothing, the others ask for numbers
abbrev pub side : Order → Option (List Base)
side Eq = None
side Ne = None
side Lt = ask Int
side Le = ask Int
side Gt = ask Int
side Ge = ask Int

-- a solve without arms has what its place asks for
abbrev pub IsGiven : ArmTrees → Option (List Base) → List Base → Type 0
IsGiven no_arms asked bs = asked ≡ Some bs
IsGiven (arm_more a arms) asked bs = Meets asked bs

-- the bounds of an arm's searches: each at least 1, and few tuples below them
abbrev pub AreBounds : List ℕ → Type 0
AreBounds bounds = All (λ b. 1 ≤ b) bounds × (count_below bounds ≤ 1048576)

-- No solve stands in a code, nor in codes, items and arms.
abbrev mutual
  pub HasNoSolve : CodeTree → Type 0
  HasNoSolve (code_lit k) = Unit {0}
  HasNoSolve (code_truth t) = Unit {0}
  HasNoSolve (code_var n) = Unit {0}
  HasNoSolve (code_set_of cs) = HaveNoSolve cs
  HasNoSolve (code_tuple cs) = HaveNoSolve cs
  HasNoSolve (code_sum cs) = HaveNoSolve cs
  HasNoSolve (code_sub a b) = HasNoSolve a × HasNoSolve b
  HasNoSolve (code_mul a b) = HasNoSolve a × HasNoSolve b
  HasNoSolve (code_neg a) = HasNoSolve a
  HasNoSolve (code_div a k) = HasNoSolve a
  HasNoSolve (code_mod a k) = HasNoSolve a
  HasNoSolve (code_min cs) = HaveNoSolve cs
  HasNoSolve (code_max cs) = HaveNoSolve cs
  HasNoSolve (code_compare o a b) = HasNoSolve a × HasNoSolve b
  HasNoSolve (code_divides k a) = HasNoSolve a
  HasNoSolve (code_and a b) = HasNoSolve a × HasNoSolve b
  HasNoSolve (code_or a b) = HasNoSolve a × HasNoSolve b
  HasNoSolve (code_not a) = HasNoSolve a
  HasNoSolve (code_union cs) = HaveNoSolve cs
  HasNoSolve (code_inter cs) = HaveNoSolve cs
  HasNoSolve (code_diff a b) = HasNoSolve a × HasNoSolve b
  HasNoSolve (code_subset a b) = HasNoSolve a × HasNoSolve b
  HasNoSolve (code_card a) = HasNoSolve a
  HasNoSolve (code_slice a b c) = HasNoSolve a × HasNoSolve b × HasNoSolve c
  HasNoSolve (code_fresh a b) = HasNoSolve a × HasNoSolve b
  HasNoSolve (code_if a b c) = HasNoSolve a × HasNoSolve b × HasNoSolve c
  HasNoSolve (code_let first n a b) = HasNoSolve a × HasNoSolve b
  HasNoSolve (code_solve n arms) = ⊥

  pub HaveNoSolve : CodeTrees → Type 0
  HaveNoSolve no_codes = Unit {0}
  HaveNoSolve (code_more c cs) = HasNoSolve c × HaveNoSolve cs

  pub ItemsHaveNoSolve : ItemTrees → Type 0
  ItemsHaveNoSolve no_items = Unit {0}
  ItemsHaveNoSolve (item_more i is) = ItemHasNoSolve i × ItemsHaveNoSolve is

  pub ItemHasNoSolve : ItemTree → Type 0
  ItemHasNoSolve (let_item c) = HasNoSolve c
  ItemHasNoSolve (need_item c) = HasNoSolve c

abbrev mutual
  -- a code has these bases, under the bases of the scope, at a place that asks for these or for none
  pub HasBases : CodeTree → List Base → Option (List Base) → List Base → Type 0
  HasBases (code_lit k) scope asked bs = IsOne Int asked bs
  HasBases (code_truth t) scope asked bs = IsOne Bool asked bs
  HasBases (code_var x) scope asked bs = (b : Base) × (slice_get scope x ≡ Some b) × IsOne b asked bs
  HasBases (code_set_of cs) scope asked bs = AllHave cs scope Int × IsOne Set asked bs
  HasBases (code_tuple cs) scope asked bs = (2 ≤ count cs) × PartsHave cs scope asked bs × Meets asked bs
  HasBases (code_sum cs) scope asked bs = (2 ≤ count cs) × AllHave cs scope Int × IsOne Int asked bs
  HasBases (code_sub a b) scope asked bs = HasBases a scope (ask Int) (one Int) × HasBases b scope (ask Int) (one Int) × IsOne Int asked bs
  HasBases (code_mul a b) scope asked bs = HasBases a scope (ask Int) (one Int) × HasBases b scope (ask Int) (one Int) × IsOne Int asked bs
  HasBases (code_neg a) scope asked bs = HasBases a scope (ask Int) (one Int) × IsOne Int asked bs
  HasBases (code_div a k) scope asked bs = (pos 1 ≤ℤ k) × HasBases a scope (ask Int) (one Int) × IsOne Int asked bs
  HasBases (code_mod a k) scope asked bs = (pos 1 ≤ℤ k) × HasBases a scope (ask Int) (one Int) × IsOne Int asked bs
  HasBases (code_min cs) scope asked bs = (1 ≤ count cs) × AllHave cs scope Int × IsOne Int asked bs
  HasBases (code_max cs) scope asked bs = (1 ≤ count cs) × AllHave cs scope Int × IsOne Int asked bs
  HasBases (code_compare o a b) scope asked bs =
      (c : Base) × Meets (side o) (one c) × HasBases a scope (side o) (one c) × HasBases b scope (side o) (one c) × IsOne Bool asked bs
  HasBases (code_divides k a) scope asked bs = (pos 1 ≤ℤ k) × HasBases a scope (ask Int) (one Int) × IsOne Bool asked bs
  HasBases (code_and a b) scope asked bs = HasBases a scope (ask Bool) (one Bool) × HasBases b scope (ask Bool) (one Bool) × IsOne Bool asked bs
  HasBases (code_or a b) scope asked bs = HasBases a scope (ask Bool) (one Bool) × HasBases b scope (ask Bool) (one Bool) × IsOne Bool asked bs
  HasBases (code_not a) scope asked bs = HasBases a scope (ask Bool) (one Bool) × IsOne Bool asked bs
  HasBases (code_union cs) scope asked bs = (2 ≤ count cs) × AllHave cs scope Set × IsOne Set asked bs
  HasBases (code_inter cs) scope asked bs = (2 ≤ count cs) × AllHave cs scope Set × IsOne Set asked bs
  HasBases (code_diff a b) scope asked bs = HasBases a scope (ask Set) (one Set) × HasBases b scope (ask Set) (one Set) × IsOne Set asked bs
  HasBases (code_subset a b) scope asked bs = HasBases a scope (ask Set) (one Set) × HasBases b scope (ask Set) (one Set) × IsOne Bool asked bs
  HasBases (code_card a) scope asked bs = HasBases a scope (ask Set) (one Set) × IsOne Int asked bs
  HasBases (code_slice a b c) scope asked bs =
      HasBases a scope (ask Set) (one Set) × HasBases b scope (ask Int) (one Int) × HasBases c scope (ask Int) (one Int) × IsOne Set asked bs
  HasBases (code_fresh a b) scope asked bs = HasBases a scope (ask Set) (one Set) × HasBases b scope (ask Int) (one Int) × IsOne Set asked bs
  HasBases (code_if t a b) scope asked bs = HasBases t scope (ask Bool) (one Bool) × HasBases a scope asked bs × HasBases b scope asked bs
  HasBases (code_let first n a b) scope asked bs =
      (vs : List Base) × HasBases a scope None vs × (first ≡ length scope) × (n ≡ length vs) × HasBases b (scope ++ vs) asked bs
  HasBases (code_solve n arms) scope asked bs = IsGiven arms asked bs × ArmsHave arms scope bs

  -- all codes have this one base
  pub AllHave : CodeTrees → List Base → Base → Type 0
  AllHave no_codes scope b = Unit {0}
  AllHave (code_more c cs) scope b = HasBases c scope (ask b) (one b) × AllHave cs scope b

  -- the parts have one base each, in order, and each is asked its share
  pub PartsHave : CodeTrees → List Base → Option (List Base) → List Base → Type 0
  PartsHave no_codes scope asked bs = bs ≡ []
  PartsHave (code_more c cs) scope asked bs =
      (b : Base) × (rest : List Base) × (bs ≡ b ∷ rest) × HasBases c scope (share asked b) (one b) × PartsHave cs scope asked rest

  -- a let takes the next level and has one base, a need is a truth value, and `then` holds of the scope after all
  pub ItemsHave : ItemTrees → List Base → (List Base → Type 0) → Type 0
  ItemsHave no_items scope then = then scope
  ItemsHave (item_more (let_item c) is) scope then = (b : Base) × HasBases c scope None (one b) × ItemsHave is (scope ++ one b) then
  ItemsHave (item_more (need_item c) is) scope then = HasBases c scope (ask Bool) (one Bool) × ItemsHave is scope then

  -- all arms give these bases
  pub ArmsHave : ArmTrees → List Base → List Base → Type 0
  ArmsHave no_arms scope bs = Unit {0}
  ArmsHave (arm_more (arm_of bounds is gs) arms) scope bs =
      AreBounds bounds × ItemsHaveNoSolve is × HaveNoSolve gs
      × ItemsHave is (scope ++ map (λ _. Int) bounds) (λ inner. PartsHave gs inner None bs) × ArmsHave arms scope bs

-- a code under the bases of a scope, at a place that asks for these bases
abbrev pub IsTypedCode : CodeTree → List Base → List Base → Type 0
IsTypedCode code scope bs = HasBases code scope (Some bs) bs

-- the whole code of a target asks for its results
abbrev pub IsWellTyped : RawTarget → Type 0
IsWellTyped t = IsTypedCode (code_tree t.code) t.params.items t.results.items
