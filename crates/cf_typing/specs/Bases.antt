-- The bases of a code at its place, by the walk through it: none where it is not well typed.
use Rattle.std.specs.Prelude.{ℕ, ℤ, pos, int_le, nat_le, nat_eq, Bool, true, false, ◌&&◌, List, [], ◌∷◌, ◌++◌, length, map, slice_get, Option, Some, None}
use Rattle.cf_tree.specs.declared.base.Base.{Base}
use Rattle.cf_tree.specs.declared.base.Base.TheVariants.{Int, Bool as Truth, Set}
use Rattle.cf_tree.specs.Bases.{same_base, same_bases}
use Rattle.cf_tree.specs.CodeTree.{CodeTree, code_lit, code_truth, code_var, code_set_of, code_tuple, code_sum, code_sub, code_mul, code_neg, code_div, code_mod, code_min, code_max, code_compare, code_divides, code_and, code_or, code_not, code_union, code_inter, code_diff, code_subset, code_card, code_slice, code_fresh, code_if, code_let, code_solve, CodeTrees, no_codes, code_more, ItemTree, let_item, need_item, ItemTrees, no_items, item_more, ArmTree, arm_of, ArmTrees, no_arms, arm_more, count}
use Rattle.cf_tree.specs.Meaning.{count_below}
use Rattle.cf_tree.specs.Typing.{one, ask, side}

abbrev pub then_found : {A B : Type 0} → Option A → (A → Option B) → Option B
then_found None go = None
then_found (Some x) go = go x

-- what comes after something that must be found
abbrev pub after_found : {A B : Type 0} → Option A → Option B → Option B
after_found None r = None
after_found (Some x) r = r

abbrev pub where_true : {A : Type 0} → Bool → Option A → Option A
where_true false r = None
where_true true r = r

abbrev pub done : Option (Unit {0})
done = Some tt

-- the base, where there is one alone
abbrev pub single : List Base → Option Base
single [] = None
single (b ∷ []) = Some b
single (b ∷ c ∷ bs) = None

abbrev pub alone : Option Base → Option (List Base)
alone None = None
alone (Some b) = Some (one b)

-- bases that are found without a look at the place, at a place that may ask for some
abbrev pub placed : Option (List Base) → Option (List Base) → Option (List Base)
placed None found = found
placed (Some asked) None = None
placed (Some asked) (Some bs) = where_true (same_bases bs asked) (Some asked)

-- the same bases again
abbrev pub again : List Base → Option (List Base) → Option (Unit {0})
again bs None = None
again bs (Some cs) = where_true (same_bases bs cs) done

-- the bases of the two sides of a comparison are one base each, and the same
abbrev pub compared : Option Base → Option Base → Option (List Base)
compared a b = then_found a (λ x. then_found b (λ y. where_true (same_base x y) (Some (one Truth))))

-- the bases of a value that is bound: the variables take the next levels, and are as many
abbrev pub bound : ℕ → ℕ → ℕ → Option (List Base) → Option (List Base)
bound first n size None = None
bound first n size (Some vs) = where_true (nat_eq first size && nat_eq n (length vs)) (Some vs)

abbrev pub at_least : ℕ → CodeTrees → Option (Unit {0})
at_least n cs = where_true (nat_le n (count cs)) done

abbrev pub as_many : CodeTrees → List Base → Option (Unit {0})
as_many cs bs = where_true (nat_eq (count cs) (length bs)) done

abbrev pub divides : ℤ → Option (Unit {0})
divides k = where_true (int_le (pos 1) k) done

-- each bound is at least 1
abbrev pub are_positive : List ℕ → Bool
are_positive [] = true
are_positive (b ∷ bs) = nat_le 1 b && are_positive bs

abbrev pub are_bounds : List ℕ → Bool
are_bounds bounds = are_positive bounds && nat_le (count_below bounds) 1048576

-- No solve stands in a code, nor in codes and items.
abbrev mutual
  pub has_no_solve : CodeTree → Bool
  has_no_solve (code_lit k) = true
  has_no_solve (code_truth t) = true
  has_no_solve (code_var n) = true
  has_no_solve (code_set_of cs) = have_no_solve cs
  has_no_solve (code_tuple cs) = have_no_solve cs
  has_no_solve (code_sum cs) = have_no_solve cs
  has_no_solve (code_sub a b) = has_no_solve a && has_no_solve b
  has_no_solve (code_mul a b) = has_no_solve a && has_no_solve b
  has_no_solve (code_neg a) = has_no_solve a
  has_no_solve (code_div a k) = has_no_solve a
  has_no_solve (code_mod a k) = has_no_solve a
  has_no_solve (code_min cs) = have_no_solve cs
  has_no_solve (code_max cs) = have_no_solve cs
  has_no_solve (code_compare o a b) = has_no_solve a && has_no_solve b
  has_no_solve (code_divides k a) = has_no_solve a
  has_no_solve (code_and a b) = has_no_solve a && has_no_solve b
  has_no_solve (code_or a b) = has_no_solve a && has_no_solve b
  has_no_solve (code_not a) = has_no_solve a
  has_no_solve (code_union cs) = have_no_solve cs
  has_no_solve (code_inter cs) = have_no_solve cs
  has_no_solve (code_diff a b) = has_no_solve a && has_no_solve b
  has_no_solve (code_subset a b) = has_no_solve a && has_no_solve b
  has_no_solve (code_card a) = has_no_solve a
  has_no_solve (code_slice a b c) = has_no_solve a && (has_no_solve b && has_no_solve c)
  has_no_solve (code_fresh a b) = has_no_solve a && has_no_solve b
  has_no_solve (code_if a b c) = has_no_solve a && (has_no_solve b && has_no_solve c)
  has_no_solve (code_let first n a b) = has_no_solve a && has_no_solve b
  has_no_solve (code_solve n arms) = false

  pub have_no_solve : CodeTrees → Bool
  have_no_solve no_codes = true
  have_no_solve (code_more c cs) = has_no_solve c && have_no_solve cs

abbrev pub item_has_no_solve : ItemTree → Bool
item_has_no_solve (let_item c) = has_no_solve c
item_has_no_solve (need_item c) = has_no_solve c

abbrev pub items_have_no_solve : ItemTrees → Bool
items_have_no_solve no_items = true
items_have_no_solve (item_more i is) = item_has_no_solve i && items_have_no_solve is

-- few tuples lie below the bounds of an arm, and no solve stands inside
abbrev pub is_plain : ArmTree → Bool
is_plain (arm_of bounds is gs) = are_bounds bounds && (items_have_no_solve is && have_no_solve gs)

abbrev pub plain : ArmTree → Option (Unit {0})
plain a = where_true (is_plain a) done

-- the bases of the searches of an arm
abbrev pub searches : ArmTree → List Base
searches (arm_of bounds is gs) = map (λ _. Int) bounds

-- a solve without arms has what its place asks
abbrev pub solved : ArmTrees → Option (List Base) → Option (List Base) → Option (List Base)
solved no_arms asked found = asked
solved (arm_more a arms) asked found = placed asked found

-- the base of a form that has the same one at each place
abbrev pub own_base : CodeTree → Base
own_base (code_truth t) = Truth
own_base (code_set_of cs) = Set
own_base (code_compare o a b) = Truth
own_base (code_divides k a) = Truth
own_base (code_and a b) = Truth
own_base (code_or a b) = Truth
own_base (code_not a) = Truth
own_base (code_union cs) = Set
own_base (code_inter cs) = Set
own_base (code_diff a b) = Set
own_base (code_subset a b) = Truth
own_base (code_slice a b c) = Set
own_base (code_fresh a b) = Set
own_base _ = Int

-- the base that such a form asks of each part
abbrev pub part_base : CodeTree → Base
part_base (code_and a b) = Truth
part_base (code_or a b) = Truth
part_base (code_not a) = Truth
part_base (code_union cs) = Set
part_base (code_inter cs) = Set
part_base (code_diff a b) = Set
part_base (code_subset a b) = Set
part_base (code_card a) = Set
part_base _ = Int

abbrev mutual
  pub bases_of : CodeTree → List Base → Option (List Base) → Option (List Base)
  bases_of (code_lit k) scope asked = placed asked (Some (one Int))
  bases_of (code_truth t) scope asked = placed asked (Some (one Truth))
  bases_of (code_var x) scope asked = placed asked (alone (slice_get scope x))
  bases_of (code_set_of cs) scope asked = placed asked (after_found (at_least 0 cs) (after_found (all_have cs scope Int) (Some (one Set))))
  bases_of (code_tuple cs) scope None = after_found (at_least 2 cs) (parts_of cs scope [])
  bases_of (code_tuple cs) scope (Some asked) =
      after_found (at_least 2 cs) (after_found (as_many cs asked) (after_found (parts_have cs scope asked) (Some asked)))
  bases_of (code_sum cs) scope asked = placed asked (after_found (at_least 2 cs) (after_found (all_have cs scope Int) (Some (one Int))))
  bases_of (code_sub a b) scope asked = placed asked (after_found (bases_of a scope (ask Int)) (after_found (bases_of b scope (ask Int)) (Some (one Int))))
  bases_of (code_mul a b) scope asked = placed asked (after_found (bases_of a scope (ask Int)) (after_found (bases_of b scope (ask Int)) (Some (one Int))))
  bases_of (code_neg a) scope asked = placed asked (after_found (bases_of a scope (ask Int)) (Some (one Int)))
  bases_of (code_div a k) scope asked = placed asked (after_found (divides k) (after_found (bases_of a scope (ask Int)) (Some (one Int))))
  bases_of (code_mod a k) scope asked = placed asked (after_found (divides k) (after_found (bases_of a scope (ask Int)) (Some (one Int))))
  bases_of (code_min cs) scope asked = placed asked (after_found (at_least 1 cs) (after_found (all_have cs scope Int) (Some (one Int))))
  bases_of (code_max cs) scope asked = placed asked (after_found (at_least 1 cs) (after_found (all_have cs scope Int) (Some (one Int))))
  bases_of (code_compare o a b) scope asked =
      placed asked (compared (then_found (bases_of a scope (side o)) single) (then_found (bases_of b scope (side o)) single))
  bases_of (code_divides k a) scope asked = placed asked (after_found (divides k) (after_found (bases_of a scope (ask Int)) (Some (one Truth))))
  bases_of (code_and a b) scope asked = placed asked
      (after_found (bases_of a scope (ask Truth)) (after_found (bases_of b scope (ask Truth)) (Some (one Truth))))
  bases_of (code_or a b) scope asked = placed asked (after_found (bases_of a scope (ask Truth)) (after_found (bases_of b scope (ask Truth)) (Some (one Truth))))
  bases_of (code_not a) scope asked = placed asked (after_found (bases_of a scope (ask Truth)) (Some (one Truth)))
  bases_of (code_union cs) scope asked = placed asked (after_found (at_least 2 cs) (after_found (all_have cs scope Set) (Some (one Set))))
  bases_of (code_inter cs) scope asked = placed asked (after_found (at_least 2 cs) (after_found (all_have cs scope Set) (Some (one Set))))
  bases_of (code_diff a b) scope asked = placed asked (after_found (bases_of a scope (ask Set)) (after_found (bases_of b scope (ask Set)) (Some (one Set))))
  bases_of (code_subset a b) scope asked = placed asked (after_found (bases_of a scope (ask Set)) (after_found (bases_of b scope (ask Set)) (Some (one Truth))))
  bases_of (code_card a) scope asked = placed asked (after_found (bases_of a scope (ask Set)) (Some (one Int)))
  bases_of (code_slice a b c) scope asked =
      placed asked (after_found (bases_of a scope (ask Set))
      (after_found (bases_of b scope (ask Int)) (after_found (bases_of c scope (ask Int)) (Some (one Set)))))
  bases_of (code_fresh a b) scope asked = placed asked (after_found (bases_of a scope (ask Set)) (after_found (bases_of b scope (ask Int)) (Some (one Set))))
  bases_of (code_if t a b) scope None = after_found (bases_of t scope (ask Truth))
      (then_found (bases_of a scope None) (λ bs. after_found (again bs (bases_of b scope None)) (Some bs)))
  bases_of (code_if t a b) scope (Some asked) =
      after_found (bases_of t scope (ask Truth)) (after_found (bases_of a scope (Some asked)) (bases_of b scope (Some asked)))
  bases_of (code_let first n a b) scope asked = then_found (bound first n (length scope) (bases_of a scope None)) (λ vs. bases_of b (scope ++ vs) asked)
  bases_of (code_solve n arms) scope asked = solved arms asked (arms_bases arms scope)

  -- all codes have this one base
  pub all_have : CodeTrees → List Base → Base → Option (Unit {0})
  all_have no_codes scope b = done
  all_have (code_more c cs) scope b = after_found (bases_of c scope (ask b)) (all_have cs scope b)

  -- these bases, and then those of the parts, one each
  pub parts_of : CodeTrees → List Base → List Base → Option (List Base)
  parts_of no_codes scope before = Some before
  parts_of (code_more c cs) scope before = then_found (then_found (bases_of c scope None) single) (λ b. parts_of cs scope (before ++ one b))

  -- the parts have these bases, one each
  pub parts_have : CodeTrees → List Base → List Base → Option (Unit {0})
  parts_have no_codes scope bs = done
  parts_have (code_more c cs) scope [] = None
  parts_have (code_more c cs) scope (b ∷ bs) = after_found (bases_of c scope (ask b)) (parts_have cs scope bs)

  -- the bases of all variables behind the items
  pub items_scope : ItemTrees → List Base → Option (List Base)
  items_scope no_items scope = Some scope
  items_scope (item_more i is) scope = then_found (item_scope i scope) (λ inner. items_scope is inner)

  pub item_scope : ItemTree → List Base → Option (List Base)
  item_scope (let_item c) scope = then_found (then_found (bases_of c scope None) single) (λ b. Some (scope ++ one b))
  item_scope (need_item c) scope = after_found (bases_of c scope (ask Truth)) (Some scope)

  -- what an arm gives under its searches
  pub inner_bases : ArmTree → List Base → Option (List Base)
  inner_bases (arm_of bounds is gs) scope = then_found (items_scope is scope) (λ inner. parts_of gs inner [])

  -- the bases that all arms give
  pub arms_bases : ArmTrees → List Base → Option (List Base)
  arms_bases no_arms scope = None
  arms_bases (arm_more a arms) scope = then_found (after_found (plain a) (inner_bases a (scope ++ searches a)))
      (λ bs. after_found (arms_give arms scope bs) (Some bs))

  pub arms_give : ArmTrees → List Base → List Base → Option (Unit {0})
  arms_give no_arms scope bs = done
  arms_give (arm_more a arms) scope bs = after_found (again bs (after_found (plain a) (inner_bases a (scope ++ searches a)))) (arms_give arms scope bs)

-- what an arm gives in the scope of its solve
abbrev pub arm_bases : ArmTree → List Base → Option (List Base)
arm_bases a scope = after_found (plain a) (inner_bases a (scope ++ searches a))
