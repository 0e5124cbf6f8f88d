-- The walk finds no other bases than those that a code has at its place.
use Rattle.std.proofs.Common.{◌≡◌, ℕ, Option, Some, None, List, [], ◌∷◌, ◌++◌, length, map, slice_get, refl, sym, ap, ◌∙◌, subst, arith, append_assoc}
use Rattle.std.proofs.lemmas.List.{append-nil}
use Rattle.cf_tree.specs.declared.base.Base.{Base}
use Rattle.cf_tree.specs.declared.base.Base.TheVariants.{Int, Bool as Truth, Set}
use Rattle.cf_tree.specs.CodeTree.{CodeTree, code_lit, code_truth, code_var, code_set_of, code_tuple, code_sum, code_sub, code_mul, code_neg, code_div, code_mod, code_min, code_max, code_compare, code_divides, code_and, code_or, code_not, code_union, code_inter, code_diff, code_subset, code_card, code_slice, code_fresh, code_if, code_let, code_solve, CodeTrees, no_codes, code_more, let_item, need_item, ItemTrees, no_items, item_more, arm_of, ArmTrees, no_arms, arm_more, count}
use Rattle.cf_tree.specs.Typing.{AreBounds, ItemsHaveNoSolve, HaveNoSolve, HasBases, AllHave, PartsHave, ItemsHave, ArmsHave, one, ask, side}
use Rattle.cf_typing.specs.Bases.{then_found, after_found, single, again, bound, at_least, as_many, divides, plain, bases_of, all_have, parts_of, parts_have, items_scope, inner_bases, arms_bases, arms_give, arm_bases}
use Rattle.cf_typing.proofs.Steps.{IsFound, after_is, then_is, placed_is, one_is, variable_is, after_one_is, after_two_is, after_three_is, single_is, compared_is, again_is, bound_is, at_least_is, as_many_is, divides_is}
use Rattle.cf_typing.proofs.PlainLaws.{plain_is}

-- as many parts as bases
parts_count : (cs : CodeTrees) (scope : List Base) (asked : Option (List Base)) (bs : List Base) → PartsHave cs scope asked bs → count cs ≡ length bs
parts_count no_codes scope asked bs h = rw h refl
parts_count (code_more c cs) scope asked bs h = rw h.2 (omega (arith, parts_count cs scope asked h.1 h.4))

shorter : (before : List Base) (b : Base) (rest : List Base) → (before ++ one b) ++ rest ≡ before ++ b ∷ rest
shorter before b rest = simp append_assoc

has_asked : (c : CodeTree) (scope : List Base) (b : Base) → bases_of c scope (ask b) ≡ Some (one b) → IsFound (bases_of c scope (ask b))
has_asked c scope b e = (one b, e)

-- the bases that the items leave, and what is given under them
abbrev Leaves : ItemTrees → CodeTrees → List Base → List Base → Type 0
Leaves is gs scope bs = (inner : List Base) × (items_scope is scope ≡ Some inner) × PartsHave gs inner None bs

arm_is : (bounds : List ℕ) (is : ItemTrees) (gs : CodeTrees) (scope bs : List Base) → AreBounds bounds → ItemsHaveNoSolve is → HaveNoSolve gs →
    Leaves is gs (scope ++ map (λ _. Int) bounds) bs →
    ((inner : List Base) → PartsHave gs inner None bs → parts_of gs inner [] ≡ Some bs) → arm_bases (arm_of bounds is gs) scope ≡ Some bs
arm_is bounds is gs scope bs b i g l parts =
    after_is (plain (arm_of bounds is gs)) (inner_bases (arm_of bounds is gs) (scope ++ map (λ _. Int) bounds)) bs (plain_is bounds is gs b i g)
    (then_is (items_scope is (scope ++ map (λ _. Int) bounds)) (λ inner. parts_of gs inner []) l.0 bs l.1 (parts l.0 l.2))

mutual
  pub only : (c : CodeTree) (scope : List Base) (asked : Option (List Base)) (bs : List Base) → HasBases c scope asked bs → bases_of c scope asked ≡ Some bs
  only (code_lit k) scope asked bs h = one_is Int asked bs h
  only (code_truth t) scope asked bs h = one_is Truth asked bs h
  only (code_var x) scope asked bs h = variable_is asked (slice_get scope x) bs h.0 h.1 h.2
  only (code_set_of cs) scope asked bs h =
      after_two_is asked Set bs (at_least 0 cs) (all_have cs scope Int) (at_least_is 0 cs (omega arith)) (all_only cs scope Int h.0) h.1
  only (code_tuple cs) scope None bs h = after_is (at_least 2 cs) (parts_of cs scope []) bs (at_least_is 2 cs h.0) (parts_only cs scope [] bs h.1)
  only (code_tuple cs) scope (Some asked) bs h =
      let given : PartsHave cs scope (Some asked) asked = subst (λ rest. PartsHave cs scope (Some asked) rest) (sym h.2) h.1 in
      after_is (at_least 2 cs) (after_found (as_many cs asked) (after_found (parts_have cs scope asked) (Some asked))) bs (at_least_is 2 cs h.0)
      (after_is (as_many cs asked) (after_found (parts_have cs scope asked) (Some asked)) bs
      (as_many_is cs asked (parts_count cs scope (Some asked) asked given))
      (after_is (parts_have cs scope asked) (Some asked) bs (parts_given cs scope asked asked given) (ap Some h.2)))
  only (code_sum cs) scope asked bs h = after_two_is asked Int bs (at_least 2 cs) (all_have cs scope Int) (at_least_is 2 cs h.0) (all_only cs scope Int h.1) h.2
  only (code_sub a b) scope asked bs h =
      after_two_is asked Int bs (bases_of a scope (ask Int)) (bases_of b scope (ask Int)) (has_asked a scope Int (only a scope (ask Int) (one Int) h.0))
      (has_asked b scope Int (only b scope (ask Int) (one Int) h.1)) h.2
  only (code_mul a b) scope asked bs h =
      after_two_is asked Int bs (bases_of a scope (ask Int)) (bases_of b scope (ask Int)) (has_asked a scope Int (only a scope (ask Int) (one Int) h.0))
      (has_asked b scope Int (only b scope (ask Int) (one Int) h.1)) h.2
  only (code_neg a) scope asked bs h = after_one_is asked Int bs (bases_of a scope (ask Int)) (has_asked a scope Int (only a scope (ask Int) (one Int) h.0)) h.1
  only (code_div a k) scope asked bs h =
      after_two_is asked Int bs (divides k) (bases_of a scope (ask Int)) (divides_is k h.0) (has_asked a scope Int (only a scope (ask Int) (one Int) h.1)) h.2
  only (code_mod a k) scope asked bs h =
      after_two_is asked Int bs (divides k) (bases_of a scope (ask Int)) (divides_is k h.0) (has_asked a scope Int (only a scope (ask Int) (one Int) h.1)) h.2
  only (code_min cs) scope asked bs h = after_two_is asked Int bs (at_least 1 cs) (all_have cs scope Int) (at_least_is 1 cs h.0) (all_only cs scope Int h.1) h.2
  only (code_max cs) scope asked bs h = after_two_is asked Int bs (at_least 1 cs) (all_have cs scope Int) (at_least_is 1 cs h.0) (all_only cs scope Int h.1) h.2
  only (code_compare o a b) scope asked bs h =
      compared_is asked (bases_of a scope (side o)) (bases_of b scope (side o)) bs h.0 (only a scope (side o) (one h.0) h.2)
      (only b scope (side o) (one h.0) h.3) h.4
  only (code_divides k a) scope asked bs h =
      after_two_is asked Truth bs (divides k) (bases_of a scope (ask Int)) (divides_is k h.0) (has_asked a scope Int (only a scope (ask Int) (one Int) h.1)) h.2
  only (code_and a b) scope asked bs h =
      after_two_is asked Truth bs (bases_of a scope (ask Truth)) (bases_of b scope (ask Truth))
      (has_asked a scope Truth (only a scope (ask Truth) (one Truth) h.0)) (has_asked b scope Truth (only b scope (ask Truth) (one Truth) h.1)) h.2
  only (code_or a b) scope asked bs h =
      after_two_is asked Truth bs (bases_of a scope (ask Truth)) (bases_of b scope (ask Truth))
      (has_asked a scope Truth (only a scope (ask Truth) (one Truth) h.0)) (has_asked b scope Truth (only b scope (ask Truth) (one Truth) h.1)) h.2
  only (code_not a) scope asked bs h = after_one_is asked Truth bs (bases_of a scope (ask Truth))
      (has_asked a scope Truth (only a scope (ask Truth) (one Truth) h.0)) h.1
  only (code_union cs) scope asked bs h = after_two_is asked Set bs (at_least 2 cs) (all_have cs scope Set) (at_least_is 2 cs h.0) (all_only cs scope Set h.1)
      h.2
  only (code_inter cs) scope asked bs h = after_two_is asked Set bs (at_least 2 cs) (all_have cs scope Set) (at_least_is 2 cs h.0) (all_only cs scope Set h.1)
      h.2
  only (code_diff a b) scope asked bs h =
      after_two_is asked Set bs (bases_of a scope (ask Set)) (bases_of b scope (ask Set)) (has_asked a scope Set (only a scope (ask Set) (one Set) h.0))
      (has_asked b scope Set (only b scope (ask Set) (one Set) h.1)) h.2
  only (code_subset a b) scope asked bs h =
      after_two_is asked Truth bs (bases_of a scope (ask Set)) (bases_of b scope (ask Set)) (has_asked a scope Set (only a scope (ask Set) (one Set) h.0))
      (has_asked b scope Set (only b scope (ask Set) (one Set) h.1)) h.2
  only (code_card a) scope asked bs h = after_one_is asked Int bs (bases_of a scope (ask Set)) (has_asked a scope Set (only a scope (ask Set) (one Set) h.0))
      h.1
  only (code_slice a b c) scope asked bs h =
      after_three_is asked Set bs (bases_of a scope (ask Set)) (bases_of b scope (ask Int)) (bases_of c scope (ask Int))
      (has_asked a scope Set (only a scope (ask Set) (one Set) h.0)) (has_asked b scope Int (only b scope (ask Int) (one Int) h.1))
      (has_asked c scope Int (only c scope (ask Int) (one Int) h.2)) h.3
  only (code_fresh a b) scope asked bs h =
      after_two_is asked Set bs (bases_of a scope (ask Set)) (bases_of b scope (ask Int)) (has_asked a scope Set (only a scope (ask Set) (one Set) h.0))
      (has_asked b scope Int (only b scope (ask Int) (one Int) h.1)) h.2
  only (code_if t a b) scope None bs h =
      after_is (bases_of t scope (ask Truth)) (then_found (bases_of a scope None) (λ cs. after_found (again cs (bases_of b scope None)) (Some cs))) bs
      (has_asked t scope Truth (only t scope (ask Truth) (one Truth) h.0))
      (then_is (bases_of a scope None) (λ cs. after_found (again cs (bases_of b scope None)) (Some cs)) bs bs (only a scope None bs h.1)
      (after_is (again bs (bases_of b scope None)) (Some bs) bs (again_is bs (bases_of b scope None) (only b scope None bs h.2)) refl))
  only (code_if t a b) scope (Some asked) bs h =
      after_is (bases_of t scope (ask Truth)) (after_found (bases_of a scope (Some asked)) (bases_of b scope (Some asked))) bs
      (has_asked t scope Truth (only t scope (ask Truth) (one Truth) h.0))
      (after_is (bases_of a scope (Some asked)) (bases_of b scope (Some asked)) bs (bs, only a scope (Some asked) bs h.1) (only b scope (Some asked) bs h.2))
  only (code_let first n a b) scope asked bs h =
      then_is (bound first n (length scope) (bases_of a scope None)) (λ vs. bases_of b (scope ++ vs) asked) h.0 bs
      (bound_is first n (length scope) (bases_of a scope None) h.0 (only a scope None h.0 h.1) h.2 h.3) (only b (scope ++ h.0) asked bs h.4)
  only (code_solve n no_arms) scope asked bs h = h.0
  only (code_solve n (arm_more (arm_of bounds is gs) arms)) scope asked bs h =
      let k : ArmsHave (arm_more (arm_of bounds is gs) arms) scope bs = h.1 in
      placed_is asked (arms_bases (arm_more (arm_of bounds is gs) arms) scope) bs
      (then_is (arm_bases (arm_of bounds is gs) scope) (λ cs. after_found (arms_give arms scope cs) (Some cs)) bs bs
      (arm_is bounds is gs scope bs k.0 k.1 k.2 (items_only is gs bs (scope ++ map (λ _. Int) bounds) k.3) (λ inner p. parts_only gs inner [] bs p))
      (after_is (arms_give arms scope bs) (Some bs) bs (arms_only arms scope bs k.4) refl))
      h.0

  all_only : (cs : CodeTrees) (scope : List Base) (b : Base) → AllHave cs scope b → IsFound (all_have cs scope b)
  all_only no_codes scope b h = (tt, refl)
  all_only (code_more c cs) scope b h =
      let rest = all_only cs scope b h.1 in
      (rest.0, after_is (bases_of c scope (ask b)) (all_have cs scope b) rest.0 (has_asked c scope b (only c scope (ask b) (one b) h.0)) rest.1)

  parts_only : (cs : CodeTrees) (scope before rest : List Base) → PartsHave cs scope None rest → parts_of cs scope before ≡ Some (before ++ rest)
  parts_only no_codes scope before rest h = rw (h, append-nil before) refl
  parts_only (code_more c cs) scope before rest h =
      rw h.2
      (then_is (then_found (bases_of c scope None) single) (λ b. parts_of cs scope (before ++ one b)) h.0 (before ++ h.0 ∷ h.1)
      (single_is (bases_of c scope None) h.0 (only c scope None (one h.0) h.3))
      (parts_only cs scope (before ++ one h.0) h.1 h.4 ∙ ap Some (shorter before h.0 h.1)))

  parts_given : (cs : CodeTrees) (scope whole bs : List Base) → PartsHave cs scope (Some whole) bs → IsFound (parts_have cs scope bs)
  parts_given no_codes scope whole bs h = (tt, refl)
  parts_given (code_more c cs) scope whole bs h =
      let rest = parts_given cs scope whole h.1 h.4 in (
        rest.0,
        rw h.2 (after_is (bases_of c scope (ask h.0)) (parts_have cs scope h.1) rest.0 (has_asked c scope h.0 (only c scope (ask h.0) (one h.0) h.3))
            rest.1),
      )

  items_only : (is : ItemTrees) (gs : CodeTrees) (bs scope : List Base) → ItemsHave is scope (λ inner. PartsHave gs inner None bs) → Leaves is gs scope bs
  items_only no_items gs bs scope h = (scope, refl, h)
  items_only (item_more (let_item c) is) gs bs scope h =
      let rest = items_only is gs bs (scope ++ one h.0) h.2 in (
        rest.0,
        then_is (then_found (then_found (bases_of c scope None) single) (λ b. Some (scope ++ one b))) (λ next. items_scope is next) (scope ++ one h.0) rest.0
            (then_is (then_found (bases_of c scope None) single) (λ b. Some (scope ++ one b)) h.0 (scope ++ one h.0)
            (single_is (bases_of c scope None) h.0 (only c scope None (one h.0) h.1)) refl) rest.1,
        rest.2,
      )
  items_only (item_more (need_item c) is) gs bs scope h =
      let rest = items_only is gs bs scope h.1 in (
        rest.0,
        then_is (after_found (bases_of c scope (ask Truth)) (Some scope)) (λ next. items_scope is next) scope rest.0
            (after_is (bases_of c scope (ask Truth)) (Some scope) scope (has_asked c scope Truth (only c scope (ask Truth) (one Truth) h.0)) refl) rest.1,
        rest.2,
      )

  arms_only : (arms : ArmTrees) (scope bs : List Base) → ArmsHave arms scope bs → IsFound (arms_give arms scope bs)
  arms_only no_arms scope bs h = (tt, refl)
  arms_only (arm_more (arm_of bounds is gs) arms) scope bs h =
      let rest = arms_only arms scope bs h.4 in
      let here = arm_is bounds is gs scope bs h.0 h.1 h.2 (items_only is gs bs (scope ++ map (λ _. Int) bounds) h.3) (λ inner p. parts_only gs inner [] bs p) in (
        rest.0,
        after_is (again bs (arm_bases (arm_of bounds is gs) scope)) (arms_give arms scope bs) rest.0
            (again_is bs (arm_bases (arm_of bounds is gs) scope) here) rest.1,
      )
