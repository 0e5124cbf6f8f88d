-- Code behind more variables is well typed where the code is.
use Rattle.std.proofs.Common.{◌≡◌, ℕ, suc, ◌+◌, Option, None, List, [], ◌∷◌, ◌++◌, length, map, slice_get, refl, ap, ◌∙◌, arith, length-append, zero-add}
use Rattle.std.proofs.lemmas.List.{append_assoc}
use Rattle.cf_tree.specs.declared.base.Base.{Base}
use Rattle.cf_tree.specs.declared.base.Base.TheVariants.{Int}
use Rattle.cf_tree.specs.CodeTree.{CodeTree, code_lit, code_truth, code_var, code_set_of, code_tuple, code_sum, code_sub, code_mul, code_neg, code_div, code_mod, code_min, code_max, code_compare, code_divides, code_and, code_or, code_not, code_union, code_inter, code_diff, code_subset, code_card, code_slice, code_fresh, code_if, code_let, code_solve, CodeTrees, no_codes, code_more, let_item, need_item, ItemTrees, no_items, item_more, arm_of, ArmTrees, no_arms, arm_more, count}
use Rattle.cf_tree.specs.Typing.{IsGiven, HasNoSolve, HaveNoSolve, ItemsHaveNoSolve, HasBases, AllHave, PartsHave, ItemsHave, ArmsHave}
use Rattle.cf_shift.specs.Shifted.{shifted, all_shifted, items_shifted, arms_shifted}

pub slice_get_behind : (front scope : List Base) (x : ℕ) → slice_get (front ++ scope) (length front + x) ≡ slice_get scope x
slice_get_behind [] scope x = ap (λ i. slice_get scope i) (zero-add x)
slice_get_behind (b ∷ front) scope x =
    let e : length (b ∷ front) + x ≡ suc (length front + x) = omega arith in
    ap (λ i. slice_get (b ∷ front ++ scope) i) e ∙ slice_get_behind front scope x

pub count_shifted : (by : ℕ) (cs : CodeTrees) → count (all_shifted by cs) ≡ count cs
count_shifted by no_codes = refl
count_shifted by (code_more c cs) = ap (λ n. 1 + n) (count_shifted by cs)

given_shifted : (by : ℕ) (arms : ArmTrees) (asked : Option (List Base)) (bs : List Base) → IsGiven arms asked bs → IsGiven (arms_shifted by arms) asked bs
given_shifted by no_arms asked bs h = h
given_shifted by (arm_more a arms) asked bs h = h

mutual
  plain : (by : ℕ) (c : CodeTree) → HasNoSolve c → HasNoSolve (shifted by c)
  plain by (code_lit k) h = tt
  plain by (code_truth t) h = tt
  plain by (code_var x) h = tt
  plain by (code_set_of cs) h = all_plain by cs h
  plain by (code_tuple cs) h = all_plain by cs h
  plain by (code_sum cs) h = all_plain by cs h
  plain by (code_sub a b) h = (plain by a h.0, plain by b h.1)
  plain by (code_mul a b) h = (plain by a h.0, plain by b h.1)
  plain by (code_neg a) h = plain by a h
  plain by (code_div a k) h = plain by a h
  plain by (code_mod a k) h = plain by a h
  plain by (code_min cs) h = all_plain by cs h
  plain by (code_max cs) h = all_plain by cs h
  plain by (code_compare o a b) h = (plain by a h.0, plain by b h.1)
  plain by (code_divides k a) h = plain by a h
  plain by (code_and a b) h = (plain by a h.0, plain by b h.1)
  plain by (code_or a b) h = (plain by a h.0, plain by b h.1)
  plain by (code_not a) h = plain by a h
  plain by (code_union cs) h = all_plain by cs h
  plain by (code_inter cs) h = all_plain by cs h
  plain by (code_diff a b) h = (plain by a h.0, plain by b h.1)
  plain by (code_subset a b) h = (plain by a h.0, plain by b h.1)
  plain by (code_card a) h = plain by a h
  plain by (code_slice a b c) h = (plain by a h.0, plain by b h.1, plain by c h.2)
  plain by (code_fresh a b) h = (plain by a h.0, plain by b h.1)
  plain by (code_if a b c) h = (plain by a h.0, plain by b h.1, plain by c h.2)
  plain by (code_let first n a b) h = (plain by a h.0, plain by b h.1)
  plain by (code_solve n arms) h = absurd h

  all_plain : (by : ℕ) (cs : CodeTrees) → HaveNoSolve cs → HaveNoSolve (all_shifted by cs)
  all_plain by no_codes h = tt
  all_plain by (code_more c cs) h = (plain by c h.0, all_plain by cs h.1)

items_plain : (by : ℕ) (is : ItemTrees) → ItemsHaveNoSolve is → ItemsHaveNoSolve (items_shifted by is)
items_plain by no_items h = tt
items_plain by (item_more (let_item c) is) h = (plain by c h.0, items_plain by is h.1)
items_plain by (item_more (need_item c) is) h = (plain by c h.0, items_plain by is h.1)

module _ (front : List Base) where
  mutual
    pub has : (c : CodeTree) (scope : List Base) (asked : Option (List Base)) (bs : List Base) → HasBases c scope asked bs →
        HasBases (shifted (length front) c) (front ++ scope) asked bs
    has (code_lit k) scope asked bs h = h
    has (code_truth t) scope asked bs h = h
    has (code_var x) scope asked bs h = (h.0, rw (slice_get_behind front scope x) h.1, h.2)
    has (code_set_of cs) scope asked bs h = (all_have cs scope _ h.0, h.1)
    has (code_tuple cs) scope asked bs h = (rw (count_shifted (length front) cs) h.0, parts_have cs scope asked bs h.1, h.2)
    has (code_sum cs) scope asked bs h = (rw (count_shifted (length front) cs) h.0, all_have cs scope _ h.1, h.2)
    has (code_sub a b) scope asked bs h = (has a scope _ _ h.0, has b scope _ _ h.1, h.2)
    has (code_mul a b) scope asked bs h = (has a scope _ _ h.0, has b scope _ _ h.1, h.2)
    has (code_neg a) scope asked bs h = (has a scope _ _ h.0, h.1)
    has (code_div a k) scope asked bs h = (h.0, has a scope _ _ h.1, h.2)
    has (code_mod a k) scope asked bs h = (h.0, has a scope _ _ h.1, h.2)
    has (code_min cs) scope asked bs h = (rw (count_shifted (length front) cs) h.0, all_have cs scope _ h.1, h.2)
    has (code_max cs) scope asked bs h = (rw (count_shifted (length front) cs) h.0, all_have cs scope _ h.1, h.2)
    has (code_compare o a b) scope asked bs h = (h.0, h.1, has a scope _ _ h.2, has b scope _ _ h.3, h.4)
    has (code_divides k a) scope asked bs h = (h.0, has a scope _ _ h.1, h.2)
    has (code_and a b) scope asked bs h = (has a scope _ _ h.0, has b scope _ _ h.1, h.2)
    has (code_or a b) scope asked bs h = (has a scope _ _ h.0, has b scope _ _ h.1, h.2)
    has (code_not a) scope asked bs h = (has a scope _ _ h.0, h.1)
    has (code_union cs) scope asked bs h = (rw (count_shifted (length front) cs) h.0, all_have cs scope _ h.1, h.2)
    has (code_inter cs) scope asked bs h = (rw (count_shifted (length front) cs) h.0, all_have cs scope _ h.1, h.2)
    has (code_diff a b) scope asked bs h = (has a scope _ _ h.0, has b scope _ _ h.1, h.2)
    has (code_subset a b) scope asked bs h = (has a scope _ _ h.0, has b scope _ _ h.1, h.2)
    has (code_card a) scope asked bs h = (has a scope _ _ h.0, h.1)
    has (code_slice a b c) scope asked bs h = (has a scope _ _ h.0, has b scope _ _ h.1, has c scope _ _ h.2, h.3)
    has (code_fresh a b) scope asked bs h = (has a scope _ _ h.0, has b scope _ _ h.1, h.2)
    has (code_if t a b) scope asked bs h = (has t scope _ _ h.0, has a scope asked bs h.1, has b scope asked bs h.2)
    has (code_let first n a b) scope asked bs h = (
      h.0,
      has a scope None h.0 h.1,
      omega (arith, length-append front scope, h.2),
      h.3,
      rw (append_assoc front scope h.0) (has b (scope ++ h.0) asked bs h.4),
    )
    has (code_solve n arms) scope asked bs h = (given_shifted (length front) arms asked bs h.0, arms_have arms scope bs h.1)

    all_have : (cs : CodeTrees) (scope : List Base) (b : Base) → AllHave cs scope b → AllHave (all_shifted (length front) cs) (front ++ scope) b
    all_have no_codes scope b h = tt
    all_have (code_more c cs) scope b h = (has c scope _ _ h.0, all_have cs scope b h.1)

    parts_have : (cs : CodeTrees) (scope : List Base) (asked : Option (List Base)) (bs : List Base) → PartsHave cs scope asked bs →
        PartsHave (all_shifted (length front) cs) (front ++ scope) asked bs
    parts_have no_codes scope asked bs h = h
    parts_have (code_more c cs) scope asked bs h = (h.0, h.1, h.2, has c scope _ _ h.3, parts_have cs scope asked h.1 h.4)

    items_have : (is : ItemTrees) (scope : List Base) (gs hs : CodeTrees) (bs : List Base) →
        ((inner : List Base) → PartsHave gs inner None bs → PartsHave hs (front ++ inner) None bs) →
        ItemsHave is scope (λ inner. PartsHave gs inner None bs) →
        ItemsHave (items_shifted (length front) is) (front ++ scope) (λ inner. PartsHave hs inner None bs)
    items_have no_items scope gs hs bs f h = f scope h
    items_have (item_more (let_item c) is) scope gs hs bs f h =
        (h.0, has c scope None _ h.1, rw (append_assoc front scope (h.0 ∷ [])) (items_have is (scope ++ h.0 ∷ []) gs hs bs f h.2))
    items_have (item_more (need_item c) is) scope gs hs bs f h = (has c scope _ _ h.0, items_have is scope gs hs bs f h.1)

    arms_have : (arms : ArmTrees) (scope bs : List Base) → ArmsHave arms scope bs → ArmsHave (arms_shifted (length front) arms) (front ++ scope) bs
    arms_have no_arms scope bs h = tt
    arms_have (arm_more (arm_of bounds is gs) arms) scope bs h = (
      h.0,
      items_plain (length front) is h.1,
      all_plain (length front) gs h.2,
      rw (append_assoc front scope (map (λ _. Int) bounds))
          (items_have is (scope ++ map (λ _. Int) bounds) gs (all_shifted (length front) gs) bs (λ inner p. parts_have gs inner None bs p) h.3),
      arms_have arms scope bs h.4,
    )

-- code behind more variables has the bases that it has without them
pub shifted_has : (front scope : List Base) (c : CodeTree) (asked : Option (List Base)) (bs : List Base) → HasBases c scope asked bs →
    HasBases (shifted (length front) c) (front ++ scope) asked bs
shifted_has front scope c asked bs h = has front c scope asked bs h
