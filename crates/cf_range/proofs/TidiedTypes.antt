-- Tidying keeps the types of a code.
use Rattle.std.proofs.Common.{◌≡◌, ℕ, ℤ, pos, neg_ℤ, ◌+◌, ◌≤◌, Bool, true, false, cond, ◌&&◌, Option, Some, None, List, ◌++◌, map, refl, sym, ap, subst, arith}
use Rattle.cf_tree.specs.declared.base.Base.{Base}
use Rattle.cf_tree.specs.declared.base.Base.TheVariants.{Int, Bool as Truth, Set}
use Rattle.cf_tree.specs.CodeTree.{CodeTree, code_lit, code_truth, code_var, code_set_of, code_tuple, code_sum, code_sub, code_mul, code_neg, code_div, code_mod, code_min, code_max, code_compare, code_divides, code_and, code_or, code_not, code_union, code_inter, code_diff, code_subset, code_card, code_slice, code_fresh, code_if, code_let, code_solve, CodeTrees, no_codes, code_more, ItemTree, let_item, need_item, ItemTrees, no_items, item_more, arm_of, ArmTrees, no_arms, arm_more, count}
use Rattle.cf_tree.specs.Typing.{HasBases, AllHave, PartsHave, ItemsHave, ArmsHave, HasNoSolve, HaveNoSolve, ItemHasNoSolve, ItemsHaveNoSolve, IsGiven, IsOne, Meets, ask, one, share, side}
use Rattle.cf_range.specs.declared.range.Range.{Range}
use Rattle.cf_range.specs.Alike.{KeepsTypes}
use Rattle.cf_range.specs.Tidied.{is_minus_one, negation, opposite, times, product, is_zero, nonzero, numerals_sum, numeral_or, sum_of, tidied, all_tidied, item_tidied, items_tidied, arms_tidied, always_holds, other_items, always_gives, is_left, are_left, other_arms, entered, reached}
use Rattle.cf_range.specs.Ranges.{passes}
use Rattle.cf_range.specs.Settled.{settled}
use Rattle.cf_range.proofs.NumberLemmas.{on_bool}
use Rattle.cf_range.proofs.PutTypes.{either_free, either_typed}
use Rattle.cf_range.proofs.RowLaws.{zero_is}
use Rattle.cf_range.proofs.SettledTypes.{settled_keeps_types}

abbrev Keeps : CodeTree → CodeTree → Type 0
Keeps old new = (scope : List Base) (asked : Option (List Base)) (bs : List Base) → HasBases old scope asked bs → HasBases new scope asked bs

same_count : (cs : CodeTrees) → count cs ≡ count (all_tidied cs)
same_count no_codes = refl
same_count (code_more c cs) = ap (λ n. 1 + n) (same_count cs)

at_least : (k : ℕ) (cs : CodeTrees) → k ≤ count cs → k ≤ count (all_tidied cs)
at_least k cs h = subst (λ n. k ≤ n) (same_count cs) h

-- ---- no solve is new
negation_free : (c : CodeTree) → HasNoSolve c → HasNoSolve (negation c)
negation_free (code_lit k) h = either_free (passes k) (code_neg (code_lit k)) (code_lit (neg_ℤ k)) tt tt
negation_free (code_truth t) h = h
negation_free (code_var x) h = h
negation_free (code_set_of cs) h = h
negation_free (code_tuple cs) h = h
negation_free (code_sum cs) h = h
negation_free (code_sub a b) h = h
negation_free (code_mul a b) h = h
negation_free (code_neg a) h = (h, tt)
negation_free (code_div a k) h = h
negation_free (code_mod a k) h = h
negation_free (code_min cs) h = h
negation_free (code_max cs) h = h
negation_free (code_compare o a b) h = h
negation_free (code_divides k a) h = h
negation_free (code_and a b) h = h
negation_free (code_or a b) h = h
negation_free (code_not a) h = h
negation_free (code_union cs) h = h
negation_free (code_inter cs) h = h
negation_free (code_diff a b) h = h
negation_free (code_subset a b) h = h
negation_free (code_card a) h = h
negation_free (code_slice a b c) h = h
negation_free (code_fresh a b) h = h
negation_free (code_if t a b) h = h
negation_free (code_let first n a b) h = h
negation_free (code_solve n arms) h = h

times_free : (a : CodeTree) (o : Option ℤ) (b : CodeTree) → HasNoSolve (code_mul a b) → HasNoSolve (times a o b)
times_free a None b h = h
times_free e (Some j) (code_lit k) h = either_free (is_zero (code_lit k)) (code_lit k) (code_mul e (code_lit k)) h.1 h
times_free e (Some k) (code_truth t) h = h
times_free e (Some k) (code_var x) h = h
times_free e (Some k) (code_set_of cs) h = h
times_free e (Some k) (code_tuple cs) h = h
times_free e (Some k) (code_sum cs) h = h
times_free e (Some k) (code_sub a b) h = h
times_free e (Some k) (code_mul a b) h = h
times_free e (Some k) (code_neg a) h = (tt, h.1)
times_free e (Some j) (code_div a k) h = h
times_free e (Some j) (code_mod a k) h = h
times_free e (Some k) (code_min cs) h = h
times_free e (Some k) (code_max cs) h = h
times_free e (Some k) (code_compare o a b) h = h
times_free e (Some j) (code_divides k a) h = h
times_free e (Some k) (code_and a b) h = h
times_free e (Some k) (code_or a b) h = h
times_free e (Some k) (code_not a) h = h
times_free e (Some k) (code_union cs) h = h
times_free e (Some k) (code_inter cs) h = h
times_free e (Some k) (code_diff a b) h = h
times_free e (Some k) (code_subset a b) h = h
times_free e (Some k) (code_card a) h = h
times_free e (Some k) (code_slice a b c) h = h
times_free e (Some k) (code_fresh a b) h = h
times_free e (Some k) (code_if t a b) h = h
times_free e (Some k) (code_let first n a b) h = h
times_free e (Some k) (code_solve n arms) h = h

product_free : (a b : CodeTree) → HasNoSolve (code_mul a b) → HasNoSolve (product a b)
product_free a b h = either_free (is_minus_one a) (negation b) (times a (opposite a) b) (negation_free b h.1) (times_free a (opposite a) b h)

either_free_parts : (t : Bool) (cs ds : CodeTrees) → HaveNoSolve cs → HaveNoSolve ds → HaveNoSolve (cond t cs ds)
either_free_parts true cs ds h k = h
either_free_parts false cs ds h k = k

nonzero_free : (cs : CodeTrees) → HaveNoSolve cs → HaveNoSolve (nonzero cs)
nonzero_free no_codes h = tt
nonzero_free (code_more c cs) h = either_free_parts (is_zero c) (nonzero cs) (code_more c (nonzero cs)) (nonzero_free cs h.1) (h.0, nonzero_free cs h.1)

numeral_free : (o : Option ℤ) (cs : CodeTrees) → HaveNoSolve cs → HasNoSolve (numeral_or o cs)
numeral_free None cs h = h
numeral_free (Some z) cs h = tt

sum_free : (cs : CodeTrees) → HaveNoSolve cs → HasNoSolve (sum_of cs)
sum_free no_codes h = tt
sum_free (code_more c no_codes) h = h
sum_free (code_more c (code_more d cs)) h = numeral_free (numerals_sum (Some (pos 0)) (code_more c (code_more d cs))) (code_more c (code_more d cs)) h

mutual
  code_free : (c : CodeTree) → HasNoSolve c → HasNoSolve (tidied c)
  code_free (code_lit k) h = h
  code_free (code_truth t) h = h
  code_free (code_var x) h = h
  code_free (code_set_of cs) h = all_free cs h
  code_free (code_tuple cs) h = all_free cs h
  code_free (code_sum cs) h = sum_free (nonzero (all_tidied cs)) (nonzero_free (all_tidied cs) (all_free cs h))
  code_free (code_sub a b) h = (code_free a h.0, code_free b h.1)
  code_free (code_mul a b) h = product_free (tidied a) (tidied b) (code_free a h.0, code_free b h.1)
  code_free (code_neg a) h = negation_free (tidied a) (code_free a h)
  code_free (code_div a k) h = code_free a h
  code_free (code_mod a k) h = code_free a h
  code_free (code_min cs) h = all_free cs h
  code_free (code_max cs) h = all_free cs h
  code_free (code_compare o a b) h = (code_free a h.0, code_free b h.1)
  code_free (code_divides k a) h = code_free a h
  code_free (code_and a b) h = (code_free a h.0, code_free b h.1)
  code_free (code_or a b) h = (code_free a h.0, code_free b h.1)
  code_free (code_not a) h = code_free a h
  code_free (code_union cs) h = all_free cs h
  code_free (code_inter cs) h = all_free cs h
  code_free (code_diff a b) h = (code_free a h.0, code_free b h.1)
  code_free (code_subset a b) h = (code_free a h.0, code_free b h.1)
  code_free (code_card a) h = code_free a h
  code_free (code_slice a b c) h = (code_free a h.0, code_free b h.1, code_free c h.2)
  code_free (code_fresh a b) h = (code_free a h.0, code_free b h.1)
  code_free (code_if t a b) h = (code_free t h.0, code_free a h.1, code_free b h.2)
  code_free (code_let first n a b) h = (code_free a h.0, code_free b h.1)
  code_free (code_solve n arms) h = h

  all_free : (cs : CodeTrees) → HaveNoSolve cs → HaveNoSolve (all_tidied cs)
  all_free no_codes h = tt
  all_free (code_more c cs) h = (code_free c h.0, all_free cs h.1)

item_free : (i : ItemTree) → ItemHasNoSolve i → ItemHasNoSolve (item_tidied i)
item_free (let_item c) h = code_free c h
item_free (need_item c) h = code_free c h

items_free : (is : ItemTrees) → ItemsHaveNoSolve is → ItemsHaveNoSolve (items_tidied is)
items_free no_items h = tt
items_free (item_more i is) h = (item_free i h.0, items_free is h.1)

others_free : (is : ItemTrees) → ItemsHaveNoSolve is → ItemsHaveNoSolve (other_items is)
others_free no_items h = tt
others_free (item_more i is) h = on_bool (always_holds i) (λ e. rw e (others_free is h.1)) (λ e. rw e (h.0, others_free is h.1))

-- ---- types
others_keep : (is : ItemTrees) (scope : List Base) (then : List Base → Type 0) → ItemsHave is scope then → ItemsHave (other_items is) scope then
others_keep no_items scope then h = h
others_keep (item_more (let_item c) is) scope then h = (h.0, h.1, others_keep is (scope ++ one h.0) then h.2)
others_keep (item_more (need_item c) is) scope then h = on_bool (always_holds (need_item c))
    (λ e. rw e (others_keep is scope then h.1))
    (λ e. rw e (h.0, others_keep is scope then h.1))

negation_keeps : (c : CodeTree) → Keeps (code_neg c) (negation c)
negation_keeps (code_lit k) scope asked bs h = either_typed (passes k) (code_neg (code_lit k)) (code_lit (neg_ℤ k)) scope asked bs (λ e. h) (λ e. h.1)
negation_keeps (code_truth t) scope asked bs h = h
negation_keeps (code_var x) scope asked bs h = h
negation_keeps (code_set_of cs) scope asked bs h = h
negation_keeps (code_tuple cs) scope asked bs h = h
negation_keeps (code_sum cs) scope asked bs h = h
negation_keeps (code_sub a b) scope asked bs h = h
negation_keeps (code_mul a b) scope asked bs h = h
negation_keeps (code_neg a) scope asked bs h = (omega arith, (h.0.0, tt), h.1)
negation_keeps (code_div a k) scope asked bs h = h
negation_keeps (code_mod a k) scope asked bs h = h
negation_keeps (code_min cs) scope asked bs h = h
negation_keeps (code_max cs) scope asked bs h = h
negation_keeps (code_compare o a b) scope asked bs h = h
negation_keeps (code_divides k a) scope asked bs h = h
negation_keeps (code_and a b) scope asked bs h = h
negation_keeps (code_or a b) scope asked bs h = h
negation_keeps (code_not a) scope asked bs h = h
negation_keeps (code_union cs) scope asked bs h = h
negation_keeps (code_inter cs) scope asked bs h = h
negation_keeps (code_diff a b) scope asked bs h = h
negation_keeps (code_subset a b) scope asked bs h = h
negation_keeps (code_card a) scope asked bs h = h
negation_keeps (code_slice a b c) scope asked bs h = h
negation_keeps (code_fresh a b) scope asked bs h = h
negation_keeps (code_if t a b) scope asked bs h = h
negation_keeps (code_let first n a b) scope asked bs h = h
negation_keeps (code_solve n arms) scope asked bs h = h

-- a numeral in the place of a product has its base
zero_typed : (b : CodeTree) (scope : List Base) (asked : Option (List Base)) (bs : List Base) → is_zero b ≡ true → IsOne Int asked bs → HasBases b scope asked bs
zero_typed b scope asked bs e o = subst (λ c. HasBases c scope asked bs) (sym (zero_is b e)) o

times_keeps : (a : CodeTree) (o : Option ℤ) (b : CodeTree) → Keeps (code_mul a b) (times a o b)
times_keeps a None b scope asked bs h = h
times_keeps e (Some j) (code_lit k) scope asked bs h = either_typed (is_zero (code_lit k)) (code_lit k) (code_mul e (code_lit k)) scope asked bs
    (λ z. zero_typed (code_lit k) scope asked bs z h.2) (λ z. h)
times_keeps e (Some k) (code_truth t) scope asked bs h = h
times_keeps e (Some k) (code_var x) scope asked bs h = h
times_keeps e (Some k) (code_set_of cs) scope asked bs h = h
times_keeps e (Some k) (code_tuple cs) scope asked bs h = h
times_keeps e (Some k) (code_sum cs) scope asked bs h = h
times_keeps e (Some k) (code_sub a b) scope asked bs h = h
times_keeps e (Some k) (code_mul a b) scope asked bs h = h
times_keeps e (Some k) (code_neg a) scope asked bs h = ((refl, refl), h.1.0, h.2)
times_keeps e (Some j) (code_div a k) scope asked bs h = h
times_keeps e (Some j) (code_mod a k) scope asked bs h = h
times_keeps e (Some k) (code_min cs) scope asked bs h = h
times_keeps e (Some k) (code_max cs) scope asked bs h = h
times_keeps e (Some k) (code_compare o a b) scope asked bs h = h
times_keeps e (Some j) (code_divides k a) scope asked bs h = h
times_keeps e (Some k) (code_and a b) scope asked bs h = h
times_keeps e (Some k) (code_or a b) scope asked bs h = h
times_keeps e (Some k) (code_not a) scope asked bs h = h
times_keeps e (Some k) (code_union cs) scope asked bs h = h
times_keeps e (Some k) (code_inter cs) scope asked bs h = h
times_keeps e (Some k) (code_diff a b) scope asked bs h = h
times_keeps e (Some k) (code_subset a b) scope asked bs h = h
times_keeps e (Some k) (code_card a) scope asked bs h = h
times_keeps e (Some k) (code_slice a b c) scope asked bs h = h
times_keeps e (Some k) (code_fresh a b) scope asked bs h = h
times_keeps e (Some k) (code_if t a b) scope asked bs h = h
times_keeps e (Some k) (code_let first n a b) scope asked bs h = h
times_keeps e (Some k) (code_solve n arms) scope asked bs h = h

product_keeps : (a b : CodeTree) → Keeps (code_mul a b) (product a b)
product_keeps a b scope asked bs h = either_typed (is_minus_one a) (negation b) (times a (opposite a) b) scope asked bs
    (λ e. negation_keeps b scope asked bs (h.1, h.2)) (λ e. times_keeps a (opposite a) b scope asked bs h)

either_have : (t : Bool) (cs ds : CodeTrees) (scope : List Base) (b : Base) → AllHave cs scope b → AllHave ds scope b → AllHave (cond t cs ds) scope b
either_have true cs ds scope b h k = h
either_have false cs ds scope b h k = k

nonzero_have : (cs : CodeTrees) (scope : List Base) (b : Base) → AllHave cs scope b → AllHave (nonzero cs) scope b
nonzero_have no_codes scope b h = tt
nonzero_have (code_more c cs) scope b h =
    either_have (is_zero c) (nonzero cs) (code_more c (nonzero cs)) scope b (nonzero_have cs scope b h.1) (h.0, nonzero_have cs scope b h.1)

numeral_typed : (n : Option ℤ) (cs : CodeTrees) (scope : List Base) (asked : Option (List Base)) (bs : List Base) → 2 ≤ count cs → AllHave cs scope Int →
    IsOne Int asked bs → HasBases (numeral_or n cs) scope asked bs
numeral_typed None cs scope asked bs m h o = (m, h, o)
numeral_typed (Some z) cs scope asked bs m h o = o

sum_typed : (cs : CodeTrees) (scope : List Base) (asked : Option (List Base)) (bs : List Base) → AllHave cs scope Int → IsOne Int asked bs →
    HasBases (sum_of cs) scope asked bs
sum_typed no_codes scope asked bs h o = o
sum_typed (code_more c no_codes) scope asked bs h o = (omega arith, h, o)
sum_typed (code_more c (code_more d cs)) scope asked bs h o =
    numeral_typed (numerals_sum (Some (pos 0)) (code_more c (code_more d cs))) (code_more c (code_more d cs)) scope asked bs (omega arith) h o

other_arms_given : (arms : ArmTrees) (asked : Option (List Base)) (bs : List Base) → are_left arms ≡ false → Meets asked bs → IsGiven (other_arms arms) asked bs
other_arms_given no_arms asked bs t m = cc
other_arms_given (arm_more a arms) asked bs t m = by (is_left a) t (λ u. other_arms_given arms asked bs u m)
  where
    by : (l : Bool) → (l && are_left arms) ≡ false → (are_left arms ≡ false → IsGiven (other_arms arms) asked bs) →
        IsGiven (cond l (other_arms arms) (arm_more a (other_arms arms))) asked bs
    by true t more = more t
    by false t more = m

entered_given : (arms : ArmTrees) (asked : Option (List Base)) (bs : List Base) → IsGiven arms asked bs → IsGiven (entered arms) asked bs
entered_given no_arms asked bs h = h
entered_given (arm_more a arms) asked bs h = by (are_left (arm_more a arms)) (λ t. other_arms_given (arm_more a arms) asked bs t h)
  where
    by : (l : Bool) → (l ≡ false → IsGiven (other_arms (arm_more a arms)) asked bs) →
        IsGiven (cond l (arm_more a arms) (other_arms (arm_more a arms))) asked bs
    by true k = h
    by false k = k refl

either_arms_have : (t : Bool) (arms others : ArmTrees) (scope bs : List Base) → ArmsHave arms scope bs → ArmsHave others scope bs →
    ArmsHave (cond t arms others) scope bs
either_arms_have true arms others scope bs h k = h
either_arms_have false arms others scope bs h k = k

other_arms_have : (arms : ArmTrees) (scope bs : List Base) → ArmsHave arms scope bs → ArmsHave (other_arms arms) scope bs
other_arms_have no_arms scope bs h = tt
other_arms_have (arm_more (arm_of bounds is gs) arms) scope bs h =
    let more = other_arms_have arms scope bs h.4 in
    either_arms_have (is_left (arm_of bounds is gs)) (other_arms arms) (arm_more (arm_of bounds is gs) (other_arms arms)) scope bs more
    (h.0, h.1, h.2, h.3, more)

entered_has : (arms : ArmTrees) (scope bs : List Base) → ArmsHave arms scope bs → ArmsHave (entered arms) scope bs
entered_has arms scope bs h = either_arms_have (are_left arms) arms (other_arms arms) scope bs h (other_arms_have arms scope bs h)

reached_given : (arms : ArmTrees) (asked : Option (List Base)) (bs : List Base) → IsGiven arms asked bs → IsGiven (reached arms) asked bs
reached_given no_arms asked bs h = h
reached_given (arm_more a arms) asked bs h = h

reached_has : (arms : ArmTrees) (scope bs : List Base) → ArmsHave arms scope bs → ArmsHave (reached arms) scope bs
reached_has no_arms scope bs h = tt
reached_has (arm_more (arm_of bounds is gs) arms) scope bs h = (h.0, h.1, h.2, h.3, more (always_gives (arm_of bounds is gs)) (reached_has arms scope bs h.4))
  where
    more : (t : Bool) → ArmsHave (reached arms) scope bs → ArmsHave (cond t no_arms (reached arms)) scope bs
    more true k = tt
    more false k = k

given_keeps : (arms : ArmTrees) (asked : Option (List Base)) (bs : List Base) → IsGiven arms asked bs → IsGiven (arms_tidied arms) asked bs
given_keeps no_arms asked bs h = h
given_keeps (arm_more a arms) asked bs h = h

-- what is known of each item
abbrev EachKeeps : ItemTrees → Type 0
EachKeeps no_items = Unit {0}
EachKeeps (item_more (let_item c) is) = Keeps c (tidied c) × EachKeeps is
EachKeeps (item_more (need_item c) is) = Keeps c (tidied c) × EachKeeps is

items_keep : (is : ItemTrees) → EachKeeps is → (scope : List Base) (before after : List Base → Type 0) →
    ((inner : List Base) → before inner → after inner) → ItemsHave is scope before → ItemsHave (items_tidied is) scope after
items_keep no_items each scope before after k h = k scope h
items_keep (item_more (let_item c) is) each scope before after k h =
    (h.0, each.0 scope None (one h.0) h.1, items_keep is each.1 (scope ++ one h.0) before after k h.2)
items_keep (item_more (need_item c) is) each scope before after k h =
    (each.0 scope (ask Truth) (one Truth) h.0, items_keep is each.1 scope before after k h.1)

mutual
  pub tidied_keeps : (c : CodeTree) → Keeps c (tidied c)
  tidied_keeps (code_lit k) scope asked bs h = h
  tidied_keeps (code_truth t) scope asked bs h = h
  tidied_keeps (code_var x) scope asked bs h = h
  tidied_keeps (code_set_of cs) scope asked bs h = (all_keep cs scope Int h.0, h.1)
  tidied_keeps (code_tuple cs) scope asked bs h = (at_least 2 cs h.0, parts_keep cs scope asked bs h.1, h.2)
  tidied_keeps (code_sum cs) scope asked bs h =
      sum_typed (nonzero (all_tidied cs)) scope asked bs (nonzero_have (all_tidied cs) scope Int (all_keep cs scope Int h.1)) h.2
  tidied_keeps (code_sub a b) scope asked bs h = (tidied_keeps a scope (ask Int) (one Int) h.0, tidied_keeps b scope (ask Int) (one Int) h.1, h.2)
  tidied_keeps (code_mul a b) scope asked bs h = product_keeps (tidied a) (tidied b) scope asked bs
      (tidied_keeps a scope (ask Int) (one Int) h.0, tidied_keeps b scope (ask Int) (one Int) h.1, h.2)
  tidied_keeps (code_neg a) scope asked bs h = negation_keeps (tidied a) scope asked bs (tidied_keeps a scope (ask Int) (one Int) h.0, h.1)
  tidied_keeps (code_div a k) scope asked bs h = (h.0, tidied_keeps a scope (ask Int) (one Int) h.1, h.2)
  tidied_keeps (code_mod a k) scope asked bs h = (h.0, tidied_keeps a scope (ask Int) (one Int) h.1, h.2)
  tidied_keeps (code_min cs) scope asked bs h = (at_least 1 cs h.0, all_keep cs scope Int h.1, h.2)
  tidied_keeps (code_max cs) scope asked bs h = (at_least 1 cs h.0, all_keep cs scope Int h.1, h.2)
  tidied_keeps (code_compare o a b) scope asked bs h = (h.0, h.1, tidied_keeps a scope (side o) (one h.0) h.2, tidied_keeps b scope (side o) (one h.0) h.3, h.4)
  tidied_keeps (code_divides k a) scope asked bs h = (h.0, tidied_keeps a scope (ask Int) (one Int) h.1, h.2)
  tidied_keeps (code_and a b) scope asked bs h = (tidied_keeps a scope (ask Truth) (one Truth) h.0, tidied_keeps b scope (ask Truth) (one Truth) h.1, h.2)
  tidied_keeps (code_or a b) scope asked bs h = (tidied_keeps a scope (ask Truth) (one Truth) h.0, tidied_keeps b scope (ask Truth) (one Truth) h.1, h.2)
  tidied_keeps (code_not a) scope asked bs h = (tidied_keeps a scope (ask Truth) (one Truth) h.0, h.1)
  tidied_keeps (code_union cs) scope asked bs h = (at_least 2 cs h.0, all_keep cs scope Set h.1, h.2)
  tidied_keeps (code_inter cs) scope asked bs h = (at_least 2 cs h.0, all_keep cs scope Set h.1, h.2)
  tidied_keeps (code_diff a b) scope asked bs h = (tidied_keeps a scope (ask Set) (one Set) h.0, tidied_keeps b scope (ask Set) (one Set) h.1, h.2)
  tidied_keeps (code_subset a b) scope asked bs h = (tidied_keeps a scope (ask Set) (one Set) h.0, tidied_keeps b scope (ask Set) (one Set) h.1, h.2)
  tidied_keeps (code_card a) scope asked bs h = (tidied_keeps a scope (ask Set) (one Set) h.0, h.1)
  tidied_keeps (code_slice a b c) scope asked bs h = (tidied_keeps a scope (ask Set) (one Set) h.0, tidied_keeps b scope (ask Int) (one Int) h.1, tidied_keeps c scope (ask Int) (one Int) h.2, h.3)
  tidied_keeps (code_fresh a b) scope asked bs h = (tidied_keeps a scope (ask Set) (one Set) h.0, tidied_keeps b scope (ask Int) (one Int) h.1, h.2)
  tidied_keeps (code_if t a b) scope asked bs h = (tidied_keeps t scope (ask Truth) (one Truth) h.0, tidied_keeps a scope asked bs h.1, tidied_keeps b scope asked bs h.2)
  tidied_keeps (code_let first n a b) scope asked bs h = (h.0, tidied_keeps a scope None h.0 h.1, h.2, h.3, tidied_keeps b (scope ++ h.0) asked bs h.4)
  tidied_keeps (code_solve n arms) scope asked bs h = (
    reached_given (entered (arms_tidied arms)) asked bs (entered_given (arms_tidied arms) asked bs (given_keeps arms asked bs h.0)),
    reached_has (entered (arms_tidied arms)) scope bs (entered_has (arms_tidied arms) scope bs (arms_keep arms scope bs h.1)),
  )

  all_keep : (cs : CodeTrees) (scope : List Base) (b : Base) → AllHave cs scope b → AllHave (all_tidied cs) scope b
  all_keep no_codes scope b h = tt
  all_keep (code_more c cs) scope b h = (tidied_keeps c scope (ask b) (one b) h.0, all_keep cs scope b h.1)

  parts_keep : (cs : CodeTrees) (scope : List Base) (asked : Option (List Base)) (bs : List Base) → PartsHave cs scope asked bs →
      PartsHave (all_tidied cs) scope asked bs
  parts_keep no_codes scope asked bs h = h
  parts_keep (code_more c cs) scope asked bs h =
      (h.0, h.1, h.2, tidied_keeps c scope (share asked h.0) (one h.0) h.3, parts_keep cs scope asked h.1 h.4)

  each_keeps : (is : ItemTrees) → EachKeeps is
  each_keeps no_items = tt
  each_keeps (item_more (let_item c) is) = (tidied_keeps c, each_keeps is)
  each_keeps (item_more (need_item c) is) = (tidied_keeps c, each_keeps is)

  arms_keep : (arms : ArmTrees) (scope bs : List Base) → ArmsHave arms scope bs → ArmsHave (arms_tidied arms) scope bs
  arms_keep no_arms scope bs h = tt
  arms_keep (arm_more (arm_of bounds is gs) arms) scope bs h = (
    h.0,
    others_free (items_tidied is) (items_free is h.1),
    all_free gs h.2,
    others_keep (items_tidied is) (scope ++ map (λ _. Int) bounds) (λ inner. PartsHave (all_tidied gs) inner None bs)
        (items_keep is (each_keeps is) (scope ++ map (λ _. Int) bounds) (λ inner. PartsHave gs inner None bs)
        (λ inner. PartsHave (all_tidied gs) inner None bs) (λ inner. parts_keep gs inner None bs) h.3),
    arms_keep arms scope bs h.4,
  )

pub tidied_keeps_types : (rs : List Range) (c : CodeTree) → KeepsTypes rs c (tidied c)
tidied_keeps_types rs c scope asked bs e h = tidied_keeps c scope asked bs h

-- ---- one after another
pub both_keep : (rs : List Range) (a b c : CodeTree) → KeepsTypes rs a b → KeepsTypes rs b c → KeepsTypes rs a c
both_keep rs a b c h k scope asked bs e t = k scope asked bs e (h scope asked bs e t)

pub once_keeps : (rs : List Range) (a b c : CodeTree) → b ≡ settled rs a → c ≡ tidied b → KeepsTypes rs a c
once_keeps rs a b c e f = both_keep rs a b c (subst (KeepsTypes rs a) (sym e) (settled_keeps_types rs a)) (subst (KeepsTypes rs b) (sym f) (tidied_keeps_types rs b))
