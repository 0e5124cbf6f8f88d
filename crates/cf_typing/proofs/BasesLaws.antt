-- The walk finds the bases that a code has at its place, and finds none where it has none.
use Rattle.std.proofs.Common.{◌≡◌, ℕ, Option, Some, None, List, [], ◌∷◌, ◌++◌, length, map, slice_get, refl, sym, ap, ◌∙◌, subst, arith, append_assoc}
use Rattle.std.proofs.lemmas.List.{append-nil}
use Rattle.cf_tree.specs.declared.base.Base.{Base}
use Rattle.cf_tree.specs.declared.base.Base.TheVariants.{Int, Bool as Truth, Set}
use Rattle.cf_tree.specs.CodeTree.{CodeTree, code_lit, code_truth, code_var, code_set_of, code_tuple, code_sum, code_sub, code_mul, code_neg, code_div, code_mod, code_min, code_max, code_compare, code_divides, code_and, code_or, code_not, code_union, code_inter, code_diff, code_subset, code_card, code_slice, code_fresh, code_if, code_let, code_solve, CodeTrees, no_codes, code_more, let_item, need_item, ItemTrees, no_items, item_more, arm_of, ArmTrees, no_arms, arm_more, count}
use Rattle.cf_tree.specs.Typing.{Meets, IsGiven, AreBounds, ItemsHaveNoSolve, HaveNoSolve, HasBases, AllHave, PartsHave, ItemsHave, ArmsHave, one, ask, side}
use Rattle.cf_typing.specs.Bases.{then_found, after_found, done, single, again, bound, at_least, as_many, divides, plain, bases_of, all_have, parts_of, parts_have, items_scope, inner_bases, arms_bases, arms_give, arm_bases}
use Rattle.cf_typing.proofs.Steps.{IsFound, after_both, then_both, placed_both, one_both, variable_both, after_one_both, after_two_both, after_three_both, single_both, compared_both, again_both, bound_both, at_least_both, as_many_both, divides_both}
use Rattle.cf_typing.proofs.PlainLaws.{plain_both}

given_meets : (arms : ArmTrees) (asked : Option (List Base)) (bs : List Base) → IsGiven arms asked bs → Meets asked bs
given_meets no_arms asked bs h = rw h refl
given_meets (arm_more a arms) asked bs h = h

-- what a code has is what its place asks
meets : (c : CodeTree) (scope : List Base) (asked : Option (List Base)) (bs : List Base) → HasBases c scope asked bs → Meets asked bs
meets (code_lit k) scope asked bs h = h.1
meets (code_truth t) scope asked bs h = h.1
meets (code_var x) scope asked bs h = h.2.1
meets (code_set_of cs) scope asked bs h = h.1.1
meets (code_tuple cs) scope asked bs h = h.2
meets (code_sum cs) scope asked bs h = h.2.1
meets (code_sub a b) scope asked bs h = h.2.1
meets (code_mul a b) scope asked bs h = h.2.1
meets (code_neg a) scope asked bs h = h.1.1
meets (code_div a k) scope asked bs h = h.2.1
meets (code_mod a k) scope asked bs h = h.2.1
meets (code_min cs) scope asked bs h = h.2.1
meets (code_max cs) scope asked bs h = h.2.1
meets (code_compare o a b) scope asked bs h = h.4.1
meets (code_divides k a) scope asked bs h = h.2.1
meets (code_and a b) scope asked bs h = h.2.1
meets (code_or a b) scope asked bs h = h.2.1
meets (code_not a) scope asked bs h = h.1.1
meets (code_union cs) scope asked bs h = h.2.1
meets (code_inter cs) scope asked bs h = h.2.1
meets (code_diff a b) scope asked bs h = h.2.1
meets (code_subset a b) scope asked bs h = h.2.1
meets (code_card a) scope asked bs h = h.1.1
meets (code_slice a b c) scope asked bs h = h.3.1
meets (code_fresh a b) scope asked bs h = h.2.1
meets (code_if t a b) scope asked bs h = meets a scope asked bs h.1
meets (code_let first n a b) scope asked bs h = meets b (scope ++ h.0) asked bs h.4
meets (code_solve n arms) scope asked bs h = given_meets arms asked bs h.0

abbrev Finds : CodeTree → List Base → Option (List Base) → Type 0
Finds c scope asked = (bs : List Base) → bases_of c scope asked ≡ Some bs → HasBases c scope asked bs

-- what is found where these bases are asked
asked_has : (c : CodeTree) (scope asked : List Base) → Finds c scope (Some asked) → IsFound (bases_of c scope (Some asked)) →
    HasBases c scope (Some asked) asked
asked_has c scope asked f h =
    let k : HasBases c scope (Some asked) h.0 = f h.0 h.1 in
    subst (λ bs. HasBases c scope (Some asked) bs) (sym (meets c scope (Some asked) h.0 k)) k

done_found : IsFound done
done_found = (tt, refl)

none_more : (before bs : List Base) → before ≡ bs → bs ≡ before ++ []
none_more before bs e = sym e ∙ sym (append-nil before)

longer : (before bs : List Base) (b : Base) (rest : List Base) → bs ≡ (before ++ one b) ++ rest → bs ≡ before ++ b ∷ rest
longer before bs b rest e = rw e (simp append_assoc)

parts_alone : (cs : CodeTrees) (scope bs : List Base) → (rest : List Base) × (bs ≡ [] ++ rest) × PartsHave cs scope None rest → PartsHave cs scope None bs
parts_alone cs scope bs p = subst (λ rest. PartsHave cs scope None rest) (sym p.1) p.2

arm_both : (bounds : List ℕ) (is : ItemTrees) (gs : CodeTrees) (scope bs : List Base) → arm_bases (arm_of bounds is gs) scope ≡ Some bs →
    ((inner : List Base) → items_scope is (scope ++ map (λ _. Int) bounds) ≡ Some inner → PartsHave gs inner None bs →
    ItemsHave is (scope ++ map (λ _. Int) bounds) (λ inner. PartsHave gs inner None bs)) →
    ((inner : List Base) → parts_of gs inner [] ≡ Some bs → PartsHave gs inner None bs) →
    AreBounds bounds × ItemsHaveNoSolve is × HaveNoSolve gs × ItemsHave is (scope ++ map (λ _. Int) bounds) (λ inner. PartsHave gs inner None bs)
arm_both bounds is gs scope bs e items parts =
    let p = after_both (plain (arm_of bounds is gs)) (inner_bases (arm_of bounds is gs) (scope ++ map (λ _. Int) bounds)) bs e in
    let q = then_both (items_scope is (scope ++ map (λ _. Int) bounds)) (λ inner. parts_of gs inner []) bs p.1 in
    let k = plain_both bounds is gs p.0 in
    (k.0, k.1, k.2, items q.0 q.1 (parts q.0 q.2))

if_both : (t a b : CodeTree) (scope : List Base) (bs : List Base) → bases_of (code_if t a b) scope None ≡ Some bs →
    IsFound (bases_of t scope (ask Truth)) × (bases_of a scope None ≡ Some bs) × (bases_of b scope None ≡ Some bs)
if_both t a b scope bs e =
    let p = after_both (bases_of t scope (ask Truth)) (then_found (bases_of a scope None) (λ cs. after_found (again cs (bases_of b scope None)) (Some cs))) bs e
    in
    let q = then_both (bases_of a scope None) (λ cs. after_found (again cs (bases_of b scope None)) (Some cs)) bs p.1 in
    let r = after_both (again q.0 (bases_of b scope None)) (Some q.0) bs q.2 in
    (p.0, q.1 ∙ r.1, again_both q.0 (bases_of b scope None) r.0 ∙ r.1)

mutual
  pub found : (c : CodeTree) (scope : List Base) (asked : Option (List Base)) (bs : List Base) → bases_of c scope asked ≡ Some bs → HasBases c scope asked bs
  found (code_lit k) scope asked bs e = one_both Int asked bs e
  found (code_truth t) scope asked bs e = one_both Truth asked bs e
  found (code_var x) scope asked bs e = variable_both asked (slice_get scope x) bs e
  found (code_set_of cs) scope asked bs e =
      let p = after_two_both asked Set bs (at_least 0 cs) (all_have cs scope Int) e in (all_found cs scope Int p.1, p.2)
  found (code_tuple cs) scope None bs e =
      let p = after_both (at_least 2 cs) (parts_of cs scope []) bs e in
      let q = parts_found cs scope [] bs p.1 in
      (at_least_both 2 cs p.0, subst (λ rest. PartsHave cs scope None rest) (sym q.1) q.2, tt)
  found (code_tuple cs) scope (Some asked) bs e =
      let p = after_both (at_least 2 cs) (after_found (as_many cs asked) (after_found (parts_have cs scope asked) (Some asked))) bs e in
      let q = after_both (as_many cs asked) (after_found (parts_have cs scope asked) (Some asked)) bs p.1 in
      let r = after_both (parts_have cs scope asked) (Some asked) bs q.1 in
      let same : asked ≡ bs = cc r.1 in (
        at_least_both 2 cs p.0,
        subst (λ rest. PartsHave cs scope (Some asked) rest) same (parts_asked cs scope asked asked r.0 (as_many_both cs asked q.0)),
        same,
      )
  found (code_sum cs) scope asked bs e =
      let p = after_two_both asked Int bs (at_least 2 cs) (all_have cs scope Int) e in (at_least_both 2 cs p.0, all_found cs scope Int p.1, p.2)
  found (code_sub a b) scope asked bs e =
      let p = after_two_both asked Int bs (bases_of a scope (ask Int)) (bases_of b scope (ask Int)) e in
      (asked_has a scope (one Int) (found a scope (ask Int)) p.0, asked_has b scope (one Int) (found b scope (ask Int)) p.1, p.2)
  found (code_mul a b) scope asked bs e =
      let p = after_two_both asked Int bs (bases_of a scope (ask Int)) (bases_of b scope (ask Int)) e in
      (asked_has a scope (one Int) (found a scope (ask Int)) p.0, asked_has b scope (one Int) (found b scope (ask Int)) p.1, p.2)
  found (code_neg a) scope asked bs e =
      let p = after_one_both asked Int bs (bases_of a scope (ask Int)) e in (asked_has a scope (one Int) (found a scope (ask Int)) p.0, p.1)
  found (code_div a k) scope asked bs e =
      let p = after_two_both asked Int bs (divides k) (bases_of a scope (ask Int)) e in
      (divides_both k p.0, asked_has a scope (one Int) (found a scope (ask Int)) p.1, p.2)
  found (code_mod a k) scope asked bs e =
      let p = after_two_both asked Int bs (divides k) (bases_of a scope (ask Int)) e in
      (divides_both k p.0, asked_has a scope (one Int) (found a scope (ask Int)) p.1, p.2)
  found (code_min cs) scope asked bs e =
      let p = after_two_both asked Int bs (at_least 1 cs) (all_have cs scope Int) e in (at_least_both 1 cs p.0, all_found cs scope Int p.1, p.2)
  found (code_max cs) scope asked bs e =
      let p = after_two_both asked Int bs (at_least 1 cs) (all_have cs scope Int) e in (at_least_both 1 cs p.0, all_found cs scope Int p.1, p.2)
  found (code_compare o a b) scope asked bs e =
      let p = compared_both asked (bases_of a scope (side o)) (bases_of b scope (side o)) bs e in
      let k : HasBases a scope (side o) (one p.0) = found a scope (side o) (one p.0) p.1 in
      (p.0, meets a scope (side o) (one p.0) k, k, found b scope (side o) (one p.0) p.2, p.3)
  found (code_divides k a) scope asked bs e =
      let p = after_two_both asked Truth bs (divides k) (bases_of a scope (ask Int)) e in
      (divides_both k p.0, asked_has a scope (one Int) (found a scope (ask Int)) p.1, p.2)
  found (code_and a b) scope asked bs e =
      let p = after_two_both asked Truth bs (bases_of a scope (ask Truth)) (bases_of b scope (ask Truth)) e in
      (asked_has a scope (one Truth) (found a scope (ask Truth)) p.0, asked_has b scope (one Truth) (found b scope (ask Truth)) p.1, p.2)
  found (code_or a b) scope asked bs e =
      let p = after_two_both asked Truth bs (bases_of a scope (ask Truth)) (bases_of b scope (ask Truth)) e in
      (asked_has a scope (one Truth) (found a scope (ask Truth)) p.0, asked_has b scope (one Truth) (found b scope (ask Truth)) p.1, p.2)
  found (code_not a) scope asked bs e =
      let p = after_one_both asked Truth bs (bases_of a scope (ask Truth)) e in (asked_has a scope (one Truth) (found a scope (ask Truth)) p.0, p.1)
  found (code_union cs) scope asked bs e =
      let p = after_two_both asked Set bs (at_least 2 cs) (all_have cs scope Set) e in (at_least_both 2 cs p.0, all_found cs scope Set p.1, p.2)
  found (code_inter cs) scope asked bs e =
      let p = after_two_both asked Set bs (at_least 2 cs) (all_have cs scope Set) e in (at_least_both 2 cs p.0, all_found cs scope Set p.1, p.2)
  found (code_diff a b) scope asked bs e =
      let p = after_two_both asked Set bs (bases_of a scope (ask Set)) (bases_of b scope (ask Set)) e in
      (asked_has a scope (one Set) (found a scope (ask Set)) p.0, asked_has b scope (one Set) (found b scope (ask Set)) p.1, p.2)
  found (code_subset a b) scope asked bs e =
      let p = after_two_both asked Truth bs (bases_of a scope (ask Set)) (bases_of b scope (ask Set)) e in
      (asked_has a scope (one Set) (found a scope (ask Set)) p.0, asked_has b scope (one Set) (found b scope (ask Set)) p.1, p.2)
  found (code_card a) scope asked bs e =
      let p = after_one_both asked Int bs (bases_of a scope (ask Set)) e in (asked_has a scope (one Set) (found a scope (ask Set)) p.0, p.1)
  found (code_slice a b c) scope asked bs e =
      let p = after_three_both asked Set bs (bases_of a scope (ask Set)) (bases_of b scope (ask Int)) (bases_of c scope (ask Int)) e in (
        asked_has a scope (one Set) (found a scope (ask Set)) p.0,
        asked_has b scope (one Int) (found b scope (ask Int)) p.1,
        asked_has c scope (one Int) (found c scope (ask Int)) p.2,
        p.3,
      )
  found (code_fresh a b) scope asked bs e =
      let p = after_two_both asked Set bs (bases_of a scope (ask Set)) (bases_of b scope (ask Int)) e in
      (asked_has a scope (one Set) (found a scope (ask Set)) p.0, asked_has b scope (one Int) (found b scope (ask Int)) p.1, p.2)
  found (code_if t a b) scope None bs e =
      let p = if_both t a b scope bs e in (asked_has t scope (one Truth) (found t scope (ask Truth)) p.0, found a scope None bs p.1, found b scope None bs p.2)
  found (code_if t a b) scope (Some asked) bs e =
      let p = after_both (bases_of t scope (ask Truth)) (after_found (bases_of a scope (Some asked)) (bases_of b scope (Some asked))) bs e in
      let q = after_both (bases_of a scope (Some asked)) (bases_of b scope (Some asked)) bs p.1 in
      let k : HasBases b scope (Some asked) bs = found b scope (Some asked) bs q.1 in (
        asked_has t scope (one Truth) (found t scope (ask Truth)) p.0,
        subst (λ cs. HasBases a scope (Some asked) cs) (meets b scope (Some asked) bs k)
            (asked_has a scope asked (found a scope (Some asked)) q.0),
        k,
      )
  found (code_let first n a b) scope asked bs e =
      let p = then_both (bound first n (length scope) (bases_of a scope None)) (λ vs. bases_of b (scope ++ vs) asked) bs e in
      let q = bound_both first n (length scope) (bases_of a scope None) p.0 p.1 in
      (p.0, found a scope None p.0 q.0, q.1, q.2, found b (scope ++ p.0) asked bs p.2)
  found (code_solve n no_arms) scope asked bs e = (e, tt)
  found (code_solve n (arm_more (arm_of bounds is gs) arms)) scope asked bs e =
      let p = placed_both asked (arms_bases (arm_more (arm_of bounds is gs) arms) scope) bs e in
      let q = then_both (arm_bases (arm_of bounds is gs) scope) (λ cs. after_found (arms_give arms scope cs) (Some cs)) bs p.0 in
      let r = after_both (arms_give arms scope q.0) (Some q.0) bs q.2 in
      let same : q.0 ≡ bs = cc r.1 in
      let k = arm_both bounds is gs scope bs (q.1 ∙ r.1) (λ inner i h. items_found is gs bs (scope ++ map (λ _. Int) bounds) inner i h)
      (λ inner h. parts_alone gs inner bs (parts_found gs inner [] bs h)) in
      (p.1, (k.0, k.1, k.2, k.3, subst (λ cs. ArmsHave arms scope cs) same (arms_found arms scope q.0 r.0)))

  all_found : (cs : CodeTrees) (scope : List Base) (b : Base) → IsFound (all_have cs scope b) → AllHave cs scope b
  all_found no_codes scope b h = tt
  all_found (code_more c cs) scope b h =
      let p = after_both (bases_of c scope (ask b)) (all_have cs scope b) h.0 h.1 in
      (asked_has c scope (one b) (found c scope (ask b)) p.0, all_found cs scope b (h.0, p.1))

  parts_found : (cs : CodeTrees) (scope before bs : List Base) → parts_of cs scope before ≡ Some bs →
      (rest : List Base) × (bs ≡ before ++ rest) × PartsHave cs scope None rest
  parts_found no_codes scope before bs e = ([], none_more before bs (cc e), refl)
  parts_found (code_more c cs) scope before bs e =
      let p = then_both (then_found (bases_of c scope None) single) (λ b. parts_of cs scope (before ++ one b)) bs e in
      let q = parts_found cs scope (before ++ one p.0) bs p.2 in
      (p.0 ∷ q.0, longer before bs p.0 q.0 q.1, (p.0, q.0, refl, found c scope None (one p.0) (single_both (bases_of c scope None) p.0 p.1), q.2))

  parts_asked : (cs : CodeTrees) (scope whole bs : List Base) → IsFound (parts_have cs scope bs) → count cs ≡ length bs → PartsHave cs scope (Some whole) bs
  parts_asked no_codes scope whole [] h e = refl
  parts_asked no_codes scope whole (b ∷ bs) h e = absurd (omega (arith, e))
  parts_asked (code_more c cs) scope whole [] h e = absurd (omega (arith, e))
  parts_asked (code_more c cs) scope whole (b ∷ bs) h e =
      let p = after_both (bases_of c scope (ask b)) (parts_have cs scope bs) h.0 h.1 in
      (b, bs, refl, asked_has c scope (one b) (found c scope (ask b)) p.0, parts_asked cs scope whole bs (h.0, p.1) (omega (arith, e)))

  items_found : (is : ItemTrees) (gs : CodeTrees) (bs scope inner : List Base) → items_scope is scope ≡ Some inner → PartsHave gs inner None bs →
      ItemsHave is scope (λ inner. PartsHave gs inner None bs)
  items_found no_items gs bs scope inner e h = let same : scope ≡ inner = cc e in subst (λ s. PartsHave gs s None bs) (sym same) h
  items_found (item_more (let_item c) is) gs bs scope inner e h =
      let p = then_both (then_found (then_found (bases_of c scope None) single) (λ b. Some (scope ++ one b))) (λ next. items_scope is next) inner e in
      let q = then_both (then_found (bases_of c scope None) single) (λ b. Some (scope ++ one b)) p.0 p.1 in
      let same : scope ++ one q.0 ≡ p.0 = cc q.2 in (
        q.0,
        found c scope None (one q.0) (single_both (bases_of c scope None) q.0 q.1),
        items_found is gs bs (scope ++ one q.0) inner
            (ap (items_scope is) same ∙ p.2) h,
      )
  items_found (item_more (need_item c) is) gs bs scope inner e h =
      let p = then_both (after_found (bases_of c scope (ask Truth)) (Some scope)) (λ next. items_scope is next) inner e in
      let q = after_both (bases_of c scope (ask Truth)) (Some scope) p.0 p.1 in
      let same : scope ≡ p.0 = cc q.1 in
      (asked_has c scope (one Truth) (found c scope (ask Truth)) q.0, items_found is gs bs scope inner (ap (items_scope is) same ∙ p.2) h)

  arms_found : (arms : ArmTrees) (scope bs : List Base) → IsFound (arms_give arms scope bs) → ArmsHave arms scope bs
  arms_found no_arms scope bs h = tt
  arms_found (arm_more (arm_of bounds is gs) arms) scope bs h =
      let p = after_both (again bs (arm_bases (arm_of bounds is gs) scope)) (arms_give arms scope bs) h.0 h.1 in
      let k = arm_both bounds is gs scope bs (again_both bs (arm_bases (arm_of bounds is gs) scope) p.0)
      (λ inner i h. items_found is gs bs (scope ++ map (λ _. Int) bounds) inner i h) (λ inner h. parts_alone gs inner bs (parts_found gs inner [] bs h)) in
      (k.0, k.1, k.2, k.3, arms_found arms scope bs (h.0, p.1))
