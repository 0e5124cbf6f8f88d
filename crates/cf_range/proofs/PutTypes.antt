-- A value in the place of a variable keeps the types of a code.
use Rattle.std.proofs.Common.{◌≡◌, ℕ, ◌+◌, ◌-◌, ◌<◌, ◌≤◌, nat_eq, Bool, true, false, cond, Option, Some, None, List, ◌∷◌, ◌++◌, length, map, slice_get, length-append, refl, sym, ap, subst, ◌∙◌, arith}
use Rattle.std.proofs.lemmas.List.{append_assoc}
use Rattle.cf_tree.specs.declared.base.Base.{Base}
use Rattle.cf_tree.specs.declared.base.Base.TheVariants.{Int, Bool as Truth, Set}
use Rattle.cf_tree.specs.CodeTree.{CodeTree, code_lit, code_truth, code_var, code_set_of, code_tuple, code_sum, code_sub, code_mul, code_neg, code_div, code_mod, code_min, code_max, code_compare, code_divides, code_and, code_or, code_not, code_union, code_inter, code_diff, code_subset, code_card, code_slice, code_fresh, code_if, code_let, code_solve, CodeTrees, no_codes, code_more, let_item, need_item, ItemTrees, no_items, item_more, arm_of, ArmTrees, no_arms, arm_more, count}
use Rattle.cf_tree.specs.Typing.{HasBases, AllHave, PartsHave, ItemsHave, ArmsHave, HasNoSolve, HaveNoSolve, ItemsHaveNoSolve, IsGiven, Meets, ask, one, share, side}
use Rattle.cf_range.specs.Put.{fallen, var_put, put, all_put, items_put, arms_put}
use Rattle.cf_range.proofs.PutLaws.{eq_means, not_means, fallen_above, get_fallen, get_here}

pub count_put : (x : ℕ) (v : CodeTree) (cs : CodeTrees) → count (all_put x v cs) ≡ count cs
count_put x v no_codes = refl
count_put x v (code_more c cs) = ap (λ n. 1 + n) (count_put x v cs)

-- ---- one or another
pub either_free : (t : Bool) (a b : CodeTree) → HasNoSolve a → HasNoSolve b → HasNoSolve (cond t a b)
either_free true a b h k = h
either_free false a b h k = k

pub either_typed : (t : Bool) (a b : CodeTree) (scope : List Base) (asked : Option (List Base)) (bs : List Base) →
    (t ≡ true → HasBases a scope asked bs) → (t ≡ false → HasBases b scope asked bs) → HasBases (cond t a b) scope asked bs
either_typed true a b scope asked bs h k = h refl
either_typed false a b scope asked bs h k = k refl

-- ---- no solve is new
module _ (x : ℕ) (v : CodeTree) (free : HasNoSolve v) where
  mutual
    pub put_free : (c : CodeTree) → HasNoSolve c → HasNoSolve (put x v c)
    put_free (code_lit k) h = tt
    put_free (code_truth u) h = tt
    put_free (code_var y) h = either_free (nat_eq x y) v (code_var (fallen x y)) free tt
    put_free (code_set_of cs) h = all_put_free cs h
    put_free (code_tuple cs) h = all_put_free cs h
    put_free (code_sum cs) h = all_put_free cs h
    put_free (code_sub a b) h = (put_free a h.0, put_free b h.1)
    put_free (code_mul a b) h = (put_free a h.0, put_free b h.1)
    put_free (code_neg a) h = put_free a h
    put_free (code_div a k) h = put_free a h
    put_free (code_mod a k) h = put_free a h
    put_free (code_min cs) h = all_put_free cs h
    put_free (code_max cs) h = all_put_free cs h
    put_free (code_compare o a b) h = (put_free a h.0, put_free b h.1)
    put_free (code_divides k a) h = put_free a h
    put_free (code_and a b) h = (put_free a h.0, put_free b h.1)
    put_free (code_or a b) h = (put_free a h.0, put_free b h.1)
    put_free (code_not a) h = put_free a h
    put_free (code_union cs) h = all_put_free cs h
    put_free (code_inter cs) h = all_put_free cs h
    put_free (code_diff a b) h = (put_free a h.0, put_free b h.1)
    put_free (code_subset a b) h = (put_free a h.0, put_free b h.1)
    put_free (code_card a) h = put_free a h
    put_free (code_slice a b c) h = (put_free a h.0, put_free b h.1, put_free c h.2)
    put_free (code_fresh a b) h = (put_free a h.0, put_free b h.1)
    put_free (code_if s a b) h = (put_free s h.0, put_free a h.1, put_free b h.2)
    put_free (code_let first k a b) h = (put_free a h.0, put_free b h.1)
    put_free (code_solve k arms) h = absurd h

    pub all_put_free : (cs : CodeTrees) → HaveNoSolve cs → HaveNoSolve (all_put x v cs)
    all_put_free no_codes h = tt
    all_put_free (code_more c cs) h = (put_free c h.0, all_put_free cs h.1)

  pub items_put_free : (is : ItemTrees) → ItemsHaveNoSolve is → ItemsHaveNoSolve (items_put x v is)
  items_put_free no_items h = tt
  items_put_free (item_more (let_item c) is) h = (put_free c h.0, items_put_free is h.1)
  items_put_free (item_more (need_item c) is) h = (put_free c h.0, items_put_free is h.1)

given_put : (x : ℕ) (v : CodeTree) (arms : ArmTrees) (asked : Option (List Base)) (bs : List Base) → IsGiven arms asked bs →
    IsGiven (arms_put x v arms) asked bs
given_put x v no_arms asked bs h = h
given_put x v (arm_more a arms) asked bs h = h

some_same : (b d : Base) → Some b ≡ Some d → b ≡ d
some_same b d e = cc

-- ---- types. `stands` says that the value has its base wherever it is asked, whatever is bound behind it.
module _ (front : List Base) (b : Base) (v : CodeTree) (free : HasNoSolve v)
    (stands : (back : List Base) (asked : Option (List Base)) → Meets asked (one b) → HasBases v (front ++ back) asked (one b)) where
  long : (back : List Base) → length (front ++ back) ≡ fallen (length front) (length (front ++ b ∷ back))
  long back =
      let l = length-append front back in
      let m = length-append front (b ∷ back) in
      let h : length front < length (front ++ b ∷ back) = omega (arith, m) in
      let k : length (front ++ back) ≡ length (front ++ b ∷ back) - 1 = omega (arith, l, m) in
      k ∙ sym (fallen_above (length front) (length (front ++ b ∷ back)) h)

  at_least : (k : ℕ) (cs : CodeTrees) → k ≤ count cs → k ≤ count (all_put (length front) v cs)
  at_least k cs h = subst (λ n. k ≤ n) (sym (count_put (length front) v cs)) h

  var_typed : (y : ℕ) (back : List Base) (asked : Option (List Base)) (bs : List Base) → HasBases (code_var y) (front ++ b ∷ back) asked bs →
      HasBases (var_put (length front) v y) (front ++ back) asked bs
  var_typed y back asked bs h = either_typed (nat_eq (length front) y) v (code_var (fallen (length front) y)) (front ++ back) asked bs
      (λ e.
      let i : slice_get (front ++ b ∷ back) y ≡ Some b =
      subst (λ z. slice_get (front ++ b ∷ back) z ≡ Some b) (eq_means (length front) y e) (get_here front b back) in
      let given : bs ≡ one b = h.2.0 ∙ ap one (some_same h.0 b (sym h.1 ∙ i)) in
      subst (λ ds. HasBases v (front ++ back) asked ds) (sym given) (stands back asked (subst (λ ds. Meets asked ds) given h.2.1)))
      (λ e. (h.0, get_fallen front b back y (not_means (length front) y e) ∙ h.1, h.2))

  -- behind more values
  above : (d : CodeTree) (back more : List Base) (asked : Option (List Base)) (bs : List Base) → HasBases d ((front ++ b ∷ back) ++ more) asked bs →
      HasBases d (front ++ b ∷ (back ++ more)) asked bs
  above d back more asked bs h = subst (λ sc. HasBases d sc asked bs) (append_assoc front (b ∷ back) more) h

  deeper : (d : CodeTree) (back more : List Base) (asked : Option (List Base)) (bs : List Base) → HasBases d (front ++ (back ++ more)) asked bs →
      HasBases d ((front ++ back) ++ more) asked bs
  deeper d back more asked bs h = subst (λ sc. HasBases d sc asked bs) (sym (append_assoc front back more)) h

  items_above : (is : ItemTrees) (gs : CodeTrees) (back more bs : List Base) → ItemsHave is ((front ++ b ∷ back) ++ more) (λ inner. PartsHave gs inner None bs) →
      ItemsHave is (front ++ b ∷ (back ++ more)) (λ inner. PartsHave gs inner None bs)
  items_above is gs back more bs h = subst (λ sc. ItemsHave is sc (λ inner. PartsHave gs inner None bs)) (append_assoc front (b ∷ back) more) h

  items_deeper : (is : ItemTrees) (gs : CodeTrees) (back more bs : List Base) → ItemsHave is (front ++ (back ++ more)) (λ inner. PartsHave gs inner None bs) →
      ItemsHave is ((front ++ back) ++ more) (λ inner. PartsHave gs inner None bs)
  items_deeper is gs back more bs h = subst (λ sc. ItemsHave is sc (λ inner. PartsHave gs inner None bs)) (sym (append_assoc front back more)) h

  mutual
    pub put_typed : (c : CodeTree) (back : List Base) (asked : Option (List Base)) (bs : List Base) →
        HasBases c (front ++ b ∷ back) asked bs → HasBases (put (length front) v c) (front ++ back) asked bs
    put_typed (code_lit k) back asked bs h = h
    put_typed (code_truth u) back asked bs h = h
    put_typed (code_var y) back asked bs h = var_typed y back asked bs h
    put_typed (code_set_of cs) back asked bs h = (all_typed cs back Int h.0, h.1)
    put_typed (code_tuple cs) back asked bs h = (at_least 2 cs h.0, parts_typed cs back asked bs h.1, h.2)
    put_typed (code_sum cs) back asked bs h = (at_least 2 cs h.0, all_typed cs back Int h.1, h.2)
    put_typed (code_sub a d) back asked bs h = (put_typed a back (ask Int) (one Int) h.0, put_typed d back (ask Int) (one Int) h.1, h.2)
    put_typed (code_mul a d) back asked bs h = (put_typed a back (ask Int) (one Int) h.0, put_typed d back (ask Int) (one Int) h.1, h.2)
    put_typed (code_neg a) back asked bs h = (put_typed a back (ask Int) (one Int) h.0, h.1)
    put_typed (code_div a k) back asked bs h = (h.0, put_typed a back (ask Int) (one Int) h.1, h.2)
    put_typed (code_mod a k) back asked bs h = (h.0, put_typed a back (ask Int) (one Int) h.1, h.2)
    put_typed (code_min cs) back asked bs h = (at_least 1 cs h.0, all_typed cs back Int h.1, h.2)
    put_typed (code_max cs) back asked bs h = (at_least 1 cs h.0, all_typed cs back Int h.1, h.2)
    put_typed (code_compare o a d) back asked bs h = (h.0, h.1, put_typed a back (side o) (one h.0) h.2, put_typed d back (side o) (one h.0) h.3, h.4)
    put_typed (code_divides k a) back asked bs h = (h.0, put_typed a back (ask Int) (one Int) h.1, h.2)
    put_typed (code_and a d) back asked bs h = (put_typed a back (ask Truth) (one Truth) h.0, put_typed d back (ask Truth) (one Truth) h.1, h.2)
    put_typed (code_or a d) back asked bs h = (put_typed a back (ask Truth) (one Truth) h.0, put_typed d back (ask Truth) (one Truth) h.1, h.2)
    put_typed (code_not a) back asked bs h = (put_typed a back (ask Truth) (one Truth) h.0, h.1)
    put_typed (code_union cs) back asked bs h = (at_least 2 cs h.0, all_typed cs back Set h.1, h.2)
    put_typed (code_inter cs) back asked bs h = (at_least 2 cs h.0, all_typed cs back Set h.1, h.2)
    put_typed (code_diff a d) back asked bs h = (put_typed a back (ask Set) (one Set) h.0, put_typed d back (ask Set) (one Set) h.1, h.2)
    put_typed (code_subset a d) back asked bs h = (put_typed a back (ask Set) (one Set) h.0, put_typed d back (ask Set) (one Set) h.1, h.2)
    put_typed (code_card a) back asked bs h = (put_typed a back (ask Set) (one Set) h.0, h.1)
    put_typed (code_slice a d c) back asked bs h = (put_typed a back (ask Set) (one Set) h.0, put_typed d back (ask Int) (one Int) h.1, put_typed c back (ask Int) (one Int) h.2, h.3)
    put_typed (code_fresh a d) back asked bs h = (put_typed a back (ask Set) (one Set) h.0, put_typed d back (ask Int) (one Int) h.1, h.2)
    put_typed (code_if s a d) back asked bs h = (put_typed s back (ask Truth) (one Truth) h.0, put_typed a back asked bs h.1, put_typed d back asked bs h.2)
    put_typed (code_let first k a d) back asked bs h = (
      h.0,
      put_typed a back None h.0 h.1,
      ap (fallen (length front)) h.2 ∙ sym (long back),
      h.3,
      deeper (put (length front) v d) back h.0 asked bs (put_typed d (back ++ h.0) asked bs (above d back h.0 asked bs h.4)),
    )
    put_typed (code_solve k arms) back asked bs h = (given_put (length front) v arms asked bs h.0, arms_typed arms back bs h.1)

    all_typed : (cs : CodeTrees) (back : List Base) (k : Base) → AllHave cs (front ++ b ∷ back) k → AllHave (all_put (length front) v cs) (front ++ back) k
    all_typed no_codes back k h = tt
    all_typed (code_more c cs) back k h = (put_typed c back (ask k) (one k) h.0, all_typed cs back k h.1)

    pub parts_typed : (cs : CodeTrees) (back : List Base) (asked : Option (List Base)) (bs : List Base) → PartsHave cs (front ++ b ∷ back) asked bs →
        PartsHave (all_put (length front) v cs) (front ++ back) asked bs
    parts_typed no_codes back asked bs h = h
    parts_typed (code_more c cs) back asked bs h =
        (h.0, h.1, h.2, put_typed c back (share asked h.0) (one h.0) h.3, parts_typed cs back asked h.1 h.4)

    items_put_typed : (is : ItemTrees) (gs hs : CodeTrees) (bs : List Base) →
        ((back : List Base) → PartsHave gs (front ++ b ∷ back) None bs → PartsHave hs (front ++ back) None bs) → (back : List Base) →
        ItemsHave is (front ++ b ∷ back) (λ inner. PartsHave gs inner None bs) →
        ItemsHave (items_put (length front) v is) (front ++ back) (λ inner. PartsHave hs inner None bs)
    items_put_typed no_items gs hs bs k back h = k back h
    items_put_typed (item_more (let_item c) is) gs hs bs k back h = (
      h.0,
      put_typed c back None (one h.0) h.1,
      items_deeper (items_put (length front) v is) hs back (one h.0) bs (items_put_typed is gs hs bs k (back ++ one h.0) (items_above is gs back (one h.0) bs h.2)),
    )
    items_put_typed (item_more (need_item c) is) gs hs bs k back h =
        (put_typed c back (ask Truth) (one Truth) h.0, items_put_typed is gs hs bs k back h.1)

    arms_typed : (arms : ArmTrees) (back bs : List Base) → ArmsHave arms (front ++ b ∷ back) bs → ArmsHave (arms_put (length front) v arms) (front ++ back) bs
    arms_typed no_arms back bs h = tt
    arms_typed (arm_more (arm_of bounds is gs) arms) back bs h = (
      h.0,
      items_put_free (length front) v free is h.1,
      all_put_free (length front) v free gs h.2,
      items_deeper (items_put (length front) v is) (all_put (length front) v gs) back (map (λ _. Int) bounds) bs
          (items_put_typed is gs (all_put (length front) v gs) bs (λ inner p. parts_typed gs inner None bs p) (back ++ map (λ _. Int) bounds)
          (items_above is gs back (map (λ _. Int) bounds) bs h.3)),
      arms_typed arms back bs h.4,
    )

  pub items_typed : (is : ItemTrees) (gs : CodeTrees) (back bs : List Base) → ItemsHave is (front ++ b ∷ back) (λ inner. PartsHave gs inner None bs) →
      ItemsHave (items_put (length front) v is) (front ++ back) (λ inner. PartsHave (all_put (length front) v gs) inner None bs)
  items_typed is gs back bs h = items_put_typed is gs (all_put (length front) v gs) bs (λ inner p. parts_typed gs inner None bs p) back h
