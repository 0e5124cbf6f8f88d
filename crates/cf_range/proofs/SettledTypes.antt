-- Settling keeps the types of a code.
use Rattle.std.proofs.Common.{◌≡◌, ℕ, zero, suc, ◌+◌, ◌≤◌, nat_eq, Bool, true, false, cond, ◌&&◌, Option, None, List, [], ◌∷◌, ◌++◌, length, map, length-append, refl, sym, ap, subst, ◌∙◌, arith}
use Rattle.cf_tree.specs.declared.base.Base.{Base}
use Rattle.cf_tree.specs.declared.base.Base.TheVariants.{Int, Bool as Truth, Set}
use Rattle.cf_tree.specs.CodeTree.{CodeTree, code_lit, code_truth, code_var, code_set_of, code_tuple, code_sum, code_sub, code_mul, code_neg, code_div, code_mod, code_min, code_max, code_compare, code_divides, code_and, code_or, code_not, code_union, code_inter, code_diff, code_subset, code_card, code_slice, code_fresh, code_if, code_let, code_solve, CodeTrees, no_codes, code_more, let_item, need_item, ItemTrees, no_items, item_more, ArmTree, arm_of, ArmTrees, no_arms, arm_more, count}
use Rattle.cf_tree.specs.Typing.{HasBases, AllHave, PartsHave, ItemsHave, ArmsHave, HasNoSolve, HaveNoSolve, ItemsHaveNoSolve, IsGiven, Meets, ask, one, share, side}
use Rattle.cf_range.specs.declared.range.Range.{Range}
use Rattle.cf_range.specs.Alike.{KeepsTypes}
use Rattle.cf_range.specs.CodeRanges.{range_of}
use Rattle.cf_range.specs.Put.{put}
use Rattle.cf_range.specs.Ranges.{whole}
use Rattle.cf_range.specs.Settled.{gives_so_many, items_bind_one, with_wholes, ranges_with, ranges_behind_all, uses, stands_anywhere, may_go, reads_well, goes, Rest, arm_with, rest_uses, rest_put, behind, let_behind, let_settled, lets_dropped, arm_dropped, settled, all_settled, items_settled, arm_each, arms_settled}
use Rattle.cf_range.specs.Total.{is_total}
use Rattle.cf_range.proofs.ComparisonLaws.{comparison_free, comparison_typed}
use Rattle.cf_range.proofs.PutLaws.{eq_means}
use Rattle.cf_range.proofs.PutTypes.{either_free, either_typed, put_free, all_put_free, items_put_free, put_typed, items_typed}
use Rattle.cf_range.proofs.SetLaws.{slice_free, fresh_free, union_free, slice_typed, fresh_typed, union_typed}
use Rattle.cf_range.proofs.StandsLaws.{stands_free, stands_typed, stands_asked}

and_true : (a b : Bool) → (a && b) ≡ true → (a ≡ true) × (b ≡ true)
and_true true b e = (refl, e)
and_true false b e = cc

append_none : {A : Type 0} (xs : List A) → xs ++ [] ≡ xs
append_none [] = refl
append_none (x ∷ xs) = ap (λ ys. x ∷ ys) (append_none xs)

same_count : (rs : List Range) (cs : CodeTrees) → count cs ≡ count (all_settled rs cs)
same_count rs no_codes = refl
same_count rs (code_more c cs) = ap (λ n. 1 + n) (same_count rs cs)

at_least : (k : ℕ) (rs : List Range) (cs : CodeTrees) → k ≤ count cs → k ≤ count (all_settled rs cs)
at_least k rs cs h = subst (λ n. k ≤ n) (same_count rs cs) h

-- ---- how many ranges
wholes_length : (n : ℕ) (rs : List Range) → length (with_wholes rs n) ≡ length rs + n
wholes_length zero rs = none (length rs)
  where
    none : (k : ℕ) → k ≡ k + 0
    none k = omega arith
wholes_length (suc n) rs = wholes_length n (rs ++ whole ∷ []) ∙ more (length rs) (length-append rs (whole ∷ []))
  where
    more : (k : ℕ) {m : ℕ} → m ≡ k + 1 → m + n ≡ k + suc n
    more k e = omega (arith, e)

either_length : (t : Bool) (rs ss : List Range) (k : ℕ) → (t ≡ true → length rs ≡ k) → (t ≡ false → length ss ≡ k) → length (cond t rs ss) ≡ k
either_length true rs ss k h g = h refl
either_length false rs ss k h g = g refl

with_length : (rs : List Range) (n : ℕ) (c : CodeTree) → length (ranges_with rs n c) ≡ length rs + n
with_length rs n c = either_length (nat_eq n 1) (rs ++ range_of rs c ∷ []) (with_wholes rs n) (length rs + n)
    (λ e. length-append rs (range_of rs c ∷ []) ∙ ap (λ m. length rs + m) (sym (eq_means n 1 e)))
    (λ e. wholes_length n rs)

-- ---- what goes
module _ (rs : List Range) (v : CodeTree) (scope : List Base) (same : length scope ≡ length rs) (t : may_go rs v ≡ true) where
  anywhere : stands_anywhere (length scope) v ≡ true
  anywhere = subst (λ n. stands_anywhere n v ≡ true) (sym same) (and_true (is_total rs v) (stands_anywhere (length rs) v) t).1

  has_none : HasNoSolve v
  has_none = stands_free (length scope) v anywhere

  placed_typed : (b : Base) → HasBases v scope None (one b) → (back : List Base) (asked : Option (List Base)) → Meets asked (one b) →
      HasBases v (scope ++ back) asked (one b)
  placed_typed b h back asked m = stands_typed scope back v asked (one b) anywhere (stands_asked (length scope) v scope asked (one b) anywhere m h)

let_free : (rs : List Range) (first n : ℕ) (v b : CodeTree) → HasNoSolve v → HasNoSolve b → HasNoSolve (let_settled rs first n v b)
let_free rs first n v b h k =
    either_free (nat_eq n 1 && goes rs v (uses (length rs) b)) (put (length rs) v b) (code_let first n v b) (put_free (length rs) v h b k) (h, k)

let_typed : (rs : List Range) (first n : ℕ) (v b : CodeTree) (scope : List Base) (asked : Option (List Base)) (bs : List Base) →
    length scope ≡ length rs → HasBases (code_let first n v b) scope asked bs → HasBases (let_settled rs first n v b) scope asked bs
let_typed rs first n v b scope asked bs same h =
    either_typed (nat_eq n 1 && goes rs v (uses (length rs) b)) (put (length rs) v b) (code_let first n v b) scope asked bs
    (λ e.
    let q = and_true (nat_eq n 1) (goes rs v (uses (length rs) b)) e in
    let o = and_true (may_go rs v) (reads_well (uses (length rs) b) v) q.1 in
    alone h.0 (sym h.3 ∙ eq_means n 1 q.0) o.0 h.1 h.4)
    (λ e. h)
  where
    alone : (vs : List Base) → length vs ≡ 1 → may_go rs v ≡ true → HasBases v scope None vs → HasBases b (scope ++ vs) asked bs →
        HasBases (put (length rs) v b) scope asked bs
    alone [] n t hv hb = absurd (omega (arith, n))
    alone (d ∷ ds ∷ dss) n t hv hb = absurd (omega (arith, n))
    alone (d ∷ []) n t hv hb =
        subst (λ k. HasBases (put k v b) scope asked bs) same
        (subst (λ sc. HasBases (put (length scope) v b) sc asked bs) (append_none scope)
        (put_typed scope d v (has_none rs v scope same t) (placed_typed rs v scope same t d hv) b [] asked bs hb))

abbrev RestHas : Rest → List Base → List Base → Type 0
RestHas r scope bs = ItemsHave r.items scope (λ inner. PartsHave r.gives inner None bs)

either_rest : (t : Bool) (r s : Rest) (scope bs : List Base) → (t ≡ true → RestHas r scope bs) → (t ≡ false → RestHas s scope bs) →
    RestHas (cond t r s) scope bs
either_rest true r s scope bs h k = h refl
either_rest false r s scope bs h k = k refl

let_behind_typed : (rs : List Range) (v : CodeTree) (r : Rest) (scope bs : List Base) (b : Base) → length scope ≡ length rs →
    HasBases v scope None (one b) → RestHas r (scope ++ one b) bs → RestHas (let_behind rs v r) scope bs
let_behind_typed rs v r scope bs b same hv h =
    either_rest (goes rs v (rest_uses (length rs) r)) (rest_put (length rs) v r) (behind (let_item v) r) scope bs
    (λ e.
    let t = (and_true (may_go rs v) (reads_well (rest_uses (length rs) r) v) e).0 in
    subst (λ k. RestHas (rest_put k v r) scope bs) same
    (subst (λ sc. RestHas (rest_put (length scope) v r) sc bs) (append_none scope)
    (items_typed scope b v (has_none rs v scope same t) (placed_typed rs v scope same t b hv) r.items r.gives [] bs h)))
    (λ e. (b, hv, h))

abbrev RestFree : Rest → Type 0
RestFree r = ItemsHaveNoSolve r.items × HaveNoSolve r.gives

rest_free : (t : Bool) (r s : Rest) → RestFree r → RestFree s → RestFree (cond t r s)
rest_free true r s h k = h
rest_free false r s h k = k

let_behind_free : (rs : List Range) (v : CodeTree) (r : Rest) → HasNoSolve v → RestFree r → RestFree (let_behind rs v r)
let_behind_free rs v r h k = rest_free (goes rs v (rest_uses (length rs) r)) (rest_put (length rs) v r) (behind (let_item v) r)
    (items_put_free (length rs) v h r.items k.0, all_put_free (length rs) v h r.gives k.1) ((h, k.0), k.1)

-- ---- no solve is new
mutual
  settled_free : (rs : List Range) (c : CodeTree) → HasNoSolve c → HasNoSolve (settled rs c)
  settled_free rs (code_lit k) h = h
  settled_free rs (code_truth u) h = h
  settled_free rs (code_var y) h = h
  settled_free rs (code_set_of cs) h = all_settled_free rs cs h
  settled_free rs (code_tuple cs) h = all_settled_free rs cs h
  settled_free rs (code_sum cs) h = all_settled_free rs cs h
  settled_free rs (code_sub a b) h = (settled_free rs a h.0, settled_free rs b h.1)
  settled_free rs (code_mul a b) h = (settled_free rs a h.0, settled_free rs b h.1)
  settled_free rs (code_neg a) h = settled_free rs a h
  settled_free rs (code_div a k) h = settled_free rs a h
  settled_free rs (code_mod a k) h = settled_free rs a h
  settled_free rs (code_min cs) h = all_settled_free rs cs h
  settled_free rs (code_max cs) h = all_settled_free rs cs h
  settled_free rs (code_compare o a b) h = comparison_free rs o (settled rs a) (settled rs b) (settled_free rs a h.0, settled_free rs b h.1)
  settled_free rs (code_divides k a) h = settled_free rs a h
  settled_free rs (code_and a b) h = (settled_free rs a h.0, settled_free rs b h.1)
  settled_free rs (code_or a b) h = (settled_free rs a h.0, settled_free rs b h.1)
  settled_free rs (code_not a) h = settled_free rs a h
  settled_free rs (code_union cs) h = union_free (all_settled rs cs) (all_settled_free rs cs h)
  settled_free rs (code_inter cs) h = all_settled_free rs cs h
  settled_free rs (code_diff a b) h = (settled_free rs a h.0, settled_free rs b h.1)
  settled_free rs (code_subset a b) h = (settled_free rs a h.0, settled_free rs b h.1)
  settled_free rs (code_card a) h = settled_free rs a h
  settled_free rs (code_slice a b c) h = slice_free rs (settled rs a) (settled rs b) (settled rs c) (settled_free rs a h.0, settled_free rs b h.1, settled_free rs c h.2)
  settled_free rs (code_fresh a b) h = fresh_free rs (settled rs a) (settled rs b) (settled_free rs a h.0, settled_free rs b h.1)
  settled_free rs (code_if s a b) h = (settled_free rs s h.0, settled_free rs a h.1, settled_free rs b h.2)
  settled_free rs (code_let first k a b) h = let_free rs first k (settled rs a) (cond (gives_so_many k a) (settled (ranges_with rs k a) b) b) (settled_free rs a h.0)
      (either_free (gives_so_many k a) (settled (ranges_with rs k a) b) b (settled_free (ranges_with rs k a) b h.1) h.1)
  settled_free rs (code_solve k arms) h = absurd h

  all_settled_free : (rs : List Range) (cs : CodeTrees) → HaveNoSolve cs → HaveNoSolve (all_settled rs cs)
  all_settled_free rs no_codes h = tt
  all_settled_free rs (code_more c cs) h = (settled_free rs c h.0, all_settled_free rs cs h.1)

items_settled_free : (rs : List Range) (is : ItemTrees) → ItemsHaveNoSolve is → ItemsHaveNoSolve (items_settled rs is)
items_settled_free rs no_items h = tt
items_settled_free rs (item_more (let_item c) is) h = (settled_free rs c h.0, items_settled_free (rs ++ range_of rs c ∷ []) is h.1)
items_settled_free rs (item_more (need_item c) is) h = (settled_free rs c h.0, items_settled_free rs is h.1)

lets_dropped_free : (rs : List Range) (is : ItemTrees) (gs : CodeTrees) → ItemsHaveNoSolve is → HaveNoSolve gs → RestFree (lets_dropped rs is gs)
lets_dropped_free rs no_items gs h k = (tt, k)
lets_dropped_free rs (item_more (let_item v) is) gs h k =
    let_behind_free rs v (lets_dropped (rs ++ range_of rs v ∷ []) is gs) h.0 (lets_dropped_free (rs ++ range_of rs v ∷ []) is gs h.1 k)
lets_dropped_free rs (item_more (need_item c) is) gs h k = let r = lets_dropped_free rs is gs h.1 k in ((h.0, r.0), r.1)

-- ---- types
given_settled : (rs : List Range) (arms : ArmTrees) (asked : Option (List Base)) (bs : List Base) → IsGiven arms asked bs →
    IsGiven (arms_settled rs arms) asked bs
given_settled rs no_arms asked bs h = h
given_settled rs (arm_more a arms) asked bs h = h

mapped : (bounds : List ℕ) → length (map (λ _. Int) bounds) ≡ length bounds
mapped [] = refl
mapped (b ∷ bounds) = ap suc (mapped bounds)

grown : (scope vs : List Base) (rs ss : List Range) (n : ℕ) → length scope ≡ length rs → length ss ≡ length rs + n → n ≡ length vs →
    length (scope ++ vs) ≡ length ss
grown scope vs rs ss n e f g = let l = length-append scope vs in omega (arith, e, f, g, l)

either_has : (t : Bool) (a b : ArmTree) (arms : ArmTrees) (scope bs : List Base) → ArmsHave (arm_more a arms) scope bs →
    ArmsHave (arm_more b arms) scope bs → ArmsHave (arm_more (cond t a b) arms) scope bs
either_has true a b arms scope bs h k = h
either_has false a b arms scope bs h k = k

lets_dropped_has : (rs : List Range) (is : ItemTrees) (gs : CodeTrees) (scope bs : List Base) → length scope ≡ length rs →
    ItemsHave is scope (λ inner. PartsHave gs inner None bs) → RestHas (lets_dropped rs is gs) scope bs
lets_dropped_has rs no_items gs scope bs e h = h
lets_dropped_has rs (item_more (let_item v) is) gs scope bs e h =
    let ss = rs ++ range_of rs v ∷ [] in
    let_behind_typed rs v (lets_dropped ss is gs) scope bs h.0 e h.1
    (lets_dropped_has ss is gs (scope ++ one h.0) bs (grown scope (one h.0) rs ss 1 e (length-append rs (range_of rs v ∷ [])) refl) h.2)
lets_dropped_has rs (item_more (need_item c) is) gs scope bs e h = (h.0, lets_dropped_has rs is gs scope bs e h.1)

dropped_has : (rs : List Range) (a : ArmTree) (arms : ArmTrees) (scope bs : List Base) → length scope ≡ length rs → ArmsHave (arm_more a arms) scope bs →
    ArmsHave (arm_more (arm_dropped rs a) arms) scope bs
dropped_has rs (arm_of bounds is gs) arms scope bs e h =
    let ss = with_wholes rs (length bounds) in
    let free = lets_dropped_free ss is gs h.1 h.2 in
    either_has (items_bind_one is) (arm_with bounds (lets_dropped ss is gs)) (arm_of bounds is gs) arms scope bs (
      h.0,
      free.0,
      free.1,
      lets_dropped_has ss is gs (scope ++ map (λ _. Int) bounds) bs
          (grown scope (map (λ _. Int) bounds) rs ss (length bounds) e (wholes_length (length bounds) rs) (sym (mapped bounds))) h.3,
      h.4,
    )
    h

mutual
  pub settled_keeps : (rs : List Range) (c : CodeTree) (scope : List Base) (asked : Option (List Base)) (bs : List Base) → length scope ≡ length rs →
      HasBases c scope asked bs → HasBases (settled rs c) scope asked bs
  settled_keeps rs (code_lit k) scope asked bs e h = h
  settled_keeps rs (code_truth u) scope asked bs e h = h
  settled_keeps rs (code_var y) scope asked bs e h = h
  settled_keeps rs (code_set_of cs) scope asked bs e h = (all_keep rs cs scope Int e h.0, h.1)
  settled_keeps rs (code_tuple cs) scope asked bs e h = (at_least 2 rs cs h.0, parts_keep rs cs scope asked bs e h.1, h.2)
  settled_keeps rs (code_sum cs) scope asked bs e h = (at_least 2 rs cs h.0, all_keep rs cs scope Int e h.1, h.2)
  settled_keeps rs (code_sub a b) scope asked bs e h = (settled_keeps rs a scope (ask Int) (one Int) e h.0, settled_keeps rs b scope (ask Int) (one Int) e h.1, h.2)
  settled_keeps rs (code_mul a b) scope asked bs e h = (settled_keeps rs a scope (ask Int) (one Int) e h.0, settled_keeps rs b scope (ask Int) (one Int) e h.1, h.2)
  settled_keeps rs (code_neg a) scope asked bs e h = (settled_keeps rs a scope (ask Int) (one Int) e h.0, h.1)
  settled_keeps rs (code_div a k) scope asked bs e h = (h.0, settled_keeps rs a scope (ask Int) (one Int) e h.1, h.2)
  settled_keeps rs (code_mod a k) scope asked bs e h = (h.0, settled_keeps rs a scope (ask Int) (one Int) e h.1, h.2)
  settled_keeps rs (code_min cs) scope asked bs e h = (at_least 1 rs cs h.0, all_keep rs cs scope Int e h.1, h.2)
  settled_keeps rs (code_max cs) scope asked bs e h = (at_least 1 rs cs h.0, all_keep rs cs scope Int e h.1, h.2)
  settled_keeps rs (code_compare o a b) scope asked bs e h = comparison_typed rs o (settled rs a) (settled rs b) scope asked bs
      (h.0, h.1, settled_keeps rs a scope (side o) (one h.0) e h.2, settled_keeps rs b scope (side o) (one h.0) e h.3, h.4)
  settled_keeps rs (code_divides k a) scope asked bs e h = (h.0, settled_keeps rs a scope (ask Int) (one Int) e h.1, h.2)
  settled_keeps rs (code_and a b) scope asked bs e h = (settled_keeps rs a scope (ask Truth) (one Truth) e h.0, settled_keeps rs b scope (ask Truth) (one Truth) e h.1, h.2)
  settled_keeps rs (code_or a b) scope asked bs e h = (settled_keeps rs a scope (ask Truth) (one Truth) e h.0, settled_keeps rs b scope (ask Truth) (one Truth) e h.1, h.2)
  settled_keeps rs (code_not a) scope asked bs e h = (settled_keeps rs a scope (ask Truth) (one Truth) e h.0, h.1)
  settled_keeps rs (code_union cs) scope asked bs e h =
      union_typed (all_settled rs cs) scope asked bs (at_least 2 rs cs h.0, all_keep rs cs scope Set e h.1, h.2)
  settled_keeps rs (code_inter cs) scope asked bs e h = (at_least 2 rs cs h.0, all_keep rs cs scope Set e h.1, h.2)
  settled_keeps rs (code_diff a b) scope asked bs e h = (settled_keeps rs a scope (ask Set) (one Set) e h.0, settled_keeps rs b scope (ask Set) (one Set) e h.1, h.2)
  settled_keeps rs (code_subset a b) scope asked bs e h = (settled_keeps rs a scope (ask Set) (one Set) e h.0, settled_keeps rs b scope (ask Set) (one Set) e h.1, h.2)
  settled_keeps rs (code_card a) scope asked bs e h = (settled_keeps rs a scope (ask Set) (one Set) e h.0, h.1)
  settled_keeps rs (code_slice a b c) scope asked bs e h = slice_typed rs (settled rs a) (settled rs b) (settled rs c) scope asked bs
      (settled_keeps rs a scope (ask Set) (one Set) e h.0, settled_keeps rs b scope (ask Int) (one Int) e h.1, settled_keeps rs c scope (ask Int) (one Int) e h.2, h.3)
  settled_keeps rs (code_fresh a b) scope asked bs e h = fresh_typed rs (settled rs a) (settled rs b) scope asked bs
      (settled_keeps rs a scope (ask Set) (one Set) e h.0, settled_keeps rs b scope (ask Int) (one Int) e h.1, h.2)
  settled_keeps rs (code_if s a b) scope asked bs e h = (settled_keeps rs s scope (ask Truth) (one Truth) e h.0, settled_keeps rs a scope asked bs e h.1, settled_keeps rs b scope asked bs e h.2)
  settled_keeps rs (code_let first k a b) scope asked bs e h = let_typed rs first k (settled rs a) (cond (gives_so_many k a) (settled (ranges_with rs k a) b) b) scope asked bs e (
    h.0,
    settled_keeps rs a scope None h.0 e h.1,
    h.2,
    h.3,
    either_typed (gives_so_many k a) (settled (ranges_with rs k a) b) b (scope ++ h.0) asked bs
        (λ t. settled_keeps (ranges_with rs k a) b (scope ++ h.0) asked bs (grown scope h.0 rs (ranges_with rs k a) k e (with_length rs k a) h.3) h.4)
        (λ t. h.4),
  )
  settled_keeps rs (code_solve k arms) scope asked bs e h = (given_settled rs arms asked bs h.0, arms_keep rs arms scope bs e h.1)

  all_keep : (rs : List Range) (cs : CodeTrees) (scope : List Base) (b : Base) → length scope ≡ length rs → AllHave cs scope b →
      AllHave (all_settled rs cs) scope b
  all_keep rs no_codes scope b e h = tt
  all_keep rs (code_more c cs) scope b e h = (settled_keeps rs c scope (ask b) (one b) e h.0, all_keep rs cs scope b e h.1)

  parts_keep : (rs : List Range) (cs : CodeTrees) (scope : List Base) (asked : Option (List Base)) (bs : List Base) → length scope ≡ length rs →
      PartsHave cs scope asked bs → PartsHave (all_settled rs cs) scope asked bs
  parts_keep rs no_codes scope asked bs e h = h
  parts_keep rs (code_more c cs) scope asked bs e h =
      (h.0, h.1, h.2, settled_keeps rs c scope (share asked h.0) (one h.0) e h.3, parts_keep rs cs scope asked h.1 e h.4)

  items_keep : (rs : List Range) (is : ItemTrees) (gs hs : CodeTrees) (scope bs : List Base) → length scope ≡ length rs →
      ((inner : List Base) → length inner ≡ length (ranges_behind_all rs is) → PartsHave gs inner None bs → PartsHave hs inner None bs) →
      ItemsHave is scope (λ inner. PartsHave gs inner None bs) → ItemsHave (items_settled rs is) scope (λ inner. PartsHave hs inner None bs)
  items_keep rs no_items gs hs scope bs e k h = k scope e h
  items_keep rs (item_more (let_item c) is) gs hs scope bs e k h = (
    h.0,
    settled_keeps rs c scope None (one h.0) e h.1,
    items_keep (rs ++ range_of rs c ∷ []) is gs hs (scope ++ one h.0) bs
        (grown scope (one h.0) rs (rs ++ range_of rs c ∷ []) 1 e (length-append rs (range_of rs c ∷ [])) refl) k h.2,
  )
  items_keep rs (item_more (need_item c) is) gs hs scope bs e k h =
      (settled_keeps rs c scope (ask Truth) (one Truth) e h.0, items_keep rs is gs hs scope bs e k h.1)

  arms_keep : (rs : List Range) (arms : ArmTrees) (scope bs : List Base) → length scope ≡ length rs → ArmsHave arms scope bs →
      ArmsHave (arms_settled rs arms) scope bs
  arms_keep rs no_arms scope bs e h = tt
  arms_keep rs (arm_more (arm_of bounds is gs) arms) scope bs e h =
      let ss = with_wholes rs (length bounds) in
      let hs = all_settled (ranges_behind_all ss is) gs in
      let more = arms_keep rs arms scope bs e h.4 in
      dropped_has rs (arm_each rs (arm_of bounds is gs)) (arms_settled rs arms) scope bs e
      (either_has (items_bind_one is) (arm_of bounds (items_settled ss is) hs) (arm_of bounds is gs) (arms_settled rs arms) scope bs (
        h.0,
        items_settled_free ss is h.1,
        all_settled_free (ranges_behind_all ss is) gs h.2,
        items_keep ss is gs hs (scope ++ map (λ _. Int) bounds) bs
            (grown scope (map (λ _. Int) bounds) rs ss (length bounds) e (wholes_length (length bounds) rs) (sym (mapped bounds)))
            (λ inner n p. parts_keep (ranges_behind_all ss is) gs inner None bs n p) h.3,
        more,
      )
      (h.0, h.1, h.2, h.3, more))

pub settled_keeps_types : (rs : List Range) (c : CodeTree) → KeepsTypes rs c (settled rs c)
settled_keeps_types rs c scope asked bs e h = settled_keeps rs c scope asked bs e h
