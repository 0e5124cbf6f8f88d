-- Lists of codes, items and arms that are rewritten one after the other.
use Rattle.std.proofs.Common.{◌≡◌, ◌<◌, ℕ, zero, suc, ◌+◌, List, [], ◌∷◌, length, get_or, Result, IfOk, refl, sym, ap, ap₂, ◌∙◌, subst, arith}
use Rattle.std.proofs.Math.ListN.{set}
use Rattle.cf_tree.specs.declared.code.Code.{Code}
use Rattle.cf_tree.specs.declared.code.Item.{Item}
use Rattle.cf_tree.specs.declared.code.Arm.{Arm}
use Rattle.cf_tree.specs.CodeTree.{CodeTree, CodeTrees, no_codes, code_more, ItemTree, let_item, need_item, ItemTrees, no_items, item_more, ArmTree, arm_of, ArmTrees, no_arms, arm_more}
use Rattle.cf_tree.specs.CodeView.{code_tree, item_tree, arm_tree, code_trees, item_trees, arm_trees}
use Rattle.cf_tree.specs.RelSize.{capped}
use Rattle.cf_pass.specs.Improves.{Improves}
use Rattle.cf_pass.specs.Parts.{count_lets, AllImprove, ItemImproves, behind_item, ItemsImprove, ArmImproves, ArmsImprove}
use Rattle.cf_pass.specs.Rewritten.{rewritten, all_rewritten, item_rewritten, items_rewritten, arm_rewritten, arms_rewritten, units_of, units_of_all, units_of_item, units_of_items, units_of_arm, units_of_arms}
use Rattle.cf_pass.specs.Walked.{Walk}
use Rattle.cf_pass.proofs.CodeLists.{all_self, all_on}
use Rattle.cf_pass.proofs.Forms.{improves_on}
use Rattle.cf_pass.proofs.LoopSteps.{items_self}
use Rattle.cf_pass.proofs.WalkSteps.{more_units, if_ok_same}

-- how many lets there are among the first i
abbrev pub lets_to : ℕ → ItemTrees → ℕ
lets_to zero is = 0
lets_to (suc k) no_items = 0
lets_to (suc k) (item_more (let_item c) is) = suc (lets_to k is)
lets_to (suc k) (item_more (need_item c) is) = lets_to k is

module _ (made : ℕ → CodeTree → CodeTree) where
  -- the first i codes are rewritten
  abbrev pub codes_to : ℕ → ℕ → CodeTrees → CodeTrees
  codes_to n zero cs = cs
  codes_to n (suc i) no_codes = no_codes
  codes_to n (suc i) (code_more c cs) = code_more (rewritten made n c) (codes_to n i cs)

  abbrev pub items_to : ℕ → ℕ → ItemTrees → ItemTrees
  items_to n zero is = is
  items_to n (suc k) no_items = no_items
  items_to n (suc k) (item_more i is) = item_more (item_rewritten made n i) (items_to (behind_item i n) k is)

  abbrev pub arms_to : ℕ → ℕ → ArmTrees → ArmTrees
  arms_to n zero arms = arms
  arms_to n (suc i) no_arms = no_arms
  arms_to n (suc i) (arm_more a arms) = arm_more (arm_rewritten made n a) (arms_to n i arms)

  module _ (units : ℕ → CodeTree → ℕ) where
    -- the units of the first i codes
    abbrev pub codes_units : ℕ → ℕ → CodeTrees → ℕ
    codes_units n zero cs = 0
    codes_units n (suc i) no_codes = 0
    codes_units n (suc i) (code_more c cs) = units_of made units n c + codes_units n i cs

    abbrev pub items_units : ℕ → ℕ → ItemTrees → ℕ
    items_units n zero is = 0
    items_units n (suc k) no_items = 0
    items_units n (suc k) (item_more i is) = units_of_item made units n i + items_units (behind_item i n) k is

    abbrev pub arms_units : ℕ → ℕ → ArmTrees → ℕ
    arms_units n zero arms = 0
    arms_units n (suc i) no_arms = 0
    arms_units n (suc i) (arm_more a arms) = units_of_arm made units n a + arms_units n i arms

-- ---- codes
next : (i : ℕ) → suc i ≡ i + 1
next i = omega arith

first_code : (c d : CodeTree) (cs ds : CodeTrees) → code_more c cs ≡ code_more d ds → (c ≡ d) × (cs ≡ ds)
first_code c d cs ds e = (cc, cc)

first_item : (c d : ItemTree) (cs ds : ItemTrees) → item_more c cs ≡ item_more d ds → (c ≡ d) × (cs ≡ ds)
first_item c d cs ds e = (cc, cc)

first_arm : (c d : ArmTree) (cs ds : ArmTrees) → arm_more c cs ≡ arm_more d ds → (c ≡ d) × (cs ≡ ds)
first_arm c d cs ds e = (cc, cc)

codes_step : (n : ℕ) (cs : CodeTrees) (xs : List Code) (i : ℕ) (d x : Code) → AllImprove n cs (code_trees xs) → i < length xs →
    Improves n (code_tree (get_or xs i d)) (code_tree x) → AllImprove n cs (code_trees (set xs i x))
codes_step n cs [] i d x h l k = absurd (omega arith)
codes_step n no_codes (y ∷ xs) i d x h l k = absurd h
codes_step n (code_more c cs) (y ∷ xs) zero d x h l k = (improves_on n c (code_tree y) (code_tree x) h.0 k, h.1)
codes_step n (code_more c cs) (y ∷ xs) (suc i) d x h l k = (h.0, codes_step n cs xs i d x h.1 (omega arith) k)

module _ (made : ℕ → CodeTree → CodeTree) (units : ℕ → CodeTree → ℕ) where
  codes_on : (n : ℕ) (cs : CodeTrees) (xs : List Code) (i : ℕ) (d x : Code) → code_trees xs ≡ codes_to made n i cs → i < length xs →
      code_tree x ≡ rewritten made n (code_tree (get_or xs i d)) → code_trees (set xs i x) ≡ codes_to made n (suc i) cs
  codes_on n cs [] i d x e l h = absurd (omega arith)
  codes_on n no_codes (y ∷ xs) zero d x e l h = cc
  codes_on n no_codes (y ∷ xs) (suc i) d x e l h = cc
  codes_on n (code_more c cs) (y ∷ xs) zero d x e l h =
      let p = first_code (code_tree y) c (code_trees xs) cs e in ap₂ code_more (h ∙ ap (rewritten made n) p.0) p.1
  codes_on n (code_more c cs) (y ∷ xs) (suc i) d x e l h =
      let p = first_code (code_tree y) (rewritten made n c) (code_trees xs) (codes_to made n i cs) e in
      ap₂ code_more p.0 (codes_on n cs xs i d x p.1 (omega arith) h)

  codes_more : (n : ℕ) (cs : CodeTrees) (xs : List Code) (i : ℕ) (d : Code) → code_trees xs ≡ codes_to made n i cs → i < length xs →
      codes_units made units n (suc i) cs ≡ codes_units made units n i cs + units_of made units n (code_tree (get_or xs i d))
  codes_more n cs [] i d e l = absurd (omega arith)
  codes_more n no_codes (y ∷ xs) zero d e l = cc
  codes_more n no_codes (y ∷ xs) (suc i) d e l = cc
  codes_more n (code_more c cs) (y ∷ xs) zero d e l =
      let p = first_code (code_tree y) c (code_trees xs) cs e in
      let s : units_of made units n (code_tree y) ≡ units_of made units n c = ap (units_of made units n) p.0 in
      omega (arith, s)
  codes_more n (code_more c cs) (y ∷ xs) (suc i) d e l =
      let p = first_code (code_tree y) (rewritten made n c) (code_trees xs) (codes_to made n i cs) e in
      let r = codes_more n cs xs i d p.1 (omega arith) in omega (arith, r)

  codes_all : (n : ℕ) (cs : CodeTrees) (xs : List Code) → AllImprove n cs (code_trees xs) → codes_to made n (length xs) cs ≡ all_rewritten made n cs
  codes_all n no_codes [] h = refl
  codes_all n no_codes (y ∷ xs) h = absurd h
  codes_all n (code_more c cs) [] h = absurd h
  codes_all n (code_more c cs) (y ∷ xs) h = ap (code_more (rewritten made n c)) (codes_all n cs xs h.1)

  codes_sum : (n : ℕ) (cs : CodeTrees) (xs : List Code) → AllImprove n cs (code_trees xs) →
      codes_units made units n (length xs) cs ≡ units_of_all made units n cs
  codes_sum n no_codes [] h = refl
  codes_sum n no_codes (y ∷ xs) h = absurd h
  codes_sum n (code_more c cs) [] h = absurd h
  codes_sum n (code_more c cs) (y ∷ xs) h = ap (λ m. units_of made units n c + m) (codes_sum n cs xs h.1)

  pub codes_begin : {X : Type 0} {t : ℕ} (n : ℕ) (cs ds : CodeTrees) → ds ≡ cs → Walk (AllImprove n cs ds) (ds ≡ cs) 0 t t X X
  codes_begin n cs ds e = record { better = subst (AllImprove n cs) (sym e) (all_self n cs); tally = omega arith; exact = λ k. (k, e, omega arith) }

  pub codes_next : {X Y Z : Type 0} {t t' t'' : ℕ} (n : ℕ) (cs : CodeTrees) (xs : List Code) (i : ℕ) (d x : Code) → i < length xs →
      Walk (AllImprove n cs (code_trees xs)) (code_trees xs ≡ codes_to made n i cs) (codes_units made units n i cs) t t' X Y →
      Walk (Improves n (code_tree (get_or xs i d)) (code_tree x)) (code_tree x ≡ rewritten made n (code_tree (get_or xs i d)))
      (units_of made units n (code_tree (get_or xs i d))) t' t'' Y Z →
      Walk (AllImprove n cs (code_trees (set xs i x))) (code_trees (set xs i x) ≡ codes_to made n (i + 1) cs) (codes_units made units n (i + 1) cs) t t'' X Z
  codes_next {X = X} {Y = Y} {Z = Z} {t = t} {t' = t'} {t'' = t''} n cs xs i d x l p q =
      subst (λ j. Walk (AllImprove n cs (code_trees (set xs i x))) (code_trees (set xs i x) ≡ codes_to made n j cs) (codes_units made units n j cs) t t'' X Z)
      (next i)
      (record {
        better = codes_step n cs xs i d x p.better l q.better;
        tally = omega (arith, p.tally, q.tally);
        exact = λ k.
            let e = q.exact k in
            let f = p.exact e.0 in (
              f.0,
              codes_on n cs xs i d x f.1 l e.1,
              more_units t t' t'' (codes_units made units n i cs) (units_of made units n (code_tree (get_or xs i d))) f.2 e.2
                  ∙ ap (λ m. capped (t + m)) (sym (codes_more n cs xs i d f.1 l)),
            );
      })

  pub codes_end : {X Y : Type 0} {t t' : ℕ} (n : ℕ) (cs : CodeTrees) (xs zs : List Code) (i : ℕ) → i ≡ length xs → zs ≡ xs →
      Walk (AllImprove n cs (code_trees xs)) (code_trees xs ≡ codes_to made n i cs) (codes_units made units n i cs) t t' X Y →
      Walk (AllImprove n cs (code_trees zs)) (code_trees zs ≡ all_rewritten made n cs) (units_of_all made units n cs) t t' X Y
  codes_end {X = X} {Y = Y} {t = t} {t' = t'} n cs xs zs i e z p =
      let w = subst (λ j. Walk (AllImprove n cs (code_trees xs)) (code_trees xs ≡ codes_to made n j cs) (codes_units made units n j cs) t t' X Y) e p in
      subst (λ ys. Walk (AllImprove n cs (code_trees ys)) (code_trees ys ≡ all_rewritten made n cs) (units_of_all made units n cs) t t' X Y) (sym z)
      (record {
        better = w.better;
        tally = w.tally;
        exact = λ k. let h = w.exact k in (h.0, h.1 ∙ codes_all n cs xs w.better, h.2 ∙ ap (λ m. capped (t + m)) (codes_sum n cs xs w.better));
      })

-- ---- items
item_on : (n : ℕ) (i j k : ItemTree) → ItemImproves n i j → ItemImproves n j k → ItemImproves n i k
item_on n (let_item a) (let_item b) (let_item c) h k = improves_on n a b c h k
item_on n (let_item a) (let_item b) (need_item c) h k = absurd k
item_on n (let_item a) (need_item b) c h k = absurd h
item_on n (need_item a) (let_item b) c h k = absurd h
item_on n (need_item a) (need_item b) (let_item c) h k = absurd k
item_on n (need_item a) (need_item b) (need_item c) h k = improves_on n a b c h k

-- an item in the place of another binds as many variables
same_behind : (m n : ℕ) (i j : ItemTree) → ItemImproves m i j → behind_item j n ≡ behind_item i n
same_behind m n (let_item a) (let_item b) h = refl
same_behind m n (let_item a) (need_item b) h = absurd h
same_behind m n (need_item a) (let_item b) h = absurd h
same_behind m n (need_item a) (need_item b) h = refl

items_then : (n : ℕ) (is js ks : ItemTrees) → ItemsImprove n is js → ItemsImprove n js ks → ItemsImprove n is ks
items_then n no_items no_items ks h k = k
items_then n no_items (item_more j js) ks h k = absurd h
items_then n (item_more i is) no_items ks h k = absurd h
items_then n (item_more i is) (item_more j js) no_items h k = absurd k
items_then n (item_more i is) (item_more j js) (item_more l ks) h k =
    (item_on n i j l h.0 k.0, items_then (behind_item i n) is js ks h.1 (subst (λ m. ItemsImprove m js ks) (same_behind n n i j h.0) k.1))

same_lets : (n : ℕ) (is js : ItemTrees) → ItemsImprove n is js → count_lets js ≡ count_lets is
same_lets n no_items no_items h = refl
same_lets n no_items (item_more j js) h = absurd h
same_lets n (item_more i is) no_items h = absurd h
same_lets n (item_more (let_item c) is) (item_more (let_item d) js) h = ap suc (same_lets (suc n) is js h.1)
same_lets n (item_more (let_item c) is) (item_more (need_item d) js) h = absurd h.0
same_lets n (item_more (need_item c) is) (item_more (let_item d) js) h = absurd h.0
same_lets n (item_more (need_item c) is) (item_more (need_item d) js) h = same_lets n is js h.1

-- the level behind the first k + 1 items
one_behind : (n k : ℕ) (i : ItemTree) (is : ItemTrees) → n + lets_to (suc k) (item_more i is) ≡ behind_item i n + lets_to k is
one_behind n k (let_item c) is = omega arith
one_behind n k (need_item c) is = refl

items_step : (n : ℕ) (is : ItemTrees) (xs : List Item) (k : ℕ) (d x : Item) → ItemsImprove n is (item_trees xs) → k < length xs →
    ItemImproves (n + lets_to k is) (item_tree (get_or xs k d)) (item_tree x) → ItemsImprove n is (item_trees (set xs k x))
items_step n is [] k d x h l e = absurd (omega arith)
items_step n no_items (y ∷ xs) k d x h l e = absurd h
items_step n (item_more i is) (y ∷ xs) zero d x h l e =
    let same : n + 0 ≡ n = omega arith in
    (item_on n i (item_tree y) (item_tree x) h.0 (subst (λ o. ItemImproves o (item_tree y) (item_tree x)) same e), h.1)
items_step n (item_more i is) (y ∷ xs) (suc k) d x h l e = (
  h.0,
  items_step (behind_item i n) is xs k d x h.1 (omega arith)
      (subst (λ o. ItemImproves o (item_tree (get_or xs k d)) (item_tree x)) (one_behind n k i is) e),
)

level_next : (n : ℕ) (is : ItemTrees) (xs : List Item) (k : ℕ) (d : Item) → ItemsImprove n is (item_trees xs) → k < length xs →
    behind_item (item_tree (get_or xs k d)) (n + lets_to k is) ≡ n + lets_to (suc k) is
level_next n is [] k d h l = absurd (omega arith)
level_next n no_items (y ∷ xs) k d h l = absurd h
level_next n (item_more i is) (y ∷ xs) zero d h l =
    let same : n + 0 ≡ n = omega arith in
    let none : behind_item i n + 0 ≡ behind_item i n = omega arith in
    ap (behind_item (item_tree y)) same ∙ same_behind n n i (item_tree y) h.0 ∙ sym (one_behind n zero i is ∙ none)
level_next n (item_more i is) (y ∷ xs) (suc k) d h l =
    ap (behind_item (item_tree (get_or xs k d))) (one_behind n k i is) ∙ level_next (behind_item i n) is xs k d h.1 (omega arith) ∙
    sym (one_behind n (suc k) i is)

lets_all : (n : ℕ) (is : ItemTrees) (xs : List Item) → ItemsImprove n is (item_trees xs) → lets_to (length xs) is ≡ count_lets is
lets_all n no_items [] h = refl
lets_all n no_items (y ∷ xs) h = absurd h
lets_all n (item_more i is) [] h = absurd h
lets_all n (item_more (let_item c) is) (y ∷ xs) h = ap suc (lets_all (suc n) is xs h.1)
lets_all n (item_more (need_item c) is) (y ∷ xs) h = lets_all n is xs h.1

module _ (made : ℕ → CodeTree → CodeTree) (units : ℕ → CodeTree → ℕ) where
  items_on : (n : ℕ) (is : ItemTrees) (xs : List Item) (k : ℕ) (d x : Item) → item_trees xs ≡ items_to made n k is → k < length xs →
      item_tree x ≡ item_rewritten made (n + lets_to k is) (item_tree (get_or xs k d)) → item_trees (set xs k x) ≡ items_to made n (suc k) is
  items_on n is [] k d x e l h = absurd (omega arith)
  items_on n no_items (y ∷ xs) zero d x e l h = cc
  items_on n no_items (y ∷ xs) (suc k) d x e l h = cc
  items_on n (item_more i is) (y ∷ xs) zero d x e l h =
      let p = first_item (item_tree y) i (item_trees xs) is e in
      let same : n + 0 ≡ n = omega arith in
      ap₂ item_more (h ∙ ap (λ m. item_rewritten made m (item_tree y)) same ∙ ap (item_rewritten made n) p.0) p.1
  items_on n (item_more i is) (y ∷ xs) (suc k) d x e l h =
      let p = first_item (item_tree y) (item_rewritten made n i) (item_trees xs) (items_to made (behind_item i n) k is) e in
      ap₂ item_more p.0 (items_on (behind_item i n) is xs k d x p.1 (omega arith)
      (h ∙ ap (λ m. item_rewritten made m (item_tree (get_or xs k d))) (one_behind n k i is)))

  items_more : (n : ℕ) (is : ItemTrees) (xs : List Item) (k : ℕ) (d : Item) → item_trees xs ≡ items_to made n k is → k < length xs →
      items_units made units n (suc k) is ≡ items_units made units n k is + units_of_item made units (n + lets_to k is) (item_tree (get_or xs k d))
  items_more n is [] k d e l = absurd (omega arith)
  items_more n no_items (y ∷ xs) zero d e l = cc
  items_more n no_items (y ∷ xs) (suc k) d e l = cc
  items_more n (item_more i is) (y ∷ xs) zero d e l =
      let p = first_item (item_tree y) i (item_trees xs) is e in
      let same : n + 0 ≡ n = omega arith in
      let s : units_of_item made units (n + 0) (item_tree y) ≡ units_of_item made units n i =
      ap (λ m. units_of_item made units m (item_tree y)) same ∙ ap (units_of_item made units n) p.0 in
      omega (arith, s)
  items_more n (item_more i is) (y ∷ xs) (suc k) d e l =
      let p = first_item (item_tree y) (item_rewritten made n i) (item_trees xs) (items_to made (behind_item i n) k is) e in
      let r = items_more (behind_item i n) is xs k d p.1 (omega arith) in
      let s = ap (λ m. units_of_item made units m (item_tree (get_or xs k d))) (one_behind n k i is) in omega (arith, r, s)

  items_all : (n : ℕ) (is : ItemTrees) (xs : List Item) → ItemsImprove n is (item_trees xs) → items_to made n (length xs) is ≡ items_rewritten made n is
  items_all n no_items [] h = refl
  items_all n no_items (y ∷ xs) h = absurd h
  items_all n (item_more i is) [] h = absurd h
  items_all n (item_more i is) (y ∷ xs) h = ap (item_more (item_rewritten made n i)) (items_all (behind_item i n) is xs h.1)

  items_sum : (n : ℕ) (is : ItemTrees) (xs : List Item) → ItemsImprove n is (item_trees xs) →
      items_units made units n (length xs) is ≡ units_of_items made units n is
  items_sum n no_items [] h = refl
  items_sum n no_items (y ∷ xs) h = absurd h
  items_sum n (item_more i is) [] h = absurd h
  items_sum n (item_more i is) (y ∷ xs) h = ap (λ m. units_of_item made units n i + m) (items_sum (behind_item i n) is xs h.1)

  pub items_begin : {X : Type 0} {t : ℕ} (n : ℕ) (is js : ItemTrees) → js ≡ is → Walk (ItemsImprove n is js) (js ≡ is) 0 t t X X
  items_begin n is js e = record { better = subst (ItemsImprove n is) (sym e) (items_self n is); tally = omega arith; exact = λ k. (k, e, omega arith) }

  pub items_next : {X Y Z : Type 0} {t t' t'' : ℕ} {E : Type 0} (n : ℕ) (is : ItemTrees) (xs : List Item) (k : ℕ) (d x : Item) (r : Result ℕ E) →
      k < length xs →
      Walk (ItemsImprove n is (item_trees xs)) (item_trees xs ≡ items_to made n k is) (items_units made units n k is) t t' X Y →
      Walk (ItemImproves (n + lets_to k is) (item_tree (get_or xs k d)) (item_tree x))
      (item_tree x ≡ item_rewritten made (n + lets_to k is) (item_tree (get_or xs k d)))
      (units_of_item made units (n + lets_to k is) (item_tree (get_or xs k d))) t' t'' Y Z
      × IfOk r (λ m. m ≡ behind_item (item_tree (get_or xs k d)) (n + lets_to k is)) →
      Walk (ItemsImprove n is (item_trees (set xs k x))) (item_trees (set xs k x) ≡ items_to made n (k + 1) is) (items_units made units n (k + 1) is) t t'' X Z
      × IfOk r (λ m. m ≡ n + lets_to (k + 1) is)
  items_next {X = X} {Y = Y} {Z = Z} {t = t} {t' = t'} {t'' = t''} n is xs k d x r l p q =
      subst (λ j.
      Walk (ItemsImprove n is (item_trees (set xs k x))) (item_trees (set xs k x) ≡ items_to made n j is) (items_units made units n j is) t t'' X Z
      × IfOk r (λ m. m ≡ n + lets_to j is)) (next k) (
        record {
          better = items_step n is xs k d x p.better l q.0.better;
          tally = let a = p.tally in let b = q.0.tally in omega (arith, a, b);
          exact = λ w.
              let e = q.0.exact w in
              let f = p.exact e.0 in (
                f.0,
                items_on n is xs k d x f.1 l e.1,
                more_units t t' t'' (items_units made units n k is) (units_of_item made units (n + lets_to k is) (item_tree (get_or xs k d))) f.2 e.2
                    ∙ ap (λ m. capped (t + m)) (sym (items_more n is xs k d f.1 l)),
              );
        },
        if_ok_same r _ _ q.1 (level_next n is xs k d p.better l),
      )

  pub items_end : {X Y : Type 0} {t t' : ℕ} {E : Type 0} (n : ℕ) (is : ItemTrees) (xs zs : List Item) (k : ℕ) (r : Result ℕ E) → k ≡ length xs → zs ≡ xs →
      Walk (ItemsImprove n is (item_trees xs)) (item_trees xs ≡ items_to made n k is) (items_units made units n k is) t t' X Y
      × IfOk r (λ m. m ≡ n + lets_to k is) →
      Walk (ItemsImprove n is (item_trees zs)) (item_trees zs ≡ items_rewritten made n is) (units_of_items made units n is) t t' X Y
      × IfOk r (λ m. m ≡ n + count_lets is)
  items_end {X = X} {Y = Y} {t = t} {t' = t'} n is xs zs k r e z p =
      let w = subst (λ j. Walk (ItemsImprove n is (item_trees xs)) (item_trees xs ≡ items_to made n j is) (items_units made units n j is) t t' X Y) e p.0 in (
        subst (λ ys. Walk (ItemsImprove n is (item_trees ys)) (item_trees ys ≡ items_rewritten made n is) (units_of_items made units n is) t t' X Y) (sym z)
            (record {
              better = w.better;
              tally = w.tally;
              exact = λ v. let h = w.exact v in (h.0, h.1 ∙ items_all n is xs w.better, h.2 ∙ ap (λ m. capped (t + m)) (items_sum n is xs w.better));
            }),
        if_ok_same r _ _ p.1 (ap (λ j. n + lets_to j is) e ∙ ap (λ m. n + m) (lets_all n is xs w.better)),
      )

-- ---- arms
arm_self : (n : ℕ) (a : ArmTree) → ArmImproves n a a
arm_self n (arm_of bounds is gs) = (refl, items_self _ is, all_self _ gs)

all_arms_self : (n : ℕ) (arms : ArmTrees) → ArmsImprove n arms arms
all_arms_self n no_arms = tt
all_arms_self n (arm_more a arms) = (arm_self n a, all_arms_self n arms)

arm_on : (n : ℕ) (a b c : ArmTree) → ArmImproves n a b → ArmImproves n b c → ArmImproves n a c
arm_on n (arm_of bounds is gs) (arm_of bounds' js hs) (arm_of bounds'' ks us) h k = (
  k.0 ∙ h.0,
  items_then _ is js ks h.1 (subst (λ m. ItemsImprove (n + m) js ks) (ap length h.0) k.1),
  all_on _ gs hs us h.2 (subst (λ m. AllImprove m hs us) (omega (arith, ap length h.0, same_lets _ is js h.1)) k.2),
)

arms_step : (n : ℕ) (cs : ArmTrees) (xs : List Arm) (i : ℕ) (d x : Arm) → ArmsImprove n cs (arm_trees xs) → i < length xs →
    ArmImproves n (arm_tree (get_or xs i d)) (arm_tree x) → ArmsImprove n cs (arm_trees (set xs i x))
arms_step n cs [] i d x h l k = absurd (omega arith)
arms_step n no_arms (y ∷ xs) i d x h l k = absurd h
arms_step n (arm_more c cs) (y ∷ xs) zero d x h l k = (arm_on n c (arm_tree y) (arm_tree x) h.0 k, h.1)
arms_step n (arm_more c cs) (y ∷ xs) (suc i) d x h l k = (h.0, arms_step n cs xs i d x h.1 (omega arith) k)

module _ (made : ℕ → CodeTree → CodeTree) (units : ℕ → CodeTree → ℕ) where
  arms_on : (n : ℕ) (cs : ArmTrees) (xs : List Arm) (i : ℕ) (d x : Arm) → arm_trees xs ≡ arms_to made n i cs → i < length xs →
      arm_tree x ≡ arm_rewritten made n (arm_tree (get_or xs i d)) → arm_trees (set xs i x) ≡ arms_to made n (suc i) cs
  arms_on n cs [] i d x e l h = absurd (omega arith)
  arms_on n no_arms (y ∷ xs) zero d x e l h = cc
  arms_on n no_arms (y ∷ xs) (suc i) d x e l h = cc
  arms_on n (arm_more c cs) (y ∷ xs) zero d x e l h =
      let p = first_arm (arm_tree y) c (arm_trees xs) cs e in ap₂ arm_more (h ∙ ap (arm_rewritten made n) p.0) p.1
  arms_on n (arm_more c cs) (y ∷ xs) (suc i) d x e l h =
      let p = first_arm (arm_tree y) (arm_rewritten made n c) (arm_trees xs) (arms_to made n i cs) e in
      ap₂ arm_more p.0 (arms_on n cs xs i d x p.1 (omega arith) h)

  arms_more : (n : ℕ) (cs : ArmTrees) (xs : List Arm) (i : ℕ) (d : Arm) → arm_trees xs ≡ arms_to made n i cs → i < length xs →
      arms_units made units n (suc i) cs ≡ arms_units made units n i cs + units_of_arm made units n (arm_tree (get_or xs i d))
  arms_more n cs [] i d e l = absurd (omega arith)
  arms_more n no_arms (y ∷ xs) zero d e l = cc
  arms_more n no_arms (y ∷ xs) (suc i) d e l = cc
  arms_more n (arm_more c cs) (y ∷ xs) zero d e l =
      let p = first_arm (arm_tree y) c (arm_trees xs) cs e in
      let s : units_of_arm made units n (arm_tree y) ≡ units_of_arm made units n c = ap (units_of_arm made units n) p.0 in
      omega (arith, s)
  arms_more n (arm_more c cs) (y ∷ xs) (suc i) d e l =
      let p = first_arm (arm_tree y) (arm_rewritten made n c) (arm_trees xs) (arms_to made n i cs) e in
      let r = arms_more n cs xs i d p.1 (omega arith) in omega (arith, r)

  arms_all : (n : ℕ) (cs : ArmTrees) (xs : List Arm) → ArmsImprove n cs (arm_trees xs) → arms_to made n (length xs) cs ≡ arms_rewritten made n cs
  arms_all n no_arms [] h = refl
  arms_all n no_arms (y ∷ xs) h = absurd h
  arms_all n (arm_more c cs) [] h = absurd h
  arms_all n (arm_more c cs) (y ∷ xs) h = ap (arm_more (arm_rewritten made n c)) (arms_all n cs xs h.1)

  arms_sum : (n : ℕ) (cs : ArmTrees) (xs : List Arm) → ArmsImprove n cs (arm_trees xs) → arms_units made units n (length xs) cs ≡ units_of_arms made units n cs
  arms_sum n no_arms [] h = refl
  arms_sum n no_arms (y ∷ xs) h = absurd h
  arms_sum n (arm_more c cs) [] h = absurd h
  arms_sum n (arm_more c cs) (y ∷ xs) h = ap (λ m. units_of_arm made units n c + m) (arms_sum n cs xs h.1)

  pub arms_begin : {X : Type 0} {t : ℕ} (n : ℕ) (cs ds : ArmTrees) → ds ≡ cs → Walk (ArmsImprove n cs ds) (ds ≡ cs) 0 t t X X
  arms_begin n cs ds e = record { better = subst (ArmsImprove n cs) (sym e) (all_arms_self n cs); tally = omega arith; exact = λ k. (k, e, omega arith) }

  pub arms_next : {X Y Z : Type 0} {t t' t'' : ℕ} (n : ℕ) (cs : ArmTrees) (xs : List Arm) (i : ℕ) (d x : Arm) → i < length xs →
      Walk (ArmsImprove n cs (arm_trees xs)) (arm_trees xs ≡ arms_to made n i cs) (arms_units made units n i cs) t t' X Y →
      Walk (ArmImproves n (arm_tree (get_or xs i d)) (arm_tree x)) (arm_tree x ≡ arm_rewritten made n (arm_tree (get_or xs i d)))
      (units_of_arm made units n (arm_tree (get_or xs i d))) t' t'' Y Z →
      Walk (ArmsImprove n cs (arm_trees (set xs i x))) (arm_trees (set xs i x) ≡ arms_to made n (i + 1) cs) (arms_units made units n (i + 1) cs) t t'' X Z
  arms_next {X = X} {Y = Y} {Z = Z} {t = t} {t' = t'} {t'' = t''} n cs xs i d x l p q =
      subst (λ j. Walk (ArmsImprove n cs (arm_trees (set xs i x))) (arm_trees (set xs i x) ≡ arms_to made n j cs) (arms_units made units n j cs) t t'' X Z)
      (next i)
      (record {
        better = arms_step n cs xs i d x p.better l q.better;
        tally = omega (arith, p.tally, q.tally);
        exact = λ k.
            let e = q.exact k in
            let f = p.exact e.0 in (
              f.0,
              arms_on n cs xs i d x f.1 l e.1,
              more_units t t' t'' (arms_units made units n i cs) (units_of_arm made units n (arm_tree (get_or xs i d))) f.2 e.2
                  ∙ ap (λ m. capped (t + m)) (sym (arms_more n cs xs i d f.1 l)),
            );
      })

  pub arms_end : {X Y : Type 0} {t t' : ℕ} (n : ℕ) (cs : ArmTrees) (xs zs : List Arm) (i : ℕ) → i ≡ length xs → zs ≡ xs →
      Walk (ArmsImprove n cs (arm_trees xs)) (arm_trees xs ≡ arms_to made n i cs) (arms_units made units n i cs) t t' X Y →
      Walk (ArmsImprove n cs (arm_trees zs)) (arm_trees zs ≡ arms_rewritten made n cs) (units_of_arms made units n cs) t t' X Y
  arms_end {X = X} {Y = Y} {t = t} {t' = t'} n cs xs zs i e z p =
      let w = subst (λ j. Walk (ArmsImprove n cs (arm_trees xs)) (arm_trees xs ≡ arms_to made n j cs) (arms_units made units n j cs) t t' X Y) e p in
      subst (λ ys. Walk (ArmsImprove n cs (arm_trees ys)) (arm_trees ys ≡ arms_rewritten made n cs) (units_of_arms made units n cs) t t' X Y) (sym z)
      (record {
        better = w.better;
        tally = w.tally;
        exact = λ k. let h = w.exact k in (h.0, h.1 ∙ arms_all n cs xs w.better, h.2 ∙ ap (λ m. capped (t + m)) (arms_sum n cs xs w.better));
      })
