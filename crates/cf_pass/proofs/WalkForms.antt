-- Each form whose parts were walked, and then the form itself.
use Rattle.std.proofs.Common.{◌≡◌, ℕ, ◌+◌, ℤ, List, length, refl, sym, ap, ap₂, subst, ◌∙◌}
use Rattle.cf_tree.specs.declared.base.Order.{Order}
use Rattle.cf_tree.specs.CodeTree.{CodeTree, code_set_of, code_tuple, code_sum, code_sub, code_mul, code_neg, code_div, code_mod, code_min, code_max, code_compare, code_divides, code_and, code_or, code_not, code_union, code_inter, code_diff, code_subset, code_card, code_slice, code_fresh, code_if, code_let, code_solve, CodeTrees, ItemTree, let_item, need_item, ItemTrees, ArmTree, arm_of, ArmTrees}
use Rattle.cf_tree.specs.RelSize.{capped}
use Rattle.cf_pass.specs.Improves.{Improves}
use Rattle.cf_pass.specs.Laws.{OverOne, OverTwo, OverThree, OverList}
use Rattle.cf_pass.specs.Parts.{count_lets, AllImprove, ItemImproves, ItemsImprove, ArmImproves, ArmsImprove}
use Rattle.cf_pass.specs.Rewritten.{rewritten, all_rewritten, item_rewritten, items_rewritten, arm_rewritten, arms_rewritten, units_of, units_of_all, units_of_item, units_of_items, units_of_arm, units_of_arms}
use Rattle.cf_pass.specs.Walked.{Walk}
use Rattle.cf_pass.proofs.Arms.{improves_solve, arms_given, arms_better}
use Rattle.cf_pass.proofs.CodeLists.{improves_set_of, improves_tuple, improves_sum, improves_min, improves_max, improves_union, improves_inter}
use Rattle.cf_pass.proofs.Forms.{improves_neg, improves_not, improves_card, improves_div, improves_mod, improves_divides, improves_sub, improves_mul, improves_diff, improves_subset, improves_fresh, improves_and, improves_or, improves_compare, improves_slice, improves_if, improves_let}
use Rattle.cf_pass.proofs.WalkSteps.{then_part, then_form}

module _ (made : ℕ → CodeTree → CodeTree) (units : ℕ → CodeTree → ℕ) (n : ℕ) where
  -- a code whose parts are walked too
  abbrev pub OfCode : (old new : CodeTree) (t t' : ℕ) (X Y : Type 0) → Type 0
  OfCode old new t t' X Y = Walk (Improves n old new) (new ≡ rewritten made n old) (units_of made units n old) t t' X Y

  -- a form whose parts stay
  abbrev pub OfForm : (old new : CodeTree) (t t' : ℕ) (X Y : Type 0) → Type 0
  OfForm old new t t' X Y = Walk (Improves n old new) (new ≡ made n old) (units n old) t t' X Y

  abbrev pub OfList : (olds news : CodeTrees) (t t' : ℕ) (X Y : Type 0) → Type 0
  OfList olds news t t' X Y = Walk (AllImprove n olds news) (news ≡ all_rewritten made n olds) (units_of_all made units n olds) t t' X Y

  abbrev pub OfArms : (olds news : ArmTrees) (t t' : ℕ) (X Y : Type 0) → Type 0
  OfArms olds news t t' X Y = Walk (ArmsImprove n olds news) (news ≡ arms_rewritten made n olds) (units_of_arms made units n olds) t t' X Y

  -- the form over parts that are rewritten is the code that is rewritten, all but the form itself
  pub record Whole (old mid : CodeTree) (u : ℕ) : Type 0 where
    pub code : rewritten made n old ≡ made n mid
    pub sum : units_of made units n old ≡ u + units n mid

  by_parts : {A S X Y Z : Type 0} {u t t' t'' : ℕ} (old form mid walked whole new : CodeTree) → old ≡ form → mid ≡ walked → Whole form whole u →
      (A → Improves n form walked) → (S → walked ≡ whole) → Walk A S u t t' X Y → OfForm mid new t' t'' Y Z → OfCode old new t t'' X Z
  by_parts {X = X} {Y = Y} {Z = Z} {u = u} {t = t} {t' = t'} {t'' = t''} old form mid walked whole new e f w better same p q =
      let r = then_form made units n form walked whole new better same p (subst (λ m. OfForm m new t' t'' Y Z) f q) in
      subst (λ o. OfCode o new t t'' X Z) (sym e)
      (record {
        better = r.better;
        tally = r.tally;
        exact = λ k. let h = r.exact k in (h.0, h.1 ∙ sym w.code, h.2 ∙ ap (λ m. capped (t + m)) (sym w.sum));
      })

  pub leaf : {t t' : ℕ} {X Y : Type 0} (old form new : CodeTree) → old ≡ form → rewritten made n form ≡ made n form →
      units_of made units n form ≡ units n form →
      OfForm old new t t' X Y → OfCode old new t t' X Y
  leaf {t = t} {t' = t'} {X = X} {Y = Y} old form new e a b q =
      let r = subst (λ o. OfForm o new t t' X Y) e q in
      subst (λ o. OfCode o new t t' X Y) (sym e)
      (record {
        better = r.better;
        tally = r.tally;
        exact = λ k. let h = r.exact k in (h.0, h.1 ∙ sym a, h.2 ∙ ap (λ m. capped (t + m)) (sym b));
      })

  -- ---- forms over one part
  pub record IsOverOne (form : CodeTree → CodeTree) : Type 0 where
    pub over : OverOne form
    pub whole : (a : CodeTree) → Whole (form a) (form (rewritten made n a)) (units_of made units n a)

  pub over_one : {t t' t'' : ℕ} {X Y Z : Type 0} (form : CodeTree → CodeTree) → IsOverOne form → (old a a' mid new : CodeTree) →
      OfCode a a' t t' X Y → OfForm mid new t' t'' Y Z → mid ≡ form a' → old ≡ form a → OfCode old new t t'' X Z
  over_one form i old a a' mid new p q f e =
      by_parts old (form a) mid (form a') (form (rewritten made n a)) new e f (i.whole a) (i.over n a a') (ap form) p q

  pub record IsOverTwo (form : CodeTree → CodeTree → CodeTree) : Type 0 where
    pub over : OverTwo form
    pub whole : (a b : CodeTree) → Whole (form a b) (form (rewritten made n a) (rewritten made n b)) (units_of made units n a + units_of made units n b)

  pub over_two : {t t' t'' r : ℕ} {X Y Z W : Type 0} (form : CodeTree → CodeTree → CodeTree) → IsOverTwo form → (old a a' b b' mid new : CodeTree) →
      OfCode a a' t t' X Y → OfCode b b' t' t'' Y Z → OfForm mid new t'' r Z W → mid ≡ form a' b' → old ≡ form a b → OfCode old new t r X W
  over_two form i old a a' b b' mid new p p' q f e =
      by_parts old (form a b) mid (form a' b') (form (rewritten made n a) (rewritten made n b)) new e f (i.whole a b) (λ h. i.over n a a' b b' h.0 h.1)
      (λ s. ap₂ form s.0 s.1) (then_part p p') q

  pub record IsOverThree (form : CodeTree → CodeTree → CodeTree → CodeTree) : Type 0 where
    pub over : OverThree form
    pub whole : (a b c : CodeTree) → Whole (form a b c) (form (rewritten made n a) (rewritten made n b) (rewritten made n c))
        (units_of made units n a + units_of made units n b + units_of made units n c)

  pub over_three : {t t' t'' r r' : ℕ} {X Y Z W V : Type 0} (form : CodeTree → CodeTree → CodeTree → CodeTree) → IsOverThree form →
      (old a a' b b' c c' mid new : CodeTree) → OfCode a a' t t' X Y → OfCode b b' t' t'' Y Z → OfCode c c' t'' r Z W → OfForm mid new r r' W V →
      mid ≡ form a' b' c' → old ≡ form a b c → OfCode old new t r' X V
  over_three form i old a a' b b' c c' mid new p p' p'' q f e =
      by_parts old (form a b c) mid (form a' b' c') (form (rewritten made n a) (rewritten made n b) (rewritten made n c)) new e f (i.whole a b c)
      (λ h. i.over n a a' b b' c c' h.0.0 h.0.1 h.1) (λ s. ap₂ (λ g z. g z) (ap₂ form s.0.0 s.0.1) s.1) (then_part (then_part p p') p'') q

  pub record IsOverList (form : CodeTrees → CodeTree) : Type 0 where
    pub over : OverList form
    pub whole : (cs : CodeTrees) → Whole (form cs) (form (all_rewritten made n cs)) (units_of_all made units n cs)

  pub over_list : {t t' t'' : ℕ} {X Y Z : Type 0} (form : CodeTrees → CodeTree) → IsOverList form → (old : CodeTree) (cs ds : CodeTrees) (mid new : CodeTree) →
      OfList cs ds t t' X Y → OfForm mid new t' t'' Y Z → mid ≡ form ds → old ≡ form cs → OfCode old new t t'' X Z
  over_list form i old cs ds mid new p q f e =
      by_parts old (form cs) mid (form ds) (form (all_rewritten made n cs)) new e f (i.whole cs) (i.over n cs ds) (ap form) p q

  pub over_arms : {t t' t'' : ℕ} {X Y Z : Type 0} (k : ℕ) (old : CodeTree) (arms brms : ArmTrees) (mid new : CodeTree) →
      OfArms arms brms t t' X Y → OfForm mid new t' t'' Y Z → mid ≡ code_solve k brms → old ≡ code_solve k arms → OfCode old new t t'' X Z
  over_arms k old arms brms mid new p q f e =
      by_parts old (code_solve k arms) mid (code_solve k brms) (code_solve k (arms_rewritten made n arms)) new e f (record { code = refl; sum = refl })
      (λ h. improves_solve n k arms brms (arms_given n arms brms h) (arms_better n arms brms h)) (ap (code_solve k)) p q

  pub over_binding : {t t' t'' r : ℕ} {X Y Z W : Type 0} (first bound : ℕ) (old a a' b b' mid new : CodeTree) → OfCode a a' t t' X Y →
      Walk (Improves (n + bound) b b') (b' ≡ rewritten made (n + bound) b) (units_of made units (n + bound) b) t' t'' Y Z → OfForm mid new t'' r Z W →
      mid ≡ code_let first bound a' b' → old ≡ code_let first bound a b → OfCode old new t r X W
  over_binding first bound old a a' b b' mid new p p' q f e =
      by_parts old (code_let first bound a b) mid (code_let first bound a' b') (code_let first bound (rewritten made n a) (rewritten made (n + bound) b)) new e
      f
      (record { code = refl; sum = refl }) (λ h. improves_let n first bound a a' b b' h.0 h.1) (λ s. ap₂ (code_let first bound) s.0 s.1) (then_part p p') q

  pub neg_over : IsOverOne code_neg
  neg_over = record { over = improves_neg; whole = λ a. record { code = refl; sum = refl } }

  pub not_over : IsOverOne code_not
  not_over = record { over = improves_not; whole = λ a. record { code = refl; sum = refl } }

  pub card_over : IsOverOne code_card
  card_over = record { over = improves_card; whole = λ a. record { code = refl; sum = refl } }

  pub div_over : (k : ℤ) → IsOverOne (λ c. code_div c k)
  div_over k = record { over = λ m a b h. improves_div m a b h k; whole = λ a. record { code = refl; sum = refl } }

  pub mod_over : (k : ℤ) → IsOverOne (λ c. code_mod c k)
  mod_over k = record { over = λ m a b h. improves_mod m a b h k; whole = λ a. record { code = refl; sum = refl } }

  pub divides_over : (k : ℤ) → IsOverOne (λ c. code_divides k c)
  divides_over k = record { over = λ m a b h. improves_divides m a b h k; whole = λ a. record { code = refl; sum = refl } }

  pub sub_over : IsOverTwo code_sub
  sub_over = record { over = improves_sub; whole = λ a b. record { code = refl; sum = refl } }

  pub mul_over : IsOverTwo code_mul
  mul_over = record { over = improves_mul; whole = λ a b. record { code = refl; sum = refl } }

  pub diff_over : IsOverTwo code_diff
  diff_over = record { over = improves_diff; whole = λ a b. record { code = refl; sum = refl } }

  pub subset_over : IsOverTwo code_subset
  subset_over = record { over = improves_subset; whole = λ a b. record { code = refl; sum = refl } }

  pub fresh_over : IsOverTwo code_fresh
  fresh_over = record { over = improves_fresh; whole = λ a b. record { code = refl; sum = refl } }

  pub and_over : IsOverTwo code_and
  and_over = record { over = improves_and; whole = λ a b. record { code = refl; sum = refl } }

  pub or_over : IsOverTwo code_or
  or_over = record { over = improves_or; whole = λ a b. record { code = refl; sum = refl } }

  pub compare_over : (o : Order) → IsOverTwo (code_compare o)
  compare_over o = record { over = λ m a c b d h k. improves_compare m a c b d h k o; whole = λ a b. record { code = refl; sum = refl } }

  pub slice_over : IsOverThree code_slice
  slice_over = record { over = improves_slice; whole = λ a b c. record { code = refl; sum = refl } }

  pub if_over : IsOverThree code_if
  if_over = record { over = improves_if; whole = λ a b c. record { code = refl; sum = refl } }

  pub set_of_over : IsOverList code_set_of
  set_of_over = record { over = improves_set_of; whole = λ cs. record { code = refl; sum = refl } }

  pub tuple_over : IsOverList code_tuple
  tuple_over = record { over = improves_tuple; whole = λ cs. record { code = refl; sum = refl } }

  pub sum_over : IsOverList code_sum
  sum_over = record { over = improves_sum; whole = λ cs. record { code = refl; sum = refl } }

  pub min_over : IsOverList code_min
  min_over = record { over = improves_min; whole = λ cs. record { code = refl; sum = refl } }

  pub max_over : IsOverList code_max
  max_over = record { over = improves_max; whole = λ cs. record { code = refl; sum = refl } }

  pub union_over : IsOverList code_union
  union_over = record { over = improves_union; whole = λ cs. record { code = refl; sum = refl } }

  pub inter_over : IsOverList code_inter
  inter_over = record { over = improves_inter; whole = λ cs. record { code = refl; sum = refl } }

  -- forms with a number
  pub over_div : {t t' t'' : ℕ} {X Y Z : Type 0} (k : ℤ) (old a a' mid new : CodeTree) →
      OfCode a a' t t' X Y → OfForm mid new t' t'' Y Z → mid ≡ code_div a' k → old ≡ code_div a k → OfCode old new t t'' X Z
  over_div k = over_one (λ c. code_div c k) (div_over k)

  pub over_mod : {t t' t'' : ℕ} {X Y Z : Type 0} (k : ℤ) (old a a' mid new : CodeTree) →
      OfCode a a' t t' X Y → OfForm mid new t' t'' Y Z → mid ≡ code_mod a' k → old ≡ code_mod a k → OfCode old new t t'' X Z
  over_mod k = over_one (λ c. code_mod c k) (mod_over k)

  pub over_divides : {t t' t'' : ℕ} {X Y Z : Type 0} (k : ℤ) (old a a' mid new : CodeTree) →
      OfCode a a' t t' X Y → OfForm mid new t' t'' Y Z → mid ≡ code_divides k a' → old ≡ code_divides k a → OfCode old new t t'' X Z
  over_divides k = over_one (λ c. code_divides k c) (divides_over k)

  pub over_compare : {t t' t'' r : ℕ} {X Y Z W : Type 0} (o : Order) (old a a' b b' mid new : CodeTree) → OfCode a a' t t' X Y → OfCode b b' t' t'' Y Z →
      OfForm mid new t'' r Z W → mid ≡ code_compare o a' b' → old ≡ code_compare o a b → OfCode old new t r X W
  over_compare o = over_two (code_compare o) (compare_over o)

-- ---- items and arms
module _ (made : ℕ → CodeTree → CodeTree) (units : ℕ → CodeTree → ℕ) where
  pub at_level : {t t' : ℕ} {X Y : Type 0} (m n : ℕ) (old new : CodeTree) → m ≡ n → OfCode made units m old new t t' X Y → OfCode made units n old new t t' X Y
  at_level {t = t} {t' = t'} {X = X} {Y = Y} m n old new e p = subst (λ k. OfCode made units k old new t t' X Y) e p

  pub list_at : {t t' : ℕ} {X Y : Type 0} (m n : ℕ) (olds news : CodeTrees) → m ≡ n → OfList made units m olds news t t' X Y →
      OfList made units n olds news t t' X Y
  list_at {t = t} {t' = t'} {X = X} {Y = Y} m n olds news e p = subst (λ k. OfList made units k olds news t t' X Y) e p

  abbrev pub OfItem : (n : ℕ) (old new : ItemTree) (t t' : ℕ) (X Y : Type 0) → Type 0
  OfItem n old new t t' X Y = Walk (ItemImproves n old new) (new ≡ item_rewritten made n old) (units_of_item made units n old) t t' X Y

  pub of_let : {t t' : ℕ} {X X' Y Z : Type 0} (m n : ℕ) (old new : ItemTree) (a b : CodeTree) → OfCode made units m a b t t' X Y → old ≡ let_item a →
      new ≡ let_item b → m ≡ n → (X → X') → (Z → Y) → OfItem n old new t t' X' Z
  of_let {t = t} {t' = t'} {X = X} {X' = X'} {Y = Y} {Z = Z} m n old new a b p e f l g h =
      let q = at_level m n a b l p in
      subst (λ o. OfItem n o new t t' X' Z) (sym e)
      (subst (λ o. OfItem n (let_item a) o t t' X' Z) (sym f)
      (record {
        better = q.better;
        tally = q.tally;
        exact = λ k. let d = q.exact (h k) in (g d.0, ap let_item d.1, d.2);
      }))

  pub of_need : {t t' : ℕ} {X X' Y Z : Type 0} (m n : ℕ) (old new : ItemTree) (a b : CodeTree) → OfCode made units m a b t t' X Y → old ≡ need_item a →
      new ≡ need_item b → m ≡ n → (X → X') → (Z → Y) → OfItem n old new t t' X' Z
  of_need {t = t} {t' = t'} {X = X} {X' = X'} {Y = Y} {Z = Z} m n old new a b p e f l g h =
      let q = at_level m n a b l p in
      subst (λ o. OfItem n o new t t' X' Z) (sym e)
      (subst (λ o. OfItem n (need_item a) o t t' X' Z) (sym f)
      (record {
        better = q.better;
        tally = q.tally;
        exact = λ k. let d = q.exact (h k) in (g d.0, ap need_item d.1, d.2);
      }))

  abbrev pub OfArm : (n : ℕ) (old new : ArmTree) (t t' : ℕ) (X Y : Type 0) → Type 0
  OfArm n old new t t' X Y = Walk (ArmImproves n old new) (new ≡ arm_rewritten made n old) (units_of_arm made units n old) t t' X Y

  pub of_arm : {t t' t'' : ℕ} {X Y Z : Type 0} (n : ℕ) (old new : ArmTree) (bounds : List ℕ) (is js : ItemTrees) (gs hs : CodeTrees) →
      Walk (ItemsImprove (n + length bounds) is js) (js ≡ items_rewritten made (n + length bounds) is) (units_of_items made units (n + length bounds) is) t t' X
      Y →
      OfList made units (n + length bounds + count_lets is) gs hs t' t'' Y Z → old ≡ arm_of bounds is gs → new ≡ arm_of bounds js hs → OfArm n old new t t'' X Z
  of_arm {t = t} {t' = t'} {t'' = t''} {X = X} {Y = Y} {Z = Z} n old new bounds is js gs hs p q e f =
      let r = then_part p q in
      subst (λ o. OfArm n o new t t'' X Z) (sym e)
      (subst (λ o. OfArm n (arm_of bounds is gs) o t t'' X Z) (sym f)
      (record {
        better = (refl, r.better.0, r.better.1);
        tally = r.tally;
        exact = λ k. let d = r.exact k in (d.0, ap₂ (arm_of bounds) d.1.0 d.1.1, d.2);
      }))
