-- What a walk over code tells: what it makes, and how many units it counts.
use Rattle.std.specs.Prelude.{ℕ, ◌≡◌, ◌≤◌, ◌+◌, Result, IsOk, IfOk}
use Rattle.cf_tree.specs.CodeTree.{CodeTree, CodeTrees, ItemTree, ItemTrees, ArmTree, ArmTrees}
use Rattle.cf_tree.specs.RelSize.{capped}
use Rattle.cf_tree.specs.declared.memory.NoMemory.{NoMemory}
use Rattle.cf_pass.specs.Improves.{Improves}
use Rattle.cf_pass.specs.Parts.{count_lets, behind_item, AllImprove, ItemImproves, ItemsImprove, ArmImproves, ArmsImprove}
use Rattle.cf_pass.specs.Rewritten.{rewritten, all_rewritten, item_rewritten, items_rewritten, arm_rewritten, arms_rewritten, units_of, units_of_all, units_of_item, units_of_items, units_of_arm, units_of_arms}

-- from one tally to another: what is made is better, and where memory is not wanting behind, it was not before, and all is done
pub record Walk (Better Whole : Type 0) (units start end : ℕ) (Before Behind : Type 0) : Type 0 where
  pub better : Better
  pub tally : start ≤ end
  pub exact : Behind → Before × Whole × (capped end ≡ capped (start + units))

abbrev pub Outcome : Type 0
Outcome = Result (Unit {0}) NoMemory

-- a level, or want of memory before it
abbrev pub Level : Type 0
Level = Result ℕ NoMemory

module _ (made : ℕ → CodeTree → CodeTree) (units : ℕ → CodeTree → ℕ) (n : ℕ) where
  -- a form whose parts stay
  abbrev pub FormWalked : CodeTree → CodeTree → ℕ → ℕ → Outcome → Outcome → Type 0
  FormWalked c d start end before behind = Walk (Improves n c d) (d ≡ made n c) (units n c) start end (IsOk before) (IsOk behind)

  abbrev pub Walked : CodeTree → CodeTree → ℕ → ℕ → Outcome → Outcome → Type 0
  Walked c d start end before behind =
      Walk (Improves n c d) (d ≡ rewritten made n c) (units_of made units n c) start end (IsOk before) (IsOk behind)

  -- a form whose parts are walked: once the form itself is, the whole is
  abbrev pub PartsWalked : CodeTree → CodeTree → ℕ → ℕ → Outcome → Outcome → Type 0
  PartsWalked c d start middle before between = (e : CodeTree) (end : ℕ) (behind : Outcome) →
      FormWalked d e middle end between behind → Walked c e start end before behind

  abbrev pub AllWalked : CodeTrees → CodeTrees → ℕ → ℕ → Outcome → Outcome → Type 0
  AllWalked cs ds start end before behind =
      Walk (AllImprove n cs ds) (ds ≡ all_rewritten made n cs) (units_of_all made units n cs) start end (IsOk before) (IsOk behind)

  -- at level n, if memory was not wanting
  abbrev pub GivesWalked : CodeTrees → CodeTrees → ℕ → ℕ → Level → Outcome → Type 0
  GivesWalked cs ds start end level behind = IfOk level (λ m. m ≡ n) →
      Walk (AllImprove n cs ds) (ds ≡ all_rewritten made n cs) (units_of_all made units n cs) start end (IsOk level) (IsOk behind)

  abbrev pub ItemWalked : ItemTree → ItemTree → ℕ → ℕ → Level → Level → Type 0
  ItemWalked i j start end level behind = IfOk level (λ m. m ≡ n) →
      Walk (ItemImproves n i j) (j ≡ item_rewritten made n i) (units_of_item made units n i) start end (IsOk level) (IsOk behind)
      × IfOk behind (λ m. m ≡ behind_item i n)

  abbrev pub ItemsWalked : ItemTrees → ItemTrees → ℕ → ℕ → Level → Level → Type 0
  ItemsWalked is js start end level behind = IfOk level (λ m. m ≡ n) →
      Walk (ItemsImprove n is js) (js ≡ items_rewritten made n is) (units_of_items made units n is) start end (IsOk level) (IsOk behind)
      × IfOk behind (λ m. m ≡ n + count_lets is)

  abbrev pub ArmWalked : ArmTree → ArmTree → ℕ → ℕ → Outcome → Outcome → Type 0
  ArmWalked a b start end before behind =
      Walk (ArmImproves n a b) (b ≡ arm_rewritten made n a) (units_of_arm made units n a) start end (IsOk before) (IsOk behind)

  abbrev pub ArmsWalked : ArmTrees → ArmTrees → ℕ → ℕ → Outcome → Outcome → Type 0
  ArmsWalked arms brms start end before behind =
      Walk (ArmsImprove n arms brms) (brms ≡ arms_rewritten made n arms) (units_of_arms made units n arms) start end (IsOk before) (IsOk behind)
