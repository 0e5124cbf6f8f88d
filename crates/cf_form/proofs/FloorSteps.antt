-- Steps of the walk that tells floors.
use Rattle.std.proofs.Common.{◌≡◌, ℕ, ◌-◌, ◌^◌, sym, subst}
use Rattle.cf_tree.specs.declared.raw.BinOp.{BinOp}
use Rattle.cf_tree.specs.ExprTree.{ExprTree}
use Rattle.cf_form.specs.declared.floor.Floor.{Floor}
use Rattle.cf_form.specs.declared.floor.Floor.TheVariants.{Number, Truth}
use Rattle.cf_form.specs.Expansion.{Calls}
use Rattle.cf_form.specs.Floor.{HaveFloor, IsHeavy}

pub have_numbers : (op : BinOp) (left right f : Floor) (v w : ℕ) → left ≡ Number v → right ≡ Number w → HaveFloor op (Number v) (Number w) f →
    HaveFloor op left right f
have_numbers op left right f v w e g h =
    subst (λ l. HaveFloor op l right f) (sym e) (subst (λ r. HaveFloor op (Number v) r f) (sym g) h)

pub have_truths : (op : BinOp) (left right f : Floor) (v w : ℕ) → left ≡ Truth v → right ≡ Truth w → HaveFloor op (Truth v) (Truth w) f →
    HaveFloor op left right f
have_truths op left right f v w e g h =
    subst (λ l. HaveFloor op l right f) (sym e) (subst (λ r. HaveFloor op (Truth v) r f) (sym g) h)

pub heavy_top : (calls : Calls) (w : ℕ) (e : ExprTree) → w ≡ 2 ^ 64 - 1 → IsHeavy calls w e → IsHeavy calls (2 ^ 64 - 1) e
heavy_top calls w e top h = subst (λ n. IsHeavy calls n e) top h
