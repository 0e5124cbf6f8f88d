-- What may take the place of a code: the same code, and each form over parts that may take the places of its parts.
use Rattle.std.specs.Prelude.{ℕ, ◌+◌, ℤ}
use Rattle.cf_tree.specs.declared.base.Order.{Order}
use Rattle.cf_tree.specs.CodeTree.{CodeTree, code_set_of, code_tuple, code_sum, code_sub, code_mul, code_neg, code_div, code_mod, code_min, code_max, code_compare}
use Rattle.cf_tree.specs.CodeTree.{code_divides, code_and, code_or, code_not, code_union, code_inter, code_diff, code_subset, code_card, code_slice, code_fresh}
use Rattle.cf_tree.specs.CodeTree.{code_if, code_let, code_solve, CodeTrees, ArmTrees}
use Rattle.cf_pass.specs.Improves.{Improves}
use Rattle.cf_pass.specs.Parts.{AllImprove, ArmsImprove}

abbrev pub OverOne : (CodeTree → CodeTree) → Type 0
OverOne form = (n : ℕ) (a b : CodeTree) → Improves n a b → Improves n (form a) (form b)

abbrev pub OverTwo : (CodeTree → CodeTree → CodeTree) → Type 0
OverTwo form = (n : ℕ) (a c b d : CodeTree) → Improves n a c → Improves n b d → Improves n (form a b) (form c d)

abbrev pub OverThree : (CodeTree → CodeTree → CodeTree → CodeTree) → Type 0
OverThree form =
    (n : ℕ) (a d b e c f : CodeTree) → Improves n a d → Improves n b e → Improves n c f → Improves n (form a b c) (form d e f)

abbrev pub OverList : (CodeTrees → CodeTree) → Type 0
OverList form = (n : ℕ) (cs ds : CodeTrees) → AllImprove n cs ds → Improves n (form cs) (form ds)

pub record FormsImprove : Type 0 where
  pub itself : (n : ℕ) (c : CodeTree) → Improves n c c
  pub again : (n : ℕ) (a b c : CodeTree) → Improves n a b → Improves n b c → Improves n a c
  pub over_neg : OverOne code_neg
  pub over_not : OverOne code_not
  pub over_card : OverOne code_card
  pub over_div : (k : ℤ) → OverOne (λ c. code_div c k)
  pub over_mod : (k : ℤ) → OverOne (λ c. code_mod c k)
  pub over_divides : (k : ℤ) → OverOne (λ c. code_divides k c)
  pub over_sub : OverTwo code_sub
  pub over_mul : OverTwo code_mul
  pub over_diff : OverTwo code_diff
  pub over_subset : OverTwo code_subset
  pub over_fresh : OverTwo code_fresh
  pub over_and : OverTwo code_and
  pub over_or : OverTwo code_or
  pub over_compare : (o : Order) → OverTwo (λ a b. code_compare o a b)
  pub over_slice : OverThree code_slice
  pub over_if : OverThree code_if
  pub over_let : (n first bound : ℕ) (a c b d : CodeTree) → Improves n a c → Improves (n + bound) b d →
      Improves n (code_let first bound a b) (code_let first bound c d)
  pub over_set_of : OverList code_set_of
  pub over_tuple : OverList code_tuple
  pub over_sum : OverList code_sum
  pub over_min : OverList code_min
  pub over_max : OverList code_max
  pub over_union : OverList code_union
  pub over_inter : OverList code_inter
  pub over_solve : (n k : ℕ) (arms brms : ArmTrees) → ArmsImprove n arms brms → Improves n (code_solve k arms) (code_solve k brms)
