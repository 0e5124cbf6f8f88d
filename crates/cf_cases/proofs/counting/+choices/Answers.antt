use Rattle.cf_tree.specs.RelView.{term_tree}
use Rattle.cf_linear.specs.Written.{abs_count}
use Rattle.cf_cases.proofs.CountLaws.{two_choices}
use Rattle.cf_cases.proofs.counting.+choices.Goals as goal

pub returns-in-Add : goal.returns-in-Add
returns-in-Add t c =
    rw c.in-Add.is (two_choices (abs_count (term_tree c.in-Add.a.value)) (abs_count (term_tree c.in-Add.b.value)) _ _ _
    (rw c.deref.ensures at c.choices.ensures) (rw c.deref-in-Add.ensures at c.choices-in-Add.ensures) c.saturating_mul.ensures)

pub returns-in-Sub : goal.returns-in-Sub
returns-in-Sub t c =
    rw c.in-Sub.is (two_choices (abs_count (term_tree c.in-Sub.a.value)) (abs_count (term_tree c.in-Sub.b.value)) _ _ _
    (rw c.deref-in-Sub.ensures at c.choices-in-Sub.ensures) (rw c.deref-in-Sub-2.ensures at c.choices-in-Sub-2.ensures) c.saturating_mul-in-Sub.ensures)

pub returns-in-Mul : goal.returns-in-Mul
returns-in-Mul t c =
    rw c.in-Mul.is (two_choices (abs_count (term_tree c.in-Mul.a.value)) (abs_count (term_tree c.in-Mul.b.value)) _ _ _
    (rw c.deref-in-Mul.ensures at c.choices-in-Mul.ensures) (rw c.deref-in-Mul-2.ensures at c.choices-in-Mul-2.ensures) c.saturating_mul-in-Mul.ensures)
