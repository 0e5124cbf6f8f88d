use Rattle.cf_linear.proofs.PassingLemmas.{true_not_false, negated_not}
use Rattle.cf_linear.proofs.row.Row.negated.Goals as goal

pub unreachable-requires : goal.unreachable-requires
unreachable-requires c = true_not_false (rw c.in-Err-Past.field-0-is at c.in-Err-Past.ensures.gives) (negated_not c.args.self.now c.in-Err-Past.ensures.rows)
