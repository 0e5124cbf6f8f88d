use Rattle.cf_tree.specs.CodeView.{code_tree}
use Rattle.cf_range.proofs.TidiedLaws.{once_answers}
use Rattle.cf_range.proofs.TidiedTypes.{once_keeps}
use Rattle.cf_range.proofs.tidy.once.Goals as goal

pub returns-clause-answers : goal.returns-clause-answers
returns-clause-answers c =
    once_answers c.args.ranges.now (code_tree c.args.code.now) (code_tree c.in_ok-settled.settled) (code_tree c.in_ok-new.new) c.in_ok-settled.ensures c.in_ok-new.ensures

pub returns-clause-types : goal.returns-clause-types
returns-clause-types c =
    once_keeps c.args.ranges.now (code_tree c.args.code.now) (code_tree c.in_ok-settled.settled) (code_tree c.in_ok-new.new) c.in_ok-settled.ensures c.in_ok-new.ensures
