use Rattle.cf_tree.specs.CodeView.{code_tree}
use Rattle.cf_range.proofs.TidiedLaws.{both_answer}
use Rattle.cf_range.proofs.TidiedTypes.{both_keep}
use Rattle.cf_range.proofs.tidy.tidied.Goals as goal

pub returns-clause-answers : goal.returns-clause-answers
returns-clause-answers c =
    let rs = c.args.ranges.now in
    let a = code_tree c.args.code.now in
    let b = code_tree c.in_ok-first.first in
    let d = code_tree c.in_ok-second.second in
    let e = code_tree c.in_ok-third.third in
    both_answer rs a d e (both_answer rs a b d c.in_ok-first.ensures.answers c.in_ok-second.ensures.answers) c.in_ok-third.ensures.answers

pub returns-clause-types : goal.returns-clause-types
returns-clause-types c =
    let rs = c.args.ranges.now in
    let a = code_tree c.args.code.now in
    let b = code_tree c.in_ok-first.first in
    let d = code_tree c.in_ok-second.second in
    let e = code_tree c.in_ok-third.third in
    both_keep rs a d e (both_keep rs a b d c.in_ok-first.ensures.types c.in_ok-second.ensures.types) c.in_ok-third.ensures.types
