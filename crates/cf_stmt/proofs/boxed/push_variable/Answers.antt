use Rattle.std.proofs.Common.{◌∙◌, ap}
use Rattle.cf_tree.specs.CodeTree.{code_more, no_codes}
use Rattle.cf_tree.specs.CodeView.{code_trees}
use Rattle.cf_stmt.specs.Made.{append}
use Rattle.cf_stmt.proofs.SumSteps.{codes_push}
use Rattle.cf_stmt.proofs.boxed.push_variable.Goals as goal

pub returns : goal.returns
returns c =
    ap code_trees c.in_ok-push.ensures.items
    ∙ (codes_push c.args.all.now.items c.in_ok-code.code
    ∙ ap (λ d. append (code_trees c.args.all.now.items) (code_more d no_codes)) c.in_ok-code.ensures)
