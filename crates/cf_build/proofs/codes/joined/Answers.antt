use Rattle.std.proofs.Common.{rules, ◌≡◌, ◌≢◌, ◌∙◌, length, sym}
use Rattle.cf_tree.specs.CodeTree.{code_tuple}
use Rattle.cf_tree.specs.CodeView.{code_tree, code_trees}
use Rattle.cf_tree.specs.declared.code.Code.{Tuple, the_lemmas}
use Rattle.cf_build.proofs.CodeLists.{joined_tuple}
use Rattle.cf_build.proofs.codes.joined.Goals as goal

pub returns-then-len-ne1-clause-code : goal.returns-then-len-ne1-clause-code
returns-then-len-ne1-clause-code c =
    let several : length c.args.codes.items ≢ 1 = search rules in
    let tree : code_tree (Tuple c.args.codes) ≡ code_tuple (code_trees c.args.codes.items) = search (rules, the_lemmas) in
    tree ∙ sym (joined_tuple c.args.codes.items several)
