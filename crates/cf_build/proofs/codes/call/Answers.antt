use Rattle.std.proofs.Common.{rules, ◌≡◌, ◌≢◌, ◌∙◌, length, sym, ap}
use Rattle.cf_tree.specs.CodeTree.{code_let}
use Rattle.cf_tree.specs.CodeView.{code_tree, code_trees}
use Rattle.cf_tree.specs.declared.code.Code.{the_lemmas}
use Rattle.cf_tree.specs.declared.code.Code.TheViews.{Code::Let}
use Rattle.cf_build.specs.Codes.{joined_code}
use Rattle.cf_build.proofs.CodeLists.{call_with, let_same}
use Rattle.cf_build.proofs.codes.call.Goals as goal

pub returns-clause-code : goal.returns-clause-code
returns-clause-code c =
    let some : length c.args.args.items ≢ 0 = search rules in
    let tree : code_tree (Code::Let c.args.n c.in_ok-count.count c.in_ok-value.value c.in_ok-body.body) ≡ code_let c.args.n c.in_ok-count.count
    (code_tree c.in_ok-value.value.value) (code_tree c.in_ok-body.body.value) = search (rules, the_lemmas) in
    let number : c.in_ok-count.count ≡ length c.args.args.items = c.in_ok-count.ensures.0 ∙ ap length c.deref.ensures.value in
    let value : code_tree c.in_ok-value.value.value ≡ joined_code (code_trees c.args.args.items) =
    ap code_tree c.in_ok-value.ensures.ok ∙ c.joined.ensures.code in
    let body : code_tree c.in_ok-body.body.value ≡ code_tree c.args.body = ap code_tree c.in_ok-body.ensures.ok in
    tree ∙ let_same c.args.n _ _ _ _ _ _ number value body ∙ sym (call_with c.args.n c.args.args.items (code_tree c.args.body) some)
