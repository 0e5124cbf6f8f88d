use Rattle.std.proofs.Common.{rules, ◌≡◌, vec_len}
use Rattle.cf_tree.specs.CodeView.{item_trees, code_trees}
use Rattle.cf_pass.specs.Parts.{count_lets}
use Rattle.cf_pass.proofs.LetMarks.{fresh_marks, stay_marked}
use Rattle.cf_pass.proofs.marks.lets_that_stay.Goals as goal

pub returns : goal.returns
returns c =
    let n : c.count_lets-count.result ≡ count_lets (item_trees c.args.items.now) = search rules in
    let filled = fresh_marks c.count_lets-count.result (vec_len c.new-used.result) c.new-used.result.items c.resize.new.self.items
    c.new-used.ensures.items c.new-used.ensures.len c.in_ok-resize.ensures.items in
    let stay = stay_marked c.args.first (item_trees c.args.items.now) (code_trees c.args.gives.now) c.count_lets-count.result n in
    search (rules, filled, stay)
