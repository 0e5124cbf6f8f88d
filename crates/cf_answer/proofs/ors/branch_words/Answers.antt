use Rattle.std.proofs.Common.{◌≡◌, [], rules}
use Rattle.cf_answer.proofs.ors.branch_words.Goals as goal

pub returns : goal.returns
returns c =
    let empty : c.new-text.result.items ≡ [] = search rules in
    rw empty at c.in_ok-put_words.ensures
