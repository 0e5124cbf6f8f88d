use Rattle.std.proofs.Common.{◌∙◌}
use Rattle.cf_set.proofs.SearchLemmas.{is_ok-searched}
use Rattle.cf_set.proofs.lists.has.Goals as goal

pub returns : goal.returns
returns c =
    c.is_ok.ensures.value ∙ is_ok-searched c.args.items.now c.args.x.now c.binary_search.result c.requires c.binary_search.ensures.bound c.binary_search.ensures.position
