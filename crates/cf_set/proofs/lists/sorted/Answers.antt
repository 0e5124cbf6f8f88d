use Rattle.std.proofs.Common.{◌∙◌}
use Rattle.std.specs.Ordering.{int_eq}
use Rattle.std.proofs.lemmas.List.Filters.{dedup_is}
use Rattle.cf_set.proofs.SortLemmas.{dedup-sorted}
use Rattle.cf_set.proofs.lists.sorted.Goals as goal

pub returns : goal.returns
returns c =
    dedup_is int_eq c.sort_unstable.new.self.items c.dedup.new.self.items c.dedup.ensures.filtered
    ∙ dedup-sorted c.args.items.now c.sort_unstable.new.self.items (rw c.in_ok-all.ensures.items at c.sort_unstable.ensures.permutation)
    c.sort_unstable.ensures.sorted
