use Rattle.std.proofs.Common.{◌≡◌, ◌-◌, length, map}
use Rattle.cf_tree.specs.DefView.{raw_item_tree}
use Rattle.cf_parse.specs.Programs.{items_from}
use Rattle.cf_parse.proofs.source.more_items.Given as goal

abbrev pub invariant-loop : goal.invariant-loop
invariant-loop l =
    items_from l.edition l.limit (length l.fn.tokens - l.counter) (map raw_item_tree l.done.items) l.rest
    ≡ items_from l.edition l.limit (length l.fn.tokens) (map raw_item_tree l.fn.first.items) l.fn.tokens
