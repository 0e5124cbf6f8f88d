use Rattle.std.proofs.Common.{◌≡◌, ◌<◌, ◌-◌, ◌^◌, length}
use Rattle.cf_tree.specs.Meaning.{count_below}
use Rattle.cf_eval.specs.Seen.{plains}
use Rattle.cf_eval.specs.RunAnswers.{Extends, capped}
use Rattle.cf_eval.proofs.Binding.{Binds}
use Rattle.cf_eval.proofs.search.push_tuple.Given as goal

abbrev pub invariant-bounds : goal.invariant-bounds
invariant-bounds l = record {
  count : l.count ≡ capped (count_below l.rest);
  left_in : l.left < count_below l.rest;
  left_low : l.left < 2 ^ 64 - 1;
  kept : Extends l.fn.env.items l.env.items;
  binds : Binds l.fn.bounds l.fn.index (plains l.fn.env.items) l.rest l.left (plains l.env.items);
}

abbrev pub decreases-bounds : goal.decreases-bounds
decreases-bounds l = length l.rest
