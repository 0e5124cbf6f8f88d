use Rattle.std.proofs.Common.{◌≡◌, ◌≤◌, length, reverse}
use Rattle.std.specs.List.{fold}
use Rattle.cf_linear.specs.Rows.{AreBelow}
use Rattle.cf_linear.specs.Systems.{EachRow}
use Rattle.cf_linear.specs.Steps.{then_tighten, tighten_all}
use Rattle.cf_bounds.specs.CleanAnswers.{tightened_of}
use Rattle.cf_bounds.proofs.cleaning.tighten_all.Given as goal

abbrev pub invariant-loop-row : goal.invariant-loop-row
invariant-loop-row l = record {
  grown : l.fn.next ≤ l.all.next;
  below : EachRow (AreBelow l.fn.next) (reverse l.left.items);
  same : fold (then_tighten l.unknown) (tightened_of l.all) (reverse l.left.items) ≡ tighten_all l.unknown l.fn.next l.fn.rows.items;
}

abbrev pub decreases-loop-row : goal.decreases-loop-row
decreases-loop-row l = length l.left.items
