use Rattle.std.proofs.Common.{◌≡◌, ◌<◌, ◌^◌, length, drop, map}
use Rattle.cf_linear.specs.Steps.{pick_at, best}
use Rattle.cf_bounds.specs.Picking.{pick_of, picked}
use Rattle.cf_bounds.proofs.selection.picked.Given as goal

abbrev pub invariant-loop-i : goal.invariant-loop-i
invariant-loop-i l = length l.rows < 2 ^ 32 → best (pick_of l.best) (map (pick_at l.rows) (drop l.i l.unknowns)) ≡ picked l.rows l.unknowns
