use Rattle.std.proofs.Common.{arith, sym, refl, subst}
use Rattle.cf_linear.specs.Rows.{AreBelow}
use Rattle.cf_linear.specs.Systems.{EachRow}
use Rattle.cf_bounds.proofs.ListLemmas.{all_left, next_below}
use Rattle.cf_bounds.proofs.searching.find_all.Goals as goal

pub loop-row-init : goal.loop-row-init
loop-row-init c = record {
  grown = omega arith;
  below = subst (EachRow (AreBelow c.args.next)) (sym (all_left c.args.rows.items c.reverse.new.self.items c.reverse.ensures.items)) c.requires.rows;
  same =
      rw (
        c.new.ensures.items,
        c.new-2.ensures.items,
        c.new-3.ensures.items,
        c.new-4.ensures.items,
        c.new-5.ensures.items,
        all_left c.args.rows.items c.reverse.new.self.items c.reverse.ensures.items,
      ) refl;
}

pub add-requires-clause-below : goal.add-requires-clause-below
add-requires-clause-below c =
    next_below c.args.next c.loop-row.found.next c.loop-row.left.items c.pop.new.self.items c.in-Some.row c.in-Some.ensures.items
    c.loop-row.invariant.grown c.loop-row.invariant.below
