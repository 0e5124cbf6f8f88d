use Rattle.cf_tree.specs.RelView.{rel_tree}
use Rattle.cf_linear.specs.Cases.{negation_normal}
use Rattle.cf_cases.specs.Counts.{count_tree}
use Rattle.cf_cases.proofs.PartLaws.{sides_of}
use Rattle.cf_cases.proofs.case.parts_of.Goals as goal

pub split-requires : goal.split-requires
split-requires c =
    let s = sides_of c.args.both (negation_normal c.args.holds (rel_tree c.args._a.now)) (negation_normal c.args.holds (rel_tree c.args._b.now))
    (count_tree c.args.counts.now) c.args.index c.requires.counts c.requires.index c.requires.small in
    rw (c.count-2.ensures, c.right.ensures) s.some

pub returns : goal.returns
returns c =
    let s = sides_of c.args.both (negation_normal c.args.holds (rel_tree c.args._a.now)) (negation_normal c.args.holds (rel_tree c.args._b.now))
    (count_tree c.args.counts.now) c.args.index c.requires.counts c.requires.index c.requires.small in
    let e = rw (c.count.ensures, c.left.ensures, c.count-2.ensures, c.right.ensures) at c.split.ensures in
    record {
      left = s.left;
      right = s.right;
      first = rw e.first s.parts.first;
      second = rw e.second s.parts.second;
      whole = rw (e.first, e.second) s.parts.whole;
    }
