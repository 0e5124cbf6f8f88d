use Rattle.std.proofs.Common.{sym, ◌∙◌}
use Rattle.std.specs.Vec.Iter.{into_iter_items}
use Rattle.cf_build.proofs.CodeOrder.{all_made, codes_made, made_rise, marks_made}
use Rattle.cf_build.proofs.choose_codes.choose_codes.Goals as goal

pub invariant_of-result : goal.invariant_of-result
invariant_of-result c =
    let at = c.loop-solve in
    let none = sym at.solve-iterator.rest.ok.0 ∙ c.in-None.ensures.steps.0 in
    let all = all_made c.args.solves.items (into_iter_items at.solve-iterator) at.codes.items none at.invariant in
    record { rising = made_rise at.codes.items c.args.solves.items all c.requires.rising }

pub returns : goal.returns
returns c =
    let at = c.loop-solve in
    let none = sym at.solve-iterator.rest.ok.0 ∙ c.in-None.ensures.steps.0 in
    let all = all_made c.args.solves.items (into_iter_items at.solve-iterator) at.codes.items none at.invariant in
    record {
      solved = codes_made at.codes.items c.args.solves.items all c.requires.solved;
      marks = marks_made at.codes.items c.args.solves.items all;
    }
