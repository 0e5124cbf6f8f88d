use Rattle.std.proofs.Common.{rules, ◌≡◌, [], map}
use Rattle.cf_form.specs.WideView.{part}
use Rattle.cf_form.proofs.Unfolded.{numbers_at_end}
use Rattle.cf_form.proofs.expansion.numbers_in.Goals as goal

pub returns : goal.returns
returns c =
    let empty : c.loop-part.parts.items ≡ [] = search rules in
    numbers_at_end c.loop-part.all.items c.loop-part.parts.items (map part c.args.parts.items) empty c.loop-part.invariant
