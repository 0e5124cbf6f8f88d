use Rattle.std.proofs.Common.{◌∙◌, sym}
use Rattle.cf_linear.proofs.MapLemmas.{back}
use Rattle.cf_linear.proofs.EquationLaws.{equation_is, second_below}
use Rattle.cf_linear.specs.Sides.{is_lower}
use Rattle.cf_linear.proofs.searching.search_equation.Goals as goal

pub append-requires-2-clause-after : goal.append-requires-2-clause-after
append-requires-2-clause-after c =
    let s = back c.sign.result c.sign.ensures.fits in
    rw (c.in_ok-append.ensures.value, c.in_ok-equation.ensures, s, c.sign.ensures.value)
    (second_below c.args.unknown c.args.column (is_lower c.args.side) c.args.row.now c.requires.below)

pub returns : goal.returns
returns c =
    let s = back c.sign.result c.sign.ensures.fits in
    let t = back c.side_coefficient.result c.side_coefficient.ensures.fits in
    let k = back c.entry.result c.entry.ensures.fits in
    let e = rw (
      c.in_ok-append.ensures.value,
      c.in_ok-equation.ensures,
      s,
      c.sign.ensures.value,
      t,
      c.side_coefficient.ensures.value,
      k,
      c.entry.ensures.value,
    ) at c.in_ok-append-2.ensures.value in
    e ∙ sym (equation_is c.args.unknown c.args.column (is_lower c.args.side) c.args.row.now c.requires.below c.requires.wanted)
