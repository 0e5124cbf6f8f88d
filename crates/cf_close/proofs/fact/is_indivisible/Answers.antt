use Rattle.std.proofs.Common.{rules, ◌≡◌, true, not, pos, ◌&&◌, ◌*ℤ◌, arith}
use Rattle.std.specs.Prelude.{◌-ℤ◌, ◌<ℤ◌}
use Rattle.std.specs.Int.{int_div_euclid}
use Rattle.std.proofs.lemmas.Int.{ints}
use Rattle.cf_linear.specs.Rows.{entry, is_zero}
use Rattle.cf_linear.specs.RowParts.{divides_known}
use Rattle.cf_close.specs.Facts.{is_equation}
use Rattle.cf_close.proofs.FactLemmas.{closed}
use Rattle.cf_close.proofs.fact.is_indivisible.Goals as goal

pub returns-then-leaves_rest : goal.returns-then-leaves_rest
returns-then-leaves_rest c =
    let p : pos 0 <ℤ c.args.g = omega (arith, ints) in
    let d : divides_known c.args.g c.args.x.now.row ≡ true = search rules in
    let f : is_equation c.args.x.now.kind && not (is_zero (entry c.args.x.now.row 0 -ℤ c.args.g *ℤ int_div_euclid (entry c.args.x.now.row 0) c.args.g)) ≡ true = search rules in
    λ _ v one h. closed v c.args.g c.args.x.now.row c.args.x.now.kind p one c.entry.ensures.is_row.0 d f h
