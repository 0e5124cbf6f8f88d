use Rattle.std.proofs.Common.{rules, ◌≡◌, true, false, not, pos, ◌&&◌, ◌*ℤ◌, arith}
use Rattle.std.specs.Prelude.{◌-ℤ◌, ◌<ℤ◌}
use Rattle.std.specs.Int.{int_div_euclid}
use Rattle.std.proofs.lemmas.Int.{ints}
use Rattle.cf_linear.specs.Rows.{entry, is_zero}
use Rattle.cf_linear.specs.RowParts.{divides_known, divided_by}
use Rattle.cf_close.specs.Facts.{is_equation}
use Rattle.cf_close.proofs.FactLemmas.{tightened, closed}
use Rattle.cf_close.proofs.fact.tighten.Goals as goal

pub returns-in-Ok : goal.returns-in-Ok
returns-in-Ok c =
    let p : pos 0 <ℤ c.args.g = omega (arith, ints) in
    let d : divides_known c.args.g c.args.x.now.row ≡ true = search rules in
    let f : is_equation c.args.x.now.kind && not (is_zero (entry c.args.x.now.row 0 -ℤ c.args.g *ℤ int_div_euclid (entry c.args.x.now.row 0) c.args.g)) ≡ false = search rules in
    let e : c.in-Ok.row ≡ divided_by c.args.g c.args.x.now.row = search rules in
    λ v one h. rw (c.fact_of.ensures, e) (tightened v c.args.g c.args.x.now.row c.args.x.now.kind p one c.entry.ensures.is_row.0 d f h)

pub returns-then-leaves_rest : goal.returns-then-leaves_rest
returns-then-leaves_rest c =
    let p : pos 0 <ℤ c.args.g = omega (arith, ints) in
    let d : divides_known c.args.g c.args.x.now.row ≡ true = search rules in
    let f : is_equation c.args.x.now.kind && not (is_zero (entry c.args.x.now.row 0 -ℤ c.args.g *ℤ int_div_euclid (entry c.args.x.now.row 0) c.args.g)) ≡ true = search rules in
    λ v one h. closed v c.args.g c.args.x.now.row c.args.x.now.kind p one c.entry.ensures.is_row.0 d f h
