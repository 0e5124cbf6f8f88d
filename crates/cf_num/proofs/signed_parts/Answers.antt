use Rattle.std.proofs.Common.{◌≡◌, pos, arith, rules, sym, to_z, of_z}
use Rattle.std.specs.Prelude.{FitsSigned, int_lt as lt_z}
use Rattle.std.specs.Int.{w128}
use Rattle.std.proofs.lemmas.Int.{ints}
use Rattle.cf_num.proofs.SignLemmas.{small_is, signed_first, signed_second, turned_t_low}
use Rattle.cf_num.proofs.signed_parts.Goals as goal

pub first_turned-q-requires : goal.first_turned-q-requires
first_turned-q-requires c = record {
  small = small_is _ _ c.positive_parts-p.result (omega (arith, ints)) (omega (arith, ints)) (omega (arith, ints)) (omega (arith, ints))
      c.positive_parts-p.ensures.parts c.positive_parts-p.ensures.n c.positive_parts-p.ensures.m;
}

pub overflow_sub-result : goal.overflow_sub-result
overflow_sub-result c =
    let f = c.positive_parts-p.ensures in
    let low = rw (sym c.first_turned-q.ensures) at
    (turned_t_low (lt_z (to_z w128 (of_z w128 c.args.a)) (pos 0)) c.unsigned_abs.result c.unsigned_abs-2.result c.positive_parts-p.result
    (omega (arith, ints)) (omega (arith, ints)) f.parts f.n f.m) in
    let fits : FitsSigned w128 c.first_turned-q.result.t = search rules in
    omega (arith, ints)

pub returns-then-b-lt0 : goal.returns-then-b-lt0
returns-then-b-lt0 c =
    let f = c.positive_parts-p.ensures in
    let t = lt_z (to_z w128 (of_z w128 c.args.a)) (pos 0) in
    let low = rw (sym c.first_turned-q.ensures) at
    (turned_t_low t c.unsigned_abs.result c.unsigned_abs-2.result c.positive_parts-p.result (omega (arith, ints)) (omega (arith, ints)) f.parts f.n f.m) in
    let fits : FitsSigned w128 c.first_turned-q.result.t = search rules in
    let fits_g : FitsSigned w128 c.first_turned-q.result.g = search rules in
    let fits_s : FitsSigned w128 c.first_turned-q.result.s = search rules in
    let i = rw (sym c.first_turned-q.ensures) at
    (signed_first c.args.a c.unsigned_abs.result c.unsigned_abs-2.result t c.positive_parts-p.result (omega (arith, ints)) (omega (arith, ints))
    (omega (arith, ints)) (λ e. omega (arith, ints)) (λ e. omega (arith, ints)) f.parts f.n f.m) in
    signed_second c.args.a c.args.b c.unsigned_abs-2.result c.first_turned-q.result _ _ _ (omega (arith, ints)) (omega (arith, ints)) i (omega (arith, ints))
    (omega (arith, ints)) (omega (arith, ints))

pub returns-else-b-lt0 : goal.returns-else-b-lt0
returns-else-b-lt0 c =
    let f = c.positive_parts-p.ensures in
    let t = lt_z (to_z w128 (of_z w128 c.args.a)) (pos 0) in
    let same : pos c.unsigned_abs-2.result ≡ c.args.b = omega (arith, ints) in
    let i = rw (sym c.first_turned-q.ensures) at
    (signed_first c.args.a c.unsigned_abs.result c.unsigned_abs-2.result t c.positive_parts-p.result (omega (arith, ints)) (omega (arith, ints))
    (omega (arith, ints)) (λ e. omega (arith, ints)) (λ e. omega (arith, ints)) f.parts f.n f.m) in
    rw (← same) i
