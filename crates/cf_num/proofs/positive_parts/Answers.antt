use Rattle.std.proofs.Common.{arith, refl, to_z}
use Rattle.std.specs.Int.{w128}
use Rattle.std.proofs.lemmas.Int.{ints}
use Rattle.cf_num.proofs.EuclidLemmas.{Step-bounds}
use Rattle.cf_num.proofs.BezoutLemmas.{times_is, even_all, even_part, odd_none, odd_part, last_low}
use Rattle.cf_num.proofs.positive_parts.Goals as goal

pub overflow_sub-m : goal.overflow_sub-m
overflow_sub-m c = let k = Step-bounds _ _ _ _ _ _ _ _ _ c.last_step-last.ensures in omega (arith, ints, k)

pub overflow_sub-n : goal.overflow_sub-n
overflow_sub-n c = let k = Step-bounds _ _ _ _ _ _ _ _ _ c.last_step-last.ensures in omega (arith, ints, k)

pub overflow_sub-v-else-u-eq0 : goal.overflow_sub-v-else-u-eq0
overflow_sub-v-else-u-eq0 c = let k = Step-bounds _ _ _ _ _ _ _ _ _ c.last_step-last.ensures in omega (arith, ints, k)

pub returns-then-u-n-clause-parts : goal.returns-then-u-n-clause-parts
returns-then-u-n-clause-parts c =
    let l = c.last_step-last.result in
    let k = Step-bounds _ _ _ _ _ _ _ _ _ c.last_step-last.ensures in
    let g_low = last_low _ _ _ _ _ _ _ _ _ c.requires.b_low refl c.last_step-last.ensures in
    rw c.with_factors.ensures.parts
    (even_all c.args.a c.args.b l.g l.u l.n l.v l.m _ _ _ (omega (arith, ints)) (omega arith)
    (rw c.if-last.true at c.last_step-last.ensures) (omega (arith, ints)) (omega (arith, ints)) (omega (arith, ints)))

pub returns-then-u-n-clause-n : goal.returns-then-u-n-clause-n
returns-then-u-n-clause-n c =
    let k = Step-bounds _ _ _ _ _ _ _ _ _ c.last_step-last.ensures in
    let g_low = last_low _ _ _ _ _ _ _ _ _ c.requires.b_low refl c.last_step-last.ensures in
    let e = c.last_step-last.ensures.b_is in
    rw (c.with_factors.ensures.n_is, c.with_factors.ensures.parts)
    (times_is c.last_step-last.result.n c.last_step-last.result.g c.args.b (to_z w128 c.last_step-last.result.n) (to_z w128 c.last_step-last.result.g)
    (omega (arith, ints)) (omega (arith, ints)) (omega arith))

pub returns-then-u-n-clause-m : goal.returns-then-u-n-clause-m
returns-then-u-n-clause-m c =
    let k = Step-bounds _ _ _ _ _ _ _ _ _ c.last_step-last.ensures in
    let g_low = last_low _ _ _ _ _ _ _ _ _ c.requires.b_low refl c.last_step-last.ensures in
    let e = c.last_step-last.ensures.a_is in
    rw (c.with_factors.ensures.m_is, c.with_factors.ensures.parts)
    (times_is c.last_step-last.result.m c.last_step-last.result.g c.args.a (to_z w128 c.last_step-last.result.m) (to_z w128 c.last_step-last.result.g)
    (omega (arith, ints)) (omega (arith, ints)) (omega arith))

pub returns-else-u-n-clause-parts : goal.returns-else-u-n-clause-parts
returns-else-u-n-clause-parts c =
    let l = c.last_step-last.result in
    let k = Step-bounds _ _ _ _ _ _ _ _ _ c.last_step-last.ensures in
    let g_low = last_low _ _ _ _ _ _ _ _ _ c.requires.b_low refl c.last_step-last.ensures in
    rw c.with_factors-else-u-n.ensures.parts
    (even_part c.args.a c.args.b l.g l.u l.n l.v l.m _ _ _ (omega (arith, ints)) (omega arith)
    (rw c.if-last.true at c.last_step-last.ensures) (omega (arith, ints)) (omega (arith, ints)) (omega (arith, ints)))

pub returns-else-u-n-clause-n : goal.returns-else-u-n-clause-n
returns-else-u-n-clause-n c =
    let k = Step-bounds _ _ _ _ _ _ _ _ _ c.last_step-last.ensures in
    let g_low = last_low _ _ _ _ _ _ _ _ _ c.requires.b_low refl c.last_step-last.ensures in
    let e = c.last_step-last.ensures.b_is in
    rw (c.with_factors-else-u-n.ensures.n_is, c.with_factors-else-u-n.ensures.parts)
    (times_is c.last_step-last.result.n c.last_step-last.result.g c.args.b (to_z w128 c.last_step-last.result.n) (to_z w128 c.last_step-last.result.g)
    (omega (arith, ints)) (omega (arith, ints)) (omega arith))

pub returns-else-u-n-clause-m : goal.returns-else-u-n-clause-m
returns-else-u-n-clause-m c =
    let k = Step-bounds _ _ _ _ _ _ _ _ _ c.last_step-last.ensures in
    let g_low = last_low _ _ _ _ _ _ _ _ _ c.requires.b_low refl c.last_step-last.ensures in
    let e = c.last_step-last.ensures.a_is in
    rw (c.with_factors-else-u-n.ensures.m_is, c.with_factors-else-u-n.ensures.parts)
    (times_is c.last_step-last.result.m c.last_step-last.result.g c.args.a (to_z w128 c.last_step-last.result.m) (to_z w128 c.last_step-last.result.g)
    (omega (arith, ints)) (omega (arith, ints)) (omega arith))

pub returns-then-u-eq0-clause-parts : goal.returns-then-u-eq0-clause-parts
returns-then-u-eq0-clause-parts c =
    let l = c.last_step-last.result in
    let k = Step-bounds _ _ _ _ _ _ _ _ _ c.last_step-last.ensures in
    let g_low = last_low _ _ _ _ _ _ _ _ _ c.requires.b_low refl c.last_step-last.ensures in
    rw c.with_factors-then-u-eq0.ensures.parts
    (odd_none c.args.a c.args.b l.g l.u l.n l.v l.m _ _ _ (omega (arith, ints)) (omega arith)
    (rw c.if-last.false at c.last_step-last.ensures) (omega (arith, ints)) (omega (arith, ints)) (omega (arith, ints)))

pub returns-then-u-eq0-clause-n : goal.returns-then-u-eq0-clause-n
returns-then-u-eq0-clause-n c =
    let k = Step-bounds _ _ _ _ _ _ _ _ _ c.last_step-last.ensures in
    let g_low = last_low _ _ _ _ _ _ _ _ _ c.requires.b_low refl c.last_step-last.ensures in
    let e = c.last_step-last.ensures.b_is in
    rw (c.with_factors-then-u-eq0.ensures.n_is, c.with_factors-then-u-eq0.ensures.parts)
    (times_is c.last_step-last.result.n c.last_step-last.result.g c.args.b (to_z w128 c.last_step-last.result.n) (to_z w128 c.last_step-last.result.g)
    (omega (arith, ints)) (omega (arith, ints)) (omega arith))

pub returns-then-u-eq0-clause-m : goal.returns-then-u-eq0-clause-m
returns-then-u-eq0-clause-m c =
    let k = Step-bounds _ _ _ _ _ _ _ _ _ c.last_step-last.ensures in
    let g_low = last_low _ _ _ _ _ _ _ _ _ c.requires.b_low refl c.last_step-last.ensures in
    let e = c.last_step-last.ensures.a_is in
    rw (c.with_factors-then-u-eq0.ensures.m_is, c.with_factors-then-u-eq0.ensures.parts)
    (times_is c.last_step-last.result.m c.last_step-last.result.g c.args.a (to_z w128 c.last_step-last.result.m) (to_z w128 c.last_step-last.result.g)
    (omega (arith, ints)) (omega (arith, ints)) (omega arith))

pub returns-else-u-eq0-clause-parts : goal.returns-else-u-eq0-clause-parts
returns-else-u-eq0-clause-parts c =
    let l = c.last_step-last.result in
    let k = Step-bounds _ _ _ _ _ _ _ _ _ c.last_step-last.ensures in
    let g_low = last_low _ _ _ _ _ _ _ _ _ c.requires.b_low refl c.last_step-last.ensures in
    rw c.with_factors-else-u-eq0.ensures.parts
    (odd_part c.args.a c.args.b l.g l.u l.n l.v l.m _ _ _ (omega (arith, ints)) (omega arith)
    (rw c.if-last.false at c.last_step-last.ensures) (omega (arith, ints)) (omega (arith, ints)) (omega (arith, ints)))

pub returns-else-u-eq0-clause-n : goal.returns-else-u-eq0-clause-n
returns-else-u-eq0-clause-n c =
    let k = Step-bounds _ _ _ _ _ _ _ _ _ c.last_step-last.ensures in
    let g_low = last_low _ _ _ _ _ _ _ _ _ c.requires.b_low refl c.last_step-last.ensures in
    let e = c.last_step-last.ensures.b_is in
    rw (c.with_factors-else-u-eq0.ensures.n_is, c.with_factors-else-u-eq0.ensures.parts)
    (times_is c.last_step-last.result.n c.last_step-last.result.g c.args.b (to_z w128 c.last_step-last.result.n) (to_z w128 c.last_step-last.result.g)
    (omega (arith, ints)) (omega (arith, ints)) (omega arith))

pub returns-else-u-eq0-clause-m : goal.returns-else-u-eq0-clause-m
returns-else-u-eq0-clause-m c =
    let k = Step-bounds _ _ _ _ _ _ _ _ _ c.last_step-last.ensures in
    let g_low = last_low _ _ _ _ _ _ _ _ _ c.requires.b_low refl c.last_step-last.ensures in
    let e = c.last_step-last.ensures.a_is in
    rw (c.with_factors-else-u-eq0.ensures.m_is, c.with_factors-else-u-eq0.ensures.parts)
    (times_is c.last_step-last.result.m c.last_step-last.result.g c.args.a (to_z w128 c.last_step-last.result.m) (to_z w128 c.last_step-last.result.g)
    (omega (arith, ints)) (omega (arith, ints)) (omega arith))
