use Rattle.std.proofs.Common.{◌≡◌, ◌≤◌, ◌+ℤ◌, ◌*ℤ◌, [], ◌++◌, length, arith, ap, ◌∙◌}
use Rattle.cf_linear.specs.Rows.{Row, entry, put}
use Rattle.cf_linear.proofs.MapLemmas.{back}
use Rattle.cf_linear.proofs.BoolLemmas.{two_products-some, two_products-none}
use Rattle.cf_linear.proofs.RowLemmas.{entry-comb}
use Rattle.cf_linear.proofs.Joining.{joined, below_least, joining_less, joining_past, joining_done}
use Rattle.cf_linear.proofs.row.Row.combine.Goals as goal

pub append-requires-clause-after : goal.append-requires-clause-after
append-requires-clause-after c =
    let inv = rw (back c.args.a c.requires.a_in, back c.args.b c.requires.b_in) at c.loop-i.invariant in
    below_least c.args.a c.args.self.now c.args.b c.args.other.now c.loop-i.i c.loop-i.j c.loop-i.out c.next_column-column.result inv
    c.next_column-column.ensures

pub returns-in-None-clause-past : goal.returns-in-None-clause-past
returns-in-None-clause-past c e =
    let inv = rw (back c.args.a c.requires.a_in, back c.args.b c.requires.b_in) at c.loop-i.invariant in
    let none = rw (
      back c.args.a c.requires.a_in,
      back c.take_at-k.result.0 c.take_at-k.ensures.fits,
      back c.args.b c.requires.b_in,
      back c.take_at-m.result.0 c.take_at-m.ensures.fits,
    ) at c.in-None.ensures.value in
    joining_past c.args.a c.args.self.now c.args.b c.args.other.now c.loop-i.i c.loop-i.j c.loop-i.out c.next_column-column.result c.take_at-k.result.0
    c.take_at-m.result.0 c.take_at-k.result.1 c.take_at-m.result.1
    inv c.next_column-column.ensures c.take_at-k.ensures.taken c.take_at-m.ensures.taken
    (two_products-none c.args.a c.take_at-k.result.0 c.args.b c.take_at-m.result.0 none)

pub loop-i-smaller : goal.loop-i-smaller
loop-i-smaller c =
    joining_less c.args.a c.args.self.now c.args.b c.args.other.now c.loop-i.i c.loop-i.j c.loop-i.out c.next_column-column.result c.take_at-k.result.0
    c.take_at-m.result.0 c.take_at-k.result.1 c.take_at-m.result.1
    c.loop-i.invariant.i_in c.loop-i.invariant.j_in c.next_column-column.ensures c.take_at-k.ensures.taken c.take_at-m.ensures.taken

pub loop-i-preserved : goal.loop-i-preserved
loop-i-preserved c =
    let inv = rw (back c.args.a c.requires.a_in, back c.args.b c.requires.b_in) at c.loop-i.invariant in
    let e = rw (
      back c.args.a c.requires.a_in,
      back c.take_at-k.result.0 c.take_at-k.ensures.fits,
      back c.args.b c.requires.b_in,
      back c.take_at-m.result.0 c.take_at-m.ensures.fits,
    ) at c.in-Some.ensures.value in
    let two = two_products-some c.args.a c.take_at-k.result.0 c.args.b c.take_at-m.result.0 c.in-Some.sum e in
    let value = rw (back c.in-Some.sum c.in-Some.ensures.fits) at c.in_ok-append.ensures.value in
    let new : c.append.new.self ≡ c.loop-i.out ++ put c.next_column-column.result
    (c.args.a *ℤ c.take_at-k.result.0 +ℤ c.args.b *ℤ c.take_at-m.result.0) [] = rw (← two.1) value in
    rw (back c.args.a c.requires.a_in, back c.args.b c.requires.b_in)
    (joined c.args.a c.args.self.now c.args.b c.args.other.now c.loop-i.i c.loop-i.j c.loop-i.out c.next_column-column.result c.take_at-k.result.0
    c.take_at-m.result.0 c.take_at-k.result.1 c.take_at-m.result.1 c.append.new.self
    inv c.next_column-column.ensures c.take_at-k.ensures.taken c.take_at-m.ensures.taken two.0 new)

pub returns-clause-fits : goal.returns-clause-fits
returns-clause-fits c =
    let inv = rw (back c.args.a c.requires.a_in, back c.args.b c.requires.b_in) at c.loop-i.invariant in
    let p : length c.args.self.now ≤ c.loop-i.i = omega (arith, c.len-left.ensures.len) in
    let q : length c.args.other.now ≤ c.loop-i.j = omega (arith, c.len-right.ensures.len) in
    (joining_done c.args.a c.args.self.now c.args.b c.args.other.now c.loop-i.i c.loop-i.j c.loop-i.out inv p q).1

pub returns-clause-entries : goal.returns-clause-entries
returns-clause-entries c n =
    let inv = rw (back c.args.a c.requires.a_in, back c.args.b c.requires.b_in) at c.loop-i.invariant in
    let p : length c.args.self.now ≤ c.loop-i.i = omega (arith, c.len-left.ensures.len) in
    let q : length c.args.other.now ≤ c.loop-i.j = omega (arith, c.len-right.ensures.len) in
    ap (λ (x : Row). entry x n) (joining_done c.args.a c.args.self.now c.args.b c.args.other.now c.loop-i.i c.loop-i.j c.loop-i.out inv p q).0 ∙
    entry-comb n c.args.a c.args.self.now c.args.b c.args.other.now
