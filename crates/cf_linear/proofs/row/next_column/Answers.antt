use Rattle.std.proofs.Common.{ap, ◌<◌, ◌≤◌, get_or, pos, arith, length, ⊎_elim}
use Rattle.cf_linear.proofs.MergingLemmas.{least_second, least_first, least_is_second, least_is_first}
use Rattle.cf_linear.proofs.row.next_column.Goals as goal

pub returns-then-i-len : goal.returns-then-i-len
returns-then-i-len c =
    let l : length c.args.r.now ≤ c.args.i = omega (arith, c.len.ensures.len) in
    let h : c.args.j < length c.args.s.now = ⊎_elim (λ h. absurd (omega arith)) (λ h. h) c.requires.some in
    rw (ap (λ x. x.0) c.at.ensures.value) (least_second c.args.r.now c.args.i c.args.s.now c.args.j c.at.ensures.is_row.0 l h)

pub returns-then-j-len : goal.returns-then-j-len
returns-then-j-len c =
    let h : c.args.i < length c.args.r.now = omega (arith, c.len.ensures.len) in
    let l : length c.args.s.now ≤ c.args.j = omega (arith, c.len-2.ensures.len) in
    rw (ap (λ x. x.0) c.at-first.ensures.value) (least_first c.args.r.now c.args.i c.args.s.now c.args.j c.len.ensures.is_row.0 h l)

pub returns-then-second-first : goal.returns-then-second-first
returns-then-second-first c =
    let h : c.args.i < length c.args.r.now = omega (arith, c.len.ensures.len) in
    let k : c.args.j < length c.args.s.now = omega (arith, c.len-2.ensures.len) in
    let e = ap (λ x. x.0) c.at-first.ensures.value in
    let f = ap (λ x. x.0) c.at-second.ensures.value in
    let l : (get_or c.args.s.now c.args.j (0, pos 0)).0 ≤ (get_or c.args.r.now c.args.i (0, pos 0)).0 = omega (arith, e, f) in
    rw f (least_is_second c.args.r.now c.args.i c.args.s.now c.args.j c.len.ensures.is_row.0 c.len-2.ensures.is_row.0 h k l)

pub returns-else-second-first : goal.returns-else-second-first
returns-else-second-first c =
    let h : c.args.i < length c.args.r.now = omega (arith, c.len.ensures.len) in
    let k : c.args.j < length c.args.s.now = omega (arith, c.len-2.ensures.len) in
    let e = ap (λ x. x.0) c.at-first.ensures.value in
    let f = ap (λ x. x.0) c.at-second.ensures.value in
    let l : (get_or c.args.r.now c.args.i (0, pos 0)).0 ≤ (get_or c.args.s.now c.args.j (0, pos 0)).0 = omega (arith, e, f) in
    rw e (least_is_first c.args.r.now c.args.i c.args.s.now c.args.j c.len.ensures.is_row.0 c.len-2.ensures.is_row.0 h k l)
