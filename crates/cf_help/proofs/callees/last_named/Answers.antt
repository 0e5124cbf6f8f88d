use Rattle.std.proofs.Common.{rules, ◌≡◌, ◌-◌, ◌∙◌, false, length, map, get_or, sym, ap, arith}
use Rattle.std.specs.Str.{bytes_eq}
use Rattle.std.proofs.Math.ListN.{get_or-map}
use Rattle.std.proofs.lemmas.List.{length-map}
use Rattle.cf_help.proofs.LastLemmas.{passed_back}
use Rattle.cf_help.proofs.callees.last_named.Goals as goal

pub loop-count-preserved : goal.loop-count-preserved
loop-count-preserved c =
    let l = c.loop-count in
    let ds = map (λ d. d.now) c.args.defs.now in
    let d = c.index-defs-count.result.now in
    let here : d ≡ get_or ds (l.count - 1) d =
    ap (λ e. e.now) c.index-defs-count.is ∙ sym (get_or-map (λ e. e.now) c.args.defs.now (l.count - 1) c.index-defs-count.result) in
    let other : bytes_eq d.name c.args.name.now ≡ false = search rules in
    let count : length ds ≡ length c.args.defs.now = length-map c.args.defs.now (λ e. e.now) in (
      omega (arith, l.invariant.0),
      passed_back ds (l.count - 1) l.count d c.args.name.now _ (omega (arith, c.loop-count-test.true)) (omega (arith, count, l.invariant.0)) here other
          l.invariant.1,
    )
