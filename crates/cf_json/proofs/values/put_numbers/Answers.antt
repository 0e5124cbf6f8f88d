use Rattle.std.proofs.Common.{arith, pos}
use Rattle.std.specs.Fmt.{signed_decimal}
use Rattle.cf_json.proofs.ListLemmas.{items_more}
use Rattle.cf_json.proofs.values.put_numbers.Goals as goal

pub loop-i-preserved : goal.loop-i-preserved
loop-i-preserved c =
    items_more signed_decimal c.args.numbers.now c.loop-i.i (pos 0) c.args.out.now.items c.loop-i.out.items c.put_gap.new.out.items
    c.put_integer.new.out.items (omega arith)
    c.loop-i.invariant c.in_ok-put_gap.ensures c.in_ok-put_integer.ensures
