use Rattle.std.proofs.Common.{◌≡◌, drop, rules}
use Rattle.std.proofs.lemmas.List.Elements.{All-take, All-drop}
use Rattle.cf_num.specs.Limit.{IsWithin}
use Rattle.cf_tree.specs.Numbers.{count_of}
use Rattle.cf_tree.specs.Sets.{set_slice}
use Rattle.cf_tree.proofs.RisingLemmas.{rising_take, rising_drop}
use Rattle.cf_set.proofs.Set.slice.Goals as goal

pub invariant_of-result : goal.invariant_of-result
invariant_of-result c =
    let xs = c.self.inside.items.items in
    let f = count_of c.args.from in
    let n = count_of c.args.n in
    let e : c.in_ok-slice.field-0.items ≡ set_slice xs f n = search rules in
    rw e (rising_take n (drop f xs) (rising_drop f xs c.self.invariant.0), All-take IsWithin n (drop f xs) (All-drop IsWithin f xs c.self.invariant.1))
