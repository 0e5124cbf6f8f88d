use Rattle.std.proofs.Common.{◌≡◌, List, [], ◌∷◌, ◌++◌, ◌/◌, pos, refl, arith, append_assoc}
use Rattle.std.proofs.Math.Nat.{mod-le}
use Rattle.std.proofs.lemmas.List.{map-append}
use Rattle.cf_tree.specs.Values.{number}
use Rattle.cf_eval.specs.declared.value.Value.{Value as RunValue}
use Rattle.cf_eval.specs.Seen.{plains}
use Rattle.cf_eval.specs.RunAnswers.{Extends}
use Rattle.cf_eval.proofs.Binding.{binds_next, next_in}
use Rattle.cf_eval.proofs.search.push_tuple.Goals as goal

extends_more : (old env more next : List RunValue) → Extends old env → next ≡ env ++ more → Extends old next
extends_more old env more next e n = (e.0 ++ more, rw (n, e.1) (append_assoc old e.0 more))

pub bounds-preserved : goal.bounds-preserved
bounds-preserved c =
    let bound = c.in-Some.bound.now in
    let others = c.in-Some.others.now in
    let left = c.bounds.left in
    let count = c.count_behind-count.result in
    let low = mod-le left count in
    let pushed : plains c.push_number.new.env.items ≡ plains c.bounds.env.items ++ (number (pos (left / count)) ∷ []) =
    rw (c.in_ok-push_number.ensures.ok, map-append) refl in
    record {
      count = c.count_behind-count.ensures;
      left_in = next_in bound others left count c.count_behind-count.ensures c.bounds.invariant.left_low
          (rw c.in-Some.ensures.cases.0 at c.bounds.invariant.left_in);
      left_low = omega arith;
      kept = extends_more c.args.env.now.items c.bounds.env.items _ c.push_number.new.env.items c.bounds.invariant.kept c.in_ok-push_number.ensures.ok;
      binds = binds_next _ _ _ bound others left count _ _ (rw c.in-Some.ensures.cases.0 at c.bounds.invariant.binds) c.count_behind-count.ensures
          c.bounds.invariant.left_low pushed;
    }
