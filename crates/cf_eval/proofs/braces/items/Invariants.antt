use Rattle.std.proofs.Common.{◌≡◌, [], length, All}
use Rattle.std.specs.Prelude.{◌==◌}
use Rattle.std.specs.List.{slice_split}
use Rattle.cf_num.specs.Limit.{IsWithin}
use Rattle.cf_eval.specs.Reading.{items_from}
use Rattle.cf_eval.proofs.braces.items.Given as goal

abbrev pub invariant-items : goal.invariant-items
invariant-items l = record {
  goes : items_from l.limit (slice_split (λ b. b == 44) l.rest) l.items.items ≡ items_from l.limit (slice_split (λ b. b == 44) l.body) [];
  fits : All IsWithin l.items.items;
}

abbrev pub decreases-items : goal.decreases-items
decreases-items l = length l.rest
