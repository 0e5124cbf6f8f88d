use Rattle.std.proofs.Common.{◌≡◌, ◌+◌, ◌-◌, length}
use Rattle.std.specs.Prelude.{option_map}
use Rattle.cf_print.specs.Names.{first_free, is_free, nth_name, longer, new_name}
use Rattle.cf_print.proofs.names.new_name.Given as goal

abbrev pub invariant-loop-k : goal.invariant-loop-k
invariant-loop-k l =
    first_free (is_free l.words l.taken) (nth_name l.words l.base (option_map (λ w. w.now) l.wish)) (length l.taken + 2 - l.k) l.k (longer l.words l.taken) ≡
    new_name l.words l.taken l.base (option_map (λ w. w.now) l.wish)
