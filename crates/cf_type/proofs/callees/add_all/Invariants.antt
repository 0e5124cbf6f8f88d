use Rattle.std.proofs.Common.{◌≡◌, map, drop}
use Rattle.cf_type.specs.Numbers.{shown, with_names, names_of_defs}
use Rattle.cf_type.proofs.callees.add_all.Given as goal

abbrev pub invariant-loop-i : goal.invariant-loop-i
invariant-loop-i l = with_names (shown l.numbers.entries) l.i (names_of_defs (map (λ d. d.now) (drop l.i l.defs))) ≡ with_names (shown l.fn.numbers.entries) 0
    (names_of_defs (map (λ d. d.now) l.defs))
