use Rattle.std.proofs.Common.{◌≡◌, map, drop}
use Rattle.cf_tree.specs.DefView.{raw_def_tree}
use Rattle.cf_program.specs.Checked.{main_from}
use Rattle.cf_type.proofs.checking.find_main.Given as goal

abbrev pub invariant-loop-i : goal.invariant-loop-i
invariant-loop-i l = main_from l.i (map raw_def_tree (map (λ d. d.now) (drop l.i l.defs))) ≡ main_from 0 (map raw_def_tree (map (λ d. d.now) l.defs))
