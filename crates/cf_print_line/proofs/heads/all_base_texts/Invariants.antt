use Rattle.std.proofs.Common.{◌≡◌, ◌++◌, drop}
use Rattle.cf_print_line.specs.Heads.{all_base_texts}
use Rattle.cf_print_line.proofs.heads.all_base_texts.Given as goal

abbrev pub invariant-loop-base : goal.invariant-loop-base
invariant-loop-base l =
    l.all.items ++ all_base_texts l.language (drop l.base-index l.bases) ≡ all_base_texts l.language l.bases
