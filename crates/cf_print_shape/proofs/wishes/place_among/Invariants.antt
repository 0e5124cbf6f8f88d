use Rattle.std.proofs.Common.{◌≡◌, drop}
use Rattle.cf_tree.specs.CodeView.{code_trees}
use Rattle.cf_print_shape.specs.Wishes.{place_among}
use Rattle.cf_print_shape.proofs.wishes.place_among.Given as goal

abbrev pub invariant-loop-code : goal.invariant-loop-code
invariant-loop-code l =
    place_among l.place (code_trees (drop l.code-index l.codes)) l.level ≡ place_among l.first (code_trees l.codes) l.level
