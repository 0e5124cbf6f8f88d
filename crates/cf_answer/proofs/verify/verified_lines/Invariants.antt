use Rattle.std.proofs.Common.{◌≡◌, map, flat_map, take}
use Rattle.cf_tree.specs.ChooseView.{choose_tree}
use Rattle.cf_answer.specs.Certificates.{verified_line}
use Rattle.cf_answer.proofs.verify.verified_lines.Given as goal

abbrev pub invariant-loop-choose : goal.invariant-loop-choose
invariant-loop-choose l = l.text.items ≡ flat_map verified_line (map choose_tree (take l.choose-index l.chooses))
