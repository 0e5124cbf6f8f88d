use Rattle.std.proofs.Common.{◌≡◌, map, take}
use Rattle.cf_tree.specs.RelView.{rel_tree}
use Rattle.cf_form.proofs.copies.copy_rels.Given as goal

abbrev pub invariant-loop-rel : goal.invariant-loop-rel
invariant-loop-rel l = map rel_tree l.all.items ≡ map rel_tree (take l.rel-index l.rels)
