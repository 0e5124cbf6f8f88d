use Rattle.std.proofs.Common.{◌≡◌, ◌++◌, drop}
use Rattle.cf_tree.specs.CodeView.{code_trees}
use Rattle.cf_smt.specs.Terms.{paired_behind, parts_text}
use Rattle.cf_smt.proofs.code.+put_code.Given as goal

abbrev pub invariant-put_parts-loop-part : goal.invariant-put_parts-loop-part
invariant-put_parts-loop-part l = l.out.items ++ parts_text l.names (code_trees (drop l.part-index l.parts)) ≡ l.fn.out.items ++ parts_text l.names
    (code_trees l.parts)

abbrev pub invariant-put_paired_behind-loop-i : goal.invariant-put_paired_behind-loop-i
invariant-put_paired_behind-loop-i l = l.out.items ++ paired_behind l.names (code_trees (drop l.i l.parts)) ≡ l.fn.out.items ++ paired_behind l.names
    (code_trees (drop 1 l.parts))
