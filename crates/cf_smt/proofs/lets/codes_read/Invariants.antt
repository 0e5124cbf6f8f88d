use Rattle.std.proofs.Common.{◌≡◌, drop, map}
use Rattle.std.specs.List.{list_any}
use Rattle.cf_tree.specs.CodeView.{code_tree}
use Rattle.cf_smt.specs.Reads.{reads}
use Rattle.cf_smt.proofs.lets.codes_read.Given as goal

abbrev pub invariant-loop-code : goal.invariant-loop-code
invariant-loop-code l = list_any (reads l.level) (map (λ c. code_tree c.now) (drop l.code-index l.codes)) ≡ list_any (reads l.level)
    (map (λ c. code_tree c.now) l.codes)
