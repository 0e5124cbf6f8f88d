use Rattle.std.proofs.Common.{◌≡◌, ◌++◌, drop, map}
use Rattle.cf_tree.specs.CodeView.{code_tree}
use Rattle.cf_smt.specs.Terms.{code_text}
use Rattle.cf_smt.proofs.arm.code_texts.Given as goal

abbrev pub invariant-loop-code : goal.invariant-loop-code
invariant-loop-code l = l.all.items ++ map (code_text l.names) (map (λ c. code_tree c.now) (drop l.code-index l.codes)) ≡ map (code_text l.names)
    (map (λ c. code_tree c.now) l.codes)
