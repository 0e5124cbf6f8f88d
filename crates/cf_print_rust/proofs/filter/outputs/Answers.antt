use Rattle.std.proofs.Common.{rules, ◌≡◌, ◌++◌, ◌∷◌, [], get_or, arith}
use Rattle.cf_tree.specs.declared.base.Base.TheVariants.{Int}
use Rattle.cf_print_rust.specs.Files.{output}
use Rattle.cf_print_rust.proofs.NumberedLaws.{next_numbered}
use Rattle.cf_print_rust.proofs.filter.outputs.Goals as goal

pub loop-k-preserved : goal.loop-k-preserved
loop-k-preserved c =
    let pushed : c.push.new.self.items ≡ c.loop-k.all.items ++ (output (get_or c.args.bases.now c.loop-k.k Int) c.loop-k.k ∷ []) = search rules in
    next_numbered output c.loop-k.k c.args.bases.now Int c.loop-k.all.items _ _ (omega (arith, c.loop-k-test.true)) pushed c.loop-k.invariant
