use Rattle.std.proofs.Common.{rules, ◌≡◌, [], ◌∷◌, ◌++◌}
use Rattle.cf_smt.specs.Names.{search_name}
use Rattle.cf_smt.proofs.LoopLaws.{next_search}
use Rattle.cf_smt.proofs.names.search_names.Goals as goal

pub loop-j-preserved : goal.loop-j-preserved
loop-j-preserved c =
    let pushed : c.push.new.self.items ≡ c.loop-j.all.items ++ search_name c.loop-j.j ∷ [] = search rules in
    next_search c.args.bounds.now c.loop-j.j c.loop-j.all.items _ _ c.loop-j-test.true pushed c.loop-j.invariant
