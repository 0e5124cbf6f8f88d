use Rattle.std.proofs.Common.{◌≡◌, to_z, of_z, rules, sym, subst}
use Rattle.std.specs.Int.{w128}
use Rattle.cf_warn.specs.declared.coverage.Cover.TheVariants.{Misses}
use Rattle.cf_answer.specs.Tells.{TellsClasses}
use Rattle.cf_answer.proofs.coverage.by_meaning.Goals as goal

pub returns-in-All : goal.returns-in-All
returns-in-All c = (rw c.in-All.is at c.requires).1

pub returns-in-Misses : goal.returns-in-Misses
returns-in-Misses c =
    let number : to_z w128 (of_z w128 c.in-Misses.number) ≡ c.in-Misses.number = search rules in
    subst (λ z. TellsClasses c.args.classes.now (Misses z)) (sym number) (rw c.in-Misses.is at c.requires).1
