use Rattle.std.proofs.Common.{subst, sym}
use Rattle.cf_linear.specs.Arm.{ColumnLevels}
use Rattle.cf_setwit.specs.Naming.{IsNamed}
use Rattle.cf_setwit.proofs.NameLemmas.{level_inserted}
use Rattle.cf_setwit.proofs.names.ColumnLevels.name.Goals as goal

pub returns-clause-named : goal.returns-clause-named
returns-clause-named c =
    let e = rw c.self.view_is at c.in_ok-insert.ensures.entries in
    subst (λ (ns : ColumnLevels). IsNamed c.args.self.now c.args.column c.args.level ns) (sym e) (level_inserted c.args.self.now c.args.column c.args.level)
