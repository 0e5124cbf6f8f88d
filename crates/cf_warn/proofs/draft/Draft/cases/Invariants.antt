use Rattle.std.proofs.Common.{take}
use Rattle.cf_tree.specs.RelView.{rel_tree}
use Rattle.cf_warn.specs.Missing.{turns, traced}
use Rattle.cf_warn.specs.Writing.{IsWritten}
use Rattle.cf_warn.proofs.draft.Draft.cases.Given as goal

abbrev pub invariant-loop-case : goal.invariant-loop-case
invariant-loop-case l = IsWritten l.initial.self l.self (turns (take l.case (traced l.solved.scope.items l.solved.outputs.items (rel_tree l.solved.rel))))
