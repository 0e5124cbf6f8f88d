use Rattle.std.proofs.Common.{◌∙◌, sym}
use Rattle.cf_program.specs.Typed.{typed_tree}
use Rattle.cf_answer.proofs.EmitLemmas.{sets_there}
use Rattle.cf_answer.proofs.emit.check_sets.Goals as goal

pub returns-then-has_sets : goal.returns-then-has_sets
returns-then-has_sets c = λ text s. sets_there c.args.language (typed_tree c.args.typed.now) (sym c.has_sets.ensures ∙ c.if-has_sets.true)
