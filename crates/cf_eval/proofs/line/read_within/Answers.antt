use Rattle.cf_eval.proofs.SpellLemmas.{tells_from, told-bases}
use Rattle.cf_eval.proofs.line.read_within.Goals as goal

pub returns-clause-told : goal.returns-clause-told
returns-clause-told c = tells_from c.args.limit c.args.types.now c.args.line.now _ (rw c.trimmed.ensures at c.read_values.ensures.values)

pub returns-clause-bases : goal.returns-clause-bases
returns-clause-bases c =
    told-bases c.args.limit c.args.types.now c.args.line.now _
    (tells_from c.args.limit c.args.types.now c.args.line.now _ (rw c.trimmed.ensures at c.read_values.ensures.values))
