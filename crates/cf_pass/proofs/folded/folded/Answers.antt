use Rattle.cf_pass.proofs.FoldLemmas.{form_is}
use Rattle.cf_pass.proofs.folded.folded.Goals as goal

pub returns : goal.returns
returns c = form_is _ _ c.value.ensures
