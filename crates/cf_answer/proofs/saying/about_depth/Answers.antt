use Rattle.cf_answer.proofs.SayingLemmas.{small_text}
use Rattle.cf_answer.proofs.saying.about_depth.Goals as goal

pub parsed-requires-clause-place : goal.parsed-requires-clause-place
parsed-requires-clause-place c = small_text _ c.requires.short
