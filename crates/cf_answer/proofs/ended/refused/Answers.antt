use Rattle.cf_answer.proofs.SayingLemmas.{small_front}
use Rattle.cf_answer.proofs.ended.refused.Goals as goal

pub edition_of-requires : goal.edition_of-requires
edition_of-requires c = small_front _ c.requires.read
