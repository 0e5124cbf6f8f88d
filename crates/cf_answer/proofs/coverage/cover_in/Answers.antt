use Rattle.cf_answer.proofs.coverage.cover_in.Goals as goal

pub returns-in-Two : goal.returns-in-Two
returns-in-Two c = rw c.in-Two.is c.in_ok-cover.ensures

pub returns-in-Three : goal.returns-in-Three
returns-in-Three c = rw c.in-Three.is c.by_meaning.ensures
