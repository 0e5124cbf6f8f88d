use Rattle.cf_memory.specs.Held.{growing_seen}
use Rattle.cf_c.proofs.LineLemmas.{opened_program}
use Rattle.cf_c.proofs.opening.conclude.Goals as goal

pub returns-in-Ok-clause-opened : goal.returns-in-Ok-clause-opened
returns-in-Ok-clause-opened c =
    λ command given last shelf after is. opened_program command given last shelf after (growing_seen c.args.err.now) c.in-Ok.replier c.boxed.result
    (rw c.in-Ok.is at is) c.boxed.ensures

pub returns-in-Err-clause-opened : goal.returns-in-Err-clause-opened
returns-in-Err-clause-opened c =
    λ command given last shelf after is. record {
      after = after;
      how = c.in-Err.ended;
      shut = rw c.in-Err.is at is;
      is = c.shut.ensures.status;
      told = c.shut.ensures.told;
    }
