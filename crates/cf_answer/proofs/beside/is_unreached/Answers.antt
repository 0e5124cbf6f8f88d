use Rattle.cf_answer.proofs.beside.is_unreached.Goals as goal

pub returns-then-arm-lt-MOST_ARMS : goal.returns-then-arm-lt-MOST_ARMS
returns-then-arm-lt-MOST_ARMS c = λ e. (c.is_out_of_reach.ensures e).held
