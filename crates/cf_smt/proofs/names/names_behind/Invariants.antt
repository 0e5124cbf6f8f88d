use Rattle.std.proofs.Common.{◌≡◌, drop}
use Rattle.cf_smt.specs.ClaimView.{plain_claim}
use Rattle.cf_smt.specs.Names.{names_behind}
use Rattle.cf_smt.proofs.names.names_behind.Given as goal

abbrev pub invariant-loop-wish : goal.invariant-loop-wish
invariant-loop-wish l =
    names_behind (plain_claim l.claim) l.all.items (drop l.wish-index l.wishes) ≡ names_behind (plain_claim l.claim) l.fn.names.items l.wishes
