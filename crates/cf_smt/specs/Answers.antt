-- What putting a choose answers.
use Rattle.std.specs.Prelude.{◌≡◌, ℕ, true, false, List, ◌++◌, Result, Ok, Err}
use Rattle.cf_smt.specs.declared.claims.ClaimFault.{ClaimFault}
use Rattle.cf_smt.specs.declared.claims.ClaimFault.TheVariants.{Sets, NoMemory}
use Rattle.cf_smt.specs.Goals.{claim_has_form, claim_text}
use Rattle.cf_smt.specs.Names.{Claim}

-- its text stands behind the old one, or it has no form, or memory ran out
abbrev pub PutAnswer : {A : Type 0} → Claim → List ℕ → List ℕ → Result A ClaimFault → Type 0
PutAnswer c old new (Ok done) = (claim_has_form c ≡ true) × (new ≡ old ++ claim_text c)
PutAnswer c old new (Err Sets) = claim_has_form c ≡ false
PutAnswer c old new (Err NoMemory) = Unit {0}
