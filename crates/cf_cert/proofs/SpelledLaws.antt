-- The numbers of steps that a steps file spells are within the limit.
use Rattle.std.proofs.Common.{List, [], ◌∷◌, All}
use Rattle.std.proofs.lemmas.List.Elements.{All-head, All-tail}
use Rattle.cf_cases.specs.Holding.{EachOf}
use Rattle.cf_elim.specs.declared.act.Act.{Act}
use Rattle.cf_elim.specs.declared.act.Act.TheVariants.{Clean, Mix, Last, Search, Drop}
use Rattle.cf_elim.specs.Acts.{IsSpelledAct}
use Rattle.cf_cert.specs.Applying.{IsWithinAct}
use Rattle.cf_cert.specs.Laws.{SpelledIsWithin}

act_within : (act : Act) → IsSpelledAct act → IsWithinAct act
act_within Clean h = tt
act_within (Mix x y a b c d) h = (h.2, h.3, h.4, h.5)
act_within (Last e) h = tt
act_within (Search x lower) h = tt
act_within (Drop x) h = tt

acts_within : (acts : List Act) → All IsSpelledAct acts → EachOf IsWithinAct acts
acts_within [] h = tt
acts_within (act ∷ acts) h =
    (act_within act (All-head IsSpelledAct act acts h), acts_within acts (All-tail IsSpelledAct act acts h))

pub spelled_within : SpelledIsWithin
spelled_within [] h = tt
spelled_within (acts ∷ cases) h =
    (acts_within acts (All-head (All IsSpelledAct) acts cases h), spelled_within cases (All-tail (All IsSpelledAct) acts cases h))
