use Rattle.std.proofs.Common.{◌≡◌, map, drop}
use Rattle.std.specs.Prelude.{Some}
use Rattle.cf_help.specs.Syntax.{is_one_of}
use Rattle.cf_help.proofs.kinds.is_among.Given as goal

abbrev pub invariant-loop-text : goal.invariant-loop-text
invariant-loop-text l = is_one_of (map (λ t. t.now) (drop l.text-index l.texts)) (Some l.word) ≡ is_one_of (map (λ t. t.now) l.texts) (Some l.word)
