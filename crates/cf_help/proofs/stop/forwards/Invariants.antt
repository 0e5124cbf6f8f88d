use Rattle.std.proofs.Common.{◌≡◌, take}
use Rattle.cf_help.specs.Syntax.{kinds_of}
use Rattle.cf_help.specs.StopView.{kinds_seen}
use Rattle.cf_help.proofs.stop.forwards.Given as goal

abbrev pub invariant-loop-token : goal.invariant-loop-token
invariant-loop-token l = kinds_seen l.all.items ≡ kinds_of (take l.token-index l.tokens)
