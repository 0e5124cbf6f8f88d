use Rattle.std.proofs.Common.{◌≡◌, drop}
use Rattle.cf_help.specs.Syntax.{section_of}
use Rattle.cf_help.specs.StopView.{kinds_seen}
use Rattle.cf_help.proofs.stop.section_of.Given as goal

abbrev pub invariant-loop-kind : goal.invariant-loop-kind
invariant-loop-kind l = section_of (kinds_seen (drop l.kind-index l.before)) ≡ section_of (kinds_seen l.before)
