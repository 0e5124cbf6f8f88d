use Rattle.std.proofs.Common.{◌≡◌, drop}
use Rattle.cf_help.specs.ScopeView.{defs_seen}
use Rattle.cf_help.specs.Spots.{function_of}
use Rattle.cf_help.proofs.bases.function_of.Given as goal

abbrev pub invariant-loop-def : goal.invariant-loop-def
invariant-loop-def l = function_of (defs_seen (drop l.def-index l.functions)) l.name ≡ function_of (defs_seen l.functions) l.name
