use Rattle.std.proofs.Common.{◌≡◌, ◌++◌, drop}
use Rattle.std.specs.Prelude.{flat_map}
use Rattle.cf_help.specs.Faults.{call_text}
use Rattle.cf_help.proofs.bent.put_calls.Given as goal

abbrev pub invariant-loop-name : goal.invariant-loop-name
invariant-loop-name l = l.out.items ++ flat_map call_text (drop l.name-index l.names) ≡ l.fn.out.items ++ flat_map call_text l.names
