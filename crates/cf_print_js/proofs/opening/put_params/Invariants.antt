use Rattle.std.proofs.Common.{◌≡◌, ◌++◌, drop}
use Rattle.cf_print_js.specs.Files.{params}
use Rattle.cf_print_js.proofs.opening.put_params.Given as goal

abbrev pub invariant-loop-name : goal.invariant-loop-name
invariant-loop-name l = l.out.items ++ params (drop l.name-index l.names) l.left ≡ l.fn.out.items ++ params l.names l.bases
