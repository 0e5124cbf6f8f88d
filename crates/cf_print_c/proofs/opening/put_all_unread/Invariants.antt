use Rattle.std.proofs.Common.{◌≡◌, ◌++◌, drop}
use Rattle.cf_print_c.specs.Files.{all_unread}
use Rattle.cf_print_c.proofs.opening.put_all_unread.Given as goal

abbrev pub invariant-loop-name : goal.invariant-loop-name
invariant-loop-name l = l.out.items ++ all_unread (drop l.name-index l.names) ≡ l.fn.out.items ++ all_unread l.names
