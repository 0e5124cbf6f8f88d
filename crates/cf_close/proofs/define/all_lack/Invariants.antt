use Rattle.std.proofs.Common.{All, take}
use Rattle.cf_close.specs.Nodes.{NodeLacks}
use Rattle.cf_close.proofs.define.all_lack.Given as goal

abbrev pub invariant-loop-node : goal.invariant-loop-node
invariant-loop-node l = All (NodeLacks l.column) (take l.node-index l.nodes)
