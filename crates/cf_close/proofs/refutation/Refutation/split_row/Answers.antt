use Rattle.cf_close.proofs.RefutationLemmas.{complete_split, cut_splits}
use Rattle.cf_close.proofs.refutation.Refutation.split_row.Goals as goal

pub invariant_of-self-2 : goal.invariant_of-self-2
invariant_of-self-2 c =
    complete_split c.self.inside.problem c.self.inside.closed c.self.inside.top c.in_ok-first.field-0.first c.in_ok-first.field-0.second
    c.self.inside.rest.items c.push_node.new.rest.items c.self.invariant (cut_splits c.self.inside.problem c.self.inside.top c.in_ok-first.field-0.first c.in_ok-first.field-0.second c.in_ok-first.ensures)
    (rw c.in_ok-push_node.was at c.push_node.ensures)
