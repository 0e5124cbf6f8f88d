use Rattle.std.proofs.Common.{sym, subst}
use Rattle.cf_close.specs.Nodes.{IsComplete}
use Rattle.cf_close.proofs.DefineLemmas.{defined}
use Rattle.cf_close.proofs.refutation.Refutation.define.Goals as goal

pub invariant_of-self : goal.invariant_of-self
invariant_of-self c =
    subst (λ y. IsComplete c.self.inside.problem c.self.inside.closed y c.self.inside.rest.items) (sym c.push_fact.ensures)
    (defined c.push_fact.result c.self.inside.problem c.self.inside.closed c.self.inside.top c.self.inside.rest.items c.args.column c.args.row.now
    c.in_ok-fact.fact c.self.invariant (rw c.conjunctions.ensures at (c.all_lack.ensures c.if-not-all_lack.false))
    (rw c.facts.ensures at (c.facts_lack.ensures c.if-not-facts_lack.false)) c.in_ok-fact.ensures)
