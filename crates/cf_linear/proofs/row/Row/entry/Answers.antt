use Rattle.std.proofs.Common.{sym}
use Rattle.cf_linear.proofs.MapLemmas.{back, within_from_lookup, entry_from_lookup, no_entry_from_lookup}
use Rattle.cf_linear.proofs.row.Row.entry.Goals as goal

pub returns-in-Some-clause-value : goal.returns-in-Some-clause-value
returns-in-Some-clause-value c =
    let w = within_from_lookup c.self.inside.entries.entries c.args.column c.in-Some.k.now c.self.invariant.1 (sym c.in-Some.ensures.value) in
    rw (back c.in-Some.k.now w, ← c.self.view_is)
    (sym (entry_from_lookup c.self.inside.entries.entries 0 c.args.column c.in-Some.k.now c.self.invariant.0 (sym c.in-Some.ensures.value)))

pub returns-in-Some-clause-fits : goal.returns-in-Some-clause-fits
returns-in-Some-clause-fits c =
    let w = within_from_lookup c.self.inside.entries.entries c.args.column c.in-Some.k.now c.self.invariant.1 (sym c.in-Some.ensures.value) in
    rw (back c.in-Some.k.now w) w

pub returns-in-None-clause-value : goal.returns-in-None-clause-value
returns-in-None-clause-value c = rw (← c.self.view_is) (sym (no_entry_from_lookup c.self.inside.entries.entries c.args.column (sym c.in-None.ensures.value)))
