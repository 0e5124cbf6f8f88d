use Rattle.std.proofs.Common.{rules, ◌≡◌}
use Rattle.cf_type.proofs.NameLemmas.{is_among_keys, keys_added}
use Rattle.cf_type.proofs.name_set.insert.Goals as goal

pub returns-clause-had : goal.returns-clause-had
returns-clause-had c =
    let named : c.args.name.now ≡ c.as_slice.result.now = search rules in
    rw named (is_among_keys (λ k. k.now) c.args.names.now.keys c.as_slice.result c.in_ok-insert.field-0 c.in_ok-insert.ensures.added)

pub returns-clause-added : goal.returns-clause-added
returns-clause-added c =
    let named : c.args.name.now ≡ c.as_slice.result.now = search rules in
    rw named (keys_added (λ k. k.now) c.args.names.now.keys c.insert.new.self.keys c.as_slice.result c.in_ok-insert.field-0
    c.in_ok-insert.ensures.added c.in_ok-insert.ensures.keys)
