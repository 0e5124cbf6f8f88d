use Rattle.std.proofs.Common.{◌≡◌, rules}
use Rattle.cf_type.proofs.NumberLemmas.{name_kept, name_added}
use Rattle.cf_type.proofs.callees.add.Goals as goal

pub returns-then-contains_key : goal.returns-then-contains_key
returns-then-contains_key c =
    let named : c.args.name.now ≡ c.as_slice-bytes.result.now = search rules in
    rw named (name_kept c.args.numbers.now.entries c.as_slice-bytes.result.now c.args.number c.if-contains_key.ensures)

pub returns : goal.returns
returns c =
    let named : c.args.name.now ≡ c.as_slice-bytes.result.now = search rules in
    let number : c.args.number ≡ c.in_ok-number.number = search rules in
    let same : c.in_ok-from_slice.field-0.items ≡ c.as_slice-bytes.result.now = search rules in
    rw (named, number) (name_added c.args.numbers.now.entries c.insert.new.self.entries c.in_ok-from_slice.field-0 c.as_slice-bytes.result.now
    c.in_ok-number.number same c.if-contains_key.ensures c.in_ok-insert.ensures.entries)
