use Rattle.std.proofs.Common.{◌≡◌, to_z, of_z, rules, subst}
use Rattle.std.specs.Int.{w128}
use Rattle.std.specs.Str.{bytes_eq}
use Rattle.indexmap.specs.IndexMap.{insert_entry}
use Rattle.cf_type.proofs.ConstantLemmas.{constant_added}
use Rattle.cf_type.proofs.constants.insert.Goals as goal

pub returns : goal.returns
returns c =
    let es = c.args.values.now.entries in
    let bytes = c.in_ok-bytes.bytes in
    let same : bytes.items ≡ c.args.name.now = search rules in
    let value : to_z w128 (of_z w128 c.args.value) ≡ c.args.value = search rules in
    constant_added es c.insert.new.self.entries bytes c.args.name.now c.args.value same c.requires
    (subst (λ v. c.insert.new.self.entries ≡ insert_entry (λ a b. bytes_eq a.items b.items) es bytes v) value c.in_ok-insert.ensures.entries)
