use Rattle.std.proofs.Common.{rules, ◌≡◌}
use Rattle.cf_tree.specs.RelView.{rel_tree}
use Rattle.cf_relation_text.specs.RelationText.{rel_text}
use Rattle.cf_relation_text.proofs.Spelled.{reads_back_as}
use Rattle.cf_relation_text.proofs.printing.print_relation.Goals as goal

pub returns-clause-reads_back : goal.returns-clause-reads_back
returns-clause-reads_back c h =
    let is : c.put_rel.new.out.items ≡ rel_text c.args.names.now (rel_tree c.args.rel.now) = search rules in
    reads_back_as c.args.names.now (rel_tree c.args.rel.now) c.put_rel.new.out.items is h
