use Rattle.std.proofs.Common.{rules}
use Rattle.cf_json.proofs.ListLemmas.{choose_error_parts}
use Rattle.cf_json.proofs.object.put_choose_error.Goals as goal

pub returns : goal.returns
returns c =
    choose_error_parts c.args.out.now.items c.push.new.self.items c.put_label.new.out.items c.put_quoted.new.out.items c.put_choose.new.out.items
    c.args.words.now c.args.number (search rules) c.in_ok-put_label.ensures c.in_ok-put_quoted.ensures c.in_ok-put_choose.ensures
