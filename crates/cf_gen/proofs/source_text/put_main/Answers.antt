use Rattle.cf_gen.proofs.Steps.{main_put}
use Rattle.cf_gen.proofs.source_text.put_main.Goals as goal

pub returns : goal.returns
returns c =
    main_put c.args.n c.args.out.now.items c.extend_from_slice.new.self.items c.put_call.new.out.items c.put_more_calls.new.out.items c.push.new.self.items
    c.in_ok-extend_from_slice.ensures.items c.in_ok-put_call.ensures c.in_ok-put_more_calls.ensures c.in_ok-push.ensures.items
