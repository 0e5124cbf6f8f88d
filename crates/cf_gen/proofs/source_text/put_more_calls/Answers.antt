use Rattle.cf_gen.proofs.Steps.{call_step}
use Rattle.cf_gen.proofs.source_text.put_more_calls.Goals as goal

pub loop-i-preserved : goal.loop-i-preserved
loop-i-preserved c =
    call_step c.loop-i.i c.args.out.now.items c.loop-i.out.items c.extend_from_slice.new.self.items c.put_call.new.out.items c.loop-i.invariant
    c.in_ok-extend_from_slice.ensures.items c.in_ok-put_call.ensures
