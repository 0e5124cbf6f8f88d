use Rattle.std.proofs.Common.{refl, ◌+◌}
use Rattle.cf_gen.proofs.Steps.{function_step, seed_more}
use Rattle.cf_gen.proofs.source_text.put_functions.Goals as goal

pub loop-i-preserved : goal.loop-i-preserved
loop-i-preserved c = record {
  seed = seed_more c.args.n c.loop-i.i (c.loop-i.i + 1) c.loop-i.seed c.next_seed-seed.result refl c.loop-i.invariant.seed c.next_seed-seed.ensures;
  written =
      function_step c.args.n c.loop-i.i c.loop-i.seed c.next_seed-seed.result c.coefficient.result c.args.out.now.items c.loop-i.out.items
      c.put_function.new.out.items c.loop-i.invariant.seed c.next_seed-seed.ensures c.coefficient.ensures
      c.loop-i.invariant.written c.in_ok-put_function.ensures;
}
