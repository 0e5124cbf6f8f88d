use Rattle.std.proofs.Common.{◌+◌, arith}
use Rattle.cf_gen.proofs.Steps.{line_step, seed_more}
use Rattle.cf_gen.proofs.input_lines.put_lines.Goals as goal

pub loop-i-preserved : goal.loop-i-preserved
loop-i-preserved c = record {
  seed =
      seed_more c.args.n (c.args.n + c.loop-i.i) (c.args.n + (c.loop-i.i + 1)) c.loop-i.seed c.next_seed-seed.result (omega arith)
      c.loop-i.invariant.seed c.next_seed-seed.ensures;
  written =
      line_step c.args.n c.loop-i.i c.loop-i.seed c.next_seed-seed.result c.args.out.now.items c.loop-i.out.items c.put_line.new.out.items
      c.loop-i.invariant.seed c.next_seed-seed.ensures c.loop-i.invariant.written c.in_ok-put_line.ensures;
}
