use Rattle.std.proofs.Common.{rules, ◌≡◌, ◌++◌, ◌∷◌, [], arith}
use Rattle.cf_print_c.specs.Files.{reply_name}
use Rattle.cf_print_c.proofs.ReplyLaws.{next_named}
use Rattle.cf_print_c.proofs.filter.reply_names.Goals as goal

pub loop-k-preserved : goal.loop-k-preserved
loop-k-preserved c =
    let pushed : c.push.new.self.items ≡ c.loop-k.all.items ++ (reply_name c.args.name.now c.args.letter.now c.loop-k.k ∷ []) = search rules in
    next_named c.args.name.now c.args.letter.now c.loop-k.k c.args.bases.now c.loop-k.all.items _ _ (omega (arith, c.loop-k-test.true)) pushed
    c.loop-k.invariant
