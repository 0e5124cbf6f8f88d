use Rattle.std.proofs.Common.{inl, [], arith}
use Rattle.cf_top.proofs.top.answer_front.Goals as goal

pub returns-then-front-longest_of-clause-answers : goal.returns-then-front-longest_of-clause-answers
returns-then-front-longest_of-clause-answers g c =
    let most = c.longest_of.ensures.is c.args.command.now.flags c.args.command.now.form c.args.command.now.file.now [] in
    λ few. absurd (omega (arith, few, c.if-front-longest_of.true, most))

pub returns-clause-long : goal.returns-clause-long
returns-clause-long g c =
    let most = c.longest_of.ensures.is c.args.command.now.flags c.args.command.now.form c.args.command.now.file.now [] in
    inl (omega (arith, c.if-front-longest_of.false, most))
