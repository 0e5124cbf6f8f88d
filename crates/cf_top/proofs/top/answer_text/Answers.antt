use Rattle.cf_top.proofs.top.answer_text.Goals as goal

pub returns-in-Compile-clause-answers : goal.returns-in-Compile-clause-answers
returns-in-Compile-clause-answers g c = rw c.in-Compile.is (c.write_target.ensures.answers c.args.command.now.file.now (g.I.Source.seen c.args.input.now))

pub returns-in-Run-clause-answers : goal.returns-in-Run-clause-answers
returns-in-Run-clause-answers g c = rw c.in-Run.is (c.run_source.ensures.answers c.args.command.now.file.now)

pub returns-in-Pre-clause-answers : goal.returns-in-Pre-clause-answers
returns-in-Pre-clause-answers g c =
    rw c.in-Pre.is (c.write_preconditions.ensures.answers c.args.command.now.file.now _ (g.I.Source.seen c.args.input.now))

pub returns-in-Check-clause-answers : goal.returns-in-Check-clause-answers
returns-in-Check-clause-answers g c =
    rw c.in-Check.is (rw c.as_bytes.ensures.value at c.write_checks.ensures.answers _ (g.I.Source.seen c.args.input.now))

pub returns-in-Exec-clause-answers : goal.returns-in-Exec-clause-answers
returns-in-Exec-clause-answers g c = rw c.in-Exec.is (c.run_target.ensures.answers c.args.command.now.file.now _)

pub returns-in-Prove-clause-answers : goal.returns-in-Prove-clause-answers
returns-in-Prove-clause-answers g c =
    rw c.in-Prove.is (c.write_blocks.ensures.answers c.args.command.now.file.now _ (g.I.Source.seen c.args.input.now))

pub returns-in-Emit-clause-answers : goal.returns-in-Emit-clause-answers
returns-in-Emit-clause-answers g c =
    rw c.in-Emit.is (c.write_emitted.ensures.answers c.args.command.now.file.now (g.I.Source.seen c.args.input.now))

pub returns-in-Goals-clause-answers : goal.returns-in-Goals-clause-answers
returns-in-Goals-clause-answers g c =
    rw c.in-Goals.is (c.write_goals.ensures.answers c.args.command.now.file.now _ (g.I.Source.seen c.args.input.now))
