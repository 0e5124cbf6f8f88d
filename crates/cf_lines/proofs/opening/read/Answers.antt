use Rattle.std.proofs.Common.{◌≤◌, arith, inl, length, refl}
use Rattle.cf_tree.specs.declared.base.Edition.TheVariants.{Two}
use Rattle.cf_words.specs.Commands.{file_command}
use Rattle.cf_answer.specs.Commands.{text_most}
use Rattle.cf_lines.specs.Opening.{long}
use Rattle.cf_lines.proofs.OpenLemmas.{target_read, text_read}
use Rattle.cf_lines.proofs.opening.read.Goals as goal

pub returns-then-front-longest_of : goal.returns-then-front-longest_of
returns-then-front-longest_of g c =
    let command = c.args.command.now in
    let most = c.longest_of.ensures.is command.flags command.form command.file.now in
    record { is = (long refl (omega (arith, c.if-front-longest_of.true, most)), inl refl) }

pub returns-in-Run : goal.returns-in-Run
returns-in-Run g c =
    let command = c.args.command.now in
    let most = c.longest_of.ensures.is command.flags command.form command.file.now in
    let few : length c.args.front.now ≤ text_most (file_command command) Two = omega (arith, c.if-front-longest_of.false, most) in
    rw c.in-Run.is (text_read _ _ _ c.args.front.now _ (rw c.in-Run.is at few) (c.run_replier.ensures command.file.now))

pub returns-in-Exec : goal.returns-in-Exec
returns-in-Exec g c =
    let command = c.args.command.now in
    let most = c.longest_of.ensures.is command.flags command.form command.file.now in
    let few : length c.args.front.now ≤ text_most (file_command command) Two = omega (arith, c.if-front-longest_of.false, most) in
    rw c.in-Exec.is (target_read command.form command.file.now _ _ c.args.front.now _ (rw c.in-Exec.is at few) c.exec_replier.ensures)

pub run_replier-requires-clause-short : goal.run_replier-requires-clause-short
run_replier-requires-clause-short g c =
    let command = c.args.command.now in
    let most = c.longest_of.ensures.is command.flags command.form command.file.now in
    let limit = rw c.in-Run.is at most in omega (arith, c.if-front-longest_of.false, limit)
