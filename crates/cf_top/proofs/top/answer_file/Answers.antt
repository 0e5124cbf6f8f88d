use Rattle.std.proofs.Common.{◌≡◌, ◌∙◌, refl, Some, [], arith, rules}
use Rattle.cf_words.specs.Commands.{file_command}
use Rattle.cf_answer.specs.declared.fault.Fault.TheVariants as fault
use Rattle.cf_answer.proofs.EndedLemmas.{ended_does, ended_early, ended_usage, front_told, plain_file, plain_memory, plain_written}
use Rattle.cf_top.proofs.DoesLemmas.{one_name, file_read, front_does, file_does, memory_does, untouched_by}
use Rattle.cf_top.proofs.top.answer_file.Goals as goal

-- the file was read as far as it may be
pub returns-in-Ok-clause-does : goal.returns-in-Ok-clause-does
returns-in-Ok-clause-does g c =
    let command = c.args.command.now in
    let most = c.longest_of-limit.ensures.is command.flags command.form command.file.now in
    let same : c.deref.result.now ≡ c.in-Ok.front.items = search rules in
    let file = file_read (file_command command) command.file.now _ _ c.longest_of-limit.result most c.in-Ok.ensures.asked c.in-Ok.ensures.most
    c.in-Ok.ensures.given c.in-Ok.ensures.ends in
    ended_does _ _ _ _ _ _ _ c.on_file.ensures.answer
    (front_does command.kind command.flags command.form command.file.now _ _ _ _ file c.deref.result.now _ (rw same c.in-Ok.ensures.front)
    (rw (most []) c.answer_front-answer.ensures.answers) (untouched_by g.I.Source.seen g.O.Sink.seen _ _ _ _ (rw (most []) c.answer_front-answer.ensures.long))
    (c.in-Ok.ensures.same (λ e. cc)))

pub returns-in-Ok-clause-written : goal.returns-in-Ok-clause-written
returns-in-Ok-clause-written g c =
    let command = c.args.command.now in
    let most = c.longest_of-limit.ensures.is command.flags command.form command.file.now [] in
    let same : c.deref-in-Ok.result.now ≡ c.in-Ok.front.items = search rules in
    let source = front_told _ _ _ (rw most at c.in-Ok.ensures.front) (rw most at c.in-Ok.ensures.short) in
    c.on_file.ensures.written _ source.0 source.1 (same ∙ source.2)

pub returns-in-Ok-clause-usage : goal.returns-in-Ok-clause-usage
returns-in-Ok-clause-usage g c = ended_usage _ _ c.on_file.ensures.answer c.answer_front-answer.ensures.usage

pub returns-in-Ok-clause-unread : goal.returns-in-Ok-clause-unread
returns-in-Ok-clause-unread g c = ended_early _ _ c.on_file.ensures.answer c.answer_front-answer.ensures.unread

pub returns-in-Ok-clause-unwritten : goal.returns-in-Ok-clause-unwritten
returns-in-Ok-clause-unwritten g c = ended_early _ _ c.on_file.ensures.answer c.answer_front-answer.ensures.unwritten

-- the file failed
pub returns-in-Err-Failed-clause-does : goal.returns-in-Err-Failed-clause-does
returns-in-Err-Failed-clause-does g c =
    let command = c.args.command.now in
    let is = c.in-Err-Failed.field-0-is in
    let most = c.longest_of-limit.ensures.is command.flags command.form command.file.now in
    let e = c.in-Err-Failed.ensures in
    rw c.plain.ensures.answer
    (file_does (file_command command) command.file.now _ _ _ (one_name command.kind command.flags command.form command.file.now)
    (file_read (file_command command) command.file.now _ _ c.longest_of-limit.result most e.asked e.most e.given e.ends) refl (e.failed (rw is refl)) e.once)

pub returns-in-Err-Failed-clause-written : goal.returns-in-Err-Failed-clause-written
returns-in-Err-Failed-clause-written g c =
    plain_written (Some (file_command c.args.command.now)) (g.F.Shelf.seen c.args.shelf.now).texts fault.File _ plain_file c.plain.ensures.answer
    c.plain.ensures.message

-- memory ran out
pub returns-in-Err-NoMemory-clause-does : goal.returns-in-Err-NoMemory-clause-does
returns-in-Err-NoMemory-clause-does g c =
    let command = c.args.command.now in
    let most = c.longest_of-limit.ensures.is command.flags command.form command.file.now in
    let e = c.in-Err-NoMemory.ensures in
    rw c.plain-in-Err-NoMemory.ensures.answer
    (memory_does (file_command command) command.file.now _ _ _ (one_name command.kind command.flags command.form command.file.now)
    (file_read (file_command command) command.file.now _ _ c.longest_of-limit.result most e.asked e.most e.given e.ends) refl (e.same (λ i. cc)))

pub returns-in-Err-NoMemory-clause-written : goal.returns-in-Err-NoMemory-clause-written
returns-in-Err-NoMemory-clause-written g c =
    plain_written (Some (file_command c.args.command.now)) (g.F.Shelf.seen c.args.shelf.now).texts fault.NoMemory _ plain_memory
    c.plain-in-Err-NoMemory.ensures.answer c.plain-in-Err-NoMemory.ensures.message

-- no more was read than may be
pub on_file-requires-clause-read : goal.on_file-requires-clause-read
on_file-requires-clause-read g c =
    let command = c.args.command.now in
    let most = c.longest_of-limit.ensures.is command.flags command.form command.file.now [] in
    let same : c.deref-in-Ok.result.now ≡ c.in-Ok.front.items = search rules in
    rw same (omega (arith, c.in-Ok.ensures.short, most))
