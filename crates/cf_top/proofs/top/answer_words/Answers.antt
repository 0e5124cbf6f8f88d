use Rattle.std.proofs.Common.{◌∙◌, refl, sym, inl, [], map, string_bytes}
use Rattle.cf_words.specs.Words.{command_of}
use Rattle.cf_answer.specs.declared.fault.Fault.TheVariants as fault
use Rattle.cf_answer.proofs.EndedLemmas.{plain_line, plain_memory, plain_written}
use Rattle.cf_top.proofs.DoesLemmas.{fileless_does, nothing_answers, reads_a_file, file_in_order, none_asked, none_fetched, none_in_order}
use Rattle.cf_top.proofs.top.answer_words.Goals as goal

pub returns-in-Ok-Gen-clause-answers : goal.returns-in-Ok-Gen-clause-answers
returns-in-Ok-Gen-clause-answers g c =
    rw (rw c.in-Ok-Gen.field-0-is at c.in-Ok-Gen.ensures.answer)
    (fileless_does _ _ _ _ _ _ refl (rw c.plain.ensures.answer (c.write_workload.ensures.answers (g.I.Source.seen c.args.input.now))) refl)

pub returns-in-Ok-Gen-clause-usage : goal.returns-in-Ok-Gen-clause-usage
returns-in-Ok-Gen-clause-usage g c = λ e. absurd ((c.write_workload.ensures.answers (g.I.Source.seen c.args.input.now)).not_usage (sym c.plain.ensures.answer ∙ e))

pub returns-in-Err-NoMemory-clause-answers : goal.returns-in-Err-NoMemory-clause-answers
returns-in-Err-NoMemory-clause-answers g c = rw c.plain-in-Err-NoMemory.ensures.answer (nothing_answers _ _ _)

pub returns-in-Ok-OnFile-clause-unfetched : goal.returns-in-Ok-OnFile-clause-unfetched
returns-in-Ok-OnFile-clause-unfetched g c =
    rw (rw c.in-Ok-OnFile.field-0-is at c.in-Ok-OnFile.ensures.answer)
    (λ none. absurd (reads_a_file c.in-Ok-OnFile.command.kind c.in-Ok-OnFile.command.flags c.in-Ok-OnFile.command.form c.in-Ok-OnFile.command.file.now none))

pub returns-in-Ok-Verify-clause-answers : goal.returns-in-Ok-Verify-clause-answers
returns-in-Ok-Verify-clause-answers g c =
    rw (rw c.in-Ok-Verify.field-0-is at c.in-Ok-Verify.ensures.answer)
    (c.verify_files.ensures.does _ (g.I.Source.seen c.args.input.now))

pub returns-in-Ok-Verify-clause-order : goal.returns-in-Ok-Verify-clause-order
returns-in-Ok-Verify-clause-order g c =
    rw (rw c.in-Ok-Verify.field-0-is at c.in-Ok-Verify.ensures.answer)
    c.verify_files.ensures.order

pub returns-in-Ok-OnFile-clause-order : goal.returns-in-Ok-OnFile-clause-order
returns-in-Ok-OnFile-clause-order g c =
    rw (rw c.in-Ok-OnFile.field-0-is at c.in-Ok-OnFile.ensures.answer)
    (file_in_order c.in-Ok-OnFile.command.kind c.in-Ok-OnFile.command.flags c.in-Ok-OnFile.command.form c.in-Ok-OnFile.command.file.now _ _ _)

pub returns-in-Ok-Gen-clause-order : goal.returns-in-Ok-Gen-clause-order
returns-in-Ok-Gen-clause-order g c = rw (rw c.in-Ok-Gen.field-0-is at c.in-Ok-Gen.ensures.answer) tt

pub returns-in-Ok-Gen-clause-early : goal.returns-in-Ok-Gen-clause-early
returns-in-Ok-Gen-clause-early g c = λ e. let other = c.in-Ok-Gen.ensures.early e in cc

pub returns-in-Ok-OnFile-clause-early : goal.returns-in-Ok-OnFile-clause-early
returns-in-Ok-OnFile-clause-early g c = λ e. let other = c.in-Ok-OnFile.ensures.early e in cc

pub returns-in-Ok-Verify-clause-early : goal.returns-in-Ok-Verify-clause-early
returns-in-Ok-Verify-clause-early g c = λ e. let other = c.in-Ok-Verify.ensures.early e in cc

pub returns-in-Err-NoMemory-clause-early : goal.returns-in-Err-NoMemory-clause-early
returns-in-Err-NoMemory-clause-early g c = λ e. let other = c.in-Err-NoMemory.ensures.early e in cc

pub returns-in-Ok-Help-clause-answers : goal.returns-in-Ok-Help-clause-answers
returns-in-Ok-Help-clause-answers g c =
    rw (rw c.in-Ok-Help.field-0-is at c.in-Ok-Help.ensures.answer)
    (fileless_does _ _ _ _ _ _ refl (rw c.plain-in-Ok-Help.ensures.answer (c.write_help.ensures.answers _ (g.I.Source.seen c.args.input.now))) refl)

pub returns-in-Ok-Help-clause-usage : goal.returns-in-Ok-Help-clause-usage
returns-in-Ok-Help-clause-usage g c = λ e. absurd ((c.write_help.ensures.answers [] (g.I.Source.seen c.args.input.now)).not_usage (sym c.plain-in-Ok-Help.ensures.answer ∙ e))

pub returns-in-Ok-Help-clause-order : goal.returns-in-Ok-Help-clause-order
returns-in-Ok-Help-clause-order g c = rw (rw c.in-Ok-Help.field-0-is at c.in-Ok-Help.ensures.answer) tt

pub returns-in-Ok-Help-clause-early : goal.returns-in-Ok-Help-clause-early
returns-in-Ok-Help-clause-early g c = λ e. let other = c.in-Ok-Help.ensures.early e in cc

pub returns-in-Ok-Version-clause-answers : goal.returns-in-Ok-Version-clause-answers
returns-in-Ok-Version-clause-answers g c =
    rw (rw c.in-Ok-Version.field-0-is at c.in-Ok-Version.ensures.answer)
    (fileless_does _ _ _ _ _ _ refl (rw c.plain-in-Ok-Version.ensures.answer (c.write_version.ensures.answers _ (g.I.Source.seen c.args.input.now))) refl)

pub returns-in-Ok-Version-clause-usage : goal.returns-in-Ok-Version-clause-usage
returns-in-Ok-Version-clause-usage g c = λ e. absurd ((c.write_version.ensures.answers [] (g.I.Source.seen c.args.input.now)).not_usage (sym c.plain-in-Ok-Version.ensures.answer ∙ e))

pub returns-in-Ok-Version-clause-order : goal.returns-in-Ok-Version-clause-order
returns-in-Ok-Version-clause-order g c = rw (rw c.in-Ok-Version.field-0-is at c.in-Ok-Version.ensures.answer) tt

pub returns-in-Ok-Version-clause-early : goal.returns-in-Ok-Version-clause-early
returns-in-Ok-Version-clause-early g c = λ e. let other = c.in-Ok-Version.ensures.early e in cc

pub returns-in-Err-NoMemory-clause-unasked : goal.returns-in-Err-NoMemory-clause-unasked
returns-in-Err-NoMemory-clause-unasked g c = none_asked (command_of (map string_bytes c.args.words.now)) _

pub returns-in-Err-NoMemory-clause-unfetched : goal.returns-in-Err-NoMemory-clause-unfetched
returns-in-Err-NoMemory-clause-unfetched g c = none_fetched (command_of (map string_bytes c.args.words.now)) _

pub returns-in-Err-NoMemory-clause-order : goal.returns-in-Err-NoMemory-clause-order
returns-in-Err-NoMemory-clause-order g c =
    rw c.plain-in-Err-NoMemory.ensures.answer (none_in_order (command_of (map string_bytes c.args.words.now)) _)

pub returns-in-Ok-OnFile-clause-written : goal.returns-in-Ok-OnFile-clause-written
returns-in-Ok-OnFile-clause-written g c = rw (rw c.in-Ok-OnFile.field-0-is at c.in-Ok-OnFile.ensures.answer) c.answer_file.ensures.written

pub returns-in-Ok-Verify-clause-written : goal.returns-in-Ok-Verify-clause-written
returns-in-Ok-Verify-clause-written g c = rw (rw c.in-Ok-Verify.field-0-is at c.in-Ok-Verify.ensures.answer) c.verify_files.ensures.written

pub returns-in-Ok-Gen-clause-written : goal.returns-in-Ok-Gen-clause-written
returns-in-Ok-Gen-clause-written g c =
    rw (rw c.in-Ok-Gen.field-0-is at c.in-Ok-Gen.ensures.answer) (inl (plain_line _ c.plain.ensures.message))

pub returns-in-Ok-Help-clause-written : goal.returns-in-Ok-Help-clause-written
returns-in-Ok-Help-clause-written g c =
    rw (rw c.in-Ok-Help.field-0-is at c.in-Ok-Help.ensures.answer) (inl (plain_line _ c.plain-in-Ok-Help.ensures.message))

pub returns-in-Ok-Version-clause-written : goal.returns-in-Ok-Version-clause-written
returns-in-Ok-Version-clause-written g c =
    rw (rw c.in-Ok-Version.field-0-is at c.in-Ok-Version.ensures.answer) (inl (plain_line _ c.plain-in-Ok-Version.ensures.message))

pub returns-in-Err-NoMemory-clause-written : goal.returns-in-Err-NoMemory-clause-written
returns-in-Err-NoMemory-clause-written g c = plain_written (command_of (map string_bytes c.args.words.now)) (g.F.Shelf.seen c.args.shelf.now).texts fault.NoMemory _ plain_memory c.plain-in-Err-NoMemory.ensures.answer c.plain-in-Err-NoMemory.ensures.message
