use Rattle.std.proofs.Common.{◌≡◌, ◌∙◌, refl, inl, inr, subst, sym, Some, rules}
use Rattle.cf_program.specs.declared.linearity.Linearity.TheVariants.{Plain}
use Rattle.cf_words.specs.Commands.{verify}
use Rattle.cf_answer.specs.Limits.{text_limit}
use Rattle.cf_answer.specs.Verifying.{file_failed, no_room, IsFetched}
use Rattle.cf_answer.specs.Written.{IsWritten, line_of}
use Rattle.cf_answer.specs.declared.fault.Fault.TheVariants as fault
use Rattle.cf_answer.proofs.EndedLemmas.{ended_does, ended_early, ended_usage, front_told, plain_file, plain_memory, plain_written}
use Rattle.cf_answer.proofs.VerifyLemmas.{source_does, source_in_order, ended_in_order}
use Rattle.cf_answer.proofs.verify.verify_files.Goals as goal

-- so much of the source was read
pub returns-in-Ok-clause-does : goal.returns-in-Ok-clause-does
returns-in-Ok-clause-does g c =
    let source = front_told _ _ _ (rw c.longest_text.ensures.is at c.in-Ok.ensures.front) (rw c.longest_text.ensures.is at c.in-Ok.ensures.short) in
    let same : c.deref.result.now ≡ c.in-Ok.front.items = search rules in
    λ given input. ended_does _ given given _ _ _ _ c.on_source.ensures.answer
    (c.verify_front-answer.ensures.does c.args.file.now source.0 _
    (record {
      fetched = c.in-Ok.ensures.asked;
      front = rw c.longest_text.ensures.is at c.in-Ok.ensures.most;
      given = rw c.longest_text.ensures.is at c.in-Ok.ensures.given;
      ends = c.in-Ok.ensures.ends;
      texts = c.in-Ok.ensures.texts;
      once = c.in-Ok.ensures.once;
    })
    (c.in-Ok.ensures.same (λ e. cc)) source.1 (same ∙ source.2) given input)

pub returns-in-Ok-clause-written : goal.returns-in-Ok-clause-written
returns-in-Ok-clause-written g c =
    let source = front_told _ _ _ (rw c.longest_text.ensures.is at c.in-Ok.ensures.front) (rw c.longest_text.ensures.is at c.in-Ok.ensures.short) in
    let same : c.deref-in-Ok.result.now ≡ c.in-Ok.front.items = search rules in
    let named : c.as_bytes.result.now ≡ c.args.file.now = search rules in
    inl (
      source.0,
      source.1,
      subst (λ name. IsWritten Plain name source.0 c.on_source.result.answer (line_of c.on_source.result)) named
          (c.on_source.ensures.written source.0 (same ∙ source.2)),
    )

pub returns-in-Ok-clause-usage : goal.returns-in-Ok-clause-usage
returns-in-Ok-clause-usage g c = ended_usage _ _ c.on_source.ensures.answer c.verify_front-answer.ensures.usage

pub returns-in-Ok-clause-unwritten : goal.returns-in-Ok-clause-unwritten
returns-in-Ok-clause-unwritten g c = ended_early _ _ c.on_source.ensures.answer c.verify_front-answer.ensures.unwritten

pub returns-in-Ok-clause-order : goal.returns-in-Ok-clause-order
returns-in-Ok-clause-order g c =
    let source = front_told _ _ _ (rw c.longest_text.ensures.is at c.in-Ok.ensures.front) (rw c.longest_text.ensures.is at c.in-Ok.ensures.short) in
    let same : c.deref.result.now ≡ c.in-Ok.front.items = search rules in
    ended_in_order _ _ _ _ _ _ c.on_source.ensures.answer
    (c.verify_front-answer.ensures.order c.args.file.now source.0 _
    (record {
      fetched = c.in-Ok.ensures.asked;
      front = rw c.longest_text.ensures.is at c.in-Ok.ensures.most;
      given = rw c.longest_text.ensures.is at c.in-Ok.ensures.given;
      ends = c.in-Ok.ensures.ends;
      texts = c.in-Ok.ensures.texts;
      once = c.in-Ok.ensures.once;
    })
    (c.in-Ok.ensures.same (λ e. cc)) source.1 (same ∙ source.2))

-- the file failed
pub returns-in-Err-Failed-clause-does : goal.returns-in-Err-Failed-clause-does
returns-in-Err-Failed-clause-does g c =
    λ given input.
    let is = c.in-Err-Failed.field-0-is in
    rw c.plain.ensures.answer
    (source_does c.args.file.now c.args.steps.now given _ _ fault.File
    (record {
      fetched = c.in-Err-Failed.ensures.asked;
      front = rw c.longest_text.ensures.is at c.in-Err-Failed.ensures.most;
      given = rw c.longest_text.ensures.is at c.in-Err-Failed.ensures.given;
      ends = c.in-Err-Failed.ensures.ends;
      texts = c.in-Err-Failed.ensures.texts;
      once = c.in-Err-Failed.ensures.once;
    })
    refl (file_failed refl (c.in-Err-Failed.ensures.failed (rw is refl))))

pub returns-in-Err-Failed-clause-written : goal.returns-in-Err-Failed-clause-written
returns-in-Err-Failed-clause-written g c =
    plain_written (Some (verify c.args.file.now c.args.steps.now)) (g.F.Shelf.seen c.args.shelf.now).texts fault.File _ plain_file c.plain.ensures.answer
    c.plain.ensures.message

pub returns-in-Err-Failed-clause-order : goal.returns-in-Err-Failed-clause-order
returns-in-Err-Failed-clause-order g c =
    let is = c.in-Err-Failed.field-0-is in
    rw c.plain.ensures.answer
    (source_in_order _ _ _ _ fault.File
    (record {
      fetched = c.in-Err-Failed.ensures.asked;
      front = rw c.longest_text.ensures.is at c.in-Err-Failed.ensures.most;
      given = rw c.longest_text.ensures.is at c.in-Err-Failed.ensures.given;
      ends = c.in-Err-Failed.ensures.ends;
      texts = c.in-Err-Failed.ensures.texts;
      once = c.in-Err-Failed.ensures.once;
    })
    (file_failed refl (c.in-Err-Failed.ensures.failed (rw is refl))))

-- memory ran out
pub returns-in-Err-NoMemory-clause-does : goal.returns-in-Err-NoMemory-clause-does
returns-in-Err-NoMemory-clause-does g c =
    λ given input.
    rw c.plain-in-Err-NoMemory.ensures.answer
    (source_does c.args.file.now c.args.steps.now given _ _ fault.NoMemory
    (record {
      fetched = c.in-Err-NoMemory.ensures.asked;
      front = rw c.longest_text.ensures.is at c.in-Err-NoMemory.ensures.most;
      given = rw c.longest_text.ensures.is at c.in-Err-NoMemory.ensures.given;
      ends = c.in-Err-NoMemory.ensures.ends;
      texts = c.in-Err-NoMemory.ensures.texts;
      once = c.in-Err-NoMemory.ensures.once;
    })
    refl (no_room refl (c.in-Err-NoMemory.ensures.same (λ e. cc))))

pub returns-in-Err-NoMemory-clause-written : goal.returns-in-Err-NoMemory-clause-written
returns-in-Err-NoMemory-clause-written g c =
    plain_written (Some (verify c.args.file.now c.args.steps.now)) (g.F.Shelf.seen c.args.shelf.now).texts fault.NoMemory _ plain_memory
    c.plain-in-Err-NoMemory.ensures.answer c.plain-in-Err-NoMemory.ensures.message
