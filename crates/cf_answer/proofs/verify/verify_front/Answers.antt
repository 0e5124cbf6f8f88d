use Rattle.std.proofs.Common.{◌≡◌, ◌∙◌, ◌≤◌, ◌+◌, ap, refl, sym, subst, ℕ, List, [], length, rules}
use Rattle.std.proofs.lemmas.List.{take_all}
use Rattle.std.proofs.lemmas.Result.{err_from_is_err_and}
use Rattle.cf_io.specs.Seen.{untold_source}
use Rattle.cf_lex.specs.Editions.{edition_of}
use Rattle.cf_answer.specs.Limits.{text_limit, of_target, most_of}
use Rattle.cf_answer.specs.Outside.{AreTold}
use Rattle.cf_answer.proofs.OutsideLemmas.{text_told}
use Rattle.cf_answer.proofs.StatusLemmas.{is_file}
use Rattle.cf_answer.specs.Written.{front_of}
use Rattle.cf_answer.proofs.AskedLemmas.{fault_told}
use Rattle.cf_answer.proofs.VerifyLemmas.{source_does, source_unusual, source_in_order, steps_in_order, steps_fail, long_does, no_memory_does, checked_does}
use Rattle.cf_answer.proofs.verify.verify_front.Goals as goal

-- what was read of a text is as much of itself as may be read
read_of : (front : List ℕ) → length front ≤ text_limit + 1 → front ≡ front_of front
read_of front h = sym (take_all (text_limit + 1) front h)

-- the source gave no chooses
pub returns-in_err-program-clause-does : goal.returns-in_err-program-clause-does
returns-in_err-program-clause-does g c =
    let p = err_from_is_err_and c.from_residual.result c.from_residual.ensures.1 in
    λ file whole before fetched sound told read given input.
    rw (p.1, p.2) (source_does file c.args.steps.now given _ _ _ fetched refl (fault_told file before _ whole told _ (c.in_err-program.ensures.verdict whole read) sound))

pub returns-in_err-program-clause-usage : goal.returns-in_err-program-clause-usage
returns-in_err-program-clause-usage g c =
    let p = err_from_is_err_and c.from_residual.result c.from_residual.ensures.1 in
    let front = c.args.front.now in
    rw (p.1, p.2) (λ e. source_unusual front _ (c.in_err-program.ensures.verdict front (read_of front c.requires)) e)

pub returns-in_err-program-clause-order : goal.returns-in_err-program-clause-order
returns-in_err-program-clause-order g c =
    let p = err_from_is_err_and c.from_residual.result c.from_residual.ensures.1 in
    λ file whole before fetched sound told read.
    rw (p.1, p.2) (source_in_order file c.args.steps.now _ _ _ fetched (fault_told file before _ whole told _ (c.in_err-program.ensures.verdict whole read) sound))

-- the steps file failed
pub returns-in-Err-Failed-clause-does : goal.returns-in-Err-Failed-clause-does
returns-in-Err-Failed-clause-does g c =
    λ file whole before fetched sound told read given input.
    let is = c.in-Err-Failed.field-0-is in
    let s = c.in_ok-program.ensures.verdict whole read in
    let most : c.longest_target.result ≡ most_of (of_target (edition_of whole)) =
    c.longest_target.ensures.is ∙ ap (λ e. most_of (of_target e)) (c.edition.ensures ∙ sym s.edition) in
    steps_fail file c.args.steps.now given _ _ _ whole told fetched sound
    (record {
      fetched = c.in-Err-Failed.ensures.asked;
      front = rw most at c.in-Err-Failed.ensures.most;
      given = rw most at c.in-Err-Failed.ensures.given;
      ends = c.in-Err-Failed.ensures.ends;
      texts = c.in-Err-Failed.ensures.texts;
      once = c.in-Err-Failed.ensures.once;
    })
    refl (c.in-Err-Failed.ensures.failed (rw is refl))

pub returns-in-Err-Failed-clause-order : goal.returns-in-Err-Failed-clause-order
returns-in-Err-Failed-clause-order g c =
    λ file whole before fetched sound told read.
    let is = c.in-Err-Failed.field-0-is in
    steps_in_order _ _ _ _ _ _ _ fetched (whole, told, c.in_ok-program.ensures.verdict whole read) sound (λ e. c.in-Err-Failed.ensures.failed (rw is refl))

-- its text is too long
pub returns-in-Err-TooLong-clause-does : goal.returns-in-Err-TooLong-clause-does
returns-in-Err-TooLong-clause-does g c =
    λ file whole before fetched sound told read given input.
    let is = c.in-Err-TooLong.field-0-is in
    let s = c.in_ok-program.ensures.verdict whole read in
    let most : c.longest_target.result ≡ most_of (of_target (edition_of whole)) =
    c.longest_target.ensures.is ∙ ap (λ e. most_of (of_target e)) (c.edition.ensures ∙ sym s.edition) in
    long_does file c.args.steps.now given _ _ _ whole told fetched sound
    (record {
      fetched = c.in-Err-TooLong.ensures.asked;
      front = rw most at c.in-Err-TooLong.ensures.most;
      given = rw most at c.in-Err-TooLong.ensures.given;
      ends = c.in-Err-TooLong.ensures.ends;
      texts = c.in-Err-TooLong.ensures.texts;
      once = c.in-Err-TooLong.ensures.once;
    })
    refl (c.in-Err-TooLong.ensures.same (λ e. cc)) s.lowered.typed s.lowered.is
    (rw (most, fetched.texts c.args.steps.now) at (c.in-Err-TooLong.ensures.long (rw is refl)))

pub returns-in-Err-TooLong-clause-order : goal.returns-in-Err-TooLong-clause-order
returns-in-Err-TooLong-clause-order g c =
    λ file whole before fetched sound told read. steps_in_order _ _ _ _ _ _ _ fetched (whole, told, c.in_ok-program.ensures.verdict whole read) sound (λ e. cc)

-- memory ran out
pub returns-clause-does : goal.returns-clause-does
returns-clause-does g c =
    λ file whole before fetched sound told read given input.
    let s = c.in_ok-program.ensures.verdict whole read in
    let most : c.longest_target.result ≡ most_of (of_target (edition_of whole)) =
    c.longest_target.ensures.is ∙ ap (λ e. most_of (of_target e)) (c.edition.ensures ∙ sym s.edition) in
    no_memory_does file c.args.steps.now given _ _ _ whole told fetched sound
    (record {
      fetched = c.in-Err-NoMemory.ensures.asked;
      front = rw most at c.in-Err-NoMemory.ensures.most;
      given = rw most at c.in-Err-NoMemory.ensures.given;
      ends = c.in-Err-NoMemory.ensures.ends;
      texts = c.in-Err-NoMemory.ensures.texts;
      once = c.in-Err-NoMemory.ensures.once;
    })
    refl (c.in-Err-NoMemory.ensures.same (λ e. cc))

pub returns-clause-order : goal.returns-clause-order
returns-clause-order g c =
    λ file whole before fetched sound told read. steps_in_order _ _ _ _ _ _ _ fetched (whole, told, c.in_ok-program.ensures.verdict whole read) sound (λ e. cc)

-- its text was read
pub returns-in-Ok-clause-does : goal.returns-in-Ok-clause-does
returns-in-Ok-clause-does g c =
    λ file whole before fetched sound told read given input.
    let s = c.in_ok-program.ensures.verdict whole read in
    let same : c.deref.result.now ≡ c.in-Ok.text.items = search rules in
    let most : c.longest_target.result ≡ most_of (of_target (edition_of whole)) =
    c.longest_target.ensures.is ∙ ap (λ e. most_of (of_target e)) (c.edition.ensures ∙ sym s.edition) in
    checked_does file c.args.steps.now given _ _ _ whole told fetched sound
    (record {
      fetched = c.in-Ok.ensures.asked;
      front = rw most at c.in-Ok.ensures.most;
      given = rw most at c.in-Ok.ensures.given;
      ends = c.in-Ok.ensures.ends;
      texts = c.in-Ok.ensures.texts;
      once = c.in-Ok.ensures.once;
    })
    c.deref.result.now _
    (subst (AreTold _) (sym same) (subst (λ o. AreTold o c.in-Ok.text.items) (fetched.texts c.args.steps.now)
    (text_told _ _ c.in-Ok.ensures.whole)))
    (c.verify_text.ensures.answers file c.args.steps.now given input whole s)
    (c.in-Ok.ensures.same (λ e. cc))

pub returns-in-Ok-clause-usage : goal.returns-in-Ok-clause-usage
returns-in-Ok-clause-usage g c =
    let front = c.args.front.now in
    λ e. (c.verify_text.ensures.answers [] [] [] (untold_source 0 0 0) front (c.in_ok-program.ensures.verdict front (read_of front c.requires))).not_usage e

pub returns-in-Ok-clause-order : goal.returns-in-Ok-clause-order
returns-in-Ok-clause-order g c =
    λ file whole before fetched sound told read.
    let answers = c.verify_text.ensures.answers [] [] [] (untold_source 0 0 0) whole (c.in_ok-program.ensures.verdict whole read) in
    steps_in_order _ _ _ _ _ _ _ fetched (whole, told, c.in_ok-program.ensures.verdict whole read) sound (λ e. absurd (answers.not_file (is_file _ e)))
