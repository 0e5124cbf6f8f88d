use Rattle.std.proofs.Common.{◌∙◌, ap, nat_lt}
use Rattle.cf_memory.specs.Held.{growing_seen}
use Rattle.cf_c.specs.Answered.{bytes_of, ended_code}
use Rattle.cf_c.proofs.LineLemmas.{open_ended}
use Rattle.cf_c.proofs.comfusy_open.Goals as goal

pub returns : goal.returns
returns c =
    let errors = growing_seen c.open_words-opened.new.err in let how = c.keep-ended.result in record {
      errors = errors;
      told = c.held-bytes.result.now;
      how = how;
      ended = rw (c.keep-ended.ensures.ended, c.keep-ended.ensures.kept)
          (open_ended (bytes_of c.args.words.now) c.args.files.now c.new-told.result c.open_words-opened.new.err c.open_words-opened.result c.new-told.ensures
          c.open_words-opened.ensures.opened c.open_words-opened.ensures.err c.open_words-opened.ensures.no_text);
      err_held = c.held-bytes.ensures;
      err_filled = c.put.ensures;
      code = c.code_for.ensures ∙ ap (λ l. ended_code how l c.fits-is_whole.result) c.has_failed-is_lost.ensures
          ∙ ap (ended_code how (nat_lt 0 errors.faults)) c.fits-is_whole.ensures;
    }
