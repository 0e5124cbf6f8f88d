use Rattle.std.proofs.Common.{◌∙◌, ap}
use Rattle.cf_memory.specs.Held.{fresh_sink, growing_seen}
use Rattle.cf_c.specs.Answered.{bytes_of, ended_code, has_failed}
use Rattle.cf_c.proofs.CallLemmas.{at_sinks, empty_still, ended_of}
use Rattle.cf_c.proofs.comfusy.Goals as goal

pub returns : goal.returns
returns c =
    let out = growing_seen c.call-ended.new.out in let errors = growing_seen c.call-ended.new.err in let how = c.call-ended.result in record {
      out = out;
      errors = errors;
      said = c.held-out_bytes.result.now;
      told = c.held-err_bytes.result.now;
      how = how;
      ended =
          ended_of (bytes_of c.args.words.now) c.args.files.now c.args.input.now out errors how
          (at_sinks (bytes_of c.args.words.now) c.args.files.now c.args.input.now (growing_seen c.new-said.result) fresh_sink out
          (growing_seen c.new-told.result) fresh_sink errors how c.new-said.ensures c.new-told.ensures c.call-ended.ensures.called)
          (empty_still how c.new-said.result c.call-ended.new.out c.call-ended.ensures.out c.new-said.ensures)
          (empty_still how c.new-told.result c.call-ended.new.err c.call-ended.ensures.err c.new-told.ensures) c.call-ended.ensures.no_text;
      out_held = c.held-out_bytes.ensures;
      err_held = c.held-err_bytes.ensures;
      out_filled = c.put.ensures;
      err_filled = c.put-2.ensures;
      code = c.code_for.ensures ∙ ap (λ l. ended_code how l c.both_fit-is_whole.result) c.has_failed-is_lost.ensures
          ∙ ap (ended_code how (has_failed out errors)) c.both_fit-is_whole.ensures;
    }
