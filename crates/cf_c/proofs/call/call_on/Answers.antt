use Rattle.std.proofs.Common.{refl, map, string_bytes}
use Rattle.cf_answer.specs.Outside.{outside}
use Rattle.cf_memory.specs.Files.{files_seen}
use Rattle.cf_memory.specs.Held.{growing_seen, text_seen}
use Rattle.cf_c.proofs.CallLemmas.{at_objects}
use Rattle.cf_c.proofs.call.call_on.Goals as goal

pub returns-clause-called : goal.returns-clause-called
returns-clause-called c =
    at_objects (map string_bytes c.args.words.now) (files_seen c.new-shelf.result) _ (text_seen c.new-source.result) _ (growing_seen c.args.out.now)
    (growing_seen c.comfusy.new.out) (growing_seen c.args.err.now) (growing_seen c.comfusy.new.err) c.comfusy.result c.new-shelf.ensures
    c.new-source.ensures (record {
      given = _;
      after = outside (files_seen c.comfusy.new.shelf) (text_seen c.comfusy.new.input) (growing_seen c.comfusy.new.out);
      out_is = refl;
      tells = c.comfusy.ensures.tells;
      usage = c.comfusy.ensures.usage;
      no_command = c.comfusy.ensures.no_command;
      early = c.comfusy.ensures.early;
      file = c.comfusy.ensures.file;
      input = c.comfusy.ensures.input;
      output = c.comfusy.ensures.output;
      complete = c.comfusy.ensures.complete;
      order = c.comfusy.ensures.order;
    })
