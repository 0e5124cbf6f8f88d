use Rattle.cf_answer.proofs.SayingLemmas.{small_file}
use Rattle.cf_answer.proofs.ended.Ended.on_file.Goals as goal

pub is_deserted-requires : goal.is_deserted-requires
is_deserted-requires g c =
    small_file c.args.command.now.kind c.args.command.now.flags c.args.command.now.form c.args.command.now.file.now _ c.requires.read
