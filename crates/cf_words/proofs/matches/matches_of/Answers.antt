use Rattle.std.proofs.Common.{map, string_bytes}
use Rattle.cf_words.proofs.FoundLemmas.{refused, taken}
use Rattle.cf_words.proofs.matches.matches_of.Goals as goal

pub returns-in-Ok-try_get_matches_from : goal.returns-in-Ok-try_get_matches_from
returns-in-Ok-try_get_matches_from c =
    let found = c.in-Ok-try_get_matches_from in
    taken _ c.in-Ok.ensures (map string_bytes c.args.words.now) found.matches found.ensures.matches found.ensures.kinds

pub returns-in-Err : goal.returns-in-Err
returns-in-Err c = refused _ c.in-Ok.ensures (map string_bytes c.args.words.now) c.in-Err.error c.fault_of.result c.in-Err.ensures.kinds c.fault_of.ensures
