use Rattle.std.proofs.Common.{◌≡◌, refl, arith, rules}
use Rattle.cf_lines.proofs.OpenLemmas.{file_failed, file_opened, memory_failed}
use Rattle.cf_lines.proofs.opening.open_file.Goals as goal

pub returns-in-Ok : goal.returns-in-Ok
returns-in-Ok g c =
    let command = c.args.command.now in
    let most = c.longest_of-limit.ensures.is command.flags command.form command.file.now in
    let same : c.deref.result.now ≡ c.in-Ok.front.items = search rules in
    file_opened command _ _ (g.F.Shelf.seen c.args.shelf.now) _ c.deref.result.now _ c.requires (rw same (rw most at c.in-Ok.ensures.front))
    (rw same (omega (arith, c.in-Ok.ensures.short, most))) c.open_front.ensures

pub returns-in-Err-Failed : goal.returns-in-Err-Failed
returns-in-Err-Failed g c =
    file_failed c.args.command.now (g.F.Shelf.seen c.args.shelf.now) _ _ c.plain.ensures.answer c.plain.ensures.message
    (c.in-Err-Failed.ensures.failed (rw c.in-Err-Failed.field-0-is refl))

pub returns-in-Err-NoMemory : goal.returns-in-Err-NoMemory
returns-in-Err-NoMemory g c =
    memory_failed _ (g.F.Shelf.seen c.args.shelf.now) _ _ c.plain-in-Err-NoMemory.ensures.answer c.plain-in-Err-NoMemory.ensures.message

pub open_front-requires-clause-read : goal.open_front-requires-clause-read
open_front-requires-clause-read g c =
    let command = c.args.command.now in
    let most = c.longest_of-limit.ensures.is command.flags command.form command.file.now in
    let same : c.deref.result.now ≡ c.in-Ok.front.items = search rules in
    rw same (omega (arith, c.in-Ok.ensures.short, most))
