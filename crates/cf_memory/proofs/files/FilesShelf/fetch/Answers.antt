use Rattle.std.proofs.Common.{◌≡◌, ◌∙◌, sym, rules, position, arith}
use Rattle.std.proofs.lemmas.Bool.{true≢false}
use Rattle.std.proofs.lemmas.Grind.{common_steps}
use Rattle.std.specs.Str.{bytes_eq}
use Rattle.cf_memory.proofs.NameLemmas.{text_under-some}
use Rattle.cf_memory.proofs.files.FilesShelf.fetch.Goals as goal

pub returns-in-Some-clause-missing : goal.returns-in-Some-clause-missing
returns-in-Some-clause-missing c =
    let is : c.place_of.result ≡ position (λ f. bytes_eq f.name.now c.args.name.now) c.args.self.now.files.now =
    first_of (search rules, grind (arith, common_steps)) in
    let some = text_under-some c.args.self.now.files.now c.args.name.now c.place_of.result c.in-Some.place is c.in-Some.is in
    (λ e. absurd (true≢false (sym e)), λ h. sym h ∙ some)
