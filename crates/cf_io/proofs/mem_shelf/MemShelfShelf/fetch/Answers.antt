use Rattle.std.proofs.Common.{◌≡◌, inr, refl, rules, position, arith}
use Rattle.std.proofs.lemmas.Grind.{common_steps}
use Rattle.std.specs.Str.{bytes_eq}
use Rattle.cf_io.proofs.ShelfLemmas.{text_under-none}
use Rattle.cf_io.proofs.mem_shelf.MemShelfShelf.fetch.Goals as goal

pub returns-in-None-clause-listed : goal.returns-in-None-clause-listed
returns-in-None-clause-listed c =
    let is : c.index_of.result ≡ position (λ n. bytes_eq n c.args.name.now) c.args.self.now.names.items =
    first_of (search rules, grind (arith, common_steps)) in
    (λ e. inr (text_under-none c.args.self.now.names.items c.args.self.now.texts.items c.args.name.now c.index_of.result is c.in-None.is), λ h. refl)
