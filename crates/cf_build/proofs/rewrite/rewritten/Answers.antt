use Rattle.std.proofs.Common.{◌∙◌, Some, refl, sym}
use Rattle.cf_build.proofs.Rewriting.{rewritten_of}
use Rattle.cf_build.proofs.rewrite.rewritten.Goals as goal

pub rewrite_by_each-requires : goal.rewrite_by_each-requires
rewrite_by_each-requires g c =
    (c.args.raw.params.items, c.args.raw.results.items, sym (c.in-Ok.ensures ∙ c.len.ensures ∙ c.args.raw.params.ok.0), c.requires)

pub new-requires : goal.new-requires
new-requires g c =
    let bs = c.args.raw.results.items in
    c.rewrite_by_each.ensures.code.typed c.args.raw.params.items (Some bs) bs (sym (c.in-Ok.ensures ∙ c.len.ensures ∙ c.args.raw.params.ok.0)) c.requires

pub returns-clause-target : goal.returns-clause-target
returns-clause-target g c =
    rw c.new.ensures
    (rewritten_of _ _ _ _ _ refl refl (c.in-Ok.ensures ∙ c.len.ensures ∙ c.args.raw.params.ok.0) c.rewrite_by_each.ensures.made c.rewrite_by_each.ensures.code)
