use Rattle.std.proofs.Common.{refl, ap, ◌∙◌, [], ◌∷◌, map}
use Rattle.std.proofs.lemmas.List.{map-append}
use Rattle.cf_tree.specs.RelView.{rel_tree}
use Rattle.cf_warn.specs.Writing.{forms_of}
use Rattle.cf_warn.proofs.DraftLaws.{tuple_written}
use Rattle.cf_warn.proofs.draft.Draft.tuple.Goals as goal

pub returns : goal.returns
returns c =
    let fails = rw c.deref.ensures.value at c.in_ok-some_fails.ensures in
    tuple_written c.args.self.now c.steps.new.self
    (record { forms = c.steps.new.self.forms; level = c.steps.new.self.level; says = c.push.new.self; fails = c.steps.new.self.fails })
    (record {
      forms = forms_of c.search.new.self;
      level = c.args.self.now.level;
      says = map rel_tree c.args.self.now.says.items;
      fails = map rel_tree c.clear.new.self.items;
    })
    c.args.bounds.now c.args.steps.now c.args.number (rel_tree c.in_ok-some_fails.some_fails) c.in_ok-search.ensures.forms refl refl
    (ap (map rel_tree) c.clear.ensures.items) c.in_ok-steps.ensures.written fails (c.in_ok-steps.ensures.first ∙ c.in_ok-search.ensures.first) refl
    (ap (map rel_tree) c.in_ok-push.ensures.items ∙ map-append rel_tree c.steps.new.self.says.items (c.in_ok-some_fails.some_fails ∷ []))
