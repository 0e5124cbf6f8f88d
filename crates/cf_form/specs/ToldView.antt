-- The plain forms of what is told of chooses.
use Rattle.std.specs.Prelude.{ℕ, Bool, Option, Some, None, [], map}
use Rattle.cf_tree.specs.declared.rel.Rel.{Rel}
use Rattle.cf_tree.specs.RelTree.{RelTree}
use Rattle.cf_tree.specs.RelView.{rel_tree}
use Rattle.cf_form.specs.declared.chooses.Passed.{Passed}
use Rattle.cf_form.specs.declared.chooses.WideChoose.{WideChoose as DeclaredChoose}
use Rattle.cf_form.specs.declared.told.TruthAt.{TruthAt}
use Rattle.cf_form.specs.declared.told.Branch.{Branch}
use Rattle.cf_form.specs.declared.told.ChooseInfo.{ChooseInfo}
use Rattle.cf_form.specs.Branches.{WideChoose}
use Rattle.cf_form.specs.Told.{ToldBranch, ToldChoose}
use Rattle.cf_form.specs.WideView.{wide_rel, given_rel}

abbrev pub truth_at : TruthAt → ℕ × Bool
truth_at t = (t.level, t.value)

abbrev pub given_tree : Option Rel → Option RelTree
given_tree None = None
given_tree (Some p) = Some (rel_tree p)

abbrev pub told_branch : Branch → ToldBranch
told_branch b = record { truths = map truth_at b.truths.items; relation = rel_tree b.relation; given = given_tree b.given }

abbrev pub told_choose : ChooseInfo → ToldChoose
told_choose c =
    record {
      number = c.number;
      outputs = c.outputs.items;
      hidden = c.hidden;
      parameters = c.parameters.items;
      branches = map told_branch c.branches.items;
    }

abbrev pub choose_view : DeclaredChoose → WideChoose
choose_view q =
    record {
      number = q.outline.number;
      scope = q.outline.scope.now;
      outputs = q.outline.outputs.now;
      hidden = q.outline.hidden.now;
      given = given_rel q.given;
      relation = wide_rel q.relation.value;
      aims = [];
    }

abbrev pub passed_pair : Option Passed → Option (ℕ × ℕ)
passed_pair None = None
passed_pair (Some p) = Some (p.number, p.count)
