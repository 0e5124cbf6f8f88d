-- What the walk's values of the program stand for.
use Rattle.std.specs.Prelude.{ℕ, Bool, map, reverse, take}
use Rattle.cf_tree.specs.DefView.{RawDefTree, raw_def_tree}
use Rattle.cf_tree.specs.ExprView.{expr_tree, match_arm_tree, given_expr, aim_expr}
use Rattle.cf_tree.specs.RelView.{rel_tree, term_tree, set_tree}
use Rattle.cf_type.specs.declared.form.Reading.{Reading as DeclaredReading}
use Rattle.cf_type.specs.declared.form.Reading.TheVariants.{Relation, Term, Set, NotLinear}
use Rattle.cf_type.specs.declared.form.Form.{Form as DeclaredForm}
use Rattle.cf_type.specs.declared.form.Forms.{Forms as DeclaredForms}
use Rattle.cf_type.specs.declared.form.Arms.{Arms as DeclaredArms}
use Rattle.cf_type.specs.declared.form.GivenForm.{GivenForm as DeclaredGivenForm}
use Rattle.cf_type.specs.declared.form.AimForm.{AimForm as DeclaredAimForm}
use Rattle.cf_type.specs.declared.form.Summand.{Summand as DeclaredSummand}
use Rattle.cf_type.specs.declared.form.Pattern.{Pattern as DeclaredPattern}
use Rattle.cf_type.specs.declared.context.Context.{Context as DeclaredContext}
use Rattle.cf_program.specs.Names.{Callee, callee_from}
use Rattle.cf_tree.specs.Params.{bases_of}
use Rattle.cf_program.specs.Reading.{Reading, relation, term, set, not_linear}
use Rattle.cf_program.specs.Walk.{Form, Forms, Arms, GivenForm, AimForm, Summand, Pattern, Context}
use Rattle.cf_type.specs.Valued.{constants_of}

abbrev pub reading_of : DeclaredReading → Reading
reading_of (Relation r) = relation (rel_tree r.value)
reading_of (Term t) = term (term_tree t.value)
reading_of (Set s) = set (set_tree s.value)
reading_of (NotLinear p) = not_linear p

abbrev pub form_of : DeclaredForm → Form
form_of f = record { bases = f.bases.items; tree = expr_tree f.tree.value; reading = reading_of f.reading; next = f.next }

abbrev pub forms_of : DeclaredForms → Forms
forms_of f = record { bases = map (λ b. b.items) f.bases.items; trees = map expr_tree f.trees.items; first_nonlinear = f.first_nonlinear; next = f.next }

abbrev pub arms_of : DeclaredArms → Arms
arms_of f = record { bases = map (λ b. b.items) f.bases.items; trees = map match_arm_tree f.trees.items; first_nonlinear = f.first_nonlinear; next = f.next }

abbrev pub given_form_of : DeclaredGivenForm → GivenForm
given_form_of g = record { tree = given_expr g.tree; next = g.next }

abbrev pub aim_form_of : DeclaredAimForm → AimForm
aim_form_of a = record { tree = aim_expr a.tree; next = a.next }

abbrev pub summand_of : DeclaredSummand → Summand
summand_of x = record { place = x.place; factor = x.factor; name = x.name }

abbrev pub pattern_of : DeclaredPattern → Pattern
pattern_of m = record { summands = map summand_of m.summands.items; constants = m.constants.items; constant = m.constant }

abbrev pub callee_seen : ℕ → RawDefTree → Bool → Callee
callee_seen i d is_earlier = record { number = i; params = bases_of d.params; results = d.results; is_earlier = is_earlier }

-- where the expressions stand that are walked; unfolded only in the context's own functions, so that goals about the walk stay small
unfoldable pub context_of : DeclaredContext → Context
context_of c =
    record {
      edition = c.edition;
      calls = callee_from c.number 0 (map raw_def_tree c.callees.now);
      constants = constants_of c.constants.now;
      earlier = reverse (map raw_def_tree (take c.number c.callees.now));
      how = c.how;
      known = c.known;
    }
