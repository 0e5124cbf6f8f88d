-- What the parts of a question stand for while they are written.
use Rattle.std.specs.Prelude.{◌≡◌, ℕ, ◌+◌, ℤ, pos, Bool, not, ◌||◌, List, [], ◌∷◌, ◌++◌, length, map, nat_eq, slice_index_or}
use Rattle.std.specs.List.{fold}
use Rattle.std.specs.Map.{lookup}
use Rattle.std.specs.Option.{option_map_or}
use Rattle.cf_tree.specs.declared.base.Base.{Base}
use Rattle.cf_tree.specs.declared.base.Order.TheVariants.{Eq}
use Rattle.cf_tree.specs.Meaning.{count_below}
use Rattle.cf_tree.specs.RelTree.{SetTree, inter_of, diff_of, TermTree, term_lit, term_var, term_card, RelTree, rel_true, rel_false, rel_compare, rel_divides, rel_and, rel_or, rel_not}
use Rattle.cf_tree.specs.RelView.{term_tree, rel_tree}
use Rattle.cf_choose.specs.ArmBuilders.{no_system}
use Rattle.cf_linear.specs.declared.system.Search.{Search}
use Rattle.cf_linear.specs.declared.system.Step.{Step as DeclaredStep}
use Rattle.cf_linear.specs.Layout.{Layout, layout_of, has_level, masks, place, bit}
use Rattle.cf_linear.specs.Systems.{Step, floor_of, need_nonneg, need_zero, need_divides, Answer}
use Rattle.cf_linear.specs.Views.{step_of, bound_of}
use Rattle.cf_warn.specs.declared.draft.Draft.{Draft as DeclaredDraft}
use Rattle.cf_warn.specs.declared.forms.Forms.{Forms as DeclaredForms}
use Rattle.cf_warn.specs.declared.forms.Made.{Made}
use Rattle.cf_warn.specs.declared.forms.Made.TheVariants.{Search as Searched, Let}
use Rattle.cf_warn.specs.declared.halves.Join.{Join}
use Rattle.cf_warn.specs.declared.halves.Join.TheVariants.{And, Or}
use Rattle.cf_warn.specs.declared.levels.Levels.{Levels}
use Rattle.cf_warn.specs.declared.regions.SetJoin.{SetJoin}
use Rattle.cf_warn.specs.declared.regions.SetJoin.TheVariants.{Inter, Diff}
use Rattle.cf_warn.specs.declared.regions.Side.{Side}
use Rattle.cf_warn.specs.declared.regions.Side.TheVariants.{Inside, Outside}
use Rattle.cf_warn.specs.Missing.{Forms, with_form, region_form, first_forms, row_form, is_nonneg, let_says, Turn, turns, turns_say, lets_in, traced}
use Rattle.cf_warn.specs.Questions.{level_in, parameters}

abbrev pub level_of : Levels → ℕ → ℕ
level_of levels = level_in levels.scope levels.params.items levels.gap

-- whether the level is one of the layout's parameters
abbrev pub is_parameter : Layout → ℕ → Bool
is_parameter l x = has_level l.numbers x || has_level l.inputs x

-- ---- relations joined
abbrev pub both_of : Join → RelTree → RelTree → RelTree
both_of And = λ a b. rel_and a b
both_of Or = λ a b. rel_or a b

-- what no relations joined are
abbrev pub empty_of : Join → RelTree
empty_of And = rel_true
empty_of Or = rel_false

-- ---- tuples
abbrev pub bounds_in : List Search → List ℕ
bounds_in bs = map (λ s. s.bound) bs

-- how many tuples so many first cases have
abbrev pub counted : List (List (ℕ × ℕ)) → ℕ
counted bs = fold (λ n b. n + count_below (map (λ (c, k). k) b)) 0 bs

-- a case with these bounds, lets and needs
abbrev pub case_with : List (ℕ × ℕ) → List Step → Answer
case_with bs ms = record { system = no_system; steps = ms; back = []; bounds = bs }

abbrev pub case_of : List Search → List DeclaredStep → Answer
case_of bounds steps = case_with (map bound_of bounds) (map step_of steps)

-- ---- regions
abbrev pub both_sets : SetJoin → SetTree → SetTree → SetTree
both_sets Inter = λ a b. inter_of a b
both_sets Diff = λ a b. diff_of a b

-- whether an input set is on that side of the mask
abbrev pub is_beside : Side → List ℕ → ℕ → ℕ → Bool
is_beside Inside inputs m = λ x. bit (place x inputs) m
is_beside Outside inputs m = λ x. not (bit (place x inputs) m)

-- the forms of the columns of a choose, in order
abbrev pub first_list : Layout → (ℕ → ℕ) → List TermTree
first_list l to = term_lit (pos 1) ∷ (map (λ x. term_var (to x)) l.numbers ++ map (λ m. term_card (region_form l to m)) (masks (length l.inputs)))

-- ---- forms
abbrev pub listed : List TermTree → Forms
listed ts c = slice_index_or ts c (term_lit (pos 0))

abbrev pub made_form : Made → TermTree
made_form (Searched k) = term_lit (pos k)
made_form (Let x) = term_var x

-- the forms of the columns of the choose
abbrev pub first_of : DeclaredForms → Forms
first_of f = listed (map term_tree f.first.items)

-- and those of the columns that the case makes
abbrev pub with_made : List (ℕ × Made) → Forms → Forms
with_made ms forms c = option_map_or made_form (lookup (nat_eq c) ms) (forms c)

abbrev pub forms_of : DeclaredForms → Forms
forms_of f = with_made f.made.entries (first_of f)

-- ---- drafts
pub record Draft : Type 0 where
  pub forms : Forms
  pub level : ℕ
  pub says : List RelTree
  pub fails : List RelTree

abbrev pub draft_of : DeclaredDraft → Draft
draft_of d = record { forms = forms_of d.forms; level = d.level; says = map rel_tree d.says.items; fails = map rel_tree d.fails.items }

pub record SameDraft (d e : Draft) : Type 0 where
  pub forms : d.forms ≡ e.forms
  pub level : d.level ≡ e.level
  pub says : d.says ≡ e.says
  pub fails : d.fails ≡ e.fails

-- with the let of a column, which has the next level
abbrev pub let_written : Draft → ℕ → TermTree → ℤ → Draft
let_written d c r g =
    record { forms = with_form d.forms c (term_var d.level); level = d.level + 1; says = d.says ++ let_says r g (term_var d.level); fails = d.fails }

-- with a need, negated
abbrev pub need_written : Draft → RelTree → Draft
need_written d need = record { forms = d.forms; level = d.level; says = d.says; fails = d.fails ++ (rel_not need ∷ []) }

abbrev pub step_written : Draft → Step → Draft
step_written d (floor_of c r g) = let_written d c (row_form d.forms r) g
step_written d (need_nonneg r) = need_written d (is_nonneg (row_form d.forms r))
step_written d (need_zero r) = need_written d (rel_compare Eq (row_form d.forms r) (term_lit (pos 0)))
step_written d (need_divides g r) = need_written d (rel_divides g (row_form d.forms r))

-- what these tuples say is said, and their lets have levels
pub record IsWritten (old new : DeclaredDraft) (ts : List Turn) : Type 0 where
  pub first : new.forms.first ≡ old.forms.first
  pub level : new.level ≡ old.level + lets_in ts
  pub says : map rel_tree new.says.items ≡ map rel_tree old.says.items ++ turns_say (first_of old.forms) old.level ts

-- what all tuples of all arms say
abbrev pub all_say : List Base → List Base → RelTree → List RelTree
all_say scope outputs rel =
    let params = parameters scope rel in
    turns_say (first_forms (layout_of scope outputs rel) (λ x. place x params)) (length params) (turns (traced scope outputs rel))
