-- What `emit` writes of a target, and which programs have no form in a language.
use Rattle.std.specs.Prelude.{◌≡◌, ℕ, Bool, false, not, ◌&&◌, ◌||◌, List, slice_get, nat_le, if◌then◌else◌}
use Rattle.std.specs.List.{list_any}
use Rattle.std.specs.Option.{option_map_or}
use Rattle.cf_num.specs.Limit.{limit}
use Rattle.cf_tree.specs.CodeView.{code_tree}
use Rattle.cf_tree.specs.DefView.{DefTree}
use Rattle.cf_tree.specs.Meaning.{means, peak}
use Rattle.cf_tree.specs.Params.{bases_of}
use Rattle.cf_tree.specs.Values.{Value, HaveBases}
use Rattle.cf_tree.specs.declared.target.RawTarget.{RawTarget}
use Rattle.cf_shift.specs.Meeting.{AreSmall}
use Rattle.cf_pass.specs.Passes.{Told}
use Rattle.cf_program.specs.Checked.{TypedTree}
use Rattle.cf_range.specs.Ranges.{AreHeld}
use Rattle.cf_build.specs.Built.{unfolded_code}
use Rattle.cf_stmt.specs.Blocks.{Block}
use Rattle.cf_stmt.specs.Runs.{Run, overflows, outcome_run, runs}
use Rattle.cf_print.specs.declared.language.Language.{Language}
use Rattle.cf_print_shape.specs.Sets.{is_set, uses_sets}
use Rattle.cf_print_program.specs.Printed.{Printing, IsPrint, has_sets}
use Rattle.cf_words.specs.Commands.{Emitting}
use Rattle.cf_answer.specs.Sources.{Compiles}

-- ---- the text
-- what a run of a target comes to, as `exec` answers it
abbrev pub target_run : RawTarget → List Value → Run
target_run t vs = if nat_le (peak (code_tree t.code) vs) limit then outcome_run (means (code_tree t.code) vs) else overflows

-- the statements come to what the target comes to, at all values of main's types of which none is past, with sets that a machine holds
abbrev pub AnswersAs : Block → RawTarget → Type 0
AnswersAs b t = (vs : List Value) → HaveBases t.params.items vs → AreSmall limit vs → AreHeld vs → runs b vs ≡ target_run t vs

-- these statements, with what the words, the source and the target tell of their print
abbrev pub printing : Emitting → List ℕ → RawTarget → Block → Printing
printing e source t b =
    record {
      language = e.language;
      has_main = e.has_main;
      name = e.name;
      source = source;
      params = t.params.items;
      results = t.results.items;
      body = b;
    }

-- the text is a print of statements that answer as the target
pub record IsEmitted (e : Emitting) (source : List ℕ) (t : RawTarget) (text : List ℕ) : Type 0 where
  pub body : Block
  pub answers : AnswersAs body t
  pub print : IsPrint (printing e source t body) text

-- ---- sets
-- a parameter or a result of a function is a set
abbrev pub takes_sets : DefTree → Bool
takes_sets d = list_any is_set (bases_of d.params) || list_any is_set d.results

-- so of main, or a set stands in its body with its calls unfolded and its chooses solved
abbrev pub main_has_sets : TypedTree → Bool
main_has_sets typed = option_map_or takes_sets (slice_get typed.defs typed.main) false || uses_sets (unfolded_code typed.defs typed.main)

-- the program has no form in the language, which has no sets
abbrev pub lacks_sets : Language → TypedTree → Bool
lacks_sets language typed = not (has_sets language) && main_has_sets typed

-- the target is built of the source, whose program has a form in the language
pub record CompilesIn (language : Language) (given last : List Told) (source : List ℕ) (t : RawTarget) : Type 0 where
  pub compiles : Compiles given last source t
  pub has_form : lacks_sets language compiles.0 ≡ false
