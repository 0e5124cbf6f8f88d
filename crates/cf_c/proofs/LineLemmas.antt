-- What is opened, and what a line is answered by.
use Rattle.std.proofs.Common.{◌≡◌, ◌∙◌, ap, inl, inr, refl, subst, sym, ℕ, List, [], ◌∷◌, Option, Some, Result}
use Rattle.std.proofs.Common.{Ok, Err, IfOk, OnOk, OnErr, IsErrOf}
use Rattle.std.specs.Prelude.{◌⊎◌, Vec}
use Rattle.std.specs.Global.{Global}
use Rattle.std.specs.Result.{result_map_both}
use native.Mathlib.Numerals.{unary_clauses}
use Rattle.cf_io.specs.Seen.{ShelfSeen, SinkSeen}
use Rattle.cf_pass.specs.Passes.{Told}
use Rattle.cf_words.specs.Commands.{Command}
use Rattle.cf_words.specs.Words.{command_of}
use Rattle.cf_answer.specs.Owed.{AreReplies}
use Rattle.cf_answer.specs.Steps.{replier_of}
use Rattle.cf_answer.specs.declared.answerer.Replier.{Replier}
use Rattle.cf_lines.specs.Opening.{IsOpen, IsOpening}
use Rattle.cf_memory.specs.Files.{fresh_files}
use Rattle.cf_memory.specs.Held.{fresh_sink, growing_seen}
use Rattle.cf_memory.specs.declared.file.File.{File}
use Rattle.cf_memory.specs.declared.growing.Growing.{Growing}
use Rattle.cf_c.specs.Answered.{IsFilled, IsNoText}
use Rattle.cf_c.specs.Lines.{IsOpenedBy, held_by, ended_by, kept_by, OpenEnded, opened, shut, no_text, out_of_memory}
use Rattle.cf_c.specs.Lines.{replied, unreplied, IsHandedBack, IsLineAnswered}
use Rattle.cf_c.specs.declared.opening.Opened.{Opened}
use Rattle.cf_c.specs.declared.opening.Opened.TheVariants.{Program, Shut}
use Rattle.cf_c.specs.declared.words.Uncalled.{Uncalled}
use Rattle.cf_c.specs.declared.words.Uncalled.TheVariants as uncalled
use Rattle.cf_tree.specs.declared.memory.NoMemory.{NoMemory}

-- a sink took all, or failed once
pub told_or_rose : {A B C E : Type 0} (r : Result (Unit {0}) E) → OnOk r A → OnOk r C → OnErr r B → B ⊎ (A × C)
told_or_rose (Ok done) a c b = inr (a, c)
told_or_rose (Err e) a c b = inl b

-- what answers lines is opened, in a box, and nothing is told
pub opened_program : (command : Option Command) (given last : List Told) (shelf after : ShelfSeen) (errors : SinkSeen) (r : Replier)
    (how : Result Opened NoMemory) → IsOpening command given last shelf after (Ok r) → IfOk how (λ o. held_by o ≡ Some r) →
    IfOk how (IsOpenedBy command shelf errors errors)
opened_program command given last shelf after errors r (Ok (Program b)) is kept =
    let same : r ≡ b.value = cc kept in record {
      given = given;
      last = last;
      opens = subst (λ v. IsOpen command given last shelf.texts (replier_of v)) same is;
      silent = refl;
    }
opened_program command given last shelf after errors r (Ok (Shut status)) is kept = cc
opened_program command given last shelf after errors r (Err fault) is kept = kept

-- the same behind another sink
opened_behind : (command : Option Command) (shelf : ShelfSeen) (before before' errors : SinkSeen) (o : Opened) → before ≡ before' →
    IsOpenedBy command shelf before errors o → IsOpenedBy command shelf before' errors o
opened_behind command shelf before before' errors o e is = subst (λ b. IsOpenedBy command shelf b errors o) e is

-- how opening ended
pub open_ended : (words : List (List ℕ)) (files : List File) (before after : Growing) (how : Result Opened Uncalled) → growing_seen before ≡ fresh_sink →
    IfOk how (IsOpenedBy (command_of words) (fresh_files files) (growing_seen before) (growing_seen after)) → OnErr how (after ≡ before) →
    (IsErrOf how uncalled.NoText → IsNoText words) → OpenEnded words files (growing_seen after) (kept_by how) (ended_by how)
open_ended words files before after (Ok (Program r)) fresh is same none =
    opened r.value refl refl
    (opened_behind (command_of words) (fresh_files files) (growing_seen before) fresh_sink (growing_seen after) (Program r) fresh is)
open_ended words files before after (Ok (Shut status)) fresh is same none =
    shut status refl refl
    (opened_behind (command_of words) (fresh_files files) (growing_seen before) fresh_sink (growing_seen after) (Shut status) fresh is)
open_ended words files before after (Err uncalled.NoText) fresh is same none = no_text refl refl (none refl) (ap growing_seen same ∙ fresh)
open_ended words files before after (Err uncalled.NoMemory) fresh is same none = out_of_memory refl refl (ap growing_seen same ∙ fresh)

-- no bytes leave a buffer as it was
pub nothing_filled : (room : List ℕ) → IsFilled room room 0 []
nothing_filled room = record { count = refl; bytes = simp unary_clauses refl }

-- what is handed back answers the line
pub line_answered : (kept : Option Replier) (r : Replier) (line out_old out_new : List ℕ) (out_size number : ℕ) (how : Result (Vec ℕ Global) NoMemory) →
    kept ≡ Some r → IfOk how (λ text. AreReplies (replier_of r) (line ∷ []) text.items) →
    IsHandedBack (result_map_both (λ t. t.items) (λ f. f) how) out_old out_new out_size number →
    IsLineAnswered kept (Some r) line out_old out_new out_size number
line_answered kept r line out_old out_new out_size number (Ok text) is replies back = record {
  same = sym is;
  reply = text.items;
  filled = back.0;
  ended = replied r is replies back.1;
}
line_answered kept r line out_old out_new out_size number (Err fault) is replies back = record {
  same = sym is;
  reply = [];
  filled = back.0;
  ended = unreplied refl back.1;
}
