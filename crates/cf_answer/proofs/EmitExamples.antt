-- Worked examples: what `emit` owes, which statements answer as a target, and which programs have no form in a language.
use Rattle.std.proofs.Common.{◌≡◌, ℕ, ℤ, pos, true, false, List, [], ◌∷◌, None, refl, arith, codes}
use Rattle.std.specs.Prelude.{Ok}
use Rattle.cf_num.specs.Limit.{limit}
use Rattle.cf_tree.specs.CodeTree.{CodeTree, code_lit, code_var, code_sum, codes_of}
use Rattle.cf_tree.specs.CodeView.{code_tree}
use Rattle.cf_tree.specs.DefView.{RawItemTree}
use Rattle.cf_tree.specs.ExprTree.{ExprTree, expr_lit, expr_var, expr_binary, expr_card}
use Rattle.cf_tree.specs.Values.{Value, HaveBases, number}
use Rattle.cf_tree.specs.declared.base.Base.{Base}
use Rattle.cf_tree.specs.declared.base.Base.TheVariants.{Int, Set}
use Rattle.cf_tree.specs.declared.base.Edition.TheVariants.{Two}
use Rattle.cf_tree.specs.declared.raw.BinOp.TheVariants.{Mul}
use Rattle.cf_tree.specs.declared.raw.Param.{Param}
use Rattle.cf_tree.specs.declared.target.RawTarget.{RawTarget}
use Rattle.cf_pass.specs.Passes.{Told, HaveTurned}
use Rattle.cf_program.specs.Checked.{TypedTree}
use Rattle.cf_program.specs.declared.linearity.Linearity.TheVariants.{Plain}
use Rattle.cf_build.specs.Chooses.{all_chooses, by_number, first_refused}
use Rattle.cf_shift.specs.Meeting.{AreSmall}
use Rattle.cf_range.specs.Ranges.{AreHeld}
use Rattle.cf_stmt.specs.Blocks.{Block, give, none}
use Rattle.cf_stmt.specs.Runs.{gives, overflows, runs}
use Rattle.cf_print.specs.declared.language.Language.{Language}
use Rattle.cf_print.specs.declared.language.Language.TheVariants.{C, Python, JavaScript, Rust}
use Rattle.cf_print_program.specs.Printed.{IsPrint}
use Rattle.cf_words.specs.Commands.{Emitting, emit}
use Rattle.cf_answer.specs.Emitting.{AnswersAs, CompilesIn, IsEmitted, lacks_sets, main_has_sets, printing, target_run}
use Rattle.cf_answer.specs.Owed.{Owes, Judges}
use Rattle.cf_answer.specs.Refusals.{IsBadEmission, bad_program, no_sets, IsBadProgram, IsRefusedEmission, Refuses}
use Rattle.cf_answer.specs.Sources.{Compiles, IsTypedBy}
use Rattle.cf_answer.specs.Statuses.{code_of, fault_status}
use Rattle.cf_answer.specs.declared.fault.Fault.{Fault}
use Rattle.cf_answer.specs.declared.fault.Fault.TheVariants as fault

abbrev Same : Type 0 → Type 0 → Type 0
Same P Q = (P → Q) × (Q → P)

-- ---- what is owed
module _ (e : Emitting) (name source other : List ℕ) (given last : List Told) (ls : List (List ℕ)) (text : List ℕ) (f : Fault) where
  of-emit : Same (Owes (emit e name) (source ∷ []) given last ls text)
      ((t : RawTarget) × CompilesIn e.language given last source t × HaveTurned given last × IsEmitted e source t text)
  of-emit = (λ h. h, λ h. h)

  of-no_file : Owes (emit e name) [] given last ls text → ⊥
  of-no_file h = h

  of-two_files : Owes (emit e name) (source ∷ other ∷ []) given last ls text → ⊥
  of-two_files h = h

  done : Judges (emit e name) (source ∷ []) text (Ok tt)
  done = refl

  refused-so : Same (Refuses (emit e name) (source ∷ []) f) (IsRefusedEmission e.language source f)
  refused-so = (λ h. h, λ h. h)

-- ---- statements
abbrev one : ℤ → List Value
one z = number z ∷ []

abbrev next : CodeTree
next = code_sum (codes_of (code_var 0 ∷ code_lit (pos 1) ∷ []))

-- the greatest number
abbrev most : ℕ
most = 170141183460469231731687303715884105727

module _ (t : RawTarget) (is : code_tree t.code ≡ next) (takes : t.params.items ≡ Int ∷ []) where
  comes-to : target_run t (one (pos 5)) ≡ gives (one (pos 6))
  comes-to = rw is refl

  comes-past : target_run t (one (pos most)) ≡ overflows
  comes-past = rw is refl

  -- its own code, as a statement
  answers : AnswersAs (give next) t
  answers = λ vs bases small held. rw is refl

  five : HaveBases t.params.items (one (pos 5))
  five = rw takes ((pos 5, refl), tt)

  five-is_small : AreSmall limit (one (pos 5))
  five-is_small = (omega arith, tt)

  five-is_held : AreHeld (one (pos 5))
  five-is_held = (tt, tt)

  -- what gives another number, or none, does not answer as it
  answers-otherwise : AnswersAs (give (code_var 0)) t → ⊥
  answers-otherwise h = let same : gives (one (pos 5)) ≡ gives (one (pos 6)) = rw is at (h (one (pos 5)) five five-is_small five-is_held) in cc

  answers-with_none : AnswersAs (none 1) t → ⊥
  answers-with_none h = let same : runs (none 1) (one (pos 5)) ≡ gives (one (pos 6)) = rw is at (h (one (pos 5)) five five-is_small five-is_held) in cc

-- ---- what is printed
abbrev as_filter : Emitting
as_filter = record { language = JavaScript; has_main = true; name = codes "f" }

module _ (t : RawTarget) (takes : t.params.items ≡ Int ∷ []) (gives-two : t.results.items ≡ Int ∷ Set ∷ []) where
  asked : (printing as_filter (codes "s") t (none 1)).language ≡ JavaScript
  asked = refl

  asked-so : ((printing as_filter (codes "s") t (none 1)).has_main ≡ true) × ((printing as_filter (codes "s") t (none 1)).name ≡ codes "f")
  asked-so = (refl, refl)

  of-source : (printing as_filter (codes "s") t (none 1)).source ≡ codes "s"
  of-source = refl

  of-target : ((printing as_filter (codes "s") t (none 1)).params ≡ Int ∷ []) × ((printing as_filter (codes "s") t (none 1)).results ≡ Int ∷ Set ∷ [])
      × ((printing as_filter (codes "s") t (none 1)).body ≡ none 1)
  of-target = (takes, gives-two, refl)

-- the print of statements that answer as the target, and of no others
module _ (e : Emitting) (source text : List ℕ) (t : RawTarget) where
  emitted : (b : Block) → AnswersAs b t → IsPrint (printing e source t b) text → IsEmitted e source t text
  emitted b h p = record { body = b; answers = h; print = p }

  emitted-of : IsEmitted e source t text → (b : Block) × AnswersAs b t × IsPrint (printing e source t b) text
  emitted-of h = (h.body, h.answers, h.print)

-- a source that is compiled, and whose program lacks nothing in the language
module _ (language : Language) (given last : List Told) (source : List ℕ) (t : RawTarget) where
  compiled-in : (c : Compiles given last source t) → lacks_sets language c.0 ≡ false → CompilesIn language given last source t
  compiled-in c h = record { compiles = c; has_form = h }

  compiled-in_of : CompilesIn language given last source t → (c : Compiles given last source t) × (lacks_sets language c.0 ≡ false)
  compiled-in_of h = (h.compiles, h.has_form)

-- ---- sets
abbrev param : Base → Param
param b = record { place = record { line = 1; column = 1 }; name = codes "a"; base = b }

abbrev program : Base → ExprTree → TypedTree
program b body = record { defs = record { name = codes "main"; params = param b ∷ []; results = Int ∷ []; body = body } ∷ []; main = 0 }

numbers-alone : main_has_sets (program Int (expr_binary Mul (expr_var 0) (expr_var 0))) ≡ false
numbers-alone = refl

set-taken : main_has_sets (program Set (expr_lit (pos 1))) ≡ true
set-taken = refl

set-within : main_has_sets (program Int (expr_card (expr_var 0))) ≡ true
set-within = refl

-- a set in a function that main does not call is none of its own
set-elsewhere : main_has_sets (record {
  defs =
      record { name = codes "size"; params = param Set ∷ []; results = Int ∷ []; body = expr_card (expr_var 0) }
      ∷ record { name = codes "main"; params = param Int ∷ []; results = Int ∷ []; body = expr_var 0 } ∷ [];
  main = 1;
}) ≡ false
set-elsewhere = refl

lacking-in_c : lacks_sets C (program Set (expr_lit (pos 1))) ≡ true
lacking-in_c = refl

there-elsewhere :
    (lacks_sets Python (program Set (expr_lit (pos 1))) ≡ false) × (lacks_sets JavaScript (program Set (expr_lit (pos 1))) ≡ false) ×
    (lacks_sets Rust (program Set (expr_lit (pos 1))) ≡ false)
there-elsewhere = (refl, refl, refl)

-- ---- refusals
module _ (items : List RawItemTree) (typed : TypedTree) (is : IsTypedBy Two Plain items typed) (f : Fault) where
  as-compile : IsBadProgram Two items f → IsBadEmission C Two items f
  as-compile h = bad_program f h

  for-sets : first_refused (by_number (all_chooses typed.defs)) ≡ None → lacks_sets C typed ≡ true → IsBadEmission C Two items fault.NoSetsInC
  for-sets unrefused lacks = no_sets typed is unrefused lacks

status-of_sets : code_of (fault_status fault.NoSetsInC) ≡ 7
status-of_sets = refl
