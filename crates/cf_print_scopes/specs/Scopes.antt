-- The names in one scope of a printed function differ, and none of them is reserved.
use Rattle.std.specs.Prelude.{◌≡◌, ℕ, suc, ◌^◌, ◌<◌, Bool, true, ◌||◌, List, [], ◌∷◌, ◌++◌, length, nat_eq}
use Rattle.std.specs.List.{list_all}
use Rattle.cf_tree.specs.declared.base.Base.{Base}
use Rattle.cf_stmt.specs.Blocks.{Block}
use Rattle.cf_print_term.specs.Expressions.{Sight}
use Rattle.cf_print.specs.Names.{names_function, may_name, is_free}
use Rattle.cf_print.specs.Words.{words_of}
use Rattle.cf_print.specs.declared.language.Language.{Language}
use Rattle.cf_print_line.specs.Heads.{all_parameters, part_opening, part_closing}
use Rattle.cf_print_line.specs.Layout.{line, comment_text, unread_lines, let_lines, call_lines, if_text, else_lines, end_lines, scope_lines, search_text, give_lines}
use Rattle.cf_print_shape.specs.declared.exit.Exit.{Exit}
use Rattle.cf_print_block.specs.Places.{Setting, Draft}
use Rattle.cf_print_block.specs.Statements.{block, exit_lines, guard_lines, differ_behind, numbered_name}
use Rattle.cf_print_block.specs.declared.place.Place.{Place}

-- ---- names
-- a name where these are in scope: none of them, and not reserved
abbrev pub IsNew : Language → List (List ℕ) → List ℕ → Type 0
IsNew l scope x = is_free (words_of l) scope x ≡ true

-- each is new behind those before it
abbrev pub AreNew : Language → List (List ℕ) → List (List ℕ) → Type 0
AreNew l scope [] = Unit {0}
AreNew l scope (x ∷ xs) = IsNew l scope x × AreNew l (scope ++ (x ∷ [])) xs

-- it may name a variable; a variable that is not bound has no name at all
abbrev pub is_fit : Language → List ℕ → Bool
is_fit l x = nat_eq (length x) 0 || may_name (words_of l) x

-- names of one scope: no two are the same, and none is reserved
pub record AreNames (l : Language) (names : List (List ℕ)) : Type 0 where
  pub differ : differ_behind [] names ≡ true
  pub fit : list_all (is_fit l) names ≡ true

-- ---- statements
-- lines that declare nothing
pub data IsSilent (l : Language) : List ℕ → Type 0 where
  no_lines : IsSilent l []
  a_comment : (d : ℕ) (t : List ℕ) → IsSilent l (line l d (comment_text l t))
  an_unread : (d : ℕ) (x : List ℕ) → IsSilent l (unread_lines l d x)
  a_guard : (d : ℕ) (condition : List ℕ) (e : Exit) → IsSilent l (guard_lines l d condition e)
  an_exit : (d : ℕ) (e : Exit) → IsSilent l (exit_lines l d e)
  an_end : (d : ℕ) (pointers es : List (List ℕ)) → IsSilent l (give_lines l d pointers es)

-- statements, with the names that are in scope before and behind them: each variable has a new name where it is declared, which is in scope up to the end of
-- the side, the arm or the search in which it stands
pub data AreScoped (l : Language) : List (List ℕ) → List ℕ → List (List ℕ) → Type 0 where
  silent : {scope : List (List ℕ)} {t : List ℕ} → IsSilent l t → AreScoped l scope t scope
  chained : {scope next end : List (List ℕ)} {t u : List ℕ} → AreScoped l scope t next → AreScoped l next u end → AreScoped l scope (t ++ u) end
  a_variable : {scope : List (List ℕ)} (x : List ℕ) (d : ℕ) (is_read is_small : Bool) (b : Base) (value : List ℕ) → IsNew l scope x →
      AreScoped l scope (let_lines l d is_read is_small b x value) (scope ++ (x ∷ []))
  -- the results of a function of the file, and in C its status
  a_call : {scope : List (List ℕ)} (d : ℕ) (status : List ℕ) (bs : List Base) (xs : List (List ℕ)) (f : List ℕ) (args : List (List ℕ)) →
      AreNew l scope (xs ++ (status ∷ [])) → AreScoped l scope (call_lines l d status bs xs f args) (scope ++ (xs ++ (status ∷ [])))
  a_side : {scope inner : List (List ℕ)} {t : List ℕ} (d : ℕ) (condition : List ℕ) → AreScoped l scope t inner →
      AreScoped l scope (line l d (if_text l condition) ++ t ++ end_lines l d) scope
  two_sides : {scope inner other : List (List ℕ)} {t u : List ℕ} (d : ℕ) (condition : List ℕ) → AreScoped l scope t inner → AreScoped l scope u other →
      AreScoped l scope (line l d (if_text l condition) ++ t ++ else_lines l d ++ u ++ end_lines l d) scope
  an_arm : {scope inner : List (List ℕ)} {t : List ℕ} (d : ℕ) (comment : List ℕ) → AreScoped l scope t inner →
      AreScoped l scope (line l d (comment_text l comment) ++ scope_lines l d ++ t ++ end_lines l d) scope
  a_search : {scope inner : List (List ℕ)} {t : List ℕ} (x : List ℕ) (d k : ℕ) → IsNew l scope x → AreScoped l (scope ++ (x ∷ [])) t inner →
      AreScoped l scope (line l d (search_text l x k) ++ t ++ end_lines l d) scope

-- ---- functions for parts
-- it begins with parameters, and in C pointers, that are names of one scope, and its statements stand in it
pub record IsFunction (l : Language) (text : List ℕ) : Type 0 where
  pub number : ℕ
  pub name : List ℕ
  pub params : List (List ℕ)
  pub bases : List Base
  pub pointers : List (List ℕ)
  pub results : List Base
  pub body : List ℕ
  pub end : List (List ℕ)
  pub is : text ≡ part_opening l number name (all_parameters l params bases pointers results) results ++ body ++ part_closing l
  pub names : AreNames l (params ++ pointers)
  pub scoped : AreScoped l (params ++ pointers) body end

pub data AreFunctions (l : Language) : List ℕ → Type 0 where
  no_functions : AreFunctions l []
  one_function : {t : List ℕ} → IsFunction l t → AreFunctions l t
  more_functions : {t u : List ℕ} → AreFunctions l t → AreFunctions l u → AreFunctions l (t ++ u)

-- ---- what is written
-- a draft behind another: the lines between them are such statements, from the names that were taken to those that are, and the functions between them, too
pub record Grows (s : Setting) (before after : Draft) : Type 0 where
  pub text : List ℕ
  pub lines : after.lines ≡ before.lines ++ text
  pub more : List (List ℕ)
  pub taken : after.taken ≡ before.taken ++ more
  pub scoped : AreScoped s.language before.taken text after.taken
  pub made : List ℕ
  pub functions : after.functions ≡ before.functions ++ made
  pub are : AreFunctions s.language made

pub record NamesDiffer : Type 0 where
  -- wherever statements of a block are written, by fit names for its variables
  pub behind : (s : Setting) (w : Sight) (b : Block) (p : Place) (d : Draft) → list_all (is_fit s.language) w.names ≡ true → Grows s d (block s w b p d)
  -- so behind such statements the names in scope differ where those before them do, and none is reserved
  pub keep : (l : Language) (scope end : List (List ℕ)) (t : List ℕ) → AreScoped l scope t end → AreNames l scope → AreNames l end
  -- and none is the name of a function for a part
  pub functions : (n k : ℕ) → n < 2 ^ 64 → suc k < 2 ^ 64 → names_function (numbered_name n k) ≡ true
