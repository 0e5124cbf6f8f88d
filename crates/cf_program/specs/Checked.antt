-- The rules over a whole program: the program with levels in the place of names, or the first rule that it breaks.
use Rattle.std.specs.Prelude.{ℕ, suc, not, List, [], ◌∷◌, ◌++◌, length, map, reverse, codes, Option, Some, None, option_map, Result, Ok, Err, if◌then◌else◌}
use Rattle.std.specs.Str.{bytes_eq}
use Rattle.cf_tree.specs.declared.base.Base.TheVariants.{Int}
use Rattle.cf_tree.specs.declared.base.Place.{Place}
use Rattle.cf_tree.specs.DefView.{RawDefTree, DefTree, RawItemTree, item_const, item_def}
use Rattle.cf_tree.specs.RawTree.{RawTree, place_of}
use Rattle.cf_tree.specs.declared.base.Edition.{Edition}
use Rattle.cf_program.specs.declared.fault.TypeFault.{TypeFault}
use Rattle.cf_program.specs.declared.linearity.Linearity.{Linearity}
use Rattle.cf_program.specs.declared.fault.TypeFault.TheVariants.{DuplicateName, Mismatch, NoMain, Weight, Depth}
use Rattle.cf_program.specs.Constants.{Constant, constant_names, value}
use Rattle.cf_program.specs.Names.{is_among, repeated, callee_from}
use Rattle.cf_tree.specs.Params.{names_of}
use Rattle.cf_tree.specs.Bases.{same_bases}
use Rattle.cf_program.specs.Size.{weights, depths, first_above}
use Rattle.cf_program.specs.Then.{◌>>=◌}
use Rattle.cf_program.specs.Walk.{by_edition, where_kept, where_no_fault, where_none_repeated, is_one, Form, behind, walk}

-- a program with levels: its functions, and the number of the one that is named `main`
pub record TypedTree : Type 0 where
  pub defs : List DefTree
  pub main : ℕ

-- the functions of a program, in the order of its text
abbrev pub functions_of : List RawItemTree → List RawDefTree
functions_of [] = []
functions_of (item_const p x e ∷ items) = functions_of items
functions_of (item_def d ∷ items) = d ∷ functions_of items

abbrev pub def_form : RawDefTree → Form → DefTree
def_form d f = record { name = d.name; params = d.params; results = d.results; body = f.tree }

-- a function of the program behind these constants and those functions before it, with the next number of a choose after it
abbrev pub walk_def : Edition → Linearity → List RawDefTree → List Constant → List RawDefTree → ℕ → RawDefTree → Result (DefTree × ℕ) TypeFault
walk_def edition how all constants before n d =
    where_kept (not (is_among (map (λ e. e.name) before) d.name)) (DuplicateName d.place) (
    where_none_repeated (repeated (constant_names constants) (names_of d.params) (map (λ p. p.place) d.params)) (
    walk (behind edition how (callee_from (length before) 0 all) constants (reverse before)) d.params n d.body >>= λ f.
    where_kept (same_bases f.bases d.results) (Mismatch (place_of d.body)) (
    Ok (def_form d f, f.next))))

-- a constant x at p behind these constants and those functions before it: its expression is a number without variables
abbrev pub walk_const : Edition → Linearity → List RawDefTree → List Constant → List RawDefTree → ℕ → Place → List ℕ → RawTree →
    Result (List Constant) TypeFault
walk_const edition how all constants before n p x e =
    where_kept (not (is_among (constant_names constants) x)) (DuplicateName p) (
    walk (behind edition how (callee_from (length before) 0 all) constants (reverse before)) [] n e >>= λ f.
    where_kept (is_one Int f.bases) (Mismatch (place_of e)) (
    value constants e >>= λ k. Ok (constants ++ record { name = x; value = k } ∷ [])))

-- the items of the program behind these constants and those functions before, of which `done` are the trees; n is the next number of a choose
abbrev pub walk_items : Edition → Linearity → List RawDefTree → List Constant → List RawDefTree → List DefTree → ℕ → List RawItemTree →
    Result (List DefTree) TypeFault
walk_items edition how all constants before done n [] = Ok done
walk_items edition how all constants before done n (item_const p x e ∷ items) =
    walk_const edition how all constants before n p x e >>= λ more. walk_items edition how all more before done n items
walk_items edition how all constants before done n (item_def d ∷ items) =
    walk_def edition how all constants before n d >>= λ r. walk_items edition how all constants (before ++ d ∷ []) (done ++ r.0 ∷ []) r.1 items

-- the number of the function that is named `main`, where the first has number i
abbrev pub main_from : ℕ → List RawDefTree → Option ℕ
main_from i [] = None
main_from i (d ∷ ds) = if bytes_eq d.name (codes "main") then Some i else main_from (suc i) ds

-- the fault of the first count that passes the limit
abbrev pub size_fault : ℕ → (ℕ → TypeFault) → List ℕ → Option TypeFault
size_fault limit fault ns = option_map (λ p. fault p.1) (first_above limit 0 ns)

-- weights come after all functions and `main`, and depths after all weights
abbrev pub sized : TypedTree → Result TypedTree TypeFault
sized t =
    where_no_fault (size_fault 1000000 Weight (weights t.defs)) (
    where_no_fault (size_fault 200 Depth (depths t.defs)) (
    Ok t))

abbrev pub with_main : List DefTree → Option ℕ → Result TypedTree TypeFault
with_main defs None = Err NoMain
with_main defs (Some main) = Ok (record { defs = defs; main = main })

-- Weights and depths are those of lowered functions: of language 2 they are asked here, and of edition 3 where it is lowered.
abbrev pub checked : Edition → Linearity → List RawItemTree → Result TypedTree TypeFault
checked edition how items =
    walk_items edition how (functions_of items) [] [] [] 1 items >>= λ defs.
    with_main defs (main_from 0 (functions_of items)) >>= λ t. by_edition edition (sized t) (Ok t)
