-- The names in one scope of a printed file differ, and none of them is reserved.
use Rattle.std.proofs.Common.{◌≡◌, ◌∙◌, ℕ, Bool, true, false, List, [], ◌∷◌, ◌++◌, sym, ap, subst, if◌then◌else◌}
use Rattle.std.specs.List.{list_all}
use Rattle.std.proofs.lemmas.List.{append_assoc, append-nil}
use Rattle.cf_tree.specs.declared.base.Base.{Base}
use Rattle.cf_print.specs.declared.language.Language.{Language}
use Rattle.cf_print_line.specs.Called.{end_of}
use Rattle.cf_print_block.specs.Places.{Setting}
use Rattle.cf_print_block.specs.Statements.{block, names_for, has_pointers, pointers_for}
use Rattle.cf_print_scopes.specs.Scopes.{AreNew, is_fit, Grows}
use Rattle.cf_print_block.specs.declared.naming.Role.TheVariants.{Value, Pointer}
use Rattle.cf_print_scopes.proofs.ScopeLaws.{all_made_new, all_new_fit, names_differ as names_of_blocks_differ}
use Rattle.cf_print_program.specs.Files.{opening_of}
use Rattle.cf_print_program.specs.Printed.{Printing, Names, setting_of, called_of, first_sight, first_place, first_draft, functions_of}
use Rattle.cf_print_scopes.specs.Files.{NamesOfFilesDiffer}

both_new : (l : Language) (scope xs ys : List (List ℕ)) → AreNew l scope xs → AreNew l (scope ++ xs) ys → AreNew l scope (xs ++ ys)
both_new l scope [] ys new more = subst (λ u. AreNew l u ys) (append-nil scope) more
both_new l scope (x ∷ xs) ys new more =
    (new.0, both_new l (scope ++ (x ∷ [])) xs ys new.1 (subst (λ u. AreNew l u ys) (sym (append_assoc scope (x ∷ []) xs)) more))

pointers_new : (s : Setting) (is : Bool) (asked : List (List ℕ)) (bs : List Base) (taken : List (List ℕ)) →
    AreNew s.language taken (if is then names_for s Pointer asked 0 bs taken else [])
pointers_new s true asked bs taken = all_made_new s Pointer asked 0 bs taken
pointers_new s false asked bs taken = tt

params_new : (names : Names) (p : Printing) → AreNew p.language [] (called_of names p).params
unfolding called_of setting_of
params_new names p = all_made_new (setting_of names p) Value names.params 0 p.params []

called_new : (names : Names) (p : Printing) → AreNew p.language [] ((called_of names p).params ++ (called_of names p).pointers)
unfolding called_of setting_of
called_new names p =
    let s = setting_of names p in
    let params = names_for s Value names.params 0 p.params [] in
    both_new p.language [] params (pointers_for s s.results p.results params) (all_made_new s Value names.params 0 p.params [])
    (pointers_new s (has_pointers p.language) s.results p.results params)

-- the functions of a draft that is done, by those before it
ended : (made opening text end functions lines : List ℕ) → functions ≡ [] ++ made → lines ≡ opening ++ text →
    (functions ++ lines) ++ end ≡ made ++ (opening ++ text ++ end)
ended made opening text end functions lines is same =
    ap (λ u. (u ++ lines) ++ end) is ∙ ap (λ u. (made ++ u) ++ end) same ∙ append_assoc made (opening ++ text) end

pub names_differ : NamesOfFilesDiffer
unfolding functions_of first_draft setting_of
names_differ names p =
    let s = setting_of names p in
    let f = called_of names p in
    let start = first_draft s p.has_main f in
    let done = block s (first_sight f) p.body first_place start in
    let fit : list_all (is_fit p.language) f.params ≡ true = all_new_fit p.language [] f.params (params_new names p) in
    let g : Grows s start done = names_of_blocks_differ.behind s (first_sight f) p.body first_place start fit in
    record {
      parts = g.made;
      are = g.are;
      body = g.text;
      end = done.taken;
      is = ended g.made (opening_of p.language p.has_main f) g.text (end_of p.language) done.functions done.lines g.functions g.lines;
      new = called_new names p;
      scoped = g.scoped;
    }
