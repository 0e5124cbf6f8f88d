-- What an arm gives are the outputs that are made from the values of the columns.
use Rattle.std.proofs.Common.{◌≡◌, ℕ, ◌+◌, List, [], ◌∷◌, ◌++◌, length, map, ap, sym, ◌∙◌, append_assoc, append-nil}
use Rattle.std.specs.List.{range_with_len}
use Rattle.cf_tree.specs.CodeTree.{CodeTree, codes_of}
use Rattle.cf_tree.specs.Meaning.{got, all_path}
use Rattle.cf_tree.specs.Values.{Value, number}
use Rattle.cf_tree.proofs.SetLemmas.{on_bool}
use Rattle.cf_linear.specs.Arm.{level_of, region_level, give_code}
use Rattle.cf_linear.specs.Layout.{place, has_level, number_column}
use Rattle.cf_venn.specs.Codes.{GivesMean}
use Rattle.cf_venn.specs.Columns.{region_count, output_at}
use Rattle.cf_venn.specs.Masks.{sets_at}
use Rattle.cf_venn.proofs.CodeLaws.{CodeGives, var_gives, set_gives}

all_give : (f : ℕ → CodeTree) (g : ℕ → Value) (e : List Value) → ((x : ℕ) → CodeGives (f x) e (g x)) → (xs : List ℕ) (done : List Value) →
    (all_path (codes_of (map f xs)) e done).gives ≡ got (done ++ map g xs)
all_give f g e h [] done = ap got (sym (append-nil done))
all_give f g e h (x ∷ xs) done = rw (h x) (all_give f g e h xs (done ++ (g x ∷ [])) ∙ ap got (append_assoc done (g x ∷ []) (map g xs)))

pub gives_mean : GivesMean
gives_mean l a k env v e held numbers =
    all_give (give_code l a k) (output_at l env v) e
    (λ x. on_bool (has_level l.out_numbers x)
    (λ t. rw t (var_gives (level_of k.names (number_column l x)) e (number (v (number_column l x))) (numbers x t)))
    (λ t. rw t (set_gives l k.names (region_level l a) k.level (sets_at env l.inputs) (region_count l v) e held (place x l.out_sets))))
    (range_with_len l.scope (length l.out_numbers + length l.out_sets)) []
