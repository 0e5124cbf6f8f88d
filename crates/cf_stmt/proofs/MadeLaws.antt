-- The block that is made of a code is its statements.
use Rattle.std.proofs.Common.{◌≡◌, ℕ, Bool, true, false, refl, ◌∙◌}
use Rattle.cf_tree.specs.CodeTree.{CodeTree, code_lit, code_truth, code_var, code_set_of, code_tuple, code_sum, code_sub, code_mul, code_neg, code_div, code_mod, code_min, code_max, code_compare, code_divides, code_and, code_or, code_not, code_union, code_inter, code_diff, code_subset, code_card, code_slice, code_fresh, code_if, code_let, code_solve}
use Rattle.cf_shift.specs.Shifted.{shifted}
use Rattle.cf_stmt.specs.Blocks.{Block, give}
use Rattle.cf_stmt.specs.Fitting.{fits, plain}
use Rattle.cf_stmt.specs.Guards.{guarded}
use Rattle.cf_stmt.specs.Made.{plain_or, block_at}
use Rattle.cf_stmt.specs.Statements.{IsStatements}
use Rattle.cf_stmt.proofs.BlockLaws.{block_means}
use Rattle.cf_stmt.proofs.PlainBlocks.{block_is_plain}
use Rattle.cf_stmt.proofs.StandsLaws.{guarded_stands}

pub made_guarded : (c : CodeTree) (a b : Block) → a ≡ block_at plain 0 c → b ≡ guarded a → IsStatements c b
made_guarded c a b e f = rw (f, e) (record {
  same = λ env. (guarded_stands (block_at plain 0 c)).same env ∙ block_means plain c env;
  plain = (guarded_stands (block_at plain 0 c)).plain (block_is_plain c);
})

not_true : false ≡ true → ⊥
not_true e = cc

stays_whole : (t : Bool) (c : CodeTree) (b : Block) → t ≡ true → plain_or t c b ≡ give c
stays_whole true c b e = refl
stays_whole false c b e = cc

-- a code that is plain stays whole
pub whole_at : (n : ℕ) (c : CodeTree) → fits 0 c ≡ true → block_at plain n c ≡ give (shifted n c)
whole_at n (code_lit k) e = refl
whole_at n (code_truth t) e = refl
whole_at n (code_var x) e = refl
whole_at n (code_tuple cs) e = absurd (not_true e)
whole_at n (code_let first m a b) e = absurd (not_true e)
whole_at n (code_solve id arms) e = absurd (not_true e)
whole_at n (code_set_of cs) e = stays_whole (fits 0 (code_set_of cs)) (shifted n (code_set_of cs)) _ e
whole_at n (code_sum cs) e = stays_whole (fits 0 (code_sum cs)) (shifted n (code_sum cs)) _ e
whole_at n (code_min cs) e = stays_whole (fits 0 (code_min cs)) (shifted n (code_min cs)) _ e
whole_at n (code_max cs) e = stays_whole (fits 0 (code_max cs)) (shifted n (code_max cs)) _ e
whole_at n (code_union cs) e = stays_whole (fits 0 (code_union cs)) (shifted n (code_union cs)) _ e
whole_at n (code_inter cs) e = stays_whole (fits 0 (code_inter cs)) (shifted n (code_inter cs)) _ e
whole_at n (code_sub a b) e = stays_whole (fits 0 (code_sub a b)) (shifted n (code_sub a b)) _ e
whole_at n (code_mul a b) e = stays_whole (fits 0 (code_mul a b)) (shifted n (code_mul a b)) _ e
whole_at n (code_compare o a b) e = stays_whole (fits 0 (code_compare o a b)) (shifted n (code_compare o a b)) _ e
whole_at n (code_and a b) e = stays_whole (fits 0 (code_and a b)) (shifted n (code_and a b)) _ e
whole_at n (code_or a b) e = stays_whole (fits 0 (code_or a b)) (shifted n (code_or a b)) _ e
whole_at n (code_diff a b) e = stays_whole (fits 0 (code_diff a b)) (shifted n (code_diff a b)) _ e
whole_at n (code_subset a b) e = stays_whole (fits 0 (code_subset a b)) (shifted n (code_subset a b)) _ e
whole_at n (code_fresh a b) e = stays_whole (fits 0 (code_fresh a b)) (shifted n (code_fresh a b)) _ e
whole_at n (code_neg a) e = stays_whole (fits 0 (code_neg a)) (shifted n (code_neg a)) _ e
whole_at n (code_div a k) e = stays_whole (fits 0 (code_div a k)) (shifted n (code_div a k)) _ e
whole_at n (code_mod a k) e = stays_whole (fits 0 (code_mod a k)) (shifted n (code_mod a k)) _ e
whole_at n (code_divides k a) e = stays_whole (fits 0 (code_divides k a)) (shifted n (code_divides k a)) _ e
whole_at n (code_not a) e = stays_whole (fits 0 (code_not a)) (shifted n (code_not a)) _ e
whole_at n (code_card a) e = stays_whole (fits 0 (code_card a)) (shifted n (code_card a)) _ e
whole_at n (code_slice a b d) e = stays_whole (fits 0 (code_slice a b d)) (shifted n (code_slice a b d)) _ e
whole_at n (code_if a b d) e = stays_whole (fits 0 (code_if a b d)) (shifted n (code_if a b d)) _ e
