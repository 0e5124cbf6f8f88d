-- A form is written with the first of the signs, and leaves the others.
use Rattle.std.proofs.Common.{◌≡◌, ℕ, ◌+◌, ◌≤◌, pos, negsuc, List, [], ◌∷◌, ◌++◌, length, Bool, true, false, refl, ◌∙◌, ap, arith}
use Rattle.cf_tree.specs.RelTree.{TermTree, term_lit, term_var, term_card, term_neg, term_add, term_sub, term_mul, term_div, term_mod, term_abs}
use Rattle.cf_tree.specs.Relation.{is_fixed}
use Rattle.cf_linear.specs.Rows.{put, comb}
use Rattle.cf_linear.specs.Layout.{Layout}
use Rattle.cf_linear.specs.Written.{WrittenTree, from_one, from_two, with_quotient, write_mod, first_sign, other_signs, signed_by, with_sign, product_by}
use Rattle.cf_linear.specs.Written.{write, abs_count}

pub signed_rest : (b : Bool) (w : WrittenTree) → (signed_by b w).signs ≡ other_signs w.signs
signed_rest true w = refl
signed_rest false w = refl

pub no_signs : (ss : List Bool) → length ss ≡ 0 → ss ≡ []
no_signs [] e = refl
no_signs (b ∷ ss) e = absurd (omega arith)

one_less : (ss : List Bool) → 1 ≤ length ss → length (other_signs ss) + 1 ≡ length ss
one_less [] h = absurd (omega arith)
one_less (b ∷ ss) h = omega arith

-- how many signs are left
pub length-left : (l : Layout) (t : TermTree) (ss : List Bool) (q : ℕ) → abs_count t ≤ length ss → length (write l t ss q).signs + abs_count t ≡ length ss
length-left l (term_lit n) ss q h = omega arith
length-left l (term_var x) ss q h = omega arith
length-left l (term_card s) ss q h = omega arith
length-left l (term_neg a) ss q h = length-left l a ss q h
length-left l (term_add a b) ss q h =
    let w = write l a ss q in let i = length-left l a ss q (omega arith) in let j = length-left l b w.signs w.next (omega arith) in omega arith
length-left l (term_sub a b) ss q h =
    let w = write l a ss q in let i = length-left l a ss q (omega arith) in let j = length-left l b w.signs w.next (omega arith) in omega arith
length-left l (term_mul a b) ss q h =
    let w = write l a ss q in let i = length-left l a ss q (omega arith) in let j = length-left l b w.signs w.next (omega arith) in omega arith
length-left l (term_div a k) ss q h = length-left l a ss q h
length-left l (term_mod a k) ss q h = length-left l a ss q h
length-left l (term_abs a) ss q h =
    let w = write l a ss q in
    let i = length-left l a ss q (omega arith) in
    let j = one_less w.signs (omega arith) in
    let k = ap length (signed_rest (first_sign w.signs) w) in omega arith

-- the written form with more signs left
abbrev pub more : WrittenTree → List Bool → WrittenTree
more w ys = record { row = w.row; guards = w.guards; next = w.next; signs = w.signs ++ ys; passes = w.passes }

more_signed : (w : WrittenTree) (ys : List Bool) (b : Bool) (rest : List Bool) → w.signs ≡ b ∷ rest → with_sign (more w ys) ≡ more (with_sign w) ys
more_signed w ys b rest e = rw e (by_sign b)
  where
    by_sign : (b : Bool) → signed_by b (record { row = w.row; guards = w.guards; next = w.next; signs = (b ∷ rest) ++ ys; passes = w.passes }) ≡ more
        (signed_by b (record { row = w.row; guards = w.guards; next = w.next; signs = b ∷ rest; passes = w.passes })) ys
    by_sign true = refl
    by_sign false = refl

pub write-more : (l : Layout) (t : TermTree) (xs ys : List Bool) (q : ℕ) → abs_count t ≤ length xs → write l t (xs ++ ys) q ≡ more (write l t xs q) ys
write-more l (term_lit n) xs ys q h = refl
write-more l (term_var x) xs ys q h = refl
write-more l (term_card s) xs ys q h = refl
write-more l (term_neg a) xs ys q h = ap (λ (w : WrittenTree). from_one w (comb (negsuc 0) w.row (pos 0) [])) (write-more l a xs ys q h)
write-more l (term_add a b) xs ys q h =
    let w = write l a xs q in
    let i = length-left l a xs q (omega arith) in
    ap (λ (w : WrittenTree). let u = write l b w.signs w.next in from_two w u (comb (pos 1) w.row (pos 1) u.row)) (write-more l a xs ys q (omega arith))
    ∙ ap (λ (u : WrittenTree). from_two (more w ys) u (comb (pos 1) w.row (pos 1) u.row)) (write-more l b w.signs ys w.next (omega arith))
write-more l (term_sub a b) xs ys q h =
    let w = write l a xs q in
    let i = length-left l a xs q (omega arith) in
    ap (λ (w : WrittenTree). let u = write l b w.signs w.next in from_two w u (comb (pos 1) w.row (negsuc 0) u.row)) (write-more l a xs ys q (omega arith))
    ∙ ap (λ (u : WrittenTree). from_two (more w ys) u (comb (pos 1) w.row (negsuc 0) u.row)) (write-more l b w.signs ys w.next (omega arith))
write-more l (term_mul a b) xs ys q h =
    let w = write l a xs q in
    let i = length-left l a xs q (omega arith) in
    ap (λ (w : WrittenTree). let u = write l b w.signs w.next in from_two w u (product_by (is_fixed a) w.row u.row)) (write-more l a xs ys q (omega arith))
    ∙ ap (λ (u : WrittenTree). from_two (more w ys) u (product_by (is_fixed a) w.row u.row)) (write-more l b w.signs ys w.next (omega arith))
write-more l (term_div a k) xs ys q h = ap (λ (w : WrittenTree). with_quotient w k (put w.next (pos 1) [])) (write-more l a xs ys q h)
write-more l (term_mod a k) xs ys q h = ap (λ (w : WrittenTree). write_mod w k) (write-more l a xs ys q h)
write-more l (term_abs a) xs ys q h =
    let w = write l a xs q in
    let i = length-left l a xs q (omega arith) in
    ap with_sign (write-more l a xs ys q (omega arith)) ∙ some_left w.signs refl (omega arith)
  where
    some_left : (ss : List Bool) → (write l a xs q).signs ≡ ss → 1 ≤ length ss → with_sign (more (write l a xs q) ys) ≡ more (with_sign (write l a xs q)) ys
    some_left [] e k = absurd (omega arith)
    some_left (b ∷ rest) e k = more_signed (write l a xs q) ys b rest e
