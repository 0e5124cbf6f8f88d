-- The statements of each form of blocks, from those of its parts.
use Rattle.std.proofs.Common.{◌≡◌, ◌∙◌, ℕ, Bool, true, false, List, length, nat_eq, refl, sym, ap, true≢false, if◌then◌else◌}
use Rattle.cf_stmt.specs.Blocks.{Block, give, none, leave, bind, part, join, test, arm}
use Rattle.cf_print_term.specs.Expressions.{Sight}
use Rattle.cf_print_shape.specs.Shapes.{number_of, is_none, gives, is_plain}
use Rattle.cf_print_block.specs.Places.{Setting, Draft, Held, giving}
use Rattle.cf_print_block.specs.Statements.{block, held, has_scope, in_place, inner_behind, inner_ahead, give_back, kept, joined_held, all_in_variables, never_read, tested, guarded, plain_arm, searched_arm, told_behind}
use Rattle.cf_print_block.specs.StatementParts.{both_in, tested_in, guarded_in, plain_arm_in, searched_arm_in}
use Rattle.cf_print_block.specs.declared.inner.Inner.{Inner}
use Rattle.cf_print_block.specs.declared.place.Place.{Place}

if_yes : {A : Type 0} (t : Bool) (x y : A) → t ≡ true → (if t then x else y) ≡ x
if_yes true x y e = refl
if_yes false x y e = absurd (true≢false (sym e))

if_no : {A : Type 0} (t : Bool) (x y : A) → t ≡ false → (if t then x else y) ≡ y
if_no true x y e = absurd (true≢false e)
if_no false x y e = refl

-- the values of a block in its place
abbrev placed : Setting → Place → Sight → Block → Draft → Held
placed s p w a d = in_place s p w a (held s w a) (block s w a) d

-- ---- values that are bound
pub bind_block : (s : Setting) (w : Sight) (t a b : Block) (p : Place) (d : Draft) (first : Held) (i : Inner) → t ≡ bind a b → gives a ≡ true →
    first ≡ in_place s p w a (held s w a) (block s w a) d → i ≡ inner_behind s p w b first → block s i.scope b p i.draft ≡ block s w t p d
bind_block s w t a b p d first i is has here bound =
    let j = inner_behind s p w b (placed s p w a d) in
    ap (λ k. block s k.scope b p k.draft) (bound ∙ ap (λ h. inner_behind s p w b h) here) ∙
    sym (if_yes (gives a) (block s j.scope b p j.draft) (block s w a p d) has) ∙ ap (λ u. block s w u p d) (sym is)

pub bind_held : (s : Setting) (w : Sight) (t a b : Block) (p : Place) (d : Draft) (first : Held) (i : Inner) → t ≡ bind a b →
    first ≡ in_place s p w a (held s w a) (block s w a) d → i ≡ inner_behind s p w b first → held s i.scope b p i.draft ≡ held s w t p d
bind_held s w t a b p d first i is here bound =
    ap (λ k. held s k.scope b p k.draft) (bound ∙ ap (λ h. inner_behind s p w b h) here) ∙ ap (λ u. held s w u p d) (sym is)

pub part_block : (s : Setting) (w : Sight) (t a b : Block) (p : Place) (d : Draft) (first : Held) (i : Inner) → t ≡ part a b → gives a ≡ true →
    first ≡ in_place s p w a (held s w a) (block s w a) d → i ≡ inner_ahead s p w b first → block s i.scope b p i.draft ≡ block s w t p d
part_block s w t a b p d first i is has here bound =
    let j = inner_ahead s p w b (placed s p w a d) in
    ap (λ k. block s k.scope b p k.draft) (bound ∙ ap (λ h. inner_ahead s p w b h) here) ∙
    sym (if_yes (gives a) (block s j.scope b p j.draft) (block s w a p d) has) ∙ ap (λ u. block s w u p d) (sym is)

pub part_held : (s : Setting) (w : Sight) (t a b : Block) (p : Place) (d : Draft) (first : Held) (i : Inner) → t ≡ part a b →
    first ≡ in_place s p w a (held s w a) (block s w a) d → i ≡ inner_ahead s p w b first → held s i.scope b p i.draft ≡ held s w t p d
part_held s w t a b p d first i is here bound =
    ap (λ k. held s k.scope b p k.draft) (bound ∙ ap (λ h. inner_ahead s p w b h) here) ∙ ap (λ u. held s w u p d) (sym is)

-- ---- tests
pub test_block : (s : Setting) (w : Sight) (t c a b : Block) (p : Place) (d : Draft) (h : Held) → t ≡ test c a b → gives c ≡ true →
    h ≡ in_place s p w c (held s w c) (block s w c) d → tested_in s w t p h ≡ block s w t p d
test_block s w t c a b p d h is has here =
    ap (λ u. tested_in s w u p h) is ∙ ap (λ k. tested s p a b k (block s w a) (block s w b)) here ∙
    sym (if_yes (gives c) (tested s p a b (placed s p w c d) (block s w a) (block s w b)) (block s w c p d) has) ∙ ap (λ u. block s w u p d) (sym is)

pub test_held : (s : Setting) (w : Sight) (t c a b : Block) (p : Place) (d : Draft) (h : Held) → t ≡ test c a b →
    h ≡ in_place s p w c (held s w c) (block s w c) d → guarded_in s w t p h ≡ held s w t p d
test_held s w t c a b p d h is here =
    ap (λ u. guarded_in s w u p h) is ∙ ap (λ k. guarded s p a b k (held s w a) (held s w b)) here ∙ ap (λ u. held s w u p d) (sym is)

-- ---- arms
pub plain_block : (s : Setting) (w : Sight) (t : Block) (ks : List ℕ) (a b : Block) (p q : Place) (d : Draft) → t ≡ arm ks a b →
    nat_eq (length ks) 0 ≡ true → q ≡ giving s (number_of b) p → plain_arm_in s w t q d ≡ block s w t p d
plain_block s w t ks a b p q d is none_left at =
    let r = giving s (number_of b) p in
    ap (λ u. plain_arm_in s w u q d) is ∙ ap (λ x. plain_arm s x (is_none b) (has_scope s.language a) (block s w a) (told_behind s b (block s w b)) d) at ∙
    sym (if_yes (nat_eq (length ks) 0) (plain_arm s r (is_none b) (has_scope s.language a) (block s w a) (told_behind s b (block s w b)) d)
    (searched_arm s r w ks (is_none b) (λ v. block s v a) (told_behind s b (block s w b)) d) none_left) ∙ ap (λ u. block s w u p d) (sym is)

pub searched_block : (s : Setting) (w : Sight) (t : Block) (ks : List ℕ) (a b : Block) (p q : Place) (d : Draft) → t ≡ arm ks a b →
    nat_eq (length ks) 0 ≡ false → q ≡ giving s (number_of b) p → searched_arm_in s w t q d ≡ block s w t p d
searched_block s w t ks a b p q d is some at =
    let r = giving s (number_of b) p in
    ap (λ u. searched_arm_in s w u q d) is ∙ ap (λ x. searched_arm s x w ks (is_none b) (λ v. block s v a) (told_behind s b (block s w b)) d) at ∙
    sym (if_no (nat_eq (length ks) 0) (plain_arm s r (is_none b) (has_scope s.language a) (block s w a) (told_behind s b (block s w b)) d)
    (searched_arm s r w ks (is_none b) (λ v. block s v a) (told_behind s b (block s w b)) d) some) ∙ ap (λ u. block s w u p d) (sym is)

-- ---- values that are joined
-- where the second block never gives, no statement reads the values of the first
pub unread_block : (s : Setting) (w : Sight) (t a b : Block) (p : Place) (d behind : Draft) (first : Held) → t ≡ join a b → gives a ≡ true →
    gives b ≡ false → first ≡ in_place s p w a (held s w a) (block s w a) d → behind ≡ (all_in_variables s p.depth never_read first).draft →
    block s w b p behind ≡ block s w t p d
unread_block s w t a b p d behind first is has never here unread =
    let h = kept s p.depth (is_plain b) (placed s p w a d) in
    let other = block s w b p (all_in_variables s p.depth never_read (placed s p w a d)).draft in
    let both = give_back s p (joined_held h (placed s p w b h.draft)) in
    ap (λ x. block s w b p x) (unread ∙ ap (λ k. (all_in_variables s p.depth never_read k).draft) here) ∙ sym (if_no (gives b) both other never) ∙
    sym (if_yes (gives a) (if gives b then both else other) (block s w a p d) has) ∙ ap (λ u. block s w u p d) (sym is)
