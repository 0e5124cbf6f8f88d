-- What is spelled is read: whole targets; at most one is spelled; and where a fault stands.
use Rattle.std.proofs.Common.{◌≡◌, inl, inr, ℕ, ◌≤◌, List, [], ◌∷◌, Some, None, Ok, Err, refl, sym, ap, ◌∙◌}
use Rattle.std.specs.Prelude.{pos, codes}
use Rattle.cf_lex.specs.declared.token.Token.{Token}
use Rattle.cf_lex.specs.declared.token.TokenKind.TheVariants.{Literal, Word, Sign}
use Rattle.cf_tree.specs.declared.base.Base.{Base}
use Rattle.cf_tree.specs.declared.base.Base.TheVariants.{Int, Bool as Truth, Set}
use Rattle.cf_tree.specs.declared.base.Edition.{Edition}
use Rattle.cf_tree.specs.declared.base.Edition.TheVariants.{Two, Three}
use Rattle.cf_tree.specs.declared.base.Place.{Place}
use Rattle.cf_tree.specs.CodeTree.{code_depth}
use Rattle.cf_reader.specs.Tokens.{Next}
use Rattle.cf_reader.specs.Readers.{Got, is, at, must, at_end, snoc}
use Rattle.cf_reader.specs.Kinds.{SpellsBase, base_kind, a_base}
use Rattle.cf_reader.specs.Faults.{IsFaultPlace, IsFaultPlaceOf, place_with_left}
use Rattle.cf_reader.proofs.Near.{Local, pure_local, refuse_local, bind_local, first_local, must_local, several_local, at_end_local}
use Rattle.cf_reader.proofs.Yields.{all_added}
use Rattle.cf_reader.proofs.Exact.{bind_is, pure_is, must_is, first_is, first_not, at_is, at_not, next_is, several_are}
use Rattle.cf_reader.proofs.KindLaws.{base_items, results_are, results_local}
use Rattle.cf_reader.proofs.Faults.{same_value, ReadsAll, fault_law as read_fault, exact_law as read_exact}
use Rattle.cf_target.specs.Spelling.{TargetTree, SpellsBases, SpellsMain, header_number, MayLackHeader, SpellsPart, SpellsTarget, IsTarget}
use Rattle.cf_target.specs.Targets.{SomeTarget, bases_of, a_number, main_of, headless_of, part_of, target_of}
use Rattle.cf_target.proofs.LocalReading.{read_local}
use Rattle.cf_target.proofs.OnlyArms.{read_reads}

base_unclosed : (b : Base) (ts us : List Token) → SpellsBase b ts us → at (is (Sign (codes ")"))) ts ≡ None
base_unclosed Int ts us w = at_not _ (base_kind Int) ts us w.0 refl w.1
base_unclosed Truth ts us w = at_not _ (base_kind Truth) ts us w.0 refl w.1
base_unclosed Set ts us w = at_not _ (base_kind Set) ts us w.0 refl w.1

bases_are : (bs : List Base) (ts us : List Token) → SpellsBases bs ts us → bases_of ts ≡ Ok (bs, us)
unfolding bases_of
bases_are [] ts us w = first_is _ _ _ ts (at_is _ ts us w.0 refl w.1) (pure_is _ _ us refl)
bases_are (b ∷ bs) ts us (a, i, o) =
    first_not _ _ _ ts (base_unclosed b ts a i)
    (several_are snoc (must a_base) SpellsBase (Sign (codes ",")) (Sign (codes ")")) base_items (b ∷ bs) [] ts us (a, i, o) ∙
    ap (λ (z : List Base). Ok (z, us)) (all_added (b ∷ bs)))

number_is : (edition : Edition) (ts us : List Token) (w : Next (Literal (pos (header_number edition))) ts us) →
    at (a_number (header_number edition)) ts ≡ Some (w.0, us)
unfolding at
number_is Two ts us w = ap (at (a_number 2)) w.1
number_is Three ts us w = ap (at (a_number 3)) w.1

main_is : (limit : ℕ) (t : TargetTree) (ts us : List Token) → SpellsMain t ts us → code_depth t.code ≤ limit → main_of limit ts ≡ Ok (t, us)
unfolding main_of
main_is limit t ts us (b, m, (c, o, (d, bs, (e, s, (f, rs, (g, q, w)))))) l =
    bind_is _ _ ts (next_is _ ts b refl m) (bind_is _ _ b (next_is _ b c refl o) (bind_is _ _ c (bases_are t.params c d bs) (bind_is _ _ d
    (next_is _ d e refl s)
    (bind_is _ _ e (results_are t.results e f rs) (bind_is _ _ f (next_is _ f g refl q) (bind_is _ _ g (read_reads limit t.code g us l w)
    (pure_is _ _ us refl)))))))

headless_is : (edition : Edition) (limit : ℕ) (t : TargetTree) (ts us : List Token) → MayLackHeader edition → SpellsMain t ts us → code_depth t.code ≤ limit →
    headless_of edition limit ts ≡ Ok (t, us)
unfolding headless_of
headless_is Two limit t ts us may w l = main_is limit t ts us w l
headless_is Three limit t ts us may w l = absurd may

pub part_is : (edition : Edition) (limit : ℕ) (t : TargetTree) (ts us : List Token) → SpellsPart edition limit t ts us → part_of edition limit ts ≡ Ok (t, us)
unfolding part_of
part_is edition limit t ts us (l, (a, inl h, w)) =
    first_not _ _ _ ts (at_not _ (Word (codes "main")) ts w.0 w.1.0 refl (h.1 ∙ w.1.1))
    (ap (headless_of edition limit) h.1 ∙ headless_is edition limit t a us h.0 w l)
part_is edition limit t ts us (l, (a, inr (x, n, number), w)) =
    first_is _ _ _ ts (at_is _ ts x n.0 refl n.1)
    (bind_is _ _ x (must_is (a_number (header_number edition)) x a number.0 (number_is edition x a number)) (main_is limit t a us w l))

target_is : (edition : Edition) (limit : ℕ) (t : TargetTree) (ts : List Token) → SpellsTarget edition limit t ts → target_of edition limit ts ≡ Ok (t, [])
unfolding target_of at_end
target_is edition limit t ts w = bind_is _ _ ts (part_is edition limit t ts [] (w.1, w.0)) refl

pub only_law : (edition : Edition) (ts : List Token) (t : TargetTree) → IsTarget edition t ts → target_of edition 500 ts ≡ Ok (t, [])
only_law edition ts t w = target_is edition 500 t ts w

pub one_law : (edition : Edition) (ts : List Token) (t u : TargetTree) → IsTarget edition t ts → IsTarget edition u ts → t ≡ u
one_law edition ts t u v w = same_value t u [] [] (target_of edition 500 ts) (only_law edition ts t v) (only_law edition ts u w)

pub only_from : (edition : Edition) (ts items : List Token) (x t : TargetTree) (us : List Token) → ts ≡ items → target_of edition 500 ts ≡ Ok (x, us) →
    IsTarget edition t items → x ≡ t
only_from edition ts items x t us e f w =
    same_value x t us [] (target_of edition 500 ts) f (ap (target_of edition 500) e ∙ only_law edition items t w)

pub none_from : (edition : Edition) (ts items : List Token) (n : ℕ) → ts ≡ items → target_of edition 500 ts ≡ Err n → (t : TargetTree) →
    IsTarget edition t items → ⊥
none_from edition ts items n e f t w = not_both (target_of edition 500 ts) (t, []) n (ap (target_of edition 500) e ∙ only_law edition items t w) f
  where
    not_both : {A : Type 0} (r : Got A) (x : A × List Token) (n : ℕ) → r ≡ Ok x → r ≡ Err n → ⊥
    not_both r x n e f = let g : ◌≡◌ {A = Got _} (Ok x) (Err n) = sym e ∙ f in cc

-- the place of a fault

bases_local : {more other : List Token} → Local more other bases_of bases_of
unfolding bases_of
bases_local = first_local _ (λ p. pure_local _) (several_local snoc _ _ [] (must_local _))

main_local : {more other : List Token} (limit : ℕ) → Local more other (main_of limit) (main_of limit)
unfolding main_of
main_local {more} {other} limit =
    bind_local (must_local _) (λ p. bind_local (must_local _) (λ q. bind_local bases_local (λ params. bind_local (must_local _)
    (λ r. bind_local results_local (λ results. bind_local (must_local _) (λ s.
    bind_local (read_local more other limit) (λ code. pure_local _)))))))

headless_local : {more other : List Token} (edition : Edition) (limit : ℕ) → Local more other (headless_of edition limit) (headless_of edition limit)
unfolding headless_of
headless_local Two limit = main_local limit
headless_local Three limit = refuse_local

pub part_local : {more other : List Token} (edition : Edition) (limit : ℕ) → Local more other (part_of edition limit) (part_of edition limit)
unfolding part_of
part_local edition limit = first_local _ (λ p. bind_local (must_local _) (λ q. main_local limit)) (headless_local edition limit)

target_local : {more other : List Token} (edition : Edition) (limit : ℕ) → Local more other (target_of edition limit) (target_of edition limit)
unfolding target_of
target_local edition limit = bind_local (part_local edition limit) (λ t. at_end_local t refuse_local)

all_read : (edition : Edition) → ReadsAll (SomeTarget edition) (target_of edition 500)
all_read edition ts (t, w) = (t, [], only_law edition ts t w)

pub fault_law : (edition : Edition) (ts : List Token) (end : Place) (e : ℕ) → target_of edition 500 ts ≡ Err e →
    IsFaultPlace (SomeTarget edition) ts end (place_with_left ts end e)
fault_law edition ts end e p =
    read_fault (SomeTarget edition) (target_of edition 500) (λ more other. target_local edition 500) (all_read edition) ts end e p

pub exact_law : (edition : Edition) (ts : List Token) (end : Place) (e : ℕ) → target_of edition 500 ts ≡ Err e →
    IsFaultPlaceOf (target_of edition 500) ts end (place_with_left ts end e)
exact_law edition ts end e p = read_exact (target_of edition 500) ts end e p
