-- The answers of the reader of targets are those of the grammar.
use Rattle.std.proofs.Common.{◌≡◌, inl, inr, ℕ, ◌≤◌, Bool, true, false, List, [], ◌∷◌, Some, None, Ok, refl, sym, ap, subst, ◌∙◌, cond, arith}
use Rattle.std.specs.Prelude.{ℤ, pos, negsuc, nat_le, ◌≤ℤ◌, int_le, codes}
use Rattle.std.proofs.lemmas.Bool.{leb-true}
use Rattle.cf_lex.specs.declared.token.Token.{Token}
use Rattle.cf_lex.specs.declared.token.TokenKind.{TokenKind}
use Rattle.cf_lex.specs.declared.token.TokenKind.TheVariants.{Literal, Word, Sign}
use Rattle.cf_tree.specs.declared.base.Base.{Base}
use Rattle.cf_tree.specs.declared.base.Edition.{Edition}
use Rattle.cf_tree.specs.declared.base.Edition.TheVariants.{Two, Three}
use Rattle.cf_tree.specs.declared.base.Place.{Place}
use Rattle.cf_reader.specs.Tokens.{Next, Several}
use Rattle.cf_reader.specs.Readers.{must, at_end, refuse, snoc}
use Rattle.cf_reader.specs.Kinds.{SpellsBase, a_base}
use Rattle.cf_reader.proofs.Yields.{Yields, yields, Took, pure_yields, refuse_yields, widen, bind_yields, must_yields, first_yields, all_added, same_token, in_order, took_next, several_yields}
use Rattle.cf_reader.proofs.Exact.{from_T}
use Rattle.cf_reader.proofs.KindLaws.{took_base, results_yields}
use Rattle.cf_reader.proofs.Faults.{found_on}
use Rattle.cf_target.specs.Spelling.{TargetTree, SpellsBases, header_number, SpellsHeader, SpellsPart, SpellsTarget, IsTarget}
use Rattle.cf_target.specs.Targets.{bases_of, a_number, main_of, headless_of, part_of, target_of}
use Rattle.cf_target.proofs.FoundCodes.{Finds, read_found}

-- what is read is spelled

some_bases : (ts us : List Token) (bs new : List Base) → bs ≡ new → Several SpellsBase (Sign (codes ",")) (Sign (codes ")")) new ts us → SpellsBases bs ts us
some_bases ts us bs [] e w = absurd w
some_bases ts us bs (b ∷ new) e w = subst (λ z. SpellsBases z ts us) (sym e) w

bases_yields : (ts : List Token) → Yields (λ bs us. SpellsBases bs ts us) (bases_of ts)
unfolding bases_of
bases_yields ts =
    first_yields _ _ _ ts (λ p a c. pure_yields [] a (took_next _ ts a p c))
    (widen (λ bs us w. some_bases ts us bs w.0 (w.1 ∙ all_added w.0) w.2)
    (several_yields snoc (must a_base) SpellsBase (Sign (codes ",")) (Sign (codes ")")) (λ ts. widen (λ b us w. took_base ts us b w) (must_yields a_base ts)) []
    ts))

just : (k : ℕ) (n : ℤ) → pos k ≤ℤ n → n ≤ℤ pos k → n ≡ pos k
just k (pos m) l h =
    let low : k ≤ m = leb-true k m (from_T (nat_le k m) l.le) in
    let high : m ≤ k = leb-true m k (from_T (nat_le m k) h.le) in
    let e : m ≡ k = omega (arith, low, high) in ap pos e
just k (negsuc m) l h = absurd l.le

number_on : (k : ℕ) (q : Place) (l : TokenKind) (p : Place) → a_number k (record { place = q; kind = l }) ≡ Some p → l ≡ Literal (pos k)
number_on k q (Literal n) p e =
    between (int_le (pos k) n) (int_le n (pos k)) (λ f g. ap Literal (just k n (in_order (pos k) n f) (in_order n (pos k) g))) e
  where
    between : {A : Type 0} (b c : Bool) → (b ≡ true → c ≡ true → A) → cond b (cond c (Some q) None) None ≡ Some p → A
    between true true f e = f refl refl
    between true false f e = cc
    between false c f e = cc
number_on k q (Word x) p e = cc
number_on k q (Sign x) p e = cc

took_number : (k : ℕ) (ts us : List Token) (p : Place) → Took (a_number k) ts p us → Next (Literal (pos k)) ts us
took_number k ts us p (t, e, f) = (t.place, same_token t t.place (Literal (pos k)) ts us e refl (number_on k t.place t.kind p f))

end_yields : {P : TargetTree → List Token → Type 0} (x : TargetTree) (ts : List Token) → (ts ≡ [] → P x []) → Yields P (at_end x refuse ts)
unfolding at_end
end_yields x [] h = yields x [] (h refl)
end_yields x (t ∷ ts) h = refuse_yields (t ∷ ts)

main_yields : (edition : Edition) (limit : ℕ) (start ts : List Token) → SpellsHeader edition start ts →
    Yields (λ t us. SpellsPart edition limit t start us) (main_of limit ts)
unfolding main_of Finds
main_yields edition limit start ts w =
    bind_yields _ _ ts (must_yields _ ts) (λ p b m. bind_yields _ _ b (must_yields _ b) (λ q c o. bind_yields _ _ c (bases_yields c)
    (λ params d l. bind_yields _ _ d (must_yields _ d) (λ r e n.
    bind_yields _ _ e (results_yields e) (λ results f k. bind_yields _ _ f (must_yields _ f) (λ s g i. bind_yields _ _ g (read_found limit g) (λ code us found.
    pure_yields _ us (
      found.deep,
      (
        ts,
        w,
        (
          b,
          took_next _ ts b p m,
          (c, took_next _ b c q o, (d, l, (e, took_next _ d e r n, (f, k, (g, took_next _ f g s i, found.spelled))))),
        ),
      ),
    ))))))))

headless_yields : (edition : Edition) (limit : ℕ) (ts : List Token) → Yields (λ t us. SpellsPart edition limit t ts us) (headless_of edition limit ts)
unfolding headless_of
headless_yields Two limit ts = main_yields Two limit ts ts (inl (tt, refl))
headless_yields Three limit ts = refuse_yields ts

pub part_yields : (edition : Edition) (limit : ℕ) (ts : List Token) → Yields (λ t us. SpellsPart edition limit t ts us) (part_of edition limit ts)
unfolding part_of
part_yields edition limit ts =
    first_yields _ _ _ ts (λ p a c. bind_yields _ _ a (must_yields _ a) (λ q us t. main_yields edition limit ts us (inr
    (a, took_next _ ts a p c, took_number (header_number edition) a us q t)))) (headless_yields edition limit ts)

whole_part : (edition : Edition) (limit : ℕ) (t : TargetTree) (ts us : List Token) → SpellsPart edition limit t ts us → us ≡ [] →
    SpellsTarget edition limit t ts
whole_part edition limit t ts us w e = let v = subst (λ z. SpellsPart edition limit t ts z) e w in (v.1, v.0)

target_yields : (edition : Edition) (limit : ℕ) (ts : List Token) → Yields (λ t us. SpellsTarget edition limit t ts) (target_of edition limit ts)
unfolding target_of
target_yields edition limit ts = bind_yields _ _ ts (part_yields edition limit ts) (λ t us w. end_yields t us (whole_part edition limit t ts us w))

pub found_law : (edition : Edition) (ts : List Token) (t : TargetTree) (us : List Token) → target_of edition 500 ts ≡ Ok (t, us) → IsTarget edition t ts
found_law edition ts t us e = found_on (λ t. IsTarget edition t ts) (target_of edition 500 ts) t us (target_yields edition 500 ts) e

pub found_from : (edition : Edition) (ts items : List Token) (t : TargetTree) (us : List Token) → ts ≡ items → target_of edition 500 ts ≡ Ok (t, us) →
    IsTarget edition t items
found_from edition ts items t us same e = subst (IsTarget edition t) same (found_law edition ts t us e)
