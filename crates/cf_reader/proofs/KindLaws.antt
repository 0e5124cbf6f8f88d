-- Reading bases and truth values.
use Rattle.std.proofs.Common.{◌≡◌, inl, inr, ℕ, Bool, true, false, List, [], Some, None, Ok, refl, sym, ap, subst, ◌∙◌, cond}
use Rattle.std.specs.Prelude.{pos, codes}
use Rattle.std.specs.Str.{bytes_eq}
use Rattle.cf_lex.specs.Words.{is_reserved}
use Rattle.cf_tree.specs.declared.base.Edition.{Edition}
use Rattle.cf_tree.specs.declared.base.Edition.TheVariants.{Two, Three}
use Rattle.cf_lex.specs.declared.token.Token.{Token}
use Rattle.cf_lex.specs.declared.token.TokenKind.{TokenKind}
use Rattle.cf_lex.specs.declared.token.TokenKind.TheVariants.{Literal, Word, Sign}
use Rattle.cf_tree.specs.declared.base.Place.{Place}
use Rattle.cf_tree.specs.declared.base.Base.{Base}
use Rattle.cf_tree.specs.declared.base.Base.TheVariants.{Int, Bool as BoolBase, Set}
use Rattle.cf_reader.specs.Tokens.{First, Next, OneOrTuple}
use Rattle.cf_reader.specs.Readers.{same_kind, before, is, a_literal, at, must, snoc}
use Rattle.cf_reader.specs.Kinds.{base_kind, truth_kind, SpellsBase, a_base, a_truth, results_of}
use Rattle.cf_reader.proofs.Near.{Local, must_local, one_or_tuple_local}
use Rattle.cf_reader.proofs.Yields.{Yields, Took, widen, must_yields, all_added, if_some, if_else_some, same_token, same_text, one_or_tuple_yields}
use Rattle.cf_reader.proofs.Exact.{must_is, at_not, name_differs, Items, must_within, one_or_tuple_is}

pub results_local : {more other : List Token} → Local more other results_of results_of
unfolding results_of
results_local = one_or_tuple_local snoc _ (must_local _)

pub base_on : (q : Place) (k : TokenKind) (b : Base) → a_base (record { place = q; kind = k }) ≡ Some b → k ≡ base_kind b
base_on q (Word x) b e = elim (if_else_some (bytes_eq x (codes "int")) _ b _ e) [
  | inl h ↦ ap Word (same_text x _ h.0) ∙ ap base_kind h.1
  | inr h ↦ elim (if_else_some (bytes_eq x (codes "bool")) _ b _ h.1) [
    | inl i ↦ ap Word (same_text x _ i.0) ∙ ap base_kind i.1
    | inr i ↦ let j = if_some (bytes_eq x (codes "set")) _ b i.1 in ap Word (same_text x _ j.0) ∙ ap base_kind j.1
  ]
]
base_on q (Sign x) b e = cc
base_on q (Literal n) b e = cc

pub took_base : (ts us : List Token) (b : Base) → Took a_base ts b us → SpellsBase b ts us
took_base ts us b (t, e, f) = (t.place, same_token t t.place (base_kind b) ts us e refl (base_on t.place t.kind b f))

pub results_yields : (ts : List Token) → Yields (λ y us. OneOrTuple SpellsBase y ts us) (results_of ts)
unfolding results_of
results_yields ts =
    widen (λ y us w. subst (λ z. OneOrTuple SpellsBase z ts us) (sym (w.1 ∙ all_added w.0)) w.2)
    (one_or_tuple_yields snoc (must a_base) SpellsBase [] (λ ts. widen (λ b us w. took_base ts us b w) (must_yields a_base ts)) ts)

pub base_is : (b : Base) (ts us : List Token) → Next (base_kind b) ts us → at a_base ts ≡ Some (b, us)
unfolding at
base_is Int ts us n = ap (at a_base) n.1
base_is BoolBase ts us n = ap (at a_base) n.1
base_is Set ts us n = ap (at a_base) n.1

pub base_reads : (b : Base) (ts us : List Token) → SpellsBase b ts us → must a_base ts ≡ Ok (b, us)
base_reads b ts us w = must_is a_base ts us b (base_is b ts us w)

pub base_items : Items (must a_base) SpellsBase (Sign (codes ",")) (Sign (codes ")"))
base_items = record { reads = λ x ts us w e. base_reads x ts us w; within = must_within a_base; separates = refl; closes = refl; differs = refl }

pub base_unopened : (b : Base) (ts us : List Token) → SpellsBase b ts us → at (is (Sign (codes "("))) ts ≡ None
base_unopened Int ts us w = at_not (Sign (codes "(")) (base_kind Int) ts us w.0 refl w.1
base_unopened BoolBase ts us w = at_not (Sign (codes "(")) (base_kind BoolBase) ts us w.0 refl w.1
base_unopened Set ts us w = at_not (Sign (codes "(")) (base_kind Set) ts us w.0 refl w.1

pub results_are : (bs : List Base) (ts rest : List Token) → OneOrTuple SpellsBase bs ts rest → results_of ts ≡ Ok (bs, rest)
unfolding results_of
results_are bs ts rest w = one_or_tuple_is snoc (must a_base) SpellsBase [] base_items base_reads base_unopened bs ts rest w ∙
    ap (λ (z : List Base). Ok (z, rest)) (all_added bs)

pub truth_on : (q : Place) (k : TokenKind) (x : Place × Bool) → a_truth (record { place = q; kind = k }) ≡ Some x → (q ≡ x.0) × (k ≡ truth_kind x.1)
truth_on q (Word y) x e = elim (if_else_some (bytes_eq y (codes "true")) _ x _ e) [
  | inl h ↦ (ap (λ z. z.0) h.1, ap Word (same_text y _ h.0) ∙ ap (λ z. truth_kind z.1) h.1)
  | inr h ↦ let j = if_some (bytes_eq y (codes "false")) _ x h.1 in (ap (λ z. z.0) j.1, ap Word (same_text y _ j.0) ∙ ap (λ z. truth_kind z.1) j.1)
]
truth_on q (Sign y) x e = cc
truth_on q (Literal n) x e = cc

pub took_truth : (ts us : List Token) (x : Place × Bool) → Took a_truth ts x us → First x.0 (truth_kind x.1) ts us
took_truth ts us x (t, e, f) = let h = truth_on t.place t.kind x f in same_token t x.0 (truth_kind x.1) ts us e h.0 h.1

pub no_literal : (p : Place) (x : List ℕ) (ts us : List Token) → First p (Word x) ts us → at (a_literal (pos 0)) ts ≡ None
unfolding at
no_literal p x ts us w = ap (at (a_literal (pos 0))) w

pub sign_literal : (x : List ℕ) (p : Place) (ts us : List Token) → First p (Sign x) ts us → at (a_literal (pos 0)) ts ≡ None
unfolding at
sign_literal x p ts us w = ap (at (a_literal (pos 0))) w

pub truth_is : (b : Bool) (p : Place) (ts us : List Token) → First p (truth_kind b) ts us → at a_truth ts ≡ Some ((p, b), us)
unfolding at
truth_is true p ts us w = ap (at a_truth) w
truth_is false p ts us w = ap (at a_truth) w

pub truth_not : (b : Bool) (k : TokenKind) → same_kind (Word (codes "true")) k ≡ false → same_kind (Word (codes "false")) k ≡ false →
    (p : Place) (ts us : List Token) → First p (truth_kind b) ts us → at (is k) ts ≡ None
truth_not true k e f p ts us w = at_not k (truth_kind true) ts us p e w
truth_not false k e f p ts us w = at_not k (truth_kind false) ts us p f w

pub truth_sign : (b : Bool) (x : List ℕ) → same_kind (truth_kind b) (Sign x) ≡ false
truth_sign true x = refl
truth_sign false x = refl

pub truth_literal : (b : Bool) (p : Place) (ts us : List Token) → First p (truth_kind b) ts us → at (a_literal (pos 0)) ts ≡ None
truth_literal true p ts us w = no_literal p (codes "true") ts us w
truth_literal false p ts us w = no_literal p (codes "false") ts us w

pub names_true : (edition : Edition) (x : List ℕ) → is_reserved edition x ≡ false → (p : Place) (ts us : List Token) → First p (Word x) ts us →
    at a_truth ts ≡ None
unfolding at
names_true Two x r p ts us w =
    ap (at a_truth) w ∙ ap (λ b. before us (cond b (Some (p, true)) (cond (bytes_eq x (codes "false")) (Some (p, false)) None)))
    (name_differs Two x (codes "true") r refl)
    ∙ ap (λ b. before us (cond b (Some (p, false)) None)) (name_differs Two x (codes "false") r refl)
names_true Three x r p ts us w =
    ap (at a_truth) w ∙ ap (λ b. before us (cond b (Some (p, true)) (cond (bytes_eq x (codes "false")) (Some (p, false)) None)))
    (name_differs Three x (codes "true") r refl)
    ∙ ap (λ b. before us (cond b (Some (p, false)) None)) (name_differs Three x (codes "false") r refl)

pub no_truth : (x : List ℕ) (p : Place) (ts a : List Token) → a_truth (record { place = p; kind = Word x }) ≡ None → First p (Word x) ts a →
    at a_truth ts ≡ None
unfolding at
no_truth x p ts a e w = ap (at a_truth) w ∙ ap (λ o. before a o) e
