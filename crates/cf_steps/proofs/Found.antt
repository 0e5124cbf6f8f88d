-- What is read is spelled.
use Rattle.std.proofs.Common.{◌≡◌, inl, inr, ℕ, zero, suc, ◌≤◌, ◌<◌, ◌-◌, ◌^◌, Bool, true, false, List, [], ◌∷◌, ◌++◌, length, Some, Ok, refl}
use Rattle.std.proofs.Common.{sym, ap, subst, ◌∙◌, arith, append_assoc}
use Rattle.std.specs.Prelude.{ℤ, pos, negsuc, neg_ℤ, nat_le, codes}
use Rattle.std.specs.Str.{bytes_eq}
use Rattle.std.proofs.lemmas.Bool.{leb-true}
use Rattle.std.proofs.lemmas.List.{append-nil}
use Rattle.cf_tree.specs.declared.base.Edition.{Edition}
use Rattle.cf_tree.specs.declared.base.Edition.TheVariants.{Two, Three}
use Rattle.cf_lex.specs.declared.token.Token.{Token}
use Rattle.cf_lex.specs.declared.token.TokenKind.{TokenKind}
use Rattle.cf_lex.specs.declared.token.TokenKind.TheVariants.{Literal, Word, Sign}
use Rattle.cf_tree.specs.declared.base.Place.{Place}
use Rattle.cf_reader.specs.Tokens.{Next, Several}
use Rattle.cf_reader.specs.Readers.{at_end, others_of, snoc}
use Rattle.cf_reader.proofs.Yields.{Yields, yields, faults, Took, pure_yields, refuse_yields, widen, bind_yields, must_yields, first_yields, all_added}
use Rattle.cf_reader.proofs.Yields.{if_some, if_else_some, same_token, same_text, took_next, took_name, took_literal, others_yields, several_yields}
use Rattle.cf_reader.proofs.KindLaws.{took_truth}
use Rattle.cf_reader.proofs.Faults.{found_on}
use Rattle.cf_target.specs.Levels.{last_level}
use Rattle.cf_target.proofs.Targets.{part_yields}
use Rattle.cf_elim.specs.declared.act.Act.{Act}
use Rattle.cf_elim.specs.declared.act.Act.TheVariants.{Clean, Mix, Last, Search, Drop}
use Rattle.cf_steps.specs.declared.block.NamedTruth.{NamedTruth}
use Rattle.cf_steps.specs.Blocks.{BlockTree}
use Rattle.cf_steps.specs.Spelling.{SpellsColumn, SpellsFactor, side_kind, SpellsAct, SpellsActs, SpellsCase, SpellsCases, SpellsTruth, SpellsHead, SpellsBlock}
use Rattle.cf_steps.specs.Spelling.{SpellsBlocks, AreBlocks}
use Rattle.cf_steps.specs.Reading.{column_of, a_column, a_side, factor_of, mix_of, search_of, act_of, ended_act, acts_of, all_acts, case_of}
use Rattle.cf_steps.specs.Reading.{truth_of, truths_of, no_truths, head_of, block_of, blocks_of, all_blocks}

-- ---- tokens
column_on : (k : ℤ) (n : ℕ) → column_of k ≡ Some n → (k ≡ pos n) × (n < 2 ^ 32)
unfolding last_level
column_on (pos m) n e =
    let h = if_some (nat_le m (2 ^ 32 - 1)) m n e in
    let high : m ≤ 2 ^ 32 - 1 = leb-true m (2 ^ 32 - 1) h.0 in
    (ap pos h.1, omega (arith, high, h.1))
column_on (negsuc m) n e = cc

column_kind : (q : Place) (k : TokenKind) (n : ℕ) → a_column (record { place = q; kind = k }) ≡ Some n → (k ≡ Literal (pos n)) × (n < 2 ^ 32)
column_kind q (Literal k) n e = let h = column_on k n e in (ap Literal h.0, h.1)
column_kind q (Word x) n e = cc
column_kind q (Sign x) n e = cc

took_column : (ts us : List Token) (n : ℕ) → Took a_column ts n us → SpellsColumn n ts us
took_column ts us n (t, e, f) = let h = column_kind t.place t.kind n f in (h.1, (t.place, same_token t t.place (Literal (pos n)) ts us e refl h.0))

side_on : (q : Place) (k : TokenKind) (b : Bool) → a_side (record { place = q; kind = k }) ≡ Some b → k ≡ side_kind b
side_on q (Word x) b e = elim (if_else_some (bytes_eq x (codes "lower")) true b _ e) [
  | inl h ↦ ap Word (same_text x _ h.0) ∙ ap side_kind h.1
  | inr h ↦ let j = if_some (bytes_eq x (codes "upper")) false b h.1 in ap Word (same_text x _ j.0) ∙ ap side_kind j.1
]
side_on q (Sign x) b e = cc
side_on q (Literal n) b e = cc

took_side : (ts us : List Token) (b : Bool) → Took a_side ts b us → Next (side_kind b) ts us
took_side ts us b (t, e, f) = (t.place, same_token t t.place (side_kind b) ts us e refl (side_on t.place t.kind b f))

-- ---- steps
factor_yields : (ts : List Token) → Yields (λ k us. SpellsFactor k ts us) (factor_of ts)
unfolding factor_of
factor_yields ts =
    first_yields _ _ _ ts (λ k a t. pure_yields k.1 a (inl (k.0, took_literal (pos 0) ts a k t)))
    (bind_yields _ _ ts (must_yields _ ts) (λ p a m. bind_yields _ _ a (must_yields _ a) (λ k b t.
    pure_yields (neg_ℤ k.1) b (inr (k.1, (a, took_next _ ts a p m, (k.0, took_literal (pos 0) a b k t)), refl)))))

mix_yields : (start ts : List Token) → Next (Word (codes "mix")) start ts → Yields (λ act us. SpellsAct act start us) (mix_of ts)
unfolding mix_of
mix_yields start ts w =
    bind_yields _ _ ts (must_yields _ ts) (λ x a p. bind_yields _ _ a (must_yields _ a) (λ y b q.
    bind_yields _ _ b (factor_yields b) (λ k c r. bind_yields _ _ c (factor_yields c) (λ l d s.
    bind_yields _ _ d (factor_yields d) (λ m e t. bind_yields _ _ e (factor_yields e) (λ n f u.
    pure_yields (Mix x y k l m n) f (ts, w, (a, took_column ts a x p, (b, took_column a b y q, (c, r, (d, s, (e, t, u))))))))))))

search_yields : (start ts : List Token) → Next (Word (codes "search")) start ts → Yields (λ act us. SpellsAct act start us) (search_of ts)
unfolding search_of
search_yields start ts w =
    bind_yields _ _ ts (must_yields _ ts) (λ x a p. bind_yields _ _ a (must_yields _ a) (λ lower b q.
    pure_yields (Search x lower) b (ts, w, (a, took_column ts a x p, took_side a b lower q))))

act_yields : (ts : List Token) → Yields (λ act us. SpellsAct act ts us) (act_of ts)
unfolding act_of
act_yields ts =
    first_yields _ _ _ ts (λ p a m. pure_yields Clean a (took_next _ ts a p m)) (
    first_yields _ _ _ ts (λ p a m. mix_yields ts a (took_next _ ts a p m)) (
    first_yields _ _ _ ts (λ p a m. bind_yields _ _ a (must_yields _ a) (λ e b q. pure_yields (Last e) b (a, took_next _ ts a p m, took_column a b e q))) (
    first_yields _ _ _ ts (λ p a m. search_yields ts a (took_next _ ts a p m)) (
    first_yields _ _ _ ts (λ p a m. bind_yields _ _ a (must_yields _ a) (λ x b q. pure_yields (Drop x) b (a, took_next _ ts a p m, took_column a b x q))) (
    refuse_yields ts)))))

-- the step stands before its semicolon
abbrev Ended : List Token → Act → List Token → Type 0
Ended ts act us = (mid : List Token) × SpellsAct act ts mid × Next (Sign (codes ";")) mid us

ended_yields : (ts : List Token) → Yields (Ended ts) (ended_act ts)
unfolding ended_act
ended_yields ts = bind_yields _ _ ts (act_yields ts) (λ act a s. bind_yields _ _ a (must_yields _ a) (λ p b m. pure_yields act b (a, s, took_next _ a b p m)))

-- the steps that were read before, and those that the tokens spell
MoreActs : List Act → List Token → List Act → List Token → Type 0
MoreActs done ts all us = (new : List Act) × (all ≡ done ++ new) × SpellsActs new ts us

one_act : (done : List Act) (act : Act) (ts a b : List Token) (all : List Act) (us : List Token) → SpellsAct act ts a → Next (Sign (codes ";")) a b →
    MoreActs (snoc done act) b all us → MoreActs done ts all us
unfolding MoreActs
one_act done act ts a b all us s n (new, e, w) = (act ∷ new, e ∙ append_assoc done (act ∷ []) new, (a, s, (b, n, w)))

no_acts : (done : List Act) (ts a : List Token) → Next (Sign (codes "}")) ts a → MoreActs done ts done a
unfolding MoreActs
no_acts done ts a w = ([], sym (append-nil done), w)

acts_yields : (fuel : ℕ) (done : List Act) (ts : List Token) → Yields (MoreActs done ts) (acts_of fuel done ts)
unfolding acts_of
acts_yields zero done ts = faults 0
acts_yields (suc fuel) done ts =
    first_yields _ _ _ ts (λ p a m. pure_yields done a (no_acts done ts a (took_next _ ts a p m)))
    (bind_yields _ _ ts (ended_yields ts) (λ act b w. widen (λ all us more. one_act done act ts w.0 b all us w.1 w.2 more) (acts_yields fuel
    (snoc done act) b)))

all_acts_yields : (ts : List Token) → Yields (λ acts us. SpellsActs acts ts us) (all_acts ts)
unfolding all_acts MoreActs
all_acts_yields ts = widen (λ acts us w. subst (λ z. SpellsActs z ts us) (sym w.1) w.2) (acts_yields (length ts) [] ts)

case_yields : (ts : List Token) → Yields (λ acts us. SpellsCase acts ts us) (case_of ts)
unfolding case_of
case_yields ts = bind_yields _ _ ts (must_yields _ ts) (λ p a m. widen (λ acts us w. (a, took_next _ ts a p m, w)) (all_acts_yields a))

cases_yields : (ts : List Token) → Yields (λ cases us. SpellsCases cases ts us) (others_of snoc case_of (Word (codes "case")) (Sign (codes "}")) [] ts)
cases_yields ts =
    widen (λ cases us w. subst (λ z. SpellsCases z ts us) (sym (w.1 ∙ all_added w.0)) w.2)
    (others_yields snoc case_of SpellsCase (Word (codes "case")) (Sign (codes "}")) case_yields [] ts)

-- ---- heads
truth_yields : (ts : List Token) → Yields (λ t us. SpellsTruth t ts us) (truth_of ts)
unfolding truth_of
truth_yields ts =
    bind_yields _ _ ts (must_yields _ ts) (λ x a m. bind_yields _ _ a (must_yields _ a) (λ p b n. bind_yields _ _ b (must_yields _ b) (λ v c o.
    pure_yields _ c (a, (x.0, took_name Three ts a x m), (b, took_next _ a b p n, (v.0, took_truth b c v o))))))

some_truths : (truths : List NamedTruth) (ts a b us : List Token) → Next (Sign (codes "(")) ts a →
    Several SpellsTruth (Sign (codes ",")) (Sign (codes ")")) truths a b → Next (Sign (codes "{")) b us → SpellsHead Three truths ts us
some_truths [] ts a b us o s c = absurd s
some_truths (t ∷ truths) ts a b us o s c = (tt, (a, o, (b, s, c)))

truths_yield : (ts a : List Token) → Next (Sign (codes "(")) ts a → Yields (λ truths us. SpellsHead Three truths ts us) (truths_of a)
unfolding truths_of
truths_yield ts a o =
    bind_yields _ _ a (several_yields snoc truth_of SpellsTruth (Sign (codes ",")) (Sign (codes ")")) truth_yields [] a) (λ truths b s.
    bind_yields _ _ b (must_yields _ b) (λ p us m. pure_yields truths us
    (some_truths truths ts a b us o (subst (λ z. Several SpellsTruth (Sign (codes ",")) (Sign (codes ")")) z a b) (sym (s.1 ∙ all_added s.0)) s.2)
    (took_next _ b us p m))))

no_truths_yield : (edition : Edition) (ts : List Token) → Yields (λ truths us. SpellsHead edition truths ts us) (no_truths ts)
unfolding no_truths
no_truths_yield edition ts = bind_yields _ _ ts (must_yields _ ts) (λ p us m. pure_yields [] us (took_next _ ts us p m))

head_yields : (edition : Edition) (ts : List Token) → Yields (λ truths us. SpellsHead edition truths ts us) (head_of edition ts)
unfolding head_of
head_yields Two ts = no_truths_yield Two ts
head_yields Three ts = first_yields _ _ _ ts (λ p a m. truths_yield ts a (took_next _ ts a p m)) (no_truths_yield Three ts)

-- ---- blocks
block_yields : (edition : Edition) (limit : ℕ) (ts : List Token) → Yields (λ b us. SpellsBlock edition limit b ts us) (block_of edition limit ts)
unfolding block_of
block_yields edition limit ts =
    bind_yields _ _ ts (must_yields _ ts) (λ p0 z w. bind_yields _ _ z (must_yields _ z) (λ n a p. bind_yields _ _ a (head_yields edition a)
    (λ truths b o. bind_yields _ _ b (cases_yields b) (λ cases c s.
    bind_yields _ _ c (part_yields Two limit c) (λ t us r.
    pure_yields _ us (z, took_next _ ts z p0 w, (a, took_column z a n p, (b, o, (c, s, r)))))))))

MoreBlocks : Edition → ℕ → List BlockTree → List Token → List BlockTree → List Token → Type 0
MoreBlocks edition limit done ts all us = (new : List BlockTree) × (all ≡ done ++ new) × SpellsBlocks edition limit new ts

one_block : (edition : Edition) (limit : ℕ) (done : List BlockTree) (b : BlockTree) (ts a : List Token) (all : List BlockTree) (us : List Token) → SpellsBlock edition limit b ts a →
    MoreBlocks edition limit (snoc done b) a all us → MoreBlocks edition limit done ts all us
unfolding MoreBlocks
one_block edition limit done b ts a all us s (new, e, w) = (b ∷ new, e ∙ append_assoc done (b ∷ []) new, (a, s, w))

no_blocks : (edition : Edition) (limit : ℕ) (done : List BlockTree) (us : List Token) → MoreBlocks edition limit done [] done us
unfolding MoreBlocks
no_blocks edition limit done us = ([], sym (append-nil done), refl)

blocks_yields : (edition : Edition) (limit fuel : ℕ) (done : List BlockTree) (ts : List Token) → Yields (MoreBlocks edition limit done ts) (blocks_of edition limit fuel done ts)
unfolding blocks_of at_end
blocks_yields edition limit zero done [] = yields done [] (no_blocks edition limit done [])
blocks_yields edition limit zero done (t ∷ ts) = faults 0
blocks_yields edition limit (suc fuel) done [] = yields done [] (no_blocks edition limit done [])
blocks_yields edition limit (suc fuel) done (t ∷ ts) =
    bind_yields _ _ (t ∷ ts) (block_yields edition limit (t ∷ ts)) (λ b c s. widen (λ all us w. one_block edition limit done b (t ∷ ts) c all us s w)
    (blocks_yields edition limit fuel (snoc done b) c))

all_blocks_yields : (edition : Edition) (limit : ℕ) (ts : List Token) → Yields (λ bs us. SpellsBlocks edition limit bs ts) (all_blocks edition limit ts)
unfolding all_blocks MoreBlocks
all_blocks_yields edition limit ts = widen (λ bs us w. subst (λ z. SpellsBlocks edition limit z ts) (sym w.1) w.2) (blocks_yields edition limit (length ts) [] ts)

pub found_law : (edition : Edition) (ts : List Token) (bs : List BlockTree) (us : List Token) → all_blocks edition 500 ts ≡ Ok (bs, us) → AreBlocks edition bs ts
found_law edition ts bs us e = found_on (λ bs. AreBlocks edition bs ts) (all_blocks edition 500 ts) bs us (all_blocks_yields edition 500 ts) e

pub found_from : (edition : Edition) (ts items : List Token) (bs : List BlockTree) (us : List Token) → ts ≡ items → all_blocks edition 500 ts ≡ Ok (bs, us) → AreBlocks edition bs items
found_from edition ts items bs us same e = subst (AreBlocks edition bs) same (found_law edition ts bs us e)
