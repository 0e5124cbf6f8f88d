-- Reading steps and blocks, one at a time.
use Rattle.std.proofs.Common.{◌≡◌, ◌==◌, Bool, true, false, ℕ, suc, zero, ◌<◌, List, [], ◌∷◌, ◌++◌, map, length, Some, None, Ok, Err, refl, sym, ap, ◌∙◌, arith}
use Rattle.std.specs.Prelude.{codes}
use borrow.Author.Tests.{eqb-true}
use Rattle.cf_tree.specs.declared.base.Edition.{Edition}
use Rattle.cf_lex.specs.declared.token.Token.{Token}
use Rattle.cf_lex.specs.declared.token.TokenKind.{TokenKind}
use Rattle.cf_lex.specs.declared.token.TokenKind.TheVariants.{Sign}
use Rattle.cf_tree.specs.declared.base.Place.{Place}
use Rattle.cf_reader.specs.declared.read_stop.ReadStop.{ReadStop}
use Rattle.cf_reader.specs.declared.read_stop.ReadStop.TheVariants as stops
use Rattle.cf_reader.specs.Answers.{StopAnswer}
use Rattle.cf_reader.specs.Readers.{Got, Reader, is, at, bind, pure, first, must, more_of, at_end, snoc}
use Rattle.cf_reader.proofs.Steps.{more_unclosed}
use Rattle.cf_elim.specs.declared.act.Act.{Act}
use Rattle.cf_steps.specs.declared.block.Block.{Block}
use Rattle.cf_steps.specs.Blocks.{BlockTree, block_tree}
use Rattle.cf_steps.specs.Reading.{ended_act, acts_of, block_of, blocks_of}

-- ---- steps
pub acts_end : (k : ℕ) (done : List Act) (ts : List Token) → k ≡ 0 → acts_of k done ts ≡ Err 0
unfolding acts_of
acts_end k done ts h = rw h refl

pub acts_close : (k : ℕ) (done : List Act) (ts : List Token) (p : Place) (us : List Token) → at (is (Sign (codes "}"))) ts ≡ Some (p, us) → 0 < k →
    acts_of k done ts ≡ Ok (done, us)
unfolding acts_of first pure
acts_close zero done ts p us h l = absurd (omega arith)
acts_close (suc k) done ts p us h l = rw (acts_of, first, h, pure) refl

acts_go : (k j : ℕ) (done : List Act) (ts : List Token) (act : Act) (us : List Token) → at (is (Sign (codes "}"))) ts ≡ None →
    ended_act ts ≡ Ok (act, us) → k ≡ suc j → acts_of k done ts ≡ acts_of j (snoc done act) us
unfolding acts_of first bind
acts_go k j done ts act us h g e = rw (e, acts_of, first, h, bind, g) refl

acts_err : (k : ℕ) (done : List Act) (ts : List Token) (e : ℕ) → at (is (Sign (codes "}"))) ts ≡ None → ended_act ts ≡ Err e → 0 < k →
    acts_of k done ts ≡ Err e
unfolding acts_of first bind
acts_err zero done ts e h g l = absurd (omega arith)
acts_err (suc k) done ts e h g l = rw (acts_of, first, h, bind, g) refl

pub acts_fail : (k : ℕ) (done : List Act) (ts : List Token) (e : ReadStop) → at (is (Sign (codes "}"))) ts ≡ None → StopAnswer e (ended_act ts) → 0 < k →
    StopAnswer e (acts_of k done ts)
acts_fail k done ts stops.NoMemory h g l = tt
acts_fail k done ts (stops.TokensLeft n) h g l = acts_err k done ts n h g l

-- the next turn of the loop
pub acts_next : (k j : ℕ) (done done' : List Act) (ts : List Token) (act : Act) (us : List Token) (whole : Got (List Act)) →
    at (is (Sign (codes "}"))) ts ≡ None → ended_act ts ≡ Ok (act, us) → k ≡ suc j → done' ≡ snoc done act → acts_of k done ts ≡ whole →
    acts_of j done' us ≡ whole
acts_next k j done done' ts act us whole h g e d w = ap (λ z. acts_of j z us) d ∙ sym (acts_go k j done ts act us h g e) ∙ w

-- ---- cases
-- a list that is not closed
pub unclosed_fails : {A B : Type 0} (add : B → A → B) (item : Reader A) (separator close : TokenKind) (k : ℕ) (done : B) (ts : List Token) (e : ReadStop) →
    at (is separator) ts ≡ None → StopAnswer e (must (is close) ts) → 0 < k → StopAnswer e (more_of add item separator close k done ts)
unclosed_fails add item separator close k done ts stops.NoMemory h g l = tt
unclosed_fails add item separator close k done ts (stops.TokensLeft n) h g l = more_unclosed add item separator close k done ts n h g l

-- what stops though it was to read something wants memory
pub only_memory : {Y Z : Type 0} (e : ReadStop) (y : Y) (read : Got Z) → StopAnswer {Y = Y} e (Ok y) → StopAnswer e read
only_memory stops.NoMemory y read h = tt
only_memory (stops.TokensLeft n) y read h = cc h

-- ---- blocks
pub blocks_end : (edition : Edition) (limit k : ℕ) (done : List BlockTree) (ts : List Token) → length ts ≡ 0 → blocks_of edition limit k done ts ≡ Ok (done, ts)
unfolding blocks_of at_end
blocks_end edition limit zero done [] h = refl
blocks_end edition limit (suc k) done [] h = refl
blocks_end edition limit k done (t ∷ ts) h = absurd (omega (arith, h))

pub blocks_stop : (edition : Edition) (limit k : ℕ) (done : List BlockTree) (ts : List Token) → k ≡ 0 → 0 < length ts → blocks_of edition limit k done ts ≡ Err 0
unfolding blocks_of at_end
blocks_stop edition limit zero done [] e h = absurd (omega (arith, h))
blocks_stop edition limit zero done (t ∷ ts) e h = refl
blocks_stop edition limit (suc k) done ts e h = absurd (omega (arith, e))

blocks_go : (edition : Edition) (limit k j : ℕ) (done : List BlockTree) (ts : List Token) (b : BlockTree) (us : List Token) → block_of edition limit ts ≡ Ok (b, us) → k ≡ suc j →
    0 < length ts → blocks_of edition limit k done ts ≡ blocks_of edition limit j (snoc done b) us
unfolding blocks_of bind at_end
blocks_go edition limit k j done [] b us g e h = absurd (omega (arith, h))
blocks_go edition limit k j done (t ∷ ts) b us g e h = rw (e, blocks_of, at_end, bind, g) refl

blocks_err : (edition : Edition) (limit k : ℕ) (done : List BlockTree) (ts : List Token) (e : ℕ) → block_of edition limit ts ≡ Err e → 0 < k → 0 < length ts →
    blocks_of edition limit k done ts ≡ Err e
unfolding blocks_of bind at_end
blocks_err edition limit zero done ts e g l h = absurd (omega arith)
blocks_err edition limit (suc k) done [] e g l h = absurd (omega (arith, h))
blocks_err edition limit (suc k) done (t ∷ ts) e g l h = rw (blocks_of, at_end, bind, g) refl

pub blocks_fail : (edition : Edition) (limit k : ℕ) (done : List BlockTree) (ts : List Token) (e : ReadStop) → StopAnswer e (block_of edition limit ts) → 0 < k → 0 < length ts →
    StopAnswer e (blocks_of edition limit k done ts)
blocks_fail edition limit k done ts stops.NoMemory g l h = tt
blocks_fail edition limit k done ts (stops.TokensLeft n) g l h = blocks_err edition limit k done ts n g l h

map_more : (xs : List Block) (x : Block) → map block_tree (xs ++ x ∷ []) ≡ snoc (map block_tree xs) (block_tree x)
map_more [] x = refl
map_more (y ∷ ys) x = ap (λ (zs : List BlockTree). block_tree y ∷ zs) (map_more ys x)

-- the next turn of the loop
pub blocks_next : (edition : Edition) (limit k j : ℕ) (done done' : List Block) (x : Block) (ts us : List Token) (whole : Got (List BlockTree)) →
    block_of edition limit ts ≡ Ok (block_tree x, us) → k ≡ suc j → 0 < length ts → done' ≡ done ++ x ∷ [] →
    blocks_of edition limit k (map block_tree done) ts ≡ whole → blocks_of edition limit j (map block_tree done') us ≡ whole
blocks_next edition limit k j done done' x ts us whole g e h d w =
    ap (λ (z : List Block). blocks_of edition limit j (map block_tree z) us) d ∙ ap (λ (z : List BlockTree). blocks_of edition limit j z us) (map_more done x)
    ∙ sym (blocks_go edition limit k j (map block_tree done) ts (block_tree x) us g e h) ∙ w

pub empty : (ts : List Token) (b : Bool) → b ≡ (length ts == 0) → b ≡ true → length ts ≡ 0
empty ts b e f = eqb-true (length ts) 0 (sym e ∙ f)

pub not_empty : (ts : List Token) (b : Bool) → b ≡ (length ts == 0) → b ≡ false → 0 < length ts
not_empty [] b e f = cc
not_empty (t ∷ ts) b e f = omega arith
