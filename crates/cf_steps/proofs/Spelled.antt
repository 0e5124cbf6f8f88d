-- What tokens spell has a spelling: its columns have 32 bits, and its factors are within the limit where the literals are.
use Rattle.std.proofs.Common.{◌≡◌, inl, inr, ℕ, zero, suc, ◌-◌, ◌^◌, List, [], ◌∷◌, map, sym, subst}
use Rattle.std.specs.Prelude.{ℤ, pos, negsuc, neg_ℤ, ◌≤ℤ◌, All}
use Rattle.std.proofs.lemmas.List.Elements.{All-nil, All-cons}
use Rattle.cf_tree.specs.declared.base.Edition.{Edition}
use Rattle.cf_tree.specs.declared.base.Edition.TheVariants.{Two, Three}
use Rattle.cf_num.specs.Limit.{IsWithin}
use Rattle.cf_lex.specs.Tokens.{AreWithin}
use Rattle.cf_lex.specs.declared.token.Token.{Token}
use Rattle.cf_tree.specs.declared.target.RawTarget.{RawTarget}
use Rattle.cf_tree.specs.DefView.{target_tree}
use Rattle.cf_tree.specs.Spelled.{HasSpelling}
use Rattle.cf_reader.proofs.Keeps.{Small, Keeps, behind, both, past, given, inside, one, skip, name_keeps, next_literal_keeps, others_keep, several_keep}
use Rattle.cf_target.proofs.Spelled.{header_keeps, main_keeps}
use Rattle.cf_target.specs.Spelling.{SpellsPart}
use Rattle.cf_elim.specs.declared.act.Act.{Act}
use Rattle.cf_elim.specs.declared.act.Act.TheVariants.{Clean, Mix, Last, Search, Drop}
use Rattle.cf_steps.specs.declared.block.Block.{Block}
use Rattle.cf_steps.specs.declared.block.NamedTruth.{NamedTruth}
use Rattle.cf_steps.specs.Blocks.{block_tree}
use Rattle.cf_elim.specs.Acts.{IsColumn, IsSpelledAct}
use Rattle.cf_steps.specs.Spelled.{AreSpelledCases, IsSpelledBlock}
use Rattle.cf_steps.specs.Spelling.{SpellsColumn, SpellsFactor, SpellsAct, SpellsActs, SpellsCase, SpellsCases, NextName, SpellsTruth, SpellsHead, SpellsBlock, SpellsBlocks, AreBlocks}

-- ---- steps
column_keeps : (n : ℕ) → Keeps (SpellsColumn n) (IsColumn n)
column_keeps n = behind (λ k. k.0) (given (one _))

negated : (n : ℤ) → pos 0 ≤ℤ n → IsWithin n → IsWithin (neg_ℤ n)
negated (pos zero) l h = h
negated (pos (suc n)) l h = h
negated (negsuc n) l h = absurd l.le

factor_on : (k : ℤ) (ts us : List Token) → Small ts → SpellsFactor k ts us → IsWithin k × Small us
factor_on k ts us s (inl w) = let h = (next_literal_keeps (pos 0) k).keeps ts us s w in (h.0.1, h.1)
factor_on k ts us s (inr (n, w, e)) =
    let h = (skip (next_literal_keeps (pos 0) n)).keeps ts us s w in
    (subst IsWithin (sym e) (negated n h.0.0 h.0.1), h.1)

factor_keeps : (k : ℤ) → Keeps (SpellsFactor k) (IsWithin k)
factor_keeps k = record { keeps = factor_on k }

act_keeps : (act : Act) → Keeps (SpellsAct act) (IsSpelledAct act)
act_keeps Clean = one _
act_keeps (Mix x y a b c d) =
    behind (λ h. (h.0, h.1.0, h.1.1.0, h.1.1.1.0, h.1.1.1.1.0, h.1.1.1.1.1))
    (skip (both (column_keeps x) (both (column_keeps y) (both (factor_keeps a) (both (factor_keeps b) (both (factor_keeps c) (factor_keeps d)))))))
act_keeps (Last e) = skip (column_keeps e)
act_keeps (Search x lower) = behind (λ h. h.0) (skip (both (column_keeps x) (one _)))
act_keeps (Drop x) = skip (column_keeps x)

acts_keep : (acts : List Act) → Keeps (SpellsActs acts) (All IsSpelledAct acts)
acts_keep [] = behind (λ u. All-nil IsSpelledAct) (one _)
acts_keep (act ∷ acts) = behind (λ h. All-cons IsSpelledAct act acts h.0 h.1) (both (act_keeps act) (skip (acts_keep acts)))

case_keeps : (acts : List Act) → Keeps (SpellsCase acts) (All IsSpelledAct acts)
case_keeps acts = skip (acts_keep acts)

cases_keep : (cases : List (List Act)) → Keeps (SpellsCases cases) (AreSpelledCases cases)
cases_keep cases = others_keep SpellsCase (λ acts. All IsSpelledAct acts) _ _ case_keeps cases

-- ---- heads
next_name_keeps : (x : List ℕ) → Keeps (NextName x) (Unit {0})
next_name_keeps x = record { keeps = λ ts us s w. (name_keeps Three w.0 x).keeps ts us s w.1 }

truth_keeps : (t : NamedTruth) → Keeps (SpellsTruth t) (Unit {0})
truth_keeps t = past (next_name_keeps t.name) (skip (one _))

head_keeps : (edition : Edition) (truths : List NamedTruth) → Keeps (SpellsHead edition truths) (Unit {0})
head_keeps edition [] = one _
head_keeps edition (t ∷ truths) = inside (skip (past (several_keep SpellsTruth _ _ truth_keeps (t ∷ truths)) (one _)))

-- ---- blocks
target_keeps : (t : RawTarget) → Keeps (SpellsPart Two 500 (target_tree t)) (HasSpelling t)
target_keeps t = behind (λ h. (h.0, h.1.1.1, h.1.1.0)) (given (both (header_keeps Two) (main_keeps t)))

block_keeps : (edition : Edition) (b : Block) → Keeps (SpellsBlock edition 500 (block_tree b)) (IsSpelledBlock b)
block_keeps edition b =
    behind (λ h. record { number = h.0; cases = h.1.0; target = h.1.1 })
    (skip (both (column_keeps b.number) (past (head_keeps edition b.truths.items) (both (cases_keep (block_tree b).cases) (target_keeps b.target)))))

blocks_on : (edition : Edition) (bs : List Block) (ts : List Token) → Small ts → SpellsBlocks edition 500 (map block_tree bs) ts → All IsSpelledBlock bs
blocks_on edition [] ts s w = All-nil IsSpelledBlock
blocks_on edition (b ∷ bs) ts s (mid, w, more) = let h = (block_keeps edition b).keeps ts mid s w in All-cons IsSpelledBlock b bs h.0 (blocks_on edition bs mid h.1 more)

pub spelled_from : (edition : Edition) (bs : List Block) (ts items : List Token) → ts ≡ items → AreBlocks edition (map block_tree bs) ts → AreWithin (2 ^ 127 - 1) items →
    All IsSpelledBlock bs
spelled_from edition bs ts items same w s = blocks_on edition bs items s (subst (AreBlocks edition (map block_tree bs)) same w)
