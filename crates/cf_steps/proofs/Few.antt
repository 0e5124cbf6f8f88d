-- Each step has a token of its own, so tokens spell no more steps than they are.
use Rattle.std.proofs.Common.{ℕ, ◌+◌, ◌≤◌, List, [], ◌∷◌, length, length-append, arith}
use Rattle.std.specs.Prelude.{pos, codes}
use Rattle.std.specs.List.{flat_map}
use Rattle.cf_tree.specs.declared.base.Edition.{Edition}
use Rattle.cf_tree.specs.declared.base.Edition.TheVariants.{Two}
use Rattle.cf_lex.specs.declared.token.Token.{Token}
use Rattle.cf_lex.specs.declared.token.TokenKind.TheVariants.{Literal, Word, Sign}
use Rattle.cf_reader.proofs.Exact.{first_longer, left_over}
use Rattle.cf_target.specs.Targets.{part_of}
use Rattle.cf_target.proofs.Only.{part_is}
use Rattle.cf_elim.specs.declared.act.Act.{Act}
use Rattle.cf_steps.specs.Blocks.{BlockTree, block_acts}
use Rattle.cf_steps.specs.Reading.{act_of, head_of}
use Rattle.cf_steps.specs.Spelling.{SpellsActs, SpellsCases, SpellsBlock, SpellsBlocks, AreBlocks}
use Rattle.cf_steps.proofs.Only.{act_is, act_within, head_is, head_within, part_within}

few_acts : (acts : List Act) (ts us : List Token) → SpellsActs acts ts us → length acts + length us ≤ length ts
few_acts [] ts us w = omega (arith, first_longer (Sign (codes "}")) ts us w.0 w.1)
few_acts (act ∷ acts) ts us (a, s, (b, n, w)) =
    let e = first_longer (Sign (codes ";")) a b n.0 n.1 in
    let k = left_over (length ts) (act_of ts) act a (act_is act ts a s) (act_within ts) in
    omega (arith, e, k, few_acts acts b us w)

few_cases : (cases : List (List Act)) (ts us : List Token) → SpellsCases cases ts us → length (flat_map (λ acts. acts) cases) + length us ≤ length ts
few_cases [] ts us w = omega (arith, first_longer (Sign (codes "}")) ts us w.0 w.1)
few_cases (acts ∷ cases) ts us (a, n, (b, (d, o, v), w)) =
    let i = first_longer (Word (codes "case")) ts a n.0 n.1 in
    let j = first_longer (Sign (codes "{")) a d o.0 o.1 in
    omega (arith, i, j, few_acts acts d b v, few_cases cases b us w, length-append acts (flat_map (λ (xs : List Act). xs) cases))

few_block : (edition : Edition) (limit : ℕ) (b : BlockTree) (ts us : List Token) → SpellsBlock edition limit b ts us → length (block_acts b) + length us ≤ length ts
few_block edition limit b ts us (t1, w, (t2, n, (t3, o, (t4, c, t)))) =
    let i = first_longer (Word (codes "choose")) ts t1 w.0 w.1 in
    let j = first_longer (Literal (pos b.number)) t1 t2 n.1.0 n.1.1 in
    let k = left_over (length t2) (head_of edition t2) b.truths t3 (head_is edition b.truths t2 t3 o) (head_within edition t2) in
    let m = left_over (length t4) (part_of Two limit t4) b.target us (part_is Two limit b.target t4 us t) (part_within limit t4) in
    omega (arith, i, j, k, few_cases b.cases t3 t4 c, m)

few_blocks : (edition : Edition) (limit : ℕ) (bs : List BlockTree) (ts : List Token) → SpellsBlocks edition limit bs ts → length (flat_map block_acts bs) ≤ length ts
few_blocks edition limit [] ts w = omega arith
few_blocks edition limit (b ∷ bs) ts (mid, s, w) =
    omega (arith, few_block edition limit b ts mid s, few_blocks edition limit bs mid w, length-append (block_acts b) (flat_map block_acts bs))

pub few_law : (edition : Edition) (bs : List BlockTree) (ts : List Token) → AreBlocks edition bs ts → length (flat_map block_acts bs) ≤ length ts
few_law edition bs ts w = few_blocks edition 500 bs ts w
