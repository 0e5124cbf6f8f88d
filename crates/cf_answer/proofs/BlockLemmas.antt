-- The printed blocks of chooses, one by one.
use Rattle.std.proofs.Common.{◌≡◌, ◌∙◌, sym, ap, subst, refl, ℕ, ◌+◌, ◌-◌, ◌^◌, ◌<◌, ◌≤◌, List, [], ◌∷◌, ◌++◌, length, map, take, drop, get_or, All, append_assoc, flat_map, Option, Some, None, Ok, arith}
use Rattle.std.proofs.lemmas.List.{take_more, drop_more, drop_all, map-append}
use Rattle.std.proofs.lemmas.List.Elements.{All-nil, All-cons, All-head, All-tail}
use Rattle.std.specs.Prelude.{◌⊎◌}
use Rattle.cf_lex.specs.declared.token.TokenList.{TokenList}
use Rattle.cf_lex.specs.Tokens.{at_end}
use Rattle.cf_lex.proofs.LexesLemmas.{answer-count}
use Rattle.cf_program.specs.Checked.{TypedTree}
use Rattle.cf_cases.specs.Holding.{EachOf}
use Rattle.cf_tree.specs.ChooseTree.{ChooseTree}
use Rattle.cf_build.specs.Chooses.{all_chooses}
use Rattle.cf_build.specs.Solves.{IsFaultAmong}
use Rattle.cf_tree.specs.ChooseView.{choose_tree}
use Rattle.cf_tree.specs.declared.choose.Choose.{Choose}
use Rattle.cf_build.specs.declared.fault.BuildFault.{BuildFault}
use Rattle.cf_build.proofs.SolveLists.{fault_in_order}
use Rattle.cf_steps.specs.Printed.{block_text, blocks_text}
use Rattle.cf_steps.specs.Blocks.{BlockTree, block_acts, block_tree, in_branch}
use Rattle.cf_steps.specs.Spelled.{IsSpelledBlock, IsSpelledHead, IsSpelledTruth}
use Rattle.cf_steps.specs.declared.block.NamedTruth.{NamedTruth}
use Rattle.cf_steps.specs.declared.block.Block.{Block}
use Rattle.cf_steps.proofs.Printing.{blocks_read_back}
use Rattle.cf_cert.specs.Laws.{AreWithinCases}
use Rattle.cf_cert.specs.Verifying.{HaveFewSteps}
use Rattle.cf_cert.proofs.SpelledLaws.{spelled_within as cases_within}
use Rattle.cf_form.specs.Branches.{Branch}
use Rattle.cf_form.specs.Told.{ToldChoose}
use Rattle.cf_prove.specs.Proving.{IsProved}
use Rattle.cf_prove.specs.Tracing.{traced_block}
use Rattle.cf_answer.specs.Limits.{text_limit, written_limit, of_target, most_of}
use Rattle.cf_answer.specs.Certificates.{asked_in, OneForEach, IsTraced, AreProofs}
use Rattle.cf_answer.specs.Refusals.{fault_of, IsRefusedSource}
use Rattle.cf_tree.specs.declared.base.Edition.{Edition}
use Rattle.cf_tree.specs.declared.base.Edition.TheVariants.{Two, Three}
use Rattle.cf_answer.specs.Sources.{HasTokens, IsTypedSource}
use Rattle.cf_answer.specs.declared.fault.Fault.TheVariants as fault
use Rattle.cf_answer.specs.Branches.{coming, first_branch, head_of, in_branches}
use Rattle.cf_form.specs.declared.formed.FormedParts.{FormedParts}
use Rattle.cf_lex.specs.Editions.{edition_of}
use Rattle.cf_answer.specs.declared.source.ToldProgram.{ToldProgram}
use Rattle.cf_answer.specs.Verifying.{AddsBlock, ArePut, IsSpelledIn, edition_in, told_in, IsToldProgram}
use Rattle.cf_answer.proofs.BranchLemmas.{IsSplit, next, split_first, split_next, split_last}
use Rattle.cf_answer.proofs.CertificateLemmas.{IsWithin, traced_within}
use Rattle.cf_answer.proofs.TextLemmas.{build_refused}

pub none_put : (edition : Edition) → ArePut edition [] []
none_put edition = ([], tt, refl, All-nil (IsSpelledIn edition), refl)

blocks_more : (bs : List Block) (b : Block) → blocks_text (bs ++ b ∷ []) ≡ blocks_text bs ++ blocks_text (b ∷ [])
blocks_more [] b = refl
blocks_more (c ∷ bs) b =
    let first = block_text c.number c.truths.items (block_tree c).cases c.target in
    ap (λ more. first ++ more) (blocks_more bs b) ∙ sym (append_assoc first (blocks_text bs) (blocks_text (b ∷ [])))

traced_more : (qs : List ChooseTree) (bs : List Block) (q : ChooseTree) (b : Block) → OneForEach IsTraced qs bs → IsTraced q b →
    OneForEach IsTraced (qs ++ q ∷ []) (bs ++ b ∷ [])
traced_more [] [] q b h t = (t, tt)
traced_more [] (c ∷ bs) q b h t = absurd h
traced_more (p ∷ qs) [] q b h t = absurd h
traced_more (p ∷ qs) (c ∷ bs) q b h t = (h.0, traced_more qs bs q b h.1 t)

module _ (Is : Block → Type 0) where
  spelled_more : (bs : List Block) (b : Block) → All Is bs → Is b → All Is (bs ++ b ∷ [])
  spelled_more [] b h s = All-cons Is b [] s h
  spelled_more (c ∷ bs) b h s = All-cons Is c (bs ++ b ∷ []) (All-head Is c bs h) (spelled_more bs b (All-tail Is c bs h) s)

-- a head of names of edition 3 has a spelling there
head_spelled : (truths : List NamedTruth) → All IsSpelledTruth truths → IsSpelledHead Three truths
head_spelled [] h = tt
head_spelled (t ∷ truths) h = (tt, h)

-- the printed block that a proof of the choose gives
pub proved_adds : (c : ChooseTree × Branch) (truths : List NamedTruth) (proved text new : List ℕ) → truths ≡ head_of c → All IsSpelledTruth truths →
    IsProved c.0 truths proved → new ≡ text ++ proved → AddsBlock Three c text new
proved_adds c truths proved text new head names h is =
    let same : h.block.truths.items ≡ truths = ap (λ (b : BlockTree). b.truths) h.is in (
      h.block,
      record {
        within = h.within;
        is = h.is ∙ ap (λ ts. in_branch ts (traced_block c.0)) (sym same);
        proves = record { certifies = h.certifies; means = h.means };
      },
      same ∙ head,
      (h.spelled, subst (IsSpelledHead Three) (sym same) (head_spelled truths names)),
      is ∙ ap (λ more. text ++ more) h.printed,
    )

-- the first choose that is refused as a fault of its source
pub block_refused : (source : List ℕ) (typed : TypedTree) (qs : List ChooseTree) (f : BuildFault) → qs ≡ asked_in typed → IsTypedSource source typed →
    IsFaultAmong qs f → IsRefusedSource source (fault_of f) ⊎ (fault_of f ≡ fault.NoMemory)
block_refused source typed qs f are s h =
    build_refused source typed f s (fault_in_order (all_chooses typed.defs) f (subst (λ ps. IsFaultAmong ps f) are h))

-- one more choose
pub put_more : (edition : Edition) (cs : List (ChooseTree × Branch)) (c : ChooseTree × Branch) (text new : List ℕ) → ArePut edition cs text →
    AddsBlock edition c text new → ArePut edition (cs ++ c ∷ []) new
put_more edition cs c text new (bs, traced, heads, spelled, same) (b, t, head, s, next) = (
  bs ++ b ∷ [],
  subst (λ qs. OneForEach IsTraced qs (bs ++ b ∷ [])) (sym (map-append (λ d. d.0) cs (c ∷ []))) (traced_more (map (λ d. d.0) cs) bs c.0 b traced t),
  map-append (λ (d : Block). d.truths.items) bs (b ∷ []) ∙ ap (λ hs. hs ++ b.truths.items ∷ []) heads ∙ ap (λ h. map head_of cs ++ h ∷ []) head
      ∙ sym (map-append head_of cs (c ∷ [])),
  spelled_more (IsSpelledIn edition) bs b spelled s,
  next ∙ ap (λ x. x ++ blocks_text (b ∷ [])) same ∙ sym (blocks_more bs b),
)

-- those before it pass no limit
pub put_within : (edition : Edition) (cs : List (ChooseTree × Branch)) (text : List ℕ) → ArePut edition cs text → All IsWithin (map (λ c. c.0) cs)
put_within edition cs text (bs, traced, heads, spelled, same) = traced_within (map (λ c. c.0) cs) bs traced

-- the blocks of so many first chooses are put, and these branches are left
abbrev pub PutTo : List ToldChoose → List Choose → ℕ → List Branch → List ℕ → Type 0
PutTo told cs i left text =
    (done : List (ChooseTree × Branch)) × ArePut Three done text × (map (λ d. d.0) done ≡ map choose_tree (take i cs))
    × IsSplit told (map choose_tree cs) done left (map choose_tree (drop i cs))

module _ (told : List ToldChoose) (cs : List Choose) where
  pub put_first : PutTo told cs 0 [] []
  put_first = ([], none_put Three, refl, split_first told (map choose_tree cs))

  pub put_next : (i : ℕ) (c : Choose) (left behind : List Branch) (branch : Branch) (text new : List ℕ) → i < length cs → c ≡ get_or cs i c →
      branch ≡ first_branch (coming told left c.number) → behind ≡ drop 1 (coming told left c.number) → PutTo told cs i left text →
      AddsBlock Three (choose_tree c, branch) text new → PutTo told cs (i + 1) behind new
  put_next i c left behind branch text new lt is here after (done, put, front, split) adds =
      let q = choose_tree c in
      let one : ChooseTree × Branch = next told left q in
      let rest : drop i cs ≡ c ∷ drop (i + 1) cs = drop_more cs i c lt ∙ ap (λ x. x ∷ drop (i + 1) cs) (sym is) in
      let more : take (i + 1) cs ≡ take i cs ++ c ∷ [] = take_more cs i c lt ∙ ap (λ x. take i cs ++ x ∷ []) (sym is) in
      let at : IsSplit told (map choose_tree cs) done left (q ∷ map choose_tree (drop (i + 1) cs)) =
      subst (λ xs. IsSplit told (map choose_tree cs) done left (map choose_tree xs)) rest split in (
        done ++ one ∷ [],
        put_more Three done one text new put (subst (λ b. AddsBlock Three (q, b) text new) here adds),
        map-append (λ d. d.0) done (one ∷ []) ∙ ap (λ qs. qs ++ q ∷ []) front ∙ sym (map-append choose_tree (take i cs) (c ∷ []))
            ∙ ap (map choose_tree) (sym more),
        split_next told (map choose_tree cs) done left behind q (map choose_tree (drop (i + 1) cs)) after at,
      )

  -- those before it pass no limit
  pub put_before : (i : ℕ) (left : List Branch) (text : List ℕ) → PutTo told cs i left text → All IsWithin (map choose_tree (take i cs))
  put_before i left text (done, put, front, split) = subst (All IsWithin) front (put_within Three done text put)

  -- all
  pub put_last : (i : ℕ) (left : List Branch) (text : List ℕ) → length cs ≤ i → PutTo told cs i left text →
      ArePut Three (in_branches told [] (map choose_tree cs)) text
  put_last i left text le (done, put, front, split) =
      let end : IsSplit told (map choose_tree cs) done left [] =
      subst (λ xs. IsSplit told (map choose_tree cs) done left (map choose_tree xs)) (drop_all i cs le) split in
      subst (λ ds. ArePut Three ds text) (sym (split_last told (map choose_tree cs) done left end)) put

-- in language 2 no block names a branch
no_heads : (qs : List ChooseTree) (bs : List Block) → map (λ b. b.truths.items) bs ≡ map head_of (in_branches [] [] qs) → All (IsSpelledIn Three) bs →
    All (IsSpelledIn Two) bs
no_heads [] [] e h = All-nil (IsSpelledIn Two)
no_heads [] (b ∷ bs) e h = cc e
no_heads (q ∷ qs) [] e h = cc e
no_heads (q ∷ qs) (b ∷ bs) e h =
    let first : b.truths.items ≡ [] = cc e in
    let more : map (λ (b : Block). b.truths.items) bs ≡ map head_of (in_branches [] [] qs) = cc e in
    All-cons (IsSpelledIn Two) b bs ((All-head (IsSpelledIn Three) b bs h).0, subst (IsSpelledHead Two) (sym first) tt)
    (no_heads qs bs more (All-tail (IsSpelledIn Three) b bs h))

pub put_in_two : (qs : List ChooseTree) (text : List ℕ) → ArePut Three (in_branches [] [] qs) text → ArePut Two (in_branches [] [] qs) text
put_in_two qs text (bs, traced, heads, spelled, same) = (bs, traced, heads, no_heads qs bs heads spelled, same)

-- blocks and heads that have a spelling
module _ (edition : Edition) where
  only_blocks : (bs : List Block) → All (IsSpelledIn edition) bs → All IsSpelledBlock bs
  only_blocks [] h = All-nil IsSpelledBlock
  only_blocks (b ∷ bs) h =
      All-cons IsSpelledBlock b bs (All-head (IsSpelledIn edition) b bs h).0 (only_blocks bs (All-tail (IsSpelledIn edition) b bs h))

  abbrev HasHead : Block → Type 0
  HasHead b = IsSpelledHead edition b.truths.items

  only_heads : (bs : List Block) → All (IsSpelledIn edition) bs → All HasHead bs
  only_heads [] h = All-nil HasHead
  only_heads (b ∷ bs) h = All-cons HasHead b bs (All-head (IsSpelledIn edition) b bs h).1 (only_heads bs (All-tail (IsSpelledIn edition) b bs h))

  block_heads : (bs : List Block) → map (λ b. b.truths) (map block_tree bs) ≡ map (λ b. b.truths.items) bs
  block_heads [] = refl
  block_heads (b ∷ bs) = ap (λ hs. b.truths.items ∷ hs) (block_heads bs)

  -- all
  pub put_all : (cs : List (ChooseTree × Branch)) (text : List ℕ) → ArePut edition cs text → AreProofs edition cs text
  put_all cs text (bs, traced, heads, spelled, same) =
      (bs, traced, block_heads bs ∙ heads, same, rw same (blocks_read_back edition bs (only_blocks bs spelled) (only_heads bs spelled)))

-- the blocks of the chooses of a program, in its edition
in_edition : (f : Option FormedParts) (qs : List ChooseTree) (text : List ℕ) → ArePut Three (in_branches (told_in f) [] qs) text →
    ArePut (edition_in f) (in_branches (told_in f) [] qs) text
in_edition None qs text put = put_in_two qs text put
in_edition (Some f) qs text put = put

pub put_told : (source : List ℕ) (p : ToldProgram) (s : IsToldProgram source p) (text : List ℕ) →
    ArePut Three (in_branches (told_in p.formed) [] (asked_in s.lowered.typed)) text →
    AreProofs (edition_of source) (in_branches (told_in p.formed) [] (asked_in s.lowered.typed)) text
put_told source p s text put =
    let cs = in_branches (told_in p.formed) [] (asked_in s.lowered.typed) in
    subst (λ e. AreProofs e cs text) (sym s.edition)
    (put_all (edition_in p.formed) cs text (in_edition p.formed (asked_in s.lowered.typed) text put))

-- ---- blocks that are read
-- the numbers of blocks that have a spelling are within the limit
pub spelled_within : (bs : List Block) → All IsSpelledBlock bs → EachOf (λ b. AreWithinCases b.cases) (map block_tree bs)
spelled_within [] h = tt
spelled_within (b ∷ bs) h =
    let first : IsSpelledBlock b = All-head IsSpelledBlock b bs h in
    (cases_within (block_tree b).cases first.cases, spelled_within bs (All-tail IsSpelledBlock b bs h))

-- a steps file of either edition has no more bytes than the checker takes steps
most_steps : (edition : Edition) (count : ℕ) → count ≤ most_of (of_target edition) → count ≤ 67108864
unfolding text_limit written_limit
most_steps Two count h = omega (arith, h)
most_steps Three count h = h

-- a text has at most as many tokens as bytes, so that few steps stand in it
pub few_steps : (edition : Edition) (bs : List BlockTree) (text : List ℕ) (list : TokenList) → length (flat_map block_acts bs) ≤ length list.list.items →
    HasTokens (of_target edition) text list.list.items list.end at_end → HaveFewSteps bs
few_steps edition bs text list few h =
    let tokens : length list.list.items ≤ length text = answer-count Two (2 ^ 127 - 1) text (Ok list) h.1 in
    let most : length text ≤ 67108864 = most_steps edition (length text) h.0 in omega (arith, few, tokens, most)
