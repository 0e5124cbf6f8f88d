-- Why steps are not accepted for a source, and that this is one thing only.
use Rattle.std.proofs.Common.{◌≡◌, ◌∙◌, inl, inr, ap, sym, subst, refl, ℕ, Bool, true, false, not, List, [], ◌∷◌, map, Option, Some, None, Ok, All}
use Rattle.std.specs.Prelude.{if◌then◌else◌}
use Rattle.std.specs.Str.{bytes_eq}
use Rattle.std.proofs.lemmas.Slice.Eq.{bytes_eq-Decides}
use Rattle.std.proofs.lemmas.List.Elements.{All-nil, All-cons, All-contains}
use Rattle.std.proofs.lemmas.List.Sorted.{Contains-permutation}
use Rattle.cf_lex.specs.Editions.{edition_of}
use Rattle.cf_tree.specs.declared.base.Edition.{Edition}
use Rattle.cf_tree.specs.declared.base.Edition.TheVariants.{Two, Three}
use Rattle.cf_parse.specs.Programs.{IsProgram, program_of}
use Rattle.cf_program.specs.Checked.{TypedTree}
use Rattle.cf_program.specs.declared.linearity.Linearity.TheVariants.{Plain}
use Rattle.cf_tree.specs.ChooseTree.{ChooseTree}
use Rattle.cf_tree.specs.DefView.{RawItemTree}
use Rattle.cf_form.specs.Branches.{Branch}
use Rattle.cf_form.specs.Told.{ToldChoose, all_told}
use Rattle.cf_steps.specs.declared.block.NamedTruth.{NamedTruth}
use Rattle.cf_build.specs.Chooses.{all_chooses, limit_of}
use Rattle.cf_build.proofs.NumberOrder.{ordered_same}
use Rattle.cf_steps.specs.Blocks.{BlockTree}
use Rattle.cf_steps.specs.Reading.{all_blocks}
use Rattle.cf_steps.specs.Spelling.{AreBlocks}
use Rattle.cf_steps.specs.declared.block.Block.{Block}
use Rattle.cf_steps.proofs.Only.{one_law as one_blocks}
use Rattle.cf_cert.specs.Judging.{IsVerdict}
use Rattle.cf_cert.specs.declared.verdict.Verdict.{Verdict}
use Rattle.cf_cert.specs.declared.verdict.Verdict.TheVariants.{Yes, Rejected}
use Rattle.cf_cases.specs.Holding.{EachOf}
use Rattle.cf_cert.specs.Laws.{AreWithinCases, IsLinearChoose}
use Rattle.cf_cert.proofs.CertifiedArms.{certified_means}
use Rattle.cf_cert.proofs.JudgeLaws.{one_verdict}
use Rattle.cf_answer.specs.Certificates.{asked_in, OneForEach, IsProofOf, IsTraced, AreHeaded, AreProofs, AreVerified}
use Rattle.cf_answer.specs.Branches.{AreBranched, IsVerdictBeside, IsVerdictIn, head_of, same_head, wrong_head}
use Rattle.cf_answer.specs.Limits.{of_source, of_target}
use Rattle.cf_answer.specs.Refusals.{Causes, IsBroken, IsBrokenSource, IsRefusedSource, IsUnverified, bad_source, bad_steps, bad_blocks}
use Rattle.cf_answer.specs.Sources.{AreToldIn, AreToldOf, Spelled, IsTypedBy, IsTypedSource}
use Rattle.cf_answer.specs.Statuses.{fault_status}
use Rattle.cf_answer.specs.declared.fault.Fault.{Fault}
use Rattle.cf_answer.proofs.CauseLemmas.{alike, trees_agree, unrefused}
use Rattle.cf_answer.proofs.RuleLemmas.{broken_alike, typed_never_broken, typed_by_once}
use Rattle.cf_answer.proofs.SourceLemmas.{one_program, typed_unrefused, branched_chooses}

-- a source spells one typed program, and none where a rule is broken
typed_once : (text : List ℕ) (typed other : TypedTree) → IsTypedSource text typed → IsTypedSource text other → other ≡ typed
typed_once text typed other s t =
    let same : t.0 ≡ s.0 = trees_agree (of_source (edition_of text)) (IsProgram (edition_of text)) (one_program text) text t.0 s.0 t.1 s.1 in
    typed_by_once (edition_of text) Plain s.0 other typed (subst (λ p. IsTypedBy (edition_of text) Plain p other) same t.2) s.2

pub typed_unbroken : (text : List ℕ) (typed : TypedTree) (f : Fault) → IsTypedSource text typed → IsBrokenSource text f → ⊥
typed_unbroken text typed f s h = unrefused (of_source (edition_of text)) (IsProgram (edition_of text)) (program_of (edition_of text) 200)
    (IsBroken (edition_of text) Plain) (one_program text) text f s.0 (λ g b. typed_never_broken (edition_of text) Plain s.0 typed g s.2 b) h s.1

-- a text that spells blocks is not refused
spelled_unrefused : (edition : Edition) (text : List ℕ) (bs : List BlockTree) (f : Fault) → Spelled (of_target edition) (AreBlocks edition) text bs →
    Causes (of_target edition) (AreBlocks edition) (all_blocks edition 500) (λ bs g. ⊥) text f → ⊥
spelled_unrefused edition text bs f s h =
    unrefused (of_target edition) (AreBlocks edition) (all_blocks edition 500) (λ bs g. ⊥) (one_blocks edition) text f bs (λ g b. b) h s

pub verify_alike : (source steps : List ℕ) (f g : Fault) → IsUnverified source steps f → IsUnverified source steps g → fault_status f ≡ fault_status g
verify_alike source steps f g (bad_source a h) (bad_source b i) =
    alike (of_source (edition_of source)) (IsProgram (edition_of source)) (program_of (edition_of source) 200) (IsBroken (edition_of source) Plain)
    (one_program source)
    source (λ program a b s. broken_alike (edition_of source) Plain program a b) f g h i
verify_alike source steps f g (bad_source a h) (bad_steps typed e s i) = absurd (typed_unbroken source typed f s h)
verify_alike source steps f g (bad_source a h) (bad_blocks cs bs n i j w s b v) = absurd (typed_unbroken source s.typed f s.is h)
verify_alike source steps f g (bad_steps typed e s h) (bad_source b i) = absurd (typed_unbroken source typed g s i)
verify_alike source steps f g (bad_steps typed e s h) (bad_steps other d t i) = refl
verify_alike source steps f g (bad_steps typed e s h) (bad_blocks cs bs n i j w t b v) = absurd (spelled_unrefused (edition_of source) steps bs _ b h)
verify_alike source steps f g (bad_blocks cs bs n i j w s b v) (bad_source c h) = absurd (typed_unbroken source s.typed g s.is h)
verify_alike source steps f g (bad_blocks cs bs n i j w s b v) (bad_steps other e t h) = absurd (spelled_unrefused (edition_of source) steps bs _ b h)
verify_alike source steps f g (bad_blocks cs bs n i j w s b v) (bad_blocks ds others m k l x t c u) = refl

-- blocks that prove chooses are accepted
proofs_accepted : (qs : List ChooseTree) (bs : List BlockTree) → OneForEach IsProofOf qs bs → IsVerdict qs bs Yes
proofs_accepted [] [] h = refl
proofs_accepted [] (b ∷ bs) h = absurd h
proofs_accepted (q ∷ qs) [] h = absurd h
proofs_accepted (q ∷ qs) (b ∷ bs) h = inl (h.0.certifies, proofs_accepted qs bs h.1)

-- what is told of the chooses of a source is one thing only
told_by_once : (edition : Edition) (program : List RawItemTree) (told other : List ToldChoose) → AreToldIn edition program told →
    AreToldIn edition program other → other ≡ told
told_by_once Two program told other h k = k ∙ sym h
told_by_once Three program told other (source, e, is) (there, d, are) =
    let both : Ok there ≡ Ok source = sym d ∙ e in
    let same : there ≡ source = cc both in
    are ∙ ap (λ (s : TypedTree). all_told s.defs) same ∙ sym is

told_once : (text : List ℕ) (told other : List ToldChoose) → AreToldOf text told → AreToldOf text other → other ≡ told
told_once text told other s t =
    let same : t.0 ≡ s.0 = trees_agree (of_source (edition_of text)) (IsProgram (edition_of text)) (one_program text) text t.0 s.0 t.1 s.1 in
    told_by_once (edition_of text) s.0 told other s.2 (subst (λ p. AreToldIn (edition_of text) p other) same t.2)

branched_once : (text : List ℕ) (cs ds : List (ChooseTree × Branch)) → AreBranched text cs → AreBranched text ds → ds ≡ cs
branched_once text cs ds a b =
    b.are ∙ rw (typed_once text a.typed b.typed a.is b.is, told_once text a.told b.told a.tells b.tells) refl ∙ sym a.are

-- blocks that name the branches of chooses have no wrong head
same_bytes : (x : List ℕ) → bytes_eq x x ≡ true
same_bytes x = (bytes_eq-Decides x x).1 refl

same_value : (b : Bool) → (if b then b else not b) ≡ true
same_value true = refl
same_value false = refl

same_self : (ts : List NamedTruth) → same_head ts ts ≡ true
same_self [] = refl
same_self (t ∷ ts) = rw (same_bytes t.name, same_value t.value) (same_self ts)

head_same : (ts us : List NamedTruth) → us ≡ ts → same_head ts us ≡ true
head_same ts us e = subst (λ vs. same_head ts vs ≡ true) (sym e) (same_self ts)

heads_right : (cs : List (ChooseTree × Branch)) (bs : List BlockTree) → AreHeaded cs bs → wrong_head cs bs ≡ None
heads_right [] bs h = refl
heads_right (c ∷ cs) [] h = refl
heads_right (c ∷ cs) (b ∷ bs) h =
    let first : b.truths ≡ head_of c = cc h in
    let more : AreHeaded cs bs = cc h in
    rw (head_same (head_of c) b.truths first) (heads_right cs bs more)

-- the verdict on them is one
one_beside : (wrong : Option ℕ) (qs : List ChooseTree) (bs : List BlockTree) (v w : Verdict) → IsVerdictBeside wrong qs bs v → IsVerdictBeside wrong qs bs w →
    v ≡ w
one_beside (Some n) qs bs v w h k = h ∙ sym k
one_beside None qs bs v w h k = one_verdict qs bs v w h k

verdict_in : (cs : List (ChooseTree × Branch)) (bs : List BlockTree) (v : Verdict) → AreHeaded cs bs → IsVerdict (map (λ c. c.0) cs) bs v → IsVerdictIn cs bs v
verdict_in cs bs v heads h = subst (λ wrong. IsVerdictBeside wrong (map (λ c. c.0) cs) bs v) (sym (heads_right cs bs heads)) h

pub verify_unrefused : (source steps : List ℕ) (cs : List (ChooseTree × Branch)) (f : Fault) → AreBranched source cs →
    AreVerified (edition_of source) cs steps → IsUnverified source steps f → ⊥
verify_unrefused source steps cs f a (bs, b, heads, proofs) (bad_source g h) = typed_unbroken source a.typed f a.is h
verify_unrefused source steps cs f a (bs, b, heads, proofs) (bad_steps other e t h) = spelled_unrefused (edition_of source) steps bs _ b h
verify_unrefused source steps cs f a (bs, b, heads, proofs) (bad_blocks ds others n i j w t c v) =
    let chooses : ds ≡ cs = branched_once source cs ds a t in
    let blocks : others ≡ bs = trees_agree (of_target (edition_of source)) (AreBlocks (edition_of source)) (one_blocks (edition_of source)) steps others bs c b
    in
    let yes = verdict_in cs bs Yes heads (proofs_accepted (map (λ c. c.0) cs) bs proofs) in
    let no : IsVerdictIn cs bs (Rejected n i j w) =
    subst (λ xs. IsVerdictIn cs xs (Rejected n i j w)) blocks (subst (λ ps. IsVerdictIn ps others (Rejected n i j w)) chooses v) in
    let same : Yes ≡ Rejected n i j w = one_beside (wrong_head cs bs) (map (λ c. c.0) cs) bs Yes (Rejected n i j w) yes no in cc

-- and the other way round: where the verdict is Yes, each block proves its choose
pub yes_proves : (qs : List ChooseTree) (bs : List BlockTree) → EachOf IsLinearChoose qs → EachOf (λ b. AreWithinCases b.cases) bs →
    IsVerdict qs bs Yes → OneForEach IsProofOf qs bs
yes_proves [] [] questions within h = tt
yes_proves [] (b ∷ bs) questions within h = cc
yes_proves (q ∷ qs) [] questions within h = cc
yes_proves (q ∷ qs) (b ∷ bs) questions within (inl h) = (
  record { certifies = h.0; means = certified_means q b questions.0 within.0 h.0 },
  yes_proves qs bs questions.1 within.1 h.1,
)
yes_proves (q ∷ qs) (b ∷ bs) questions within (inr (f, is, rejected)) = cc

-- a program of which the blocks of the traces are owed is not refused
abbrev pub IsWithin : ChooseTree → Type 0
IsWithin q = limit_of q ≡ None

pub traced_within : (qs : List ChooseTree) (bs : List Block) → OneForEach IsTraced qs bs → All IsWithin qs
traced_within [] [] h = All-nil IsWithin
traced_within [] (b ∷ bs) h = absurd h
traced_within (q ∷ qs) [] h = absurd h
traced_within (q ∷ qs) (b ∷ bs) h = All-cons IsWithin q qs h.0.within (traced_within qs bs h.1)

pub proofs_unrefused : (text : List ℕ) (cs : List (ChooseTree × Branch)) (written : List ℕ) (f : Fault) → AreBranched text cs →
    AreProofs (edition_of text) cs written → IsRefusedSource text f → ⊥
proofs_unrefused text cs written f b (bs, traced, heads, printed, back) h =
    let qs = all_chooses b.typed.defs in
    let within : All IsWithin (asked_in b.typed) =
    subst (All IsWithin) (branched_chooses text cs b) (traced_within (map (λ c. c.0) cs) bs traced) in
    typed_unrefused text b.typed f b.is
    (λ q m. All-contains IsWithin (asked_in b.typed) q within (Contains-permutation qs (asked_in b.typed) q (ordered_same qs) m)) h
