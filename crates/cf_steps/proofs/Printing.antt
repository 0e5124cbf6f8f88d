-- Printed blocks are spelled by their tokens.
use Rattle.std.proofs.Common.{◌≡◌, inl, inr, ℕ, zero, suc, ◌-◌, ◌^◌, ◌<◌, ◌≤◌, Bool, true, false, List, [], ◌∷◌, ◌++◌, map, refl, sym, subst, ◌∙◌, codes, arith, append_assoc, append-nil}
use Rattle.std.specs.Prelude.{ℤ, pos, negsuc, neg_ℤ, ◌≤ℤ◌, All, decimal}
use Rattle.std.specs.Fmt.{signed_decimal}
use Rattle.std.proofs.lemmas.Int.{ints}
use Rattle.std.proofs.lemmas.List.Elements.{All-head, All-tail}
use Rattle.cf_tree.specs.declared.base.Edition.{Edition}
use Rattle.cf_tree.specs.declared.base.Edition.TheVariants.{Two}
use Rattle.cf_num.specs.Limit.{IsWithin}
use Rattle.cf_lex.specs.Bytes.{is_in_word}
use Rattle.cf_lex.specs.Places.{first_place}
use Rattle.cf_lex.specs.Runs.{StopsAt}
use Rattle.cf_lex.specs.Tokens.{Lexes, none}
use Rattle.cf_lex.specs.declared.token.Token.{Token}
use Rattle.cf_lex.specs.declared.token.TokenKind.TheVariants.{Word, Sign}
use Rattle.cf_tree.specs.declared.base.Place.{Place}
use Rattle.cf_tree.specs.declared.target.RawTarget.{RawTarget}
use Rattle.cf_tree.specs.CodeView.{code_tree}
use Rattle.cf_tree.specs.DefView.{target_tree}
use Rattle.cf_tree.specs.Spelled.{HasSpelling}
use Rattle.cf_tree.specs.Words.{truth_text}
use Rattle.cf_reader.specs.Tokens.{Form, ◌⨟◌, Next, Others, Several}
use Rattle.cf_target.specs.Spelling.{SpellsNumber, SpellsHeader, SpellsPart}
use Rattle.cf_emit.specs.Printed.{line_end, base_text, more_texts, listed, results_text, code_text, target_text}
use Rattle.cf_emit.proofs.Spans.{Spans, Says, then, as_form, white_before, white_behind, is_plain, word, spaced, opening, closing, opening_brace, closing_brace, comma, semicolon, colon}
use Rattle.cf_emit.proofs.Forms.{first_part, next_part}
use Rattle.cf_emit.proofs.Words.{number_says, truth_says, params_say, results_say, header_says}
use Rattle.cf_emit.proofs.Codes.{equals, code_says}
use Rattle.cf_elim.specs.declared.act.Act.{Act}
use Rattle.cf_elim.specs.declared.act.Act.TheVariants.{Clean, Mix, Last, Search, Drop}
use Rattle.cf_steps.specs.declared.block.Block.{Block}
use Rattle.cf_steps.specs.declared.block.NamedTruth.{NamedTruth}
use Rattle.cf_steps.specs.Blocks.{BlockTree, block_tree}
use Rattle.cf_steps.specs.Printed.{side_text, act_text, acts_text, cases_text, named_text, head_text, block_text, blocks_text}
use Rattle.cf_steps.specs.ReadsBack.{ReadsBack}
use Rattle.cf_elim.specs.Acts.{IsColumn, IsSpelledAct}
use Rattle.cf_steps.specs.Spelled.{AreSpelledCases, IsSpelledBlock, is_word, IsSpelledTruth, IsSpelledHead}
use Rattle.cf_steps.specs.Spelling.{SpellsColumn, SpellsFactor, side_kind, SpellsAct, SpellsActs, SpellsCases, NextName, SpellsTruth, SpellsHead, SpellsBlock, AreBlocks}
use Rattle.cf_steps.proofs.Only.{one_law}

-- ---- numbers
not_negated : (n : ℕ) (m : ℤ) → pos 1 ≤ℤ m → pos n ≡ neg_ℤ m → ⊥
not_negated n (pos zero) l e = omega (arith, ints, l)
not_negated n (pos (suc m)) l e = cc
not_negated n (negsuc m) l e = omega (arith, ints, l)

column_fits : (n : ℕ) → IsColumn n → n ≤ 2 ^ 127 - 1
column_fits n h = omega (arith, h)

column_says : (n : ℕ) → IsColumn n → Says (SpellsColumn n) (decimal n)
column_says n h rest stops = as_form turned (number_says (pos n) (column_fits n h) rest stops)
  where
    turned : (ts more : List Token) → SpellsNumber (pos n) ts more → SpellsColumn n ts more
    turned ts more (inl (p, (w, l))) = (h, (p, w))
    turned ts more (inr (m, (mid, s, (p, (w, l))), e)) = absurd (not_negated n m l e)

factor_says : (k : ℤ) → IsWithin k → Says (SpellsFactor k) (signed_decimal k)
factor_says k h rest stops = as_form turned (number_says k h rest stops)
  where
    turned : (ts more : List Token) → SpellsNumber k ts more → SpellsFactor k ts more
    turned ts more (inl w) = inl w
    turned ts more (inr (m, (mid, s, (p, (w, l))), e)) = inr (m, (mid, s, (p, (w, omega (arith, ints, l)))), e)

side_says : (lower : Bool) → Says (Next (side_kind lower)) (side_text lower)
side_says true rest stops = word (codes "lower") rest refl stops
side_says false rest stops = word (codes "upper") rest refl stops

-- ---- steps
-- a part and a space
apart : {X : Form} (w rest : List ℕ) → Says X w → Spans X (w ++ (32 ∷ rest)) rest
apart w rest s = white_behind 32 refl (s (32 ∷ rest) refl)

one_form : {X : Form} (w x : List ℕ) → is_plain w ≡ true → Says X x → Says (Next (Word w) ⨟ X) (w ++ codes " " ++ x)
one_form w x plain s rest stops = simp append_assoc (then (spaced w (x ++ rest) plain) (s rest stops))

two_form : {X Y : Form} (w x y : List ℕ) → is_plain w ≡ true → Says X x → Says Y y → Says (Next (Word w) ⨟ X ⨟ Y) (w ++ codes " " ++ x ++ codes " " ++ y)
two_form w x y plain s t rest stops = simp append_assoc (then (spaced w (x ++ (32 ∷ (y ++ rest))) plain) (then (apart x (y ++ rest) s) (t rest stops)))

six_form : {X Y A B C D : Form} (w x y a b c d : List ℕ) → is_plain w ≡ true → Says X x → Says Y y → Says A a → Says B b → Says C c → Says D d →
    Says (Next (Word w) ⨟ X ⨟ Y ⨟ A ⨟ B ⨟ C ⨟ D)
    (w ++ codes " " ++ x ++ codes " " ++ y ++ codes " " ++ a ++ codes " " ++ b ++ codes " " ++ c ++ codes " " ++ d)
six_form w x y a b c d plain sx sy sa sb sc sd rest stops =
    let last : List ℕ = d ++ rest in
    let fifth : List ℕ = c ++ (32 ∷ last) in
    let fourth : List ℕ = b ++ (32 ∷ fifth) in
    let third : List ℕ = a ++ (32 ∷ fourth) in
    let second : List ℕ = y ++ (32 ∷ third) in
    simp append_assoc (then (spaced w (x ++ (32 ∷ second)) plain) (then (apart x second sx) (then (apart y third sy) (then (apart a fourth sa)
    (then (apart b fifth sb) (then (apart c last sc) (sd rest stops)))))))

act_says : (act : Act) → IsSpelledAct act → Says (SpellsAct act) (act_text act)
act_says Clean h = λ rest stops. word (codes "clean") rest refl stops
act_says (Mix x y a b c d) h =
    six_form (codes "mix") (decimal x) (decimal y) (signed_decimal a) (signed_decimal b) (signed_decimal c) (signed_decimal d) refl (column_says x h.0)
    (column_says y h.1) (factor_says a h.2) (factor_says b h.3) (factor_says c h.4) (factor_says d h.5)
act_says (Last e) h = one_form (codes "last") (decimal e) refl (column_says e h)
act_says (Search x lower) h = two_form (codes "search") (decimal x) (side_text lower) refl (column_says x h) (side_says lower)
act_says (Drop x) h = one_form (codes "drop") (decimal x) refl (column_says x h)

line_form : {X Y : Form} (a m end rest : List ℕ) → Says X a → Spans Y (m ++ end) rest →
    Spans (X ⨟ Next (Sign (codes ";")) ⨟ Y) (a ++ codes ";" ++ line_end ++ m ++ end) rest
line_form a m end rest s t =
    simp append_assoc (then (s (codes ";" ++ (line_end ++ (m ++ end))) refl) (then (white_behind 10 refl (semicolon.gives (10 ∷ (m ++ end)))) t))

acts_say : (acts : List Act) → All IsSpelledAct acts → (rest : List ℕ) → Spans (SpellsActs acts) (acts_text acts ++ (codes "}" ++ rest)) rest
acts_say [] h rest = closing_brace.gives rest
acts_say (act ∷ acts) h rest =
    line_form (act_text act) (acts_text acts) (codes "}" ++ rest) rest (act_says act (All-head IsSpelledAct act acts h))
    (acts_say acts (All-tail IsSpelledAct act acts h) rest)

-- a brace that ends its line
opened : (rest : List ℕ) → Spans (Next (Sign (codes "{"))) (codes "{" ++ (line_end ++ rest)) rest
opened rest = white_behind 10 refl (opening_brace.gives (10 ∷ rest))

case_form : {X Y : Form} (m n end rest : List ℕ) → ((more : List ℕ) → Spans X (m ++ (codes "}" ++ more)) more) → Spans Y (n ++ end) rest →
    Spans (Next (Word (codes "case")) ⨟ (Next (Sign (codes "{")) ⨟ X) ⨟ Y) (codes "case {" ++ line_end ++ m ++ codes "}" ++ line_end ++ n ++ end) rest
case_form m n end rest s t =
    let inner : List ℕ = m ++ (codes "}" ++ (line_end ++ (n ++ end))) in
    simp append_assoc (then (spaced (codes "case") (codes "{" ++ (line_end ++ inner)) refl)
    (then (then (opened inner) (white_behind 10 refl (s (10 ∷ (n ++ end))))) t))

cases_say : (cases : List (List Act)) → AreSpelledCases cases → (rest : List ℕ) → Spans (SpellsCases cases) (cases_text cases ++ (codes "}" ++ rest)) rest
cases_say [] h rest = closing_brace.gives rest
cases_say (acts ∷ cases) h rest =
    case_form (acts_text acts) (cases_text cases) (codes "}" ++ rest) rest (acts_say acts (All-head (λ acts. All IsSpelledAct acts) acts cases h))
    (cases_say cases (All-tail (λ acts. All IsSpelledAct acts) acts cases h) rest)

-- ---- heads
plain_word : (w : List ℕ) → is_word w ≡ true → is_plain w ≡ true
plain_word [] h = h
plain_word (b ∷ w) h = h

name_says : (t : NamedTruth) → IsSpelledTruth t → Says (NextName t.name) t.name
name_says t h rest stops = as_form (λ ts more w. (w.0, (w.1, h.free))) (word t.name rest (plain_word t.name h.word) stops)

truth_form : {X Y : Form} (a b : List ℕ) → Says X a → Says Y b → Says (X ⨟ Next (Sign (codes "=")) ⨟ Y) (a ++ codes " = " ++ b)
truth_form a b s t rest stops =
    simp append_assoc (then (s (codes " = " ++ (b ++ rest)) (equals.begins (b ++ rest))) (then (equals.gives (b ++ rest)) (t rest stops)))

named_says : (t : NamedTruth) → IsSpelledTruth t → Says (SpellsTruth t) (named_text t)
named_says t h = truth_form t.name (truth_text t.value) (name_says t h) (truth_says t.value)

more_begin : (ts : List (List ℕ)) (rest : List ℕ) → StopsAt is_in_word (more_texts ts ++ (codes ")" ++ rest))
more_begin [] rest = refl
more_begin (t ∷ ts) rest = refl

more_say : (truths : List NamedTruth) → All IsSpelledTruth truths → (rest : List ℕ) →
    Spans (Others SpellsTruth (Sign (codes ",")) (Sign (codes ")")) truths) (more_texts (map named_text truths) ++ (codes ")" ++ rest)) rest
more_say [] h rest = closing.gives rest
more_say (t ∷ truths) h rest =
    next_part (codes ", ") (named_text t) (more_texts (map named_text truths)) (codes ")" ++ rest) comma
    (named_says t (All-head IsSpelledTruth t truths h)) (more_begin (map named_text truths) rest) (more_say truths (All-tail IsSpelledTruth t truths h) rest)

truths_say : (t : NamedTruth) (truths : List NamedTruth) → All IsSpelledTruth (t ∷ truths) → (rest : List ℕ) →
    Spans (Several SpellsTruth (Sign (codes ",")) (Sign (codes ")")) (t ∷ truths)) (listed (map named_text (t ∷ truths)) ++ (codes ")" ++ rest)) rest
truths_say t truths h rest =
    first_part (named_text t) (more_texts (map named_text truths)) (codes ")" ++ rest) (named_says t (All-head IsSpelledTruth t truths h))
    (more_begin (map named_text truths) rest) (more_say truths (All-tail IsSpelledTruth t truths h) rest)

brace_says : (rest : List ℕ) → Spans (Next (Sign (codes "{"))) (codes " {" ++ rest) rest
brace_says rest = white_before 32 refl (opening_brace.gives rest)

head_form : {X : Form} (a rest : List ℕ) → ((more : List ℕ) → Spans X (a ++ (codes ")" ++ more)) more) →
    Spans (Next (Sign (codes "(")) ⨟ X ⨟ Next (Sign (codes "{"))) ((codes " (" ++ a ++ codes ")") ++ (codes " {" ++ rest)) rest
head_form a rest s =
    let end : List ℕ = codes " {" ++ rest in
    simp append_assoc (white_before 32 refl (then (opening.gives (a ++ (codes ")" ++ end))) (then (s end) (brace_says rest))))

head_says : (edition : Edition) (truths : List NamedTruth) → IsSpelledHead edition truths → (rest : List ℕ) →
    Spans (SpellsHead edition truths) (head_text truths ++ (codes " {" ++ rest)) rest
head_says edition [] h rest = brace_says rest
head_says edition (t ∷ truths) h rest =
    as_form (λ ts more w. (h.0, w)) (head_form (listed (map named_text (t ∷ truths))) rest (truths_say t truths h.1))

head_begins : (truths : List NamedTruth) (rest : List ℕ) → StopsAt is_in_word (head_text truths ++ (codes " {" ++ rest))
head_begins [] rest = refl
head_begins (t ∷ truths) rest = refl

-- ---- blocks
target_form : {X Y Z : Form} (p r c rest : List ℕ) → ((more : List ℕ) → Spans X (p ++ (codes ")" ++ more)) more) → Says Y r → Says Z c →
    Spans (SpellsHeader Two ⨟ Next (Word (codes "main")) ⨟ Next (Sign (codes "(")) ⨟ X ⨟ Next (Sign (codes ":")) ⨟ Y ⨟ Next (Sign (codes "=")) ⨟ Z)
    (codes "comfusy 2" ++ line_end ++ codes "main (" ++ p ++ codes "): " ++ r ++ codes " = " ++ c ++ line_end ++ rest) rest
target_form p r c rest params results code =
    let value : List ℕ = c ++ (line_end ++ rest) in
    let typed : List ℕ = r ++ (codes " = " ++ value) in
    let line : List ℕ = p ++ (codes ")" ++ (codes ": " ++ typed)) in
    simp append_assoc (then (header_says Two (codes "main (" ++ line))
    (then (spaced (codes "main") (codes "(" ++ line) refl) (then (opening.gives line) (then (params (codes ": " ++ typed))
    (then (colon.gives typed) (then (results (codes " = " ++ value) (equals.begins value))
    (then (equals.gives value) (white_behind 10 refl (code (line_end ++ rest) refl)))))))))

target_says : (t : RawTarget) → HasSpelling t → (rest : List ℕ) → Spans (SpellsPart Two 500 (target_tree t)) (target_text Two t ++ rest) rest
target_says t h rest =
    as_form (λ ts more w. (h.0, w)) (target_form (listed (map base_text t.params.items)) (results_text t.results.items) (code_text (code_tree t.code)) rest
    (params_say t.params.items) (results_say t.results.items h.2) (code_says (code_tree t.code) h.1))

block_form : {X H Y Z : Form} (a o m t rest : List ℕ) → Says X a → ((more : List ℕ) → StopsAt is_in_word (o ++ (codes " {" ++ more))) →
    ((more : List ℕ) → Spans H (o ++ (codes " {" ++ more)) more) → ((more : List ℕ) → Spans Y (m ++ (codes "}" ++ more)) more) → Spans Z (t ++ rest) rest →
    Spans (Next (Word (codes "choose")) ⨟ X ⨟ H ⨟ Y ⨟ Z)
    (codes "choose " ++ a ++ o ++ codes " {" ++ line_end ++ m ++ codes "}" ++ line_end ++ t ++ rest) rest
block_form a o m t rest number begins head cases target =
    let inner : List ℕ = line_end ++ (m ++ (codes "}" ++ (line_end ++ (t ++ rest)))) in
    let front : List ℕ = o ++ (codes " {" ++ inner) in
    simp append_assoc (then (spaced (codes "choose") (a ++ front) refl)
    (then (number front (begins inner)) (then (head inner)
    (then (white_before 10 refl (white_behind 10 refl (cases (10 ∷ (t ++ rest))))) target))))

-- the block of these parts
abbrev block_with : ℕ → List NamedTruth → List (List Act) → RawTarget → BlockTree
block_with n truths cases t = record { number = n; truths = truths; cases = cases; target = target_tree t }

block_says : (edition : Edition) (n : ℕ) (truths : List NamedTruth) (cases : List (List Act)) (t : RawTarget) → IsColumn n → IsSpelledHead edition truths →
    AreSpelledCases cases → HasSpelling t → (rest : List ℕ) →
    Spans (SpellsBlock edition 500 (block_with n truths cases t)) (block_text n truths cases t ++ rest) rest
block_says edition n truths cases t hn hh hc ht rest =
    block_form (decimal n) (head_text truths) (cases_text cases) (target_text Two t) rest (column_says n hn) (head_begins truths)
    (head_says edition truths hh) (cases_say cases hc) (target_says t ht rest)

pub block_reads_back : (edition : Edition) (n : ℕ) (truths : List NamedTruth) (cases : List (List Act)) (t : RawTarget) (text : List ℕ) →
    text ≡ block_text n truths cases t → n < 2 ^ 32 → IsSpelledHead edition truths → AreSpelledCases cases → HasSpelling t →
    ReadsBack edition (block_with n truths cases t ∷ []) text
block_reads_back edition n truths cases t text is hn hh hc ht =
    let g = (block_says edition n truths cases t hn hh hc ht []).spans first_place in
    let x = g.1 [] g.0 none in
    let bs : List BlockTree = block_with n truths cases t ∷ [] in
    let spelled : AreBlocks edition bs x.0 = ([], x.2, refl) in
    subst (ReadsBack edition bs) (append-nil (block_text n truths cases t) ∙ sym is)
    (record { tokens = x.0; end = g.0; lexed = ([], x.1, refl); spelled = spelled; only = λ others w. one_law edition x.0 others bs w spelled })

-- the blocks from a place on, up to the end of the text
record Lexed (edition : Edition) (bs : List BlockTree) (p : Place) (text : List ℕ) : Type 0 where
  tokens : List Token
  end : Place
  lexed : Lexes Two (2 ^ 127 - 1) p text tokens end []
  spelled : AreBlocks edition bs tokens

abbrev HasSpelledHead : Edition → Block → Type 0
HasSpelledHead edition b = IsSpelledHead edition b.truths.items

blocks_say : (edition : Edition) (bs : List Block) → All IsSpelledBlock bs → All (HasSpelledHead edition) bs → (p : Place) →
    Lexed edition (map block_tree bs) p (blocks_text bs)
blocks_say edition [] h k p = record { tokens = []; end = p; lexed = none; spelled = refl }
blocks_say edition (b ∷ bs) h k p =
    let s = All-head IsSpelledBlock b bs h in
    let o = All-head (HasSpelledHead edition) b bs k in
    let g = (block_says edition b.number b.truths.items (block_tree b).cases b.target s.number o s.cases s.target (blocks_text bs)).spans p in
    let more = blocks_say edition bs (All-tail IsSpelledBlock b bs h) (All-tail (HasSpelledHead edition) b bs k) g.0 in
    let x = g.1 more.tokens more.end more.lexed in
    record { tokens = x.0; end = more.end; lexed = x.1; spelled = (more.tokens, x.2, more.spelled) }

pub blocks_read_back : (edition : Edition) (bs : List Block) → All IsSpelledBlock bs → All (λ b. IsSpelledHead edition b.truths.items) bs →
    ReadsBack edition (map block_tree bs) (blocks_text bs)
blocks_read_back edition bs h k =
    let s = blocks_say edition bs h k first_place in
    record {
      tokens = s.tokens;
      end = s.end;
      lexed = ([], s.lexed, refl);
      spelled = s.spelled;
      only = λ others w. one_law edition s.tokens others (map block_tree bs) w s.spelled;
    }
