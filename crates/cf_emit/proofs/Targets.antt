-- Printed targets are spelled by their tokens.
use Rattle.std.proofs.Common.{◌≡◌, ℕ, List, [], ◌++◌, map, refl, sym, subst, codes, append_assoc}
use Rattle.cf_lex.specs.Editions.{IsOfEdition}
use Rattle.cf_lex.proofs.EditionLemmas.{edition_is}
use Rattle.cf_tree.specs.declared.base.Edition.{Edition}
use Rattle.cf_tree.specs.declared.base.Edition.TheVariants.{Two, Three}
use Rattle.cf_lex.specs.Places.{first_place}
use Rattle.cf_lex.specs.Tokens.{none}
use Rattle.cf_lex.specs.declared.token.TokenKind.TheVariants.{Word, Sign}
use Rattle.cf_reader.specs.Tokens.{Form, ◌⨟◌, Next}
use Rattle.cf_tree.specs.declared.target.RawTarget.{RawTarget}
use Rattle.cf_tree.specs.CodeView.{code_tree}
use Rattle.cf_tree.specs.Spelled.{HasSpelling}
use Rattle.cf_target.specs.Spelling.{SpellsHeader, target_tree, IsTarget}
use Rattle.cf_target.proofs.Only.{one_law}
use Rattle.cf_emit.specs.Printed.{line_end, base_text, header_text, listed, results_text, code_text, target_text}
use Rattle.cf_emit.specs.ReadsBack.{ReadsBack}
use Rattle.cf_emit.proofs.Spans.{Spans, Says, then, white_behind, spaced, opening, colon}
use Rattle.cf_emit.proofs.Words.{params_say, results_say, header_says}
use Rattle.cf_emit.proofs.Codes.{equals, code_says}

target_form : {X Y Z : Form} (edition : Edition) (p r c : List ℕ) → ((rest : List ℕ) → Spans X (p ++ (codes ")" ++ rest)) rest) → Says Y r → Says Z c →
    Spans (SpellsHeader edition ⨟ Next (Word (codes "main")) ⨟ Next (Sign (codes "(")) ⨟ X ⨟ Next (Sign (codes ":")) ⨟ Y ⨟ Next (Sign (codes "=")) ⨟ Z)
    (header_text edition ++ line_end ++ codes "main (" ++ p ++ codes "): " ++ r ++ codes " = " ++ c ++ line_end) []
target_form edition p r c params results code =
    let value : List ℕ = c ++ line_end in
    let typed : List ℕ = r ++ (codes " = " ++ value) in
    let line : List ℕ = p ++ (codes ")" ++ (codes ": " ++ typed)) in
    simp append_assoc (then (header_says edition (codes "main (" ++ line))
    (then (spaced (codes "main") (codes "(" ++ line) refl) (then (opening.gives line) (then (params (codes ": " ++ typed))
    (then (colon.gives typed) (then (results (codes " = " ++ value) (equals.begins value))
    (then (equals.gives value) (white_behind 10 refl (code line_end refl)))))))))

of_its_edition : (edition : Edition) (t : RawTarget) → IsOfEdition edition (target_text edition t)
of_its_edition Two t = edition_is (target_text Two t) Two refl
of_its_edition Three t = edition_is (target_text Three t) Three refl

reads_back : (edition : Edition) (t : RawTarget) → HasSpelling t → ReadsBack edition (target_tree t) (target_text edition t)
reads_back edition t h =
    let s = target_form edition (listed (map base_text t.params.items)) (results_text t.results.items) (code_text (code_tree t.code))
    (params_say t.params.items)
    (results_say t.results.items h.2)
    (code_says (code_tree t.code) h.1) in
    let g = s.spans first_place in
    let x = g.1 [] g.0 none in
    let spelled : IsTarget edition (target_tree t) x.0 = (x.2, h.0) in
    record {
      of_edition = of_its_edition edition t;
      tokens = x.0;
      end = g.0;
      lexed = ([], x.1, refl);
      spelled = spelled;
      only = λ other w. one_law edition x.0 other (target_tree t) w spelled;
    }

pub reads_back_as : (edition : Edition) (t : RawTarget) (text : List ℕ) → text ≡ target_text edition t → HasSpelling t →
    ReadsBack edition (target_tree t) text
reads_back_as edition t text is h = subst (ReadsBack edition (target_tree t)) (sym is) (reads_back edition t h)
