-- A relation has outputs where another one always has some, and all of these solve it.
use Rattle.std.proofs.Common.{◌≡◌, Bool, true, List, [], ◌++◌, subst}
use Rattle.std.specs.Prelude.{Result, Ok, Err, IfOk}
use Rattle.cf_tree.specs.declared.base.Base.{Base}
use Rattle.cf_tree.specs.declared.memory.NoMemory.{NoMemory}
use Rattle.cf_tree.specs.Relation.{Holds}
use Rattle.cf_tree.specs.RelTree.{RelTree, rel_and, rel_not}
use Rattle.cf_tree.specs.Values.{Value}
use Rattle.cf_tree.proofs.SetLemmas.{on_bool}
use Rattle.cf_venn.proofs.LevelLaws.{have_append}
use Rattle.cf_holds.specs.Truth.{is_true}
use Rattle.cf_holds.proofs.TruthLaws.{decided}
use Rattle.cf_read.specs.Reading.{NeverHolds}
use Rattle.cf_warn.specs.Solutions.{AreAlways}

-- what cannot fail holds
holds_unless : (rel : RelTree) (env : List Value) → ((Holds rel env → ⊥) → ⊥) → Holds rel env
holds_unless rel env h = on_bool (is_true rel env) (decided rel env).0
    (λ t. absurd (h (λ k. let y : is_true rel env ≡ true = (decided rel env).1 k in absurd (cc))))

pub witness_always : (scope outputs bases : List Base) (rel witness : RelTree) → bases ≡ scope ++ outputs → AreAlways scope outputs witness →
    NeverHolds [] bases (rel_and witness (rel_not rel)) → AreAlways scope outputs rel
witness_always scope outputs bases rel witness same always never env have =
    let s = always env have in
    let found = rw same at never in (
      s.0,
      (s.1.0, holds_unless rel (env ++ s.0) (λ fails. found.never [] (env ++ s.0) tt (have_append scope outputs env s.0 have s.1.0) (s.1.1, fails))),
    )

-- what is found of a witness
pub witness_told : (scope outputs s o bases : List Base) (rel r witness : RelTree) → s ≡ scope → o ≡ outputs → r ≡ rel → bases ≡ scope ++ outputs →
    AreAlways s o witness → (a : Result Bool NoMemory) → IfOk a (λ b. b ≡ true → NeverHolds [] bases (rel_and witness (rel_not r))) →
    IfOk a (λ b. b ≡ true → AreAlways scope outputs rel)
witness_told scope outputs s o bases rel r witness es eo er same always (Ok b) h = λ e.
    witness_always scope outputs bases rel witness same (subst (λ x. AreAlways x outputs witness) es (subst (λ y. AreAlways s y witness) eo always))
    (subst (λ q. NeverHolds [] bases (rel_and witness (rel_not q))) er (h e))
witness_told scope outputs s o bases rel r witness es eo er same always (Err f) h = tt
