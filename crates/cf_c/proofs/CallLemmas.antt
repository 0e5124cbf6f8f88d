-- What a call promises, told of what the objects tell before it; and how a call from C ended.
use Rattle.std.proofs.Common.{◌≡◌, ◌∙◌, refl, subst, ap, ℕ, List, Result, Ok, Err, IfOk, OnErr, IsErrOf}
use Rattle.cf_io.specs.Seen.{ShelfSeen, SinkSeen, SourceSeen}
use Rattle.cf_answer.specs.Outside.{outside}
use Rattle.cf_answer.specs.declared.status.Status.{Status}
use Rattle.cf_memory.specs.Files.{fresh_files}
use Rattle.cf_memory.specs.Held.{fresh_text, fresh_sink, growing_seen}
use Rattle.cf_memory.specs.declared.file.File.{File}
use Rattle.cf_memory.specs.declared.growing.Growing.{Growing}
use Rattle.cf_c.specs.Answered.{IsCalled, IsNoText, Ended}
use Rattle.cf_c.specs.declared.words.Uncalled.{Uncalled}
use Rattle.cf_c.specs.declared.words.Uncalled.TheVariants.{NoText, NoMemory}

pub at_objects : (words : List (List ℕ)) (shelf shelf' : ShelfSeen) (input input' : SourceSeen) (before out errors_before errors : SinkSeen)
    (status : Status) → shelf ≡ shelf' → input ≡ input' → IsCalled words (outside shelf input before) out errors_before errors status →
    IsCalled words (outside shelf' input' before) out errors_before errors status
at_objects words shelf shelf' input input' before out errors_before errors status e f is =
    subst (λ s. IsCalled words (outside s input' before) out errors_before errors status) e
    (subst (λ i. IsCalled words (outside shelf i before) out errors_before errors status) f is)

pub at_sinks : (words : List (List ℕ)) (files : List File) (input : List ℕ) (before before' out errors_before errors_before' errors : SinkSeen)
    (how : Result Status Uncalled) → before ≡ before' → errors_before ≡ errors_before' →
    IfOk how (λ status. IsCalled words (outside (fresh_files files) (fresh_text input) before) out errors_before errors status) →
    IfOk how (λ status. IsCalled words (outside (fresh_files files) (fresh_text input) before') out errors_before' errors status)
at_sinks words files input before before' out errors_before errors_before' errors how e f is =
    subst (λ s. IfOk how (λ status. IsCalled words (outside (fresh_files files) (fresh_text input) s) out errors_before' errors status)) e
    (subst (λ s. IfOk how (λ status. IsCalled words (outside (fresh_files files) (fresh_text input) before) out s errors status)) f is)

pub ended_of : (words : List (List ℕ)) (files : List File) (input : List ℕ) (out errors : SinkSeen) (how : Result Status Uncalled) →
    IfOk how (λ status. IsCalled words (outside (fresh_files files) (fresh_text input) fresh_sink) out fresh_sink errors status) →
    OnErr how (out ≡ fresh_sink) → OnErr how (errors ≡ fresh_sink) → (IsErrOf how NoText → IsNoText words) → Ended words files input out errors how
ended_of words files input out errors (Ok status) called o e n = called
ended_of words files input out errors (Err NoText) called o e n = (n refl, o, e)
ended_of words files input out errors (Err NoMemory) called o e n = (o, e)

-- a sink that is as before is empty
pub empty_still : (how : Result Status Uncalled) (before after : Growing) → OnErr how (after ≡ before) → growing_seen before ≡ fresh_sink →
    OnErr how (growing_seen after ≡ fresh_sink)
empty_still (Ok status) before after same empty = same
empty_still (Err fault) before after same empty = ap growing_seen same ∙ empty
