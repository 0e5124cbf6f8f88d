-- The plain forms of the source that is checked, and of what is noted of a choose.
use Rattle.std.specs.Prelude.{map}
use Rattle.cf_advice.specs.OrView.{or_tree}
use Rattle.cf_advice.specs.SpotView.{spot_tree}
use Rattle.cf_answer.specs.Fronts.{File, Notes}
use Rattle.cf_answer.specs.declared.fronts.File.{File as DeclaredFile}
use Rattle.cf_answer.specs.declared.fronts.Notes.{Notes as DeclaredNotes}

abbrev pub file_view : DeclaredFile → File
file_view f = record { edition = f.edition; name = f.name.now; spots = map spot_tree f.spots.now }

abbrev pub notes_view : DeclaredNotes → Notes
notes_view n = record { outputs = n.outputs.now; ors = map or_tree n.ors.now }
