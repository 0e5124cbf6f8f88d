use Rattle.std.proofs.Common.{◌≡◌, map, take}
use Rattle.cf_tree.specs.CodeView.{code_tree}
use Rattle.cf_linear.specs.Arm.{piece_code}
use Rattle.cf_linear.specs.Views.{plain_layout}
use Rattle.cf_setwit.specs.Sources.{level_from}
use Rattle.cf_setwit.proofs.pieces.pieces.Given as goal

abbrev pub invariant-loop-mask : goal.invariant-loop-mask
invariant-loop-mask l = map code_tree l.pieces.items ≡ map (piece_code (plain_layout l.layout) l.names (level_from l.sources.regions) l.sources.fresh)
    (take l.mask-index l.masks)
