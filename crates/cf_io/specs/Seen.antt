-- What each object outside tells of itself: its bytes, where it tells them, and its counts.
use Rattle.std.specs.Prelude.{ℕ, List, Option, None}

-- The text under each name and what is left of the fetched one, where they are told; the faults of each name; how often a text was fetched; how many bytes
-- reads have given, and how many of them have shown an end.
pub record ShelfSeen : Type 0 where
  pub texts : List ℕ → Option (List ℕ)
  pub left : Option (List ℕ)
  pub faults : List ℕ → ℕ
  pub fetches : ℕ
  pub given : ℕ
  pub ends : ℕ

-- the bytes that are left, where they are told, its faults, how many bytes reads have given, and how many of them have shown the end
pub record SourceSeen : Type 0 where
  pub left : Option (List ℕ)
  pub faults : ℕ
  pub given : ℕ
  pub ends : ℕ

-- the bytes that it holds, where they are told, and its faults
pub record SinkSeen : Type 0 where
  pub held : Option (List ℕ)
  pub faults : ℕ

-- what an object tells that tells no bytes
abbrev pub untold_shelf : ℕ → ℕ → ℕ → ℕ → ShelfSeen
untold_shelf faults fetches given ends =
    record { texts = λ name. None; left = None; faults = λ name. faults; fetches = fetches; given = given; ends = ends }

abbrev pub untold_source : ℕ → ℕ → ℕ → SourceSeen
untold_source faults given ends = record { left = None; faults = faults; given = given; ends = ends }

abbrev pub untold_sink : ℕ → SinkSeen
untold_sink faults = record { held = None; faults = faults }
