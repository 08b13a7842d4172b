-- What a list of released threads keeps beside the threads.
use Rattle.std.specs.Prelude.{ℕ, Bool, false, List, map, slice_index_or}
use Rattle.sync_store.specs.Store.{Release}

-- a released thread, by a list that has each thread's flag
abbrev pub release_by : List Bool → ℕ → Release
release_by serial t = record { thread = t; serial = slice_index_or serial t false }

-- the released threads, by the list of the threads and the flags
abbrev pub releases_by : List Bool → List ℕ → List Release
releases_by serial threads = map (release_by serial) threads
