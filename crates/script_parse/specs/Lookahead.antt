-- What is known of a whole text before its lines are read.
use Rattle.std.specs.Prelude.{◌≡◌, ℕ, length, List, Option}
use denote.Ref.{Bor}
use Rattle.std.specs.BTreeMap.{BTreeMap, get_by}
use Rattle.std.specs.Cmp.Lexicographic.{slice_cmp}
use Rattle.std.specs.Ordering.{nat_cmp}
use Rattle.pct_ask.specs.NameLists.{place_of}
use Rattle.script_tree.specs.Lines.{threads_begun}
use Rattle.script_tree.specs.Faults.{are_blank}
use Rattle.script_parse.specs.declared.ahead.Lookahead.{Lookahead}

-- a name's place, as the map has it
abbrev pub place_among : BTreeMap (Bor (List ℕ)) ℕ → List ℕ → Option ℕ
place_among places name = get_by (λ k. slice_cmp nat_cmp name k.now) places

-- the map has the place of each of these names, and no other
abbrev pub AreMapPlaces : BTreeMap (Bor (List ℕ)) ℕ → List (List ℕ) → Type 0
AreMapPlaces places names = (name : List ℕ) → place_among places name ≡ place_of name names

-- a thread's place, by its name
abbrev pub place_ahead : Lookahead → List ℕ → Option ℕ
place_ahead ahead name = place_among ahead.places name

-- the places are those of these threads
pub record HasPlaces (ahead : Lookahead) (names : List (List ℕ)) : Type 0 where
  pub places : AreMapPlaces ahead.places names
  pub threads : ahead.threads ≡ length names

-- what is known of these lines
pub record HasSeen (ahead : Lookahead) (texts : List (List ℕ)) : Type 0 where
  pub has_places : HasPlaces ahead (threads_begun texts)
  pub lines : ahead.lines ≡ length texts
  pub blank : ahead.blank ≡ are_blank texts
