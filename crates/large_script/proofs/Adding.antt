-- One more name of those that may be added.
use Rattle.std.proofs.Common.{◌≡◌, ℕ, ◌+◌, ◌<◌, true, false, List, ◌∷◌, length, drop, map, Bor}
use Rattle.std.proofs.Common.{subst}
use Rattle.std.specs.Prelude.{◌&&◌, not, nat_lt, slice_index_or}
use Rattle.std.proofs.lemmas.Bool.{and_parts, not-true, ltb-true}
use Rattle.std.proofs.lemmas.List.{at_drop_more}
use Rattle.pct_ask.specs.Words.{is_name, is_among}
use Rattle.pct_ask.specs.NameLists.{NameLists, list_of, with_name, all_names}
use Rattle.pct_ask.specs.declared.names.NameKind.{NameKind}
use Rattle.large_script.specs.Large.{may_add}

-- the texts of words that the code borrows
abbrev pub texts : List (Bor (List ℕ)) → List (List ℕ)
texts words = map (λ word. word.now) words

pub texts-drop : (words : List (Bor (List ℕ))) (i : ℕ) (d : Bor (List ℕ)) → i < length words
    → texts (drop i words) ≡ (slice_index_or words i d).now ∷ texts (drop (i + 1) words)
texts-drop words i d low = at_drop_more (λ rest. texts rest) words i d low

-- the first name may be added, and the others behind it
pub record MayAddFirst (kind : NameKind) (name : List ℕ) (names : List (List ℕ))
    (lists : NameLists) : Type 0 where
  pub lawful : is_name 1 name ≡ true
  pub fresh : is_among name (all_names lists) ≡ false
  pub room : length (list_of kind lists) < 64
  pub others : may_add kind names (with_name kind name lists) ≡ true

may_add_first : (kind : NameKind) (name : List ℕ) (names : List (List ℕ)) (lists : NameLists)
    → may_add kind (name ∷ names) lists ≡ true → MayAddFirst kind name names lists
may_add_first kind name names lists allowed =
    let few = nat_lt (length (list_of kind lists)) 64 in
    let new = not (is_among name (all_names lists)) in
    let rest = may_add kind names (with_name kind name lists) in
    let all = and_parts (is_name 1 name && new && few) rest allowed in
    let three = and_parts (is_name 1 name && new) few all.0 in
    let two = and_parts (is_name 1 name) new three.0 in
    record {
      lawful = two.0;
      fresh = not-true (is_among name (all_names lists)) two.1;
      room = ltb-true (length (list_of kind lists)) 64 three.1;
      others = all.1;
    }

pub may_add_at : (kind : NameKind) (words : List (Bor (List ℕ))) (i : ℕ) (d : Bor (List ℕ))
    (lists : NameLists) → i < length words → may_add kind (texts (drop i words)) lists ≡ true
    → MayAddFirst kind (slice_index_or words i d).now (texts (drop (i + 1) words)) lists
may_add_at kind words i d lists low allowed =
    may_add_first kind (slice_index_or words i d).now (texts (drop (i + 1) words)) lists
    (subst (λ names. may_add kind names lists ≡ true) (texts-drop words i d low) allowed)
