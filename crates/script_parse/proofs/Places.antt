-- Where names stand, with one more at the end of their list.
use Rattle.std.proofs.Common.{◌≡◌, ℕ, ◌+◌, ◌≤◌, Bool, true, false, cond, length, List, [], ◌∷◌}
use Rattle.std.proofs.Common.{◌++◌, Option, Some, None, refl, sym, ap, ◌∙◌, arith, length-append}
use Rattle.std.specs.Prelude.{◌==◌, not, nat_lt}
use Rattle.std.specs.BTreeMap.{BTreeMap, Updates}
use Rattle.std.specs.Bool.{one_answer}
use Rattle.std.specs.Cmp.Lexicographic.{slice_cmp}
use Rattle.std.specs.Ordering.{nat_cmp}
use Rattle.std.specs.Option.{is_some}
use Rattle.std.specs.List.{position_or_len}
use Rattle.std.specs.Str.{bytes_eq}
use Rattle.std.proofs.lemmas.Bool.Decides.{nat_tests}
use Rattle.std.proofs.lemmas.List.Folds.{position_or_len_push}
use Rattle.std.proofs.lemmas.List.Sums.{prefix_len-le-length}
use Rattle.std.proofs.lemmas.Map.Text.{btree_map_updates_str}
use Rattle.std.proofs.lemmas.Slice.Eq.{bytes_eq-Decides}
use denote.Ref.{Bor}
use Rattle.pct_ask.specs.NameLists.{place_of}
use Rattle.script_parse.specs.Lookahead.{place_among, AreMapPlaces}

-- where something stands among so many, or none
abbrev standing : ℕ → ℕ → Option ℕ
standing p n = cond (nat_lt p n) (Some p) None

-- the first of two, where it is there
abbrev first : Option ℕ → Option ℕ → Option ℕ
first a b = cond (is_some a) a b

first_cond : (t : Bool) (p : ℕ) (b : Option ℕ) → cond t (Some p) b ≡ first (cond t (Some p) None) b
first_cond true p b = refl
first_cond false p b = refl

stands_push : (p n : ℕ) (t : Bool) → p ≤ n
    → standing (cond (p == n) (n + cond t 0 1) p) (n + 1)
    ≡ cond (nat_lt p n) (Some p) (cond t (Some n) None)
stands_push p n true h = grind (arith, nat_tests)
stands_push p n false h = grind (arith, nat_tests)

-- a name's place in the longer list: its old one, or the new one where it is the name
pub place_push : (q name : List ℕ) (names : List (List ℕ))
    → place_of q (names ++ name ∷ [])
    ≡ first (place_of q names) (cond (bytes_eq q name) (Some (length names)) None)
place_push q name names =
    let p = position_or_len (bytes_eq q) names in
    rw (position_or_len_push (bytes_eq q) names name, length-append names (name ∷ []))
    (stands_push p (length names) (bytes_eq q name)
    (prefix_len-le-length (λ x. not (bytes_eq q x)) names)
    ∙ first_cond (nat_lt p (length names)) p (cond (bytes_eq q name) (Some (length names)) None))

same_place : (place : Option ℕ) (n : ℕ) (b : Bool) → (b ≡ true → is_some place ≡ true)
    → first place (cond b (Some n) None) ≡ place
same_place (Some i) n b h = refl
same_place None n false h = refl
same_place None n true h = let no : false ≡ true = h refl in absurd cc

new_place : (place : Option ℕ) (n : ℕ) (b : Bool) → (b ≡ true → is_some place ≡ false)
    → cond b (Some n) place ≡ first place (cond b (Some n) None)
new_place (Some i) n false h = refl
new_place (Some i) n true h = let no : true ≡ false = h refl in absurd cc
new_place None n b h = refl

here : (names : List (List ℕ)) (q name : List ℕ) (known : Bool)
    → is_some (place_of name names) ≡ known → bytes_eq q name ≡ true
    → is_some (place_of q names) ≡ known
here names q name known e t = let same : q ≡ name = (bytes_eq-Decides q name).0 t in rw same e

-- a name that has a place keeps it
pub places_same : (places : BTreeMap (Bor (List ℕ)) ℕ) (name : List ℕ) (names : List (List ℕ))
    → AreMapPlaces places names → is_some (place_among places name) ≡ true
    → AreMapPlaces places (names ++ name ∷ [])
places_same places name names known there q =
    let old : is_some (place_of name names) ≡ true = sym (ap is_some (known name)) ∙ there in
    known q ∙ sym (place_push q name names
    ∙ same_place (place_of q names) (length names) (bytes_eq q name)
    (here names q name true old))

swapped : (a b : List ℕ) → bytes_eq a b ≡ bytes_eq b a
swapped a b =
    one_answer (bytes_eq a b) (bytes_eq b a)
    (λ t. sym ((bytes_eq-Decides a b).0 t), λ e. (bytes_eq-Decides a b).1 (sym e))
    (bytes_eq-Decides b a)

-- a name that has no place gets the one behind the others
pub places_more : (old new : BTreeMap (Bor (List ℕ)) ℕ) (name : Bor (List ℕ)) (place : ℕ)
    (names : List (List ℕ)) → place ≡ length names → AreMapPlaces old names
    → is_some (place_among old name.now) ≡ false
    → Updates (λ x y. slice_cmp nat_cmp x.now y.now) old new name (Some place)
    → AreMapPlaces new (names ++ name.now ∷ [])
places_more old new name place names counted known missing updates q =
    let none : is_some (place_of name.now names) ≡ false =
    sym (ap is_some (known name.now)) ∙ missing in
    btree_map_updates_str name.now old new (Some place) updates q
    ∙ rw (known q, swapped name.now q, counted)
    (new_place (place_of q names) (length names) (bytes_eq q name.now)
    (here names q name.now false none))
    ∙ sym (place_push q name.now names)
