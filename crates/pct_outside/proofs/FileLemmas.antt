-- The files of a map by text, seen as a finite map.
use Rattle.std.proofs.Common.{◌≡◌, ℕ, true, false, Bool, cond, List, [], ◌∷◌, map, Option, Some}
use Rattle.std.proofs.Common.{option_map, String, Vec, string_bytes, refl, sym, ap, ◌∙◌}
use Rattle.std.specs.Ordering.{nat_cmp, eq_by_cmp}
use Rattle.std.specs.Cmp.{eq_by_cmp_equiv}
use Rattle.std.specs.Cmp.Lexicographic.{slice_cmp, nat_list_cmp_total}
use Rattle.std.specs.Str.{bytes_eq}
use Rattle.std.specs.Map.{lookup, update}
use Rattle.std.specs.BTreeMap.{BTreeMap, is_at, get_by_text}
use Rattle.std.specs.FinMap.{find, get, insert, from_entries, get-from_entries, get-insert}
use Rattle.std.specs.FinMap.{same_map, slice_cmp-IsAntisymmetric, nat_cmp-IsAntisymmetric}
use Rattle.std.proofs.lemmas.Map.Text.{is_eq-slice_cmp}
use Rattle.pct_outside.specs.Files.{name_and_bytes}

-- the first file of a name has the bytes that a look-up by its text finds
find-file_of : {A B : Type 0} (es : List (String A × Vec ℕ B)) (q : List ℕ)
    → find (slice_cmp nat_cmp) q (map name_and_bytes es)
    ≡ option_map (λ bytes. bytes.items)
    (lookup (is_at (λ k. slice_cmp nat_cmp q (string_bytes k))) es)
find-file_of [] q = refl
find-file_of (e ∷ es) q =
    elim (eq_by_cmp (slice_cmp nat_cmp) q (string_bytes e.0)) as (λ b.
    cond b (Some e.1.items) (find (slice_cmp nat_cmp) q (map name_and_bytes es))
    ≡ option_map (λ bytes. bytes.items)
    (cond b (Some e.1) (lookup (is_at (λ k. slice_cmp nat_cmp q (string_bytes k))) es))) [
      | true ↦ refl
      | false ↦ find-file_of es q
    ]

-- what the finite map has under a name
pub get-files : {A B : Type 0} (m : BTreeMap (String A) (Vec ℕ B)) (q : List ℕ)
    → get (from_entries {R = slice_cmp nat_cmp} (map name_and_bytes m.entries)) q
    ≡ option_map (λ bytes. bytes.items) (get_by_text m q)
get-files m q =
    get-from_entries nat_list_cmp_total (map name_and_bytes m.entries) q ∙ find-file_of m.entries q

option_map-cond : {A B : Type 0} (f : A → B) (b : Bool) (x y : Option A)
    → option_map f (cond b x y) ≡ cond b (option_map f x) (option_map f y)
option_map-cond f true x y = refl
option_map-cond f false x y = refl

-- one text is another exactly where the order has them equal
same_text : (name q : List ℕ) → bytes_eq name q ≡ eq_by_cmp (slice_cmp nat_cmp) q name
same_text name q = sym (is_eq-slice_cmp name q) ∙ (eq_by_cmp_equiv nat_list_cmp_total).symm name q

-- maps that differ under one name make finite maps that differ there
pub insert-files : {A B : Type 0} (m n : BTreeMap (String A) (Vec ℕ B)) (name : List ℕ)
    (v : Vec ℕ B) → ((q : List ℕ) → get_by_text n q
    ≡ update bytes_eq (get_by_text m) name (Some v) q)
    → from_entries {R = slice_cmp nat_cmp} (map name_and_bytes n.entries)
    ≡ insert (from_entries (map name_and_bytes m.entries)) name v.items
insert-files m n name v differs =
    same_map nat_list_cmp_total (slice_cmp-IsAntisymmetric nat_cmp-IsAntisymmetric) _ _ (λ q.
    get-files n q ∙ ap (option_map (λ bytes. bytes.items)) (differs q)
    ∙ option_map-cond (λ bytes. bytes.items) (bytes_eq name q) (Some v) (get_by_text m q)
    ∙ ap (λ b. cond b (Some v.items) (option_map (λ bytes. bytes.items) (get_by_text m q)))
    (same_text name q)
    ∙ ap (cond (eq_by_cmp (slice_cmp nat_cmp) q name) (Some v.items)) (sym (get-files m q))
    ∙ sym (get-insert nat_list_cmp_total
    (from_entries (map name_and_bytes m.entries)) name v.items q))
