-- The lines of a head are read as they are written, and nothing else is.
use Rattle.std.specs.Prelude.{codes, decimal, ◌==◌, ◌&&◌, not, nat_le, if◌then◌else◌, map}
use Rattle.std.specs.List.{All, AllPairs, list_all, join_with_byte}
use Rattle.std.specs.Str.{bytes_eq}
use Rattle.std.specs.Fmt.{digits}
use Rattle.std.proofs.Common.{◌≡◌, ◌≢◌, ◌⊎◌, ℕ, ◌<◌, ◌≤◌, Bool, true, false, List, [], ◌∷◌, length}
use Rattle.std.proofs.Common.{get_or, zero, suc, Option, Some, None, refl, sym, ap, ◌∙◌, inl, inr}
use Rattle.std.proofs.Common.{arith}
use Rattle.std.proofs.lemmas.Bool.Decides.{nat_tests}
use Rattle.std.proofs.lemmas.List.{length-map, get_or_default}
use Rattle.std.proofs.lemmas.List.Elements.{All-nil, All-cons, All-head, All-tail}
use Rattle.std.proofs.lemmas.List.Kept.{AllPairs-cons}
use Rattle.std.proofs.lemmas.Bool.{and_parts, not-true}
use Rattle.std.proofs.lemmas.Option.{same_Some}
use Rattle.pct_ask.specs.Words.{is_name, is_among}
use Rattle.pct_ask.specs.NameLists.{NameLists, AreNames, place_of}
use Rattle.pct_ask.specs.VerdictText.{thread_name}
use Rattle.pct_ask.specs.VerdictWords.{words_of}
use Rattle.pct_ask.specs.declared.names.NameKind.TheVariants.{Thread}
use Rattle.pct_ask.proofs.laws.Names.{place_of-Some, not-at}
use Rattle.pct_ask.proofs.laws.SplitWords.{join-words_of}
use Rattle.pct_ask.proofs.laws.TextBytes.{AreHigh, words_of-high, high-by, name-high, decimal-high}
use Rattle.rank_now.specs.Order.{IsOrder}
use Rattle.rank_now.proofs.laws.WholeOrders.{whole-order}
use Rattle.pct_ask.specs.Numbers.{onto_front, all_of, step_count, step_counts}
use Rattle.pct_ask.proofs.laws.Decimals.{number_in-decimal, number_in-Some}
use Rattle.pct_ask.proofs.laws.SameWords.{same-word, bytes_eq-self}
use Rattle.pct_ask.specs.Limits.{IsStepCount}
use Rattle.trace_text.specs.reader.Heads.{version_on_line, are_different, are_order_names}
use Rattle.trace_text.specs.reader.Heads.{names_after_order}
use Rattle.trace_text.specs.reader.Heads.{order_on_line, threads_of_names, point_words}
use Rattle.trace_text.specs.reader.Heads.{points_on_line, limit_words}
use Rattle.trace_text.specs.reader.Heads.{limit_on_line}
use Rattle.trace_text.proofs.Names.{place_of-kind, name-lawful}

guarded : {A : Type 0} (b : Bool) (x : Option A) (y : A) → (if b then x else None) ≡ Some y
    → (b ≡ true) × (x ≡ Some y)
guarded true x y h = (refl, h)
guarded false x y h = absurd cc

-- ---- the version

version-by : (text : List ℕ) (v : ℕ) (a b : Bool) → bytes_eq text (codes "trace 1") ≡ a
    → bytes_eq text (codes "trace 2") ≡ b
    → (if a then Some 1 else (if b then Some 2 else None)) ≡ Some v
    → ((v ≡ 1) ⊎ (v ≡ 2)) × (text ≡ join_with_byte 32 (codes "trace" ∷ decimal v ∷ []))
unfolding digits
version-by text v true b p q h = let is : 1 ≡ v = cc in (
  inl (sym is),
  same-word text (codes "trace 1") p
      ∙ ap (λ n. join_with_byte 32 (codes "trace" ∷ decimal n ∷ [])) is,
)
version-by text v false true p q h = let is : 2 ≡ v = cc in (
  inr (sym is),
  same-word text (codes "trace 2") q
      ∙ ap (λ n. join_with_byte 32 (codes "trace" ∷ decimal n ∷ [])) is,
)
version-by text v false false p q h = absurd cc

pub version-told : (text : List ℕ) (v : ℕ) → version_on_line text ≡ Some v
    → ((v ≡ 1) ⊎ (v ≡ 2)) × (text ≡ join_with_byte 32 (codes "trace" ∷ decimal v ∷ []))
version-told text v h =
    version-by text v (bytes_eq text (codes "trace 1")) (bytes_eq text (codes "trace 2")) refl refl
    h

version-one : version_on_line (join_with_byte 32 (codes "trace" ∷ decimal 1 ∷ [])) ≡ Some 1
unfolding digits
version-one = refl

version-two : version_on_line (join_with_byte 32 (codes "trace" ∷ decimal 2 ∷ [])) ≡ Some 2
unfolding digits
version-two = refl

pub version-known : (v : ℕ) → (v ≡ 1) ⊎ (v ≡ 2)
    → version_on_line (join_with_byte 32 (codes "trace" ∷ decimal v ∷ [])) ≡ Some v
version-known v (inl one) = rw one version-one
version-known v (inr two) = rw two version-two

-- ---- what each word is

onto_front-inv : {A : Type 0} (x : Option A) (others : Option (List A)) (xs : List A)
    → onto_front x others ≡ Some xs → (y : A) × (ys : List A) × (x ≡ Some y) × (others ≡ Some ys)
    × (y ∷ ys ≡ xs)
onto_front-inv None others xs h = absurd cc
onto_front-inv (Some y) None xs h = absurd cc
onto_front-inv (Some y) (Some ys) xs h = (y, ys, refl, refl, same_Some (y ∷ ys) xs h)

told-cons : (spell : ℕ → List ℕ) (P : ℕ → Type 0) (word : List ℕ) (words : List (List ℕ)) (y : ℕ)
    (ys xs : List ℕ) → y ∷ ys ≡ xs → word ≡ spell y → P y → words ≡ map spell ys → All P ys
    → (word ∷ words ≡ map spell xs) × All P xs
told-cons spell P word words y ys xs same first p others all =
    rw (← same, first, others) (refl, All-cons P y ys p all)

all-told : (says : List ℕ → Option ℕ) (spell : ℕ → List ℕ) (P : ℕ → Type 0) (words : List (List ℕ))
    (xs : List ℕ) → ((word : List ℕ) (x : ℕ) → says word ≡ Some x → (word ≡ spell x) × P x)
    → all_of says words ≡ Some xs → (words ≡ map spell xs) × All P xs
all-told says spell P [] xs each h = let is : [] ≡ xs = same_Some {A = List ℕ} [] xs h in
    rw (← is) (refl, All-nil P)
all-told says spell P (word ∷ words) xs each h =
    let i = onto_front-inv (says word) (all_of says words) xs h in
    let first = each word i.0 i.2 in
    let rest = all-told says spell P words i.1 each i.3 in
    told-cons spell P word words i.0 i.1 xs i.4 first.0 first.1 rest.0 rest.1

all-known : (says : List ℕ → Option ℕ) (spell : ℕ → List ℕ) (P : ℕ → Type 0) (xs : List ℕ)
    → ((x : ℕ) → P x → says (spell x) ≡ Some x) → All P xs → all_of says (map spell xs) ≡ Some xs
all-known says spell P [] each all = refl
all-known says spell P (x ∷ xs) each all =
    rw (each x (All-head P x xs all), all-known says spell P xs each (All-tail P x xs all))

-- ---- the order

abbrev HasName : NameLists → ℕ → Type 0
HasName names t = t < length names.threads

thread-told : (names : NameLists) (word : List ℕ) (t : ℕ) → place_of word names.threads ≡ Some t
    → (word ≡ thread_name names t) × HasName names t
thread-told names word t h = let at = place_of-Some word names.threads t h in (sym at.1, at.0)

thread-known : (names : NameLists) → AreNames names → (t : ℕ) → HasName names t
    → place_of (thread_name names t) names.threads ≡ Some t
thread-known names sound t h = place_of-kind names Thread t sound h

get-map : (f : ℕ → List ℕ) (xs : List ℕ) (k d : ℕ) → k < length xs
    → get_or (map f xs) k [] ≡ f (get_or xs k d)
get-map f [] k d h = absurd (omega arith)
get-map f (x ∷ xs) zero d h = refl
get-map f (x ∷ xs) (suc k) d h = get-map f xs k d (omega arith)

false-true : (b : Bool) → b ≡ false → b ≡ true → ⊥
false-true true p q = cc
false-true false p q = cc

once-told : (names : NameLists) (order : List ℕ)
    → are_different (map (thread_name names) order) ≡ true → AllPairs ◌≢◌ order
once-told names [] h = λ i j d low within. absurd (omega arith)
once-told names (t ∷ ts) h =
    let here = (and_parts (not (is_among (thread_name names t) (map (thread_name names) ts)))
    (are_different (map (thread_name names) ts)) h).0 in
    let fresh = not-true (is_among (thread_name names t) (map (thread_name names) ts)) here in
    AllPairs-cons ◌≢◌ t ts
    (λ k d within same.
    let far = not-at (thread_name names t) (map (thread_name names) ts) k fresh
    (rw length-map within) in
    let near : bytes_eq (thread_name names t) (get_or (map (thread_name names) ts) k []) ≡ true =
    rw (get-map (thread_name names) ts k d within, ← same) (bytes_eq-self (thread_name names t)) in
    false-true _ far near)
    (once-told names ts (and_parts (not
    (is_among (thread_name names t) (map (thread_name names) ts)))
    (are_different (map (thread_name names) ts)) h).1)

-- threads that have names, none twice and as many as there are, are an order
named-order : (names : NameLists) (order : List ℕ) → All (HasName names) order
    → AllPairs ◌≢◌ order → length order ≡ length names.threads → IsOrder order
named-order names order all once long =
    whole-order order (λ place within. let low = all place 0 within in omega (arith, low, long))
    (λ first second low within. once first second 0 low within)

-- the threads of an order of as many have names
pub order-named : (names : NameLists) (order : List ℕ) → IsOrder order
    → length order ≡ length names.threads → All (λ t. t < length names.threads) order
order-named names order is long = λ place d within.
    let same = get_or_default order place d 0 within in
    omega (arith, same, is.below place within, long)

order-once : (order : List ℕ) → IsOrder order → AllPairs ◌≢◌ order
order-once order is = λ first second d low within same.
    is.once first second low within
    (sym (get_or_default order first d 0 (omega arith)) ∙ same
    ∙ get_or_default order second d 0 within)

pub order-told : (names : NameLists) (text : List ℕ) (words : List (List ℕ)) (order : List ℕ)
    → order_on_line names text ≡ Some words → threads_of_names names words ≡ Some order
    → (text ≡ join_with_byte 32 (codes "order" ∷ map (thread_name names) order))
    × IsOrder order × (length order ≡ length names.threads)
order-told names text words order h known = by (words_of text) refl h
  where
    by : (all : List (List ℕ)) → words_of text ≡ all → names_after_order names all ≡ Some words
        → (text ≡ join_with_byte 32 (codes "order" ∷ map (thread_name names) order))
        × IsOrder order × (length order ≡ length names.threads)
    by [] is h = absurd cc
    by (head ∷ others) is h =
        let g = guarded (bytes_eq head (codes "order") && are_order_names names others)
        (Some others) words h in
        let head_is = same-word head (codes "order")
        (and_parts (bytes_eq head (codes "order")) (are_order_names names others) g.0).0 in
        let tests = (and_parts (bytes_eq head (codes "order")) (are_order_names names others)
        g.0).1 in
        let same : others ≡ words = same_Some others words g.1 in
        let told = all-told (λ word. place_of word names.threads) (thread_name names)
        (HasName names) words order (thread-told names) known in
        let words_are : others ≡ map (thread_name names) order = same ∙ told.0 in
        let parts = three (length others == length names.threads) (list_all (is_name 1) others)
        (are_different others) tests in
        let long : length others ≡ length names.threads = let t = parts.0 in
        grind (arith, nat_tests) in
        let as_long : length order ≡ length others =
        sym (length-map order (thread_name names))
        ∙ ap (λ (ws : List (List ℕ)). length ws) (sym words_are) in (
          sym (join-words_of text) ∙ ap (join_with_byte 32)
              (is ∙ ap (λ w. w ∷ others) head_is ∙ ap (λ ws. codes "order" ∷ ws) words_are),
          named-order names order told.1
              (once-told names order (ap are_different (sym words_are) ∙ parts.1)) (as_long ∙ long),
          as_long ∙ long,
        )
      where
        three : (a b c : Bool) → (a && b && c) ≡ true → (a ≡ true) × (c ≡ true)
        three true true c h = (refl, h)
        three true false c h = absurd cc
        three false b c h = absurd cc

fresh-known : (names : NameLists) (t : ℕ) (ts : List ℕ) → AreNames names → HasName names t
    → All (HasName names) ts → All (λ u. t ≢ u) ts
    → is_among (thread_name names t) (map (thread_name names) ts) ≡ false
fresh-known names t [] sound h all apart = refl
fresh-known names t (u ∷ ts) sound h all apart =
    let here = All-head (HasName names) u ts all in
    let other = All-head (λ (x : ℕ). t ≢ x) u ts apart in
    let differ = by (bytes_eq (thread_name names t) (thread_name names u)) refl here other in
    rw differ (fresh-known names t ts sound h (All-tail (HasName names) u ts all)
    (All-tail (λ (x : ℕ). t ≢ x) u ts apart))
  where
    by : (b : Bool) → bytes_eq (thread_name names t) (thread_name names u) ≡ b → HasName names u
        → t ≢ u → b ≡ false
    by false e there other = refl
    by true e there other =
        let names_same = same-word (thread_name names t) (thread_name names u) e in
        let places : Some t ≡ Some u = sym (thread-known names sound t h)
        ∙ ap (λ w. place_of w names.threads) names_same ∙ thread-known names sound u there in
        absurd (other (same_Some t u places))

different-known : (names : NameLists) (order : List ℕ) → AreNames names → All (HasName names) order
    → AllPairs ◌≢◌ order → are_different (map (thread_name names) order) ≡ true
different-known names [] sound all once = refl
different-known names (t ∷ ts) sound all once =
    let others = All-tail (HasName names) t ts all in
    let fresh = fresh-known names t ts sound (All-head (HasName names) t ts all) others
    (λ k d within. once 0 (suc k) d (omega arith) (omega arith)) in
    rw fresh (different-known names ts sound others
    (λ i j d low within. once (suc i) (suc j) d (omega arith) (omega arith)))

lawful-known : (names : NameLists) (order : List ℕ) → AreNames names → All (HasName names) order
    → list_all (is_name 1) (map (thread_name names) order) ≡ true
lawful-known names [] sound all = refl
lawful-known names (t ∷ ts) sound all =
    let here = name-lawful names Thread t sound (All-head (HasName names) t ts all) in
    rw here (lawful-known names ts sound (All-tail (HasName names) t ts all))

order-high : (names : NameLists) (order : List ℕ) → AreNames names → All (HasName names) order
    → AreHigh (map (thread_name names) order)
order-high names [] sound all = tt
order-high names (t ∷ ts) sound all = (
  name-high (thread_name names t) (name-lawful names Thread t sound
      (All-head (HasName names) t ts all)),
  order-high names ts sound (All-tail (HasName names) t ts all),
)

pub order-line-high : (names : NameLists) (order : List ℕ) → AreNames names
    → All (λ t. t < length names.threads) order
    → AreHigh (codes "order" ∷ map (thread_name names) order)
order-line-high names order sound all =
    (high-by (codes "order") refl, order-high names order sound all)

pub order-known : (names : NameLists) (order : List ℕ) → AreNames names → IsOrder order
    → length order ≡ length names.threads
    → (order_on_line names (join_with_byte 32 (codes "order" ∷ map (thread_name names) order))
    ≡ Some (map (thread_name names) order))
    × (threads_of_names names (map (thread_name names) order) ≡ Some order)
order-known names order sound is long =
    let all = order-named names order is long in
    let once = order-once order is in
    let high = order-high names order sound all in
    let cut = words_of-high (codes "order") (map (thread_name names) order)
    (high-by (codes "order") refl, high) in
    let same : (length (map (thread_name names) order) == length names.threads) ≡ true =
    let l : length (map (thread_name names) order) ≡ length names.threads =
    length-map order (thread_name names) ∙ long in grind (arith, nat_tests) in (
      ap (names_after_order names) cut
          ∙ rw (
            same,
            lawful-known names order sound all,
            different-known names order sound all once,
          ),
      all-known (λ word. place_of word names.threads) (thread_name names) (HasName names) order
          (thread-known names sound) all,
    )

-- ---- the points and the limit

point-told : (word : List ℕ) (n : ℕ) → step_count word ≡ Some n → (word ≡ decimal n) × IsStepCount n
point-told word n h = let k = number_in-Some 1 100000 n word h in (k.2, (k.0, k.1))

point-known : (n : ℕ) → IsStepCount n → step_count (decimal n) ≡ Some n
point-known n h = number_in-decimal 1 100000 n (decimal n) h.0 h.1 (omega arith) refl

pub points-told : (text : List ℕ) (points : List ℕ) → points_on_line text ≡ Some points
    → (text ≡ join_with_byte 32 (codes "points" ∷ map decimal points)) × (length points ≤ 7)
    × All IsStepCount points
points-told text points h = by (words_of text) refl h
  where
    by : (all : List (List ℕ)) → words_of text ≡ all → point_words all ≡ Some points
        → (text ≡ join_with_byte 32 (codes "points" ∷ map decimal points)) × (length points ≤ 7)
        × All IsStepCount points
    by [] is h = absurd cc
    by (head ∷ others) is h =
        let g = guarded (bytes_eq head (codes "points") && nat_le (length others) 7)
        (step_counts others) points h in
        let head_is = same-word head (codes "points")
        (and_parts (bytes_eq head (codes "points")) (nat_le (length others) 7) g.0).0 in
        let few = (and_parts (bytes_eq head (codes "points")) (nat_le (length others) 7) g.0).1 in
        let told = all-told step_count decimal IsStepCount others points point-told g.1 in
        let as_long : length others ≡ length points =
        ap (λ (ws : List (List ℕ)). length ws) told.0 ∙ length-map points decimal in (
          sym (join-words_of text) ∙ ap (join_with_byte 32)
              (is ∙ ap (λ w. w ∷ others) head_is ∙ ap (λ ws. codes "points" ∷ ws) told.0),
          grind (arith, nat_tests),
          told.1,
        )

points-high : (points : List ℕ) → All IsStepCount points → AreHigh (map decimal points)
points-high [] all = tt
points-high (p ∷ ps) all =
    let here = All-head IsStepCount p ps all in
    (decimal-high p (omega (arith, here.0, here.1)), points-high ps (All-tail IsStepCount p ps all))

pub points-line-high : (points : List ℕ) → All IsStepCount points
    → AreHigh (codes "points" ∷ map decimal points)
points-line-high points all = (high-by (codes "points") refl, points-high points all)

pub points-known : (points : List ℕ) → length points ≤ 7 → All IsStepCount points
    → points_on_line (join_with_byte 32 (codes "points" ∷ map decimal points)) ≡ Some points
points-known points few all =
    let cut = words_of-high (codes "points") (map decimal points) (points-line-high points all) in
    let short : nat_le (length (map decimal points)) 7 ≡ true =
    let l : length (map decimal points) ≡ length points = length-map points decimal in
    grind (arith, nat_tests) in
    ap point_words cut ∙ rw short (all-known step_count decimal IsStepCount points point-known all)

pub limit-told : (text : List ℕ) (limit : ℕ) → limit_on_line text ≡ Some limit
    → (text ≡ join_with_byte 32 (codes "limit" ∷ decimal limit ∷ [])) × IsStepCount limit
limit-told text limit h = by (words_of text) refl h
  where
    by : (all : List (List ℕ)) → words_of text ≡ all → limit_words all ≡ Some limit
        → (text ≡ join_with_byte 32 (codes "limit" ∷ decimal limit ∷ [])) × IsStepCount limit
    by [] is h = absurd cc
    by (head ∷ []) is h = absurd cc
    by (head ∷ number ∷ []) is h =
        let g = guarded (bytes_eq head (codes "limit")) (step_count number) limit h in
        let told = point-told number limit g.1 in (
          sym (join-words_of text) ∙ ap (join_with_byte 32)
              (is ∙ ap (λ w. w ∷ number ∷ []) (same-word head (codes "limit") g.0)
              ∙ ap (λ w. codes "limit" ∷ w ∷ []) told.0),
          told.1,
        )
    by (head ∷ number ∷ more ∷ words) is h = absurd cc

pub limit-line-high : (limit : ℕ) → IsStepCount limit → AreHigh (codes "limit" ∷ decimal limit ∷ [])
limit-line-high limit h =
    (high-by (codes "limit") refl, (decimal-high limit (omega (arith, h.0, h.1)), tt))

pub limit-known : (limit : ℕ) → IsStepCount limit
    → limit_on_line (join_with_byte 32 (codes "limit" ∷ decimal limit ∷ [])) ≡ Some limit
limit-known limit h =
    ap limit_words (words_of-high (codes "limit") (decimal limit ∷ []) (limit-line-high limit h))
    ∙ point-known limit h
