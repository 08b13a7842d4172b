-- The lines of a head are read of their forms, and of nothing else.
use Rattle.std.specs.Prelude.{codes, decimal, ◌==◌, ◌&&◌, not, map, is_some, is_none, if◌then◌else◌}
use Rattle.std.specs.List.{All, Any, list_all, join_with_byte}
use Rattle.std.specs.Option.{option_map, unwrap_or}
use Rattle.std.specs.Str.{bytes_eq}
use Rattle.std.specs.Fmt.{digits}
use Rattle.std.proofs.Common.{◌≡◌, ◌⊎◌, ℕ, ◌<◌, Bool, true, false, List, [], ◌∷◌, length, zero, suc}
use Rattle.std.proofs.Common.{Option, Some, None, refl, sym, ap, ◌∙◌, inl, inr, arith}
use Rattle.std.proofs.lemmas.Bool.Decides.{nat_tests}
use Rattle.std.proofs.lemmas.List.Elements.{All-nil, All-cons, All-head, All-tail}
use Rattle.std.proofs.lemmas.Bool.{and_parts, not-true}
use Rattle.pct_ask.specs.Words.{is_name, is_among}
use Rattle.pct_ask.specs.NameLists.{NameLists, AreDistinct, place_of}
use Rattle.pct_ask.specs.VerdictWords.{words_of}
use Rattle.pct_ask.proofs.laws.SplitWords.{joined-words}
use Rattle.pct_ask.proofs.laws.TextBytes.{words_of-high}
use Rattle.trace_text.specs.reader.Heads.{version_on_line, are_different, are_order_names}
use Rattle.trace_text.specs.reader.Heads.{names_after_order}
use Rattle.trace_text.specs.reader.Heads.{order_on_line, points_on_line, limit_on_line}
use Rattle.pct_ask.specs.Numbers.{onto_front, all_of}
use Rattle.pct_ask.proofs.laws.SameWords.{same-word}
use Rattle.trace_text.specs.Forms.{words_of_form, IsName, IsLineOf, HasUnknown}
use Rattle.trace_text.specs.Forms as forms
use Rattle.trace_text.proofs.FaultTests.{has_unknown_thread}
use Rattle.trace_text.proofs.Heads.{version-known, points-told, points-known, points-line-high}
use Rattle.trace_text.proofs.Heads.{limit-told, limit-known, limit-line-high}

-- three tests that all pass
pub three : (a b c : Bool) → (a && b && c) ≡ true → (a ≡ true) × (b ≡ true) × (c ≡ true)
three true true c h = (refl, refl, h)
three true false c h = absurd cc
three false b c h = absurd cc

-- ---- the version

version-spelled : (v : ℕ) (text : List ℕ) → (v ≡ 1) ⊎ (v ≡ 2)
    → text ≡ join_with_byte 32 (codes "trace" ∷ decimal v ∷ [])
    → words_of text ≡ words_of_form (forms.Version v)
unfolding digits
version-spelled v text (inl one) is = rw (is, one) refl
version-spelled v text (inr two) is = rw (is, two) refl

pub version-form : (text : List ℕ) → is_some (version_on_line text) ≡ true
    → (v : ℕ) × (words_of text ≡ words_of_form (forms.Version v)) × ((v ≡ 1) ⊎ (v ≡ 2))
unfolding digits
version-form text h =
    by (bytes_eq text (codes "trace 1")) (bytes_eq text (codes "trace 2")) refl refl h
  where
    by : (a b : Bool) → bytes_eq text (codes "trace 1") ≡ a → bytes_eq text (codes "trace 2") ≡ b
        → is_some {T = ℕ} (if a then Some 1 else (if b then Some 2 else None)) ≡ true
        → (v : ℕ) × (words_of text ≡ words_of_form (forms.Version v)) × ((v ≡ 1) ⊎ (v ≡ 2))
    by true b p q k =
        (1, version-spelled 1 text (inl refl) (same-word text (codes "trace 1") p), inl refl)
    by false true p q k =
        (2, version-spelled 2 text (inr refl) (same-word text (codes "trace 2") q), inr refl)
    by false false p q k = absurd cc

pub version-read : (text : List ℕ) (v : ℕ) → words_of text ≡ words_of_form (forms.Version v)
    → (v ≡ 1) ⊎ (v ≡ 2) → version_on_line text ≡ Some v
version-read text v words which =
    ap version_on_line (joined-words text (words_of_form (forms.Version v)) words)
    ∙ version-known v which

-- the version of a file, read or not
pub same-version : (text : List ℕ)
    → ◌≡◌ {A = ℕ} (unwrap_or (version_on_line text) 1)
    (if bytes_eq text (codes "trace 2") then 2 else 1)
same-version text = by (bytes_eq text (codes "trace 1")) (bytes_eq text (codes "trace 2")) refl refl
  where
    two : text ≡ codes "trace 1" → bytes_eq text (codes "trace 2") ≡ false
    two is = rw is

    by : (a b : Bool) → bytes_eq text (codes "trace 1") ≡ a → bytes_eq text (codes "trace 2") ≡ b
        → ◌≡◌ {A = ℕ} (unwrap_or (if a then Some 1 else (if b then Some 2 else None)) 1)
        (if b then 2 else 1)
    by true true p q = let no : false ≡ true = sym (two (same-word text (codes "trace 1") p)) ∙ q in
        absurd cc
    by true false p q = refl
    by false true p q = refl
    by false false p q = refl

pub one-or-two : (b : Bool) (n : ℕ) → ◌≡◌ {A = ℕ} n (if b then 2 else 1) → (n ≡ 1) ⊎ (n ≡ 2)
one-or-two true n h = inr h
one-or-two false n h = inl h

-- ---- the order

all-lawful : (words : List (List ℕ)) → list_all (is_name 1) words ≡ true → All IsName words
all-lawful [] h = All-nil IsName
all-lawful (w ∷ ws) h =
    All-cons IsName w ws (and_parts (is_name 1 w) (list_all (is_name 1) ws) h).0
    (all-lawful ws (and_parts (is_name 1 w) (list_all (is_name 1) ws) h).1)

lawful-all : (words : List (List ℕ)) → All IsName words → list_all (is_name 1) words ≡ true
lawful-all [] all = refl
lawful-all (w ∷ ws) all = let here : is_name 1 w ≡ true = All-head IsName w ws all in
    rw here (lawful-all ws (All-tail IsName w ws all))

are-distinct : (words : List (List ℕ)) → are_different words ≡ true → AreDistinct words
are-distinct [] h = tt
are-distinct (w ∷ ws) h = (
  not-true (is_among w ws) (and_parts (not (is_among w ws)) (are_different ws) h).0,
  are-distinct ws (and_parts (not (is_among w ws)) (are_different ws) h).1,
)

distinct-are : (words : List (List ℕ)) → AreDistinct words → are_different words ≡ true
distinct-are [] h = refl
distinct-are (w ∷ ws) h = rw h.0 (distinct-are ws h.1)

order-parts : (names : NameLists) (words : List (List ℕ)) → are_order_names names words ≡ true
    → (length words ≡ length names.threads) × All IsName words × AreDistinct words
order-parts names words h =
    let parts = three (length words == length names.threads) (list_all (is_name 1) words)
    (are_different words) h in
    let long : length words ≡ length names.threads = let t = parts.0 in grind (arith, nat_tests) in
    (long, all-lawful words parts.1, are-distinct words parts.2)

guarded : {A : Type 0} (b : Bool) (x y : A) → (if b then Some x else None) ≡ Some y
    → (b ≡ true) × (x ≡ y)
guarded true x y h = (refl, cc)
guarded false x y h = absurd cc

pub order-form : (names : NameLists) (version : ℕ) (text : List ℕ) (threads : List (List ℕ))
    → order_on_line names text ≡ Some threads
    → (words_of text ≡ words_of_form (forms.Order threads))
    × IsLineOf names version (forms.Order threads)
order-form names version text threads h = by (words_of text) h
  where
    by : (words : List (List ℕ)) → names_after_order names words ≡ Some threads
        → (words ≡ words_of_form (forms.Order threads))
        × IsLineOf names version (forms.Order threads)
    by [] k = absurd cc
    by (head ∷ others) k =
        let g = guarded (bytes_eq head (codes "order") && are_order_names names others) others
        threads k in
        let head_is = same-word head (codes "order")
        (and_parts (bytes_eq head (codes "order")) (are_order_names names others) g.0).0 in
        let parts : are_order_names names threads ≡ true =
        ap (are_order_names names) (sym g.1)
        ∙ (and_parts (bytes_eq head (codes "order")) (are_order_names names others) g.0).1 in (
          ap (λ w. w ∷ others) head_is ∙ ap (λ (ws : List (List ℕ)). codes "order" ∷ ws) g.1,
          order-parts names threads parts,
        )

pub order-read : (names : NameLists) (version : ℕ) (text : List ℕ) (threads : List (List ℕ))
    → words_of text ≡ words_of_form (forms.Order threads)
    → IsLineOf names version (forms.Order threads) → order_on_line names text ≡ Some threads
order-read names version text threads words of =
    let long : (length threads == length names.threads) ≡ true = let t = of.0 in
    grind (arith, nat_tests) in
    ap (names_after_order names) words ∙ rw
    (long, lawful-all threads of.1, distinct-are threads of.2)

-- ---- unknown threads

more-any : {X : Type 0} (P : X → Type 0) (x : X) (xs : List X) → Any P xs → Any P (x ∷ xs)
more-any P x xs any = (suc any.0, any.1, let low = any.2 in omega arith, any.3, any.4)

map-is_none : {A B : Type 0} (f : A → B) (o : Option A) → is_none (option_map f o) ≡ is_none o
map-is_none f None = refl
map-is_none f (Some x) = refl

lost-any : (says : List ℕ → Option ℕ) (words : List (List ℕ)) → is_none (all_of says words) ≡ true
    → Any (λ w. says w ≡ None) words
lost-any says [] h = absurd cc
lost-any says (w ∷ ws) h = by (says w) refl h (λ k. lost-any says ws k)
  where
    by : (said : Option ℕ) → says w ≡ said → is_none (onto_front said (all_of says ws)) ≡ true
        → (is_none (all_of says ws) ≡ true → Any (λ x. says x ≡ None) ws)
        → Any (λ x. says x ≡ None) (w ∷ ws)
    by None e k others = (0, w, omega arith, refl, e)
    by (Some x) e k others =
        more-any (λ v. says v ≡ None) w ws
        (others (sym (map-is_none (λ xs. x ∷ xs) (all_of says ws)) ∙ k))

onto_front-none : (said : Option ℕ) (others : Option (List ℕ)) → is_none others ≡ true
    → is_none (onto_front said others) ≡ true
onto_front-none None others h = refl
onto_front-none (Some x) others h = map-is_none (λ xs. x ∷ xs) others ∙ h

any-lost : (says : List ℕ → Option ℕ) (words : List (List ℕ)) → Any (λ w. says w ≡ None) words
    → is_none (all_of says words) ≡ true
any-lost says [] any = absurd (let low = any.2 in omega arith)
any-lost says (w ∷ ws) any = by any.0 any.1 any.2 any.3 any.4 (λ k. any-lost says ws k)
  where
    by : (k : ℕ) (x : List ℕ) → k < length (w ∷ ws)
        → Rattle.std.specs.List.slice_index_or (w ∷ ws) k x ≡ x → says x ≡ None
        → (Any (λ v. says v ≡ None) ws → is_none (all_of says ws) ≡ true)
        → is_none (onto_front (says w) (all_of says ws)) ≡ true
    by zero x low at none others = let here : says w ≡ None = ap says at ∙ none in rw here
    by (suc k) x low at none others =
        onto_front-none (says w) (all_of says ws) (others (k, x, omega arith, at, none))

pub unknown-told : (names : NameLists) (threads : List (List ℕ))
    → has_unknown_thread names (Some threads) ≡ true → HasUnknown names (forms.Order threads)
unknown-told names threads h = lost-any (λ word. place_of word names.threads) threads h

pub unknown-read : (names : NameLists) (threads : List (List ℕ))
    → HasUnknown names (forms.Order threads) → has_unknown_thread names (Some threads) ≡ true
unknown-read names threads any = any-lost (λ word. place_of word names.threads) threads any

-- ---- the points and the limit

pub points-form : (names : NameLists) (version : ℕ) (text points : List ℕ)
    → points_on_line text ≡ Some points
    → (words_of text ≡ words_of_form (forms.Points points))
    × IsLineOf names version (forms.Points points)
points-form names version text points h =
    let told = points-told text points h in (
      ap words_of told.0 ∙ words_of-high (codes "points") (map decimal points)
          (points-line-high points told.2),
      (told.1, told.2),
    )

pub points-read : (names : NameLists) (version : ℕ) (text points : List ℕ)
    → words_of text ≡ words_of_form (forms.Points points)
    → IsLineOf names version (forms.Points points) → points_on_line text ≡ Some points
points-read names version text points words of =
    ap points_on_line (joined-words text (words_of_form (forms.Points points)) words)
    ∙ points-known points of.0 of.1

pub limit-form : (names : NameLists) (version : ℕ) (text : List ℕ) (limit : ℕ)
    → limit_on_line text ≡ Some limit
    → (words_of text ≡ words_of_form (forms.Limit limit))
    × IsLineOf names version (forms.Limit limit)
limit-form names version text limit h =
    let told = limit-told text limit h in (
      ap words_of told.0 ∙ words_of-high (codes "limit") (decimal limit ∷ [])
          (limit-line-high limit told.1),
      told.1,
    )

pub limit-read : (names : NameLists) (version : ℕ) (text : List ℕ) (limit : ℕ)
    → words_of text ≡ words_of_form (forms.Limit limit) → IsLineOf names version (forms.Limit limit)
    → limit_on_line text ≡ Some limit
limit-read names version text limit words of =
    ap limit_on_line (joined-words text (words_of_form (forms.Limit limit)) words)
    ∙ limit-known limit of
