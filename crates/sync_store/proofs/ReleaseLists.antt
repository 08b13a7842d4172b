-- Lists of released threads, by the list of the threads and a flag for each.
use Rattle.std.proofs.Common.{◌≡◌, ℕ, ◌<◌, Bool, true, false, not, ◌&&◌, ◌||◌, nat_eq, cond, List}
use Rattle.std.proofs.Common.{[], ◌∷◌, ◌++◌, length, filter, slice_index_or, slice_set, refl, sym}
use Rattle.std.proofs.Common.{ap, ◌∙◌, arith}
use Rattle.std.proofs.lemmas.Bool.{or_parts, cond_both, cond-true, cond-false}
use Rattle.std.proofs.lemmas.Bool.Decides.{nat_tests}
use Rattle.std.proofs.lemmas.Grind.{common_steps}
use Rattle.std.proofs.lemmas.List.{map_push, get_or-set_same}
use Rattle.sync_store.specs.Store.{Release, is_on}
use Rattle.sync_store.specs.Enabled.{is_released}
use Rattle.sync_store.specs.Effect.{put_last, list_without, let_through, is_serial}
use Rattle.sync_store.specs.ReleaseList.{release_by, releases_by}

pub is_released-by : (serial : List Bool) (t : ℕ) (xs : List ℕ)
    → is_released t (releases_by serial xs) ≡ is_on t xs
is_released-by serial t [] = refl
is_released-by serial t (x ∷ xs) = ap (λ rest. nat_eq t x || rest) (is_released-by serial t xs)

pub is_serial-by : (serial : List Bool) (t : ℕ) (xs : List ℕ)
    → is_serial t (releases_by serial xs) ≡ (is_on t xs && slice_index_or serial t false)
is_serial-by serial t [] = refl
is_serial-by serial t (x ∷ xs) =
    let rest = is_serial-by serial t xs in
    grind (arith, nat_tests)

-- the releases of the threads but t
abbrev others : ℕ → List Release → List Release
others t releases = filter (λ release. not (nat_eq t release.thread)) releases

pub list_without-by : (serial : List Bool) (t : ℕ) (xs : List ℕ)
    → releases_by serial (list_without t xs) ≡ others t (releases_by serial xs)
list_without-by serial t [] = refl
list_without-by serial t (x ∷ xs) =
    let rest = list_without-by serial t xs in
    let test = not (nat_eq t x) in
    let kept = release_by serial x ∷ others t (releases_by serial xs) in
    let gone = others t (releases_by serial xs) in
    cond_both test (x ∷ list_without t xs) (list_without t xs)
    (λ ys. releases_by serial ys ≡ cond test kept gone)
    (λ e. ap (λ ys. release_by serial x ∷ ys) rest ∙ sym (cond-true test kept gone e))
    (λ e. rest ∙ sym (cond-false test kept gone e))

-- a flag of a thread that isn't on the list says nothing
pub releases-set : (serial : List Bool) (t : ℕ) (s : Bool) (xs : List ℕ) → is_on t xs ≡ false
    → releases_by (slice_set serial t s) xs ≡ releases_by serial xs
releases-set serial t s [] e = refl
releases-set serial t s (x ∷ xs) e =
    let parts = or_parts (nat_eq t x) (is_on t xs) e in
    let rest = releases-set serial t s xs parts.1 in
    let here : slice_index_or (slice_set serial t s) x false ≡ slice_index_or serial x false =
    grind (arith, nat_tests, common_steps) in
    grind arith

pub releases-onto : (serial : List Bool) (t : ℕ) (s : Bool) (xs ys : List ℕ) → t < length serial
    → is_on t xs ≡ false → ys ≡ put_last t xs
    → releases_by (slice_set serial t s) ys ≡ let_through t s (releases_by serial xs)
releases-onto serial t s xs ys fits off e =
    let release : Release = record { thread = t; serial = s } in
    let flags = slice_set serial t s in
    let last : release_by flags t ≡ release =
    ap (λ b. record { thread = t; serial = b }) (get_or-set_same serial t s false fits) in
    let more : ys ≡ xs ++ t ∷ [] = e ∙ cond-false (is_on t xs) xs (xs ++ t ∷ []) off in
    let before = releases_by serial xs in
    ap (releases_by flags) more ∙ map_push (release_by flags) xs t
    ∙ ap (λ r. releases_by flags xs ++ r ∷ []) last
    ∙ ap (λ rs. rs ++ release ∷ []) (releases-set serial t s xs off)
    ∙ sym (cond-false (is_released t before) before (before ++ release ∷ [])
    (is_released-by serial t xs ∙ off))

pub let_through-again : (serial : List Bool) (t : ℕ) (s : Bool) (xs : List ℕ) → is_on t xs ≡ true
    → releases_by serial xs ≡ let_through t s (releases_by serial xs)
let_through-again serial t s xs on =
    let before = releases_by serial xs in
    sym (cond-true (is_released t before) before (before ++ record { thread = t; serial = s } ∷ [])
    (is_released-by serial t xs ∙ on))
