-- A campaign has one list of rows, as many as its seeds, each with its own seed.
use Rattle.std.proofs.Common.{◌≡◌, ℕ, List, [], ◌∷◌, Option, Some, length, map, refl, sym, ap, ◌∙◌}
use Rattle.std.proofs.lemmas.List.{length-map}
use Rattle.std.proofs.lemmas.List.FromFn.{length-map-range_with_len}
use Rattle.pct_ask.specs.declared.event.Row.{Row}
use Rattle.campaign.specs.Rows.{CampaignSetup, row_of_seed, seed_at, rows_of}

first-same : (x y : Row) (xs ys : List (Option Row))
    → ◌≡◌ {A = List (Option Row)} (Some x ∷ xs) (Some y ∷ ys) → (x ≡ y) × (xs ≡ ys)
first-same x y xs ys e = (cc, cc)

same-rows : (rows others : List Row) → map Some rows ≡ map Some others → rows ≡ others
same-rows [] [] e = refl
same-rows [] (y ∷ ys) e = cc
same-rows (x ∷ xs) [] e = cc
same-rows (x ∷ xs) (y ∷ ys) e =
    let parts = first-same x y (map Some xs) (map Some ys) e in
    ap (λ (z : Row). z ∷ xs) parts.0 ∙ ap (λ (zs : List Row). y ∷ zs) (same-rows xs ys parts.1)

-- Two lists of rows that are a campaign's are the same.
pub one_campaign : (setup : CampaignSetup) (first count : ℕ) (rows others : List Row)
    → map Some rows ≡ rows_of setup first count → map Some others ≡ rows_of setup first count
    → rows ≡ others
one_campaign setup first count rows others is are = same-rows rows others (is ∙ sym are)

-- They are as many as the seeds.
pub length-rows : (setup : CampaignSetup) (first count : ℕ) (rows : List Row)
    → map Some rows ≡ rows_of setup first count → length rows ≡ count
length-rows setup first count rows is =
    sym (length-map rows (λ (r : Row). Some r)) ∙ ap length is
    ∙ length-map-range_with_len (λ place. row_of_seed setup (seed_at first place)) 0 count
