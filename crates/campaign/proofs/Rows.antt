-- One more row.
use Rattle.std.proofs.Common.{◌≡◌, ℕ, ◌+◌, List, [], ◌∷◌, ◌++◌, Option, Some, None, Vec, Global}
use Rattle.std.proofs.Common.{map, length, refl, sym, ap, subst, ◌∙◌, arith}
use Rattle.std.proofs.lemmas.List.{length-append, map-append}
use Rattle.std.proofs.lemmas.List.FromFn.{map-range_with_len_more}
use Rattle.pct_ask.specs.declared.event.Row.{Row}
use Rattle.campaign.specs.Rows.{CampaignSetup, row_of_seed, seed_at, rows_of}
use Rattle.script_run.specs.Batches.{Decides}
use Rattle.campaign.specs.Batches.{AreFirstRows, HasRowsBefore}

one-more : (setup : CampaignSetup) (first place seed : ℕ) (rows new : List Row) (row : Row)
    → seed ≡ seed_at first place → map Some rows ≡ rows_of setup first place
    → new ≡ rows ++ row ∷ [] → row_of_seed setup seed ≡ Some row
    → map Some new ≡ rows_of setup first (place + 1)
one-more setup first place seed rows new row at before is made =
    let made_at : row_of_seed setup (seed_at first place) ≡ Some row =
    ap (row_of_seed setup) (sym at) ∙ made in
    ap (map Some) is ∙ map-append Some rows (row ∷ [])
    ∙ ap (λ (l : List (Option Row)). l ++ Some row ∷ []) before
    ∙ ap (λ (r : Option Row). rows_of setup first place ++ r ∷ []) (sym made_at)
    ∙ sym (map-range_with_len_more (λ k. row_of_seed setup (seed_at first k)) 0 place place
    (omega arith))

-- the rows of the first seeds, with that of the next one
pub next-row : (setup : CampaignSetup) (first seed : ℕ) (rows new : List Row) (row : Row)
    → seed ≡ seed_at first (length rows) → AreFirstRows setup first rows
    → new ≡ rows ++ row ∷ [] → row_of_seed setup seed ≡ Some row → AreFirstRows setup first new
next-row setup first seed rows new row at before is made =
    one-more setup first (length rows) seed rows new row at before is made
    ∙ ap (rows_of setup first) (sym (ap length is ∙ length-append rows (row ∷ [])))

-- no rows yet
pub no-rows : (setup : CampaignSetup) (first : ℕ) (rows : List Row) → rows ≡ []
    → AreFirstRows setup first rows
no-rows setup first rows none =
    let A : List Row → Type 0 = AreFirstRows setup first in subst A (sym none) refl

-- a campaign comes to no answer before its last run
pub goes-on : {A : Type 0} (setup : CampaignSetup) (first count : ℕ) (rows : Vec Row Global)
    (place : ℕ)
    (found : Option A)
    → Decides (HasRowsBefore setup first count) (λ rows answer. ⊥) rows place found
    → HasRowsBefore setup first count rows place
goes-on setup first count rows place None has = has
goes-on setup first count rows place (Some answer) has = absurd has
