-- The seeds of rows, as one reads them.
use Rattle.std.proofs.Common.{◌≡◌, [], ◌∷◌, refl}
use Rattle.campaign.specs.Rows.{CampaignSetup, row_of_seed, seed_at, rows_of}

next_seed : seed_at 7 1 ≡ 8
next_seed = refl

after_the_last_seed : seed_at 18446744073709551615 1 ≡ 0
after_the_last_seed = refl

two_seeds : (setup : CampaignSetup)
    → rows_of setup 7 2 ≡ row_of_seed setup 7 ∷ row_of_seed setup 8 ∷ []
two_seeds setup = refl
