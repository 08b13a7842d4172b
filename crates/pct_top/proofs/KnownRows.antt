-- The rows of a script's campaign name only what the script has.
use Rattle.std.proofs.Common.{◌≡◌, ℕ, List, [], ◌∷◌, length, map, Option, Some, None, refl, sym}
use Rattle.std.proofs.Common.{subst, ap}
use Rattle.std.specs.Prelude.{All}
use Rattle.std.specs.Option.{option_map}
use Rattle.std.specs.List.{range_with_len}
use Rattle.std.proofs.lemmas.List.Elements.{All-nil, All-cons}
use Rattle.pct_ask.specs.declared.Deal.{Deal}
use Rattle.pct_ask.specs.declared.event.Row.{Row}
use Rattle.pct_ask.specs.declared.verdict.Outcome.TheVariants.{Verdict as Ends}
use Rattle.script_tree.specs.ScriptText.{ScriptText}
use Rattle.script_tree.specs.Fitting.{IsScript}
use Rattle.script_tree.specs.DealOf.{IsDealOf}
use Rattle.policy_pick.specs.Plan.{ByPoints}
use Rattle.priority_draw.specs.Drawing.{draw_of_seed, drawn_places}
use Rattle.priority_draw.proofs.laws.Orders.{order-of-is}
use Rattle.priority_draw.proofs.laws.Draws.{drawn-are}
use Rattle.worker_run.specs.Run.{Run}
use Rattle.worker_run.proofs.laws.WholeRuns.{run-played}
use Rattle.campaign.specs.Rows.{CampaignSetup, run_of_seed, row_of_run, row_of_seed, seed_at}
use Rattle.campaign.specs.Rows.{rows_of}
use Rattle.report_text.specs.Report.{IsWritable}
use Rattle.pct_top.specs.commands.Campaign.{setup_of}
use Rattle.pct_top.proofs.KnownRuns.{known-run}

-- what holds of each row that there is holds of all rows
each-row : (P : Row → Type 0) (row_at : ℕ → Option Row)
    → ((place : ℕ) (row : Row) → row_at place ≡ Some row → P row)
    → (places : List ℕ) (rows : List Row) → map Some rows ≡ map row_at places → All P rows
each-row P row_at each places [] same = All-nil P
each-row P row_at each [] (row ∷ rows) same = absurd cc
each-row P row_at each (place ∷ places) (row ∷ rows) same =
    let here : row_at place ≡ Some row = cc in
    let others : map Some rows ≡ map row_at places = cc in
    All-cons P row rows (each place row here) (each-row P row_at each places rows others)

module _ (script : ScriptText) (deal : Deal) (sound : IsScript script) (of : IsDealOf script deal)
    (depth steps limit : ℕ) where
  abbrev setup : CampaignSetup
  setup = setup_of script deal depth steps limit

  whole : (seed : ℕ) → deal.threads ≡ length (draw_of_seed seed deal.threads steps depth).order
  whole seed =
      sym (order-of-is deal.threads (drawn_places seed 0 deal.threads)
      (drawn-are seed 0 deal.threads)).whole

  ended-known : (seed : ℕ) (ended : Run) → run_of_seed setup seed ≡ Some ended
      → IsWritable script.names ended.1
  ended-known seed ended is =
      let gives = draw_of_seed seed deal.threads steps depth in
      let played = run-played deal setup.bodies gives.order gives.points limit ended.0 ended.1
      (whole seed) is in
      let known = known-run script deal sound of (ByPoints gives.order gives.points) limit ended.0
      ended.1 (Ends ended.1) refl played in
      record { named = (known.end).threads; whole = (known.end).whole }

  row-known : (seed : ℕ) (whole_run : Option Run) (row : Row) → run_of_seed setup seed ≡ whole_run
      → option_map (row_of_run seed) whole_run ≡ Some row → IsWritable script.names row.verdict
  row-known seed None row is made = absurd cc
  row-known seed (Some ended) row is made =
      let same : ended.1 ≡ row.verdict = let e : row_of_run seed ended ≡ row = cc in
      ap (λ (r : Row). r.verdict) e in
      subst (IsWritable script.names) same (ended-known seed ended is)

  pub rows-known : (first count : ℕ) (rows : List Row) → map Some rows ≡ rows_of setup first count
      → All (λ row. IsWritable script.names row.verdict) rows
  rows-known first count rows are =
      each-row (λ row. IsWritable script.names row.verdict)
      (λ place. row_of_seed setup (seed_at first place))
      (λ place row is. row-known (seed_at first place) (run_of_seed setup (seed_at first place)) row
      refl is) (range_with_len 0 count) rows are
