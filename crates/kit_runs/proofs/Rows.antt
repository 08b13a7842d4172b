-- The rows of seeds, one after another.
use Rattle.std.proofs.Common.{ℕ, ◌+◌, List, [], ◌∷◌, ◌++◌, refl, sym}
use Rattle.std.proofs.Common.{ap, subst, ◌∙◌, inl, inr}
use Rattle.std.proofs.lemmas.List.{length-append}
use Rattle.pct_ask.specs.declared.deal.Deal.{Deal}
use Rattle.pct_ask.specs.declared.event.Row.{Row}
use Rattle.kit_runs.specs.declared.seeds.Seeds.{Seeds}
use Rattle.kit_runs.specs.Rows.{AreRowsOf, IsRowOf}
use Rattle.kit_runs.specs.Seeding.{seed_at}
use Rattle.kit_runs.proofs.Laws.{at-end}

pub no-rows : (deal : Deal) (seeds : Seeds) → AreRowsOf deal seeds 0 []
no-rows deal seeds = record { all = refl; each = λ place row is. absurd cc }

pub one-more : (deal : Deal) (seeds : Seeds) (rows : List Row) (count : ℕ) (row : Row)
    → AreRowsOf deal seeds count rows → IsRowOf deal seeds (seed_at seeds.first count) row
    → AreRowsOf deal seeds (count + 1) (rows ++ row ∷ [])
one-more deal seeds rows count row are is = record {
  all = length-append rows (row ∷ []) ∙ ap (λ n. n + 1) are.all;
  each = λ place other found. elim (at-end rows row other place found) [
    | inl before ↦ are.each place other before
    | inr last ↦
        subst (λ (x : ℕ × Row). IsRowOf deal seeds (seed_at seeds.first x.0) x.1)
        (λ i. (sym (last.0 ∙ are.all) i, last.1 i)) is
  ];
}
