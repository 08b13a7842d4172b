-- The declared order.
use Rattle.std.proofs.Common.{◌≡◌, ℕ, ◌<◌, ◌∙◌, arith}
use Rattle.std.specs.Prelude.{slice_index}
use Rattle.std.specs.List.{range_with_len}
use Rattle.std.proofs.lemmas.List.FromFn.{length-range_with_len, get_or-range_with_len}
use Rattle.rank_now.specs.Order.{IsOrder}

declared_at : (threads place : ℕ) → place < threads
    → slice_index (range_with_len 0 threads) place ≡ place
declared_at threads place within = get_or-range_with_len 0 threads place 0 within ∙ omega arith

-- The declared order is one.
pub declared_is_order : (threads : ℕ) → IsOrder (range_with_len 0 threads)
declared_is_order threads =
    let long = length-range_with_len 0 threads in
    record {
      below =
          λ place within. omega (
            arith,
            declared_at threads place (omega (arith, within, long)),
            within,
          );
      once =
          λ first second before within same.
          omega (
            arith,
            before,
            declared_at threads first (omega (arith, before, within, long)),
            declared_at threads second (omega (arith, within, long)),
            same,
          );
      all =
          λ thread within. (
            thread,
            within,
            get_or-range_with_len 0 threads thread thread (omega (arith, within, long))
                ∙ omega arith,
          );
    }
