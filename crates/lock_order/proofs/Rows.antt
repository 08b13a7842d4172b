-- Small theorems that read the definitions on a run of two threads which take two mutexes, each in
-- an
-- order of its own.
use Rattle.std.proofs.Common.{◌≡◌, ◌≢◌, ℕ, suc, pos, List, [], ◌∷◌, refl, arith}
use Rattle.pct_ask.specs.declared.ask.Ask.{Ask}
use Rattle.pct_ask.specs.declared.ask.Ask.TheVariants.{Lock, Unlock}
use Rattle.pct_ask.specs.declared.event.Event.{Event}
use Rattle.lock_order.specs.declared.nesting.Nesting.{Nesting}
use Rattle.lock_order.specs.Nestings.{IsNesting}
use Rattle.lock_order.specs.Good.{IsGoodCycle}

abbrev step : ℕ → ℕ → Ask → Event
step thread line ask = record { thread = thread; line = line; ask = ask; answer = pos 0 }

abbrev pub opposed : List Event
opposed =
    step 0 5 (Lock 0) ∷ step 0 6 (Lock 1) ∷ step 0 7 (Unlock 1) ∷ step 0 8 (Unlock 0)
    ∷ step 1 11 (Lock 1)
    ∷ step 1 12 (Lock 0) ∷ step 1 13 (Unlock 0) ∷ step 1 14 (Unlock 1) ∷ []

abbrev pub first : Nesting
first = record { step = 2; thread = 0; held = 0; taken = 1 }

abbrev pub second : Nesting
second = record { step = 6; thread = 1; held = 1; taken = 0 }

pub first-nests : IsNesting opposed first
first-nests = record {
  takes = record { event = step 0 6 (Lock 1); at = refl; by = refl; taken = refl };
  holds = record {
    since = 1;
    earlier = omega arith;
    taken = record { event = step 0 5 (Lock 0); at = refl; by = refl; taken = refl };
    kept = λ between low high. absurd (omega arith);
  };
}

pub second-nests : IsNesting opposed second
second-nests = record {
  takes = record { event = step 1 12 (Lock 0); at = refl; by = refl; taken = refl };
  holds = record {
    since = 5;
    earlier = omega arith;
    taken = record { event = step 1 11 (Lock 1); at = refl; by = refl; taken = refl };
    kept = λ between low high. absurd (omega arith);
  };
}

not-equal : (one other : ℕ) → one ≡ suc other → one ≢ other
not-equal one other is same = omega arith

-- one of the nestings is no cycle
pub first-alone : ¬ IsGoodCycle opposed (first ∷ [])
first-alone good = not-equal 1 0 refl (good.closed first first refl refl)
