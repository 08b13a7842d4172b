-- The group has a text.
use Rattle.std.proofs.Common.{ℕ, zero, suc, ◌<◌, [], ◌∷◌, length, sym, subst, ◌∙◌, arith}
use Rattle.std.specs.List.{All}
use Rattle.std.proofs.lemmas.List.Elements.{All-push, All-nil}
use Rattle.pct_ask.specs.NameLists.{NameLists}
use Rattle.report_text.specs.declared.swept.SweptGroup.{SweptGroup}
use Rattle.report_text.specs.Report.{IsTellable}
use Rattle.test_words.proofs.sweeps.expect_swept.Goals as goal

named : (names : NameLists) → 0 < length names.threads
    → All (λ thread. thread < length names.threads) (0 ∷ [])
named names some =
    All-push (λ thread. thread < length names.threads) [] 0
    (All-nil (λ (thread : ℕ). thread < length names.threads)) some

tellable : (names : NameLists) (group : SweptGroup) → IsTellable names group
    → All (IsTellable names) (group ∷ [])
tellable names group is zero d inside = is
tellable names group is (suc k) d inside = absurd (omega (arith, inside))

pub sweep_text-text-requires : goal.sweep_text-text-requires
sweep_text-text-requires g c =
    let names = c.args.names.now in
    tellable names _ (record {
      ordered = subst (All (λ thread. thread < length names.threads))
          (sym (c.from_vec.ensures ∙ c.in_ok-vec.ensures.items)) (named names c.requires);
      verdict = record { named = named names c.requires; whole = (omega arith, omega arith) };
    })

pub sweep_json-json-requires : goal.sweep_json-json-requires
sweep_json-json-requires g c =
    let names = c.args.names.now in
    tellable names _ (record {
      ordered = subst (All (λ thread. thread < length names.threads))
          (sym (c.from_vec.ensures ∙ c.in_ok-vec.ensures.items)) (named names c.requires);
      verdict = record { named = named names c.requires; whole = (omega arith, omega arith) };
    })
