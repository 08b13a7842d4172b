-- The compact text of a sweep's value is the report.
use Rattle.std.specs.Prelude.{codes, decimal, ◌<◌, length}
use Rattle.std.specs.List.{All}
use Rattle.std.proofs.Common.{◌≡◌, ℕ, ◌≤◌, false, List, [], ◌∷◌, map, refl, ap, ◌∙◌, arith}
use Rattle.std.proofs.lemmas.List.Elements.{All-head, All-tail}
use Rattle.serde_json.specs.Data.{number, unsigned, string, array, depth, items_depth}
use Rattle.serde_json.specs.Read.{max_depth}
use Rattle.serde_json.specs.View.{items_of}
use Rattle.serde_json.specs.Written.{compact_text, has_float, items_have_float}
use Rattle.pct_ask.specs.NameLists.{NameLists, AreNames}
use Rattle.pct_ask.specs.VerdictText.{thread_name, verdict_text}
use Rattle.report_text.specs.Report.{IsTellable}
use Rattle.report_text.specs.Json.{array_text, object_text, member_text}
use Rattle.report_text.specs.SweepJson.{name_text, swept_text, sweep_object}
use Rattle.report_text.specs.SweepData.{name_data, point_data, swept_data, sweep_data}
use Rattle.report_text.specs.declared.frame.Frame.{Frame}
use Rattle.report_text.specs.declared.swept.SweptGroup.{SweptGroup}
use Rattle.report_text.proofs.Plain.{plain-by, verdict-plain, thread-plain, quoted-plain}
use Rattle.report_text.proofs.Written.{array-text, object-text}

points-text : (points : List ℕ) → map compact_text (map point_data points) ≡ map decimal points
points-text [] = refl
points-text (point ∷ points) = ap (λ (l : List (List ℕ)). decimal point ∷ l) (points-text points)

module _ (names : NameLists) (sound : AreNames names) where
  abbrev Known : ℕ → Type 0
  Known thread = thread < length names.threads

  order-text : (order : List ℕ) → All Known order
      → map compact_text (map (name_data names) order) ≡ map (name_text names) order
  order-text [] known = refl
  order-text (thread ∷ order) known =
      let one = quoted-plain (thread_name names thread)
      (thread-plain names thread sound (All-head Known thread order known)) in
      (λ i. one i ∷ order-text order (All-tail Known thread order known) i)

  swept-text : (group : SweptGroup) → IsTellable names group
      → compact_text (swept_data names group) ≡ swept_text names group
  swept-text group is =
      let ordered = array-text (map (name_data names) group.order)
      ∙ ap array_text (order-text group.order is.ordered) in
      let pointed = array-text (map point_data group.points)
      ∙ ap array_text (points-text group.points) in
      let told = quoted-plain (verdict_text names group.verdict)
      (verdict-plain names group.verdict sound is.verdict) in
      object-text (codes "count", number (unsigned group.count))
      ((codes "order", array (items_of (map (name_data names) group.order)))
      ∷ (codes "points", array (items_of (map point_data group.points)))
      ∷ (codes "steps", number (unsigned group.steps))
      ∷ (codes "verdict", string (verdict_text names group.verdict)) ∷ []) (
        plain-by (codes "count") refl,
        (
          plain-by (codes "order") refl,
          (
            plain-by (codes "points") refl,
            (plain-by (codes "steps") refl, (plain-by (codes "verdict") refl, tt)),
          ),
        ),
      )
      ∙ (λ i. object_text (member_text (codes "count") (decimal group.count)
      ∷ member_text (codes "order") (ordered i) ∷ member_text (codes "points") (pointed i)
      ∷ member_text (codes "steps") (decimal group.steps)
      ∷ member_text (codes "verdict") (told i) ∷ []))

  groups-text : (groups : List SweptGroup) → All (IsTellable names) groups
      → map compact_text (map (swept_data names) groups) ≡ map (swept_text names) groups
  groups-text [] all = refl
  groups-text (group ∷ groups) all =
      (λ i. swept-text group (All-head (IsTellable names) group groups all) i
      ∷ groups-text groups (All-tail (IsTellable names) group groups all) i)

  pub sweep-text : (frame : Frame) (choices : ℕ) (groups : List SweptGroup) (passed : ℕ)
      → All (IsTellable names) groups
      → compact_text (sweep_data frame choices groups passed names)
      ≡ sweep_object frame choices groups passed names
  sweep-text frame choices groups passed all =
      let told = array-text (map (swept_data names) groups)
      ∙ ap array_text (groups-text groups all) in
      object-text (codes "choices", number (unsigned choices))
      ((codes "depth", number (unsigned frame.depth))
      ∷ (codes "groups", array (items_of (map (swept_data names) groups)))
      ∷ (codes "limit", number (unsigned frame.limit))
      ∷ (codes "passed", number (unsigned passed))
      ∷ (codes "steps", number (unsigned frame.steps))
      ∷ (codes "threads", number (unsigned frame.threads)) ∷ []) (
        plain-by (codes "choices") refl,
        (
          plain-by (codes "depth") refl,
          (
            plain-by (codes "groups") refl,
            (
              plain-by (codes "limit") refl,
              (
                plain-by (codes "passed") refl,
                (
                  plain-by (codes "steps") refl,
                  (plain-by (codes "threads") refl, tt),
                ),
              ),
            ),
          ),
        ),
      )
      ∙ (λ i. object_text (member_text (codes "choices") (decimal choices)
      ∷ member_text (codes "depth") (decimal frame.depth)
      ∷ member_text (codes "groups") (told i)
      ∷ member_text (codes "limit") (decimal frame.limit)
      ∷ member_text (codes "passed") (decimal passed)
      ∷ member_text (codes "steps") (decimal frame.steps)
      ∷ member_text (codes "threads") (decimal frame.threads) ∷ []))

-- ---- there is no float in it

order-no_float : (names : NameLists) (order : List ℕ)
    → items_have_float (items_of (map (name_data names) order)) ≡ false
order-no_float names [] = refl
order-no_float names (thread ∷ order) = order-no_float names order

points-no_float : (points : List ℕ) → items_have_float (items_of (map point_data points)) ≡ false
points-no_float [] = refl
points-no_float (point ∷ points) = points-no_float points

groups-no_float : (names : NameLists) (groups : List SweptGroup)
    → items_have_float (items_of (map (swept_data names) groups)) ≡ false
groups-no_float names [] = refl
groups-no_float names (group ∷ groups) =
    rw (order-no_float names group.order, points-no_float group.points)
    (groups-no_float names groups)

pub sweep-no_float : (frame : Frame) (choices : ℕ) (groups : List SweptGroup) (passed : ℕ)
    (names : NameLists) → has_float (sweep_data frame choices groups passed names) ≡ false
sweep-no_float frame choices groups passed names = rw (groups-no_float names groups)

-- ---- it nests few values

order-depth : (names : NameLists) (order : List ℕ)
    → items_depth (items_of (map (name_data names) order)) ≤ 0
order-depth names [] = omega arith
order-depth names (thread ∷ order) = omega (arith, order-depth names order)

points-depth : (points : List ℕ) → items_depth (items_of (map point_data points)) ≤ 0
points-depth [] = omega arith
points-depth (point ∷ points) = omega (arith, points-depth points)

groups-depth : (names : NameLists) (groups : List SweptGroup)
    → items_depth (items_of (map (swept_data names) groups)) ≤ 2
groups-depth names [] = omega arith
groups-depth names (group ∷ groups) =
    omega (
      arith,
      order-depth names group.order,
      points-depth group.points,
      groups-depth names groups,
    )

pub sweep-few_deep : (frame : Frame) (choices : ℕ) (groups : List SweptGroup) (passed : ℕ)
    (names : NameLists) → depth (sweep_data frame choices groups passed names) ≤ max_depth
sweep-few_deep frame choices groups passed names = omega (arith, groups-depth names groups)
