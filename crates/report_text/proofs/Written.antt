-- The compact text of the report's value is the report.
use Rattle.std.specs.Prelude.{codes, decimal}
use Rattle.std.specs.List.{All, join_with_byte}
use Rattle.std.proofs.Common.{◌≡◌, ℕ, true, false, List, [], ◌∷◌, ◌++◌, map, refl, sym, ap, ◌∙◌}
use Rattle.std.proofs.Common.{◌≤◌, append_assoc, arith}
use Rattle.std.proofs.lemmas.List.Elements.{All-head, All-tail}
use Rattle.json.specs.Print.{quoted}
use Rattle.serde_json.specs.Data.{Data, number, unsigned, string, array, object, Members, member}
use Rattle.serde_json.specs.Data.{no_members, depth, items_depth}
use Rattle.serde_json.specs.Read.{max_depth}
use Rattle.serde_json.specs.View.{items_of}
use Rattle.serde_json.specs.Written.{compact_text, items_text, members_text, has_float}
use Rattle.serde_json.specs.Written.{items_have_float}
use Rattle.pct_ask.specs.NameLists.{NameLists, AreNames}
use Rattle.pct_ask.specs.VerdictText.{verdict_text}
use Rattle.pct_ask.specs.declared.event.Row.{Row}
use Rattle.failure_rank.specs.declared.group.Group.{Group}
use Rattle.report_text.specs.Report.{IsWritable}
use Rattle.report_text.specs.Json.{string_text, array_text, object_text, member_text, row_text}
use Rattle.report_text.specs.Json.{group_text, report_object}
use Rattle.report_text.specs.Data.{row_data, group_data, report_data}
use Rattle.report_text.specs.declared.frame.Frame.{Frame}
use Rattle.report_text.proofs.Plain.{IsPlain, plain-by, verdict-plain, quoted-plain}

items-join : (d : Data) (ds : List Data)
    → compact_text d ++ items_text true (items_of ds)
    ≡ join_with_byte 44 (compact_text d ∷ map compact_text ds) ++ 93 ∷ []
items-join d [] = refl
items-join d (e ∷ ds) =
    ap (λ (x : List ℕ). compact_text d ++ 44 ∷ x) (items-join e ds)
    ∙ sym (append_assoc (compact_text d)
    (44 ∷ join_with_byte 44 (compact_text e ∷ map compact_text ds)) (93 ∷ []))

pub array-text : (ds : List Data) → compact_text (array (items_of ds))
    ≡ array_text (map compact_text ds)
array-text [] = refl
array-text (d ∷ ds) = ap (λ (x : List ℕ). 91 ∷ x) (items-join d ds)

-- members, each with a plain key
abbrev members_from : List (List ℕ × Data) → Members
members_from [] = no_members
members_from (m ∷ ms) = member m.0 m.1 (members_from ms)

abbrev text_of_member : List ℕ × Data → List ℕ
text_of_member m = member_text m.0 (compact_text m.1)

abbrev HavePlainKeys : List (List ℕ × Data) → Type 0
HavePlainKeys [] = Unit {0}
HavePlainKeys (m ∷ ms) = All IsPlain m.0 × HavePlainKeys ms

one-member : (m : List ℕ × Data) (rest : List ℕ) → All IsPlain m.0
    → quoted m.0 ++ 58 ∷ (compact_text m.1 ++ rest) ≡ text_of_member m ++ rest
one-member m rest plain =
    ap (λ (key : List ℕ). key ++ 58 ∷ (compact_text m.1 ++ rest)) (quoted-plain m.0 plain)
    ∙ sym (append_assoc (string_text m.0) (58 ∷ compact_text m.1) rest)

members-join : (m : List ℕ × Data) (ms : List (List ℕ × Data)) → HavePlainKeys (m ∷ ms)
    → quoted m.0 ++ 58 ∷ (compact_text m.1 ++ members_text true (members_from ms))
    ≡ join_with_byte 44 (text_of_member m ∷ map text_of_member ms) ++ 125 ∷ []
members-join m [] keys = one-member m (125 ∷ []) keys.0
members-join m (n ∷ ms) keys =
    one-member m (members_text true (members_from (n ∷ ms))) keys.0
    ∙ ap (λ (x : List ℕ). text_of_member m ++ 44 ∷ x) (members-join n ms keys.1)
    ∙ sym (append_assoc (text_of_member m)
    (44 ∷ join_with_byte 44 (text_of_member n ∷ map text_of_member ms)) (125 ∷ []))

pub object-text : (m : List ℕ × Data) (ms : List (List ℕ × Data)) → HavePlainKeys (m ∷ ms)
    → compact_text (object (members_from (m ∷ ms))) ≡ object_text (map text_of_member (m ∷ ms))
object-text m ms keys = ap (λ (x : List ℕ). 123 ∷ x) (members-join m ms keys)

module _ (names : NameLists) (sound : AreNames names) where
  row-text : (row : Row) → IsWritable names row.verdict
      → compact_text (row_data names row) ≡ row_text names row
  row-text row is =
      array-text (number (unsigned row.seed) ∷ number (unsigned row.steps)
      ∷ string (verdict_text names row.verdict) ∷ [])
      ∙ ap (λ (text : List ℕ). array_text (decimal row.seed ∷ decimal row.steps ∷ text ∷ []))
      (quoted-plain (verdict_text names row.verdict) (verdict-plain names row.verdict sound is))

  rows-text : (rows : List Row) → All (λ row. IsWritable names row.verdict) rows
      → map compact_text (map (row_data names) rows) ≡ map (row_text names) rows
  rows-text [] all = refl
  rows-text (row ∷ rows) all =
      let Writable : Row → Type 0 = λ row. IsWritable names row.verdict in
      (λ i. row-text row (All-head Writable row rows all) i
      ∷ rows-text rows (All-tail Writable row rows all) i)

  group-text : (group : Group) → IsWritable names group.verdict
      → compact_text (group_data names group) ≡ group_text names group
  group-text group is =
      object-text (codes "count", number (unsigned group.count))
      ((codes "first", number (unsigned group.first))
      ∷ (codes "steps", number (unsigned group.steps))
      ∷ (codes "verdict", string (verdict_text names group.verdict)) ∷ []) (
        plain-by (codes "count") refl,
        (
          plain-by (codes "first") refl,
          (plain-by (codes "steps") refl, (plain-by (codes "verdict") refl, tt)),
        ),
      )
      ∙ ap (λ (text : List ℕ). object_text
      (member_text (codes "count") (decimal group.count)
      ∷ member_text (codes "first") (decimal group.first)
      ∷ member_text (codes "steps") (decimal group.steps) ∷ member_text (codes "verdict") text
      ∷ []))
      (quoted-plain (verdict_text names group.verdict) (verdict-plain names group.verdict sound is))

  groups-text : (groups : List Group) → All (λ group. IsWritable names group.verdict) groups
      → map compact_text (map (group_data names) groups) ≡ map (group_text names) groups
  groups-text [] all = refl
  groups-text (group ∷ groups) all =
      let Writable : Group → Type 0 = λ group. IsWritable names group.verdict in
      (λ i. group-text group (All-head Writable group groups all) i
      ∷ groups-text groups (All-tail Writable group groups all) i)

  pub report-text : (frame : Frame) (rows : List Row) (groups : List Group)
      → All (λ row. IsWritable names row.verdict) rows
      → All (λ group. IsWritable names group.verdict) groups
      → compact_text (report_data frame rows groups names) ≡ report_object frame rows groups names
  report-text frame rows groups all_rows all_groups =
      let told = array-text (map (group_data names) groups)
      ∙ ap array_text (groups-text groups all_groups) in
      let seen = array-text (map (row_data names) rows) ∙ ap array_text (rows-text rows all_rows) in
      object-text (codes "depth", number (unsigned frame.depth))
      ((codes "groups", array (items_of (map (group_data names) groups)))
      ∷ (codes "limit", number (unsigned frame.limit))
      ∷ (codes "rows", array (items_of (map (row_data names) rows)))
      ∷ (codes "steps", number (unsigned frame.steps))
      ∷ (codes "threads", number (unsigned frame.threads)) ∷ []) (
        plain-by (codes "depth") refl,
        (
          plain-by (codes "groups") refl,
          (
            plain-by (codes "limit") refl,
            (
              plain-by (codes "rows") refl,
              (
                plain-by (codes "steps") refl,
                (plain-by (codes "threads") refl, tt),
              ),
            ),
          ),
        ),
      )
      ∙ (λ i. object_text (member_text (codes "depth") (decimal frame.depth)
      ∷ member_text (codes "groups") (told i)
      ∷ member_text (codes "limit") (decimal frame.limit) ∷ member_text (codes "rows") (seen i)
      ∷ member_text (codes "steps") (decimal frame.steps)
      ∷ member_text (codes "threads") (decimal frame.threads) ∷ []))

-- ---- there is no float in it

rows-no_float : (names : NameLists) (rows : List Row)
    → items_have_float (items_of (map (row_data names) rows)) ≡ false
rows-no_float names [] = refl
rows-no_float names (row ∷ rows) = rows-no_float names rows

groups-no_float : (names : NameLists) (groups : List Group)
    → items_have_float (items_of (map (group_data names) groups)) ≡ false
groups-no_float names [] = refl
groups-no_float names (group ∷ groups) = groups-no_float names groups

pub no_float : (frame : Frame) (rows : List Row) (groups : List Group) (names : NameLists)
    → has_float (report_data frame rows groups names) ≡ false
no_float frame rows groups names = rw (groups-no_float names groups, rows-no_float names rows)

-- ---- it nests few values

rows-depth : (names : NameLists) (rows : List Row)
    → items_depth (items_of (map (row_data names) rows)) ≤ 1
rows-depth names [] = omega arith
rows-depth names (row ∷ rows) = omega (arith, rows-depth names rows)

groups-depth : (names : NameLists) (groups : List Group)
    → items_depth (items_of (map (group_data names) groups)) ≤ 1
groups-depth names [] = omega arith
groups-depth names (group ∷ groups) = omega (arith, groups-depth names groups)

pub few_deep : (frame : Frame) (rows : List Row) (groups : List Group) (names : NameLists)
    → depth (report_data frame rows groups names) ≤ max_depth
few_deep frame rows groups names =
    omega (arith, rows-depth names rows, groups-depth names groups)
