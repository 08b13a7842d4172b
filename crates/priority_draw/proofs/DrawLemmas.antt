-- The draws of a seed, one after another.
use Rattle.std.proofs.Common.{◌≡◌, ℕ, ◌+◌, ◌-◌, ◌*◌, ◌<◌, ◌≤◌, List, [], ◌∷◌, ◌++◌, length, get_or}
use Rattle.std.proofs.Common.{take, drop, refl, sym, ap, ◌∙◌, arith, append_assoc, append-nil}
use Rattle.std.proofs.Common.{length-append, length-drop, below_more, get_or-set_other}
use Rattle.std.proofs.Common.{get_or-set_same, set, ◌≢◌}
use Rattle.std.specs.List.{All, remove}
use Rattle.std.proofs.lemmas.List.{drop_more, drop_all, drop_at, take_at, take_rest}
use borrow.Rule.Slice.PartMut.{put_mid}
use Rattle.std.proofs.lemmas.List.Edits.{length-remove}
use Rattle.std.proofs.lemmas.List.FromFn.{length-map-range_with_len, get_or-map-range_with_len}
use Rattle.std.proofs.lemmas.List.FromFn.{fill_by_all}
use Rattle.priority_draw.specs.Words.{SeedWords, first_words, place_after, words_later}
use Rattle.priority_draw.specs.Orders.{declared_order, taken_from, order_of}
use Rattle.priority_draw.specs.Drawing.{draw, drawn_places, drawn_order, drawn_points}
use Rattle.priority_draw.specs.Drawing.{IsStepOfPoint}
use Rattle.priority_draw.proofs.WordLemmas.{draw-lt, draw-after}
use Rattle.priority_draw.proofs.laws.Draws.{drawn-length, drawn-at}

-- what is still to be drawn
pub drawn-more : (seed place threads i : ℕ) → i < threads
    → drop i (drawn_places seed place threads)
    ≡ draw seed (place + 2 * i) (threads - i) ∷ drop (i + 1) (drawn_places seed place threads)
drawn-more seed place threads i within =
    drop_more (drawn_places seed place threads) i 0 (omega (arith, drawn-length seed place threads))
    ∙ ap (λ p. p ∷ drop (i + 1) (drawn_places seed place threads))
    (drawn-at seed place threads i within)

pub points-length : (seed place steps count : ℕ)
    → length (drawn_points seed place steps count) ≡ count
unfolding drawn_points
points-length seed place steps count =
    length-map-range_with_len (λ i. 1 + draw seed (place + 2 * i) steps) 0 count

pub points-are : (seed place steps count : ℕ) (points : List ℕ) → length points ≡ count
    → ((i : ℕ) → i < count → get_or points i 0 ≡ 1 + draw seed (place + 2 * i) steps)
    → points ≡ drawn_points seed place steps count
unfolding drawn_points
points-are seed place steps count points long filled =
    fill_by_all (λ i. 1 + draw seed (place + 2 * i) steps) points count 0 long filled

-- points that begin after some words are those from that place on
pub points-after : (seed place before steps count : ℕ)
    → drawn_points seed (place_after place before) steps count
    ≡ drawn_points seed (place + before) steps count
unfolding drawn_points
points-after seed place before steps count =
    points-are seed (place + before) steps count
    (drawn_points seed (place_after place before) steps count)
    (points-length seed (place_after place before) steps count)
    (λ i within. get_or-map-range_with_len
    (λ i. 1 + draw seed (place_after place before + 2 * i) steps) 0 count i i 0 within
    (omega arith) ∙ ap (λ d. 1 + d) (draw-after seed place before (2 * i) steps))

-- the points of words that stand after a seed's order
pub seed-points : (words : SeedWords) (steps count depth seed threads : ℕ)
    → words ≡ words_later (first_words seed) (2 * threads) → depth ≡ count + 1
    → drawn_points words.seed words.place steps count
    ≡ drawn_points seed (2 * threads) steps (depth - 1)
seed-points words steps count depth seed threads stand deep =
    let fewer : count ≡ depth - 1 = omega arith in
    ap (λ (w : SeedWords). drawn_points w.seed w.place steps count) stand
    ∙ points-after seed 0 (2 * threads) steps count
    ∙ ap (λ p. drawn_points seed p steps count) (omega arith)
    ∙ ap (λ n. drawn_points seed (2 * threads) steps n) fewer

-- each point is a step
pub points-steps : (seed place steps count : ℕ) → 1 ≤ steps
    → All (IsStepOfPoint steps) (drawn_points seed place steps count)
unfolding drawn_points
points-steps seed place steps count some = λ k d within.
    let long = points-length seed place steps count in
    let at = get_or-map-range_with_len (λ i. 1 + draw seed (place + 2 * i) steps) 0 count k k d
    (omega arith) (omega arith) in
    let low = draw-lt seed (place + 2 * k) steps some in
    record { first = omega arith; last = omega arith }

no-more : (xs : List ℕ) → length xs ≡ 0 → xs ≡ []
no-more [] long = refl
no-more (x ∷ xs) long = absurd (omega arith)

-- Some places were drawn: those threads stand first, in their order, and then the others as they
-- are declared.
pub record IsDrawnSoFar (seed place threads drawn : ℕ) (order : List ℕ) : Type 0 where
  pub done : List ℕ
  pub remaining : List ℕ
  pub is : order ≡ done ++ remaining
  pub long : length done ≡ drawn
  pub whole : length order ≡ threads
  pub rest : taken_from (declared_order threads) (drawn_places seed place threads)
      ≡ done ++ taken_from remaining (drop drawn (drawn_places seed place threads))

-- after the last one
pub drawn-last : (seed place threads drawn : ℕ) (order : List ℕ) → threads ≤ drawn
    → IsDrawnSoFar seed place threads drawn order → order ≡ drawn_order seed place threads
unfolding order_of
drawn-last seed place threads drawn order past so =
    let long = drawn-length seed place threads in
    let none : drop drawn (drawn_places seed place threads) ≡ [] =
    drop_all drawn (drawn_places seed place threads) (omega arith) in
    let nobody = no-more so.remaining
    (omega (
      arith,
      so.long,
      so.whole,
      ap (λ xs. length xs) so.is,
      length-append so.done so.remaining,
    )) in
    so.is
    ∙ ap (λ xs. so.done ++ xs) nobody
    ∙ ap (λ places. so.done ++ taken_from so.remaining places) (sym none)
    ∙ sym so.rest
    ∙ ap (λ n. taken_from (declared_order n) (drawn_places seed place threads)) (sym long)

-- one more
pub drawn-step : (seed place threads drawn chosen : ℕ) (order later : List ℕ) → drawn < threads
    → chosen ≡ draw seed (place + 2 * drawn) (threads - drawn)
    → IsDrawnSoFar seed place threads drawn order
    → later ≡ take drawn order ++ (get_or (drop drawn order) chosen 0
    ∷ remove (drop drawn order) chosen) → IsDrawnSoFar seed place threads (drawn + 1) later
drawn-step seed place threads drawn chosen order later within is so moved =
    let front : take drawn order ≡ so.done =
    ap (λ xs. take drawn xs) so.is ∙ take_at so.done so.remaining drawn so.long in
    let back : drop drawn order ≡ so.remaining =
    ap (λ xs. drop drawn xs) so.is ∙ drop_at so.done so.remaining drawn so.long in
    let thread = get_or so.remaining chosen 0 in
    let others = remove so.remaining chosen in
    let places = drop (drawn + 1) (drawn_places seed place threads) in
    let next : drop drawn (drawn_places seed place threads) ≡ chosen ∷ places =
    drawn-more seed place threads drawn within ∙ ap (λ p. p ∷ places) (sym is) in
    let bound = draw-lt seed (place + 2 * drawn) (threads - drawn) (omega arith) in
    let fewer = length-remove so.remaining chosen
    (omega (
      arith,
      so.whole,
      so.long,
      length-append so.done so.remaining,
      ap (λ xs. length xs) so.is,
    )) in
    let lined : later ≡ so.done ++ (thread ∷ others) =
    moved ∙ ap (λ xs. xs ++ (get_or (drop drawn order) chosen 0
    ∷ remove (drop drawn order) chosen)) front
    ∙ ap (λ xs. so.done ++ (get_or xs chosen 0 ∷ remove xs chosen)) back in
    record {
      done = so.done ++ thread ∷ [];
      remaining = others;
      is = lined ∙ sym (append_assoc so.done (thread ∷ []) others);
      long = omega (arith, so.long, length-append so.done (thread ∷ []));
      whole =
          omega (
            arith,
            so.whole,
            so.long,
            length-append so.done so.remaining,
            ap (λ xs. length xs) so.is,
            length-append so.done (thread ∷ others),
            ap (λ xs. length xs) lined,
            fewer,
          );
      rest =
          so.rest ∙ ap (λ ps. so.done ++ taken_from so.remaining ps) next
          ∙ sym (append_assoc so.done (thread ∷ []) (taken_from others places));
    }

-- what a slice is after its part from a place on was changed
pub part-moved : (xs ys : List ℕ) (a chosen : ℕ)
    → ys ≡ get_or (take (length xs - a) (drop a xs)) chosen 0
    ∷ remove (take (length xs - a) (drop a xs)) chosen
    → put_mid a (length xs - a) xs ys
    ≡ take a xs ++ (get_or (drop a xs) chosen 0 ∷ remove (drop a xs) chosen)
part-moved xs ys a chosen e =
    let none : drop (length xs - a) (drop a xs) ≡ [] =
    drop_all (length xs - a) (drop a xs) (omega (arith, length-drop a xs)) in
    let part = take_rest xs a in
    let whole : ys ++ drop (length xs - a) (drop a xs) ≡ ys =
    ap (λ zs. ys ++ zs) none ∙ append-nil ys in
    ap (λ zs. take a xs ++ zs) (whole ∙ e)
    ∙ ap (λ zs. take a xs ++ (get_or zs chosen 0 ∷ remove zs chosen)) part

-- the points so far, and one more
pub points-more : (seed place steps index point : ℕ) (points : List ℕ) → index < length points
    → ((i : ℕ) → i < index → get_or points i 0 ≡ 1 + draw seed (place + 2 * i) steps)
    → point ≡ 1 + draw seed (place + 2 * index) steps → (i : ℕ) → i < index + 1
    → get_or (set points index point) i 0 ≡ 1 + draw seed (place + 2 * i) steps
points-more seed place steps index point points within before now = below_more _ _
    (λ i p. let other : i ≢ index = omega arith in rw get_or-set_other (before i p))
    (rw get_or-set_same now)
